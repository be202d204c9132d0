-- One visit by each of document 01's four rules: what it makes, and that there is room for it.
use mathlib.Core.Path.{◌≡◌, refl, ap, ◌∙◌, subst}
use mathlib.Core.Logic.{◌≢◌}
use mathlib.Core.List.{List, [], ◌∷◌}
use Prim.Native.Nat.{ℕ, ◌+◌, ◌≤◌, ◌<◌}
use native.Mathlib.Omega.{arith}
use lib.IntN.{ℤ}
use lib.ListN.{length, get_or}
use lib.Seq.{slice}
use Rattle.rules.specs.Fold.{Term}
use Rattle.rules.specs.Gate.{Gate}
use Rattle.rules.specs.Walk.{Step, cn, free, on, owes, Node, leaf, held, node, cross_nodes}
use Rattle.rules.specs.Walk as Walk
use Rattle.rules.specs.Synth.{emit}
use Rattle.rules.specs.Left.{left, Leads}
use Rattle.rules.proofs.Steps.{emit-append, emit-one}
use Rattle.parity.specs.View.{val}
use Rattle.writing.specs.Written.{Wrote, Fits}
use Rattle.writing.proofs.Following.{wrote_none, fits-first}
use Rattle.walk.specs.declared.Slot.{Slot}
use Rattle.walk.specs.declared.Aim.TheVariants.{Owes}
use Rattle.walk.specs.Stack.{no_slot, aim_to, target_of, stack_of, Aimed, Branched}
use Rattle.walk.proofs.Aims.{NoneOwed}
use Rattle.walk.proofs.Chaining.{added}
use Rattle.walk.proofs.Nodes as Nodes
use Rattle.plain_walk.specs.Place.{Place, stack, Roomy, Standing, Walks, Stepped, Paid}

-- a place, by its parts
abbrev pub place : List Slot → List Term → List ℕ → List ℤ → ℕ → ℕ → ℕ → Place
place ss ts m whole depth end made = record { slots = ss; terms = ts; rows = m; whole = whole; depth = depth; end = end; made = made }

-- what is left has room, so the steps that come first have
pub first-roomy : (names : List ℕ) (n : ℕ) (st su : List Node) (ss : List Step) (whole : List ℤ) (k : ℕ) → Leads n st ss su → Roomy names (left n st) whole k → Roomy names ss whole k
first-roomy names n st su ss whole k l r =
    fits-first (emit names ss) (emit names (left n su)) whole k
    (subst (λ (gs : List Gate). Fits whole k (length gs)) (ap (emit names) l.whole ∙ emit-append names ss (left n su)) r)

walks-none : (names : List ℕ) (whole : List ℤ) (k : ℕ) (m : List ℕ) → Walks names [] whole k m whole k m
unfolding emit held
walks-none names whole k m = record { wrote = wrote_none whole k; rows = refl }

module _ (names : List ℕ) (p : Place) (h : Standing names p) (at : ℕ) (k : p.depth ≡ at + 1) (d : Slot) (e : d ≡ get_or p.slots at no_slot) where
  abbrev set : List Term
  set = slice d.start p.end p.terms

  abbrev below : List Node
  below = stack_of p.slots at p.terms d.start

  pub top-aimed : Aimed (length names) d
  top-aimed = Nodes.top-aimed (length names) p.slots p.terms p.depth p.end at k d e h.sound h.stairs

  pub top_start : d.start ≤ p.end
  top_start = Nodes.top_start (length names) p.slots p.terms p.depth p.end at k d e h.sound h.stairs

  pub top-deep : at < length names + 1
  top-deep = Nodes.top-deep (length names) p.slots p.terms p.depth p.end at k d e h.sound h.stairs

  pub top-more : val d.cands ≢ 0 → at + 1 < length names + 1
  top-more = Nodes.top-more (length names) p.slots p.terms p.depth p.end at k d e h.sound h.stairs

  -- rule 1: an empty set is dropped
  pub step-drop : d.start ≡ p.end → Stepped names p (place p.slots p.terms p.rows p.whole at p.end p.made)
  step-drop q =
      record {
        steps = [];
        next = _;
        leads = Nodes.drop-leads (length names) p.slots p.terms p.depth p.end at k d e h.sound h.stairs q;
        walks = walks-none names p.whole p.made p.rows;
        stack = Nodes.drop-stack (length names) p.slots p.terms p.depth p.end at k d e h.sound h.stairs q;
        sound = Nodes.drop-laid (length names) p.slots p.terms p.depth p.end at k d e h.sound h.stairs q;
        fits = h.fits;
      }

  module _ (q : d.start ≢ p.end) where
    -- rule 2: what is owed is paid
    module _ (x t : ℕ) (o : d.aim ≡ Owes x t) where
      leads-pay : Leads (length names) (stack p) (cn x t ∷ []) (node (val d.cands) (on t) set ∷ cross_nodes x t below)
      leads-pay = Nodes.pay-leads (length names) p.slots p.terms p.depth p.end at k d e h.sound h.stairs h.fits q x t o

      pub pay-roomy : Fits p.whole p.made 1
      pay-roomy =
          subst (λ (gs : List Gate). Fits p.whole p.made (length gs)) (emit-one names x t)
          (first-roomy names (length names) (stack p) _ (cn x t ∷ []) p.whole p.made leads-pay h.room)

      pub step-pay : (ss : List Slot) (ts : List Term) (m : List ℕ) (whole : List ℤ) (r : ℕ)
          → Paid names x t d at p.terms ts p.slots ss p.rows m p.whole p.made whole r → length ts ≡ length p.terms
          → Stepped names p (place ss ts m whole p.depth p.end r)
      step-pay ss ts m whole r pd len =
          record {
            steps = cn x t ∷ [];
            next = _;
            leads = leads-pay;
            walks = record { wrote = pd.wrote; rows = pd.rows ∙ added x t p.rows };
            stack = Nodes.pay-stack (length names) p.slots p.terms p.depth p.end at k d e h.sound h.stairs h.fits q x t o ss ts pd.slots h.wide pd.terms;
            sound = Nodes.pay-laid (length names) p.slots p.terms p.depth p.end at k d e h.sound h.stairs h.fits q x t o ss ts pd.slots h.wide pd.terms;
            fits = omega (arith, h.fits);
          }

    module _ (o : NoneOwed d.aim) where
      -- rule 3: no candidates, and the rotation on the target is written
      module _ (z : val d.cands ≡ 0) where
        leads-leaf : Leads (length names) (stack p) (leaf (aim_to (target_of d.aim)) set) below
        leads-leaf = Nodes.leaf-leads (length names) p.slots p.terms p.depth p.end at k d e h.sound h.stairs h.fits q o z

        pub leaf-roomy : Roomy names (leaf (aim_to (target_of d.aim)) set) p.whole p.made
        leaf-roomy = first-roomy names (length names) (stack p) _ (leaf (aim_to (target_of d.aim)) set) p.whole p.made leads-leaf h.room

        pub step-leaf : (whole : List ℤ) (r : ℕ) → Wrote (emit names (leaf (aim_to (target_of d.aim)) set)) p.whole p.made whole r
            → Stepped names p (place p.slots p.terms p.rows whole at d.start r)
        unfolding held
        step-leaf whole r w =
            record {
              steps = leaf (aim_to (target_of d.aim)) set;
              next = _;
              leads = leads-leaf;
              walks = record { wrote = w; rows = still (aim_to (target_of d.aim)) set p.rows };
              stack = Nodes.stacked-same _;
              sound = Nodes.rest-laid (length names) p.slots p.terms p.depth p.end at k d e h.sound h.stairs;
              fits = omega (arith, top_start, h.fits);
            }
          where
            still : (x : Walk.Aim) (us : List Term) (m : List ℕ) → m ≡ held (leaf x us) m
            still free us m = refl
            still (on t) us m = refl
            still (owes c t) us m = refl

      -- rule 4: a split by the best column
      pub step-branch : val d.cands ≢ 0 → (ss : List Slot) (ts : List Term) → Branched d at p.end p.terms ts p.slots ss → length ts ≡ length p.terms
          → Stepped names p (place ss ts p.rows p.whole (p.depth + 1) p.end p.made)
      step-branch z ss ts br len =
          record {
            steps = [];
            next = _;
            leads = Nodes.branch_leads (length names) p.slots p.terms p.depth p.end at k d e h.sound h.stairs h.fits q o z h.wide ss ts br;
            walks = walks-none names p.whole p.made p.rows;
            stack = Nodes.branch-stack (length names) p.slots p.terms p.depth p.end at k d e h.sound h.stairs h.fits q o z h.wide ss ts br;
            sound = Nodes.branch-laid (length names) p.slots p.terms p.depth p.end at k d e h.sound h.stairs h.fits q o z h.wide ss ts br;
            fits = omega (arith, h.fits);
          }

-- where the newest node stands in the rooms
pub lies : (names : List ℕ) (p : Place) → Standing names p → 0 < p.depth → Nodes.Lies (length names) p.slots (length p.terms) p.depth p.end
lies names p h w = Nodes.lies (length names) p.slots p.terms p.depth p.end h.sound h.stairs h.fits h.wide w
