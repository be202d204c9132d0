-- One turn by each of document 01's four rules, and a node of one term run down at once, over plain lists.
use mathlib.Core.Path.{◌≡◌, refl, sym, ap, ◌∙◌, subst}
use mathlib.Core.Logic.{◌≢◌}
use mathlib.Core.Bool.{Bool, true, false, ◌&&◌}
use mathlib.Core.List.{List, [], ◌∷◌}
use Prim.Native.Nat.{ℕ, ◌+◌, ◌-◌, ◌^◌, ◌≤◌, ◌<◌}
use native.Mathlib.Omega.{arith}
use lib.IntN.{ℤ}
use lib.ListN.{length, get_or, set, take}
use lib.Seq.{slice, length-slice}
use Rattle.std.specs.Prelude.{Some}
use Rattle.rules.specs.Bit.{bit}
use Rattle.rules.specs.Fold.{Term}
use Rattle.rules.specs.Budget.{Budget}
use Rattle.rules.specs.Walk.{Step, cn, free, on, owes, Node, leaf, is_none, Visit, visit, held, node}
use Rattle.rules.specs.Walk as Walk
use Rattle.rules.specs.Synth.{emit}
use Rattle.rules.specs.Left.{Leads, Stairs}
use Rattle.rules.specs.Shortcuts.{run, any}
use Rattle.rules.proofs.Bits.{and_right}
use Rattle.rules.proofs.Machine.{cross_stack}
use Rattle.rules.proofs.Visiting.{leads-visit}
use Rattle.rules.proofs.Narrowing.{Seen, seen-le, seen-lt, stairs-narrow, leads-narrow}
use Rattle.rules.proofs.Chain.{cross-run}
use Rattle.parity.specs.declared.Parity.{Parity}
use Rattle.parity.specs.View.{val}
use Rattle.emit.specs.Emitted.{Emits}
use Rattle.walk.specs.declared.Slot.{Slot}
use Rattle.walk.specs.declared.Aim.TheVariants.{Owes}
use Rattle.walk.specs.Stack.{no_slot, aim_to, aim_of, target_of, node_of, stack_of, Aimed, Laid, narrowed, Branched}
use Rattle.terms.specs.Terms.{terms_of}
use Rattle.walk.specs.declared.State.{State}
use Rattle.walk.specs.Place.{Place, stack, place_of, Standing, Stepped, Paid, Descends}
use Rattle.walk.specs.Later.{current}
use Rattle.walk.proofs.Deferring.{now-length}
use Rattle.walk.proofs.Stacks.{stack-cross}
use Rattle.walk.proofs.Aims.{NoneOwed, aim-settled, settled-to, visit-leaf}
use Rattle.walk.proofs.Nodes as Nodes
use Rattle.walk.proofs.Making.{made_none}
use Rattle.walk.proofs.Chaining.{added, chosen-lt, chosen-apart, chosen-leads}

-- a place, by its parts
abbrev pub place : List Slot → List Term → List ℕ → List ℤ → ℕ → ℕ → Budget → Place
place ss ts m out depth end b = record { slots = ss; terms = ts; rows = m; out = out; depth = depth; end = end; budget = b }

module _ (names : List ℕ) (p : Place) (h : Standing names p) (at : ℕ) (k : p.depth ≡ at + 1) (d : Slot) (e : d ≡ get_or p.slots at no_slot) where
  -- what waits below the newest node
  abbrev below : List Node
  below = stack_of p.slots at p.terms d.start

  top-is : stack p ≡ node_of d p.terms p.end ∷ below
  top-is = Nodes.top-is (length names) p.slots p.terms p.depth p.end at k d e h.sound h.stairs

  pub top-aimed : Aimed (length names) d
  top-aimed = Nodes.top-aimed (length names) p.slots p.terms p.depth p.end at k d e h.sound h.stairs

  pub top_start : d.start ≤ p.end
  top_start = Nodes.top_start (length names) p.slots p.terms p.depth p.end at k d e h.sound h.stairs

  rest-sound : Laid (length names) p.slots at d.start
  rest-sound = Nodes.rest-laid (length names) p.slots p.terms p.depth p.end at k d e h.sound h.stairs

  pub top-cands : val d.cands < 2 ^ length names
  top-cands = Nodes.top-cands (length names) p.slots p.terms p.depth p.end at k d e h.sound h.stairs

  pub top-deep : at < length names + 1
  top-deep = Nodes.top-deep (length names) p.slots p.terms p.depth p.end at k d e h.sound h.stairs

  top-stairs : Stairs (length names) (node_of d p.terms p.end ∷ below)
  top-stairs = Nodes.top-stairs (length names) p.slots p.terms p.depth p.end at k d e h.sound h.stairs

  -- one more slot stands in the room of nodes, while a candidate is left that its terms have
  pub top-more : (live : Parity) → Seen (val d.cands) (val live) (slice d.start p.end p.terms) → val live ≢ 0 → at + 1 < length names + 1
  top-more live v q = Nodes.top-more (length names) p.slots p.terms p.depth p.end at k d e h.sound h.stairs (λ z. q (omega (arith, seen-le (val d.cands) (val live) (slice d.start p.end p.terms) v)))

  -- by what the newest node leads to with only the candidates that its terms have
  module _ (live : ℕ) (v : Seen (val d.cands) live (slice d.start p.end p.terms)) where
    fewer : Stairs (length names) (node live (aim_of d) (slice d.start p.end p.terms) ∷ below)
    fewer = stairs-narrow (length names) (val d.cands) live (aim_of d) (slice d.start p.end p.terms) below top-stairs v

    by-narrow : {ss : List Step} {su : List Node} → Leads (length names) (node live (aim_of d) (slice d.start p.end p.terms) ∷ below) ss su → Leads (length names) (stack p) ss su
    by-narrow {ss} {su} l =
        subst (λ (st : List Node). Leads (length names) st ss su) (sym top-is)
        (leads-narrow (length names) (val d.cands) live (aim_of d) (slice d.start p.end p.terms) below top-stairs v l)

    by-narrow-visit : (r : Visit) → visit (length names) (node live (aim_of d) (slice d.start p.end p.terms)) below ≡ r → Leads (length names) (stack p) r.steps r.stack
    by-narrow-visit r e =
        by-narrow
        (subst (λ (t : Visit). Leads (length names) (node live (aim_of d) (slice d.start p.end p.terms) ∷ below) t.steps t.stack) e
        (leads-visit (length names) (node live (aim_of d) (slice d.start p.end p.terms)) below fewer))

  pub some-terms : d.start ≢ p.end → 0 < length (slice d.start p.end p.terms)
  some-terms q = Nodes.some (length names) p.slots p.terms p.depth p.end at k d e h.sound h.stairs h.fits q

  -- rule 1: an empty set is dropped
  pub step-drop : d.start ≡ p.end → Stepped names p (place p.slots p.terms p.rows p.out at p.end p.budget) true
  step-drop q =
      record {
        steps = [];
        next = below;
        leads = Nodes.drop-leads (length names) p.slots p.terms p.depth p.end at k d e h.sound h.stairs q;
        made = made_none names p.out p.budget p.rows h.ready;
        stack = Nodes.drop-stack (length names) p.slots p.terms p.depth p.end at k d e h.sound h.stairs q;
        sound = Nodes.drop-laid (length names) p.slots p.terms p.depth p.end at k d e h.sound h.stairs q;
        fits = h.fits;
      }

  -- rule 3: no candidates, and the rotation on the target is emitted
  pub step-leaf : (live : Parity) → Seen (val d.cands) (val live) (slice d.start p.end p.terms) → d.start ≢ p.end → NoneOwed d.aim → val live ≡ 0 → (out : List ℤ) (b : Budget) (w : Bool)
      → Emits (emit names (leaf (aim_to (target_of d.aim)) (slice d.start p.end p.terms))) p.out p.budget out b w
      → Stepped names p (place p.slots p.terms p.rows out at d.start b) w
  unfolding held
  step-leaf live v q o z out b w em =
      let set : List Term = slice d.start p.end p.terms in
      let a : aim_of d ≡ aim_to (target_of d.aim) = aim-settled d.aim o in
      let r : visit (length names) (node (val live) (aim_of d) set) below ≡ record { steps = leaf (aim_to (target_of d.aim)) set; stack = below } =
      ap (λ (x : Walk.Aim). visit (length names) (node (val live) x set) below) a
      ∙ visit-leaf (length names) below (val live) (aim_to (target_of d.aim)) set (settled-to (target_of d.aim)) (some-terms q) (ap is_none z) in
      record {
        steps = leaf (aim_to (target_of d.aim)) set;
        next = below;
        leads = by-narrow-visit (val live) v _ r;
        made = record { emits = em; rows = λ _. still (aim_to (target_of d.aim)) set p.rows };
        stack = Nodes.stacked-same below;
        sound = rest-sound;
        fits = omega (arith, top_start, h.fits);
      }
    where
      still : (x : Walk.Aim) (set : List Term) (m : List ℕ) → m ≡ held (leaf x set) m
      still free set m = refl
      still (on t) set m = refl
      still (owes p t) set m = refl

  -- rule 2: what is owed is paid, and the node returns owing nothing
  pub step-pay : d.start ≢ p.end → (x t : ℕ) → d.aim ≡ Owes x t → (ss : List Slot) (ts : List Term) (m : List ℕ) (out : List ℤ) (b : Budget) (w : Bool)
      → Paid names x t d at p.terms ts p.slots ss p.rows m p.out p.budget out b w → length ts ≡ length p.terms
      → Stepped names p (place ss ts m out p.depth p.end b) w
  step-pay q x t o ss ts m out b w pd len =
      record {
        steps = cn x t ∷ [];
        next = _;
        leads = Nodes.pay-leads (length names) p.slots p.terms p.depth p.end at k d e h.sound h.stairs h.fits q x t o;
        made = record { emits = pd.emits; rows = λ _. pd.rows ∙ added x t p.rows };
        stack = Nodes.pay-stack (length names) p.slots p.terms p.depth p.end at k d e h.sound h.stairs h.fits q x t o ss ts pd.slots h.wide pd.terms;
        sound = Nodes.pay-laid (length names) p.slots p.terms p.depth p.end at k d e h.sound h.stairs h.fits q x t o ss ts pd.slots h.wide pd.terms;
        fits = omega (arith, h.fits);
      }

  -- its target is none of the candidates that are left
  pub apart-live : (live : Parity) → Seen (val d.cands) (val live) (slice d.start p.end p.terms) → (t : ℕ) → target_of d.aim ≡ Some t → bit (val live) t ≡ false
  apart-live live v t q = v t ∙ ap (λ (b : Bool). b && any t (slice d.start p.end p.terms)) (top-aimed.apart t q)

  -- one term, which has candidates left: it is run down
  pub step_run : (live : Parity) → Seen (val d.cands) (val live) (slice d.start p.end p.terms) → p.end - d.start ≡ 1 → NoneOwed d.aim → val live ≢ 0
      → (ts : List Term) (m : List ℕ) (out : List ℤ) (b : Budget) (w : Bool)
      → Descends names (target_of d.aim) (val live) d.start p.end p.terms ts p.rows m p.out p.budget out b w → length ts ≡ length p.terms
      → Stepped names p (place p.slots ts m out at d.start b) w
  step_run live v q o z ts m out b w ds len =
      let us : List Term = slice d.start p.end p.terms in
      let small : val live < 2 ^ length names = seen-lt (length names) (val d.cands) (val live) us v top-cands in
      let ss : List Step = run (length names) ds.column ds.mask us in
      let a : aim_of d ≡ aim_to (target_of d.aim) = aim-settled d.aim o in
      let has : (i : ℕ) → bit (val live) i ≡ true → any i us ≡ true = λ i e. and_right (bit (val d.cands) i) (any i us) (sym (v i) ∙ e) in
      let one : length us ≡ 1 = length-slice d.start p.end p.terms h.fits ∙ q in
      let ok = chosen-lt (length names) (val live) ds.column ds.mask small z (target_of d.aim) ds.chosen top-aimed.target in
      let apart = chosen-apart (length names) (val live) ds.column ds.mask small z (target_of d.aim) ds.chosen (apart-live live v) in
      let leads : Leads (length names) (node (val live) (aim_of d) us ∷ below) ss (cross_stack ss below) =
      subst (λ (x : Walk.Aim). Leads (length names) (node (val live) x us ∷ below) ss (cross_stack ss below)) (sym a)
      (chosen-leads (length names) (val live) ds.column ds.mask small z (target_of d.aim) ds.chosen us below one has
      (subst (λ (x : Walk.Aim). Stairs (length names) (node (val live) x us ∷ below)) a (fewer (val live) v))) in
      record {
        steps = ss;
        next = cross_stack ss below;
        leads = by-narrow (val live) v leads;
        made = ds.made;
        stack = Nodes.stacked-is (stack-cross (length names) ss p.slots at p.terms ts d.start rest-sound
            (ds.terms.front ∙ sym (cross-run (length names) ds.column ds.mask us ok.1 apart (take d.start p.terms))));
        sound = rest-sound;
        fits = omega (arith, top_start, h.fits);
      }

  -- rule 4: the side with the column stays in the node's place, the side without runs first
  pub step-branch : (live : Parity) → Seen (val d.cands) (val live) (slice d.start p.end p.terms) → d.start ≢ p.end → NoneOwed d.aim → val live ≢ 0
      → (ss : List Slot) (ts : List Term) → Branched (narrowed d live) at p.end p.terms ts p.slots ss → length ts ≡ length p.terms
      → Stepped names p (place ss ts p.rows p.out (p.depth + 1) p.end p.budget) true
  step-branch live v q o z ss ts br len =
      let small : val live < 2 ^ length names = seen-lt (length names) (val d.cands) (val live) (slice d.start p.end p.terms) v top-cands in
      let near : Aimed (length names) (narrowed d live) = record { target = top-aimed.target; owed = top-aimed.owed; apart = apart-live live v; differ = top-aimed.differ } in
      let deep : at + 1 < length p.slots = omega (arith, top-more live v z, h.wide) in
      record {
        steps = [];
        next = _;
        leads = by-narrow-visit (val live) v _ (Nodes.halves-visit (length names) p.slots p.terms p.depth p.end at k (narrowed d live) near top_start rest-sound h.fits small o z deep ss ts br (some-terms q));
        made = made_none names p.out p.budget p.rows h.ready;
        stack = Nodes.halves-stack (length names) p.slots p.terms p.depth p.end at k (narrowed d live) near top_start rest-sound h.fits small o z deep ss ts br;
        sound = Nodes.halves-laid (length names) p.slots p.terms p.depth p.end at k (narrowed d live) near top_start rest-sound h.fits small o z deep ss ts br;
        fits = omega (arith, h.fits);
      }

-- where the newest node stands in the rooms
pub lies : (names : List ℕ) (nodes : List Slot) (room : List ℕ) (m : List Parity) (out : List ℤ) (b : Budget) (s : State) → Standing names (place_of nodes room m out s b) → 0 < s.depth
    → Nodes.Lies (length names) nodes (length (terms_of room)) s.depth s.end
lies names nodes room m out b s h w =
    rw (← now-length s.pending (terms_of room)) (Nodes.lies (length names) nodes (current s.pending (terms_of room)) s.depth s.end h.sound h.stairs h.fits h.wide w)
