-- The newest node and what each of document 01's rules makes of the stack in its rooms, over plain lists; what is emitted isn't looked at here.
use mathlib.Core.Path.{◌≡◌, refl, sym, ap, ap₂, ◌∙◌, subst}
use mathlib.Core.Logic.{◌≢◌}
use mathlib.Core.Bool.{true, false}
use mathlib.Core.List.{List, [], ◌∷◌}
use Prim.Native.Nat.{ℕ, zero, suc, ◌+◌, ◌-◌, ◌^◌, ◌≤◌, ◌<◌}
use native.Mathlib.Omega.{arith}
use lib.ListN.{length, get_or, set, take}
use lib.Seq.{slice, slice_empty, length-slice, get_or-set_same, get_or-set_other, lt-length-set}
use Rattle.rules.specs.Bit.{bit}
use Rattle.rules.specs.Fold.{Term}
use Rattle.rules.specs.Order as Order
use Rattle.rules.specs.Order.{Stacked, none, more}
use Rattle.rules.specs.Walk.{cn, on, Node, side, best, leaf, is_none, cross_terms, cross_nodes, Visit, visit, node}
use Rattle.rules.specs.Walk as Walk
use Rattle.rules.specs.Left.{Leads, Stairs}
use Rattle.rules.proofs.Machine.{cross_stack}
use Rattle.rules.proofs.Visiting.{leads-visit}
use Rattle.rules.proofs.Walking.{cross_all, tally-rest, best-ok}
use Rattle.parity.specs.View.{val}
use Rattle.terms.specs.Terms.{Begins}
use Rattle.walk.specs.declared.Slot.{Slot}
use Rattle.walk.specs.declared.Aim.{Aim}
use Rattle.walk.specs.declared.Aim.TheVariants.{On, Owes}
use Rattle.walk.specs.Stack.{no_slot, aim_to, aim_of, view, target_of, node_of, stack_of, Aimed, Laid, takes, leaves, settled, paid, Branched}
use Rattle.walk.proofs.Stacks.{slice-rest, stack-length, stack_top, stack_at, sound-at, Top, sound-top, stack-slots, sound-slots, stack-terms, stack-cross}
use Rattle.walk.proofs.Aims.{NoneOwed, aim-settled, target-owed, takes-aim, takes-aimed, leaves-aimed, settled-to, visit-none, visit-pay, visit-leaf, visit-split}
use Rattle.walk.proofs.Splitting.{split-fits, split-front, split-zeros, split-ones}

pub stacked-same : (st : List Node) → Stacked st st
stacked-same [] = none
stacked-same (d ∷ st) = more Order.same (stacked-same st)

pub stacked-is : {st su : List Node} → st ≡ su → Stacked st su
stacked-is {st} e = subst (Stacked st) e (stacked-same st)

pub not_none : (cs : ℕ) → cs ≢ 0 → is_none cs ≡ false
not_none zero q = absurd (q refl)
not_none (suc cs) q = refl

node-is : {cs ds : ℕ} {a b : Walk.Aim} {ts us : List Term} → cs ≡ ds → a ≡ b → ts ≡ us → node cs a ts ≡ node ds b us
node-is e f g = rw (e, f, g)

-- a node at the place `at` split by its best column, over what waits below it: the side with the column stays in its place, the side without goes on top
module _ (n : ℕ) (sl : List Slot) (ts : List Term) (depth end at : ℕ) (k : depth ≡ at + 1) (d : Slot) (aimed : Aimed n d) (start : d.start ≤ end) (rest : Laid n sl at d.start)
    (fits : end ≤ length ts) (few : val d.cands < 2 ^ n) (o : NoneOwed d.aim) (z : val d.cands ≢ 0) (deep : at + 1 < length sl)
    (ss : List Slot) (us : List Term) (br : Branched d at end ts us sl ss) where
  abbrev under : List Node
  under = stack_of sl at ts d.start

  abbrev part : List Term
  part = slice d.start end ts

  abbrev c : ℕ
  c = br.column

  ok : ((best n (val d.cands) part).0 < n) × (bit (val d.cands) (best n (val d.cands) part).0 ≡ true)
  ok = best-ok n (val d.cands) part few (not_none (val d.cands) z)

  c-is : c ≡ (best n (val d.cands) part).0
  c-is = br.best.is n few

  c_lt : c < n
  c_lt = subst (λ (j : ℕ). j < n) (sym c-is) ok.0

  c-in : bit (val d.cands) c ≡ true
  c-in = ap (bit (val d.cands)) c-is ∙ ok.1

  abbrev x : Slot
  x = takes d br.rest c

  abbrev y : Slot
  y = leaves d br.rest br.ones

  abbrev mid : List Slot
  mid = set sl at x

  abbrev beside : List Node
  beside = node (val br.rest) (Walk.aim_with (aim_to (target_of d.aim)) c) (side true c part) ∷ under

  abbrev pub halved : List Node
  halved = node (val br.rest) (aim_to (target_of d.aim)) (side false c part) ∷ beside

  pub halves-visit : 0 < length part → visit n (node_of d ts end) under ≡ record { steps = []; stack = halved }
  halves-visit some =
      ap (λ (v : Walk.Aim). visit n (node (val d.cands) v part) under) (aim-settled d.aim o)
      ∙ visit-split n under (val d.cands) (aim_to (target_of d.aim)) part c (val br.rest) (settled-to (target_of d.aim)) some (not_none (val d.cands) z) c-is br.less

  got-y : y ≡ get_or ss (at + 1) no_slot
  got-y = sym (ap (λ (l : List Slot). get_or l (at + 1) no_slot) br.slots ∙ get_or-set_same mid (at + 1) y no_slot (lt-length-set sl at x deep))

  got-x : x ≡ get_or ss at no_slot
  got-x =
      sym (ap (λ (l : List Slot). get_or l at no_slot) br.slots ∙ get_or-set_other mid (at + 1) at y no_slot (λ v. omega arith)
      ∙ get_or-set_same sl at x no_slot (omega (arith, deep)))

  s-below : stack_of ss at us d.start ≡ under
  s-below =
      ap (λ (l : List Slot). stack_of l at us d.start) br.slots
      ∙ stack-slots mid (at + 1) y at us d.start (omega arith) ∙ stack-slots sl at x at us d.start (omega arith)
      ∙ stack-terms n sl at us ts d.start rest (split-front c d.start end ts us br.ones start fits br.split)

  s-x : stack_of ss (at + 1) us (d.start + br.ones) ≡ beside
  s-x =
      stack_at ss (at + 1) us (d.start + br.ones) at refl x got-x
      ∙ ap₂ (λ (u : Node) (v : List Node). u ∷ v)
      (node-is refl (takes-aim d br.rest c) (split-ones c d.start end ts us br.ones start fits br.split))
      s-below

  s_y : stack_of ss (depth + 1) us end ≡ node (val br.rest) (aim_to (target_of d.aim)) (slice (d.start + br.ones) end us) ∷ beside
  s_y =
      stack_at ss (depth + 1) us end (at + 1) (omega arith) y got-y
      ∙ ap₂ (λ (u : Node) (v : List Node). u ∷ v) (ap (λ (v : Walk.Aim). node (val br.rest) v (slice (d.start + br.ones) end us)) (aim-settled d.aim o)) s-x

  pub halves-stack : Stacked (stack_of ss (depth + 1) us end) halved
  halves-stack =
      subst (λ (st : List Node). Stacked st halved) (sym s_y)
      (more (split-zeros c d.start end ts us br.ones start fits br.split) (stacked-same beside))

  pub halves-laid : Laid n ss (depth + 1) end
  halves-laid =
      let low : Laid n ss at d.start =
      subst (λ (l : List Slot). Laid n l at d.start) (sym br.slots)
      (sound-slots n mid (at + 1) y at d.start (omega arith) (sound-slots n sl at x at d.start (omega arith) rest)) in
      let high : Laid n ss (at + 1) (d.start + br.ones) =
      sound-at n ss (at + 1) (d.start + br.ones) at refl x got-x (omega arith) (takes-aimed d br.rest c br.less c-in n aimed c_lt) low in
      sound-at n ss (depth + 1) end (at + 1) (omega arith) y got-y (split-fits c d.start end ts us br.ones start fits br.split)
      (leaves-aimed d br.rest c br.less c-in n aimed br.ones) high

-- over n columns: a stack of `depth` nodes, whose newest set ends at `end`; the newest node's slot d, at the place `at`
module _ (n : ℕ) (sl : List Slot) (ts : List Term) (depth end at : ℕ) (k : depth ≡ at + 1) (d : Slot) (e : d ≡ get_or sl at no_slot)
    (laid : Laid n sl depth end) (stairs : Stairs n (stack_of sl depth ts end)) where
  less : (j at : ℕ) → j ≡ at + 1 → j - 1 ≡ at
  less j at q = omega arith

  here : d ≡ get_or sl (depth - 1) no_slot
  here = e ∙ ap (λ (j : ℕ). get_or sl j no_slot) (sym (less depth at k))

  -- what waits below it
  abbrev pub below : List Node
  below = stack_of sl at ts d.start

  -- its set
  abbrev pub top_set : List Term
  top_set = slice d.start end ts

  pub top-is : stack_of sl depth ts end ≡ node_of d ts end ∷ below
  top-is =
      stack_top sl depth ts end d (omega arith) here
      ∙ ap (λ (j : ℕ). node_of d ts end ∷ stack_of sl j ts d.start) (less depth at k)

  top : Top n sl depth end d
  top = sound-top n sl depth end d (omega arith) here laid

  pub top-aimed : Aimed n d
  top-aimed = top.aimed

  pub top_start : d.start ≤ end
  top_start = top.start

  pub rest-laid : Laid n sl at d.start
  rest-laid = subst (λ (j : ℕ). Laid n sl j d.start) (less depth at k) top.rest

  pub top-stairs : Stairs n (node_of d ts end ∷ below)
  top-stairs = subst (Stairs n) top-is stairs

  -- its candidates are among the columns
  pub top-cands : val d.cands < 2 ^ n
  unfolding Stairs
  top-cands = top-stairs.0.0

  -- its slot stands in a room for a node more than columns
  pub top-deep : at < n + 1
  unfolding Stairs
  top-deep = omega (arith, top-stairs.0.1, stack-length sl at ts d.start)

  -- and so does one more, while a candidate is left
  pub top-more : val d.cands ≢ 0 → at + 1 < n + 1
  unfolding Stairs
  top-more q =
      let b = best-ok n (val d.cands) [] top-cands (not_none (val d.cands) q) in
      omega (arith, top-stairs.0.1, stack-length sl at ts d.start, tally-rest n (val d.cands) _ b.0 b.1)

  -- by the visit of the newest node
  by-visit : (r : Visit) → visit n (node_of d ts end) below ≡ r → Leads n (stack_of sl depth ts end) r.steps r.stack
  by-visit r q =
      subst (λ (st : List Node). Leads n st r.steps r.stack) (sym top-is)
      (subst (λ (t : Visit). Leads n (node_of d ts end ∷ below) t.steps t.stack) q (leads-visit n (node_of d ts end) below top-stairs))

  -- rule 1: an empty set is dropped
  module _ (q : d.start ≡ end) where
    pub drop-leads : Leads n (stack_of sl depth ts end) [] below
    drop-leads =
        let a : top_set ≡ [] = ap (λ (j : ℕ). slice j end ts) q ∙ slice_empty end ts in
        by-visit _ (ap (λ (set : List Term). visit n (node (val d.cands) (aim_of d) set) below) a ∙ visit-none n below (val d.cands) (aim_of d))

    pub drop-stack : Stacked (stack_of sl at ts end) below
    drop-stack = stacked-is (ap (stack_of sl at ts) (sym q))

    pub drop-laid : Laid n sl at end
    drop-laid = subst (Laid n sl at) q rest-laid

  module _ (fits : end ≤ length ts) (q : d.start ≢ end) where
    pub some : 0 < length top_set
    some = omega (arith, length-slice d.start end ts fits, top.start, q)

    -- rule 3: no candidates, and the rotation on the target is due
    pub leaf-leads : NoneOwed d.aim → val d.cands ≡ 0 → Leads n (stack_of sl depth ts end) (leaf (aim_to (target_of d.aim)) top_set) below
    leaf-leads o z =
        by-visit _
        (ap (λ (x : Walk.Aim). visit n (node (val d.cands) x top_set) below) (aim-settled d.aim o)
        ∙ visit-leaf n below (val d.cands) (aim_to (target_of d.aim)) top_set (settled-to (target_of d.aim)) some (ap is_none z))

    -- rule 2: what is owed is paid, and the node returns owing nothing
    module _ (p t : ℕ) (o : d.aim ≡ Owes p t) where
      abbrev pub returned : List Node
      returned = node (val d.cands) (on t) top_set ∷ cross_nodes p t below

      pub pay-leads : Leads n (stack_of sl depth ts end) (cn p t ∷ []) returned
      pay-leads =
          by-visit _
          (ap (λ (x : Walk.Aim). visit n (node (val d.cands) x top_set) below) (ap view o)
          ∙ visit-pay n below (val d.cands) p t top_set some)

      -- the node as it returns
      abbrev after : Slot
      after = record { cands = d.cands; aim = On t; start = d.start }

      paid-is : paid d ≡ after
      paid-is = ap (λ (x : Aim). record { cands = d.cands; aim = settled x; start = d.start }) o

      module _ (ss : List Slot) (us : List Term) (g : ss ≡ set sl at (paid d)) (wide : n + 1 ≤ length sl)
          (b : Begins (cross_terms p t (take d.start ts)) d.start d.start ts us) where
        f : ss ≡ set sl at after
        f = g ∙ ap (set sl at) paid-is

        got : after ≡ get_or ss at no_slot
        got = sym (ap (λ (x : List Slot). get_or x at no_slot) f ∙ get_or-set_same sl at after no_slot (omega (arith, top-deep)))

        pub pay-stack : Stacked (stack_of ss depth us end) returned
        unfolding cross_all cross_stack
        pay-stack =
            let s-below : stack_of ss at us d.start ≡ cross_nodes p t below =
            ap (λ (x : List Slot). stack_of x at us d.start) f ∙ stack-slots sl at after at us d.start (omega arith)
            ∙ stack-cross n (cn p t ∷ []) sl at ts us d.start rest-laid b.front in
            stacked-is
            (stack_at ss depth us end at k after got
            ∙ ap₂ (λ (x : Node) (y : List Node). x ∷ y) (ap (node (val d.cands) (on t)) (slice-rest d.start end ts us b.rest)) s-below)

        pub pay-laid : Laid n ss depth end
        pay-laid =
            sound-at n ss depth end at k after got top.start
            (record {
              target = λ u e. top.aimed.target u (target-owed d.aim p t o ∙ e);
              owed = λ x y e. cc;
              apart = λ u e. top.aimed.apart u (target-owed d.aim p t o ∙ e);
              differ = λ x y e. cc;
            })
            (subst (λ (x : List Slot). Laid n x at d.start) (sym f) (sound-slots n sl at after at d.start (omega arith) rest-laid))

    -- rule 4: the side with the column stays in the node's place, the side without runs first
    module _ (o : NoneOwed d.aim) (z : val d.cands ≢ 0) (wide : n + 1 ≤ length sl) (ss : List Slot) (us : List Term) (br : Branched d at end ts us sl ss) where
      pub deep : at + 1 < length sl
      deep = omega (arith, top-more z)

      pub branch_leads : Leads n (stack_of sl depth ts end) [] (halved n sl ts depth end at k d top-aimed top_start rest-laid fits top-cands o z deep ss us br)
      branch_leads = by-visit _ (halves-visit n sl ts depth end at k d top-aimed top_start rest-laid fits top-cands o z deep ss us br some)

      pub branch-stack : Stacked (stack_of ss (depth + 1) us end) (halved n sl ts depth end at k d top-aimed top_start rest-laid fits top-cands o z deep ss us br)
      branch-stack = halves-stack n sl ts depth end at k d top-aimed top_start rest-laid fits top-cands o z deep ss us br

      pub branch-laid : Laid n ss (depth + 1) end
      branch-laid = halves-laid n sl ts depth end at k d top-aimed top_start rest-laid fits top-cands o z deep ss us br

-- ---- the newest node in its rooms

abbrev pub newest : List Slot → ℕ → Slot
newest nodes depth = get_or nodes (depth - 1) no_slot

-- where it and its set stand, over n columns and as many terms
pub record Lies (n : ℕ) (nodes : List Slot) (many depth end : ℕ) : Type 0 where
  pub under : depth ≡ (depth - 1) + 1
  pub inside : depth - 1 < length nodes
  pub few : depth ≤ n + 1
  pub starts : (newest nodes depth).start ≤ end
  pub ends : end ≤ many
  pub aimed : Aimed n (newest nodes depth)

pub lies : (n : ℕ) (nodes : List Slot) (ts : List Term) (depth end : ℕ) → Laid n nodes depth end → Stairs n (stack_of nodes depth ts end) → end ≤ length ts → n + 1 ≤ length nodes → 0 < depth
    → Lies n nodes (length ts) depth end
lies n nodes ts depth end laid stairs fits wide w =
    let under : depth ≡ (depth - 1) + 1 = omega arith in
    let deep = top-deep n nodes ts depth end (depth - 1) under (newest nodes depth) refl laid stairs in
    record {
      under = under;
      inside = omega (arith, deep);
      few = omega (arith, deep);
      starts = top_start n nodes ts depth end (depth - 1) under (newest nodes depth) refl laid stairs;
      ends = fits;
      aimed = top-aimed n nodes ts depth end (depth - 1) under (newest nodes depth) refl laid stairs;
    }
