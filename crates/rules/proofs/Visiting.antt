-- The walk one turn at a time, as a loop makes it: each turn lightens the stack, and fuel beyond its weight changes nothing.
use mathlib.Core.Path.{◌≡◌, refl, sym, ap, ◌∙◌, subst}
use mathlib.Core.Bool.{true, false}
use mathlib.Core.List.{List, [], ◌∷◌, ◌++◌}
use Prim.Native.Nat.{ℕ, zero, suc, ◌+◌, ◌-◌, ◌*◌, ◌^◌, ◌≤◌, ◌<◌}
use native.Mathlib.Nat.{mul-le-mul_right}
use native.Mathlib.Omega.{arith}
use lib.ListN.{length}
use Rattle.rules.specs.Bit.{bit, xor}
use Rattle.rules.specs.Fold.{Term}
use Rattle.rules.specs.Walk.{Visit, Rule, empty, owed, last, halves, Walks, done, next, Step, Aim, free, on, owes, Node, best, side, aim_with, is_none, cross_nodes, visit, open_node, walk, nonzero, enough, phase_walk, node}
use Rattle.rules.specs.Left.{pay, tally, Stairs, weight, left, Leads}
use Rattle.rules.specs.Order.{Stacked, none, more}
use Rattle.rules.proofs.Bits.{split}
use Rattle.rules.proofs.Walking.{tally-le, tally-rest, best-ok}
use Rattle.rules.proofs.Machine.{length-sides, length-cross}
use Rattle.rules.proofs.Shuffling.{shuffled-length, stacked-walk}
use Rattle.rules.proofs.Depth.{stairs-visit, stairs-first}

pub weight-cross : (n p t : ℕ) (st : List Node) → weight n (cross_nodes p t st) ≡ weight n st
unfolding weight cross_nodes
weight-cross n p t [] = refl
weight-cross n p t (d ∷ st) = rw (length-cross p t d.set, weight-cross n p t st)

open-lighter : (n cs : ℕ) (a : Aim) (e : Term) (es : List Term) (st : List Node) → length (pay a) ≡ 0 → ((c : ℕ) → length (pay (aim_with a c)) ≤ 1)
    → Stairs n (node cs a (e ∷ es) ∷ st) → weight n (open_node n cs a (e ∷ es) st).stack < weight n (node cs a (e ∷ es) ∷ st)
unfolding weight open_node Stairs
open-lighter n cs a e es st quiet one h =
    split (is_none cs)
    (λ q. rw q (omega arith))
    (λ q.
    let ts : List Term = e ∷ es in
    let b = best-ok n cs ts h.0.0 q in
    let c : ℕ = (best n cs ts).0 in
    let less = tally-rest n cs c b.0 b.1 in
    let sides = length-sides c ts in
    rw q (lighter (tally n (bit (xor cs (2 ^ c)))) (tally n (bit cs)) (length (side false c ts)) (length (side true c ts)) (length es)
    (length (pay a)) (length (pay (aim_with a c))) (weight n st) less sides quiet (one c)))
  where
    lighter : (k t lz lo l p o w : ℕ) → suc k ≡ t → lz + lo ≡ suc l → p ≡ 0 → o ≤ 1
        → 3 * k * lz + 1 + p + (3 * k * lo + 1 + o + w) < 3 * t * suc l + 1 + p + w
    lighter k t lz lo l p o w e f g h =
        let m : 3 * k * (lz + lo) ≡ 3 * k * suc l = ap (λ (x : ℕ). 3 * k * x) f in
        let r : 3 * t * suc l ≡ 3 * suc k * suc l = ap (λ (x : ℕ). 3 * x * suc l) (sym e) in
        omega arith

-- a turn lightens the stack
pub visit-lighter : (n cs : ℕ) (a : Aim) (ts : List Term) (st : List Node) → Stairs n (node cs a ts ∷ st)
    → weight n (visit n (node cs a ts) st).stack < weight n (node cs a ts ∷ st)
unfolding visit weight
visit-lighter n cs a [] st h = omega arith
visit-lighter n cs free (e ∷ es) st h = open-lighter n cs free e es st refl (λ c. omega arith) h
visit-lighter n cs (on t) (e ∷ es) st h = open-lighter n cs (on t) e es st refl (λ c. omega arith) h
visit-lighter n cs (owes p t) (e ∷ es) st h = rw (weight-cross n p t st) (omega arith)

-- fuel beyond the weight changes nothing
pub walk-idle : (n f g : ℕ) (st : List Node) → Stairs n st → weight n st ≤ f → weight n st ≤ g → walk n f st ≡ walk n g st
unfolding walk weight Stairs
walk-idle n zero zero st s h k = refl
walk-idle n zero (suc g) [] s h k = refl
walk-idle n zero (suc g) (d ∷ st) s h k = absurd (none h)
  where
    none : weight n (d ∷ st) ≤ 0 → ⊥
    none h = omega arith
walk-idle n (suc f) zero [] s h k = refl
walk-idle n (suc f) zero (d ∷ st) s h k = absurd (none k)
  where
    none : weight n (d ∷ st) ≤ 0 → ⊥
    none h = omega arith
walk-idle n (suc f) (suc g) [] s h k = refl
walk-idle n (suc f) (suc g) (d ∷ st) s h k =
    let l = visit-lighter n d.cands d.aim d.set st s in
    ap (λ (ss : List Step). (visit n d st).steps ++ ss)
    (walk-idle n f g (visit n d st).stack (stairs-visit n d.cands d.aim d.set st s) (omega arith) (omega arith))

pub left-none : (n : ℕ) → left n [] ≡ []
unfolding left weight walk
left-none n = refl

-- one turn: its steps, and then what is left
pub left-visit : (n : ℕ) (d : Node) (st : List Node) → Stairs n (d ∷ st) → left n (d ∷ st) ≡ (visit n d st).steps ++ left n (visit n d st).stack
unfolding left
left-visit n d st s =
    let m : ℕ = weight n (d ∷ st) in
    let l = visit-lighter n d.cands d.aim d.set st s in
    walk-idle n m (suc m) (d ∷ st) s (omega arith) (omega arith)
    ∙ ap (λ (ss : List Step). (visit n d st).steps ++ ss)
    (walk-idle n m (weight n (visit n d st).stack) (visit n d st).stack (stairs-visit n d.cands d.aim d.set st s) (omega arith) (omega arith))

pub leads-visit : (n : ℕ) (d : Node) (st : List Node) → Stairs n (d ∷ st) → Leads n (d ∷ st) (visit n d st).steps (visit n d st).stack
leads-visit n d st s =
    record { whole = left-visit n d st s; stairs = stairs-visit n d.cands d.aim d.set st s; lighter = visit-lighter n d.cands d.aim d.set st s }

-- the walk of document 01 is what its first node has left
pub left-first : (n : ℕ) (ts : List Term) → phase_walk n ts ≡ left n (node (2 ^ n - 1) free (nonzero ts) ∷ [])
unfolding left phase_walk
left-first n ts = walk-idle n (enough n (length (nonzero ts))) (weight n st) st (stairs-first n (nonzero ts)) (fits (tally-le n (bit (2 ^ n - 1)))) (omega arith)
  where
    st : List Node
    st = node (2 ^ n - 1) free (nonzero ts) ∷ []

    fits : tally n (bit (2 ^ n - 1)) ≤ n → weight n st ≤ enough n (length (nonzero ts))
    fits h =
        let three : 3 * tally n (bit (2 ^ n - 1)) ≤ 3 * n = omega arith in
        omega (arith, mul-le-mul_right (length (nonzero ts)) three)

-- ---- the order within each set doesn't show

pub weight-stacked : (n : ℕ) {st su : List Node} → Stacked st su → weight n st ≡ weight n su
unfolding weight
weight-stacked n none = refl
weight-stacked n (more h k) = rw (shuffled-length h, weight-stacked n k)

pub left-stacked : (n : ℕ) {st su : List Node} → Stacked st su → left n st ≡ left n su
unfolding left
left-stacked n {st} {su} h = stacked-walk n (weight n st) h ∙ ap (λ (f : ℕ). walk n f su) (weight-stacked n h)

-- ---- the rules: there is one visit by them, and one walk

pub ruled : (n cs : ℕ) (a : Aim) (ts : List Term) (st : List Node) → Rule n (node cs a ts) st (visit n (node cs a ts) st)
unfolding visit
ruled n cs a [] st = empty
ruled n cs (owes p t) (e ∷ es) st = owed
ruled n cs free (e ∷ es) st = split (is_none cs) (λ q. rw q (last tt q)) (λ q. rw q (halves tt q))
ruled n cs (on t) (e ∷ es) st = split (is_none cs) (λ q. rw q (last tt q)) (λ q. rw q (halves tt q))

pub ruled-only : (n : ℕ) {d : Node} {st : List Node} {v : Visit} → Rule n d st v → v ≡ visit n d st
unfolding visit
ruled-only n empty = refl
ruled-only n owed = refl
ruled-only n (last {a = free} s q) = rw q
ruled-only n (last {a = on t} s q) = rw q
ruled-only n (last {a = owes p t} s q) = absurd s
ruled-only n (halves {a = free} s q) = rw q
ruled-only n (halves {a = on t} s q) = rw q
ruled-only n (halves {a = owes p t} s q) = absurd s

-- whatever a stack makes by the rules is what it has left
walks-left : (n : ℕ) {st : List Node} {ss : List Step} → Stairs n st → Walks n st ss → ss ≡ left n st
unfolding Stairs
walks-left n s done = sym (left-none n)
walks-left n s (next {d = d} {st = st} {v = v} {ss = ss} r w) =
    let same : v ≡ visit n d st = ruled-only n r in
    let up : Stairs n v.stack = subst (λ (u : Visit). Stairs n u.stack) (sym same) (stairs-visit n d.cands d.aim d.set st s) in
    ap (λ (us : List Step). v.steps ++ us) (walks-left n up w)
    ∙ ap (λ (u : Visit). u.steps ++ left n u.stack) same
    ∙ sym (left-visit n d st s)

-- and it makes that: what is lighter does, so a stack does
left-next : (n f : ℕ) → ((su : List Node) → Stairs n su → weight n su ≤ f → Walks n su (left n su))
    → (st : List Node) → Stairs n st → weight n st ≤ suc f → Walks n st (left n st)
left-next n f make [] s h = subst (λ (ss : List Step). Walks n [] ss) (sym (left-none n)) done
left-next n f make (d ∷ st) s h =
    let v : Visit = visit n d st in
    let l = visit-lighter n d.cands d.aim d.set st s in
    let rest : Walks n v.stack (left n v.stack) = make v.stack (stairs-visit n d.cands d.aim d.set st s) (omega arith) in
    subst (λ (ss : List Step). Walks n (d ∷ st) ss) (sym (left-visit n d st s)) (next (ruled n d.cands d.aim d.set st) rest)

left-light : (n : ℕ) (st : List Node) → weight n st ≤ 0 → Walks n st (left n st)
unfolding weight
left-light n [] h = subst (λ (ss : List Step). Walks n [] ss) (sym (left-none n)) done
left-light n (d ∷ st) h = absurd (none h)
  where
    none : weight n (d ∷ st) ≤ 0 → ⊥
    none h = omega arith

left-walks : (n f : ℕ) (st : List Node) → Stairs n st → weight n st ≤ f → Walks n st (left n st)
left-walks n zero st s h = left-light n st h
left-walks n (suc f) st s h = left-next n f (λ su. left-walks n f su) st s h

abbrev pub first_node : ℕ → List Term → List Node
first_node n ts = node (2 ^ n - 1) free (nonzero ts) ∷ []

-- document 01's walk: the terms other than 0 on all the block's columns, by the rules, make exactly these steps
pub walked : (n : ℕ) (ts : List Term) → Walks n (first_node n ts) (phase_walk n ts)
walked n ts =
    subst (λ (ss : List Step). Walks n (first_node n ts) ss) (sym (left-first n ts))
    (left-walks n (weight n (first_node n ts)) (first_node n ts) (stairs-first n (nonzero ts)) (omega arith))

pub walked-only : (n : ℕ) (ts : List Term) (ss : List Step) → Walks n (first_node n ts) ss → ss ≡ phase_walk n ts
walked-only n ts ss w = walks-left n (stairs-first n (nonzero ts)) w ∙ sym (left-first n ts)
