-- The stack of the walk never holds more than n + 1 nodes.
use mathlib.Core.Path.{◌≡◌, refl, ap}
use mathlib.Core.List.{List, [], ◌∷◌}
use Prim.Native.Nat.{ℕ, suc, ◌+◌, ◌-◌, ◌^◌, ◌≤◌}
use native.Mathlib.Omega.{arith}
use lib.ListN.{length}
use lib.Pow.{pow-lt, ones_lt}
use Rattle.rules.specs.Bit.{bit}
use Rattle.rules.specs.Fold.{Term}
use Rattle.rules.specs.Walk.{Aim, free, on, owes, Node, best, is_none, cross_nodes, visit, open_node, node}
use Rattle.rules.specs.Left.{Stairs}
use Rattle.rules.proofs.Bits.{xor_lt, split}
use Rattle.rules.proofs.Walking.{tally-le, tally-rest, best-ok}

pub stairs-depth : (n : ℕ) (st : List Node) → Stairs n st → length st ≤ n + 1
unfolding Stairs
stairs-depth n [] h = omega arith
stairs-depth n (d ∷ st) h = omega (arith, h.0.1)

length-cross_nodes : (p t : ℕ) (st : List Node) → length (cross_nodes p t st) ≡ length st
unfolding cross_nodes
length-cross_nodes p t [] = refl
length-cross_nodes p t (d ∷ st) = ap suc (length-cross_nodes p t st)

pub stairs-cross : (n p t : ℕ) (st : List Node) → Stairs n st → Stairs n (cross_nodes p t st)
unfolding Stairs cross_nodes
stairs-cross n p t [] h = tt
stairs-cross n p t (d ∷ st) h = ((h.0.0, omega (arith, length-cross_nodes p t st, h.0.1)), stairs-cross n p t st h.1)

stairs-open : (n cs : ℕ) (a : Aim) (ts : List Term) (st : List Node) → Stairs n (node cs a ts ∷ st) → Stairs n (open_node n cs a ts st).stack
unfolding Stairs open_node
stairs-open n cs a ts st h =
    split (is_none cs)
    (λ e. rw e h.1)
    (λ e. let b = best-ok n cs ts h.0.0 e in
    let c : ℕ = (best n cs ts).0 in
    let l = xor_lt n cs (2 ^ c) h.0.0 (pow-lt b.0) in
    let t = tally-rest n cs c b.0 b.1 in
    rw e ((l, omega (arith, h.0.1)), ((l, omega (arith, h.0.1)), h.1)))

pub stairs-visit : (n cs : ℕ) (a : Aim) (ts : List Term) (st : List Node) → Stairs n (node cs a ts ∷ st) → Stairs n (visit n (node cs a ts) st).stack
unfolding Stairs visit
stairs-visit n cs a [] st h = h.1
stairs-visit n cs free (e ∷ es) st h = stairs-open n cs free (e ∷ es) st h
stairs-visit n cs (on t) (e ∷ es) st h = stairs-open n cs (on t) (e ∷ es) st h
stairs-visit n cs (owes p t) (e ∷ es) st h = ((h.0.0, omega (arith, length-cross_nodes p t st, h.0.1)), stairs-cross n p t st h.1)

pub stairs-first : (n : ℕ) (ts : List Term) → Stairs n (node (2 ^ n - 1) free ts ∷ [])
unfolding Stairs
stairs-first n ts = ((ones_lt n, omega (arith, tally-le n (bit (2 ^ n - 1)))), tt)
