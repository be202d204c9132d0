-- The stack machine makes the steps of the recursion, and its fuel is enough.
use mathlib.Core.Path.{◌≡◌, refl, sym, ap, ◌∙◌}
use mathlib.Core.Bool.{true, false, cond}
use mathlib.Core.List.{List, [], ◌∷◌, ◌++◌, append_assoc, append-nil}
use Prim.Native.Nat.{ℕ, zero, suc, ◌+◌, ◌-◌, ◌*◌, ◌^◌, ◌≤◌, ◌<◌, zero-le}
use native.Mathlib.Nat.{le_refl, add-sub_of_le}
use native.Mathlib.Omega.{arith}
use lib.ListN.{length}
use lib.Pow.{pow-lt, ones_lt}
use Rattle.rules.specs.Bit.{bit, xor}
use Rattle.rules.specs.Fold.{Term}
use Rattle.rules.specs.Walk.{Step, cn, rot, Aim, free, on, owes, Node, side, best, cross_terms, cross_nodes, leaf, aim_with, is_none, visit, walk, nonzero, enough, phase_walk, Settled, node}
use Rattle.rules.specs.Left.{pay, tally}
use Rattle.rules.proofs.Bits.{xor_lt, split, none-set}
use Rattle.rules.proofs.Walking.{cross_all, paid, tree, tally-none, tally-le, tally-rest, best-ok, settled-paid}

-- every CNOT of some steps, on the waiting nodes
unfoldable pub cross_stack : List Step → List Node → List Node
unfolding cross_nodes
cross_stack [] st = st
cross_stack (cn p t ∷ ss) st = cross_stack ss (cross_nodes p t st)
cross_stack (rot q k ∷ ss) st = cross_stack ss st

pub cross-cons : (ss : List Step) (cs : ℕ) (a : Aim) (ts : List Term) (st : List Node) → cross_stack ss (node cs a ts ∷ st) ≡ node cs a (cross_all ss ts) ∷ cross_stack ss st
unfolding cross_stack cross_all
cross-cons [] cs a ts st = refl
cross-cons (cn p t ∷ ss) cs a ts st = cross-cons ss cs a (cross_terms p t ts) (cross_nodes p t st)
cross-cons (rot q k ∷ ss) cs a ts st = cross-cons ss cs a ts st

cross-append : (us vs : List Step) (st : List Node) → cross_stack (us ++ vs) st ≡ cross_stack vs (cross_stack us st)
unfolding cross_stack
cross-append [] vs st = refl
cross-append (cn p t ∷ us) vs st = cross-append us vs (cross_nodes p t st)
cross-append (rot q k ∷ us) vs st = cross-append us vs st

-- ---- the turns that a node takes

abbrev or_one : List Term → ℕ → ℕ
or_one [] m = 1
or_one (t ∷ ts) m = m

unfoldable pub ticks : ℕ → ℕ → ℕ → Aim → List Term → ℕ
unfolding best side cross_all tree
ticks n zero cs a ts = or_one ts (length (pay a) + 1)
ticks n (suc k) cs a ts =
    let c = (best n cs ts).0 in
    let rest = xor cs (2 ^ c) in
    let z = tree n k rest (paid a) (side false c ts) in
    let tz = ticks n k rest (paid a) (side false c ts) in
    let to = ticks n k rest (aim_with (paid a) c) (cross_all z (side true c ts)) in
    or_one ts (length (pay a) + cond (is_none cs) 1 (1 + tz + to))

-- from the node, with any stack below, the machine makes the steps ss in m turns
unfoldable pub Runs : ℕ → ℕ → Aim → List Term → ℕ → List Step → Type 0
unfolding walk cross_stack
Runs n cs a ts m ss = (f : ℕ) (st : List Node) → walk n (m + f) (node cs a ts ∷ st) ≡ ss ++ walk n f (cross_stack ss st)

fuel : (n m f : ℕ) (st : List Node) → m ≡ f → walk n m st ≡ walk n f st
fuel n m f st e = ap (λ (z : ℕ). walk n z st) e

empty_runs : (n cs : ℕ) (a : Aim) → Runs n cs a [] 1 []
unfolding Runs walk visit cross_stack
empty_runs n cs a f st = fuel n (1 + f) (suc f) (node cs a [] ∷ st) (omega arith)

leaf-runs : (n cs : ℕ) (a : Aim) (e : Term) (es : List Term) → Settled a → is_none cs ≡ true → Runs n cs a (e ∷ es) 1 (leaf a (e ∷ es))
unfolding Runs walk visit cross_stack
leaf-runs n cs free e es s q f st = fuel n (1 + f) (suc f) (node cs free (e ∷ es) ∷ st) (omega arith) ∙ rw q
leaf-runs n cs (on t) e es s q f st = fuel n (1 + f) (suc f) (node cs (on t) (e ∷ es) ∷ st) (omega arith) ∙ rw q
leaf-runs n cs (owes p t) e es s q f st = absurd s

pay-runs : (n cs : ℕ) (a : Aim) (e : Term) (es : List Term) (m : ℕ) (ss : List Step)
    → Runs n cs (paid a) (e ∷ es) m ss → Runs n cs a (e ∷ es) (length (pay a) + m) (pay a ++ ss)
unfolding Runs walk visit cross_stack
pay-runs n cs free e es m ss h f st = fuel n (zero + m + f) (m + f) (node cs free (e ∷ es) ∷ st) (omega arith) ∙ h f st
pay-runs n cs (on t) e es m ss h f st = fuel n (zero + m + f) (m + f) (node cs (on t) (e ∷ es) ∷ st) (omega arith) ∙ h f st
pay-runs n cs (owes p t) e es m ss h f st =
    fuel n (1 + m + f) (suc (m + f)) (node cs (owes p t) (e ∷ es) ∷ st) (omega arith)
    ∙ ap (λ (l : List Step). cn p t ∷ l) (h f (cross_nodes p t st))

open_step : (n cs : ℕ) (a : Aim) (e : Term) (es : List Term) (f : ℕ) (st : List Node) → Settled a → is_none cs ≡ false
    → walk n (suc f) (node cs a (e ∷ es) ∷ st)
    ≡ walk n f (node (xor cs (2 ^ (best n cs (e ∷ es)).0)) a (side false (best n cs (e ∷ es)).0 (e ∷ es))
    ∷ node (xor cs (2 ^ (best n cs (e ∷ es)).0)) (aim_with a (best n cs (e ∷ es)).0) (side true (best n cs (e ∷ es)).0 (e ∷ es)) ∷ st)
unfolding walk visit
open_step n cs free e es f st s q = rw q
open_step n cs (on t) e es f st s q = rw q
open_step n cs (owes p t) e es f st s q = absurd s

split_runs : (n cs : ℕ) (a : Aim) (e : Term) (es : List Term) (mz mo : ℕ) (z o : List Step) → Settled a → is_none cs ≡ false
    → Runs n (xor cs (2 ^ (best n cs (e ∷ es)).0)) a (side false (best n cs (e ∷ es)).0 (e ∷ es)) mz z
    → Runs n (xor cs (2 ^ (best n cs (e ∷ es)).0)) (aim_with a (best n cs (e ∷ es)).0) (cross_all z (side true (best n cs (e ∷ es)).0 (e ∷ es))) mo o
    → Runs n cs a (e ∷ es) (1 + mz + mo) (z ++ o)
unfolding Runs
split_runs n cs a e es mz mo z o s q hz ho f st =
    let c : ℕ = (best n cs (e ∷ es)).0 in
    let rest : ℕ = xor cs (2 ^ c) in
    fuel n (1 + mz + mo + f) (suc (mz + (mo + f))) (node cs a (e ∷ es) ∷ st) (omega arith)
    ∙ open_step n cs a e es (mz + (mo + f)) st s q
    ∙ hz (mo + f) (node rest (aim_with a c) (side true c (e ∷ es)) ∷ st)
    ∙ ap (λ (l : List Node). z ++ walk n (mo + f) l) (cross-cons z rest (aim_with a c) (side true c (e ∷ es)) st)
    ∙ ap (λ (l : List Step). z ++ l) (ho f (cross_stack z st))
    ∙ ap (λ (l : List Node). z ++ (o ++ walk n f l)) (sym (cross-append z o st))
    ∙ sym (append_assoc z o (walk n f (cross_stack (z ++ o) st)))

pub tree-runs : (n k cs : ℕ) (a : Aim) (ts : List Term) → cs < 2 ^ n → tally n (bit cs) ≤ k → Runs n cs a ts (ticks n k cs a ts) (tree n k cs a ts)
unfolding ticks tree
tree-runs n zero cs a [] l t = empty_runs n cs a
tree-runs n zero cs a (e ∷ es) l t =
    pay-runs n cs a e es 1 (leaf (paid a) (e ∷ es)) (leaf-runs n cs (paid a) e es (settled-paid a) (ap is_none (none-set n cs l (tally-none n (bit cs) t))))
tree-runs n (suc k) cs a [] l t = empty_runs n cs a
tree-runs n (suc k) cs a (e ∷ es) l t =
    let ts : List Term = e ∷ es in
    let c : ℕ = (best n cs ts).0 in
    let rest : ℕ = xor cs (2 ^ c) in
    let z : List Step = tree n k rest (paid a) (side false c ts) in
    let o : List Step = tree n k rest (aim_with (paid a) c) (cross_all z (side true c ts)) in
    let tz : ℕ = ticks n k rest (paid a) (side false c ts) in
    let to : ℕ = ticks n k rest (aim_with (paid a) c) (cross_all z (side true c ts)) in
    pay-runs n cs a e es (cond (is_none cs) 1 (1 + tz + to)) (cond (is_none cs) (leaf (paid a) ts) (z ++ o))
    (split (is_none cs)
    (λ q. rw q (leaf-runs n cs (paid a) e es (settled-paid a) q))
    (λ q. let b = best-ok n cs ts l q in
    let l' : rest < 2 ^ n = xor_lt n cs (2 ^ c) l (pow-lt b.0) in
    let t' : tally n (bit rest) ≤ k = omega (arith, tally-rest n cs c b.0 b.1) in
    rw q (split_runs n cs (paid a) e es tz to z o (settled-paid a) q
    (tree-runs n k rest (paid a) (side false c ts) l' t')
    (tree-runs n k rest (aim_with (paid a) c) (cross_all z (side true c ts)) l' t'))))

-- ---- the fuel

pub length-sides : (c : ℕ) (ts : List Term) → length (side false c ts) + length (side true c ts) ≡ length ts
unfolding side
length-sides c [] = refl
length-sides c (t ∷ ts) = split (bit t.parity c) (λ e. rw e (omega (arith, length-sides c ts))) (λ e. rw e (omega (arith, length-sides c ts)))

pub length-cross : (p t : ℕ) (ts : List Term) → length (cross_terms p t ts) ≡ length ts
unfolding cross_terms
length-cross p t [] = refl
length-cross p t (e ∷ es) = ap suc (length-cross p t es)

pub length-cross_all : (ss : List Step) (ts : List Term) → length (cross_all ss ts) ≡ length ts
unfolding cross_all
length-cross_all [] ts = refl
length-cross_all (cn p t ∷ ss) ts = length-cross_all ss (cross_terms p t ts) ∙ length-cross p t ts
length-cross_all (rot q k ∷ ss) ts = length-cross_all ss ts

pay-le : (a : Aim) → length (pay a) ≤ 1
pay-le free = zero-le
pay-le (on t) = zero-le
pay-le (owes p t) = le_refl 1

pay-paid : (a : Aim) → length (pay (paid a)) ≡ 0
pay-paid free = refl
pay-paid (on t) = refl
pay-paid (owes p t) = refl

pub ticks-le : (n k cs : ℕ) (a : Aim) (ts : List Term) → ticks n k cs a ts ≤ 3 * k * length ts + 1 + length (pay a)
unfolding ticks
ticks-le n zero cs a [] = omega arith
ticks-le n zero cs a (e ∷ es) = omega arith
ticks-le n (suc k) cs a [] = omega arith
ticks-le n (suc k) cs a (e ∷ es) =
    let ts : List Term = e ∷ es in
    let c : ℕ = (best n cs ts).0 in
    let rest : ℕ = xor cs (2 ^ c) in
    let z : List Step = tree n k rest (paid a) (side false c ts) in
    let hz = ticks-le n k rest (paid a) (side false c ts) in
    let ho = ticks-le n k rest (aim_with (paid a) c) (cross_all z (side true c ts)) in
    split (is_none cs)
    (λ q. rw q (small k (length es) (length (pay a))))
    (λ q. rw q (large k (length es) (length (pay a)) _ _ (length (side false c ts)) (length (side true c ts)) (length-sides c ts)
    (ap (λ (m : ℕ). 3 * k * length (side false c ts) + 1 + m) (pay-paid a)) hz
    (ap (λ (m : ℕ). 3 * k * m + 1 + length (pay (aim_with (paid a) c))) (length-cross_all z (side true c ts))) (pay-le (aim_with (paid a) c)) ho))
  where
    small : (k l p : ℕ) → p + 1 ≤ 3 * suc k * suc l + 1 + p
    small k l p = omega arith

    large : (k l p tz to lz lo : ℕ) {bz bo po : ℕ} → lz + lo ≡ suc l → bz ≡ 3 * k * lz + 1 + 0 → tz ≤ bz → bo ≡ 3 * k * lo + 1 + po → po ≤ 1 → to ≤ bo
        → p + (1 + tz + to) ≤ 3 * suc k * suc l + 1 + p
    large k l p tz to lz lo {bz} {bo} {po} e ez hz eo hp ho =
        let m : 3 * k * (lz + lo) ≡ 3 * k * suc l = ap (λ (x : ℕ). 3 * k * x) e in
        omega arith

walk-empty : (n f : ℕ) → walk n f [] ≡ []
unfolding walk
walk-empty n zero = refl
walk-empty n (suc f) = refl

pub cross-empty : (ss : List Step) → cross_stack ss [] ≡ []
unfolding cross_stack
cross-empty [] = refl
cross-empty (cn p t ∷ ss) = cross-empty ss
cross-empty (rot q k ∷ ss) = cross-empty ss

-- the walk of document 01 is the recursion
pub phase-walk : (n : ℕ) (ts : List Term) → phase_walk n ts ≡ tree n n (2 ^ n - 1) free (nonzero ts)
unfolding phase_walk Runs
phase-walk n ts =
    let set : List Term = nonzero ts in
    let cs : ℕ = 2 ^ n - 1 in
    let m : ℕ = ticks n n cs free set in
    let f : ℕ = enough n (length set) - m in
    let fits : m + f ≡ enough n (length set) = add-sub_of_le (omega (arith, ticks-le n n cs free set)) in
    fuel n (enough n (length set)) (m + f) (node cs free set ∷ []) (sym fits)
    ∙ tree-runs n n cs free set (ones_lt n) (tally-le n (bit cs)) f []
    ∙ ap (λ (l : List Node). tree n n cs free set ++ walk n f l) (cross-empty (tree n n cs free set))
    ∙ ap (λ (l : List Step). tree n n cs free set ++ l) (walk-empty n f)
    ∙ append-nil (tree n n cs free set)
