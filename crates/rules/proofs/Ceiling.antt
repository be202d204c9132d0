-- How long a resynthesis can get: for n wires and t terms other than 0, at most t (n - 1) CNOTs and t rotations in the walk, n squared CNOTs in the closing map, n x.
--     walk-cnots, walk-rots, walk-gates        the walk
--     walk-fits, closing-fits, flips-fit       each part of a short block's resynthesis, by the numbers of the plain engine
--     resynthesis-fits                         and all of it
use mathlib.Core.Path.{◌≡◌, refl, sym, ap, ◌∙◌, subst}
use mathlib.Core.Bool.{true, false}
use mathlib.Core.List.{List, [], ◌∷◌, ◌++◌, map}
use mathlib.Core.Option.{Option, none, some}
use Prim.Native.Nat.{ℕ, zero, suc, ◌+◌, ◌-◌, ◌*◌, ◌%◌, ◌^◌, ◌≤◌, zero-le}
use native.Mathlib.Nat.{mul-le-mul_right}
use native.Mathlib.Omega.{arith}
use lib.ListN.{length, get_or, length-append, length-map}
use Rattle.rules.specs.Limits.{term_entries, plain_gates, plain_columns, walk_gates, closing_gates, whole_gates}
use Rattle.rules.specs.Bit.{xor}
use Rattle.rules.specs.Gate.{Gate}
use Rattle.rules.specs.Meaning.{op}
use Rattle.rules.specs.Fold.{Row, Term, Block, empty}
use Rattle.rules.specs.Walk.{Step, cn, rot, Aim, free, on, owes, side, best, leaf, aim_with, is_none, nonzero, phase_walk, held}
use Rattle.rules.specs.Left.{pay}
use Rattle.rules.specs.Close.{units, closing}
use Rattle.rules.specs.Synth.{rotation, emit, flips_of, synth, block_of, or_else, resynthesis}
use Rattle.rules.specs.Tallies.{cnots, rots}
use Rattle.rules.proofs.Bits.{split}
use Rattle.rules.proofs.Folding.{wires_of}
use Rattle.rules.proofs.Walking.{cross_all, paid, tree}
use Rattle.rules.proofs.Machine.{length-sides, length-cross_all, phase-walk}
use Rattle.rules.proofs.Closing.{length-units}
use Rattle.rules.proofs.Blocks.{size_of, walk_of, parities, held-length, synth-of}
use Rattle.rules.proofs.Bounds.{length-terms}
use Rattle.rules.proofs.Counting.{closing-size}
use Rattle.rules.proofs.Steps.{emit-append, pure-count, closing-steps}

-- ---- the walk's CNOTs

cnots-append : (us vs : List Step) → cnots (us ++ vs) ≡ cnots us + cnots vs
unfolding cnots
cnots-append [] vs = omega arith
cnots-append (cn p t ∷ us) vs = omega (arith, cnots-append us vs)
cnots-append (rot q k ∷ us) vs = cnots-append us vs

rots-append : (us vs : List Step) → rots (us ++ vs) ≡ rots us + rots vs
unfolding rots
rots-append [] vs = omega arith
rots-append (cn p t ∷ us) vs = rots-append us vs
rots-append (rot q k ∷ us) vs = omega (arith, rots-append us vs)

cnots-leaf : (a : Aim) (ts : List Term) → cnots (leaf a ts) ≡ zero
unfolding cnots
cnots-leaf free ts = refl
cnots-leaf (on t) ts = refl
cnots-leaf (owes p t) ts = refl

-- CNOTs for each term, with k candidates left
abbrev each : Aim → ℕ → ℕ
each free k = k - 1
each (on t) k = k
each (owes p t) k = k + 1

each-paid : (a : Aim) (k l : ℕ) → cnots (pay a) + each (paid a) k * suc l ≤ each a k * suc l
unfolding cnots
each-paid free k l = omega arith
each-paid (on t) k l = omega arith
each-paid (owes p t) k l = omega arith

each-split : (a : Aim) (c k : ℕ) → (each (paid a) k ≤ each (paid a) (suc k)) × (each (aim_with (paid a) c) k ≤ each (paid a) (suc k))
each-split free c k = (omega arith, omega arith)
each-split (on t) c k = (omega arith, omega arith)
each-split (owes p t) c k = (omega arith, omega arith)

tree-cnots : (n k cs : ℕ) (a : Aim) (ts : List Term) → cnots (tree n k cs a ts) ≤ each a k * length ts
unfolding tree cnots
tree-cnots n zero cs a [] = zero-le
tree-cnots n zero cs a (e ∷ es) =
    omega (arith, cnots-append (pay a) (leaf (paid a) (e ∷ es)), cnots-leaf (paid a) (e ∷ es), each-paid a zero (length es))
tree-cnots n (suc k) cs a [] = zero-le
tree-cnots n (suc k) cs a (e ∷ es) =
    let ts : List Term = e ∷ es in
    let c : ℕ = (best n cs ts).0 in
    let rest : ℕ = xor cs (2 ^ c) in
    let z : List Step = tree n k rest (paid a) (side false c ts) in
    let o : List Step = tree n k rest (aim_with (paid a) c) (cross_all z (side true c ts)) in
    split (is_none cs)
    (λ q. rw q (omega (arith, cnots-append (pay a) (leaf (paid a) ts), cnots-leaf (paid a) ts, each-paid a (suc k) (length es))))
    (λ q. rw q (
    let hz = tree-cnots n k rest (paid a) (side false c ts) in
    let ho = tree-cnots n k rest (aim_with (paid a) c) (cross_all z (side true c ts)) in
    let s = each-split a c k in
    let sum = sides (each (paid a) k) (each (aim_with (paid a) c) k) (each (paid a) (suc k)) (length (side false c ts)) (length (side true c ts)) (length es)
    (cnots z) (cnots o) (length (cross_all z (side true c ts))) s.0 s.1
    (length-sides c ts) (length-cross_all z (side true c ts)) hz ho in
    omega (arith, cnots-append (pay a) (z ++ o), cnots-append z o, each-paid a (suc k) (length es), sum)))
  where
    sides : (x y m p q l u v q' : ℕ) → x ≤ m → y ≤ m → p + q ≡ suc l → q' ≡ q → u ≤ x * p → v ≤ y * q' → u + v ≤ m * suc l
    sides x y m p q l u v q' hx hy e f hu hv =
        let g : m * (p + q) ≡ m * suc l = ap (λ (w : ℕ). m * w) e in
        let g' : y * q' ≡ y * q = ap (λ (w : ℕ). y * w) f in
        omega (arith, mul-le-mul_right p hx, mul-le-mul_right q hy)

-- ---- its rotations

rots-leaf : (a : Aim) (ts : List Term) → rots (leaf a ts) ≤ 1
unfolding rots
rots-leaf free ts = zero-le
rots-leaf (on t) ts = omega arith
rots-leaf (owes p t) ts = zero-le

rots-pay : (a : Aim) → rots (pay a) ≡ zero
unfolding rots
rots-pay free = refl
rots-pay (on t) = refl
rots-pay (owes p t) = refl

tree-rots : (n k cs : ℕ) (a : Aim) (ts : List Term) → rots (tree n k cs a ts) ≤ length ts
unfolding tree rots
tree-rots n zero cs a [] = zero-le
tree-rots n zero cs a (e ∷ es) = omega (arith, rots-append (pay a) (leaf (paid a) (e ∷ es)), rots-leaf (paid a) (e ∷ es), rots-pay a)
tree-rots n (suc k) cs a [] = zero-le
tree-rots n (suc k) cs a (e ∷ es) =
    let ts : List Term = e ∷ es in
    let c : ℕ = (best n cs ts).0 in
    let rest : ℕ = xor cs (2 ^ c) in
    let z : List Step = tree n k rest (paid a) (side false c ts) in
    let o : List Step = tree n k rest (aim_with (paid a) c) (cross_all z (side true c ts)) in
    split (is_none cs)
    (λ q. rw q (omega (arith, rots-append (pay a) (leaf (paid a) ts), rots-leaf (paid a) ts, rots-pay a)))
    (λ q. rw q (
    let hz = tree-rots n k rest (paid a) (side false c ts) in
    let ho = tree-rots n k rest (aim_with (paid a) c) (cross_all z (side true c ts)) in
    omega (arith, rots-append (pay a) (z ++ o), rots-append z o, rots-pay a, length-sides c ts, length-cross_all z (side true c ts))))

module _ (n : ℕ) (ts : List Term) where
  pub walk-cnots : cnots (phase_walk n ts) ≤ (n - 1) * length (nonzero ts)
  walk-cnots = subst (λ (ss : List Step). cnots ss ≤ (n - 1) * length (nonzero ts)) (sym (phase-walk n ts)) (tree-cnots n n (2 ^ n - 1) free (nonzero ts))

  pub walk-rots : rots (phase_walk n ts) ≤ length (nonzero ts)
  walk-rots = subst (λ (ss : List Step). rots ss ≤ length (nonzero ts)) (sym (phase-walk n ts)) (tree-rots n n (2 ^ n - 1) free (nonzero ts))

-- ---- steps as gates: a CNOT is one, a rotation at most two

two-at-most : (k q : ℕ) → length (rotation k q) ≤ 2
unfolding rotation
two-at-most zero q = zero-le
two-at-most (suc zero) q = omega arith
two-at-most (suc (suc zero)) q = omega arith
two-at-most (suc (suc (suc zero))) q = omega arith
two-at-most (suc (suc (suc (suc zero)))) q = omega arith
two-at-most (suc (suc (suc (suc (suc zero))))) q = omega arith
two-at-most (suc (suc (suc (suc (suc (suc zero)))))) q = omega arith
two-at-most (suc (suc (suc (suc (suc (suc (suc zero))))))) q = omega arith
two-at-most (suc (suc (suc (suc (suc (suc (suc (suc k)))))))) q = zero-le

pub gates-of : (ws : List ℕ) (ss : List Step) → length (emit ws ss) ≤ cnots ss + 2 * rots ss
unfolding emit cnots rots
gates-of ws [] = zero-le
gates-of ws (cn p t ∷ ss) = omega (arith, gates-of ws ss)
gates-of ws (rot q k ∷ ss) =
    omega (arith, length-append (rotation (k % 8) (get_or ws q zero)) (emit ws ss), two-at-most (k % 8) (get_or ws q zero), gates-of ws ss)

pub walk-gates : (n : ℕ) (ws : List ℕ) (ts : List Term) → length (emit ws (phase_walk n ts)) ≤ (n - 1) * length (nonzero ts) + 2 * length (nonzero ts)
walk-gates n ws ts = omega (arith, gates-of ws (phase_walk n ts), walk-cnots n ts, walk-rots n ts)

nonzero-few : (ts : List Term) → length (nonzero ts) ≤ length ts
unfolding nonzero
nonzero-few [] = zero-le
nonzero-few (t ∷ ts) = let h = nonzero-few ts in split (is_none (t.turn % 8)) (λ e. rw e (omega arith)) (λ e. rw e (omega arith))

-- ---- a block of the plain engine: at most 32 wires, and the terms of at most 256 gates

pub walk-fits : (n : ℕ) (ws : List ℕ) (ts : List Term) → n ≤ plain_columns → length ts ≤ term_entries plain_gates → length (emit ws (phase_walk n ts)) ≤ walk_gates
walk-fits n ws ts h k =
    let t : ℕ = length (nonzero ts) in
    let m : (n - 1) * t ≤ 31 * t = mul-le-mul_right t (less n h) in
    omega (arith, walk-gates n ws ts, nonzero-few ts)
  where
    less : (n : ℕ) → n ≤ 32 → n - 1 ≤ 31
    less n h = omega arith

pub closing-fits : (ws from wanted : List ℕ) (c : List Step) → length from ≡ length wanted → length wanted ≤ plain_columns → closing from wanted ≡ some c → length (emit ws c) ≤ closing_gates
closing-fits ws from wanted c l h e =
    let n : ℕ = length wanted in
    let m : n * n ≤ 32 * n = mul-le-mul_right n h in
    omega (arith, (pure-count ws c (closing-steps from wanted c l e).1).0, closing-size from wanted c e)

pub flips-fit : (rs : List Row) → length (flips_of rs) ≤ length rs
unfolding flips_of
flips-fit [] = zero-le
flips-fit (r ∷ rs) = let h = flips-fit rs in split r.flips (λ e. rw e (omega arith)) (λ e. rw e (omega arith))

-- a short run folds few terms
pub terms-few : (gs : List Gate) → length gs ≤ plain_gates → length (block_of gs).terms ≤ term_entries plain_gates
unfolding block_of
terms-few gs h = omega (arith, length-terms (map op gs) empty, length-map gs op)

-- of a block of few wires and terms, all three parts together
pub synth-fits : (b : Block) (gs : List Gate) → length b.rows ≤ plain_columns → length b.terms ≤ term_entries plain_gates → synth b ≡ some gs → length gs ≤ whole_gates
synth-fits b gs h k e =
    let w = synth-of b gs e in
    let n : ℕ = size_of b in
    let ws : List ℕ = wires_of b.rows in
    let many : n ≡ length b.rows = length-map b.rows (λ r. r.wire) in
    let wide : length (parities b.rows) ≡ length b.rows = length-map b.rows (λ r. r.parity) in
    let one : length (emit ws (walk_of b)) ≤ walk_gates =
    subst (λ (ss : List Step). length (emit ws ss) ≤ walk_gates) (phase-walk n b.terms) (walk-fits n ws b.terms (omega arith) k) in
    let start : length (held (walk_of b) (units n zero)) ≡ length (parities b.rows) = held-length (walk_of b) (units n zero) ∙ length-units n zero ∙ many ∙ sym wide in
    let two : length (emit ws w.steps) ≤ closing_gates = closing-fits ws (held (walk_of b) (units n zero)) (parities b.rows) w.steps start (omega arith) w.closed in
    let all : length gs ≡ length (emit ws (walk_of b)) + length (emit ws w.steps) + length (flips_of b.rows) =
    ap length (sym w.gates) ∙ length-append (emit ws (walk_of b ++ w.steps)) (flips_of b.rows)
    ∙ ap (λ (l : ℕ). l + length (flips_of b.rows)) (ap length (emit-append ws (walk_of b) w.steps) ∙ length-append (emit ws (walk_of b)) (emit ws w.steps)) in
    omega (arith, flips-fit b.rows)

-- a closed block of the plain engine, written again or, without a resynthesis, as it was
pub resynthesis-fits : (gs : List Gate) → length gs ≤ plain_gates → length (block_of gs).rows ≤ plain_columns → length (resynthesis gs) ≤ whole_gates
unfolding resynthesis
resynthesis-fits gs h k = go (synth (block_of gs)) refl
  where
    go : (o : Option (List Gate)) → synth (block_of gs) ≡ o → length (or_else o gs) ≤ whole_gates
    go none e = omega arith
    go (some new) e = synth-fits (block_of gs) new k (terms-few gs h) e
