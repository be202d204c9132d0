-- A resynthesis spends no more T than the run: each odd term comes from an odd gate, and is emitted once.
use mathlib.Core.Path.{◌≡◌, refl, ap, ◌∙◌}
use mathlib.Core.Bool.{Bool, true, false, cond}
use mathlib.Core.List.{List, [], ◌∷◌, ◌++◌, map}
use mathlib.Core.Option.{Option, none, some}
use Prim.Native.Nat.{ℕ, zero, suc, ◌+◌, ◌-◌, ◌%◌, ◌^◌, ◌≤◌, ◌<◌, zero-le}
use native.Mathlib.Nat.{le_refl, mod-lt, zero-lt-suc}
use native.Mathlib.Omega.{arith}
use lib.IntN.{ℤ, pos, negsuc}
use lib.ListN.{get_or}
use lib.Dec.{eqb}
use Rattle.rules.specs.Bit.{bit, xor}
use Rattle.rules.specs.Gate.{Gate}
use Rattle.rules.specs.Numbers.{odd}
use Rattle.rules.specs.Meaning.{Op, flip, phase, cnot, cz, other, op, op_of, turn8}
use Rattle.rules.specs.Counts.{spends, ts, NoMoreT}
use Rattle.rules.specs.Fold.{Row, Term, Block, empty, row_of, add_term, rotate, signed, both, entered, terms_by, absorb, fold}
use Rattle.rules.specs.Walk.{Step, cn, rot, Aim, free, on, owes, side, best, cross_terms, turns, leaf, aim_with, is_none, nonzero}
use Rattle.rules.specs.Left.{pay}
use Rattle.rules.specs.Synth.{rotation, emit, flips_of, synth, block_of, or_else, resynthesis}
use Rattle.rules.specs.Scan.{Sparing}
use Rattle.rules.proofs.Bits.{split}
use Rattle.rules.proofs.Folding.{wires_of}
use Rattle.rules.proofs.Walking.{cross_all, paid, tree}
use Rattle.rules.proofs.Closing.{Pure}
use Rattle.rules.proofs.Emitting.{Apart, apart-fold}
use Rattle.rules.proofs.Blocks.{size_of, walk_of, synth-of, closes}
use Rattle.rules.proofs.Passing.{ts-append}

-- ---- odd turns of steps, of terms and of an op

unfoldable odds : List Step → ℕ
odds [] = zero
odds (cn p t ∷ ss) = odds ss
odds (rot q k ∷ ss) = k % 2 + odds ss

unfoldable odd_terms : List Term → ℕ
odd_terms [] = zero
odd_terms (e ∷ es) = e.turn % 2 + odd_terms es

abbrev odd_op : Op → ℕ
odd_op (flip q) = zero
odd_op (phase k q) = k % 2
odd_op (cnot c t) = zero
odd_op (cz c t) = zero
odd_op other = zero

-- ---- the walk emits no more of them than its terms have

odds-append : (us vs : List Step) → odds (us ++ vs) ≡ odds us + odds vs
unfolding odds
odds-append [] vs = omega arith
odds-append (cn p t ∷ us) vs = odds-append us vs
odds-append (rot q k ∷ us) vs = omega (arith, odds-append us vs)

odds-pure : (ss : List Step) → Pure ss → odds ss ≡ zero
unfolding odds Pure
odds-pure [] h = refl
odds-pure (cn p t ∷ ss) h = odds-pure ss h
odds-pure (rot q k ∷ ss) h = absurd h

odds-pay : (a : Aim) → odds (pay a) ≡ zero
unfolding odds
odds-pay free = refl
odds-pay (on t) = refl
odds-pay (owes p t) = refl

odd-turns : (es : List Term) → turns es % 2 ≤ odd_terms es
unfolding turns odd_terms
odd-turns [] = zero-le
odd-turns (e ∷ es) = omega (arith, odd-turns es)

odds-leaf : (a : Aim) (es : List Term) → odds (leaf a es) ≤ odd_terms es
unfolding odds
odds-leaf free es = zero-le
odds-leaf (on t) es = omega (arith, odd-turns es)
odds-leaf (owes p t) es = zero-le

odd-sides : (c : ℕ) (es : List Term) → odd_terms (side false c es) + odd_terms (side true c es) ≡ odd_terms es
unfolding odd_terms side
odd-sides c [] = refl
odd-sides c (e ∷ es) = split (bit e.parity c) (λ h. rw h (omega (arith, odd-sides c es))) (λ h. rw h (omega (arith, odd-sides c es)))

odd-cross : (p t : ℕ) (es : List Term) → odd_terms (cross_terms p t es) ≡ odd_terms es
unfolding odd_terms cross_terms
odd-cross p t [] = refl
odd-cross p t (e ∷ es) = ap (λ (z : ℕ). e.turn % 2 + z) (odd-cross p t es)

odd-cross_all : (ss : List Step) (es : List Term) → odd_terms (cross_all ss es) ≡ odd_terms es
unfolding cross_all
odd-cross_all [] es = refl
odd-cross_all (cn p t ∷ ss) es = odd-cross_all ss (cross_terms p t es) ∙ odd-cross p t es
odd-cross_all (rot q k ∷ ss) es = odd-cross_all ss es

-- a node without candidates
odds-last : (a : Aim) (es : List Term) → odds (pay a ++ leaf (paid a) es) ≤ odd_terms es
odds-last a es = omega (arith, odds-append (pay a) (leaf (paid a) es), odds-pay a, odds-leaf (paid a) es)

odds-tree : (n k cs : ℕ) (a : Aim) (es : List Term) → odds (tree n k cs a es) ≤ odd_terms es
unfolding tree odds
odds-tree n zero cs a [] = zero-le
odds-tree n zero cs a (e ∷ es) = odds-last a (e ∷ es)
odds-tree n (suc k) cs a [] = zero-le
odds-tree n (suc k) cs a (e ∷ es) =
    let us : List Term = e ∷ es in
    let c : ℕ = (best n cs us).0 in
    let rest : ℕ = xor cs (2 ^ c) in
    let z : List Step = tree n k rest (paid a) (side false c us) in
    let o : List Step = tree n k rest (aim_with (paid a) c) (cross_all z (side true c us)) in
    split (is_none cs)
    (λ q. rw q (odds-last a us))
    (λ q. rw q (omega (
      arith,
      odds-append (pay a) (z ++ o),
      odds-append z o,
      odds-pay a,
      odd-sides c us,
      odd-cross_all z (side true c us),
      odds-tree n k rest (paid a) (side false c us),
      odds-tree n k rest (aim_with (paid a) c) (cross_all z (side true c us)),
    )))

odd-nonzero : (es : List Term) → odd_terms (nonzero es) ≤ odd_terms es
unfolding odd_terms nonzero
odd-nonzero [] = zero-le
odd-nonzero (e ∷ es) = split (is_none (e.turn % 8)) (λ h. rw h (omega (arith, odd-nonzero es))) (λ h. rw h (omega (arith, odd-nonzero es)))

odds-walk : (b : Block) → odds (walk_of b) ≤ odd_terms b.terms
odds-walk b = omega (arith, odds-tree (size_of b) (size_of b) (2 ^ size_of b - 1) free (nonzero b.terms), odd-nonzero b.terms)

-- ---- the fold makes no more odd terms than there are odd gates

odd-add : (p k : ℕ) (es : List Term) → odd_terms (add_term p k es) ≤ k % 2 + odd_terms es
unfolding odd_terms add_term
odd-add p k [] = omega arith
odd-add p k (e ∷ es) = split (eqb e.parity p) (λ h. rw h (merge e.turn k (odd_terms es))) (λ h. rw h (omega (arith, odd-add p k es)))
  where
    merge : (a b w : ℕ) → (a + b) % 8 % 2 + w ≤ b % 2 + (a % 2 + w)
    merge a b w = omega arith

odd-signed : (f : Bool) (k : ℕ) → signed f k % 2 ≡ k % 2
odd-signed true k = omega arith
odd-signed false k = omega arith

odd-rotate : (k : ℕ) (r : Row) (es : List Term) → odd_terms (rotate k r es) ≤ k % 2 + odd_terms es
odd-rotate k r es = omega (arith, odd-add r.parity (signed r.flips k) es, odd-signed r.flips k)

odd-by : (o : Op) (rs : List Row) (es : List Term) → odd_terms (terms_by o rs es) ≤ odd_op o + odd_terms es
unfolding terms_by
odd-by (flip q) rs es = omega arith
odd-by (phase k q) rs es = odd-rotate k (row_of q rs) es
odd-by (cnot c t) rs es = omega arith
odd-by (cz c t) rs es =
    let rc : Row = row_of c rs in
    let rt : Row = row_of t rs in
    omega (arith, odd-rotate 6 (both rc rt) (rotate 2 rt (rotate 2 rc es)), odd-rotate 2 rt (rotate 2 rc es), odd-rotate 2 rc es)
odd-by other rs es = omega arith

odd-same : (k m : ℕ) → k % 2 ≡ m % 2 → k % 2 ≤ cond (eqb (m % 2) 1) 1 0
odd-same k m e = go (m % 2) (mod-lt m (zero-lt-suc 1)) e
  where
    go : (b : ℕ) → b < 2 → k % 2 ≡ b → k % 2 ≤ cond (eqb b 1) 1 0
    go zero h f = omega arith
    go (suc zero) h f = omega arith
    go (suc (suc b)) h f = absurd (omega arith)

-- reducing a turn leaves it odd or even
odd-turn : (k : ℤ) → turn8 k % 2 ≤ cond (odd k) 1 0
odd-turn (pos n) = odd-same (n % 8) n (omega arith)
odd-turn (negsuc n) = odd-same (7 - n % 8) (suc n) (omega arith)

odd-op : (code a b : ℕ) (k : ℤ) → odd_op (op_of code a b k) ≤ cond (spends code k) 1 0
unfolding op_of
odd-op zero a b k = zero-le
odd-op (suc zero) a b k = zero-le
odd-op (suc (suc zero)) a b k = le_refl 1
odd-op (suc (suc (suc zero))) a b k = le_refl 1
odd-op (suc (suc (suc (suc zero)))) a b k = zero-le
odd-op (suc (suc (suc (suc (suc zero))))) a b k = zero-le
odd-op (suc (suc (suc (suc (suc (suc zero)))))) a b k = zero-le
odd-op (suc (suc (suc (suc (suc (suc (suc zero))))))) a b k = odd-turn k
odd-op (suc (suc (suc (suc (suc (suc (suc (suc zero)))))))) a b k = zero-le
odd-op (suc (suc (suc (suc (suc (suc (suc (suc (suc zero))))))))) a b k = zero-le
odd-op (suc (suc (suc (suc (suc (suc (suc (suc (suc (suc c)))))))))) a b k = zero-le

odd-fold : (gs : List Gate) (b : Block) → odd_terms (fold (map op gs) b).terms ≤ ts gs + odd_terms b.terms
unfolding fold absorb ts op
odd-fold [] b = omega arith
odd-fold (g ∷ gs) b =
    omega (
      arith,
      odd-fold gs (absorb (op g) b),
      odd-by (op g) (entered (op g) b.rows) b.terms,
      odd-op g.code g.first g.second g.turn,
    )

-- ---- what is emitted for a step spends a T exactly where its turn is odd

ts-rotation : (k q : ℕ) → k < 8 → ts (rotation k q) ≡ k % 2
unfolding ts rotation
ts-rotation zero q h = refl
ts-rotation (suc zero) q h = refl
ts-rotation (suc (suc zero)) q h = refl
ts-rotation (suc (suc (suc zero))) q h = refl
ts-rotation (suc (suc (suc (suc zero)))) q h = refl
ts-rotation (suc (suc (suc (suc (suc zero))))) q h = refl
ts-rotation (suc (suc (suc (suc (suc (suc zero)))))) q h = refl
ts-rotation (suc (suc (suc (suc (suc (suc (suc zero))))))) q h = refl
ts-rotation (suc (suc (suc (suc (suc (suc (suc (suc k)))))))) q h = absurd (omega arith)

ts-emit : (ws : List ℕ) (ss : List Step) → ts (emit ws ss) ≡ odds ss
unfolding emit ts odds
ts-emit ws [] = refl
ts-emit ws (cn p t ∷ ss) = omega (arith, ts-emit ws ss)
ts-emit ws (rot q k ∷ ss) =
    omega (arith, ts-append (rotation (k % 8) (get_or ws q zero)) (emit ws ss), ts-rotation (k % 8) (get_or ws q zero) (mod-lt k (zero-lt-suc 7)), ts-emit ws ss)

ts-flips : (rs : List Row) → ts (flips_of rs) ≡ zero
unfolding flips_of ts
ts-flips [] = refl
ts-flips (r ∷ rs) = split r.flips (λ e. rw e (omega (arith, ts-flips rs))) (λ e. rw e (ts-flips rs))

-- ---- a block

synth-spares : (gs new : List Gate) → synth (fold (map op gs) empty) ≡ some new → NoMoreT new gs
unfolding Apart odd_terms
synth-spares gs new e =
    let b : Block = fold (map op gs) empty in
    let k = synth-of b new e in
    let c : List Step = k.steps in
    let ws : List ℕ = wires_of b.rows in
    omega (
      arith,
      ap ts k.gates,
      ts-append (emit ws (walk_of b ++ c)) (flips_of b.rows),
      ts-emit ws (walk_of b ++ c),
      ts-flips b.rows,
      odds-append (walk_of b) c,
      odds-pure c (closes b (apart-fold (map op gs) empty tt) (λ _. false) c k.closed).pure,
      odds-walk b,
      odd-fold gs empty,
    )

pub sparing : Sparing resynthesis
unfolding resynthesis block_of
sparing = record { spares = λ gs h. go gs (synth (fold (map op gs) empty)) refl }
  where
    go : (gs : List Gate) (o : Option (List Gate)) → synth (fold (map op gs) empty) ≡ o → NoMoreT (or_else o gs) gs
    go gs none e = le_refl (ts gs)
    go gs (some new) e = synth-spares gs new e
