-- Counts by planes: one round of each carry, and of the pass over the set.
--     tally-set               what a store of a plane does to a count
--     half, full              a parity, or two, added to a plane: what stays and what is carried
--     clear-planes            what they are at the start
--     count_next              two more terms of the set
use mathlib.Core.Path.{◌≡◌, refl, sym, ap, ap₂, ◌∙◌}
use mathlib.Core.Bool.{Bool, true, false, ◌&&◌, ◌||◌, cond}
use mathlib.Core.List.{List, [], ◌∷◌}
use Prim.Native.Nat.{ℕ, zero, suc, ◌+◌, ◌*◌, ◌^◌, ◌≤◌, ◌<◌}
use native.Mathlib.Nat.{not-suc-le-zero, le_of_suc-le-suc, pow-suc, mul_assoc}
use native.Mathlib.Numerals.{add-one}
use native.Mathlib.Omega.{arith}
use lib.ListN.{length, get_or, set, take, replicate, length-set, length-replicate}
use Rattle.std.proofs.lemmas.List.{take-replicate}
use Rattle.rules.specs.Bit.{◌⊕◌, bit, xor}
use Rattle.rules.specs.Fold.{Term}
use Rattle.rules.proofs.Bits.{split, bit-zero, bit_xor}
use Rattle.terms.specs.Terms.{no_term}
use Rattle.parity.specs.declared.Parity.{Parity}
use Rattle.parity.specs.View.{val}
use Rattle.rows.specs.Rows.{rows_of}
use Rattle.rows.proofs.Room.{row_count}
use Rattle.column.specs.Planes.{one, tally}
use Rattle.column.proofs.Scanning.{with, with-next, with-le}

pub tally-set : (c : ℕ) (ps : List ℕ) (k v : ℕ) → k < length ps → tally false c (set ps k v) + 2 ^ k * one (get_or ps k 0) c ≡ tally false c ps + 2 ^ k * one v c
unfolding tally
tally-set c [] k v l = absurd (not-suc-le-zero l)
tally-set c (p ∷ ps) zero v l = omega arith
tally-set c (p ∷ ps) (suc k) v l =
    let h = tally-set c ps k v (le_of_suc-le-suc l) in
    let a : 2 ^ suc k * one (get_or ps k 0) c ≡ 2 * (2 ^ k * one (get_or ps k 0) c) = twice k (one (get_or ps k 0) c) in
    let b : 2 ^ suc k * one v c ≡ 2 * (2 ^ k * one v c) = twice k (one v c) in
    omega arith
  where
    twice : (k x : ℕ) → 2 ^ suc k * x ≡ 2 * (2 ^ k * x)
    twice k x = ap (λ (z : ℕ). z * x) (pow-suc 2 k ∙ swap (2 ^ k)) ∙ mul_assoc 2 (2 ^ k) x
      where
        swap : (z : ℕ) → z * 2 ≡ 2 * z
        swap z = omega arith

-- a parity added to a plane
pub half : (c : ℕ) (ps : List ℕ) (k x p v carry : ℕ) → k < length ps → x ≡ get_or ps k 0 → v ≡ xor x p → bit carry c ≡ (bit x c && bit p c)
    → tally false c (set ps k v) + 2 ^ (k + 1) * one carry c ≡ tally false c ps + 2 ^ k * one p c
half c ps k x p v carry l e f g =
    let h : tally false c (set ps k v) + 2 ^ k * one x c ≡ tally false c ps + 2 ^ k * cond (bit x c ⊕ bit p c) 1 0 =
    ap (λ (z : ℕ). tally false c (set ps k v) + 2 ^ k * one z c) e ∙ tally-set c ps k v l
    ∙ ap (λ (b : Bool). tally false c ps + 2 ^ k * cond b 1 0) (ap (λ (z : ℕ). bit z c) f ∙ bit_xor x p c) in
    step (tally false c (set ps k v)) (tally false c ps) (bit x c) (bit p c) h
    (ap (λ (b : Bool). 2 ^ (k + 1) * cond b 1 0) g)
  where
    step : (new old : ℕ) (a b : Bool) → new + 2 ^ k * cond a 1 0 ≡ old + 2 ^ k * cond (a ⊕ b) 1 0 → 2 ^ (k + 1) * one carry c ≡ 2 ^ (k + 1) * cond (a && b) 1 0
        → new + 2 ^ (k + 1) * one carry c ≡ old + 2 ^ k * cond b 1 0
    step new old true true h g = rw g (let t : 2 ^ (k + 1) ≡ 2 ^ k * 2 = ap (λ (z : ℕ). 2 ^ z) (add-one k) ∙ pow-suc 2 k in omega arith)
    step new old true false h g = rw g (omega arith)
    step new old false true h g = rw g (omega arith)
    step new old false false h g = rw g (omega arith)

-- two parities added to the lowest plane
pub full : (c : ℕ) (ps : List ℕ) (x p q apart v both kept carry : ℕ) → 0 < length ps → x ≡ get_or ps 0 0 → apart ≡ xor p q → v ≡ xor x apart
    → bit both c ≡ (bit p c && bit q c) → bit kept c ≡ (bit x c && bit apart c) → bit carry c ≡ (bit both c || bit kept c)
    → tally false c (set ps 0 v) + 2 ^ 1 * one carry c ≡ tally false c ps + (one p c + one q c)
full c ps x p q apart v both kept carry l e f g eb ek ec =
    let d : bit apart c ≡ (bit p c ⊕ bit q c) = ap (λ (z : ℕ). bit z c) f ∙ bit_xor p q c in
    let h : tally false c (set ps 0 v) + 1 * one x c ≡ tally false c ps + 1 * cond (bit x c ⊕ (bit p c ⊕ bit q c)) 1 0 =
    ap (λ (z : ℕ). tally false c (set ps 0 v) + 1 * one z c) e ∙ tally-set c ps 0 v l
    ∙ ap (λ (b : Bool). tally false c ps + 1 * cond b 1 0) (ap (λ (z : ℕ). bit z c) g ∙ bit_xor x apart c ∙ ap (λ (b : Bool). bit x c ⊕ b) d) in
    let k : bit carry c ≡ ((bit p c && bit q c) || (bit x c && (bit p c ⊕ bit q c))) = ec ∙ ap₂ ◌||◌ eb (ek ∙ ap (λ (b : Bool). bit x c && b) d) in
    step (tally false c (set ps 0 v)) (tally false c ps) (one carry c) (bit x c) (bit p c) (bit q c) h (ap (λ (b : Bool). cond b 1 0) k)
  where
    step : (new old out : ℕ) (a b d : Bool) → new + 1 * cond a 1 0 ≡ old + 1 * cond (a ⊕ (b ⊕ d)) 1 0 → out ≡ cond ((b && d) || (a && (b ⊕ d))) 1 0
        → new + 2 * out ≡ old + (cond b 1 0 + cond d 1 0)
    step new old out true true true h k = omega arith
    step new old out true true false h k = omega arith
    step new old out true false true h k = omega arith
    step new old out true false false h k = omega arith
    step new old out false true true h k = omega arith
    step new old out false true false h k = omega arith
    step new old out false false true h k = omega arith
    step new old out false false false h k = omega arith

-- with what the planes above make of the carry
pub full-rest : (c : ℕ) (ps mid : List ℕ) (v carry out new sum : ℕ) → mid ≡ set ps 0 v → tally false c (set ps 0 v) + 2 ^ 1 * one carry c ≡ sum
    → new + 2 ^ length mid * out ≡ tally false c mid + 2 ^ 1 * one carry c → new + 2 ^ length ps * out ≡ sum
full-rest c ps mid v carry out new sum e f g =
    ap (λ (z : ℕ). new + 2 ^ z * out) (sym (ap (λ (l : List ℕ). length l) e ∙ length-set ps 0 v)) ∙ g ∙ ap (λ (l : List ℕ). tally false c l + 2 ^ 1 * one carry c) e ∙ f

-- planes with room for a number other than 0
pub some-plane : (n k : ℕ) → 0 < n → n < 2 ^ k → 0 < k
some-plane n zero p l = absurd (omega arith)
some-plane n (suc k) p l = omega arith

-- ---- planes that are clear

module _ (z : Parity) (e : val z ≡ 0) where
  zeros : (c m : ℕ) → tally false c (rows_of (replicate m z)) ≡ 0
  unfolding tally
  zeros c zero = refl
  zeros c (suc m) = rw (e, bit-zero c, zeros c m)

  -- the first d of m planes
  pub clear-planes : (n d m : ℕ) → n < 2 ^ d → d ≤ m → (n < 2 ^ length (rows_of (take d (replicate m z)))) × ((c : ℕ) → tally false c (rows_of (take d (replicate m z))) ≡ 0)
  clear-planes n d m l h = rw (take-replicate d m z h) (rw (row_count (replicate d z), length-replicate d z) l, λ c. zeros c d)

-- ---- the pass over the set

-- two more terms; nothing is carried out of the last plane
pub count_next : (c : ℕ) (ts : List Term) (i x y out new old top : ℕ) → x ≡ (get_or ts i no_term).parity → y ≡ (get_or ts (i + 1) no_term).parity → length ts < top
    → old ≡ with c (take i ts) → new + top * one out c ≡ old + (one x c + one y c) → new ≡ with c (take (i + 2) ts)
count_next c ts i x y out new old top ex ey l e h =
    let two : i + 1 + 1 ≡ i + 2 = omega arith in
    let s : new + top * one out c ≡ with c (take (i + 2) ts) = h ∙ rw (← two) (omega (arith, with-next c ts i x ex, with-next c ts (i + 1) y ey)) in
    split (bit out c)
    (λ o. let t = rw o at s in absurd (omega (arith, (with-le c ts (i + 2)).0)))
    (λ o. let t = rw o at s in omega arith)
