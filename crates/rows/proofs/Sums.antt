-- A row times a matrix: what taking the lowest column out of the row does to the sum.
use mathlib.Core.Path.{◌≡◌, refl, sym, ap, ◌∙◌}
use mathlib.Core.Logic.{◌≢◌}
use mathlib.Core.Bool.{Bool, true, false, ◌&&◌, true≢false}
use mathlib.Core.List.{List, [], ◌∷◌, map}
use Prim.Native.Nat.{ℕ, suc, ◌-◌, ◌^◌, ◌≤◌, ◌<◌, zero-le}
use native.Mathlib.Nat.{lt_of_not-le}
use native.Mathlib.Omega.{arith}
use borrow.Author.Tests.{ne_eqb}
use lib.Dec.{eqb}
use lib.ListN.{get_or, get_or-map}
use Rattle.rules.specs.Bit.{bit, xor}
use Rattle.rules.specs.Close.{times}
use Rattle.rules.proofs.Bits.{same, bit-zero}
use Rattle.parity.specs.Columns.{clear_lowest, Lowest}
use Rattle.parity.proofs.Laws.{bit-clear, bit_high}

and-true : (b : Bool) → (b && true) ≡ b
and-true true = refl
and-true false = refl

and-false : (b : Bool) → (b && false) ≡ false
and-false true = refl
and-false false = refl

module _ (v t : ℕ) (p : Lowest v t) where
  stays : (j : ℕ) → j ≢ t → bit (clear_lowest v) j ≡ bit v j
  stays j n = bit-clear v t j p ∙ rw (ne_eqb j t n) (and-true (bit v j))

  goes : (j : ℕ) → eqb j t ≡ true → bit (clear_lowest v) j ≡ false
  goes j e = bit-clear v t j p ∙ rw e (and-false (bit v j))

  -- the rows above the lowest column are selected as before
  above : (r : ℕ) (xs : List ℕ) → t < r → times v r xs ≡ times (clear_lowest v) r xs
  unfolding times
  above r [] h = refl
  above r (x ∷ xs) h = rw (stays r (λ e. omega arith), above (suc r) xs (omega arith))

  from : (r : ℕ) (xs : List ℕ) → r ≤ t → times v r xs ≡ xor (get_or xs (t - r) 0) (times (clear_lowest v) r xs)
  unfolding times xor
  from r [] h = refl
  from r (x ∷ xs) h =
      same r t
      (λ e f.
      let z : t - r ≡ 0 = omega arith in
      let b : bit v r ≡ true = ap (bit v) e ∙ p.set in
      rw (z, b, goes r f, above (suc r) xs (omega arith)))
      (λ e f.
      let z : t - r ≡ suc (t - suc r) = omega arith in
      rw (z, stays r e, p.below r (omega arith), from (suc r) xs (omega arith)))

  -- the lowest column's row, added to what the others give
  pub times-lowest : (xs : List ℕ) → times v 0 xs ≡ xor (get_or xs t 0) (times (clear_lowest v) 0 xs)
  times-lowest xs = from 0 xs zero-le ∙ ap (λ (i : ℕ). xor (get_or xs i 0) (times (clear_lowest v) 0 xs)) (omega arith)

  -- the lowest column is below any width that the number has
  pub lowest-lt : (n : ℕ) → v < 2 ^ n → t < n
  lowest-lt n h = lt_of_not-le (λ (l : n ≤ t). true≢false (sym p.set ∙ bit_high v n t h l))

pub times_zero : (r : ℕ) (xs : List ℕ) → times 0 r xs ≡ 0
unfolding times
times_zero r [] = refl
times_zero r (x ∷ xs) = rw (bit-zero r, times_zero (suc r) xs)

-- the row of a product
pub product_at : (m l : List ℕ) (r : ℕ) → get_or (map (λ v. times v 0 m) l) r 0 ≡ times (get_or l r 0) 0 m
product_at m l r = ap (λ (d : ℕ). get_or (map (λ v. times v 0 m) l) r d) (sym (times_zero 0 m)) ∙ get_or-map (λ v. times v 0 m) l r 0
