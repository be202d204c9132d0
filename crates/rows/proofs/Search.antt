-- The first row with a column: what the search learns at one row.
use mathlib.Core.Path.{◌≡◌}
use mathlib.Core.Bool.{true, false}
use mathlib.Core.List.{List}
use mathlib.Core.Option.{none, some}
use Prim.Native.Nat.{ℕ, suc, ◌+◌, ◌-◌, ◌≤◌, ◌<◌}
use native.Mathlib.Numerals.{add-one}
use native.Mathlib.Omega.{arith}
use lib.ListN.{get_or}
use Rattle.rules.specs.Bit.{bit}
use Rattle.rules.specs.Close.{first_with}

module _ (c n r : ℕ) (m : List ℕ) where
  pub first-end : n ≤ r → first_with c (n - r) r m ≡ none
  unfolding first_with
  first-end h = let e : n - r ≡ 0 = omega arith in rw e

  pub first-miss : r < n → bit (get_or m r 0) c ≡ false → first_with c (n - r) r m ≡ first_with c (n - (r + 1)) (r + 1) m
  unfolding first_with
  first-miss h b = let e : n - r ≡ suc (n - (r + 1)) = omega arith in rw (e, b, add-one r)

  pub first-hit : r < n → bit (get_or m r 0) c ≡ true → first_with c (n - r) r m ≡ some r
  unfolding first_with
  first-hit h b = let e : n - r ≡ suc (n - (r + 1)) = omega arith in rw (e, b)
