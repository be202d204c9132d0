-- Places tested one by one.
use mathlib.Core.Path.{◌≡◌, refl, sym, ◌∙◌}
use mathlib.Core.Bool.{Bool, true, false, ◌&&◌}
use Prim.Native.Nat.{ℕ, suc, ◌+◌, ◌-◌, ◌≤◌, ◌<◌}
use native.Mathlib.Numerals.{add-one}
use native.Mathlib.Omega.{arith}
use Rattle.marks.specs.Marks.{every}

and_assoc : (r b v : Bool) → ((r && b) && v) ≡ (r && (b && v))
and_assoc true b v = refl
and_assoc false b v = refl

and-true : (r : Bool) → (r && true) ≡ r
and-true true = refl
and-true false = refl

-- what was found so far, and the tests that are left
module _ (test : ℕ → Bool) (n i : ℕ) (r v : Bool) (e : (r && every test (n - i) i) ≡ v) where
  pub every-next : (b : Bool) → i < n → b ≡ test i → ((r && b) && every test (n - (i + 1)) (i + 1)) ≡ v
  unfolding every
  every-next b h f =
      let k : n - i ≡ suc (n - (i + 1)) = omega arith in
      let g : (r && (test i && every test (n - (i + 1)) (suc i))) ≡ v = rw k at e in
      and_assoc r b (every test (n - (i + 1)) (i + 1)) ∙ rw f (rw (← add-one i) at g)

  pub every-end : n ≤ i → r ≡ v
  unfolding every
  every-end h =
      let k : n - i ≡ 0 = omega arith in
      sym (and-true r) ∙ rw k at e
