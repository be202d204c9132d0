-- The machine's signed numbers, as the definitions have them.
use mathlib.Core.Path.{◌≡◌, sym, ap, ◌∙◌}
use mathlib.Core.List.{List}
use Prim.Native.Nat.{ℕ, suc, ◌-◌, ◌*◌, ◌^◌, ◌<◌}
use native.Mathlib.Nat.{add-zero}
use native.Mathlib.Omega.{arith}
use lib.IntN.{ℤ, pos, negsuc}
use lib.Signed.{mag}
use lib.ListN.{get_or}
use mir.Syntax.{w32}
use mir.Val.{to_z, of_z, SFits}
use mir.ValLaws.{to_z-of_z}
use Rattle.rules.specs.Limits.{width}
use Rattle.rules.specs.Numbers.{nat_of, field}

-- what the machine reads back from a number of a list
pub back : (l : List ℤ) (j : ℕ) → mag (get_or l j (pos 0)) < 2 ^ 31 → to_z w32 (of_z w32 (get_or l j (pos 0))) ≡ get_or l j (pos 0)
back l j h = to_z-of_z w32 (get_or l j (pos 0)) (record { sfits = h })

-- what it stores for a number that fits
pub stored : (n : ℕ) → n < 2 ^ 31 → to_z w32 n ≡ pos n
stored n h = to_z-of_z w32 (pos n) (record { sfits = h })

-- what it reads from the bits of a number, each turned over
pub inverted : (m : ℕ) → m < 2 ^ 31 → to_z w32 (4294967295 - m) ≡ negsuc m
inverted m h =
    let e : 4294967295 - m ≡ 2 ^ 32 - suc m = omega arith in
    rw e (to_z-of_z w32 (negsuc m) (record { sfits = omega arith }))

-- a gate's code stands first
pub code_at : (l : List ℤ) (i : ℕ) → get_or l (width * i) (pos 0) ≡ field l i 0
code_at l i = ap (λ (j : ℕ). get_or l j (pos 0)) (sym (add-zero (width * i)))

nat_lt : (z : ℤ) → mag z < 2 ^ 31 → nat_of z < 2 ^ 31
nat_lt (pos n) h = h
nat_lt (negsuc n) h = omega arith

-- a number that `nat` reads from a field
pub read_small : (z : ℤ) (r : ℕ) → SFits w32 z → r ≡ nat_of (to_z w32 (of_z w32 z)) → (r ≡ nat_of z) × (r < 2 ^ 31)
read_small z r h e =
    let f : r ≡ nat_of z = e ∙ ap nat_of (to_z-of_z w32 z h) in
    (f, rw f (nat_lt z h.sfits))
