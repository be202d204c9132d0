-- `taking::count_new` meets its contract.
use mathlib.Core.Path.{◌≡◌, refl}
use mathlib.Core.Bool.{Bool, true, false, not, cond}
use Prim.Native.Nat.{◌≤◌}
use native.Mathlib.Omega.{arith}
use mir.Val.{bool_byte}

byte : (t : Bool) → (bool_byte (not (not t)) ≡ cond t 1 0) × (bool_byte (not (not t)) ≤ 1)
byte true = (refl, omega arith)
byte false = (refl, omega arith)
