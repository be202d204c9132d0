-- `taking::fits` meets its contract.
use mathlib.Core.Path.{◌≡◌, refl}
use mathlib.Core.Bool.{Bool, true, false, not, ◌&&◌, cond}
use Prim.Native.Nat.{ℕ}
use lib.Dec.{eqb}
use mir.Val.{bool_byte}
use Rattle.rules.proofs.Bits.{split}
use Rattle.taking.specs.Asking.{new}

-- the second wire counts where there are two and it has not joined
more : (two j : Bool) (v : ℕ) → j ≡ not (eqb v 0) → bool_byte (two && not j) ≡ cond two (new v) 0
more true j v e = split (eqb v 0) (λ f. rw (e, f)) (λ f. rw (e, f))
more false j v e = refl
