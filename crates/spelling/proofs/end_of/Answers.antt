-- `spelling::end_of` meets its contract.
use Prim.Native.Nat.{◌+◌, ◌-◌}
use native.Mathlib.Omega.{arith}
use borrow.Author.Tests.{eq-eqb, ne_eqb}
use Rattle.spelling.proofs.end_of.Goals as goal

pub returns-then-k-n : goal.returns-then-k-n
returns-then-k-n c =
    let s = c.args in
    rw (ne_eqb (s.n - (s.k + 1)) 0 (λ h. omega arith))

pub returns-else-k-n : goal.returns-else-k-n
returns-else-k-n c =
    let s = c.args in
    rw (eq-eqb (s.n - (s.k + 1)) 0 (omega arith))
