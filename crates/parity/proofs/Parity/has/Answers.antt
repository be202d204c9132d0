-- `parity::Parity::has` meets its contract.
use mathlib.Core.Path.{sym, ◌∙◌}
use native.Mathlib.Omega.{arith}
use borrow.Author.Rules.{rules}
use Prim.Native.Nat.{◌-◌}
use Rattle.parity.proofs.Words.{low_bit, high_bit, digit-bit}
use Rattle.parity.proofs.Parity.has.Goals as goal

pub returns-then-column-lt64 : goal.returns-then-column-lt64
returns-then-column-lt64 c =
    let s = c.args in
    digit-bit s.self.lo s.column ∙ sym (low_bit 64 s.column s.self.hi s.self.lo (omega arith))

pub returns-else-column-lt64 : goal.returns-else-column-lt64
returns-else-column-lt64 c =
    let s = c.args in
    digit-bit s.self.hi (s.column - 64) ∙ sym (high_bit 64 s.column s.self.hi s.self.lo (search rules) (omega arith))
