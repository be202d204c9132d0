-- `parity::Parity::digit` meets its contract.
use mathlib.Core.Path.{sym, ap, ◌∙◌}
use mathlib.Core.Bool.{Bool, cond}
use native.Mathlib.Omega.{arith}
use borrow.Author.Rules.{rules}
use Prim.Native.Nat.{◌-◌}
use Rattle.parity.proofs.Words.{low_bit, high_bit, digit-cond}
use Rattle.parity.proofs.Parity.digit.Goals as goal

pub returns-then-column-lt64 : goal.returns-then-column-lt64
returns-then-column-lt64 c =
    let s = c.args in
    let e = digit-cond s.self.lo s.column in
    (e ∙ ap (λ (b : Bool). cond b 1 0) (sym (low_bit 64 s.column s.self.hi s.self.lo (omega arith))), omega arith)

pub returns-else-column-lt64 : goal.returns-else-column-lt64
returns-else-column-lt64 c =
    let s = c.args in
    let e = digit-cond s.self.hi (s.column - 64) in
    (e ∙ ap (λ (b : Bool). cond b 1 0) (sym (high_bit 64 s.column s.self.hi s.self.lo (search rules) (omega arith))), omega arith)
