-- `parity::Parity::clear_lowest` meets its contract.
use mathlib.Core.Path.{◌≡◌, sym, ap, ◌∙◌}
use Prim.Native.Nat.{◌+◌, ◌*◌, ◌^◌}
use native.Mathlib.Omega.{arith}
use borrow.Author.Rules.{rules}
use Rattle.parity.specs.Columns.{clear_lowest}
use Rattle.parity.proofs.Words.{no-high, clear-low, clear-high}
use Rattle.parity.proofs.Parity.clear_lowest.Goals as goal

pub returns-then-self-ne0 : goal.returns-then-self-ne0
returns-then-self-ne0 c =
    let s = c.args.self in
    sym (clear-low 64 s.hi s.lo (omega arith) (search rules))

pub returns-then-self-ne0-2 : goal.returns-then-self-ne0-2
returns-then-self-ne0-2 c =
    let s = c.args.self in
    let e : s.hi * 2 ^ 64 ≡ s.hi * 2 ^ 64 + s.lo = omega arith in
    omega (arith, clear-high 64 s.hi (omega arith), ap clear_lowest e)

pub returns-else-self-ne0-2 : goal.returns-else-self-ne0-2
unfolding clear_lowest
returns-else-self-ne0-2 c =
    let s = c.args.self in
    let e : s.hi * 2 ^ 64 + s.lo ≡ 0 = no-high 64 s.hi s.lo (omega arith) ∙ omega arith in
    e ∙ sym (ap clear_lowest e)
