-- `gate::stamp` meets its contract.
use mathlib.Core.Path.{ap, sym, ◌∙◌}
use native.Mathlib.Nat.{sub-zero}
use native.Mathlib.Omega.{arith}
use Rattle.gate.proofs.Tests.{stored}
use Prim.Native.Nat.{ℕ}
use Rattle.gate.specs.Writing.{stamped}
use Rattle.gate.proofs.Lines.{stamped-next, stamped-end}
use Rattle.gate.proofs.stamp.Goals as goal

pub loop-i-init : goal.loop-i-init
loop-i-init c = ap (λ (k : ℕ). stamped c.args.line k 0 c.args.out.now) (sub-zero c.args.n)

pub loop-i-preserved : goal.loop-i-preserved
loop-i-preserved c =
    let a = c.args in
    let at = c.loop-i in
    rw (stored a.line (omega arith)) (sym (stamped-next a.line a.n at.i at.out (omega arith)) ∙ at.invariant)

pub returns : goal.returns
returns c = let at = c.loop-i in sym (stamped-end c.args.line c.args.n at.i at.out (omega arith)) ∙ at.invariant
