-- `qasm::template` meets its contract: the array has the definition's lines.
use mathlib.Core.Path.{refl, sym}
use native.Mathlib.Omega.{arith}
use Rattle.qasm.specs.Table.{table, lines_of, templates, template}
use Rattle.qasm.proofs.Codes.{beyond}
use Rattle.qasm.proofs.Pieces.{now_at}
use Rattle.qasm.proofs.template.Goals as goal

pub returns-then-c-lt28 : goal.returns-then-c-lt28
unfolding template templates lines_of table
returns-then-c-lt28 c = rw now_at refl

pub returns-else-c-lt28 : goal.returns-else-c-lt28
returns-else-c-lt28 c = sym (beyond c.args.code (omega (arith, c.if-c-lt28.false)))
