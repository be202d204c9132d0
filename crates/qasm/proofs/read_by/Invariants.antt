-- `qasm::read_by` meets its contract: what is left of the template and of the text comes to what both do.
use mathlib.Core.Path.{◌≡◌}
use lib.ListN.{drop}
use Rattle.qasm.specs.Statement.{read_by}
use Rattle.qasm.proofs.read_by.Given as goal

abbrev pub invariant-loop-b : goal.invariant-loop-b
invariant-loop-b l = read_by (drop l.b-index l.template) l.rest l.row ≡ read_by l.template l.text l.fn.row
