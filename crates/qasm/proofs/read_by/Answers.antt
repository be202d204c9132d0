-- `qasm::read_by` meets its contract: what is left of the template and of the text comes to what both do.
use mathlib.Core.Path.{sym, ◌∙◌}
use Rattle.qasm.proofs.Pieces.{by-stop, by-once, by_end}
use Rattle.qasm.proofs.read_by.Goals as goal

pub returns-in_err-rest : goal.returns-in_err-rest
returns-in_err-rest c = rw c.from_residual.ensures (sym c.loop-b.invariant ∙ by-stop _ _ c.loop-b-test.true _ _ c.in_err-rest.ensures)

pub loop-b-preserved : goal.loop-b-preserved
loop-b-preserved c = by-once _ _ c.loop-b-test.true _ _ _ _ c.in_ok-rest.ensures ∙ c.loop-b.invariant

pub returns : goal.returns
returns c = sym c.loop-b.invariant ∙ by_end _ _ _ _ c.loop-b-test.false
