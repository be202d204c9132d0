-- `compare::step` meets its contract.
use Rattle.rules.specs.Meaning.{op}
use Rattle.gate.specs.Writing.{gate_of}
use Rattle.compare.specs.View.{table_at}
use Rattle.compare.proofs.Running.{step-passes}
use Rattle.compare.proofs.step.Goals as goal

pub returns : goal.returns
returns c = step-passes c.args.i c.args.back (op (gate_of c.args.g)) (table_at c.args.flips c.args.rows.now) c.args.s.now _ _ c.act.ensures c.weigh.ensures
