-- `compare::run` meets its contract.
use Rattle.compare.proofs.Telling.{from-begin}
use Rattle.compare.proofs.run.Goals as goal

pub returns : goal.returns
returns c = from-begin _ _ _ _ _ _ _ _ _ c.run_from.ensures c.set_units.ensures c.zero.ensures
