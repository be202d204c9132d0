-- `lanes::none_below` meets its contract.
use Rattle.parity.specs.View.{val}
use Rattle.lanes.proofs.Digits.{none_below}
use Rattle.lanes.proofs.none_below.Goals as goal

pub returns : goal.returns
returns c = rw c.is_zero.ensures (none_below (val c.args.p) (val c.bitand.result) (val c.all.result) c.args.n c.all.ensures c.bitand.ensures)
