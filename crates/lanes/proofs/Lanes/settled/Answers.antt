-- `Lanes::settled` meets its contract.
use Rattle.std.proofs.Common.{refl}
use Rattle.parity.specs.View.{val}
use Rattle.lanes.proofs.Settling.{settles}
use Rattle.lanes.proofs.Lanes.settled.Goals as goal

pub returns : goal.returns
returns c =
    settles c.args.i c.args.n c.args.self.now (val c.bitor.result) c.none_below.result c.even.result _ c.bitor.ensures c.none_below.ensures c.even.ensures refl
