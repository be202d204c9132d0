-- `lanes::beside` meets its contract.
use Rattle.std.proofs.Common.{rules}
use Rattle.parity.specs.View.{val}
use Rattle.lanes.proofs.Digits as Digits
use Rattle.lanes.proofs.beside.Goals as goal

pub returns : goal.returns
returns c =
    Digits.beside c.args.p.hi c.args.p.lo c.args.i c.word.result (val c.all.result) (val c.bitand.result) c.requires (search rules) c.word.ensures c.all.ensures c.bitand.ensures
