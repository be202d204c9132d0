-- `compare::weigh_cz` meets its contract.
use Rattle.parity.specs.View.{val}
use Rattle.block.proofs.Folding.{differ-is}
use Rattle.compare.proofs.Acting.{weighed-three}
use Rattle.compare.proofs.weigh_cz.Goals as goal

pub returns : goal.returns
returns c =
    weighed-three c.args.i c.args.back c.args.s.now (val c.args.x) (val c.args.y) (val c.bitxor.result) c.args.xs c.args.ys _ c.rotate.new.s
    c.rotate-2.new.s c.rotate-3.new.s c.rotate.ensures c.rotate-2.ensures c.rotate-3.ensures c.bitxor.ensures (differ-is c.args.xs c.args.ys)
