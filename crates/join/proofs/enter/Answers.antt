-- `join::enter` meets its contract.
use Rattle.std.proofs.Common.{add-one}
use Rattle.join.proofs.Joining.{enters_is}
use Rattle.join.proofs.enter.Goals as goal

pub returns : goal.returns
returns c = enters_is _ _ _ _ _ c.requires (add-one c.args.n)
