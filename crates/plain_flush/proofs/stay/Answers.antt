-- `plain_flush::stay` meets its contract.
use Rattle.std.proofs.Common.{sym}
use Rattle.rules.proofs.Reading.{gates-length}
use Rattle.plain_flush.proofs.Choosing.{keeps-run}
use Rattle.plain_flush.proofs.stay.Goals as goal

pub returns : goal.returns
returns c write x e f = keeps-run write c.args.run.now _ _ _ x e f c.copy.ensures (sym (gates-length c.args.run.now))
