use Rattle.dilkovan.proofs.Handing.{handed}
use Rattle.dilkovan.proofs.dilkovan_qasm.Goals as goal

pub returns : goal.returns
returns c = handed _ _ _ _ _ _ _ _ c.hand.ensures.told c.hand.ensures.size c.shorten.ensures.says.refused c.shorten.ensures
