use Rattle.dilkovan.proofs.Handing.{handed}
use Rattle.dilkovan.proofs.dilkovan_trace.Goals as goal

pub returns : goal.returns
returns c = handed _ _ _ _ _ _ _ _ c.hand.ensures.told c.hand.ensures.size c.trace.ensures.refused c.trace.ensures
