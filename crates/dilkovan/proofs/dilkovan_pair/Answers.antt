use Rattle.dilkovan.proofs.Handing.{handed}
use Rattle.dilkovan.proofs.dilkovan_pair.Goals as goal

pub returns : goal.returns
returns c = handed _ _ _ _ _ _ _ _ c.hand.ensures.told c.hand.ensures.size c.pair.ensures.says.refused c.pair.ensures
