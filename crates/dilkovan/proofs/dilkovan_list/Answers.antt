use Rattle.dilkovan.proofs.Handing.{handed}
use Rattle.dilkovan.proofs.dilkovan_list.Goals as goal

pub returns : goal.returns
returns c = handed _ _ _ _ _ _ _ _ c.hand.ensures.told c.hand.ensures.size c.list.ensures.says.refused c.list.ensures
