use Rattle.dilkovan.proofs.Blaming.{blamed-fits}
use Rattle.dilkovan.proofs.dilkovan_alike.Goals as goal

pub blamed-requires : goal.blamed-requires
blamed-requires c = blamed-fits _ _ _ _ c.alike.ensures
