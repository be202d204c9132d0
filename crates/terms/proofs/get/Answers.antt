-- `terms::get` meets its contract: the three numbers stand in the room, and they are the term.
use Rattle.terms.proofs.Room.{room-get}
use Rattle.terms.proofs.get.Goals as goal

pub returns : goal.returns
returns c = room-get _ _ c.requires
