-- `terms::put` meets its contract: the three numbers stand in the room, and they are the term.
use Rattle.terms.proofs.Room.{room-stores}
use Rattle.terms.proofs.put.Goals as goal

pub returns : goal.returns
returns c = room-stores _ _ _ _ _ c.requires
