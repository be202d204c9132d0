-- `terms::word` meets its contract: the number stands in the room.
use Rattle.terms.proofs.Room.{room_word}
use Rattle.terms.proofs.word.Goals as goal

pub returns : goal.returns
returns c = room_word _ _ c.requires
