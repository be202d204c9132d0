-- `closing::add_noted` meets its contract.
use Rattle.closing.proofs.Entries.{added}
use Rattle.closing.proofs.add_noted.Goals as goal

pub returns : goal.returns
returns c = added _ _ _ _ _ _ _ c.note.ensures c.requires.0 c.add.ensures
