-- `closing::note` meets its contract.
use Rattle.closing.proofs.Entries.{noted}
use Rattle.closing.proofs.note.Goals as goal

pub returns : goal.returns
returns c = noted _ _ _ _ c.requires.0
