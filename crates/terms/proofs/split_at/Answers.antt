-- `terms::split_at` meets its contract, by what `split` ensures of the part.
use Rattle.terms.proofs.Parts.{part-split}
use Rattle.terms.proofs.split_at.Goals as goal

pub returns : goal.returns
returns c = part-split _ _ _ c.requires.1.0 c.requires.1.1 _ _ _ c.split.auto.room c.split.ensures
