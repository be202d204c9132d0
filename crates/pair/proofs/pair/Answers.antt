-- `pair::pair` meets its contract: the answer, and what it means.
use Rattle.pair.proofs.Meaning.{pairs}
use Rattle.pair.proofs.pair.Goals as goal

pub returns : goal.returns
returns c = pairs _ _ _ _ c.answer.ensures
