-- `export::export` meets its contract: the answer, and what is printed reads back.
use Rattle.export.specs.Answer.{answer}
use Rattle.export.proofs.Keeping.{exports}
use Rattle.export.proofs.export.Goals as goal

pub returns : goal.returns
unfolding answer
returns c = exports _ _ _ _ c.answer.ensures
