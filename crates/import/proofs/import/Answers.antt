-- `import::import` meets its contract: the answer, and what is printed reads back.
use Rattle.import.specs.Answer.{answer}
use Rattle.import.proofs.Keeping.{imports}
use Rattle.import.proofs.import.Goals as goal

pub returns : goal.returns
unfolding answer
returns c = imports _ _ _ _ c.answer.ensures
