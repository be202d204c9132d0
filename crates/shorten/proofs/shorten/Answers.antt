-- `shorten::shorten` meets its contract: the answer, and demand 3 of the two texts.
use Rattle.shorten.specs.Answer.{answer}
use Rattle.shorten.proofs.Keeping.{shortens}
use Rattle.shorten.proofs.shorten.Goals as goal

pub returns : goal.returns
unfolding answer
returns c = shortens _ _ _ _ c.answer.ensures
