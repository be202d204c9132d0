-- `trace::trace` meets its contract.
use Rattle.trace.specs.Answer.{answer}
use Rattle.trace.proofs.trace.Goals as goal

pub returns : goal.returns
unfolding answer
returns c = c.answer.ensures
