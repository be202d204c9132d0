-- `list::list` meets its contract: the answer, and demand 3 of what is printed.
use Rattle.list.specs.Answer.{answer}
use Rattle.list.proofs.Keeping.{lists}
use Rattle.list.proofs.list.Goals as goal

pub returns : goal.returns
unfolding answer
returns c = lists _ _ _ _ c.answer.ensures
