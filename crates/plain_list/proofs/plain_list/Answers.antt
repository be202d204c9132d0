-- `plain_list::plain_list` meets its contract: the answer, which is the list program's, and demand 3 of what is printed.
use Rattle.plain_list.specs.Answer.{answer}
use Rattle.plain_list.proofs.Keeping.{plains}
use Rattle.plain_list.proofs.plain_list.Goals as goal

pub returns : goal.returns
unfolding answer
returns c = plains _ _ _ _ c.answer.ensures
