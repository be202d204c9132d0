-- What is printed is what the program's definition says of the text.
use Rattle.list.specs.Answer.{answer}
use Rattle.list_main.proofs.main.Given as goal

abbrev pub ghost-serve : goal.ghost-serve
ghost-serve a = answer
