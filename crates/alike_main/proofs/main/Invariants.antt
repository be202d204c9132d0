-- What is printed is what the program's definition says of the text.
use Rattle.pair.specs.Answer.{answer}
use Rattle.alike_main.proofs.main.Given as goal

abbrev pub ghost-serve : goal.ghost-serve
ghost-serve a = answer
