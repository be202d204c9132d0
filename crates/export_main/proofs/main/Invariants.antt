-- What is printed is what the program's definition says of the text.
use Rattle.export.specs.Answer.{answer}
use Rattle.export_main.proofs.main.Given as goal

abbrev pub ghost-serve : goal.ghost-serve
ghost-serve a = answer
