-- `say` of `import::Translate` meets its contract: what is printed is the list.
use native.Mathlib.Omega.{arith}
use lib.ListN.{length}
use Rattle.printing.specs.Clauses.{list_size}
use Rattle.saying.proofs.Saying.{says-printed}
use Rattle.import.specs.Answer.{translated}
use Rattle.import.proofs.TranslateProgram.say.Goals as goal

pub returns : goal.returns
unfolding translated
returns c =
    says-printed _ (list_size (length c.args.numbers.now)) _ _ _ _ (omega (arith, c.requires.few.whole, c.requires.few.few, c.requires.fits)) c.write_list.ensures
