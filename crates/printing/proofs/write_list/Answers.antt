-- `printing::write_list` meets its contract: the head, and the gates behind it.
use lib.ListN.{length}
use Rattle.text.proofs.Sizes.{prints-both}
use Rattle.spelling.specs.Texts.{list_text}
use Rattle.printing.specs.Clauses.{head_size, gates_size}
use Rattle.printing.proofs.write_list.Goals as goal

pub returns : goal.returns
unfolding list_text
returns c =
    prints-both head_size (gates_size (length c.args.numbers.now)) _ _ c.args.at _ _ c.requires.fits c.write_head-gates.ensures _ _ _ c.write_gates.ensures
