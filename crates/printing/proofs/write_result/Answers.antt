-- `printing::write_result` meets its contract: the list, and the counts behind it.
use lib.ListN.{length}
use Rattle.text.proofs.Sizes.{prints-both}
use Rattle.spelling.specs.Texts.{result_text}
use Rattle.printing.specs.Clauses.{section_size, list_size}
use Rattle.printing.proofs.write_result.Goals as goal

pub returns : goal.returns
unfolding result_text
returns c =
    prints-both (list_size (length c.args.numbers.now)) (section_size 6 (length c.args.counts.now)) _ _ c.args.at _ _ c.requires.fits c.write_list-last.ensures _ _ _ c.write_section.ensures
