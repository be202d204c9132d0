-- `printing::write_section` meets its contract: the line of its count, and its lines behind it.
use Prim.Native.Nat.{◌*◌}
use lib.ListN.{length}
use Rattle.text.specs.Clauses.{line_size, named_size}
use Rattle.text.proofs.Sizes.{prints-both}
use Rattle.spelling.specs.Texts.{section_text}
use Rattle.printing.proofs.write_section.Goals as goal

pub returns : goal.returns
unfolding section_text
returns c =
    prints-both (named_size (length c.args.word.now) 1) (line_size * length c.args.values.now) _ _ c.args.at _ _ c.requires.fits c.write_named-next.ensures _ _ _ c.write_lines.ensures
