-- `printing::write_gates` meets its contract: the line of its count, and the gates behind it.
use Prim.Native.Nat.{◌*◌}
use lib.ListN.{length}
use Rattle.text.specs.Clauses.{named_size, number_size}
use Rattle.text.proofs.Sizes.{prints-both}
use Rattle.spelling.specs.Texts.{gates_text}
use Rattle.printing.proofs.write_gates.Goals as goal

pub returns : goal.returns
unfolding gates_text
returns c =
    prints-both (named_size 5 1) (number_size * length c.args.numbers.now) _ _ c.args.at _ _ c.requires.fits c.write_named-next.ensures _ _ _ c.write_rows.ensures
