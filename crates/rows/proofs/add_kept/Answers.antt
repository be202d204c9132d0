use mathlib.Core.Path.{◌∙◌, ap}
use Rattle.rules.specs.Bit.{xor}
use Rattle.rows.proofs.Room.{row_sum}
use Rattle.rows.proofs.add_kept.Goals as goal

pub returns : goal.returns
returns c = row_sum _ _ _ _ (c.bitxor.ensures ∙ ap (xor _) c.kept.ensures)
