-- `taking::parity_of` meets its contract.
use Rattle.std.proofs.Common.{◌∙◌, sym, ap, arith}
use Rattle.join.specs.Tables.{number_of}
use Rattle.rows.proofs.Room.{row_count, row_get}
use Rattle.taking.proofs.Taking.{parity-old, parity-new}
use Rattle.taking.proofs.parity_of.Goals as goal

pub bounds-b-at : goal.bounds-b-at
bounds-b-at c = omega (arith, row_count c.args.b.now.rows, c.requires.old _ (sym c.place_of.ensures ∙ ap number_of c.in-Some.is))

pub returns-in-Some : goal.returns-in-Some
returns-in-Some c = parity-old _ _ _ _ _ (sym c.place_of.ensures ∙ ap number_of c.in-Some.is) (sym (row_get c.args.b.now.rows c.in-Some.at.0))

pub returns-in-None : goal.returns-in-None
returns-in-None c = parity-new _ _ _ _ (sym c.place_of.ensures ∙ ap number_of c.in-None.is) c.single.ensures
