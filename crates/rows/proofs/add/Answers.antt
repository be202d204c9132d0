use Rattle.rules.specs.Close.{add_to}
use Rattle.rows.proofs.Room.{row_get, row_sum}
use Rattle.rows.proofs.add.Goals as goal

pub returns : goal.returns
unfolding add_to
returns c = row_sum _ _ _ _ (rw (row_get c.args.m.now c.args.a) c.bitxor.ensures)
