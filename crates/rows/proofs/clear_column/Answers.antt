use mathlib.Core.Path.{sym}
use lib.ListN.{length}
use Rattle.rows.specs.Rows.{rows_of, pair}
use Rattle.rows.proofs.Room.{row_count}
use Rattle.rows.proofs.Rounds.{clear-around}
use Rattle.rows.proofs.clear_column.Goals as goal

pub returns : goal.returns
returns c =
    let s = c.args in
    let a = s.a.now in
    rw (c.clear_rows-2.ensures, c.clear_rows.ensures, ← row_count a) (sym (clear-around (length (rows_of a)) s.column (pair (rows_of a) (rows_of s.inv.now)) c.requires.1.0))
