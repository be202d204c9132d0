-- `timing::store` meets its contract.
use Rattle.std.proofs.Common.{arith, sym}
use Rattle.rows.specs.Rows.{rows_of}
use Rattle.rows.proofs.Room.{row_count, row_get}
use Rattle.rows.proofs.Rounds.{fill-next, fill_end}
use Rattle.timing.specs.Doors.{rows_in}
use Rattle.timing.proofs.Words.{words_count, words-put}
use Rattle.timing.proofs.store.Goals as goal

pub loop-r-preserved : goal.loop-r-preserved
loop-r-preserved c =
    let l = c.loop-r in
    let rows = c.args.rows.now in
    rw (words-put l.room l.r _ _ (omega (arith, words_count l.room))) (fill-next (rows_of rows) (rows_in l.room) l.r l.invariant _ (omega (arith, words_count l.room)) (omega (arith, row_count rows)) (sym (row_get rows l.r)))

pub returns : goal.returns
returns c = let l = c.loop-r in fill_end (rows_of c.args.rows.now) (rows_in l.room) l.r l.invariant (omega (arith, words_count l.room)) (omega (arith, row_count c.args.rows.now))
