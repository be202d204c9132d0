-- `timing::load` meets its contract.
use Rattle.std.proofs.Common.{arith}
use Rattle.rows.specs.Rows.{rows_of}
use Rattle.rows.proofs.Room.{row_count, row_put}
use Rattle.rows.proofs.Rounds.{fill-next, fill_end}
use Rattle.timing.specs.Doors.{rows_in}
use Rattle.timing.proofs.Words.{words_count, words-get}
use Rattle.timing.proofs.load.Goals as goal

pub loop-r-preserved : goal.loop-r-preserved
loop-r-preserved c =
    let l = c.loop-r in
    let room = c.args.room.now in
    rw (row_put l.rows l.r _) (fill-next (rows_in room) (rows_of l.rows) l.r l.invariant _ (omega (arith, row_count l.rows)) (omega (arith, words_count room)) (words-get room l.r (omega (arith, words_count room))))

pub returns : goal.returns
returns c = let l = c.loop-r in fill_end (rows_in c.args.room.now) (rows_of l.rows) l.r l.invariant (omega (arith, row_count l.rows)) (omega (arith, words_count c.args.room.now))
