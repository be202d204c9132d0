-- `compare::wire` meets its contract.
use Rattle.std.proofs.Common.{sym, length}
use Rattle.rows.specs.Rows.{rows_of}
use Rattle.rows.proofs.Room.{row_count}
use Rattle.compare.proofs.Telling.{rows-length, wire-told}
use Rattle.compare.proofs.wire.Goals as goal

pub returns : goal.returns
returns c =
    let b = c.run.new.rows in
    wire-told (length (rows_of c.args.rows.now)) (length (rows_of b)) (length c.args.rows.now) c.args.i c.args.us.now c.args.vs.now c.none-sums.result c.run.new.s c.run-2.new.s
    c.settled.result c.none-sums.ensures c.run.ensures.sums c.run-2.ensures.sums (rows-length c.args.rows.now b c.run.auto.rows) (sym (row_count c.args.rows.now)) c.settled.ensures
