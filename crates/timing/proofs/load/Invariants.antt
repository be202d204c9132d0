-- `timing::load` meets its contract: the rows before r are the room's.
use Rattle.std.proofs.Common.{◌≡◌, take}
use Rattle.rows.specs.Rows.{rows_of}
use Rattle.timing.specs.Doors.{rows_in}
use Rattle.timing.proofs.load.Given as goal

abbrev pub invariant-loop-r : goal.invariant-loop-r
invariant-loop-r l = take l.r (rows_of l.rows) ≡ take l.r (rows_in l.room)
