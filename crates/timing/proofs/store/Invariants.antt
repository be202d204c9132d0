-- `timing::store` meets its contract: the room's rows before r are those given.
use Rattle.std.proofs.Common.{◌≡◌, take}
use Rattle.rows.specs.Rows.{rows_of}
use Rattle.timing.specs.Doors.{rows_in}
use Rattle.timing.proofs.store.Given as goal

abbrev pub invariant-loop-r : goal.invariant-loop-r
invariant-loop-r l = take l.r (rows_in l.room) ≡ take l.r (rows_of l.rows)
