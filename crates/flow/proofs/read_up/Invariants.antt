-- What came stands behind what was there, and each turn reads a byte at least. The measure is the room that is left.
use Rattle.std.proofs.Common.{◌≡◌, ◌≤◌, ◌-◌, length, take, slice_range}
use Rattle.std.specs.Io.KnownBytes.{Consumes}
use Rattle.flow.proofs.read_up.Given as goal

abbrev pub invariant-loop-end : goal.invariant-loop-end
invariant-loop-end g l = record {
  least : l.from ≤ l.end;
  most : l.end ≤ length l.initial.input;
  front : take l.from l.input ≡ take l.from l.initial.input;
  came : Consumes (g.R.Read.remaining l.initial.reader) (g.R.Read.remaining l.reader) (slice_range l.input l.from l.end);
}

abbrev pub decreases-loop-end : goal.decreases-loop-end
decreases-loop-end g l = length l.initial.input - l.end
