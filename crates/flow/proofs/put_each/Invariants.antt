-- What waits stays within the room, and what was put are the numbers so far.
use Rattle.std.proofs.Common.{◌≤◌, length, take}
use Rattle.std.specs.Io.KnownBytes.{Appends}
use Rattle.flow.specs.Streams.{gone, spelled_all}
use Rattle.flow.proofs.put_each.Given as goal

abbrev pub invariant-loop-number : goal.invariant-loop-number
invariant-loop-number g l =
    let holds = g.W.Write.contents in
    (l.used ≤ length l.fn.output) × Appends (gone (holds l.fn.writer) l.fn.output l.fn.used) (gone (holds l.writer) l.output l.used) (spelled_all g.T.Spelled.bits (take l.number-index l.numbers))
