-- Document 01's number and field for each fault of the code.
use Rattle.std.specs.Prelude.{ℕ}
use Rattle.rules.specs.Refusal as Paper
use Rattle.gate.specs.declared.Field.{Field}
use Rattle.gate.specs.declared.Field.TheVariants.{First, Second, Third}
use Rattle.gate.specs.declared.Fault.{Fault}
use Rattle.gate.specs.declared.Fault.TheVariants.{Length, Gates, Limits, OutRoom, WorkRooms, Code, Unused, Range, Twice, Bit, PlainLimits, Opaque, CompareLimits, Line}

abbrev pub place_of : Field → ℕ
place_of First = 1
place_of Second = 2
place_of Third = 3

abbrev pub tells : Fault → Paper.Fault
tells Length = Paper.tell 1 0
tells Gates = Paper.tell 2 0
tells Limits = Paper.tell 3 0
tells OutRoom = Paper.tell 4 0
tells WorkRooms = Paper.tell 5 0
tells Code = Paper.tell 6 0
tells Unused = Paper.tell 7 0
tells (Range field) = Paper.tell 8 (place_of field)
tells Twice = Paper.tell 9 0
tells Bit = Paper.tell 14 2
tells PlainLimits = Paper.tell 15 0
tells Opaque = Paper.tell 16 0
tells CompareLimits = Paper.tell 17 0
tells Line = Paper.tell 18 0
