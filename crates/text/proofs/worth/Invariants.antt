-- `text::worth` meets its contract: the digits so far are counted.
use Rattle.std.proofs.Common.{◌≡◌, min, take}
use Rattle.text.specs.Reading.{worth}
use Rattle.text.specs.Clauses.{top}
use Rattle.text.proofs.worth.Given as goal

abbrev pub invariant-loop-b : goal.invariant-loop-b
invariant-loop-b l = l.v ≡ min top (worth 0 (take l.b-index l.digits))
