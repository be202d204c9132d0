-- `join::leave` meets its contract: before the name at index i the first i wires have left.
use Rattle.join.proofs.Joining.{Leaving}
use Rattle.join.proofs.leave.Given as goal

abbrev pub invariant-loop-q : goal.invariant-loop-q
invariant-loop-q l = Leaving l.initial.table l.names l.n l.q-index l.table
