-- Every place up to `i` has its mark.
use Rattle.std.proofs.Common.{◌≡◌, length}
use Rattle.rules.proofs.Filling.{Upto}
use Rattle.marks.proofs.mark.Given as goal

abbrev pub invariant-loop-i : goal.invariant-loop-i
invariant-loop-i g l = (length l.room ≡ length l.fn.room) × Upto g.T.Marking.mark g.T.Marking.NONE l.room l.i
