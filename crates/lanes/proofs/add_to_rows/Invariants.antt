-- `lanes::add_to_rows` meets its contract: what is added already, with what is left, makes the whole. The measure is what is left, as a number.
use Rattle.parity.specs.View.{val}
use Rattle.rows.specs.Rows.{rows_of}
use Rattle.lanes.proofs.Digits.{Left}
use Rattle.lanes.proofs.add_to_rows.Given as goal

abbrev pub invariant-loop-p : goal.invariant-loop-p
invariant-loop-p l = Left (val l.initial.left) (val l.p) (rows_of l.initial.m) (val l.left) (rows_of l.m)

abbrev pub decreases-loop-p : goal.decreases-loop-p
decreases-loop-p l = val l.left
