-- What is added already, with what the columns left give, is the whole product.
-- The measure is the columns left, as a number.
use mathlib.Core.Path.{◌≡◌}
use Prim.Native.Nat.{◌≤◌}
use Rattle.rules.specs.Bit.{xor}
use Rattle.rules.specs.Close.{times}
use Rattle.parity.specs.View.{val}
use Rattle.rows.specs.Rows.{rows_of}
use Rattle.rows.proofs.row_times_matrix.Given as goal

abbrev pub invariant-loop-left : goal.invariant-loop-left
invariant-loop-left l = (val l.left ≤ val l.initial.left) × (xor (val l.sum) (times (val l.left) 0 (rows_of l.m)) ≡ times (val l.initial.left) 0 (rows_of l.m))

abbrev pub decreases-loop-left : goal.decreases-loop-left
decreases-loop-left l = val l.left
