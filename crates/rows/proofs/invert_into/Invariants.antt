-- What the columns left give is the whole inverse.
use mathlib.Core.Path.{◌≡◌}
use Prim.Native.Nat.{◌-◌}
use lib.ListN.{length}
use Rattle.rules.specs.Close.{invert_from, inverse}
use Rattle.rows.specs.Rows.{rows_of, pair}
use Rattle.rows.proofs.invert_into.Given as goal

abbrev pub invariant-loop-column : goal.invariant-loop-column
invariant-loop-column l = inverse (rows_of l.initial.a) ≡ invert_from (length (rows_of l.initial.a)) (length (rows_of l.initial.a) - l.column) l.column (pair (rows_of l.a) (rows_of l.inv))
