-- What is found from r on is what is found from `from` on.
use mathlib.Core.Path.{◌≡◌}
use Prim.Native.Nat.{◌-◌}
use lib.ListN.{length}
use Rattle.rules.specs.Close.{first_with}
use Rattle.rows.specs.Rows.{rows_of}
use Rattle.rows.proofs.find.Given as goal

abbrev pub invariant-loop-r : goal.invariant-loop-r
invariant-loop-r l = first_with l.column (length (rows_of l.m) - l.from) l.from (rows_of l.m) ≡ first_with l.column (length (rows_of l.m) - l.r) l.r (rows_of l.m)
