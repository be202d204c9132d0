-- The first rows are the units.
use mathlib.Core.Path.{◌≡◌}
use lib.ListN.{length, take}
use Rattle.rules.specs.Close.{units}
use Rattle.rows.specs.Rows.{rows_of}
use Rattle.rows.proofs.set_units.Given as goal

abbrev pub invariant-loop-r : goal.invariant-loop-r
invariant-loop-r l = take l.r (rows_of l.m) ≡ take l.r (units (length (rows_of l.initial.m)) 0)
