-- The planes have the counts of the first i terms.
use mathlib.Core.Path.{◌≡◌}
use mathlib.Core.Bool.{false}
use Prim.Native.Nat.{ℕ}
use lib.ListN.{take}
use Rattle.terms.specs.Terms.{terms_of}
use Rattle.rows.specs.Rows.{rows_of}
use Rattle.column.specs.Planes.{tally}
use Rattle.column.proofs.Scanning.{with}
use Rattle.column.proofs.count_columns.Given as goal

abbrev pub invariant-loop-i : goal.invariant-loop-i
invariant-loop-i l = (c : ℕ) → tally false c (rows_of l.planes) ≡ with c (take l.i (terms_of l.set))
