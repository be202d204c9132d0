-- What is left to clear gives what the whole does, and the pivot rows are as they were.
use mathlib.Core.Path.{◌≡◌}
use Prim.Native.Nat.{◌-◌}
use lib.ListN.{get_or}
use Rattle.rules.specs.Close.{clear_both}
use Rattle.parity.proofs.Tables.{Table}
use Rattle.rows.specs.Rows.{rows_of, pair}
use Rattle.rows.proofs.clear_rows.Given as goal

abbrev pub invariant-loop-r : goal.invariant-loop-r
invariant-loop-r l = record {
  pivot : Table (get_or (rows_of l.a) l.column 0) l.pivot;
  follow : Table (get_or (rows_of l.inv) l.column 0) l.follow;
  rest : clear_both l.column (l.to - l.from) l.from (pair (rows_of l.initial.a) (rows_of l.initial.inv)) ≡ clear_both l.column (l.to - l.r) l.r (pair (rows_of l.a) (rows_of l.inv));
}
