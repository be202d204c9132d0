-- `closing::reduce` meets its contract. The outer loop's invariant: what is left to reduce gives what the whole does. The inner loop's: what is left to
-- clear gives what the clearing does that began there, and the pivot row is as it was.
use Rattle.std.proofs.Common.{◌≡◌, ◌≤◌, ◌-◌, ◌+◌, ◌*◌, length, get_or, drop}
use Rattle.rules.specs.Close.{clear, reduce_from}
use Rattle.parity.specs.View.{val}
use Rattle.rows.specs.Rows.{rows_of}
use Rattle.closing.specs.Additions.{held, wanted}
use Rattle.closing.proofs.reduce.Given as goal

abbrev pub invariant-loop-r : goal.invariant-loop-r
invariant-loop-r l = record {
  few : l.k ≤ l.limit;
  beyond : drop (2 * (l.limit + 1)) l.steps ≡ drop (2 * (l.limit + 1)) l.initial.steps;
  pivot : get_or (rows_of l.m) l.column 0 ≡ val l.pivot;
  left : clear l.column (length (rows_of l.initial.m)) 0 (held l.initial.m l.initial.steps l.initial.k) ≡ clear l.column (length (rows_of l.initial.m) - l.r) l.r (held l.m l.steps l.k);
}

abbrev pub invariant-loop-column : goal.invariant-loop-column
invariant-loop-column l = record {
  few : l.k ≤ l.limit;
  beyond : drop (2 * (l.limit + 1)) l.steps ≡ drop (2 * (l.limit + 1)) l.initial.steps;
  left : wanted (rows_of l.initial.m) ≡ reduce_from (length (rows_of l.initial.m)) (length (rows_of l.initial.m) - l.column) l.column (held l.m l.steps l.k);
}
