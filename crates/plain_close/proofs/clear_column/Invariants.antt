-- `plain_close::clear_column` meets its contract. The loop's invariant: what is left to clear gives what the whole does.
use Rattle.std.proofs.Common.{◌≡◌, ◌≤◌, ◌-◌, ◌+◌, length}
use Rattle.rules.specs.Close.{clear}
use Rattle.rows.specs.Rows.{rows_of}
use Rattle.closing.specs.Additions.{held}
use Rattle.plain_close.proofs.clear_column.Given as goal

abbrev pub invariant-loop-r : goal.invariant-loop-r
invariant-loop-r l = record {
  few : l.noted ≤ l.k + l.r;
  left : clear l.column (length (rows_of l.initial.m)) 0 (held l.initial.m l.initial.steps l.k) ≡ clear l.column (length (rows_of l.initial.m) - l.r) l.r (held l.m l.steps l.noted);
}
