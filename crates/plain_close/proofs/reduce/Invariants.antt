-- `plain_close::reduce` meets its contract. The loop's invariant: what is left to reduce gives what the whole does, and each column took at most as many
-- additions as there are rows.
use Rattle.std.proofs.Common.{◌≡◌, ◌≤◌, ◌-◌, ◌*◌, length}
use Rattle.rules.specs.Close.{reduce_from}
use Rattle.rows.specs.Rows.{rows_of}
use Rattle.closing.specs.Additions.{held, wanted}
use Rattle.plain_close.proofs.reduce.Given as goal

abbrev pub invariant-loop-column : goal.invariant-loop-column
invariant-loop-column l = record {
  few : l.k ≤ l.column * length (rows_of l.initial.m);
  left : wanted (rows_of l.initial.m) ≡ reduce_from (length (rows_of l.initial.m)) (length (rows_of l.initial.m) - l.column) l.column (held l.m l.steps l.k);
}
