-- `compare::run_from` meets its contract: what is left of the list ends where the whole does.
use Rattle.std.proofs.Common.{◌≡◌, length}
use Rattle.compare.specs.View.{table_at}
use Rattle.compare.proofs.Running.{Left}
use Rattle.compare.proofs.run_from.Given as goal

abbrev pub invariant-loop-k : goal.invariant-loop-k
invariant-loop-k l = record {
  size : length l.rows ≡ length l.initial.rows;
  left : Left l.list l.n l.i l.back (table_at l.initial.flips l.initial.rows) l.initial.s l.k (table_at l.flips l.rows) l.s;
}
