-- `compare::quiet` meets its contract: every wire so far is settled.
use Rattle.std.proofs.Common.{◌≡◌, true, length}
use Rattle.rows.specs.Rows.{rows_of}
use Rattle.acting.specs.Alike.{each}
use Rattle.compare.specs.View.{wire_test}
use Rattle.compare.proofs.quiet.Given as goal

abbrev pub invariant-loop-i : goal.invariant-loop-i
invariant-loop-i l = record {
  size : length l.rows ≡ length l.initial.rows;
  settled : each l.i (wire_test (length (rows_of l.initial.rows)) l.us l.vs) ≡ true;
}
