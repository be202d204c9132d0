-- Of the mask's CNOTs, all but those from the columns left are made. The measure is the columns left.
use mathlib.Core.Bool.{true}
use Prim.Native.Nat.{◌^◌, ◌<◌}
use lib.ListN.{length}
use Rattle.rules.specs.Bit.{bit}
use Rattle.rules.specs.Left.{tally}
use Rattle.rules.specs.Shortcuts.{downs}
use Rattle.parity.specs.View.{val}
use Rattle.budget.specs.View.{view}
use Rattle.rows.specs.Rows.{rows_of}
use Rattle.walk.proofs.Making.{Partly}
use Rattle.walk.proofs.chain.Given as goal

abbrev pub invariant-loop-target : goal.invariant-loop-target
invariant-loop-target l = record {
  made : Partly l.names (downs (length l.names) l.t (val l.initial.rest)) (downs (length l.names) l.t (val l.rest)) l.initial.out (view l.initial.budget) (rows_of l.initial.held) l.out (view l.budget) (rows_of l.held) true;
  columns : val l.rest < 2 ^ length l.names;
}

abbrev pub decreases-loop-target : goal.decreases-loop-target
decreases-loop-target l = tally (length l.names) (bit (val l.rest))
