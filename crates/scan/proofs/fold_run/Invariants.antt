-- `scan::fold_run` meets its contract: the state holds the block of the gates so far, and the list is cut behind them as it is before them.
use mathlib.Core.Path.{◌≡◌}
use mathlib.Core.List.{List, []}
use Prim.Native.Nat.{ℕ, ◌≤◌}
use lib.IntN.{ℤ}
use lib.ListN.{length}
use Rattle.rules.specs.Plan.{Plan}
use Rattle.rules.specs.Scan.{cut}
use Rattle.terms.specs.Terms.{Indexed}
use Rattle.plan.specs.View.{view}
use Rattle.block.specs.View.{Holds}
use Rattle.block.specs.declared.Block.{Block}
use Rattle.scan.specs.Scanning.{run, rest}
use Rattle.scan.proofs.Folding.{folded}
use Rattle.scan.proofs.fold_run.Given as goal

-- what a round finds at gate i
pub record Folds (p : Plan) (l : List ℤ) (start i : ℕ) (b : Block) (table room heads : List ℕ) : Type 0 where
  pub holds : Holds (folded l start i) b table room
  pub cuts : cut p [] (rest l start) ≡ cut p (run l start i) (rest l i)
  pub indexed : Indexed heads room b.terms
  pub narrow : length (folded l start i).rows ≤ p.qubits

abbrev pub invariant-loop-i : goal.invariant-loop-i
invariant-loop-i l = (l.start ≤ l.i) × Folds (view l.plan) l.list l.start l.i l.block l.table l.room l.heads
