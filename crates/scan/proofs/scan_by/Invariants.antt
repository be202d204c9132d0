-- `scan::scan_by` meets its contract: what stands in the output, with what is made of the rest, is what is made of the list.
use mathlib.Core.Path.{◌≡◌}
use mathlib.Core.List.{List}
use Prim.Native.Nat.{ℕ, ◌-◌}
use lib.IntN.{ℤ}
use lib.ListN.{length}
use Rattle.rules.specs.Plan.{Plan}
use Rattle.rules.specs.Pass.{writer_of}
use Rattle.plan.specs.View.{view}
use Rattle.scan.specs.Scanning.{Unjoined, Stands}
use Rattle.scan.specs.declared.Tally.{Tally}
use Rattle.scan.proofs.scan_by.Given as goal

-- what a round finds: the pieces so far, no wire joined, and each room as long as it was made or lent
pub record Keeps (p : Plan) (l : List ℤ) (table₀ : List ℕ) (out₀ : List ℤ) (room₀ steps₀ : List ℕ) (whole₀ : List ℤ) (table : List ℕ) (out : List ℤ) (room steps : List ℕ) (whole : List ℤ) (s : Tally) : Type 0 where
  pub stands : Stands (writer_of p) p l s out
  pub clear : Unjoined table
  pub table_is : length table ≡ length table₀
  pub out-is : length out ≡ length out₀
  pub room-is : length room ≡ length room₀
  pub steps-is : length steps ≡ length steps₀
  pub whole_is : length whole ≡ length whole₀

abbrev pub invariant-loop-s : goal.invariant-loop-s
invariant-loop-s g l = Keeps (view l.plan) l.list l.initial.table l.initial.out l.initial.room l.initial.steps l.initial.whole l.table l.out l.room l.steps l.whole l.s

abbrev pub decreases-loop-s : goal.decreases-loop-s
decreases-loop-s g l = l.n - l.s.at
