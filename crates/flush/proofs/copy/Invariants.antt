-- `flush::copy` meets its contract. The loop's invariant: the first i numbers are the run's. The measure is the numbers left.
use mathlib.Core.Path.{◌≡◌}
use Prim.Native.Nat.{◌≤◌, ◌-◌}
use lib.ListN.{length, take}
use Rattle.flush.proofs.copy.Given as goal

abbrev pub invariant-loop-i : goal.invariant-loop-i
invariant-loop-i l = (length l.place ≡ length l.run) × (l.i ≤ length l.run) × (take l.i l.place ≡ take l.i l.run)

abbrev pub decreases-loop-i : goal.decreases-loop-i
decreases-loop-i l = length l.run - l.i
