-- `gate::count_two` meets its contract.
use mathlib.Core.Path.{◌≡◌}
use Prim.Native.Nat.{◌+◌, ◌-◌, ◌/◌, ◌≤◌}
use lib.ListN.{length}
use Rattle.rules.specs.Limits.{width}
use Rattle.rules.specs.Numbers.{gates_from, gates_of}
use Rattle.rules.specs.Counts.{twos}
use Rattle.gate.proofs.count_two.Given as goal

abbrev pub invariant-loop-i : goal.invariant-loop-i
invariant-loop-i l = (l.sum ≤ l.i) × (l.sum + twos (gates_from l.list (length l.list / width - l.i) l.i) ≡ twos (gates_of l.list))
