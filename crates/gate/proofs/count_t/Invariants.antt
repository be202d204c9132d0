-- `gate::count_t` meets its contract.
use mathlib.Core.Path.{◌≡◌}
use Prim.Native.Nat.{◌+◌, ◌-◌, ◌/◌, ◌≤◌}
use lib.ListN.{length}
use Rattle.rules.specs.Limits.{width}
use Rattle.rules.specs.Numbers.{gates_from, gates_of}
use Rattle.rules.specs.Counts.{ts}
use Rattle.gate.proofs.count_t.Given as goal

abbrev pub invariant-loop-i : goal.invariant-loop-i
invariant-loop-i l = (l.sum ≤ l.i) × (l.sum + ts (gates_from l.list (length l.list / width - l.i) l.i) ≡ ts (gates_of l.list))
