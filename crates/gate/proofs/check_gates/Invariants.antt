-- `gate::check_gates` meets its contract. The loop's invariant: the gates left decide what all do.
use mathlib.Core.Path.{◌≡◌}
use Prim.Native.Nat.{◌-◌}
use Rattle.rules.specs.Refusal.{faults_from}
use Rattle.gate.proofs.check_gates.Given as goal

abbrev pub invariant-loop-i : goal.invariant-loop-i
invariant-loop-i l = faults_from l.list l.wires l.bits l.n 0 ≡ faults_from l.list l.wires l.bits (l.n - l.i) l.i
