-- `alike::check_gates` meets its contract. The loop's invariant: the gates left decide what all do.
use mathlib.Core.Path.{◌≡◌}
use Prim.Native.Nat.{◌-◌}
use Rattle.alike.specs.Asking.{asked_from}
use Rattle.alike.proofs.check_gates.Given as goal

abbrev pub invariant-loop-i : goal.invariant-loop-i
invariant-loop-i l = asked_from l.list l.wires l.n 0 ≡ asked_from l.list l.wires (l.n - l.i) l.i
