-- `gate::stamp` meets its contract. The loop's invariant: what is left to store gives what all of it does.
use mathlib.Core.Path.{◌≡◌}
use Prim.Native.Nat.{◌-◌}
use Rattle.gate.specs.Writing.{stamped}
use Rattle.gate.proofs.stamp.Given as goal

abbrev pub invariant-loop-i : goal.invariant-loop-i
invariant-loop-i l = stamped l.line (l.n - l.i) l.i l.out ≡ stamped l.line l.n 0 l.initial.out
