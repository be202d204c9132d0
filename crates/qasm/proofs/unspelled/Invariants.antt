-- `qasm::unspelled` meets its contract: the gates that are left come to what all of them do.
use mathlib.Core.Path.{◌≡◌}
use Prim.Native.Nat.{◌-◌, ◌/◌}
use lib.ListN.{length}
use Rattle.rules.specs.Limits.{width}
use Rattle.qasm.specs.Export.{unspelled_from}
use Rattle.qasm.proofs.unspelled.Given as goal

abbrev pub invariant-loop-i : goal.invariant-loop-i
invariant-loop-i l = let n = length l.numbers / width in unspelled_from l.numbers (n - l.i) l.i ≡ unspelled_from l.numbers n 0
