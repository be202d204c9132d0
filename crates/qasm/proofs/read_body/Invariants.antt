-- `qasm::read_body` meets its contract: what is left of the text comes to what all of it does.
use Prim.Native.Nat.{◌+◌, ◌-◌, ◌≤◌}
use lib.ListN.{length}
use Rattle.qasm.specs.Import.{body}
use Rattle.qasm.proofs.Keeping.{Goes}
use Rattle.qasm.proofs.read_body.Given as goal

abbrev pub invariant-loop-rest : goal.invariant-loop-rest
invariant-loop-rest l =
    record { shorter : l.i + length l.rest ≤ length l.text; goes : Goes (body (length l.text) l.wires l.bits l.line l.text) (body (length l.text - l.i) l.wires l.bits (l.line + l.i) l.rest) l.most l.fn.numbers l.numbers l.i }

abbrev pub decreases-loop-rest : goal.decreases-loop-rest
decreases-loop-rest l = length l.rest
