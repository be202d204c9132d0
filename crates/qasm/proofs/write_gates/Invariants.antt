-- `qasm::write_gates` meets its contract: the lines so far, and those left.
use Prim.Native.Nat.{◌-◌, ◌*◌, ◌/◌}
use lib.ListN.{length, drop}
use Rattle.rules.specs.Limits.{width}
use Rattle.text.proofs.Begun.{Begun}
use Rattle.qasm.specs.Export.{statements_text}
use Rattle.qasm.specs.Clauses.{statement_size}
use Rattle.qasm.proofs.write_gates.Given as goal

abbrev pub invariant-loop-row : goal.invariant-loop-row
invariant-loop-row l =
    let n = length l.numbers / width in
    Begun (statement_size * l.row-index) (statements_text (n - l.row-index) (drop (width * l.row-index) l.numbers)) (statements_text n l.numbers) l.initial.out l.at l.out l.next
