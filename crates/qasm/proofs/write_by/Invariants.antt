-- `qasm::write_by` meets its contract: the bytes so far, and those left.
use Prim.Native.Nat.{◌-◌, ◌≤◌}
use lib.ListN.{drop}
use Rattle.text.proofs.Begun.{Begun}
use Rattle.qasm.specs.Statement.{spell_by}
use Rattle.qasm.specs.Clauses.{template_size}
use Rattle.qasm.proofs.write_by.Given as goal

abbrev pub invariant-loop-b : goal.invariant-loop-b
invariant-loop-b l =
    (template_size (drop l.b-index l.template) ≤ template_size l.template)
    × Begun (template_size l.template - template_size (drop l.b-index l.template)) (spell_by (drop l.b-index l.template) l.row) (spell_by l.template l.row) l.initial.out l.at l.out l.next
