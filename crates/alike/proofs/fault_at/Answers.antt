-- `alike::fault_at` meets its contract.
use mathlib.Core.Path.{ap, ◌∙◌}
use mathlib.Core.Bool.{true, false}
use Prim.Native.Nat.{◌*◌}
use lib.IntN.{pos}
use lib.ListN.{get_or}
use mir.Syntax.{w32}
use mir.ValLaws.{to_z-of_z}
use Rattle.rules.specs.Numbers.{nat_of}
use Rattle.gate.specs.Tests.{told}
use Rattle.gate.proofs.Tests.{code_at}
use Rattle.alike.proofs.Checking.{asked_by}
use Rattle.alike.proofs.fault_at.Goals as goal

pub returns-then-passes_nine-opaque : goal.returns-then-passes_nine-opaque
returns-then-passes_nine-opaque c =
    let s = c.args in
    let code = to_z-of_z w32 (get_or s.list.now (6 * s.i) (pos 0)) (search) in
    asked_by s.list.now s.wires s.i c.nat-code.result (told c.fault_at-fault.result) c.passes_nine.result true (c.nat-code.ensures ∙ ap nat_of (code ∙ code_at s.list.now s.i)) c.fault_at-fault.ensures c.passes_nine.ensures c.if-passes_nine-opaque.true

pub returns-else-passes_nine-opaque : goal.returns-else-passes_nine-opaque
returns-else-passes_nine-opaque c =
    let s = c.args in
    let code = to_z-of_z w32 (get_or s.list.now (6 * s.i) (pos 0)) (search) in
    asked_by s.list.now s.wires s.i c.nat-code.result (told c.fault_at-fault.result) c.passes_nine.result false (c.nat-code.ensures ∙ ap nat_of (code ∙ code_at s.list.now s.i)) c.fault_at-fault.ensures c.passes_nine.ensures c.if-passes_nine-opaque.false
