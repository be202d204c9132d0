-- `gate::check_gates` meets its contract.
use mathlib.Core.Path.{sym, ◌∙◌}
use native.Mathlib.Omega.{arith}
use Rattle.gate.proofs.Steps.{stops, goes_on, ends}
use Rattle.gate.proofs.check_gates.Goals as goal

pub returns-in-Some : goal.returns-in-Some
returns-in-Some c =
    let s = c.args in
    sym (c.loop-i.invariant ∙ stops s.list.now s.wires s.bits s.n c.loop-i.i c.in-Some.fault (omega arith) c.in-Some.ensures)

pub loop-i-preserved : goal.loop-i-preserved
loop-i-preserved c =
    let s = c.args in
    c.loop-i.invariant ∙ goes_on s.list.now s.wires s.bits s.n c.loop-i.i (omega arith) c.in_default.ensures

pub returns : goal.returns
returns c =
    let s = c.args in
    sym (c.loop-i.invariant ∙ ends s.list.now s.wires s.bits s.n c.loop-i.i (omega arith))
