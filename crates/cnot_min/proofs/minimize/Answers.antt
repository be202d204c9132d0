-- `cnot_min::minimize` meets its contract: the needed parts are lent, and the rest is as it was.
use mathlib.Core.Path.{sym, subst}
use Prim.Native.Nat.{◌≤◌}
use Rattle.rules.specs.Limits.{max_columns}
use Rattle.rules.specs.Plan as Rules
use Rattle.rules.specs.Pass.{writer_of}
use Rattle.plan.specs.View.{view}
use Rattle.cnot_min.specs.Minimizing.{Rewrites}
use Rattle.cnot_min.proofs.Rooms.{rewritable, clamped, minimized}
use Rattle.cnot_min.proofs.minimize.Goals as goal

pub rewrite-requires : goal.rewrite-requires
rewrite-requires c =
    let a = c.args in
    let capped : (view c.of_caps.result).qubits ≤ max_columns = subst (λ (p : Rules.Plan). p.qubits ≤ max_columns) (sym c.of_caps.ensures) (clamped a.qcap a.tcap) in
    rewritable (view c.of_caps.result) a.list.now a.wires a.out.now a.terms.now a.steps.now capped c.requires

pub returns : goal.returns
returns c =
    let a = c.args in
    let r = c.rewrite in
    minimized a.list.now a.qcap a.tcap r.result _ _ _
    (subst (λ (p : Rules.Plan). Rewrites (writer_of p) p a.list.now r.result r.new.out r.new.terms r.new.steps) c.of_caps.ensures r.ensures)
    a.out.now a.terms.now a.steps.now
