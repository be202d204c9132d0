-- `plain::minimize` meets its contract: the needed parts are lent, and the rest is as it was.
use mathlib.Core.Path.{subst}
use Prim.Native.Nat.{◌≤◌}
use native.Mathlib.Omega.{arith}
use Rattle.rules.specs.Limits.{max_columns}
use Rattle.rules.specs.Plan as Rules
use Rattle.rules.specs.Pass.{writer_of}
use Rattle.plan.specs.View.{view}
use Rattle.cnot_min.specs.Minimizing.{Rewrites}
use Rattle.cnot_min.proofs.Rooms.{rewritable, minimized}
use Rattle.plain.proofs.Agreeing.{whole-over, sized}
use Rattle.plain.proofs.minimize.Goals as goal

pub rewrite-requires-clause-rewritable : goal.rewrite-requires-clause-rewritable
rewrite-requires-clause-rewritable c =
    let a = c.args in
    let capped : (view a.plan).qubits ≤ max_columns = omega (arith, c.requires.sized.narrow) in
    rewritable (view a.plan) a.list.now a.wires a.out.now a.terms.now a.steps.now capped c.requires.lent

pub rewrite-requires-clause-sized : goal.rewrite-requires-clause-sized
rewrite-requires-clause-sized c = let a = c.args in sized (view a.plan) a.list.now a.whole.now c.requires.sized

pub returns : goal.returns
returns c =
    let a = c.args in
    let r = c.rewrite in
    record {
      first = λ qcap tcap e. minimized a.list.now qcap tcap r.result _ _ _
          (subst (λ (p : Rules.Plan). Rewrites (writer_of p) p a.list.now r.result r.new.out r.new.terms r.new.steps) e r.ensures.0)
          a.out.now a.terms.now a.steps.now;
      whole_is = whole-over r.new.whole a.whole.now r.ensures.1 c.requires.sized.long;
    }
