-- `cnot_min::rewrite` meets its contract: what the scan says, and what the end of a pass adds.
use Rattle.rules.specs.Pass.{writer_of}
use Rattle.plan.specs.View.{view}
use Rattle.cnot_min.proofs.Rooms.{scannable, shorter, counts-are, rewrites}
use Rattle.cnot_min.proofs.rewrite.Goals as goal

pub scan-s-requires : goal.scan-s-requires
scan-s-requires c = let a = c.args in scannable (view a.plan) a.wires a.list.now a.out.now a.terms.now a.steps.now c.requires

pub finish-requires : goal.finish-requires
finish-requires c =
    let a = c.args in
    shorter (writer_of (view a.plan)) (view a.plan) a.wires a.list.now a.out.now a.terms.now a.steps.now c.requires _ _ c.scan-s.result c.scan-s.ensures c.scan-s.auto.out

pub returns : goal.returns
returns c =
    let a = c.args in
    let t = c.scan-s in
    let f = c.finish in
    let w = writer_of (view a.plan) in
    rewrites w (view a.plan) a.wires a.list.now a.out.now a.terms.now a.steps.now c.requires t.new.out t.new.table t.result t.ensures f.result f.new.out t.new.room t.new.steps f.new.terms f.new.steps
    (counts-are w (view a.plan) a.wires a.list.now a.out.now a.terms.now a.steps.now c.requires t.new.out t.new.table t.result t.ensures f.result f.ensures.counts)
    t.auto.out f.ensures.out f.ensures.terms t.auto.room f.ensures.steps t.auto.steps
