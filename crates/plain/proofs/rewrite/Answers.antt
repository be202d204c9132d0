-- `plain::rewrite` meets its contract: what the scan says, and what the end of a pass adds.
use mathlib.Core.Path.{ap, ◌∙◌}
use Prim.Native.Nat.{ℕ}
use lib.IntN.{pos}
use lib.ListN.{replicate}
use Rattle.rules.specs.Pass.{writer_of}
use Rattle.plan.specs.View.{view}
use Rattle.cnot_min.proofs.Rooms.{scannable, shorter, counts-are, rewrites}
use Rattle.plain.proofs.rewrite.Goals as goal

pub scan-s-requires-clause-scannable : goal.scan-s-requires-clause-scannable
scan-s-requires-clause-scannable c = let a = c.args in scannable (view a.plan) a.wires a.list.now a.out.now a.terms.now a.steps.now c.requires.rewritable

pub finish-requires : goal.finish-requires
finish-requires c =
    let a = c.args in
    shorter (writer_of (view a.plan)) (view a.plan) a.wires a.list.now a.out.now a.terms.now a.steps.now c.requires.rewritable _ _ c.scan-s.result c.scan-s.ensures c.scan-s.auto.out

pub returns : goal.returns
returns c =
    let a = c.args in
    let t = c.scan-s in
    let f = c.finish in
    let w = writer_of (view a.plan) in (
      rewrites w (view a.plan) a.wires a.list.now a.out.now a.terms.now a.steps.now c.requires.rewritable t.new.out t.new.table t.result t.ensures f.result f.new.out t.new.room t.new.steps f.new.terms f.new.steps
          (counts-are w (view a.plan) a.wires a.list.now a.out.now a.terms.now a.steps.now c.requires.rewritable t.new.out t.new.table t.result t.ensures f.result f.ensures.counts)
          t.auto.out f.ensures.out f.ensures.terms t.auto.room f.ensures.steps t.auto.steps,
      c.fill.ensures.after (λ y e. e) ∙ ap (λ (k : ℕ). replicate k (pos 0)) t.auto.whole,
    )
