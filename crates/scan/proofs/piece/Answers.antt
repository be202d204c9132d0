-- `scan::piece` meets its contract: the run from the next gate on is empty, and the gate is copied, or it is a block.
use native.Mathlib.Omega.{arith}
use Rattle.rules.specs.Pass.{writer_of}
use Rattle.plan.specs.View.{view}
use Rattle.block.proofs.Entering.{wires-are}
use Rattle.scan.proofs.Folding.{front}
use Rattle.scan.proofs.Pieces.{low, chosen-run, copied-stands, closed-stands}
use Rattle.scan.proofs.piece.Goals as goal

pub fold_run-end-requires : goal.fold_run-end-requires
fold_run-end-requires g c =
    let p = c.requires.ready in
    record {
      foldable = record {
        checked = p.checked;
        capped = p.capped;
        inside = p.stands.inside;
        clear = p.clear;
      };
      headed = (front _ _ c.heads_in-most.ensures (omega (arith, p.spared.long))).headed;
    }

pub returns-then-end-s : goal.returns-then-end-s
returns-then-end-s g c =
    let a = c.args in
    copied-stands (writer_of (view a.plan)) (view a.plan) a.list.now a.s c.copied.result a.out.now _ c.fold_run-end.result c.requires.ready.stands c.fold_run-end.ensures
    c.if-end-s.true c.requires.ready.more c.copy_gate.ensures c.copied.ensures

pub closed-requires : goal.closed-requires
closed-requires g c =
    let a = c.args in
    let p = c.requires.ready in
    (low p.checked p.stands, omega (arith, c.close-f.ensures.gates, chosen-run (writer_of (view a.plan)) (view a.plan) a.list.now a.s.at c.fold_run-end.result, c.fold_run-end.ensures.inside, p.checked.few))

pub returns : goal.returns
returns g c =
    let a = c.args in
    closed-stands (writer_of (view a.plan)) (view a.plan) a.list.now a.s c.closed.result a.out.now _ c.fold_run-end.result c.requires.ready.stands c.fold_run-end.ensures
    (omega (arith, c.fold_run-end.ensures.onward, c.if-end-s.false)) c.close-f.ensures c.closed.ensures

pub close-f-requires-clause-suits : goal.close-f-requires-clause-suits
close-f-requires-clause-suits g c =
    let f = c.fold_run-end.ensures in
    let q = c.requires.suits in
    record { few = q.few; narrow = omega (arith, wires-are f.holds.rows_are, f.narrow, q.narrow); long = q.long }
