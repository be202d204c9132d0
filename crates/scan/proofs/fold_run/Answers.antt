-- `scan::fold_run` meets its contract: the state holds the block of the gates so far, and the list is cut behind them as it is before them.
use mathlib.Core.Path.{◌≡◌, refl, ◌∙◌}
use native.Mathlib.Omega.{arith}
use Rattle.rules.specs.Numbers.{gate_at}
use Rattle.rules.specs.Meaning.{op}
use Rattle.rules.specs.Scan.{takes}
use Rattle.terms.proofs.Room.{room-same}
use Rattle.terms.proofs.Indexing.{indexed-none}
use Rattle.plan.specs.View.{view}
use Rattle.block.specs.Steps.{Wired}
use Rattle.block.proofs.Codes.{op-read}
use Rattle.absorb.proofs.Absorbing.{absorb-ready}
use Rattle.taking.proofs.Taking.{ask-ready}
use Rattle.scan.specs.Scanning.{gates_in}
use Rattle.scan.proofs.Folding.{run_none, folded, narrow-none, narrow_next, cut_on, start, wired, spare, spare_low, asked, next}
use Rattle.scan.proofs.fold_run.Goals as goal

pub loop-i-init : goal.loop-i-init
loop-i-init c =
    let a = c.args in
    let f = c.requires.foldable in
    let h = c.requires.headed in (
      omega arith,
      record {
        holds = start a.list.now a.table.now a.room.now a.start c.clear.new.self c.clear.ensures f.clear (omega arith) (omega arith);
        cuts = rw (run_none a.list.now a.start) refl;
        indexed = rw c.clear.ensures.terms (indexed-none _ _ h.some h.few);
        narrow = narrow-none (view a.plan) a.list.now a.start;
      },
    )

pub takes-requires : goal.takes-requires
takes-requires c =
    let l = c.loop-i in
    let i = l.invariant.1 in
    let f = c.requires.foldable in
    let wires : Wired c.read-g.result l.table = wired c.args.list.now l.table l.room _ l.i c.read-g.result f.checked c.loop-i-test.true c.read-g.ensures l.auto.table in
    ask-ready i.holds c.read-g.result c.args.plan.qubits wires f.capped i.indexed

-- a gate that is not taken
pub returns-then-not-takes : goal.returns-then-not-takes
returns-then-not-takes c =
    let l = c.loop-i in
    let a = c.args in
    let i = l.invariant.1 in
    let answer : takes (view a.plan) (op (gate_at a.list.now l.i)) (folded a.list.now a.start l.i) ≡ c.takes.result = asked a.list.now l.table l.room a.start l.i (view a.plan) c.read-g.result l.block c.takes.result c.read-g.ensures i.holds c.takes.ensures in
    record { onward = l.invariant.0; inside = omega (arith, c.loop-i-test.true); holds = i.holds; narrow = i.narrow; cuts = i.cuts; full = λ h. answer ∙ c.if-not-takes.true }

pub absorb-requires : goal.absorb-requires
absorb-requires c =
    let l = c.loop-i in
    let a = c.args in
    let i = l.invariant.1 in
    let f = c.requires.foldable in
    let here = c.loop-i-test.true in
    let wires : Wired c.read-g.result l.table = wired a.list.now l.table l.room _ l.i c.read-g.result f.checked here c.read-g.ensures l.auto.table in
    let answer : takes (view a.plan) (op (gate_at a.list.now l.i)) (folded a.list.now a.start l.i) ≡ c.takes.result = asked a.list.now l.table l.room a.start l.i (view a.plan) c.read-g.result l.block c.takes.result c.read-g.ensures i.holds c.takes.ensures in
    absorb-ready i.holds c.read-g.result (view a.plan) wires f.capped
    (spare a.list.now l.table l.room a.start l.i l.block i.holds here (omega (arith, f.clear.terms, room-same l.room a.room.now l.auto.room)))
    (spare_low a.list.now l.table l.room a.start l.i l.block i.holds here f.checked.few)
    i.indexed
    (rw (op-read _ c.read-g.result c.read-g.ensures) (answer ∙ c.if-not-takes.false))

pub loop-i-preserved : goal.loop-i-preserved
loop-i-preserved c =
    let l = c.loop-i in
    let a = c.args in
    let i = l.invariant.1 in
    let r = c.absorb in
    let here = c.loop-i-test.true in
    let answer : takes (view a.plan) (op (gate_at a.list.now l.i)) (folded a.list.now a.start l.i) ≡ c.takes.result = asked a.list.now l.table l.room a.start l.i (view a.plan) c.read-g.result l.block c.takes.result c.read-g.ensures i.holds c.takes.ensures in (
      omega (arith, l.invariant.0),
      record {
        holds = next a.list.now l.table l.room a.start l.i c.read-g.result l.block r.new.b _ _ l.invariant.0 c.read-g.ensures i.holds r.ensures.holds;
        cuts = i.cuts ∙ cut_on (view a.plan) a.list.now a.start l.i l.invariant.0 here (answer ∙ c.if-not-takes.false);
        indexed = r.ensures.indexed;
        narrow = narrow_next (view a.plan) a.list.now a.start l.i l.invariant.0 (answer ∙ c.if-not-takes.false);
      },
    )

-- the list ends
pub returns : goal.returns
returns c =
    let l = c.loop-i in
    let e : l.i ≡ gates_in c.args.list.now = omega (arith, c.loop-i-test.false, l.auto.i-end c.requires.foldable.inside) in
    let i = (rw e at l.invariant).1 in
    record { onward = c.requires.foldable.inside; inside = omega arith; holds = i.holds; narrow = i.narrow; cuts = i.cuts; full = λ h. absurd (omega arith) }
