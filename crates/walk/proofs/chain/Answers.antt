use mathlib.Core.Path.{◌≡◌, refl, sym, ap, ◌∙◌}
use mathlib.Core.Logic.{◌≢◌}
use mathlib.Core.Bool.{false≢true}
use Prim.Native.Nat.{◌<◌}
use borrow.Author.Tests.{eqb-true, eqb-false}
use lib.ListN.{length}
use Rattle.std.proofs.lemmas.Result.{err_from_is_err_and}
use Rattle.rules.specs.Shortcuts.{downs}
use Rattle.rules.proofs.Chain.{downs-zero}
use Rattle.parity.specs.View.{val}
use Rattle.rows.specs.Rows.{rows_of}
use Rattle.walk.proofs.Making.{partly-first, partly-next, partly-end}
use Rattle.walk.proofs.Chaining.{rows_same, high_lt, rest_lt, rest-fewer, rest-next, made-cn}
use Rattle.walk.proofs.chain.Goals as goal
use Rattle.walk.proofs.chain.Goals.{After-take_highest-next}

-- a column is left, and the highest is a wire's
some_left : (c : After-take_highest-next) → (val c.loop-target.rest ≢ 0) × (c.take_highest-next.result.column < length c.args.names.now)
some_left c =
    let h = eqb-false (val c.loop-target.rest) 0 (sym c.is_zero.ensures ∙ c.loop-target-test.true) in
    (h, high_lt _ _ _ _ c.loop-target.invariant.columns h c.take_highest-next.ensures)

pub loop-target-init : goal.loop-target-init
loop-target-init c = record { made = partly-first _ _ _ _ _ c.requires.ready; columns = c.requires.t_in_bounds.1 }

pub wire_of-control-requires : goal.wire_of-control-requires
wire_of-control-requires c = (some_left (goal.at.wire_of-control-requires c).After-take_highest-next).1

pub add-requires : goal.add-requires
add-requires c =
    let many : length (rows_of c.loop-target.held) ≡ length c.args.names.now = rows_same c.loop-target.held c.args.held.now c.loop-target.auto.held ∙ c.requires.held_len in
    (rw many (some_left (goal.at.add-requires c).After-take_highest-next).1, rw many c.requires.t_in_bounds.0)

pub returns-in_err-budget : goal.returns-in_err-budget
returns-in_err-budget c =
    let l = c.loop-target in
    let s = some_left (goal.at.returns-in_err-budget c).After-take_highest-next in
    let p = err_from_is_err_and c.from_residual.result c.from_residual.ensures.1 in
    rw (p.1, p.2)
    (partly-end _ _ _ _ _ _ _ _ _ _
    (partly-next _ _ _ _ _ _ _ _ _ _ l.invariant.made refl _ _ (rest-next _ _ _ _ l.invariant.columns s.0 c.take_highest-next.ensures _) _ _ _ _
    (made-cn _ _ _ _ _ _ _ _ _ _ _ _ c.wire_of-control.ensures c.wire_of-target.ensures c.in_err-budget.ensures c.add.ensures))
    (λ e. absurd (false≢true e)))

pub loop-target-smaller : goal.loop-target-smaller
loop-target-smaller c = rest-fewer _ _ _ _ c.loop-target.invariant.columns (some_left (goal.at.loop-target-smaller c).After-take_highest-next).0 c.take_highest-next.ensures

pub loop-target-preserved : goal.loop-target-preserved
loop-target-preserved c =
    let l = c.loop-target in
    let s = some_left (goal.at.loop-target-preserved c).After-take_highest-next in
    record {
      made = partly-next _ _ _ _ _ _ _ _ _ _ l.invariant.made refl _ _ (rest-next _ _ _ _ l.invariant.columns s.0 c.take_highest-next.ensures _) _ _ _ _
          (made-cn _ _ _ _ _ _ _ _ _ _ _ _ c.wire_of-control.ensures c.wire_of-target.ensures c.in_ok-budget.ensures c.add.ensures);
      columns = rest_lt _ _ _ _ l.invariant.columns s.0 c.take_highest-next.ensures;
    }

pub returns : goal.returns
returns c =
    partly-end _ _ _ _ _ _ _ _ _ _ c.loop-target.invariant.made
    (λ _. ap (downs _ _) (eqb-true (val c.loop-target.rest) 0 (sym c.is_zero.ensures ∙ c.loop-target-test.false)) ∙ downs-zero _ _)
