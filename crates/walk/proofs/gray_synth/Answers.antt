use mathlib.Core.Path.{◌≡◌, refl, sym, ap, ◌∙◌, subst}
use mathlib.Core.Bool.{false≢true}
use mathlib.Core.List.{List, [], ◌∷◌}
use Prim.Native.Nat.{◌+◌, ◌-◌, ◌/◌, ◌^◌, ◌≤◌, ◌<◌}
use native.Mathlib.Omega.{arith}
use lib.ListN.{length, set}
use Rattle.std.proofs.lemmas.Result.{err_from_is_err_and}
use Rattle.rules.specs.Fold.{Term}
use Rattle.rules.specs.Walk.{free, node}
use Rattle.rules.specs.Left.{left}
use Rattle.budget.specs.View.{view}
use Rattle.terms.specs.Terms.{terms_of}
use Rattle.terms.proofs.Room.{room-length}
use Rattle.walk.specs.Later.{current, no_flips}
use Rattle.walk.specs.Place.{Place, stack, place_of, Standing}
use Rattle.walk.proofs.Deferring.{now-length, now-none, waits-none}
use Rattle.walk.proofs.Steps.{lies}
use Rattle.walk.proofs.Chaining.{rows_same}
use Rattle.walk.proofs.Looping.{walk_first, stepped-from, walk-standing, walk-lighter, walk-next, walk_end, first-left, first-standing}
use Rattle.walk.proofs.gray_synth.Goals as goal
use Rattle.walk.proofs.gray_synth.Goals.{After-none}

-- the stack has room for a node more than there are wires
wide : (c : After-none) → length c.args.names.now + 1 ≤ length c.args.nodes.now
wide c = omega (arith, c.requires.deep, c.requires.many)

-- the steps that the loop begins with are the whole walk
whole : (c : After-none)
    → left (length c.args.names.now) (stack (place_of (set c.args.nodes.now 0 c.first.result) c.args.room.now c.args.held.now c.args.out.now (record { depth = 1; end = length c.args.room.now / 3; pending = c.none.result }) (view c.args.b)))
    ≡ left c.args.n (node (2 ^ c.args.n - 1) free (terms_of c.args.room.now) ∷ [])
whole c =
    let ts = terms_of c.args.room.now in
    rw c.none.ensures
    (first-left c.args.names.now c.args.n c.requires.many (set c.args.nodes.now 0 c.first.result) c.args.nodes.now c.all.result (ap (set c.args.nodes.now 0) c.first.ensures) (wide c) c.all.ensures (current no_flips ts) (length c.args.room.now / 3)
    (omega (arith, room-length c.args.room.now, now-length no_flips ts))
    ∙ ap (λ (us : List Term). left c.args.n (node (2 ^ c.args.n - 1) free us ∷ [])) (now-none no_flips ts refl))

pub loop-s-init : goal.loop-s-init
loop-s-init c =
    let ts = terms_of c.args.room.now in
    rw c.none.ensures
    record {
      walked = walk_first _ _ (first-standing _ _ c.requires.many _ c.args.nodes.now _ (ap (set c.args.nodes.now 0) c.first.ensures) (wide (goal.at.loop-s-init c).After-none) c.all.ensures _ _ (omega (arith, room-length c.args.room.now, now-length no_flips ts)) _ _ _ c.requires.wires c.requires.rows c.requires.ready);
      waits = waits-none _;
    }

pub ready-s-requires-clause-depth_nonzero : goal.ready-s-requires-clause-depth_nonzero
ready-s-requires-clause-depth_nonzero c =
    let w : 0 < c.loop-s.s.depth = omega arith in
    (w, (lies _ _ _ _ _ _ _ (walk-standing _ _ _ _ _ c.loop-s.invariant.walked refl) w).inside)

pub step-requires-clause-standing : goal.step-requires-clause-standing
step-requires-clause-standing c = subst (Standing _) (sym (c.ready-s.ensures.same _ _ _)) (walk-standing _ _ _ _ _ c.loop-s.invariant.walked refl)

pub step-requires-clause-depth_nonzero : goal.step-requires-clause-depth_nonzero
step-requires-clause-depth_nonzero c = rw (ap (λ (p : Place). p.depth) (c.ready-s.ensures.same [] [] (view c.args.b))) c.loop-s-test.true

pub returns-in_err-budget : goal.returns-in_err-budget
returns-in_err-budget c =
    let l = c.loop-s in
    let st = walk-standing _ _ _ _ _ l.invariant.walked refl in
    let k = c.step.auto in
    let p = err_from_is_err_and c.from_residual.result c.from_residual.ensures.1 in
    let turned = stepped-from _ _ _ _ _ (c.ready-s.ensures.same _ _ _) c.in_err-budget.ensures.0 in
    let next = walk-next _ _ _ _ _ l.invariant.walked refl _ _ turned (omega (arith, st.wide, k.nodes)) (rows_same _ l.held k.held ∙ st.many) in
    rw (p.1, p.2, ← whole (goal.at.returns-in_err-budget c).After-none) (walk_end _ _ _ _ _ next (λ e. absurd (false≢true e)))

pub loop-s-smaller : goal.loop-s-smaller
loop-s-smaller c =
    walk-lighter _ _ _ _ _ c.loop-s.invariant.walked refl _ _ (stepped-from _ _ _ _ _ (c.ready-s.ensures.same _ _ _) c.in_ok-budget.ensures.0)

pub loop-s-preserved : goal.loop-s-preserved
loop-s-preserved c =
    let l = c.loop-s in
    let st = walk-standing _ _ _ _ _ l.invariant.walked refl in
    let k = c.step.auto in
    let turned = stepped-from _ _ _ _ _ (c.ready-s.ensures.same _ _ _) c.in_ok-budget.ensures.0 in
    record {
      walked = walk-next _ _ _ _ _ l.invariant.walked refl _ _ turned (omega (arith, st.wide, k.nodes)) (rows_same _ l.held k.held ∙ st.many);
      waits = c.in_ok-budget.ensures.1;
    }

pub returns : goal.returns
returns c = rw (← whole (goal.at.returns c).After-none) (walk_end _ _ _ _ _ c.loop-s.invariant.walked (λ _. omega arith))
