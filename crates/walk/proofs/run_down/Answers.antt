use mathlib.Core.Path.{◌≡◌, refl, ◌∙◌}
use Prim.Native.Nat.{◌*◌, ◌^◌, ◌≤◌, ◌<◌}
use native.Mathlib.Omega.{arith}
use lib.ListN.{length}
use lib.Seq.{slice}
use Rattle.std.proofs.lemmas.Result.{err_from_is_err_and}
use Rattle.parity.specs.View.{val}
use Rattle.terms.specs.Terms.{terms_of}
use Rattle.terms.proofs.Room.{room-length, room-same}
use Rattle.walk.specs.Later.{current}
use Rattle.walk.proofs.Deferring.{deferred-slice}
use Rattle.walk.proofs.Splitting.{room-slice}
use Rattle.walk.proofs.Chaining.{chosen-lt, chosen-apart, run-spent, run-made}
use Rattle.walk.proofs.run_down.Goals as goal
use Rattle.walk.proofs.run_down.Goals.{Start, After-choose-goal}

-- the room is far below the largest number
near : (c : Start) → 24 * c.args.end < 2 ^ 64
near c = omega (arith, c.requires.start_le_end.1, room-length c.args.room.now)

-- the column that is chosen is a wire's, as all of the mask are
chosen : (c : After-choose-goal) → let g = c.choose-goal.result in (g.column < length c.args.names.now) × (val g.mask < 2 ^ length c.args.names.now)
chosen c = chosen-lt _ _ _ _ c.requires.live_in_bounds.1 c.requires.live_in_bounds.0 _ c.choose-goal.ensures c.requires.target_in_bounds

pub defer-requires-clause-t_bound : goal.defer-requires-clause-t_bound
defer-requires-clause-t_bound c =
    let k = chosen (goal.at.defer-requires-clause-t_bound c).After-choose-goal in
    (omega (arith, k.0, c.requires.wires.few), chosen-apart _ _ _ _ c.requires.live_in_bounds.1 c.requires.live_in_bounds.0 _ c.choose-goal.ensures c.requires.target_value)

pub chain-requires-clause-t_in_bounds : goal.chain-requires-clause-t_in_bounds
chain-requires-clause-t_in_bounds c = chosen (goal.at.chain-requires-clause-t_in_bounds c).After-choose-goal

pub returns-in_err-budget : goal.returns-in_err-budget
returns-in_err-budget c =
    let p = err_from_is_err_and c.from_residual.result c.from_residual.ensures.1 in
    rw (p.1, p.2) (
      record {
        column = c.choose-goal.result.column;
        mask = val c.choose-goal.result.mask;
        chosen = c.choose-goal.ensures;
        made = run-spent _ _ _ _ _ _ _ _ _ _ _ c.in_err-budget.ensures refl;
        terms = c.defer.ensures.terms;
      },
      c.defer.ensures.waits,
    )

pub overflow_mul-start : goal.overflow_mul-start
overflow_mul-start c = omega (arith, c.requires.start_le_end.0, near (goal.at.overflow_mul-start c).Start)

pub overflow_mul-end : goal.overflow_mul-end
overflow_mul-end c = omega (arith, near (goal.at.overflow_mul-end c).Start)

pub offset_bounds-room-start : goal.offset_bounds-room-start
offset_bounds-room-start c = omega (arith, c.requires.start_le_end.0, near (goal.at.offset_bounds-room-start c).Start)

pub slice_bounds-end_leaf-end : goal.slice_bounds-end_leaf-end
slice_bounds-end_leaf-end c = omega (arith, c.requires.start_le_end.1, room-length c.args.room.now, c.defer.auto.room)

pub end_leaf-requires-clause-target_in_bounds : goal.end_leaf-requires-clause-target_in_bounds
end_leaf-requires-clause-target_in_bounds c = λ t e. let k = (chosen (goal.at.end_leaf-requires-clause-target_in_bounds c).After-choose-goal).0 in let q : c.choose-goal.result.column ≡ t = cc in omega arith

pub returns : goal.returns
returns c =
    let same-term : slice c.args.start c.args.end (terms_of c.defer.new.room) ≡ slice c.args.start c.args.end (current c.args.f.now (terms_of c.args.room.now)) = deferred-slice _ _ c.args.start c.args.end _ _ _ _ c.defer.ensures in
    let inside = c.requires.start_le_end in
    let fits : c.args.end ≤ length (terms_of c.defer.new.room) = rw (room-same _ c.args.room.now c.defer.auto.room) inside.1 in (
      record {
        column = c.choose-goal.result.column;
        mask = val c.choose-goal.result.mask;
        chosen = c.choose-goal.ensures;
        made = run-made _ _ _ _ _ _ _ _ _ _ _ c.in_ok-budget.ensures refl _ _ _ (rw (room-slice c.args.start c.args.end c.defer.new.room inside.0 fits ∙ same-term) at c.end_leaf.ensures);
        terms = c.defer.ensures.terms;
      },
      c.defer.ensures.waits,
    )
