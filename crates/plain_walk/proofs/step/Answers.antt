use mathlib.Core.Path.{refl, sym, ◌∙◌}
use native.Mathlib.Omega.{arith}
use borrow.Author.Tests.{eqb-true, eqb-false}
use Rattle.terms.proofs.Room.{room-length, room-same}
use Rattle.walk.proofs.Aims.{target-owed}
use Rattle.walk.proofs.Splitting.{room-slice}
use Rattle.walk.proofs.Nodes.{newest}
use Rattle.plain_walk.proofs.Visits.{top-more, step-drop, pay-roomy, step-pay, leaf-roomy, step-leaf, step-branch, lies}
use Rattle.plain_walk.proofs.step.Goals as goal

pub offset_bounds-nodes-at : goal.offset_bounds-nodes-at
offset_bounds-nodes-at c = let l = lies _ _ c.requires.standing c.requires.depth_nonzero in omega arith

pub slice_copy_out-d : goal.slice_copy_out-d
slice_copy_out-d c = (lies _ _ c.requires.standing c.requires.depth_nonzero).inside

pub returns-then-d-end : goal.returns-then-d-end
returns-then-d-end c = let l = lies _ _ c.requires.standing c.requires.depth_nonzero in step-drop _ _ c.requires.standing _ l.under _ refl c.if-d-end.true

pub pay-made-requires-clause-owed_in_bounds : goal.pay-made-requires-clause-owed_in_bounds
pay-made-requires-clause-owed_in_bounds c =
    let l = lies _ _ c.requires.standing c.requires.depth_nonzero in
    (l.aimed.owed _ _ c.in-Owes.is, l.aimed.target _ (target-owed _ _ _ c.in-Owes.is))

pub pay-made-requires-clause-start_in_bounds : goal.pay-made-requires-clause-start_in_bounds
pay-made-requires-clause-start_in_bounds c = let l = lies _ _ c.requires.standing c.requires.depth_nonzero in (omega arith, l.inside)

pub pay-made-requires-clause-fits : goal.pay-made-requires-clause-fits
pay-made-requires-clause-fits c = let l = lies _ _ c.requires.standing c.requires.depth_nonzero in pay-roomy _ _ c.requires.standing _ l.under _ refl c.if-d-end.false _ _ c.in-Owes.is

pub returns-in-Owes : goal.returns-in-Owes
returns-in-Owes c =
    let l = lies _ _ c.requires.standing c.requires.depth_nonzero in
    step-pay _ _ c.requires.standing _ l.under _ refl c.if-d-end.false _ _ c.in-Owes.is _ _ _ _ _ c.pay-made.ensures (room-same _ _ c.pay-made.auto.room)

pub overflow_mul-d : goal.overflow_mul-d
overflow_mul-d c = let l = lies _ _ c.requires.standing c.requires.depth_nonzero in omega (arith, room-length c.args.room.now)

pub overflow_mul-end : goal.overflow_mul-end
overflow_mul-end c = let l = lies _ _ c.requires.standing c.requires.depth_nonzero in omega (arith, room-length c.args.room.now)

pub offset_bounds-room-d : goal.offset_bounds-room-d
offset_bounds-room-d c = let l = lies _ _ c.requires.standing c.requires.depth_nonzero in omega (arith, room-length c.args.room.now)

pub slice_bounds-end_leaf-end : goal.slice_bounds-end_leaf-end
slice_bounds-end_leaf-end c = let l = lies _ _ c.requires.standing c.requires.depth_nonzero in omega (arith, room-length c.args.room.now)

pub slice_bounds-end_leaf-count : goal.slice_bounds-end_leaf-count
slice_bounds-end_leaf-count c = let l = lies _ _ c.requires.standing c.requires.depth_nonzero in omega arith

pub slice_bounds-end_leaf-start : goal.slice_bounds-end_leaf-start
slice_bounds-end_leaf-start c = let l = lies _ _ c.requires.standing c.requires.depth_nonzero in omega arith

pub end_leaf-made-requires : goal.end_leaf-made-requires
end_leaf-made-requires c =
    let l = lies _ _ c.requires.standing c.requires.depth_nonzero in
    let d = newest c.args.nodes.now c.args.s.depth in
    rw c.target-target.ensures
    record {
      wires = c.requires.standing.wires;
      target_in_bounds = l.aimed.target;
      roomy = rw (room-slice d.start c.args.s.end c.args.room.now l.starts l.ends)
          (leaf-roomy _ _ c.requires.standing _ l.under _ refl c.if-d-end.false (record { none = c.in_default.not-Owes }) (eqb-true _ 0 (sym c.is_zero.ensures ∙ c.if-is_zero.true)));
    }

pub returns-then-is_zero : goal.returns-then-is_zero
returns-then-is_zero c =
    let l = lies _ _ c.requires.standing c.requires.depth_nonzero in
    let d = newest c.args.nodes.now c.args.s.depth in
    step-leaf _ _ c.requires.standing _ l.under _ refl c.if-d-end.false (record { none = c.in_default.not-Owes }) (eqb-true _ 0 (sym c.is_zero.ensures ∙ c.if-is_zero.true)) _ _
    (rw (c.target-target.ensures, room-slice d.start c.args.s.end c.args.room.now l.starts l.ends) at c.end_leaf-made.ensures)

pub branch-room-requires : goal.branch-room-requires
branch-room-requires c =
    let l = lies _ _ c.requires.standing c.requires.depth_nonzero in
    let st = c.requires.standing in
    record {
      start_le_end = (l.starts, l.ends);
      at_in_bounds = omega (arith, top-more _ _ st _ l.under _ refl (eqb-false _ 0 (sym c.is_zero.ensures ∙ c.if-is_zero.false)), st.wide);
    }

pub returns : goal.returns
returns c =
    let l = lies _ _ c.requires.standing c.requires.depth_nonzero in
    step-branch _ _ c.requires.standing _ l.under _ refl c.if-d-end.false (record { none = c.in_default.not-Owes }) (eqb-false _ 0 (sym c.is_zero.ensures ∙ c.if-is_zero.false)) _ _ c.branch-room.ensures (room-same _ _ c.branch-room.auto.room)
