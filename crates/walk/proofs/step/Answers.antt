use mathlib.Core.Path.{refl, sym, ap, ◌∙◌}
use mathlib.Core.Bool.{◌&&◌}
use mathlib.Core.List.{List}
use native.Mathlib.Omega.{arith}
use borrow.Author.Tests.{eqb-true, eqb-false}
use lib.Seq.{slice}
use Rattle.rules.specs.Bit.{bit}
use Rattle.rules.specs.Fold.{Term}
use Rattle.rules.specs.Shortcuts.{any}
use Rattle.rules.proofs.Narrowing.{Seen, seen-lt}
use Rattle.parity.specs.View.{val}
use Rattle.terms.specs.Terms.{terms_of}
use Rattle.terms.proofs.Room.{room-length}
use Rattle.walk.specs.Later.{current}
use Rattle.walk.proofs.Aims.{target-owed}
use Rattle.walk.proofs.Deferring.{now-room, now-same, now-branched, waits-same}
use Rattle.walk.proofs.Nodes.{newest}
use Rattle.walk.proofs.Steps.{top-cands, top-more, apart-live, lies, step-drop, step-leaf, step-pay, step_run, step-branch}
use Rattle.walk.proofs.step.Goals as goal
use Rattle.walk.proofs.step.Goals.{After-seen-live}

pub offset_bounds-nodes-at : goal.offset_bounds-nodes-at
offset_bounds-nodes-at c = let l = lies _ _ _ _ _ _ _ c.requires.standing c.requires.depth_nonzero in omega arith

pub slice_copy_out-d : goal.slice_copy_out-d
slice_copy_out-d c = (lies _ _ _ _ _ _ _ c.requires.standing c.requires.depth_nonzero).inside

pub returns-then-d-end : goal.returns-then-d-end
returns-then-d-end c =
    let l = lies _ _ _ _ _ _ _ c.requires.standing c.requires.depth_nonzero in
    (step-drop _ _ c.requires.standing _ l.under _ refl c.if-d-end.true, c.requires.waits.0)

pub pay-requires-clause-owed_in_bounds : goal.pay-requires-clause-owed_in_bounds
pay-requires-clause-owed_in_bounds c =
    let l = lies _ _ _ _ _ _ _ c.requires.standing c.requires.depth_nonzero in
    (l.aimed.owed _ _ c.in-Owes.is, l.aimed.target _ (target-owed _ _ _ c.in-Owes.is))

pub pay-requires-clause-start_in_bounds : goal.pay-requires-clause-start_in_bounds
pay-requires-clause-start_in_bounds c = let l = lies _ _ _ _ _ _ _ c.requires.standing c.requires.depth_nonzero in (omega arith, l.inside)

pub pay-requires-clause-owed_nonzero : goal.pay-requires-clause-owed_nonzero
pay-requires-clause-owed_nonzero c = let l = lies _ _ _ _ _ _ _ c.requires.standing c.requires.depth_nonzero in l.aimed.differ _ _ c.in-Owes.is

pub returns-in-Owes : goal.returns-in-Owes
returns-in-Owes c =
    let l = lies _ _ _ _ _ _ _ c.requires.standing c.requires.depth_nonzero in
    (step-pay _ _ c.requires.standing _ l.under _ refl c.if-d-end.false _ _ c.in-Owes.is _ _ _ _ _ _ c.pay.ensures.0 (now-same _ _ _ _ c.pay.auto.room), c.pay.ensures.1)

-- the candidates that the terms of the newest node have
live : (c : After-seen-live)
    → let s = c.args.s.now in
    let d = newest c.args.nodes.now s.depth in
    Seen (val d.cands) (val c.seen-live.result) (slice d.start s.end (current s.pending (terms_of c.args.room.now)))
live c =
    let s = c.args.s.now in
    let d = newest c.args.nodes.now s.depth in
    let l = lies _ _ _ _ _ _ _ c.requires.standing c.requires.depth_nonzero in
    λ i. c.seen-live.ensures i ∙ ap (λ (ts : List Term). bit (val d.cands) i && any i ts) (now-room s.pending d.start s.end c.args.room.now c.requires.waits.1 l.starts l.ends)

pub overflow_mul-d : goal.overflow_mul-d
overflow_mul-d c = let l = lies _ _ _ _ _ _ _ c.requires.standing c.requires.depth_nonzero in omega (arith, room-length c.args.room.now)

pub overflow_mul-end : goal.overflow_mul-end
overflow_mul-end c = let l = lies _ _ _ _ _ _ _ c.requires.standing c.requires.depth_nonzero in omega (arith, room-length c.args.room.now)

pub offset_bounds-room-d : goal.offset_bounds-room-d
offset_bounds-room-d c = let l = lies _ _ _ _ _ _ _ c.requires.standing c.requires.depth_nonzero in omega (arith, room-length c.args.room.now)

pub slice_bounds-seen-count : goal.slice_bounds-seen-count
slice_bounds-seen-count c = let l = lies _ _ _ _ _ _ _ c.requires.standing c.requires.depth_nonzero in omega arith

pub slice_bounds-seen-start : goal.slice_bounds-seen-start
slice_bounds-seen-start c = let l = lies _ _ _ _ _ _ _ c.requires.standing c.requires.depth_nonzero in omega arith

pub overflow_mul-d-then-is_zero : goal.overflow_mul-d-then-is_zero
overflow_mul-d-then-is_zero c = let l = lies _ _ _ _ _ _ _ c.requires.standing c.requires.depth_nonzero in omega (arith, room-length c.args.room.now)

pub overflow_mul-end-then-is_zero : goal.overflow_mul-end-then-is_zero
overflow_mul-end-then-is_zero c = let l = lies _ _ _ _ _ _ _ c.requires.standing c.requires.depth_nonzero in omega (arith, room-length c.args.room.now)

pub offset_bounds-room-d-then-is_zero : goal.offset_bounds-room-d-then-is_zero
offset_bounds-room-d-then-is_zero c = let l = lies _ _ _ _ _ _ _ c.requires.standing c.requires.depth_nonzero in omega (arith, room-length c.args.room.now)

pub slice_bounds-end_leaf-count : goal.slice_bounds-end_leaf-count
slice_bounds-end_leaf-count c = let l = lies _ _ _ _ _ _ _ c.requires.standing c.requires.depth_nonzero in omega arith

pub slice_bounds-end_leaf-start : goal.slice_bounds-end_leaf-start
slice_bounds-end_leaf-start c = let l = lies _ _ _ _ _ _ _ c.requires.standing c.requires.depth_nonzero in omega arith

pub overflow_sub-end : goal.overflow_sub-end
overflow_sub-end c = let l = lies _ _ _ _ _ _ _ c.requires.standing c.requires.depth_nonzero in omega arith

pub slice_bounds-seen-end : goal.slice_bounds-seen-end
slice_bounds-seen-end c = let l = lies _ _ _ _ _ _ _ c.requires.standing c.requires.depth_nonzero in omega (arith, room-length c.args.room.now)

pub slice_bounds-end_leaf-end : goal.slice_bounds-end_leaf-end
slice_bounds-end_leaf-end c = let l = lies _ _ _ _ _ _ _ c.requires.standing c.requires.depth_nonzero in omega (arith, room-length c.args.room.now)

pub end_leaf-requires : goal.end_leaf-requires
end_leaf-requires c =
    let l = lies _ _ _ _ _ _ _ c.requires.standing c.requires.depth_nonzero in
    record { wires = c.requires.standing.wires; target_in_bounds = rw c.target-target.ensures l.aimed.target; ready = c.requires.standing.ready }

pub returns-then-is_zero : goal.returns-then-is_zero
returns-then-is_zero c =
    let v = live (goal.at.returns-then-is_zero c).After-seen-live in
    let l = lies _ _ _ _ _ _ _ c.requires.standing c.requires.depth_nonzero in
    let s = c.args.s.now in
    let d = newest c.args.nodes.now s.depth in (
      step-leaf _ _ c.requires.standing _ l.under _ refl _ v c.if-d-end.false (record { none = c.in_default.not-Owes }) (eqb-true _ 0 (sym c.is_zero.ensures ∙ c.if-is_zero.true)) _ _ _
          (rw (c.target-target.ensures, now-room s.pending d.start s.end c.args.room.now c.requires.waits.1 l.starts l.ends) at c.end_leaf.ensures),
      c.requires.waits.0,
    )

pub run_down-requires : goal.run_down-requires
run_down-requires c =
    let l = lies _ _ _ _ _ _ _ c.requires.standing c.requires.depth_nonzero in
    let v = live (goal.at.run_down-requires c).After-seen-live in
    let st = c.requires.standing in
    record {
      wires = st.wires;
      target_in_bounds = rw c.target-target.ensures l.aimed.target;
      live_in_bounds = (eqb-false _ 0 (sym c.is_zero.ensures ∙ c.if-is_zero.false), seen-lt _ _ _ _ v (top-cands _ _ st _ l.under _ refl));
      held_len = st.many;
      start_le_end = (l.starts, l.ends);
      ready = st.ready;
      waits = c.requires.waits;
      target_value = rw c.target-target.ensures (apart-live _ _ st _ l.under _ refl _ v);
    }

pub returns-then-end-d-eq1 : goal.returns-then-end-d-eq1
returns-then-end-d-eq1 c =
    let v = live (goal.at.returns-then-end-d-eq1 c).After-seen-live in
    let l = lies _ _ _ _ _ _ _ c.requires.standing c.requires.depth_nonzero in
    let r = c.run_down in (
      step_run _ _ c.requires.standing _ l.under _ refl _ v c.if-end-d-eq1.true (record { none = c.in_default.not-Owes }) (eqb-false _ 0 (sym c.is_zero.ensures ∙ c.if-is_zero.false)) _ _ _ _ _
          (rw c.target-target.ensures at r.ensures.0) (now-same _ _ _ _ r.auto.room),
      r.ensures.1,
    )

pub branch-room-requires : goal.branch-room-requires
branch-room-requires c =
    let v = live (goal.at.branch-room-requires c).After-seen-live in
    let l = lies _ _ _ _ _ _ _ c.requires.standing c.requires.depth_nonzero in
    let st = c.requires.standing in
    rw c.narrowed.ensures
    record {
      start_lt_end = (omega (arith, c.if-d-end.false), l.ends);
      at_in_bounds = omega (arith, top-more _ _ st _ l.under _ refl _ v (eqb-false _ 0 (sym c.is_zero.ensures ∙ c.if-is_zero.false)), st.wide);
    }

pub overflow_add-s : goal.overflow_add-s
overflow_add-s c = let l = lies _ _ _ _ _ _ _ c.requires.standing c.requires.depth_nonzero in omega arith

pub returns : goal.returns
returns c =
    let v = live (goal.at.returns c).After-seen-live in
    let l = lies _ _ _ _ _ _ _ c.requires.standing c.requires.depth_nonzero in
    let b = c.branch-room in
    let s = c.args.s.now in (
      step-branch _ _ c.requires.standing _ l.under _ refl _ v c.if-d-end.false (record { none = c.in_default.not-Owes }) (eqb-false _ 0 (sym c.is_zero.ensures ∙ c.if-is_zero.false)) _ _
          (now-branched s.pending _ c.requires.waits.1 _ _ _ _ _ _ l.starts l.ends (rw c.narrowed.ensures at b.ensures)) (now-same _ _ _ _ b.auto.room),
      waits-same _ _ _ b.auto.room c.requires.waits.0,
    )
