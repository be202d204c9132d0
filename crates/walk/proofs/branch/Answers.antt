use mathlib.Core.Path.{ap, ◌∙◌}
use native.Mathlib.Omega.{arith}
use Rattle.rules.specs.Bit.{xor}
use Rattle.parity.specs.View.{val}
use Rattle.terms.proofs.Room.{room-length}
use Rattle.walk.specs.declared.Slot.{Slot}
use Rattle.walk.proofs.Splitting.{room-slice, room-some, split-fits}
use Rattle.walk.proofs.branch.Goals as goal

pub overflow_mul-a : goal.overflow_mul-a
overflow_mul-a c = omega (arith, room-length c.args.room.now)

pub overflow_mul-e : goal.overflow_mul-e
overflow_mul-e c = omega (arith, room-length c.args.room.now)

pub offset_bounds-room-a : goal.offset_bounds-room-a
offset_bounds-room-a c = omega (arith, room-length c.args.room.now)

pub slice_bounds-best_column-end : goal.slice_bounds-best_column-end
slice_bounds-best_column-end c = omega (arith, room-length c.args.room.now)

pub best_column-c-requires : goal.best_column-c-requires
best_column-c-requires c = room-some _ _ _ c.requires.start_lt_end.0 c.requires.start_lt_end.1

pub leaves-without-requires : goal.leaves-without-requires
leaves-without-requires c =
    let f = split-fits _ _ _ _ _ _ (omega (arith, c.requires.start_lt_end.0)) c.requires.start_lt_end.1 c.split_at-ones.ensures in
    omega (arith, c.requires.start_lt_end.1, room-length c.args.room.now)

pub returns : goal.returns
returns c =
    let d : Slot = c.args.d in
    record {
      column = c.best_column-c.result;
      best = rw (room-slice d.start c.args.end c.args.room.now (omega (arith, c.requires.start_lt_end.0)) c.requires.start_lt_end.1) at c.best_column-c.ensures;
      ones = c.split_at-ones.result;
      split = c.split_at-ones.ensures;
      rest = c.bitxor-rest.result;
      less = c.bitxor-rest.ensures ∙ ap (xor (val d.cands)) c.single.ensures;
      slots = rw (c.takes-with.ensures, c.leaves-without.ensures);
    }
