use native.Mathlib.Omega.{arith}
use Rattle.terms.proofs.Room.{room-length}
use Rattle.walk.proofs.Deferring.{part-many, passed-part}
use Rattle.walk.proofs.flip_between.Goals as goal

pub overflow_mul-a : goal.overflow_mul-a
overflow_mul-a c = omega (arith, room-length c.args.room.now)

pub overflow_mul-e : goal.overflow_mul-e
overflow_mul-e c = omega (arith, room-length c.args.room.now)

pub offset_bounds-room-a : goal.offset_bounds-room-a
offset_bounds-room-a c = omega (arith, room-length c.args.room.now)

pub slice_bounds-flip_by-end : goal.slice_bounds-flip_by-end
slice_bounds-flip_by-end c = omega (arith, room-length c.args.room.now)

pub flip_by-requires : goal.flip_by-requires
flip_by-requires c = (c.requires.0, part-many _ _ _ c.requires.1.0 c.requires.1.1)

pub returns : goal.returns
returns c = passed-part _ _ _ _ _ _ c.requires.1.0 c.requires.1.1 c.flip_by.auto.room c.flip_by.ensures
