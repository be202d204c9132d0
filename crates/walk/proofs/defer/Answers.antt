use mathlib.Core.Path.{refl}
use Rattle.terms.proofs.Room.{room-same}
use Rattle.walk.proofs.Deferring.{deferred-same, deferred-new}
use Rattle.walk.proofs.defer.Goals as goal

pub returns-then-p-t : goal.returns-then-p-t
returns-then-p-t c =
    deferred-same _ _ _ _ c.requires.waits _ _ _ c.requires.upto_le_start.0 c.requires.upto_le_start.1 c.requires.t_bound.0 c.requires.t_bound.1 refl refl (room-same _ _ c.flip_between.auto.room) c.if-p-t.true c.bitxor.ensures c.flip_between.ensures

pub returns-else-p-t : goal.returns-else-p-t
returns-else-p-t c =
    deferred-new _ _ _ _ c.requires.waits _ _ _ c.requires.upto_le_start.0 c.requires.upto_le_start.1 c.requires.t_bound.0 c.requires.t_bound.1 refl refl (room-same _ _ c.flip_by.auto.room) refl c.flip_by.ensures
