use mathlib.Core.Path.{refl}
use Rattle.terms.proofs.Room.{room-same}
use Rattle.walk.proofs.Deferring.{settled-now}
use Rattle.walk.proofs.settle.Goals as goal

pub returns-then-from-p : goal.returns-then-from-p
returns-then-from-p c =
    settled-now _ _ _ _ c.requires _ c.if-from-p.true refl refl refl (room-same _ _ c.flip_between.auto.room) c.flip_between.ensures
