use native.Mathlib.Omega.{arith}
use Rattle.terms.proofs.Room.{room-length}
use Rattle.walk.proofs.Summing.{turns_next, turns-end}
use Rattle.walk.proofs.sum_turns.Goals as goal

pub get-e-requires : goal.get-e-requires
get-e-requires c = omega (arith, room-length c.args.set.now)

pub loop-i-preserved : goal.loop-i-preserved
loop-i-preserved c =
    let l = c.loop-i in
    record {
      small = omega (arith, c.fold-sum.ensures);
      same = turns_next _ l.sum _ l.i _ l.invariant.same (omega (arith, room-length c.args.set.now)) c.get-e.ensures c.fold-sum.ensures;
    }

pub returns : goal.returns
returns c = turns-end _ _ c.loop-i.i c.loop-i.invariant.same c.loop-i.invariant.small (omega (arith, room-length c.args.set.now))
