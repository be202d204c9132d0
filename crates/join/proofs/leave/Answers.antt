-- `join::leave` meets its contract.
use Rattle.std.proofs.Common.{◌≡◌, ◌<◌, arith}
use lib.Seq.{length-take-le, get_or-take}
use Rattle.join.proofs.Joining.{leave_none, leave-turn, leave-all}
use Rattle.join.proofs.leave.Goals as goal

pub loop-q-init : goal.loop-q-init
loop-q-init c = leave_none _ _ _ c.requires

pub loop-q-preserved : goal.loop-q-preserved
loop-q-preserved c =
    let size = length-take-le c.args.n c.args.names.now (omega arith) in
    let near : c.loop-q.q-index < c.args.n = omega arith in
    rw (get_or-take c.args.n c.args.names.now c.loop-q.q-index 0 near) (leave-turn _ _ _ c.requires _ _ c.loop-q.invariant near)

pub returns : goal.returns
returns c =
    let size = length-take-le c.args.n c.args.names.now (omega arith) in
    let e : c.loop-q.q-index ≡ c.args.n = omega arith in
    leave-all _ _ _ c.requires _ (rw e at c.loop-q.invariant)
