-- `emit::emit_rotation` meets its contract: no gate, one or two.
use Rattle.std.proofs.Common.{◌≡◌, arith}
use Rattle.std.proofs.lemmas.Result.{err_from_is_err_and}
use Rattle.emit.proofs.Appending.{emits_none}
use Rattle.emit.proofs.Rotations.{rotation-none, rotation-two, rotation-one, rotation-spent}
use Rattle.emit.proofs.emit_rotation.Goals as goal

pub returns-then-k-eq0 : goal.returns-then-k-eq0
returns-then-k-eq0 c =
    let none : c.args.k ≡ 0 = omega arith in
    rw (none, rotation-none c.args.q.0) (emits_none _ _ c.requires.ready)

pub returns-in_err-first : goal.returns-in_err-first
returns-in_err-first c =
    let p = err_from_is_err_and c.from_residual.result c.from_residual.ensures.1 in
    rw (p.1, p.2) (rotation-spent c.args.k c.args.q.0 (omega arith) c.requires.q_bound.1 (rw c.lead.ensures at c.in_err-first.ensures))

pub returns-then-k : goal.returns-then-k
returns-then-k c =
    rotation-two c.args.k c.args.q.0 (omega arith) c.requires.q_bound.1 (rw c.lead.ensures at c.in_ok-first.ensures) c.if-k.true c.emit_one-then-k.ensures

pub returns-else-k : goal.returns-else-k
returns-else-k c =
    rotation-one c.args.k c.args.q.0 (omega arith) c.requires.q_bound.1 (rw c.lead.ensures at c.in_ok-first.ensures) c.if-k.false
