-- `writing::write_rotation` meets its contract: no gate, one or two.
use Rattle.std.proofs.Common.{arith}
use Rattle.writing.proofs.Rotations.{rotation-nothing, rotation-fits, rotation-fits-two, rotation-two, rotation-one}
use Rattle.writing.proofs.write_rotation.Goals as goal

pub returns-then-turn-eq0 : goal.returns-then-turn-eq0
returns-then-turn-eq0 c = rotation-nothing _ _ _ _ (omega arith)

pub write_one-first-requires-clause-fits : goal.write_one-first-requires-clause-fits
write_one-first-requires-clause-fits c = rotation-fits c.args.turn c.args.q.0 (omega arith) c.requires.q_bound.1 c.args.whole.now c.args.k c.requires.fits

pub write_one-requires-clause-fits : goal.write_one-requires-clause-fits
write_one-requires-clause-fits c =
    rotation-fits-two c.args.turn c.args.q.0 (omega arith) c.requires.q_bound.1 _ _ (rw c.lead.ensures at c.write_one-first.ensures) c.if-turn.true c.requires.fits

pub returns-then-turn : goal.returns-then-turn
returns-then-turn c =
    rotation-two c.args.turn c.args.q.0 (omega arith) c.requires.q_bound.1 _ _ (rw c.lead.ensures at c.write_one-first.ensures) c.if-turn.true c.write_one.ensures

pub returns-else-turn : goal.returns-else-turn
returns-else-turn c =
    rotation-one c.args.turn c.args.q.0 (omega arith) c.requires.q_bound.1 _ _ (rw c.lead.ensures at c.write_one-first.ensures) c.if-turn.false
