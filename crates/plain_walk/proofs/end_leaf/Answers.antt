use Rattle.writing.proofs.Following.{wrote_none}
use Rattle.walk.proofs.Aims.{leaf-free, leaf-on}
use Rattle.plain_walk.proofs.end_leaf.Goals as goal

pub returns-in_default : goal.returns-in_default
returns-in_default c = rw c.in_default.is (rw (leaf-free c.args.names.now) (wrote_none _ _))

pub write_rotation-requires-clause-fits : goal.write_rotation-requires-clause-fits
write_rotation-requires-clause-fits c = rw (c.in-Some.is, leaf-on c.args.names.now _ _ _ _ c.wire_of-q.ensures c.sum_turns.ensures) at c.requires.roomy

pub returns : goal.returns
returns c = rw (c.in-Some.is, leaf-on c.args.names.now _ _ _ _ c.wire_of-q.ensures c.sum_turns.ensures) c.write_rotation.ensures
