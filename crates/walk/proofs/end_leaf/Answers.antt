use Rattle.emit.proofs.Appending.{emits_none}
use Rattle.walk.proofs.Aims.{leaf-free, leaf-on}
use Rattle.walk.proofs.end_leaf.Goals as goal

pub returns-in_default : goal.returns-in_default
returns-in_default c = rw c.in_default.is (rw (leaf-free c.args.names.now) (emits_none _ _ c.requires.ready))

pub returns : goal.returns
returns c = rw (c.in-Some.is, leaf-on c.args.names.now _ _ _ _ c.wire_of-q.ensures c.sum_turns.ensures) c.emit_rotation.ensures
