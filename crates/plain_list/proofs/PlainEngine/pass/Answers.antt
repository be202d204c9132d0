-- `plain_list::Plain::pass` meets its contract: rooms of the right length, and what the plain engine says of them.
use lib.IntN.{pos}
use lib.ListN.{length-replicate}
use Prim.Native.Nat.{◌*◌}
use Rattle.rules.specs.Limits.{width, whole_gates}
use Rattle.spelling.specs.Heads.{head_of}
use Rattle.plain_list.proofs.Fitting.{fits}
use Rattle.plain_list.proofs.PlainEngine.pass.Goals as goal

pub returns : goal.returns
returns c =
    let e = c.requires.exact in
    fits (head_of c.args.head) _ _ _ _ _ _ _ _ _ c.requires.few e.gates e.term_room e.step_room (length-replicate (width * whole_gates) (pos 0)) _ c.cnot_min_plain.ensures
