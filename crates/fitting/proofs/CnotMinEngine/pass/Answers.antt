-- `fitting::CnotMin::pass` meets its contract: rooms of the right length, and what the entry point says of them.
use Rattle.spelling.specs.Heads.{head_of}
use Rattle.fitting.proofs.Fitting.{fits}
use Rattle.fitting.proofs.CnotMinEngine.pass.Goals as goal

pub returns : goal.returns
returns c =
    let e = c.requires.exact in fits (head_of c.args.head) _ _ _ _ _ _ _ c.requires.few e.gates e.term_room e.step_room _ c.cnot_min_with.ensures
