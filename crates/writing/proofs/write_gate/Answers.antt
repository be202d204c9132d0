-- `writing::write_gate` meets its contract.
use Rattle.writing.proofs.Following.{wrote_one}
use Rattle.writing.proofs.write_gate.Goals as goal

pub returns : goal.returns
returns c = rw c.write.ensures (wrote_one _ _ _ c.requires.fits)
