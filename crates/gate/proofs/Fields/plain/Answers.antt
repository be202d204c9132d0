-- `gate::Fields::plain` meets its contract.
use Rattle.std.proofs.Common.{rules}
use Rattle.gate.specs.Plain.{plain}
use Rattle.gate.proofs.Fields.plain.Goals as goal

pub returns : goal.returns
unfolding plain
returns c = search rules
