-- `gate::failed_at` meets its contract.
use mathlib.Core.Path.{ap, ◌∙◌}
use Rattle.rules.specs.Refusal.{fault_at}
use Rattle.gate.specs.Fields.{fault_of}
use Rattle.gate.specs.declared.Fields.{Fields}
use Rattle.gate.proofs.failed_at.Goals as goal

pub returns : goal.returns
unfolding fault_at
returns c = c.fault.ensures ∙ ap (λ (f : Fields). fault_of f c.args.wires c.args.bits) c.at.ensures.value
