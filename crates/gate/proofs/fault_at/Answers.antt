-- `gate::fault_at` meets its contract.
use mathlib.Core.Path.{sym, ap, ◌∙◌}
use Rattle.rules.specs.Refusal.{fault_at}
use Rattle.gate.specs.Fields.{fault_of}
use Rattle.gate.specs.declared.Fields.{Fields}
use Rattle.gate.proofs.Faultless.{plain-faultless}
use Rattle.gate.proofs.fault_at.Goals as goal

pub returns-then-plain : goal.returns-then-plain
unfolding fault_at
returns-then-plain c =
    let f = c.at.result in
    sym (plain-faultless f.code c.args.wires c.args.bits f.first f.second f.third f.turn f.line (sym c.plain.ensures ∙ c.if-plain.true))
    ∙ ap (λ (x : Fields). fault_of x c.args.wires c.args.bits) c.at.ensures.value
