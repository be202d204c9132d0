-- The code's plan as the definition's.
use Rattle.rules.specs.Plan as Rules
use Rattle.plan.specs.declared.Plan.{Plan}

abbrev pub view : Plan → Rules.Plan
view p = record { qubits = p.qubits; terms = p.terms }
