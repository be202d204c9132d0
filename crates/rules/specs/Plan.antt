-- What a pass goes by: the two caps, clamped once.
use Rattle.std.specs.Prelude.{ℕ}
use Rattle.rules.specs.Limits.{clamp_qubits, clamp_terms}

-- the most wires and the most terms that a block may hold
pub record Plan : Type 0 where
  pub qubits : ℕ
  pub terms : ℕ

-- the plan of any two caps
abbrev pub plan_of : ℕ → ℕ → Plan
plan_of qcap tcap = record { qubits = clamp_qubits qcap; terms = clamp_terms tcap }
