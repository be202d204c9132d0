-- The refusals of the plain engine, exactly when each is given, and in their order: 15 stands straight after 3, and 5 also covers the room of a resynthesis.
use Rattle.std.specs.Prelude.{◌≡◌, not, ◌||◌, List, [], ◌∷◌, ℕ, zero, ◌*◌, ◌/◌, ◌%◌, ◌≤◌, eqb, ltb, ℤ, length}
use Rattle.rules.specs.Limits.{width, max_gates, max_wires, max_bits, term_width, step_width, term_entries, step_entries, plain_gates, plain_columns, whole_gates}
use Rattle.rules.specs.Refusal.{Verdict, accepted, tell, first_number, ruled, faults_from, verdict}

-- the number of the refusal of n numbers as g gates, before any gate is looked at, or 0 for none. The qubit cap is the clamped one; the rooms are given by
-- how many numbers they hold
abbrev pub whole_plain : ℕ → ℕ → ℕ → ℕ → ℕ → ℕ → ℕ → ℕ → ℕ → ℕ
whole_plain n g w b qubits out terms steps whole =
    first_number
    ((not (eqb (n % width) 0), 1)
    ∷ (ltb max_gates g, 2)
    ∷ (ltb max_wires w || ltb max_bits b, 3)
    ∷ (ltb plain_gates g || ltb plain_columns qubits, 15)
    ∷ (ltb out n, 4)
    ∷ ((ltb (terms / term_width) (term_entries g) || ltb (steps / step_width) (step_entries g)) || ltb whole (width * whole_gates), 5)
    ∷ [])
    0

-- 1, 2, 3, 15, 4, 5, then gate by gate
unfoldable pub plain_verdict : List ℤ → ℕ → ℕ → ℕ → ℕ → ℕ → ℕ → ℕ → Verdict
unfolding faults_from
plain_verdict l w b qubits out terms steps whole =
    let g = length l / width in
    let rest = faults_from l w b g zero in
    ruled (tell (whole_plain (length l) g w b qubits out terms steps whole) 0) zero rest

-- what is accepted: the first engine accepts it too, it is short and narrow, and there is room for every resynthesis
pub record Taken (l : List ℤ) (w b qubits out terms steps whole : ℕ) : Type 0 where
  pub first : verdict l w b out terms steps ≡ accepted
  pub few : length l / width ≤ plain_gates
  pub narrow : qubits ≤ plain_columns
  pub long : width * whole_gates ≤ whole
