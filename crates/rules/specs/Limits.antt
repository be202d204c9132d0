-- The numbers that document 01 fixes, each by name and once.
use Rattle.std.specs.Prelude.{ℕ, ◌+◌, ◌*◌, min, max}

-- numbers to a gate
abbrev pub width : ℕ
width = 6

-- the codes are 1 to 27, the fragment's 1 to 9
abbrev pub last_code : ℕ
last_code = 27

abbrev pub last_fragment : ℕ
last_fragment = 9

abbrev pub max_gates : ℕ
max_gates = 65536

abbrev pub max_wires : ℕ
max_wires = 4096

abbrev pub max_bits : ℕ
max_bits = 1024

-- wires of one block
abbrev pub max_columns : ℕ
max_columns = 128

-- numbers to an entry of term room (low word, high word, turn) and of step room (control, target)
abbrev pub term_width : ℕ
term_width = 3

abbrev pub step_width : ℕ
step_width = 2

-- the terms that a gate adds at most
abbrev pub gate_terms : ℕ
gate_terms = 3

-- the entries of each that g gates need
abbrev pub term_entries : ℕ → ℕ
term_entries g = gate_terms * g

abbrev pub step_entries : ℕ → ℕ
step_entries g = g + max_columns

-- the qubit cap is clamped to 1..128, the term cap is raised to at least 1
abbrev pub clamp_qubits : ℕ → ℕ
clamp_qubits cap = max 1 (min cap max_columns)

abbrev pub clamp_terms : ℕ → ℕ
clamp_terms cap = max 1 cap

-- ---- the plain engine, which writes every resynthesis to its end

-- the gates that it takes, and the wires of one block
abbrev pub plain_gates : ℕ
plain_gates = 256

abbrev pub plain_columns : ℕ
plain_columns = 32

-- a walk: for each of 768 terms 31 CNOTs and a rotation of two gates
abbrev pub walk_gates : ℕ
walk_gates = 25344

-- a closing map: 32 rows with 32 additions each
abbrev pub closing_gates : ℕ
closing_gates = 1024

-- the gates of one resynthesis: 768 * 31 + 2 * 768 of its walk, 32 ^ 2 of its closing map, 32 x
abbrev pub whole_gates : ℕ
whole_gates = 26400
