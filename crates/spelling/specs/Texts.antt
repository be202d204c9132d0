-- A list spelled as a text, and what is printed beside it: counts behind a list, and a refusal. Every line ends in LF.
use Rattle.std.specs.Prelude.{cond, List, [], ◌∷◌, ◌++◌, ℕ, zero, suc, ◌+◌, ◌-◌, ◌/◌, eqb, ltb, ℤ, pos, length, take, drop, replicate}
use Rattle.rules.specs.Limits.{width}
use Rattle.text.specs.Bytes.{bytes, lf, blank}
use Rattle.text.specs.Printing.{ended_text, line_text, named_text}

-- ---- numbers

-- numbers, one to a line
unfoldable pub lines_text : List ℕ → List ℕ
unfolding line_text
lines_text [] = []
lines_text (n ∷ ns) = line_text n ++ lines_text ns

-- a section comes after its word and its count
unfoldable pub section_text : List ℕ → List ℕ → List ℕ
unfolding named_text lines_text
section_text w ns = named_text w (length ns ∷ []) ++ lines_text ns

-- a line of signed numbers: a blank behind each, LF behind the last
unfoldable pub row_text : List ℤ → List ℕ
unfolding ended_text
row_text [] = []
row_text (v ∷ vs) = ended_text (cond (eqb (length vs) 0) lf blank) v ++ row_text vs

-- ---- forms

-- `head 4`; `head 5` whose fifth number is 5; `head 5` whose fifth number is 6
pub data Form : Type 0 where
  four : Form
  five : Form
  six : Form

-- how many of a gate's numbers its line shows
abbrev pub per_gate : Form → ℕ
per_gate four = 5
per_gate five = 5
per_gate six = 6

-- those that it doesn't show are 0
abbrev pub unsaid : Form → List ℤ
unsaid f = replicate (width - per_gate f) (pos 0)

-- `head 5` says how many
abbrev pub fifth : Form → List ℕ
fifth four = []
fifth five = per_gate five ∷ []
fifth six = per_gate six ∷ []

-- a form by its number: that of `head 4`, and the fifth number of `head 5`. Every number has a meaning
abbrev pub form_of : ℕ → Form
form_of n = cond (ltb n 5) four (cond (ltb n 6) five six)

-- ---- a list

-- n lines, a gate to each
unfoldable pub rows_text : Form → ℕ → List ℤ → List ℕ
unfolding row_text
rows_text f zero ns = []
rows_text f (suc n) ns = row_text (take (per_gate f) ns) ++ rows_text f n (drop width ns)

pub record Head : Type 0 where
  pub wires : ℕ
  pub bits : ℕ
  pub qubits : ℕ
  pub terms : ℕ
  pub form : Form

-- wires, bits, qubit cap, term cap, and after `head 5` the numbers in a gate's line
abbrev pub head_numbers : Head → List ℕ
head_numbers h = h.wires ∷ h.bits ∷ h.qubits ∷ h.terms ∷ fifth h.form

-- the lines of a head: `head`, and one for each of its numbers
abbrev pub head_lines : Form → ℕ
head_lines f = 5 + length (fifth f)

abbrev pub head_word : List ℕ
head_word = bytes "head"

unfoldable pub head_text : Head → List ℕ
unfolding section_text
head_text h = section_text head_word (head_numbers h)

abbrev pub gates_word : List ℕ
gates_word = bytes "gates"

unfoldable pub gates_text : Form → List ℤ → List ℕ
unfolding named_text rows_text
gates_text f ns =
    let g = length ns / width in
    named_text gates_word (g ∷ []) ++ rows_text f g ns

-- a list: its head, and its gates' numbers, six to a gate in every form
unfoldable pub list_text : Head → List ℤ → List ℕ
unfolding head_text gates_text
list_text h ns = head_text h ++ gates_text h.form ns

-- ---- beside a list

abbrev pub counts_word : List ℕ
counts_word = bytes "counts"

-- a list, and counts behind it
unfoldable pub result_text : Head → List ℤ → List ℕ → List ℕ
unfolding list_text section_text
result_text h ns counts = list_text h ns ++ section_text counts_word counts

abbrev pub refused_word : List ℕ
refused_word = bytes "refused"

-- a refusal prints only this line
unfoldable pub refusal_text : List ℕ → List ℕ
unfolding named_text
refusal_text numbers = named_text refused_word numbers
