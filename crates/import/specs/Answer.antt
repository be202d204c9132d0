-- What a laboratory's text comes to: its refusals, and import's answer.
use Rattle.std.specs.Prelude.{List, ℕ, ℤ}
use Rattle.spelling.specs.Sizes.{list_gates}
use Rattle.spelling.specs.Texts.{six, Head, list_text, refusal_text}
use Rattle.saying.specs.Answer.{Answer, Next, answered, refusal, unless_long}
use Rattle.qasm.specs.Import.{Import, wrong, many, large, list, read_qasm}

-- a laboratory's list has no caps of its own. `head 5` with 6: each gate shows its line
abbrev pub head_for : ℕ → ℕ → Head
head_for wires bits = record { wires = wires; bits = bits; qubits = 128; terms = 512; form = six }

-- 13: the first line that is wrong or missing; 12: more than 896 gates; 3: more than 4,096 wires or 1,024 bits
abbrev pub read_as : Next → Import → Answer
read_as next (wrong line) = refusal 13 line 0
read_as next many = refusal 12 0 0
read_as next large = refusal 3 0 0
read_as next (list wires bits numbers) = next (head_for wires bits) numbers

-- 10, then line by line 13, then 12 and 3; then what the program says of the list
unfoldable pub answer_by : Next → List ℕ → Answer
unfolding read_qasm refusal_text
answer_by next text = unless_long text (read_as next (read_qasm list_gates text))

-- import only translates: our list, the gates as they came, each with its statement's line, and no counts
unfoldable pub translated : Head → List ℤ → Answer
unfolding list_text
translated h numbers = answered (list_text h numbers)

unfoldable pub answer : List ℕ → Answer
unfolding answer_by translated
answer text = answer_by translated text
