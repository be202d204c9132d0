-- Spelled lists, by computing, and read back.
use mathlib.Core.Path.{◌≡◌, refl}
use mathlib.Core.List.{List, [], ◌∷◌, ◌++◌}
use Prim.Native.Nat.{ℕ}
use lib.IntN.{ℤ, pos, negsuc}
use Rattle.text.specs.Bytes.{bytes}
use Rattle.text.specs.Reading.{word, ended, natural_line, count_line}
use Rattle.spelling.specs.Texts.{Form, four, five, six, Head, list_text, result_text, refusal_text}
use Rattle.spelling.specs.Reading.{list, read, malformed, many, head_at, rows, list_at, read_text}

-- one wire, in the three forms
abbrev one : Form → Head
one f = record { wires = 1; bits = 0; qubits = 128; terms = 512; form = f }

-- two gates, with a number that is negative; without lines, and with them
abbrev gates : List ℤ
gates = pos 7 ∷ pos 10 ∷ pos 0 ∷ pos 0 ∷ negsuc 2 ∷ pos 0 ∷ pos 10 ∷ pos 3 ∷ pos 0 ∷ pos 0 ∷ pos 0 ∷ pos 0 ∷ []

abbrev lined : List ℤ
lined = pos 7 ∷ pos 10 ∷ pos 0 ∷ pos 0 ∷ negsuc 2 ∷ pos 9 ∷ pos 10 ∷ pos 3 ∷ pos 0 ∷ pos 0 ∷ pos 0 ∷ negsuc 0 ∷ []

abbrev spelled : List ℕ
spelled = bytes "head 4\n1\n0\n128\n512\ngates 2\n7 10 0 0 -3\n10 3 0 0 0\n"

abbrev spelled5 : List ℕ
spelled5 = bytes "head 5\n1\n0\n128\n512\n5\ngates 2\n7 10 0 0 -3\n10 3 0 0 0\n"

abbrev spelled6 : List ℕ
spelled6 = bytes "head 5\n1\n0\n128\n512\n6\ngates 2\n7 10 0 0 -3 9\n10 3 0 0 0 -1\n"

two-gates : list_text (one four) gates ≡ spelled
unfolding list_text
two-gates = refl

five-shown : list_text (one five) gates ≡ spelled5
unfolding list_text
five-shown = refl

six-shown : list_text (one six) lined ≡ spelled6
unfolding list_text
six-shown = refl

no-gates : list_text (one four) [] ≡ bytes "head 4\n1\n0\n128\n512\ngates 0\n"
unfolding list_text
no-gates = refl

-- read back: alone, in each form; before something else; where only one gate may be; and with a blank behind a gate's last number
alone : read_text 2 spelled ≡ read (one four) gates
unfolding read_text head_at rows word ended natural_line count_line
alone = refl

alone5 : read_text 2 spelled5 ≡ read (one five) gates
unfolding read_text head_at rows word ended natural_line count_line
alone5 = refl

alone6 : read_text 2 spelled6 ≡ read (one six) lined
unfolding read_text head_at rows word ended natural_line count_line
alone6 = refl

front : list_at 2 3 (spelled ++ bytes "counts") ≡ list (one four) gates 11 (bytes "counts")
unfolding list_at head_at rows word ended natural_line count_line
front = refl

too_many : read_text 1 spelled ≡ many 6
unfolding read_text head_at rows word ended natural_line count_line
too_many = refl

too-many5 : read_text 1 spelled6 ≡ many 7
unfolding read_text head_at rows word ended natural_line count_line
too-many5 = refl

blank-behind : read_text 2 (bytes "head 4\n1\n0\n128\n512\ngates 1\n4 0 0 0 0 \n") ≡ malformed 7
unfolding read_text head_at rows word ended natural_line count_line
blank-behind = refl

-- document 01's worked example
example : result_text (one four) (pos 4 ∷ pos 0 ∷ pos 0 ∷ pos 0 ∷ pos 0 ∷ pos 0 ∷ []) (2 ∷ 1 ∷ 0 ∷ 0 ∷ 2 ∷ 0 ∷ 1 ∷ 1 ∷ [])
    ≡ bytes "head 4\n1\n0\n128\n512\ngates 1\n4 0 0 0 0\ncounts 8\n2\n1\n0\n0\n2\n0\n1\n1\n"
unfolding result_text
example = refl

refusal : refusal_text (12 ∷ 6 ∷ 0 ∷ []) ≡ bytes "refused 12 6 0\n"
unfolding refusal_text
refusal = refl
