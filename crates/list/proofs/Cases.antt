-- Worked texts, by computing: one table, two statements.
use mathlib.Core.Path.{◌≡◌, refl}
use mathlib.Core.List.{List, [], ◌∷◌, ◌++◌, map}
use Prim.Native.Nat.{ℕ}
use Prim.Native.Char.{code}
use Prim.Native.String.{String}
use lib.Dec.{eqb}
use lib.ListN.{length}
use Rattle.rules.specs.Bit.{xor}
use Rattle.text.specs.Bytes.{bytes, lf, first}
use Rattle.text.specs.Reading.{word, ended, natural_line, count_line}
use Rattle.spelling.specs.Reading.{head_at, rows, read_text}
use Rattle.saying.specs.Answer.{exact}
use Rattle.list.specs.Answer.{answer}

-- a text, and what is printed for it
pub record Case : Type 0 where
  pub text : List ℕ
  pub prints : List ℕ

abbrev pub plain : String → String → Case
plain text prints = record { text = bytes text; prints = bytes prints }

-- a head on one wire and no bit, and what follows it
abbrev pub behind : String → String → Case
behind text prints = record { text = bytes "head 4\n1\n0\n128\n512\n" ++ bytes text; prints = bytes prints }

-- one gate
abbrev pub one : String → String → Case
one text prints = record { text = bytes "head 4\n1\n0\n128\n512\ngates 1\n" ++ bytes text; prints = bytes prints }

-- one gate, on two wires and one bit
abbrev pub two : String → String → Case
two text prints = record { text = bytes "head 4\n2\n1\n128\n512\ngates 1\n" ++ bytes text; prints = bytes prints }

-- `head 5` with 5 and with 6, and what follows its fifth number
abbrev pub fives : String → String → Case
fives text prints = record { text = bytes "head 5\n1\n0\n128\n512\n5\n" ++ bytes text; prints = bytes prints }

abbrev pub sixes : String → String → Case
sixes text prints = record { text = bytes "head 5\n1\n0\n128\n512\n6\n" ++ bytes text; prints = bytes prints }

abbrev pub cases : List Case
cases =
    -- document 01's list
    plain "head 4\n1\n0\n128\n512\ngates 2\n2 0 0 0 0\n2 0 0 0 0\n"
    "head 4\n1\n0\n128\n512\ngates 1\n4 0 0 0 0\ncounts 8\n2\n1\n0\n0\n2\n0\n1\n1\n"
    -- document 02's list of T: t0 for rz(1)0 rz(0)0, and T stays 1; p by an odd turn, which is negative, and rx
    ∷ behind "gates 2\n7 0 0 0 1\n7 0 0 0 0\n" "head 4\n1\n0\n128\n512\ngates 1\n2 0 0 0 0\ncounts 8\n2\n1\n0\n0\n1\n1\n1\n1\n"
    ∷ behind "gates 2\n14 0 0 0 -1\n15 0 0 0 1\n" "head 4\n1\n0\n128\n512\ngates 2\n14 0 0 0 -1\n15 0 0 0 1\ncounts 8\n2\n2\n0\n0\n1\n1\n0\n0\n"
    -- no gates; caps that are clamped are printed as they were read
    ∷ plain "head 4\n0\n0\n0\n2147483647\ngates 0\n" "head 4\n0\n0\n0\n2147483647\ngates 0\ncounts 8\n0\n0\n0\n0\n0\n0\n0\n0\n"
    -- a text that is empty, ends early, or has another head
    ∷ plain "" "refused 11 1 0\n"
    ∷ plain "head 4" "refused 11 1 0\n"
    ∷ plain "head 6\n1\n0\n128\n512\n6\n6\ngates 0\n" "refused 11 1 0\n"
    ∷ plain "head 04\n1\n0\n128\n512\ngates 0\n" "refused 11 1 0\n"
    ∷ plain "head 4\n1\n0\n" "refused 11 4 0\n"
    ∷ plain "head 4\n1\n0\n128\n2147483648\ngates 0\n" "refused 11 5 0\n"
    ∷ behind "" "refused 11 6 0\n"
    -- the count: 896 is the most; beyond the range of numbers the line is malformed
    ∷ behind "gates 897\n" "refused 12 6 0\n"
    ∷ behind "gates 2147483647\nx" "refused 12 6 0\n"
    ∷ behind "gates 2147483648\n" "refused 11 6 0\n"
    ∷ behind "gates 896\n" "refused 11 7 0\n"
    ∷ behind "gates -1\n" "refused 11 6 0\n"
    ∷ behind "gates -0\n" "refused 11 6 0\n"
    ∷ behind "gates 00\n" "refused 11 6 0\n"
    -- a gate's line: a missing LF, a surplus line, numbers too few and too many
    ∷ one "2 0 0 0 0" "refused 11 7 0\n"
    ∷ one "2 0 0 0 0\n\n" "refused 11 8 0\n"
    ∷ one "2 0 0 0\n" "refused 11 7 0\n"
    ∷ one "2 0 0 0 0 0\n" "refused 11 7 0\n"
    -- -0, leading zeros, a plus, one past each end; CR, tab, blanks, NUL
    ∷ one "2 -0 0 0 0\n" "refused 11 7 0\n"
    ∷ one "2 00 0 0 0\n" "refused 11 7 0\n"
    ∷ one "+2 0 0 0 0\n" "refused 11 7 0\n"
    ∷ one "7 0 0 0 2147483648\n" "refused 11 7 0\n"
    ∷ one "7 0 0 0 -2147483649\n" "refused 11 7 0\n"
    ∷ one "2 0 0 0 0\r\n" "refused 11 7 0\n"
    ∷ one "2\t0 0 0 0\n" "refused 11 7 0\n"
    ∷ one "2  0 0 0 0\n" "refused 11 7 0\n"
    ∷ one "2 0 0 0 0 \n" "refused 11 7 0\n"
    ∷ one "2 0 0 0 0\0\n" "refused 11 7 0\n"
    -- both ends of a turn
    ∷ one "7 0 0 0 -2147483648\n" "head 4\n1\n0\n128\n512\ngates 0\ncounts 8\n1\n0\n0\n0\n0\n0\n1\n1\n"
    ∷ one "14 0 0 0 2147483647\n" "head 4\n1\n0\n128\n512\ngates 1\n14 0 0 0 2147483647\ncounts 8\n1\n1\n0\n0\n1\n1\n0\n0\n"
    -- after all lines, 3, and then 6 to 9, 14 and 18 with the gate's index
    ∷ plain "head 4\n4097\n0\n128\n512\ngates 1\n0 0 0 0 0\n" "refused 3 0 0\n"
    ∷ plain "head 4\n1\n1025\n128\n512\ngates 0\n" "refused 3 0 0\n"
    ∷ plain "head 4\n4096\n1024\n128\n512\ngates 0\n" "head 4\n4096\n1024\n128\n512\ngates 0\ncounts 8\n0\n0\n0\n0\n0\n0\n0\n0\n"
    ∷ one "28 0 0 0 0\n" "refused 6 0 0\n"
    ∷ one "2 0 1 0 0\n" "refused 7 0 0\n"
    ∷ one "2 1 0 0 0\n" "refused 8 0 1\n"
    ∷ one "8 0 0 0 0\n" "refused 9 0 0\n"
    ∷ behind "gates 2\n2 0 0 0 0\n2 -1 0 0 0\n" "refused 8 1 1\n"
    -- the first bad field from the left: a wire, first and third; a bit, and its wire before it
    ∷ one "1 1 0 0 0\n" "refused 8 0 1\n"
    ∷ two "24 0 1 2 0\n" "refused 8 0 3\n"
    ∷ two "27 0 1 0 0\n" "refused 14 0 2\n"
    ∷ two "27 2 1 0 0\n" "refused 8 0 1\n"
    -- an unused field before all others, a wire twice behind them; these name no field
    ∷ one "1 0 5 0 0\n" "refused 7 0 0\n"
    ∷ one "8 5 5 1 0\n" "refused 7 0 0\n"
    ∷ two "8 1 1 0 0\n" "refused 9 0 0\n"
    ∷ two "24 1 1 2 0\n" "refused 8 0 3\n"
    -- the head as read, and as many numbers a gate as it says
    ∷ one "10 0 0 0 0\n" "head 4\n1\n0\n128\n512\ngates 1\n10 0 0 0 0\ncounts 8\n1\n1\n0\n0\n0\n0\n0\n0\n"
    ∷ fives "gates 1\n10 0 0 0 0\n" "head 5\n1\n0\n128\n512\n5\ngates 1\n10 0 0 0 0\ncounts 8\n1\n1\n0\n0\n0\n0\n0\n0\n"
    ∷ fives "gates 2\n2 0 0 0 0\n2 0 0 0 0\n" "head 5\n1\n0\n128\n512\n5\ngates 1\n4 0 0 0 0\ncounts 8\n2\n1\n0\n0\n2\n0\n1\n1\n"
    ∷ sixes "gates 1\n10 0 0 0 0 2147483647\n" "head 5\n1\n0\n128\n512\n6\ngates 1\n10 0 0 0 0 2147483647\ncounts 8\n1\n1\n0\n0\n0\n0\n0\n0\n"
    ∷ one "10 0 0 0 0 1\n" "refused 11 7 0\n"
    ∷ fives "gates 1\n10 0 0 0 0 1\n" "refused 11 8 0\n"
    ∷ sixes "gates 1\n10 0 0 0 0\n" "refused 11 8 0\n"
    ∷ sixes "gates 1\n10 0 0 0 0 2147483648\n" "refused 11 8 0\n"
    ∷ sixes "gates 1\n10 0 0 0 0 -0\n" "refused 11 8 0\n"
    -- the fifth number is 5 or 6, before `gates` is looked at, which stands on line 7
    ∷ plain "head 5\n1\n0\n128\n512\n7\ngates 999\n" "refused 11 6 0\n"
    ∷ plain "head 5\n1\n0\n128\n512\n4\ngates 0\n" "refused 11 6 0\n"
    ∷ plain "head 5\n1\n0\n128\n512\n-6\ngates 0\n" "refused 11 6 0\n"
    ∷ plain "head 5\n1\n0\n128\n512\n2147483648\ngates 0\n" "refused 11 6 0\n"
    ∷ plain "head 5\n1\n0\n128\n512\ngates 0\n" "refused 11 6 0\n"
    ∷ plain "head 5\n1\n0\n128\n512\n" "refused 11 6 0\n"
    ∷ behind "6\ngates 0\n" "refused 11 6 0\n"
    ∷ fives "gates 897\n" "refused 12 7 0\n"
    ∷ sixes "gates 897\n" "refused 12 7 0\n"
    ∷ sixes "" "refused 11 7 0\n"
    -- a negative line is 18, last within its gate
    ∷ sixes "gates 1\n10 0 0 0 0 -1\n" "refused 18 0 0\n"
    ∷ plain "head 5\n2\n0\n128\n512\n6\ngates 1\n8 1 1 0 0 -1\n" "refused 9 0 0\n"
    ∷ sixes "gates 2\n1 0 0 0 0 -1\n0 0 0 0 0 0\n" "refused 18 0 0\n"
    -- a replaced block takes the line of its first gate in list order; gates outside a block keep theirs
    ∷ plain "head 5\n2\n0\n128\n512\n6\ngates 3\n8 0 1 0 0 9\n2 0 0 0 0 3\n2 0 0 0 0 0\n"
    "head 5\n2\n0\n128\n512\n6\ngates 2\n4 0 0 0 0 9\n8 0 1 0 0 9\ncounts 8\n3\n2\n1\n1\n2\n0\n1\n1\n"
    ∷ plain "head 5\n2\n0\n1\n512\n6\ngates 3\n2 0 0 0 0 9\n2 0 0 0 0 8\n8 0 1 0 0 7\n"
    "head 5\n2\n0\n1\n512\n6\ngates 2\n4 0 0 0 0 9\n8 0 1 0 0 7\ncounts 8\n3\n2\n1\n1\n2\n0\n1\n1\n"
    ∷ []

pub worked : map (λ (c : Case). (answer c.text).text) cases ≡ map (λ (c : Case). c.prints) cases
unfolding answer exact read_text head_at rows word ended natural_line count_line xor
worked = refl

-- what begins with an r is a refusal
pub refusals : map (λ (c : Case). (answer c.text).refused) cases ≡ map (λ (c : Case). eqb (first c.prints) (code "r")) cases
unfolding answer exact read_text head_at rows word ended natural_line count_line xor
refusals = refl

-- the longest text is read, and one byte more is not, whatever they hold: by their length alone, since such texts aren't computed
pub longest : (rest : List ℕ) → length rest ≡ 32767 → (answer (lf ∷ rest)).text ≡ bytes "refused 11 1 0\n"
unfolding answer exact read_text head_at rows word ended natural_line count_line xor
longest rest e = rw e

pub too_long : (text : List ℕ) → length text ≡ 32769 → (answer text).text ≡ bytes "refused 10 0 0\n"
unfolding answer
too_long text e = rw e
