-- Worked texts, by computing: one table, two statements.
use mathlib.Core.Path.{◌≡◌, refl}
use mathlib.Core.List.{List, [], ◌∷◌, ◌++◌, map}
use Prim.Native.Nat.{ℕ, ◌+◌}
use Prim.Native.Char.{code}
use Prim.Native.String.{String}
use lib.Dec.{eqb}
use lib.ListN.{replicate}
use Rattle.text.specs.Bytes.{bytes, lf, first}
use Rattle.text.specs.Reading.{word, ended, natural_line, count_line}
use Rattle.spelling.specs.Sizes.{list_bytes}
use Rattle.spelling.specs.Texts.{refusal_text}
use Rattle.spelling.specs.Reading.{head_at, rows, list_at}
use Rattle.acting.specs.Alike.{verdict}
use Rattle.alike.specs.Answering.{answer as compared}
use Rattle.pair.specs.Answer.{answer}

-- a text, and what is printed for it
pub record Case : Type 0 where
  pub text : List ℕ
  pub prints : List ℕ

abbrev plain : String → String → Case
plain text prints = record { text = bytes text; prints = bytes prints }

-- two lists on two wires and no bit, from `gates` on
abbrev both : String → String → String → Case
both one two prints = record { text = bytes "head 4\n2\n0\n128\n512\n" ++ bytes one ++ bytes "head 4\n2\n0\n128\n512\n" ++ bytes two; prints = bytes prints }

abbrev pub cases : List Case
cases =
    -- cz01 cz01, whose terms are not the empty list's
    both "gates 2\n9 0 1 0 0\n9 0 1 0 0\n" "gates 0\n" "same\n"
    -- the first that differs of linear map, flips and phase
    ∷ both "gates 2\n1 0 0 0 0\n8 0 1 0 0\n" "gates 1\n2 0 0 0 0\n" "map\n"
    ∷ both "gates 1\n1 0 0 0 0\n" "gates 1\n2 0 0 0 0\n" "flips\n"
    ∷ both "gates 1\n4 0 0 0 0\n" "gates 1\n2 0 0 0 0\n" "phase\n"
    -- another form of head; bits, caps and the gates' lines aren't looked at
    ∷ plain "head 4\n1\n0\n128\n512\ngates 1\n2 0 0 0 0\nhead 5\n1\n2000\n0\n0\n6\ngates 1\n2 0 0 0 0 9\n" "same\n"
    -- a line that is malformed or missing, by its number over the whole text; too many gates
    ∷ plain "" "refused 1 11 1 0\n"
    ∷ plain "head 4\n1\n0\n128\n512\ngates 2000\n" "refused 1 12 6 0\n"
    ∷ plain "head 4\n1\n0\n128\n512\ngates 0\n" "refused 2 11 7 0\n"
    ∷ both "gates 0\n" "gates 2000\n" "refused 2 12 12 0\n"
    ∷ both "gates 0\n" "gates 1\n2 0 0 0\n" "refused 2 11 13 0\n"
    -- other wires, by the line of the second list's, once both are read; then a surplus line
    ∷ plain "head 4\n1\n0\n128\n512\ngates 0\nhead 4\n2\n0\n128\n512\ngates 0\n\n" "refused 2 11 8 0\n"
    ∷ plain "head 4\n1\n0\n128\n512\ngates 0\nhead 4\n2\n0\n128\n512\ngates 1\n" "refused 2 11 13 0\n"
    ∷ both "gates 0\n" "gates 0\n\n" "refused 0 11 13 0\n"
    -- then as the library refuses, with the gate's index. There are no bits, so that a measure is 14
    ∷ plain "head 4\n129\n0\n128\n512\ngates 0\nhead 4\n129\n0\n128\n512\ngates 0\n" "refused 1 17 0 0\n"
    ∷ both "gates 1\n27 0 0 0 0\n" "gates 0\n" "refused 1 14 0 2\n"
    ∷ both "gates 0\n" "gates 2\n1 0 0 0 0\n17 0 1 0 0\n" "refused 2 16 1 0\n"
    ∷ both "gates 1\n0 0 0 0 0\n" "gates 1\n0 0 0 0 0\n" "refused 1 6 0 0\n"
    -- all lines before any gate
    ∷ both "gates 1\n0 0 0 0 0\n" "gates 0" "refused 2 11 13 0\n"
    -- the longest text is read; one byte more is not
    ∷ record { text = replicate list_bytes lf; prints = bytes "refused 1 11 1 0\n" }
    ∷ record { text = replicate (list_bytes + 1) lf; prints = bytes "refused 0 10 0 0\n" }
    ∷ []

pub worked : map (λ (c : Case). (answer c.text).text) cases ≡ map (λ (c : Case). c.prints) cases
unfolding answer list_at refusal_text head_at rows word ended natural_line count_line compared verdict
worked = refl

-- what begins with an r is a refusal
pub refusals : map (λ (c : Case). (answer c.text).refused) cases ≡ map (λ (c : Case). eqb (first c.prints) (code "r")) cases
unfolding answer list_at refusal_text head_at rows word ended natural_line count_line compared verdict
refusals = refl
