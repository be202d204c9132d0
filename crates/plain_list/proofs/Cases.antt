-- Worked texts, by computing: one table, two statements.
use mathlib.Core.Path.{◌≡◌, refl}
use mathlib.Core.List.{List, [], ◌∷◌, map}
use Prim.Native.Char.{code}
use lib.Dec.{eqb}
use Rattle.rules.specs.Bit.{xor}
use Rattle.text.specs.Bytes.{first}
use Rattle.text.specs.Reading.{word, ended, natural_line, count_line}
use Rattle.spelling.specs.Reading.{head_at, rows, read_text}
use Rattle.list.proofs.Cases.{Case, plain}
use Rattle.plain_list.specs.Answer.{plain_exact, answer}

abbrev pub cases : List Case
cases =
    -- document 01's list, at the widest cap that is taken; one wider, and the desk's own 128, are 15
    plain "head 4\n1\n0\n32\n512\ngates 2\n2 0 0 0 0\n2 0 0 0 0\n" "head 4\n1\n0\n32\n512\ngates 1\n4 0 0 0 0\ncounts 8\n2\n1\n0\n0\n2\n0\n1\n1\n"
    ∷ plain "head 4\n1\n0\n33\n512\ngates 2\n2 0 0 0 0\n2 0 0 0 0\n" "refused 15 0 0\n"
    ∷ plain "head 4\n1\n0\n128\n512\ngates 2\n2 0 0 0 0\n2 0 0 0 0\n" "refused 15 0 0\n"
    -- the cap is clamped before it is tested: 0 is 1, and the largest number is 128
    ∷ plain "head 4\n1\n0\n0\n512\ngates 1\n2 0 0 0 0\n" "head 4\n1\n0\n0\n512\ngates 1\n2 0 0 0 0\ncounts 8\n1\n1\n0\n0\n1\n1\n1\n0\n"
    ∷ plain "head 4\n1\n0\n2147483647\n512\ngates 0\n" "refused 15 0 0\n"
    -- a block that ties is kept; lines as the list program gives them
    ∷ plain "head 4\n2\n0\n2\n512\ngates 3\n8 0 1 0 0\n8 1 0 0 0\n8 0 1 0 0\n"
    "head 4\n2\n0\n2\n512\ngates 3\n8 0 1 0 0\n8 1 0 0 0\n8 0 1 0 0\ncounts 8\n3\n3\n3\n3\n0\n0\n1\n0\n"
    ∷ plain "head 5\n2\n0\n32\n512\n6\ngates 3\n8 0 1 0 0 9\n2 0 0 0 0 3\n2 0 0 0 0 0\n"
    "head 5\n2\n0\n32\n512\n6\ngates 2\n4 0 0 0 0 9\n8 0 1 0 0 9\ncounts 8\n3\n2\n1\n1\n2\n0\n1\n1\n"
    -- the order: 11 and 12 before 3, 3 before 15, 15 before the gates
    ∷ plain "head 4\n4097\n0\n33\n512\ngates 1\n2 0 0 0\n" "refused 11 7 0\n"
    ∷ plain "head 4\n4097\n0\n33\n512\ngates 897\n" "refused 12 6 0\n"
    ∷ plain "head 4\n4097\n0\n33\n512\ngates 1\n0 0 0 0 0\n" "refused 3 0 0\n"
    ∷ plain "head 4\n1\n0\n33\n512\ngates 1\n0 0 0 0 0\n" "refused 15 0 0\n"
    ∷ plain "head 4\n1\n0\n32\n512\ngates 1\n0 0 0 0 0\n" "refused 6 0 0\n"
    ∷ plain "head 4\n2\n0\n32\n512\ngates 2\n2 0 0 0 0\n8 0 2 0 0\n" "refused 8 1 2\n"
    ∷ []

pub worked : map (λ (c : Case). (answer c.text).text) cases ≡ map (λ (c : Case). c.prints) cases
unfolding answer plain_exact read_text head_at rows word ended natural_line count_line xor
worked = refl

-- what begins with an r is a refusal
pub refusals : map (λ (c : Case). (answer c.text).refused) cases ≡ map (λ (c : Case). eqb (first c.prints) (code "r")) cases
unfolding answer plain_exact read_text head_at rows word ended natural_line count_line xor
refusals = refl
