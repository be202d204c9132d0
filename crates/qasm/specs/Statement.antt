-- A statement: a gate's numbers spelled by a template, and read by it.
use Rattle.std.specs.Prelude.{cond, List, [], ◌∷◌, ◌++◌, ℕ, zero, suc, eqb, ℤ, pos, get_or, set}
use Rattle.rules.specs.Limits.{last_code}
use Rattle.rules.specs.Numbers.{nat_of}
use Rattle.rules.specs.Refusal.{fault_at}
use Rattle.text.specs.Printing.{printed}
use Rattle.text.specs.Reading.{Found, none, found, onward, integer, word}
use Rattle.qasm.specs.Table.{template, spelled, field_of}

-- ---- by a template

-- a byte of it: itself, or the number that it stands for
unfoldable pub piece : ℕ → List ℤ → List ℕ
piece b row = cond (eqb (field_of b) 0) (b ∷ []) (printed (get_or row (field_of b) (pos 0)))

-- numbers as in our lists, and no other blanks
unfoldable pub spell_by : List ℕ → List ℤ → List ℕ
unfolding piece
spell_by [] row = []
spell_by (b ∷ t) row = piece b row ++ spell_by t row

-- read: the byte itself, or a number, which is put among those at hand. k is any number of 32 signed bits, as it stands
unfoldable pub read_piece : ℕ → List ℕ → List ℤ → Found (List ℤ)
read_piece b bs row =
    cond (eqb (field_of b) 0)
    (onward (word (b ∷ []) bs) none (λ u left. found row left))
    (onward (integer bs) none (λ v left. found (set row (field_of b) v) left))

unfoldable pub read_by : List ℕ → List ℕ → List ℤ → Found (List ℤ)
unfolding read_piece
read_by [] bs row = found row bs
read_by (b ∷ t) bs row = onward (read_piece b bs row) none (λ now left. read_by t left now)

-- ---- a gate's line

-- a gate's numbers, spelled by its code. No template names the sixth: its line isn't spelled
unfoldable pub statement_text : List ℤ → List ℕ
unfolding spell_by
statement_text row = spell_by (template (nat_of (get_or row 0 (pos 0)))) row

-- of a gate only its code is known; what a template doesn't name is 0
abbrev pub bare : ℕ → List ℤ
bare c = pos c ∷ pos 0 ∷ pos 0 ∷ pos 0 ∷ pos 0 ∷ pos 0 ∷ []

-- a gate that stands on line k: its sixth number
abbrev pub on_line : ℕ → List ℤ → List ℤ
on_line k row = set row 5 (pos k)

-- a gate of code c, if the code is spelled
unfoldable pub read_as : ℕ → List ℕ → Found (List ℤ)
unfolding read_by
read_as c bs = cond (spelled c) (read_by (template c) bs (bare c)) none

-- the first that is there, or the other
abbrev pub or_else : {A : Type 0} → Found A → Found A → Found A
or_else none other = other
or_else (found v left) other = found v left

-- the first of n codes, from c on, whose spelling stands at the front
unfoldable pub read_first : ℕ → ℕ → List ℕ → Found (List ℤ)
unfolding read_as
read_first zero c bs = none
read_first (suc n) c bs =
    let others = read_first n (suc c) bs in
    or_else (read_as c bs) others

-- every gate that is spelled, as it stands at the front
unfoldable pub any_gate : List ℕ → Found (List ℤ)
unfolding read_first
any_gate bs = read_first last_code 1 bs

-- right in a list of w wires and b bits: no index is outside its register, and no wire stands twice
unfoldable pub statement : ℕ → ℕ → List ℕ → Found (List ℤ)
unfolding any_gate
statement w b bs = onward (any_gate bs) none (λ row left. cond (eqb (fault_at row w b 0).number 0) (found row left) none)
