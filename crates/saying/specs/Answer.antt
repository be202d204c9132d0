-- Answers to texts: a refusal, and what a list's text comes to before the program makes anything of it.
use Rattle.std.specs.Prelude.{Bool, true, false, List, [], ◌∷◌, ℕ, ◌*◌, ◌/◌, ltb, ℤ, length}
use Rattle.rules.specs.Limits.{width, term_width, step_width, term_entries, step_entries}
use Rattle.rules.specs.Refusal.{Verdict, accepted, refused, first_number, verdict}
use Rattle.spelling.specs.Sizes.{list_bytes, list_gates}
use Rattle.spelling.specs.Texts.{Head, refusal_text}
use Rattle.spelling.specs.Reading.{Read, malformed, many, read, read_text}

-- the bytes that are printed, and whether they are a refusal
pub record Answer : Type 0 where
  pub refused : Bool
  pub text : List ℕ

abbrev pub answered : List ℕ → Answer
answered text = record { refused = false; text = text }

-- a refusal's number, place and field; the programs' own name no field, which is 0
abbrev pub refusal : ℕ → ℕ → ℕ → Answer
refusal number place field = record { refused = true; text = refusal_text (number ∷ place ∷ field ∷ []) }

-- 10: a text above 32,768 bytes, before anything is read
abbrev pub unless_long : List ℕ → Answer → Answer
unless_long text else = first_number ((ltb list_bytes (length text), refusal 10 0 0) ∷ []) else

-- ---- a list's text

-- a list that was read gets rooms exactly as long as it needs: only 3, and 6 to 9, 14 and 18 with the gate's index, can come
-- (`three-or-gates` among the proofs of `spelling`)
unfoldable pub exact : Head → List ℤ → Verdict
unfolding verdict
exact h numbers =
    let g = length numbers / width in
    verdict numbers h.wires h.bits (length numbers) (term_width * term_entries g) (step_width * step_entries g)

-- what a program says of a list
abbrev pub Next : Type 0
Next = Head → List ℤ → Answer

abbrev pub judged : Answer → Verdict → Answer
judged else (refused r) = refusal r.number r.place r.field
judged else accepted = else

-- 11: a malformed, missing or surplus line, by its number; 12: more than 896 gates, by the line of `gates`
abbrev pub read_as : Next → Read → Answer
read_as next (malformed line) = refusal 11 line 0
read_as next (many line) = refusal 12 line 0
read_as next (read h numbers) = next h numbers

-- what a list that was read is refused by, if it is
abbrev pub Judge : Type 0
Judge = Head → List ℤ → Verdict

-- what the program says of an accepted list
abbrev pub judged_by : Judge → Next → Next
judged_by judge next h numbers = judged (next h numbers) (judge h numbers)

-- the list program's own judge: 3, then gate by gate
abbrev pub checked : Next → Next
checked next = judged_by exact next

-- 10, then line by line; then what the program says of the list
unfoldable pub answer_by : Next → List ℕ → Answer
unfolding read_text exact refusal_text
answer_by next text = unless_long text (read_as next (read_text list_gates text))
