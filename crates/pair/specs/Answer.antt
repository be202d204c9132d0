-- What the program that compares two lists answers to every text: one list's text behind the other's.
use Rattle.std.specs.Prelude.{Bool, true, false, not, List, [], ◌∷◌, ℕ, ◌+◌, eqb, ltb, ℤ, length}
use Rattle.rules.specs.Refusal.{first_number}
use Rattle.text.specs.Bytes.{bytes}
use Rattle.spelling.specs.Sizes.{list_bytes, list_gates}
use Rattle.spelling.specs.Texts.{refusal_text}
use Rattle.spelling.specs.Reading.{Front, wrong, large, list, list_at}
use Rattle.saying.specs.Answer.{Answer, answered}
use Rattle.acting.specs.Alike.{Verdict, alike, map_differs, flips_differ, phase_differs}
use Rattle.alike.specs.Answering as Alike

-- a refusal's list, 1 or 2, or 0 where it belongs to neither; then its number, place and field
abbrev pub refusal : ℕ → ℕ → ℕ → ℕ → Answer
refusal which number place field = record { refused = true; text = refusal_text (which ∷ number ∷ place ∷ field ∷ []) }

-- the same, or the first that differs
abbrev pub verdict_text : Verdict → List ℕ
verdict_text alike = bytes "same\n"
verdict_text map_differs = bytes "map\n"
verdict_text flips_differ = bytes "flips\n"
verdict_text phase_differs = bytes "phase\n"

-- what the library answers
abbrev pub told : Alike.Answer → Answer
told (Alike.refusal which r) = refusal which r.number r.place r.field
told (Alike.says v) = answered (verdict_text v)

-- something is left
abbrev pub some : List ℕ → Bool
some [] = false
some (b ∷ bs) = true

-- the second list, of which the first line is k: 11 and 12 as the list program has them; 11 too for wires that aren't the first list's, with their line, and
-- for a surplus line, which belongs to neither. Then what the library answers
abbrev pub second_as : ℕ → List ℤ → ℕ → Front → Answer
second_as w us k (wrong n) = refusal 2 11 n 0
second_as w us k (large n) = refusal 2 12 n 0
second_as w us k (list h vs n left) = first_number ((not (eqb h.wires w), refusal 2 11 (k + 1) 0) ∷ (some left, refusal 0 11 n 0) ∷ []) (told (Alike.answer us vs w))

-- the first list
abbrev pub first_as : Front → Answer
first_as (wrong n) = refusal 1 11 n 0
first_as (large n) = refusal 1 12 n 0
first_as (list h us n left) = second_as h.wires us n (list_at list_gates n left)

-- 10, then line by line over the whole text, then as the library answers
unfoldable pub answer : List ℕ → Answer
unfolding list_at
answer text = first_number ((ltb list_bytes (length text), refusal 0 10 0 0) ∷ []) (first_as (list_at list_gates 1 text))
