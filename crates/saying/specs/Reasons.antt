-- Why a text is refused, and what is printed of it.
use Rattle.std.specs.Prelude.{true, List, [], ◌∷◌, ℕ}
use Rattle.gate.specs.Verdicts.{refusal_of}
use Rattle.spelling.specs.Texts.{refusal_text}
use Rattle.reading.specs.declared.Wrong.{Wrong}
use Rattle.reading.specs.declared.Wrong.TheVariants as Of
use Rattle.reading.specs.declared.Wrong.TheVariants.{Line}
use Rattle.saying.specs.Answer.{Answer}
use Rattle.saying.specs.declared.Reason.{Reason}
use Rattle.saying.specs.declared.Reason.TheVariants.{Long, Malformed, Many, Unspelled, List as OfList}

-- a text that isn't read
abbrev pub reason_of : Wrong → Reason
reason_of (Line k) = Malformed k
reason_of (Of.Many k) = Many k

-- the line or the gate
abbrev pub place_of : Reason → ℕ
place_of Long = 0
place_of (Malformed line) = line
place_of (Many line) = line
place_of (Unspelled place) = place
place_of (OfList r) = r.place

-- number, place and field
abbrev pub three : Reason → List ℕ
three Long = 10 ∷ 0 ∷ 0 ∷ []
three (Malformed line) = 11 ∷ line ∷ 0 ∷ []
three (Many line) = 12 ∷ line ∷ 0 ∷ []
three (Unspelled place) = 13 ∷ place ∷ 0 ∷ []
three (OfList r) = let s = refusal_of r in s.number ∷ s.place ∷ s.field ∷ []

-- the refusal
abbrev pub told : Reason → Answer
told reason = record { refused = true; text = refusal_text (three reason) }
