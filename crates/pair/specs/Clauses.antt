-- What the crate's functions ask and say.
use Rattle.std.specs.Prelude.{◌≡◌, ◌↔◌, Option, None, Some, true, false, List, ◌∷◌, ◌++◌, ℕ, ℤ, take}
use Rattle.rules.specs.Numbers.{gates_of}
use Rattle.rules.specs.Stretch.{AlikeGates}
use Rattle.text.specs.Bytes.{bytes}
use Rattle.spelling.specs.Texts.{Head, list_text, refusal_text}
use Rattle.saying.specs.Answer.{Answer}
use Rattle.saying.specs.Reasons.{three}
use Rattle.saying.specs.declared.Reason.{Reason}
use Rattle.alike.specs.Answering.{number_of}
use Rattle.alike.specs.declared.Which.{Which}
use Rattle.saying.specs.Clauses.{Says}
use Rattle.saying.specs.declared.Said.{Said}
use Rattle.pair.specs.Answer.{answer}

-- a refusal of one of the lists, or of neither
abbrev pub list_of : Option Which → ℕ
list_of None = 0
list_of (Some w) = number_of w

abbrev pub refused_as : Option Which → Reason → Answer
refused_as which reason = record { refused = true; text = refusal_text (list_of which ∷ three reason) }

-- the text is two lists over the same wires, one behind the other; and `same` is printed exactly where they act alike: every setting of the wires goes to the
-- same setting, and phases differ by one constant modulo 8
pub record Compared (text printed : List ℕ) : Type 0 where
  pub one : Head
  pub two : Head
  pub first : List ℤ
  pub second : List ℤ
  pub parts : text ≡ list_text one first ++ list_text two second
  pub wires : two.wires ≡ one.wires
  -- wrong: the first list compared with itself
  pub same : (printed ≡ bytes "same\n") ↔ AlikeGates (gates_of first) (gates_of second)

-- every text is answered by the definition's bytes; and where they are no refusal, they say whether its two lists act alike
pub record Pairs (text room : List ℕ) (r : Said) (room' : List ℕ) : Type 0 where
  pub says : Says (answer text) room r room'
  pub compared : r.refused ≡ false → Compared text (take r.length room')
