-- What the crate's functions say.
use Rattle.std.specs.Prelude.{◌≡◌, false, List, ℕ, take}
use Rattle.saying.specs.Clauses.{Says}
use Rattle.saying.specs.declared.Said.{Said}
use Rattle.list.specs.Answer as List
use Rattle.list.specs.Clauses.{Kept}
use Rattle.plain_list.specs.Answer.{answer}

-- every text is answered; where it isn't refused, by the list program's own bytes, and so the list that they show keeps demand 3
pub record Plains (text room : List ℕ) (r : Said) (room' : List ℕ) : Type 0 where
  pub says : Says (answer text) room r room'
  -- wrong: a block that ties replaced; T counted before the line is given; a list refused by 15 that the list program refuses by 3
  pub same : r.refused ≡ false → answer text ≡ List.answer text
  pub kept : r.refused ≡ false → Kept text (take r.length room')
