-- What a program that takes a text reads and writes.
use Rattle.std.specs.Prelude.{List, ℕ, ◌+◌, ◌≤◌, ◌<◌, length, Option}
use Rattle.std.specs.Fn.{Once}
use Rattle.std.specs.Io.KnownBytes.{Appends, Consumes, IsAtEnd}
use denote.Ref.{Bor, MutBor}
use Rattle.spelling.specs.Sizes.{list_bytes}
use Rattle.saying.specs.Answer.{Answer}
use Rattle.saying.specs.Clauses.{Says}
use Rattle.saying.specs.declared.Said.{Said}

-- whatever text f is called with, what it leaves in its room is what a definition says of that text
abbrev pub AnswersBy : {F O : Type 0} → Once F (Bor (List ℕ) × (MutBor O × Unit {0})) (Said × (MutBor O × Unit {0})) → F → (O → List ℕ) → (List ℕ → Answer) → Type 0
AnswersBy {F} {O} g f bytes paper = (text : Bor (List ℕ)) (room room' : MutBor O) (said : Said) → g.post f (text, (room, tt)) (said, (room', tt)) → Says (paper text.now) (bytes room.now) said (bytes room'.now)

-- the text is the first bytes of the input, all of it where that is shorter, and what is written is what the definition prints for it
pub record Served (paper : List ℕ → Answer) (left left' held held' : Option (List ℕ)) : Type 0 where
  pub text : List ℕ
  pub most : length text ≤ list_bytes + 1
  -- wrong: a text that leaves out its first byte
  pub reads : Consumes left left' text
  pub whole : length text < list_bytes + 1 → IsAtEnd left'
  -- wrong: the whole room written, or an answer cut short
  pub writes : Appends held held' (paper text).text
