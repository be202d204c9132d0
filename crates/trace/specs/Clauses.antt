-- What the crate's functions ask and say.
use Rattle.std.specs.Prelude.{◌≡◌, List, [], ◌∷◌, ℕ, ◌*◌, ◌≤◌, ◌<◌, ℤ}
use Rattle.rules.specs.Gate.{Gate}
use Rattle.rules.specs.Refusal.{accepted}
use Rattle.rules.specs.Plan.{Plan}
use Rattle.rules.specs.Scan.{Piece, pieces_of}
use Rattle.spelling.specs.Sizes.{list_gates}
use Rattle.spelling.specs.Texts.{Head}
use Rattle.saying.specs.Answer.{exact}
use Rattle.saying.specs.Clauses.{Few, Says}
use Rattle.saying.specs.declared.Said.{Said}
use Rattle.scan.specs.Scanning.{gates_in, run, rest}
use Rattle.origin.specs.Clauses.{origin_size}
use Rattle.trace.specs.Answer.{answer}

-- bytes of the room for an answer: a line for each of the most gates. It holds a refusal too
abbrev pub trace_bytes : ℕ
trace_bytes = origin_size * list_gates

-- a list that was read and is right
pub record Right (h : Head) (numbers : List ℤ) : Type 0 where
  pub few : Few numbers
  pub exact : exact h numbers ≡ accepted

-- some gates are one piece
pub record Single (p : Plan) (gs : List Gate) : Type 0 where
  pub piece : Piece
  pub is : pieces_of p gs ≡ piece ∷ []

-- the gates from place i to place j are the first piece of those from place i on, and one piece by themselves
pub record Cuts (p : Plan) (l : List ℤ) (i j : ℕ) : Type 0 where
  pub onward : i < j
  pub inside : j ≤ gates_in l
  pub piece : Piece
  pub splits : pieces_of p (rest l i) ≡ piece ∷ pieces_of p (rest l j)
  pub alone : pieces_of p (run l i j) ≡ piece ∷ []

-- every text is answered by the definition's bytes. Wrong: a gate's line told one late; a block that is kept told as written again
abbrev pub Traces : List ℕ → List ℕ → Said → List ℕ → Type 0
Traces text room r room' = Says (answer text) room r room'
