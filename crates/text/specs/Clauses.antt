-- What the crate's functions ask and say.
use Rattle.std.specs.Prelude.{◌≡◌, Option, None, Some, List, ℕ, ◌+◌, ◌*◌, ◌≤◌, length}
use Rattle.std.specs.Borrow.{Bor}
use Rattle.text.specs.Bytes.{pasted}
use Rattle.text.specs.Reading.{Found, none, found}

-- what a reader answers, a value and the text behind it, is what is meant
abbrev pub Reads : {A : Type 0} → Option (A × Bor (List ℕ)) → Found A → Type 0
Reads None meant = meant ≡ none
Reads (Some x) meant = meant ≡ found x.0 x.1.now

-- likewise of a reader that answers only the text behind: with this value beside it
abbrev pub Leaves : {A : Type 0} → A → Option (Bor (List ℕ)) → Found A → Type 0
Leaves value None meant = meant ≡ none
Leaves value (Some rest) meant = meant ≡ found value rest.now

-- some bytes are written from a place of the room on, and the next place is behind them
pub record Writes (new room : List ℕ) (at : ℕ) (room' : List ℕ) (next : ℕ) : Type 0 where
  pub text : room' ≡ pasted room at new
  pub behind : next ≡ at + length new

-- a number of at most 32 bits and one byte beside it; a line of a word of so many bytes and so many numbers: no more bytes than this
abbrev pub line_size : ℕ
line_size = 11

abbrev pub named_size : ℕ → ℕ → ℕ
named_size w n = w + (line_size * n + 1)

-- a number of 32 signed bits and the byte that ends it
abbrev pub number_size : ℕ
number_size = 12

-- some bytes, at most so many, are written from a place of the room on, and the next place is behind them
pub record Prints (most : ℕ) (new room : List ℕ) (at : ℕ) (room' : List ℕ) (next : ℕ) : Type 0 where
  pub writes : Writes new room at room' next
  pub short : length new ≤ most

-- where saturated numbers stay
abbrev pub top : ℕ
top = 4294967295
