-- What the crate's functions ask and say: no more bytes than these.
use Rattle.std.specs.Prelude.{List, ℕ, ◌+◌, ◌*◌, ◌/◌, ◌^◌, ◌≤◌, ◌<◌, ℤ, length}
use Rattle.rules.specs.Limits.{width}
use Rattle.text.specs.Clauses.{line_size, named_size, number_size}

-- a section of a word of so many bytes and so many numbers
abbrev pub section_size : ℕ → ℕ → ℕ
section_size w n = named_size w 1 + line_size * n

-- a head, of at most five numbers
abbrev pub head_size : ℕ
head_size = section_size 4 5

-- the gates of so many numbers; a list of them; and a list with so many counts
abbrev pub gates_size : ℕ → ℕ
gates_size n = named_size 5 1 + number_size * n

abbrev pub list_size : ℕ → ℕ
list_size n = head_size + gates_size n

abbrev pub result_size : ℕ → ℕ → ℕ
result_size n counts = list_size n + section_size 6 counts

-- what a section needs: its count is a number of the text, and there is room
pub record Section (word values room : List ℕ) (at : ℕ) : Type 0 where
  pub few : length values < 2 ^ 32
  pub fits : at + section_size (length word) (length values) ≤ length room

pub record Gates (numbers : List ℤ) (room : List ℕ) (at : ℕ) : Type 0 where
  pub few : length numbers / width < 2 ^ 32
  pub fits : at + gates_size (length numbers) ≤ length room

pub record Listable (numbers : List ℤ) (room : List ℕ) (at : ℕ) : Type 0 where
  pub few : length numbers / width < 2 ^ 32
  pub fits : at + list_size (length numbers) ≤ length room

pub record Printable (numbers : List ℤ) (counts room : List ℕ) (at : ℕ) : Type 0 where
  pub few : length numbers / width < 2 ^ 32
  pub counts-few : length counts < 2 ^ 32
  pub fits : at + result_size (length numbers) (length counts) ≤ length room
