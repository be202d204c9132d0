-- A parity's two words as one number of 128 digits: the number that `rules` calls a parity.
use Rattle.std.specs.Prelude.{List, ℕ, ◌+◌, ◌*◌, ◌^◌, get_or}
use Rattle.parity.specs.declared.Parity.{Parity}

abbrev pub val : Parity → ℕ
val p = p.hi * 2 ^ 64 + p.lo

-- none of the columns
abbrev pub none : Parity
none = record { lo = 0; hi = 0 }

-- the number of the parity at a place of a table
abbrev pub picked : List Parity → ℕ → ℕ
picked t i = val (get_or t i none)
