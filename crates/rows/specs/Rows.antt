-- A bit matrix in a room of parities, one to a row.
use Rattle.std.specs.Prelude.{Bool, true, false, not, ◌&&◌, List, map, Option, Some, None, ℕ, eqb}
use Rattle.std.proofs.Math.Option as Maybe
use Rattle.parity.specs.declared.Parity.{Parity}
use Rattle.parity.specs.View.{val}
use Rattle.rules.specs.Bit.{bit}
use Rattle.rules.specs.Close.{Pairs}

-- the rows of a room, as numbers
abbrev pub rows_of : List Parity → List ℕ
rows_of xs = map val xs

-- what a search tells
abbrev pub found_of : Option ℕ → Maybe.Option ℕ
found_of (Some r) = Maybe.some r
found_of None = Maybe.none

-- row r, with the parity p, is another than row c and has the column c
abbrev pub other_has : ℕ → ℕ → ℕ → Bool
other_has c r p = not (eqb r c) && bit p c

-- two matrices that change together
abbrev pub pair : List ℕ → List ℕ → Pairs
pair a b = record { left = a; right = b }

-- an inverse where there is one
unfoldable pub given : Bool → List ℕ → Maybe.Option (List ℕ)
given true rows = Maybe.some rows
given false rows = Maybe.none
