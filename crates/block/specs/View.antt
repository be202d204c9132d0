-- The block under construction, as `rules` has it: its rows from its names, parities and constants; its terms from the term room.
use Rattle.std.specs.Prelude.{◌≡◌, false, List, [], ◌∷◌, ℕ, zero, suc, ◌≤◌, length, get_or, take}
use Rattle.rules.specs.Limits.{max_columns}
use Rattle.rules.specs.Bit.{bit}
use Rattle.rules.specs.Fold as Paper
use Rattle.parity.specs.View.{val}
use Rattle.parity.specs.declared.Parity.{Parity}
use Rattle.terms.specs.Terms.{terms_of}
use Rattle.rows.specs.Rows.{rows_of}
use Rattle.join.specs.Tables.{Joins}
use Rattle.block.specs.declared.Block.{Block}

-- the names of the wires that have joined, and the parities that they hold
abbrev pub names_of : Block → List ℕ
names_of b = take b.wires b.names

abbrev pub held_of : Block → List Parity
held_of b = take b.wires b.rows

-- n rows from index i on
unfoldable pub rows_from : (ℕ → Paper.Row) → ℕ → ℕ → List Paper.Row
rows_from f zero i = []
rows_from f (suc n) i = f i ∷ rows_from f n (suc i)

-- the row of a local index: names has the wires, held the parities, flips the constants
abbrev pub row_at : List ℕ → List ℕ → ℕ → ℕ → Paper.Row
row_at names held flips i = record { wire = get_or names i 0; parity = get_or held i 0; flips = bit flips i }

unfoldable pub rows_at : Block → List Paper.Row
unfolding rows_from
rows_at b = rows_from (row_at b.names (rows_of b.rows) (val b.flips)) b.wires 0

unfoldable pub terms_at : Block → List ℕ → List Paper.Term
terms_at b room = take b.terms (terms_of room)

abbrev pub block_at : Block → List ℕ → Paper.Block
block_at b room = record { rows = rows_at b; terms = terms_at b room }

-- the state and the join table stand for rs
pub record Joined (rs : List Paper.Row) (b : Block) (table : List ℕ) : Type 0 where
  pub joins : Joins table b.names b.wires
  pub wide : max_columns ≤ length (rows_of b.rows)
  pub clear : (i : ℕ) → b.wires ≤ i → bit (val b.flips) i ≡ false
  pub same : rows_at b ≡ rs

-- the state and its term room stand for ts
pub record Folded (ts : List Paper.Term) (b : Block) (room : List ℕ) : Type 0 where
  pub few : b.terms ≤ length (terms_of room)
  pub same : terms_at b room ≡ ts

pub record Holds (p : Paper.Block) (b : Block) (table room : List ℕ) : Type 0 where
  pub rows_are : Joined p.rows b table
  pub terms-are : Folded p.terms b room

-- state and rooms in step, whatever block they stand for
abbrev pub Rowed : Block → List ℕ → Type 0
Rowed b table = Joined (rows_at b) b table

abbrev pub InStep : Block → List ℕ → List ℕ → Type 0
InStep b table room = Holds (block_at b room) b table room
