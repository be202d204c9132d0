-- What the fold of a gate asks and promises.
use Rattle.std.specs.Prelude.{◌≡◌, List, ℕ, ◌+◌, ◌*◌, ◌^◌, ◌≤◌, length, drop}
use Rattle.rules.specs.Limits.{max_columns, term_width, last_fragment}
use Rattle.rules.specs.Meaning.{op}
use Rattle.rules.specs.Fold as Paper
use Rattle.rules.specs.Fold.{Row, entered}
use Rattle.gate.specs.Writing.{gate_of}
use Rattle.gate.specs.declared.Gate.{Gate}
use Rattle.terms.specs.Terms.{terms_of, Indexed}
use Rattle.block.specs.View.{rows_at, Joined, Holds, InStep}
use Rattle.block.specs.Steps.{Behind, Wired}
use Rattle.block.specs.declared.Block.{Block}

-- only the rows change
pub record Moves (rs : List Row) (b r : Block) (table' : List ℕ) : Type 0 where
  pub joined : Joined rs r table'
  pub terms : r.terms ≡ b.terms
  pub more : b.wires ≤ r.wires
  pub behind : Behind b r

-- the state now stands for p, and the heads are of its index; it has no fewer wires and terms, and what it and the term room hold behind these is as it was
pub record Absorbs (p : Paper.Block) (b r : Block) (room table' room' heads' : List ℕ) : Type 0 where
  pub holds : Holds p r table' room'
  pub more : b.wires ≤ r.wires
  pub grows : b.terms ≤ r.terms
  pub behind : Behind b r
  pub rest : drop (term_width * r.terms) room' ≡ drop (term_width * r.terms) room
  pub indexed : Indexed heads' room' r.terms

-- what the fold of a gate asks: one of the fragment, with an index for each of its wires and room for three terms more, whose places fit a head
pub record Absorbable (b : Block) (g : Gate) (table room heads : List ℕ) : Type 0 where
  pub sound : InStep b table room
  pub wired : Wired g table
  pub least : 1 ≤ g.code
  pub most : g.code ≤ last_fragment
  pub few : length (entered (op (gate_of g)) (rows_at b)) ≤ max_columns
  pub spare : b.terms + 3 ≤ length (terms_of room)
  pub low : b.terms + 3 ≤ 2 ^ 32
  pub indexed : Indexed heads room b.terms
