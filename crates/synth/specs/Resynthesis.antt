-- What a resynthesis asks of its rooms, and promises.
use Rattle.std.specs.Prelude.{◌≡◌, Bool, false, List, ℕ, ◌+◌, ◌^◌, ◌≤◌, ◌<◌, ℤ, length, get_or}
use Rattle.std.proofs.Math.Option.{none, some}
use Rattle.rules.specs.Limits.{max_columns}
use Rattle.rules.specs.Gate.{Gate}
use Rattle.rules.specs.Fold.{Block}
use Rattle.rules.specs.Synth.{synth}
use Rattle.rules.specs.Budget.{Budget}
use Rattle.terms.specs.Terms.{terms_of}
use Rattle.rows.specs.Rows.{rows_of}
use Rattle.emit.specs.Emitted.{Emits}
use Rattle.parity.specs.declared.Parity.{Parity}
use Rattle.walk.specs.declared.Slot.{Slot}
use Rattle.closing.specs.Emission.{Wired, step_room}
use Rattle.block.specs.View.{names_of, held_of}
use Rattle.block.specs.declared.Block as State

-- rooms of the block's n wires for its walk: a matrix, the terms, a node more than wires
pub record Walkable (b : State.Block) (room : List ℕ) (nodes : List Slot) (from : List Parity) : Type 0 where
  pub few : b.wires ≤ max_columns
  pub named : length (names_of b) ≡ b.wires
  pub wired : Wired (names_of b)
  pub terms : b.terms ≤ length (terms_of room)
  pub deep : b.wires + 1 ≤ length nodes
  pub held : length from ≡ b.wires

-- and for the rest: one more matrix, and steps for all gates that the budget allows
pub record Rooms (b : State.Block) (room : List ℕ) (nodes : List Slot) (from spare : List Parity) (steps : List ℕ) (most : ℕ) : Type 0 where
  pub walkable : Walkable b room nodes from
  pub wide : length (held_of b) ≡ b.wires
  pub below : (i : ℕ) → i < b.wires → get_or (rows_of (held_of b)) i 0 < 2 ^ b.wires
  pub right : length spare ≡ b.wires
  pub long : step_room most b.wires ≤ length steps

-- the block's resynthesis, emitted; where it has none, lost
pub record Synthesizes (bl : Block) (out : List ℤ) (b : Budget) (out' : List ℤ) (b' : Budget) (within : Bool) : Type 0 where
  pub emits : (gs : List Gate) → synth bl ≡ some gs → Emits gs out b out' b' within
  pub lost : synth bl ≡ none → within ≡ false
