-- A block's resynthesis, whole, at the beginning of a room.
use Rattle.std.specs.Prelude.{◌≡◌, List, ℕ, ◌+◌, ◌*◌, ℤ, length, Option, Some, None}
use Rattle.std.proofs.Math.Option as Maybe
use Rattle.parity.specs.declared.Parity.{Parity}
use Rattle.walk.specs.declared.Slot.{Slot}
use Rattle.rules.specs.Gate.{Gate}
use Rattle.rules.specs.Walk.{phase_walk}
use Rattle.rules.specs.Synth.{emit}
use Rattle.block.specs.declared.Block as State
use Rattle.block.specs.View.{names_of, terms_at}
use Rattle.writing.specs.Written.{Stands, Fits}
use Rattle.synth.specs.Resynthesis.{Rooms}

-- the gates of the block's phase walk
abbrev pub walk_of : State.Block → List ℕ → List Gate
walk_of b room = emit (names_of b) (phase_walk b.wires (terms_at b room))

-- the rooms of a block of n wires, with steps for n squared additions, and a room that is long enough for the walk, for that many CNOTs and for an x on each wire
pub record Lent (b : State.Block) (room : List ℕ) (nodes : List Slot) (from spare : List Parity) (steps : List ℕ) (whole : List ℤ) : Type 0 where
  pub rooms : Rooms b room nodes from spare steps (b.wires * b.wires)
  pub long : Fits whole 0 (length (walk_of b room) + b.wires * b.wires + b.wires)

-- these gates, k of them, are what was asked for, and the room begins with them
pub record Made (o : Maybe.Option (List Gate)) (whole : List ℤ) (k : ℕ) : Type 0 where
  pub gates : List Gate
  pub is : o ≡ Maybe.some gates
  pub stands : Stands whole k gates

-- made; or there are none
abbrev pub Resynthesizes : Maybe.Option (List Gate) → List ℤ → Option ℕ → Type 0
Resynthesizes o whole (Some k) = Made o whole k
Resynthesizes o whole None = o ≡ Maybe.none
