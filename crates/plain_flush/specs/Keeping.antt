-- A closed block whose new writing stands whole in a room of its own: the choice, by the first engine's rule.
use Rattle.std.specs.Prelude.{◌≡◌, List, ℕ, ◌+◌, ◌*◌, ◌≤◌, ℤ, length}
use Rattle.rules.specs.Limits.{width, plain_gates, plain_columns, whole_gates}
use Rattle.rules.specs.Numbers.{gates_of}
use Rattle.rules.specs.Counts.{twos}
use Rattle.rules.specs.Synth.{block_of}
use Rattle.rules.specs.Scan.{Writer}
use Rattle.join.specs.Tables.{Leaves}
use Rattle.block.specs.declared.Block as State
use Rattle.block.specs.View.{block_at}
use Rattle.parity.specs.declared.Parity.{Parity}
use Rattle.walk.specs.declared.Slot.{Slot}
use Rattle.flush.specs.Choice.{Settles, Workroom}
use Rattle.plain_synth.specs.Whole as Whole
use Rattle.plain_flush.specs.declared.Kept.{Kept}

-- the place begins with the chosen gates, and the CNOT and CZ of the new writing are counted
pub record Keeps (write : Writer) (run place' : List ℤ) (r : Kept) : Type 0 where
  pub settles : Settles write run place' r.flushed
  pub twos : r.twos ≡ twos (write (gates_of run))

-- the rooms are the parts that the block needs, and hold the run's block; the place is as long as the run
pub record Fitted (run place : List ℤ) (b : State.Block) (room : List ℕ) (nodes : List Slot) (from spare : List Parity) (steps : List ℕ) (whole : List ℤ) : Type 0 where
  pub fits : length place ≡ length run
  pub same : block_at b room ≡ block_of (gates_of run)
  pub lent : Whole.Lent b room nodes from spare steps whole

-- numbers of a step room that is enough for every closing map of the plain engine
abbrev pub additions : ℕ
additions = 2 * (plain_columns * plain_columns + 1)

-- a run of the plain engine's length, whose block has few wires; the place is as long as the run; rooms for the engine, whatever the block
pub record Lent (run place : List ℤ) (b : State.Block) (nodes : List Slot) (from spare : List Parity) (steps : List ℕ) (whole : List ℤ) : Type 0 where
  pub many : length (gates_of run) ≤ plain_gates
  pub narrow : b.wires ≤ plain_columns
  pub fits : length place ≡ length run
  pub work : Workroom nodes from spare
  pub noted : additions ≤ length steps
  pub long : width * whole_gates ≤ length whole

-- the choice stands at the block's place, and no wire is joined any more
pub record Flushes (write : Writer) (run place' : List ℤ) (b : State.Block) (table' : List ℕ) (r : Kept) : Type 0 where
  pub keeps : Keeps write run place' r
  pub leaves : Leaves table' b.names
