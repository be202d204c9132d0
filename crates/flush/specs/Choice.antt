-- A closed block's choice: its new writing where that is cheaper, else its own gates. What it is rewritten to is a parameter.
use Rattle.std.specs.Prelude.{◌≡◌, Bool, true, false, ◌&&◌, ◌||◌, List, ℕ, ◌+◌, ◌*◌, ◌≤◌, ℤ, Result, length, take, eqb, leb, ltb}
use Rattle.rules.specs.Limits.{width, step_width, max_gates, max_wires, max_columns}
use Rattle.rules.specs.Gate.{Gate}
use Rattle.rules.specs.Numbers.{gates_of, numbers_of}
use Rattle.rules.specs.Counts.{twos, cheaper}
use Rattle.rules.specs.Budget.{Budget}
use Rattle.rules.specs.Synth.{block_of}
use Rattle.rules.specs.Scan.{Writer, chosen, replaces}
use Rattle.budget.specs.declared.Budget as Code
use Rattle.budget.specs.declared.Spent.{Spent}
use Rattle.budget.specs.View as Counted
use Rattle.parity.specs.declared.Parity.{Parity}
use Rattle.emit.specs.Emitted.{Holds}
use Rattle.join.specs.Tables.{Leaves}
use Rattle.walk.specs.declared.Slot.{Slot}
use Rattle.block.specs.declared.Block as State
use Rattle.block.specs.View as Block
use Rattle.block.specs.View.{block_at}
use Rattle.synth.specs.Resynthesis.{Rooms}
use Rattle.flush.specs.declared.Flushed.{Flushed}

-- the counts are cheaper than the ceilings; of gates that the budget has counted this is document 01's rule (`keeps-cheaper`)
abbrev pub keeps : Budget → Bool
keeps b = leb b.all b.max_all && (ltb b.two b.max_two || (eqb b.two b.max_two && ltb b.all b.max_all))

-- ---- a run of gates written again at its place

-- the place begins with the new gates, and the budget has counted them under the run's own counts
pub record Made (new gs : List Gate) (place' : List ℤ) (b : Budget) : Type 0 where
  pub holds : Holds place' b new
  pub max_two : b.max_two ≡ twos gs
  pub max_all : b.max_all ≡ length gs

-- made, exactly what the writer says; or stopped, and that is not cheaper than the run: a ceiling is passed, or the writer has nothing to offer
pub record Writes (write : Writer) (gs : List Gate) (place' : List ℤ) (p : Result Code.Budget Spent) : Type 0 where
  pub made : Counted.made p ≡ true → Made (write gs) gs place' (Counted.counts_after p)
  pub stopped : Counted.made p ≡ false → cheaper (write gs) gs ≡ false

-- the numbers of a run are those of its gates
abbrev pub Exact : List ℤ → Type 0
Exact run = numbers_of (gates_of run) ≡ run

-- the place begins with the chosen gates
pub record Settles (write : Writer) (run place' : List ℤ) (r : Flushed) : Type 0 where
  pub text : take (width * r.gates) place' ≡ numbers_of (chosen write (gates_of run))
  pub gates : r.gates ≡ length (chosen write (gates_of run))
  pub replaced : r.replaced ≡ replaces write (gates_of run)

-- ---- what is asked

-- the rooms are the parts that the block needs, and hold the run's block; the place is as long as the run
pub record Fitted (run place : List ℤ) (b : State.Block) (room : List ℕ) (nodes : List Slot) (from spare : List Parity) (steps : List ℕ) : Type 0 where
  pub many : length (gates_of run) ≤ max_gates
  pub fits : length place ≡ length run
  pub same : block_at b room ≡ block_of (gates_of run)
  pub rooms : Rooms b room nodes from spare steps (length (gates_of run))

-- a run that lies exactly, and its block
pub record Flushable (run : List ℤ) (b : State.Block) (table room : List ℕ) : Type 0 where
  pub exact : Exact run
  pub holds : Block.Holds (block_of (gates_of run)) b table room
  pub wires : length table ≤ max_wires

-- nodes of a stack that is enough for every block
abbrev pub stack_length : ℕ
stack_length = max_columns + 1

-- rooms for the engine, whatever the block: a stack and two matrices
pub record Workroom (nodes : List Slot) (from spare : List Parity) : Type 0 where
  pub deep : stack_length ≤ length nodes
  pub held : max_columns ≤ length from
  pub right : max_columns ≤ length spare

-- the place is as long as the run; rooms for the engine, and steps for the run's gates
pub record Lent (run place : List ℤ) (nodes : List Slot) (from spare : List Parity) (steps : List ℕ) : Type 0 where
  pub many : length (gates_of run) ≤ max_gates
  pub fits : length place ≡ length run
  pub work : Workroom nodes from spare
  pub long : step_width * (length (gates_of run) + 1) ≤ length steps

-- ---- what is promised

-- the choice stands at the block's place, and no wire is joined any more
pub record Flushes (write : Writer) (run place' : List ℤ) (b : State.Block) (table' : List ℕ) (r : Flushed) : Type 0 where
  pub settles : Settles write run place' r
  pub leaves : Leaves table' b.names
