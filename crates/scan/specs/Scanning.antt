-- What the functions of the scan ask and promise.
use Rattle.std.specs.Prelude.{◌≡◌, false, List, [], ◌++◌, ℕ, ◌+◌, ◌-◌, ◌*◌, ◌/◌, ◌^◌, ◌≤◌, ◌<◌, ℤ, length, get_or, take}
use Rattle.rules.specs.Limits.{width, max_gates, max_wires, max_columns, term_entries, step_width, step_entries}
use Rattle.rules.specs.Gate.{Gate}
use Rattle.rules.specs.Numbers.{gate_at, gates_from, gates_of, numbers_of}
use Rattle.rules.specs.Meaning.{op}
use Rattle.rules.specs.Refusal.{fault_at}
use Rattle.rules.specs.Synth.{block_of}
use Rattle.rules.specs.Plan.{Plan}
use Rattle.rules.specs.Scan.{takes, cut, Writer, chosen, replaces, Result, finish, pass_by}
use Rattle.terms.specs.Terms.{terms_of}
use Rattle.block.specs.View.{Holds}
use Rattle.block.specs.declared.Block.{Block}
use Rattle.flush.specs.Choice.{Exact}
use Rattle.flush.specs.declared.Flushed.{Flushed}
use Rattle.scan.specs.declared.Tally.{Tally}

-- how many gates a list has
abbrev pub gates_in : List ℤ → ℕ
gates_in l = length l / width

-- ---- what is asked of the list and lent

-- what the check of a list says, on w wires and some classical bits
pub record Checked (l : List ℤ) (w : ℕ) : Type 0 where
  pub bits : ℕ
  pub exact : Exact l
  pub few : gates_in l ≤ max_gates
  pub wires : w ≤ max_wires
  pub each : (i : ℕ) → i < gates_in l → (fault_at l w bits i).number ≡ 0

-- no wire has joined
abbrev pub Unjoined : List ℕ → Type 0
Unjoined table = (q : ℕ) → get_or table q 0 ≡ 0

-- no wire has joined, and there is room for three terms a gate
pub record Clear (l : List ℤ) (table room : List ℕ) : Type 0 where
  pub clear : Unjoined table
  pub terms : term_entries (gates_in l) ≤ length (terms_of room)

-- steps for the list's gates
pub record Spared (l : List ℤ) (steps : List ℕ) : Type 0 where
  pub long : step_width * step_entries (gates_in l) ≤ length steps

-- a list and a number of wires that are within what an engine takes, and the numbers that it needs are lent
pub record Suits (gates wires needs : ℕ) (l : List ℤ) (n : ℕ) (whole : List ℤ) : Type 0 where
  pub few : gates_in l ≤ gates
  pub narrow : n ≤ wires
  pub long : needs ≤ length whole

-- what an engine is lent for a run: the place is as long as the run, and there are steps for the run's gates
pub record Placed (run place : List ℤ) (steps : List ℕ) : Type 0 where
  pub many : length (gates_of run) ≤ max_gates
  pub fits : length place ≡ length run
  pub long : step_width * (length (gates_of run) + 1) ≤ length steps

-- heads of an index at most
abbrev pub most_heads : ℕ
most_heads = 4096

-- heads for an index of a block's terms
pub record Headed (heads : List ℕ) : Type 0 where
  pub some : 0 < length heads
  pub few : length heads ≤ 2 ^ 32

-- ---- a run of gates

-- the gates from place i to place j
abbrev pub run : List ℤ → ℕ → ℕ → List Gate
run l i j = gates_from l (j - i) i

-- the gates from place i on
abbrev pub rest : List ℤ → ℕ → List Gate
rest l i = run l i (gates_in l)

-- a block can start at place i: the list is checked, the plan clamped, the rooms are clear and long enough
pub record Foldable (p : Plan) (l : List ℤ) (i : ℕ) (table room : List ℕ) : Type 0 where
  pub checked : Checked l (length table)
  pub capped : p.qubits ≤ max_columns
  pub inside : i ≤ gates_in l
  pub clear : Clear l table room

-- the block took the gates up to place j within the qubit cap, and can't take the next
pub record Stops (p : Plan) (l : List ℤ) (i : ℕ) (b : Block) (j : ℕ) (table room : List ℕ) : Type 0 where
  pub onward : i ≤ j
  pub inside : j ≤ gates_in l
  pub holds : Holds (block_of (run l i j)) b table room
  pub narrow : length (block_of (run l i j)).rows ≤ p.qubits
  pub cuts : cut p [] (rest l i) ≡ cut p (run l i j) (rest l j)
  pub full : j < gates_in l → takes p (op (gate_at l j)) (block_of (run l i j)) ≡ false

-- ---- a piece is written behind the m gates that are there

-- the output's first m gates
abbrev pub made : List ℤ → ℕ → List ℤ
made out m = take (width * m) out

-- the run lies in the list, and its place behind the m gates in the output; state and rooms hold its block
pub record Closable (l : List ℤ) (i j : ℕ) (b : Block) (out : List ℤ) (m : ℕ) (table room : List ℕ) : Type 0 where
  pub checked : Checked l (length table)
  pub onward : i ≤ j
  pub inside : j ≤ gates_in l
  pub behind : m ≤ i
  pub fits : length out ≡ length l
  pub holds : Holds (block_of (run l i j)) b table room

-- the chosen gates follow, and no wire is joined any more
pub record Closes (write : Writer) (l : List ℤ) (i j : ℕ) (out : List ℤ) (m : ℕ) (out' : List ℤ) (table : List ℕ) (f : Flushed) : Type 0 where
  pub text : made out' (m + f.gates) ≡ made out m ++ numbers_of (chosen write (run l i j))
  pub gates : f.gates ≡ length (chosen write (run l i j))
  pub replaced : f.replaced ≡ replaces write (run l i j)
  pub clear : Unjoined table

pub record Copyable (l : List ℤ) (i : ℕ) (out : List ℤ) (m : ℕ) : Type 0 where
  pub exact : Exact l
  pub inside : i < gates_in l
  pub behind : m ≤ i
  pub fits : length out ≡ length l

-- ---- the loop

-- what the scan makes of the gates from place i on
abbrev pub onward : Writer → Plan → List ℤ → ℕ → Result
onward write p l i = finish write (cut p [] (rest l i))

-- no count passes the limit of gates, so that none overflows
pub record Low (s : Tally) : Type 0 where
  pub at : s.at ≤ max_gates
  pub gates : s.gates ≤ max_gates
  pub blocks : s.blocks ≤ max_gates
  pub replaced : s.replaced ≤ max_gates

-- the gates so far stand in the output, and with what is made of the rest they are what is made of the list
pub record Stands (write : Writer) (p : Plan) (l : List ℤ) (s : Tally) (out : List ℤ) : Type 0 where
  pub inside : s.at ≤ gates_in l
  pub behind : s.gates ≤ s.at
  pub few : s.blocks ≤ s.at
  pub fewer : s.replaced ≤ s.at
  pub so_far : List Gate
  pub text : made out s.gates ≡ numbers_of so_far
  pub size : length so_far ≡ s.gates
  pub gates : so_far ++ (onward write p l s.at).gates ≡ (onward write p l 0).gates
  pub blocks : s.blocks + (onward write p l s.at).blocks ≡ (onward write p l 0).blocks
  pub replaced : s.replaced + (onward write p l s.at).replaced ≡ (onward write p l 0).replaced

-- another piece can be written behind those that stand in the output
pub record Ready (write : Writer) (p : Plan) (l : List ℤ) (s : Tally) (table : List ℕ) (out : List ℤ) (room steps : List ℕ) : Type 0 where
  pub checked : Checked l (length table)
  pub capped : p.qubits ≤ max_columns
  pub clear : Clear l table room
  pub spared : Spared l steps
  pub stands : Stands write p l s out
  pub more : s.at < gates_in l
  pub fits : length out ≡ length l

-- a piece more stands there, and no wire is joined
pub record Advances (write : Writer) (p : Plan) (l : List ℤ) (s r : Tally) (out : List ℤ) (table : List ℕ) : Type 0 where
  pub onward : s.at < r.at
  pub stands : Stands write p l r out
  pub clear : Unjoined table

-- ---- the whole

pub record Scannable (p : Plan) (l out : List ℤ) (table room steps : List ℕ) : Type 0 where
  pub capped : p.qubits ≤ max_columns
  pub checked : Checked l (length table)
  pub clear : Clear l table room
  pub fits : length out ≡ length l
  pub long : step_width * step_entries (gates_in l) ≤ length steps

-- the output begins with what document 01's scan makes of the list, the counts are its own, and no wire is joined
pub record Scans (write : Writer) (p : Plan) (l out : List ℤ) (table : List ℕ) (s : Tally) : Type 0 where
  pub text : made out s.gates ≡ numbers_of (pass_by write p (gates_of l)).gates
  pub gates : s.gates ≡ length (pass_by write p (gates_of l)).gates
  pub blocks : s.blocks ≡ (pass_by write p (gates_of l)).blocks
  pub replaced : s.replaced ≡ (pass_by write p (gates_of l)).replaced
  pub clear : Unjoined table
