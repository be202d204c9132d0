-- Where the walk stands, and what one turn of it promises.
use Rattle.std.specs.Prelude.{◌≡◌, Bool, true, List, [], ◌∷◌, ℕ, ◌+◌, ◌-◌, ◌^◌, ◌≤◌, ◌<◌, ℤ, Option, length, get_or, set, take}
use Rattle.std.proofs.Math.Seq.{slice}
use Rattle.rules.specs.Fold.{Term}
use Rattle.rules.specs.Walk.{Step, cn, Node, cross_terms, held}
use Rattle.rules.specs.Close.{add_to}
use Rattle.rules.specs.Budget.{Budget}
use Rattle.rules.specs.Synth as Synth
use Rattle.rules.specs.Left.{Leads, Stairs}
use Rattle.rules.specs.Shortcuts.{run, flip_terms}
use Rattle.rules.specs.Order.{Stacked}
use Rattle.parity.specs.declared.Parity.{Parity}
use Rattle.terms.specs.Terms.{terms_of, Begins}
use Rattle.rows.specs.Rows.{rows_of}
use Rattle.emit.specs.Emitted.{Ready, Emits}
use Rattle.walk.specs.declared.Slot.{Slot}
use Rattle.walk.specs.declared.State.{State}
use Rattle.walk.specs.Stack.{no_slot, stack_of, Laid, paid, Chosen}
use Rattle.walk.specs.Later.{current, Waits}

-- a block's wires by local index: at most 128, each a number that a gate can hold
pub record Wires (names : List ℕ) : Type 0 where
  pub few : length names ≤ 128
  pub each : (i : ℕ) → i < length names → get_or names i 0 < 2 ^ 31

-- the rooms and the numbers of a walk, and the terms as they are now
pub record Place : Type 0 where
  pub slots : List Slot
  pub terms : List Term
  pub rows : List ℕ
  pub out : List ℤ
  pub depth : ℕ
  pub end : ℕ
  pub budget : Budget

abbrev pub stack : Place → List Node
stack p = stack_of p.slots p.depth p.terms p.end

abbrev pub place_of : List Slot → List ℕ → List Parity → List ℤ → State → Budget → Place
place_of nodes room held out s b =
    record { slots = nodes; terms = current s.pending (terms_of room); rows = rows_of held; out = out; depth = s.depth; end = s.end; budget = b }

-- what holds before each turn
pub record Standing (names : List ℕ) (p : Place) : Type 0 where
  pub wires : Wires names
  pub sound : Laid (length names) p.slots p.depth p.end
  pub stairs : Stairs (length names) (stack p)
  pub fits : p.end ≤ length p.terms
  pub wide : length names + 1 ≤ length p.slots
  pub many : length p.rows ≡ length names
  pub ready : Ready p.out p.budget

-- the newest node's set is brought up to date, at the same place
pub record Readied (nodes : List Slot) (room room' : List ℕ) (s s' : State) : Type 0 where
  pub same : (m : List Parity) (out : List ℤ) (b : Budget) → place_of nodes room' m out s' b ≡ place_of nodes room m out s b
  pub upto : s'.pending.upto ≤ (get_or nodes (s'.depth - 1) no_slot).start
  pub waits : Waits s'.pending (length (terms_of room'))

-- all the steps are emitted and the rows follow, or the budget is spent
pub record Synthesized (names : List ℕ) (ss : List Step) (out : List ℤ) (b : Budget) (m : List ℕ) (out' : List ℤ) (b' : Budget) (m' : List ℕ) (within : Bool) : Type 0 where
  pub emits : Emits (Synth.emit names ss) out b out' b' within
  pub rows : within ≡ true → m' ≡ held ss m

-- from a place to that after some steps of its stack: they are made, and the nodes that then wait stand in the rooms, each set in some order
pub record Stepped (names : List ℕ) (p q : Place) (within : Bool) : Type 0 where
  pub steps : List Step
  pub next : List Node
  pub leads : Leads (length names) (stack p) steps next
  pub made : Synthesized names steps p.out p.budget p.rows q.out q.budget q.rows within
  pub stack : Stacked (stack_of q.slots q.depth q.terms q.end) next
  pub sound : Laid (length names) q.slots q.depth q.end
  pub fits : q.end ≤ length q.terms

-- the node d at the place `at` pays the control p that it owes to t: the CNOT is emitted, its row added, the terms before its set take note, and it owes nothing
pub record Paid (names : List ℕ) (p t : ℕ) (d : Slot) (at : ℕ) (ts ts' : List Term) (ss ss' : List Slot) (m m' : List ℕ) (out : List ℤ) (b : Budget) (out' : List ℤ) (b' : Budget) (within : Bool) : Type 0 where
  pub emits : Emits (Synth.emit names (cn p t ∷ [])) out b out' b' within
  pub rows : m' ≡ add_to p t m
  pub terms : Begins (cross_terms p t (take d.start ts)) d.start d.start ts ts'
  pub slots : ss' ≡ set ss at (paid d)

-- the one term from `start` to `end` is run down to the column that is chosen: a CNOT from each of the mask, from the highest down, and the rotation.
-- The terms before it take note.
pub record Descends (names : List ℕ) (target : Option ℕ) (live start end : ℕ) (ts ts' : List Term) (m m' : List ℕ) (out : List ℤ) (b : Budget) (out' : List ℤ) (b' : Budget) (within : Bool) : Type 0 where
  pub column : ℕ
  pub mask : ℕ
  pub chosen : Chosen target live column mask
  pub made : Synthesized names (run (length names) column mask (slice start end ts)) out b m out' b' m' within
  pub terms : Begins (flip_terms mask column (take start ts)) start start ts ts'

-- what a walk over n columns is lent: the wires' names, room for a node more than there are columns, a row for each wire, and the block's own place in the output
pub record Lent (n : ℕ) (names : List ℕ) (nodes : List Slot) (held : List Parity) (out : List ℤ) (b : Budget) : Type 0 where
  pub wires : Wires names
  pub many : length names ≡ n
  pub deep : n + 1 ≤ length nodes
  pub rows : length (rows_of held) ≡ n
  pub ready : Ready out b
