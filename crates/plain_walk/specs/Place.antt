-- Where the walk stands, and what one visit of it and the whole of it promise.
use Rattle.std.specs.Prelude.{◌≡◌, List, [], ◌∷◌, ℕ, ◌+◌, ◌≤◌, ℤ, length, set, take}
use Rattle.rules.specs.Fold.{Term}
use Rattle.rules.specs.Walk.{Step, cn, Node, cross_terms, held}
use Rattle.rules.specs.Close.{add_to}
use Rattle.rules.specs.Synth as Synth
use Rattle.rules.specs.Left.{Leads, Stairs, left}
use Rattle.rules.specs.Order.{Stacked}
use Rattle.parity.specs.declared.Parity.{Parity}
use Rattle.terms.specs.Terms.{terms_of, Begins}
use Rattle.rows.specs.Rows.{rows_of}
use Rattle.writing.specs.Written.{Wrote, Fits}
use Rattle.walk.specs.declared.Slot.{Slot}
use Rattle.walk.specs.Stack.{stack_of, Laid, paid}
use Rattle.walk.specs.Place.{Wires}
use Rattle.plain_walk.specs.declared.State.{State}

-- the rooms and the numbers of a walk
pub record Place : Type 0 where
  pub slots : List Slot
  pub terms : List Term
  pub rows : List ℕ
  pub whole : List ℤ
  pub depth : ℕ
  pub end : ℕ
  pub made : ℕ

abbrev pub stack : Place → List Node
stack p = stack_of p.slots p.depth p.terms p.end

abbrev pub place_of : List Slot → List ℕ → List Parity → List ℤ → State → Place
place_of nodes room held whole s =
    record { slots = nodes; terms = terms_of room; rows = rows_of held; whole = whole; depth = s.depth; end = s.end; made = s.made }

-- there is room for the gates of some steps behind k others
abbrev pub Roomy : List ℕ → List Step → List ℤ → ℕ → Type 0
Roomy names ss whole k = Fits whole k (length (Synth.emit names ss))

-- what holds before each visit; all that is left to write has room
pub record Standing (names : List ℕ) (p : Place) : Type 0 where
  pub wires : Wires names
  pub sound : Laid (length names) p.slots p.depth p.end
  pub stairs : Stairs (length names) (stack p)
  pub fits : p.end ≤ length p.terms
  pub wide : length names + 1 ≤ length p.slots
  pub many : length p.rows ≡ length names
  pub room : Roomy names (left (length names) (stack p)) p.whole p.made

-- the gates of the steps are written behind k others, and the rows follow
pub record Walks (names : List ℕ) (ss : List Step) (whole : List ℤ) (k : ℕ) (m : List ℕ) (whole' : List ℤ) (k' : ℕ) (m' : List ℕ) : Type 0 where
  pub wrote : Wrote (Synth.emit names ss) whole k whole' k'
  pub rows : m' ≡ held ss m

-- from a place to that after a visit: its steps are made, and the nodes that then wait stand in the rooms, each set in some order
pub record Stepped (names : List ℕ) (p q : Place) : Type 0 where
  pub steps : List Step
  pub next : List Node
  pub leads : Leads (length names) (stack p) steps next
  pub walks : Walks names steps p.whole p.made p.rows q.whole q.made q.rows
  pub stack : Stacked (stack_of q.slots q.depth q.terms q.end) next
  pub sound : Laid (length names) q.slots q.depth q.end
  pub fits : q.end ≤ length q.terms

-- the node d at the place `at` pays the control p that it owes to t: the CNOT is written, its row added, every term that waits takes note, and it owes nothing
pub record Paid (names : List ℕ) (p t : ℕ) (d : Slot) (at : ℕ) (ts ts' : List Term) (ss ss' : List Slot) (m m' : List ℕ) (whole : List ℤ) (k : ℕ) (whole' : List ℤ) (k' : ℕ) : Type 0 where
  pub wrote : Wrote (Synth.emit names (cn p t ∷ [])) whole k whole' k'
  pub rows : m' ≡ add_to p t m
  pub terms : Begins (cross_terms p t (take d.start ts)) d.start d.start ts ts'
  pub slots : ss' ≡ set ss at (paid d)

-- what a walk over n columns that makes the steps ss is lent: the wires' names, room for a node more than there are columns, a row for each wire, and room for its gates
pub record Lent (n : ℕ) (names : List ℕ) (nodes : List Slot) (held : List Parity) (ss : List Step) (whole : List ℤ) (k : ℕ) : Type 0 where
  pub wires : Wires names
  pub many : length names ≡ n
  pub deep : n + 1 ≤ length nodes
  pub rows : length (rows_of held) ≡ n
  pub room : Roomy names ss whole k
