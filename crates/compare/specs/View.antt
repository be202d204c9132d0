-- The code's values as those of the definitions, and what its functions ask and do.
use Rattle.std.specs.Prelude.{◌≡◌, Bool, List, [], ◌∷◌, map, ℕ, zero, ◌/◌, ◌≤◌, ◌<◌, ℤ, length}
use Rattle.rules.specs.Limits.{width, last_fragment, max_columns}
use Rattle.rules.specs.Meaning.{Op, op}
use Rattle.rules.specs.Fold.{Term, signed}
use Rattle.rules.specs.Numbers.{gate_at, gates_from, gates_of}
use Rattle.rules.specs.Refusal.{fault_at}
use Rattle.parity.specs.View.{val}
use Rattle.parity.specs.declared.Parity.{Parity}
use Rattle.gate.specs.declared.Gate.{Gate}
use Rattle.rows.specs.Rows.{rows_of}
use Rattle.block.specs.Steps.{Wired}
use Rattle.acting.specs.Table.{Table, table_of, turns_of, apart}
use Rattle.lanes.specs.Lanes.{Notes, settled_of}
use Rattle.lanes.specs.declared.Lanes.{Lanes}

-- rows and constants, in a room and a parity
abbrev pub table_at : Parity → List Parity → Table
table_at flips rows = record { held = rows_of rows; flips = val flips }

-- how the gates of a list act
unfoldable pub ops_of : List ℤ → List Op
unfolding gates_of op
ops_of l = map op (gates_of l)

-- those of n gates from place i on
unfoldable pub ops_from : List ℤ → ℕ → ℕ → List Op
unfolding gates_from op
ops_from l n i = map op (gates_from l n i)

-- every turn as it is, or negated
unfoldable pub backed : Bool → List Term → List Term
backed b [] = []
backed b (t ∷ ts) = record { parity = t.parity; turn = signed b t.turn } ∷ backed b ts

-- a gate of the fragment whose wires have rows
pub record Ready (g : Gate) (rows : List Parity) : Type 0 where
  pub wired : Wired g (rows_of rows)
  pub least : 1 ≤ g.code
  pub most : g.code ≤ last_fragment
  pub few : length (rows_of rows) ≤ max_columns

-- a list of fragment gates on w wires that has no fault
pub record Fine (l : List ℤ) (w : ℕ) : Type 0 where
  pub sound : (i : ℕ) → i < length l / width → (fault_at l w zero i).number ≡ 0
  pub plain : (i : ℕ) → i < length l / width → (gate_at l i).code ≤ last_fragment

-- from one table and one wire's sums to others, by some operations
pub record Passes (os : List Op) (i : ℕ) (back : Bool) (b : Table) (s : Lanes) (b' : Table) (s' : Lanes) : Type 0 where
  pub table : b' ≡ table_of os b
  pub sums : Notes i (backed back (turns_of os b)) s s'

-- the test of one wire's sums, of two lists on w wires
unfoldable pub wire_test : ℕ → List ℤ → List ℤ → ℕ → Bool
unfolding apart ops_of settled_of
wire_test w us vs i = settled_of i w (apart w (ops_of us) (ops_of vs))
