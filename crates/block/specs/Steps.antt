-- What the functions of the crate ask and promise.
use Rattle.std.specs.Prelude.{◌≡◌, ◌≢◌, Bool, true, cond, List, [], ◌∷◌, ℕ, ◌+◌, ◌*◌, ◌%◌, ◌^◌, ◌≤◌, ◌<◌, length, get_or, drop, eqb}
use Rattle.rules.specs.Limits.{max_columns, term_width}
use Rattle.rules.specs.Bit.{◌⊕◌, xor}
use Rattle.rules.specs.Gate.{second, code_rz}
use Rattle.rules.specs.Fold.{Term, join, add_term, signed}
use Rattle.rules.specs.Close.{add_to}
use Rattle.parity.specs.View.{val}
use Rattle.terms.specs.Terms.{Indexed}
use Rattle.rows.specs.Rows.{rows_of}
use Rattle.block.specs.View.{rows_at, Joined, Folded, Rowed}
use Rattle.block.specs.declared.Block.{Block}
use Rattle.gate.specs.declared.Gate.{Gate}

-- no wire, no constant, no term
pub record Empty (b : Block) : Type 0 where
  pub wires : b.wires ≡ 0
  pub flips : val b.flips ≡ 0
  pub terms : b.terms ≡ 0

-- ---- a wire joins

pub record Enterable (b : Block) (q : ℕ) (table : List ℕ) : Type 0 where
  pub rowed : Rowed b table
  pub inside : q < length table
  pub few : length (join q (rows_at b)) ≤ max_columns

pub record EnterableTwo (b : Block) (c t : ℕ) (table : List ℕ) : Type 0 where
  pub rowed : Rowed b table
  pub control : c < length table
  pub target : t < length table
  pub few : length (join t (join c (rows_at b))) ≤ max_columns

-- behind the wires that have joined, r's names and rows are b's
pub record Behind (b r : Block) : Type 0 where
  pub names-rest : drop r.wires r.names ≡ drop r.wires b.names
  pub rows-rest : drop r.wires r.rows ≡ drop r.wires b.rows

-- r has the rows with q joined, at q's index; the indices of the wires before stay theirs
pub record Enters (q : ℕ) (b r : Block) (index : ℕ) (table' : List ℕ) : Type 0 where
  pub joined : Joined (join q (rows_at b)) r table'
  pub terms : r.terms ≡ b.terms
  pub more : b.wires ≤ r.wires
  pub kept : (i : ℕ) → i < b.wires → get_or r.names i 0 ≡ get_or b.names i 0
  pub at : index < r.wires
  pub name : get_or r.names index 0 ≡ q
  pub behind : Behind b r

-- the same of two wires that join one after the other, at the indices i and j
pub record EntersTwo (c t : ℕ) (b r : Block) (i j : ℕ) (table' : List ℕ) : Type 0 where
  pub joined : Joined (join t (join c (rows_at b))) r table'
  pub terms : r.terms ≡ b.terms
  pub more : b.wires ≤ r.wires
  pub control : i < r.wires
  pub target : j < r.wires
  pub control-name : get_or r.names i 0 ≡ c
  pub target_name : get_or r.names j 0 ≡ t
  pub behind : Behind b r

-- ---- the folds, on local indices

-- the constant s is added to that of index i
pub record Flips (b : Block) (i : ℕ) (s : Bool) (r : Block) : Type 0 where
  pub wires : r.wires ≡ b.wires
  pub flips : val r.flips ≡ xor (val b.flips) (cond s (2 ^ i) 0)
  pub terms : r.terms ≡ b.terms
  pub names : r.names ≡ b.names

-- row c and the constant s are added to row t and its constant
pub record Crosses (b : Block) (c t : ℕ) (s : Bool) (r : Block) : Type 0 where
  pub flips : Flips b t s r
  pub held : rows_of r.rows ≡ add_to c t (rows_of b.rows)
  pub rest : drop b.wires r.rows ≡ drop b.wires b.rows

-- only the terms change, and the heads are of their index; behind them the term room is as it was
pub record Turns (ts : List Term) (b r : Block) (room room' heads' : List ℕ) : Type 0 where
  pub wires : r.wires ≡ b.wires
  pub flips : r.flips ≡ b.flips
  pub names : r.names ≡ b.names
  pub rows : r.rows ≡ b.rows
  pub folded : Folded ts r room'
  pub grows : b.terms ≤ r.terms
  pub rest : drop (term_width * r.terms) room' ≡ drop (term_width * r.terms) room
  pub indexed : Indexed heads' room' r.terms

-- a fold of one term, which makes at most one more
pub record TurnsOne (ts : List Term) (b r : Block) (room room' heads' : List ℕ) : Type 0 where
  pub turns : Turns ts b r room room' heads'
  pub more : r.terms ≤ b.terms + 1

-- the three folds of cz: on the parity x with the constant a, on y with b, on their sum with the constants' sum
abbrev pub cz_terms : ℕ → Bool → ℕ → Bool → List Term → List Term
cz_terms x a y b ts = add_term (xor x y) (signed (a ⊕ b) 6) (add_term y (signed b 2) (add_term x (signed a 2) ts))

-- ---- gates

-- the turn that a name stands for, by its place, and that of a rotation's code; that it is document 01's table is proved (`op-turn`)
abbrev pub named_turn : ℕ → ℕ
named_turn code = get_or (0 ∷ 0 ∷ 1 ∷ 7 ∷ 2 ∷ 6 ∷ 4 ∷ 0 ∷ []) (code % 8) 0

abbrev pub turn_of : ℕ → ℕ → ℕ
turn_of code k = cond (eqb code code_rz) (k % 8) (named_turn code)

-- the gate's wires are in the table, and are two if it has two
pub record Wired (g : Gate) (table : List ℕ) : Type 0 where
  pub first-in : g.first < length table
  pub second-in : second g.code ≡ true → g.second < length table
  pub apart : second g.code ≡ true → g.first ≢ g.second
