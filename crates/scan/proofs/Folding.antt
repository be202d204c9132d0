-- A run folded gate by gate: what each turn of the loop needs and leaves.
use mathlib.Core.Path.{◌≡◌, refl, sym, ap, ◌∙◌}
use mathlib.Core.Bool.{Bool, true}
use mathlib.Core.List.{List, [], ◌∷◌, ◌++◌, map}
use Prim.Native.Nat.{ℕ, suc, min, ◌+◌, ◌-◌, ◌*◌, ◌^◌, ◌≤◌, ◌<◌}
use native.Mathlib.Omega.{arith}
use lib.IntN.{ℤ}
use lib.ListN.{length, take, length-map}
use lib.Seq.{length-take-le}
use Rattle.rules.specs.Limits.{max_columns, max_gates, term_entries}
use Rattle.rules.specs.Gate as Paper
use Rattle.rules.specs.Numbers.{gate_at, gates_from, gates_of}
use Rattle.rules.specs.Meaning.{Op, op}
use Rattle.rules.specs.Fold as Fold
use Rattle.rules.specs.Plan.{Plan}
use Rattle.rules.specs.Scan.{takes, cut}
use Rattle.rules.specs.Synth.{block_of}
use Rattle.rules.proofs.Reading.{from-append, from-length}
use Rattle.rules.proofs.Accepting.{fit_at}
use Rattle.rules.proofs.Bounds.{fold-snoc, length-terms}
use Rattle.rules.proofs.Scanning.{takes-narrow}
use Rattle.rows.proofs.Room.{row_count}
use Rattle.terms.specs.Terms.{terms_of}
use Rattle.gate.specs.Writing.{gate_of}
use Rattle.gate.specs.Reading.{Reads}
use Rattle.gate.specs.declared.Gate.{Gate}
use Rattle.block.specs.View.{block_at, Holds, Rowed}
use Rattle.block.specs.Steps.{Wired, Empty}
use Rattle.block.specs.declared.Block as State
use Rattle.block.proofs.Codes.{op-read}
use Rattle.block.proofs.Entering.{empty_holds}
use Rattle.block.proofs.Folding.{terms-length}
use Rattle.block.proofs.Using.{holds_same, holds-sound, wired-read}
use Rattle.scan.specs.Scanning.{gates_in, most_heads, run, rest, Checked, Clear, Headed}

-- ---- runs of gates

pub run_none : (l : List ℤ) (i : ℕ) → run l i i ≡ []
unfolding gates_from
run_none l i = let e : i - i ≡ 0 = omega arith in rw e refl

pub run-next : (l : List ℤ) (i j : ℕ) → i ≤ j → run l i (j + 1) ≡ run l i j ++ (gate_at l j ∷ [])
unfolding gates_from
run-next l i j h =
    let e : j + 1 - i ≡ j - i + 1 = omega arith in
    let f : i + (j - i) ≡ j = omega arith in
    ap (λ (k : ℕ). gates_from l k i) e ∙ from-append l (j - i) 1 i ∙ ap (λ (k : ℕ). gates_from l (j - i) i ++ (gate_at l k ∷ [])) f

pub rest-next : (l : List ℤ) (j : ℕ) → j < gates_in l → rest l j ≡ gate_at l j ∷ rest l (j + 1)
unfolding gates_from
rest-next l j h =
    let e : gates_in l - j ≡ suc (gates_in l - (j + 1)) = omega arith in
    let f : suc j ≡ j + 1 = omega arith in
    ap (λ (k : ℕ). gates_from l k j) e ∙ ap (λ (k : ℕ). gate_at l j ∷ gates_from l (gates_in l - (j + 1)) k) f

pub rest-none : (l : List ℤ) (j : ℕ) → gates_in l ≤ j → rest l j ≡ []
unfolding gates_from
rest-none l j h = let e : gates_in l - j ≡ 0 = omega arith in ap (λ (k : ℕ). gates_from l k j) e

pub rest_all : (l : List ℤ) → rest l 0 ≡ gates_of l
unfolding gates_of
rest_all l = let e : gates_in l - 0 ≡ gates_in l = omega arith in ap (λ (k : ℕ). gates_from l k 0) e

-- ---- their blocks

-- the block of the gates from place i to place j
abbrev pub folded : List ℤ → ℕ → ℕ → Fold.Block
folded l i j = block_of (run l i j)

map_snoc : (gs : List Paper.Gate) (g : Paper.Gate) → map op (gs ++ (g ∷ [])) ≡ map op gs ++ (op g ∷ [])
map_snoc [] g = refl
map_snoc (x ∷ gs) g = ap (λ (os : List Op). op x ∷ os) (map_snoc gs g)

pub block_none : block_of [] ≡ Fold.empty
unfolding block_of Fold.fold
block_none = refl

pub folded-none : (l : List ℤ) (i : ℕ) → folded l i i ≡ Fold.empty
folded-none l i = ap block_of (run_none l i) ∙ block_none

folded-next : (l : List ℤ) (i j : ℕ) → i ≤ j → folded l i (j + 1) ≡ Fold.absorb (op (gate_at l j)) (folded l i j)
unfolding block_of
folded-next l i j h =
    ap block_of (run-next l i j h)
    ∙ ap (λ (os : List Op). Fold.fold os Fold.empty) (map_snoc (run l i j) (gate_at l j))
    ∙ fold-snoc (map op (run l i j)) (op (gate_at l j)) Fold.empty

-- no wire, and then within the qubit cap for as long as gates are taken
pub narrow-none : (p : Plan) (l : List ℤ) (i : ℕ) → length (folded l i i).rows ≤ p.qubits
narrow-none p l i = rw (folded-none l i) (omega arith)

pub narrow_next : (p : Plan) (l : List ℤ) (i j : ℕ) → i ≤ j → takes p (op (gate_at l j)) (folded l i j) ≡ true → length (folded l i (j + 1)).rows ≤ p.qubits
narrow_next p l i j h e = rw (folded-next l i j h) (takes-narrow p (op (gate_at l j)) (folded l i j) e)

-- three terms a gate at most
folded-terms : (l : List ℤ) (i j : ℕ) → length (folded l i j).terms ≤ 3 * (j - i)
unfolding block_of
folded-terms l i j =
    let e : length (map op (run l i j)) ≡ j - i = length-map (run l i j) op ∙ from-length l (j - i) i in
    omega (arith, length-terms (map op (run l i j)) Fold.empty)

cut-one : (p : Plan) (r : List Paper.Gate) (g : Paper.Gate) (gs : List Paper.Gate) → takes p (op g) (block_of r) ≡ true → cut p r (g ∷ gs) ≡ cut p (r ++ (g ∷ [])) gs
unfolding cut
cut-one p r g gs e = rw e refl

-- the block takes the gate: the list is cut behind it as it is before it
pub cut_on : (p : Plan) (l : List ℤ) (i j : ℕ) → i ≤ j → j < gates_in l → takes p (op (gate_at l j)) (folded l i j) ≡ true
    → cut p (run l i j) (rest l j) ≡ cut p (run l i (j + 1)) (rest l (j + 1))
cut_on p l i j h k e = rw (rest-next l j k, run-next l i j h) (cut-one p (run l i j) (gate_at l j) (rest l (j + 1)) e)

module _ (l : List ℤ) (table room : List ℕ) where
  pub start : (i : ℕ) (b : State.Block) → Empty b → Clear l table room → max_columns ≤ length b.names → max_columns ≤ length b.rows → Holds (folded l i i) b table room
  start i b e c n r = rw (folded-none l i) (empty_holds b table room e c.clear n (rw (row_count b.rows) r))

  pub wired : (w j : ℕ) (g : Gate) → Checked l w → j < gates_in l → Reads (gate_at l j) g → length table ≡ w → Wired g table
  wired w j g s h r e = wired-read w s.bits (gate_at l j) g table (fit_at l w s.bits j (s.each j h)) r e

  pub spare : (i j : ℕ) (b : State.Block) → Holds (folded l i j) b table room → j < gates_in l
      → term_entries (gates_in l) ≤ length (terms_of room) → b.terms + 3 ≤ length (terms_of room)
  spare i j b h k m =
      let e : length (folded l i j).terms ≡ b.terms = terms-length h.terms-are in
      omega (arith, folded-terms l i j)

  -- their places fit a head
  pub spare_low : (i j : ℕ) (b : State.Block) → Holds (folded l i j) b table room → j < gates_in l → gates_in l ≤ max_gates → b.terms + 3 ≤ 2 ^ 32
  spare_low i j b h k m =
      let e : length (folded l i j).terms ≡ b.terms = terms-length h.terms-are in
      omega (arith, folded-terms l i j)

  -- the test's answer, of the block itself
  pub asked : (i j : ℕ) (p : Plan) (g : Gate) (b : State.Block) (r : Bool) → Reads (gate_at l j) g → Holds (folded l i j) b table room
      → (Rowed b table → r ≡ takes p (op (gate_of g)) (block_at b room)) → takes p (op (gate_at l j)) (folded l i j) ≡ r
  asked i j p g b r d h f =
      ap (λ (o : Op). takes p o (folded l i j)) (sym (op-read (gate_at l j) g d)) ∙ ap (takes p (op (gate_of g))) (sym (holds_same h)) ∙ sym (f (holds-sound h).rows_are)

  -- the gate that was read, folded
  pub next : (i j : ℕ) (g : Gate) (b r : State.Block) (table' room' : List ℕ) → i ≤ j → Reads (gate_at l j) g → Holds (folded l i j) b table room
      → Holds (Fold.absorb (op (gate_of g)) (block_at b room)) r table' room' → Holds (folded l i (j + 1)) r table' room'
  next i j g b r table' room' o d h k =
      rw (folded-next l i j o, ← op-read (gate_at l j) g d, ← holds_same h) k

-- ---- the heads of the index, of a step room of n numbers

pub record Front (steps : List ℕ) (r : ℕ) : Type 0 where
  pub within : r ≤ length steps
  pub long : length (take r steps) ≡ r
  pub headed : Headed (take r steps)

pub front : (steps : List ℕ) (r : ℕ) → r ≡ min (length steps) most_heads → 0 < length steps → Front steps r
front steps r e p =
    let a : r ≤ length steps = omega arith in
    let l : length (take r steps) ≡ r = length-take-le r steps a in
    record { within = a; long = l; headed = record { some = rw l (omega arith); few = rw l (omega arith) } }
