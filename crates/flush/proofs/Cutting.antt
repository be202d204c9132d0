-- The parts of the rooms that a block needs hold the same block; and what is known of a run's block.
use mathlib.Core.Path.{◌≡◌, refl, sym, ap, ◌∙◌, subst}
use mathlib.Core.Bool.{true, false≢true}
use mathlib.Core.List.{List, [], ◌∷◌, map}
use mathlib.Core.Option.{Option, none, some}
use Prim.Native.Nat.{ℕ, zero, suc, ◌+◌, ◌*◌, ◌/◌, ◌^◌, ◌≤◌, ◌<◌}
use native.Mathlib.Nat.{le_refl}
use native.Mathlib.Omega.{arith}
use lib.IntN.{ℤ}
use lib.ListN.{length, get_or, take}
use lib.Seq.{get_or-take, take-take, length-take-le}
use Rattle.rules.specs.Limits.{width, term_width, step_width, max_gates}
use Rattle.rules.specs.Gate.{Gate}
use Rattle.rules.specs.Numbers.{gates_of}
use Rattle.rules.specs.Meaning.{op}
use Rattle.rules.specs.Counts.{is_two, twos}
use Rattle.rules.specs.Fold.{Row, Term, Block, empty}
use Rattle.rules.specs.Budget.{Budget, budget_of}
use Rattle.rules.specs.Synth.{synth, block_of, resynthesis}
use Rattle.rules.proofs.Bits.{split, same}
use Rattle.rules.proofs.Bounds.{RowsBelow, TermsBelow, InBounds, bounds-fold}
use Rattle.rules.proofs.Reading.{gates-length}
use Rattle.emit.specs.Emitted.{Ready}
use Rattle.parity.specs.View.{val}
use Rattle.terms.specs.Terms.{terms_of}
use Rattle.terms.proofs.Room.{room-length, room_take}
use Rattle.rows.specs.Rows.{rows_of}
use Rattle.rows.proofs.Room.{row_count}
use Rattle.block.specs.declared.Block as State
use Rattle.block.specs.View.{names_of, rows_from, row_at, rows_at, terms_at, block_at}
use Rattle.block.proofs.Rowing.{rows-length}
use Rattle.block.proofs.Parts.{row-take}
use Rattle.block.proofs.Using.{holds_same}
use Rattle.std.specs.Prelude.{Result}
use Rattle.parity.specs.declared.Parity.{Parity}
use Rattle.budget.specs.declared.Budget as Code
use Rattle.budget.specs.declared.Spent.{Spent}
use Rattle.budget.specs.View.{nothing_counted, counts_after, made}
use Rattle.walk.specs.declared.Slot.{Slot}
use Rattle.synth.specs.Resynthesis.{Rooms, Synthesizes}
use Rattle.flush.specs.Choice.{Writes, Fitted, Lent, Flushable}
use Rattle.flush.proofs.Keeping.{writes}

-- ---- the block

pub block-cut : (b : State.Block) (room : List ℕ) → b.terms ≤ length (terms_of room) → block_at b (take (term_width * b.terms) room) ≡ block_at b room
unfolding terms_at
block-cut b room l =
    ap (λ (ts : List Term). record { rows = rows_at b; terms = ts }) (ap (take b.terms) (room_take b.terms room l) ∙ take-take b.terms b.terms (terms_of room) (le_refl _))

below-from : (m : ℕ) (f : ℕ → Row) (n i : ℕ) → RowsBelow m (rows_from f n i) → (j : ℕ) → i ≤ j → j < i + n → (f j).parity < 2 ^ m
unfolding rows_from RowsBelow
below-from m f zero i h j l k = absurd (omega arith)
below-from m f (suc n) i h j l k =
    same i j (λ e _. subst (λ (z : ℕ). (f z).parity < 2 ^ m) e h.0) (λ e _. below-from m f n (suc i) h.1 j (omega arith) (omega arith))

-- the parities of a run's block are below 2 ^ n
pub block-below : (run : List ℤ) (b : State.Block) (room : List ℕ) → block_at b room ≡ block_of (gates_of run)
    → (i : ℕ) → i < b.wires → get_or (rows_of b.rows) i 0 < 2 ^ b.wires
unfolding rows_at block_of RowsBelow TermsBelow
block-below run b room e i l =
    let f : ℕ → Row = row_at b.names (rows_of b.rows) (val b.flips) in
    let h : InBounds (block_at b room) = subst InBounds (sym e) (bounds-fold (map op (gates_of run)) empty (record { rows-below = tt; terms-below = tt })) in
    below-from b.wires f b.wires 0 (subst (λ (k : ℕ). RowsBelow k (rows_from f b.wires 0)) (rows-length f b.wires 0) h.rows-below) i (omega arith) (omega arith)

-- ---- the budget

two-le : (gs : List Gate) → twos gs ≤ length gs
unfolding twos
two-le [] = le_refl 0
two-le (g ∷ gs) = let h = two-le gs in split (is_two g.code) (λ e. rw e (omega arith)) (λ e. rw e (omega arith))

-- the budget that the run's length and a count of its CNOT and CZ make
abbrev pub ceilings : List ℤ → ℕ → Budget
ceilings run t = nothing_counted t (length run / width)

ceilings-are : (run : List ℤ) (t : ℕ) → t ≡ twos (gates_of run) → ceilings run t ≡ budget_of (gates_of run)
ceilings-are run t e = rw (e, gates-length run)

module _ {run place : List ℤ} {b : State.Block} {room : List ℕ} {nodes : List Slot} {held right : List Parity} {steps : List ℕ} (f : Fitted run place b room nodes held right steps)
    {t : ℕ} (e : t ≡ twos (gates_of run)) where
  -- what the engine asks
  pub asked : Rooms b room nodes held right steps (length run / width) × Ready place (ceilings run t)
  asked = (
    rw (← gates-length run) f.rooms,
    record { two = omega arith; all = omega arith; room = omega (arith, f.fits); few = omega (arith, two-le (gates_of run), f.many) },
  )

  -- what it then has made
  pub attempted : {after : List ℤ} (p : Result Code.Budget Spent) → Synthesizes (block_at b room) place (ceilings run t) after (counts_after p) (made p)
      → Writes resynthesis (gates_of run) after p
  attempted {after} p h = writes (gates_of run) place after p (rw (← f.same, ← ceilings-are run t e) h)

-- what is made lies at the place
pub made-fits : (bl : Block) (before after : List ℤ) (b : Budget) (p : Result Code.Budget Spent) → Synthesizes bl before b after (counts_after p) (made p)
    → made p ≡ true → width * (counts_after p).all ≤ length after
made-fits bl before after b p h w = go (synth bl) refl
  where
    go : (o : Option (List Gate)) → synth bl ≡ o → width * (counts_after p).all ≤ length after
    go none e = absurd (false≢true (sym (h.lost e) ∙ w))
    go (some new) e = let r : Ready after (counts_after p) = (h.emits new e).ready w in omega (arith, r.all, r.room)

-- ---- the parts that are lent

-- of the rooms that every engine has, whatever stack and matrices it has beside them
module _ (run place : List ℤ) (b : State.Block) (table room steps : List ℕ) (f : Flushable run b table room) (many : length (gates_of run) ≤ max_gates)
    (fits : length place ≡ length run) (long : step_width * (length (gates_of run) + 1) ≤ length steps) where
  pub record Holding : Type 0 where
    pub names_in : b.wires ≤ length b.names
    pub rows_in : b.wires ≤ length b.rows
    pub terms-in : term_width * b.terms ≤ length room
    pub steps-in : step_width * (length (gates_of run) + 1) ≤ length steps

  pub holding : Holding
  holding =
      let j = f.holds.rows_are.joins in
      record {
        names_in = omega (arith, j.few, j.room);
        rows_in = omega (arith, j.few, f.holds.rows_are.wide, row_count b.rows);
        terms-in = omega (arith, f.holds.terms-are.few, room-length room);
        steps-in = long;
      }

  -- a stack and matrices that are enough for this block
  pub fitted-by : (nodes : List Slot) (held right : List Parity) → b.wires + 1 ≤ length nodes → b.wires ≤ length held → b.wires ≤ length right
      → Fitted run place b (take (term_width * b.terms) room) (take (b.wires + 1) nodes)
      (take b.wires held) (take b.wires right) (take (step_width * (length (gates_of run) + 1)) steps)
  fitted-by nodes held right ln lh lr =
      let n : ℕ = b.wires in
      let j = f.holds.rows_are.joins in
      let same : block_at b room ≡ block_of (gates_of run) = holds_same f.holds in
      let t : b.terms ≤ length (terms_of room) = f.holds.terms-are.few in
      let size : length (names_of b) ≡ n = length-take-le n b.names holding.names_in in
      record {
        many = many;
        fits = fits;
        same = block-cut b room t ∙ same;
        rooms = record {
          walkable = record {
            few = j.few;
            named = size;
            wired = λ i h. let k : i < n = omega (arith, size) in rw (get_or-take n b.names i 0 k) (omega (arith, j.inside i k, f.wires));
            terms = omega (arith, ap length (room_take b.terms room t) ∙ length-take-le b.terms (terms_of room) t);
            deep = omega (arith, length-take-le (n + 1) nodes ln);
            held = length-take-le n held lh;
          };
          wide = length-take-le n b.rows holding.rows_in;
          below = λ i h. rw (row-take n b.rows, get_or-take n (rows_of b.rows) i 0 h) (block-below run b room same i h);
          right = length-take-le n right lr;
          long = omega (arith, length-take-le (step_width * (length (gates_of run) + 1)) steps holding.steps-in);
        };
      }

module _ (run place : List ℤ) (b : State.Block) (table room : List ℕ) (nodes : List Slot) (held right : List Parity) (steps : List ℕ)
    (f : Flushable run b table room) (l : Lent run place nodes held right steps) where
  -- each room has the part that the block needs
  pub record Enough : Type 0 where
    pub names_in : b.wires ≤ length b.names
    pub rows_in : b.wires ≤ length b.rows
    pub terms-in : term_width * b.terms ≤ length room
    pub nodes-in : b.wires + 1 ≤ length nodes
    pub held_in : b.wires ≤ length held
    pub right-in : b.wires ≤ length right
    pub steps-in : step_width * (length (gates_of run) + 1) ≤ length steps

  pub enough : Enough
  enough =
      let few = f.holds.rows_are.joins.few in
      let h = holding run place b table room steps f l.many l.fits l.long in
      record {
        names_in = h.names_in;
        rows_in = h.rows_in;
        terms-in = h.terms-in;
        nodes-in = omega (arith, few, l.work.deep);
        held_in = omega (arith, few, l.work.held);
        right-in = omega (arith, few, l.work.right);
        steps-in = h.steps-in;
      }

  pub fitted : Fitted run place b (take (term_width * b.terms) room) (take (b.wires + 1) nodes)
      (take b.wires held) (take b.wires right) (take (step_width * (length (gates_of run) + 1)) steps)
  fitted = fitted-by run place b table room steps f l.many l.fits l.long nodes held right enough.nodes-in enough.held_in enough.right-in
