-- A gate's fold, from what the functions on local indices leave.
--     flips-here, flips-there    the constants after one is added to
--     add-joined                 the rows after a parity and a constant are added to one
--     flip-, cnot-, turn-, cz-absorbs    the block after a gate
--     absorb-ready               callers cite it: what the fold of a gate asks, once the block takes it
use mathlib.Core.Path.{◌≡◌, refl, sym, ap, ◌∙◌}
use mathlib.Core.Logic.{◌≢◌}
use mathlib.Core.Bool.{Bool, true, false, not, ◌&&◌, ◌||◌, cond, true≢false}
use mathlib.Core.List.{List}
use Prim.Native.Nat.{ℕ, ◌+◌, ◌^◌, ◌≤◌, ◌<◌}
use native.Mathlib.Nat.{le_trans}
use native.Mathlib.Omega.{arith}
use lib.ListN.{length, get_or, set, drop, length-set}
use lib.Seq.{get_or-set_same, get_or-set_other, set-get_or}
use lib.Dec.{leb, ltb}
use borrow.Author.Tests.{eq-eqb, ne_eqb, leb-true}
use Rattle.rules.specs.Limits.{max_columns}
use Rattle.rules.specs.Bit.{◌⊕◌, bit, xor}
use Rattle.rules.specs.Meaning.{Op, op, opaque, flip, phase, cnot, cz}
use Rattle.rules.specs.Fold.{Row, Term, Block, add_row, add_term, signed, entered, rows_by, terms_by, absorb, join}
use Rattle.rules.specs.Close.{add_to}
use Rattle.rules.specs.Plan.{Plan}
use Rattle.rules.specs.Scan.{roomy, takes}
use Rattle.rules.proofs.Bits.{split, bit_xor, bit-unit, bit-zero, ⊕-false, and_left, and_right}
use Rattle.parity.specs.View.{val}
use Rattle.parity.specs.declared.Parity.{Parity}
use Rattle.parity.proofs.Laws.{xor_zero_r}
use Rattle.terms.specs.Terms.{terms_of, Indexed}
use Rattle.rows.specs.Rows.{rows_of}
use Rattle.gate.specs.Writing.{gate_of}
use Rattle.gate.specs.declared.Gate.{Gate}
use Rattle.block.specs.View.{rows_from, row_at, rows_at, terms_at, Joined, Folded, Holds}
use Rattle.block.specs.Steps.{Behind, Flips, Crosses, Turns, cz_terms, Wired}
use Rattle.block.specs.declared.Block as State
use Rattle.block.proofs.Rowing.{row-eq, add-met}
use Rattle.block.proofs.Entering.{rows_are, only, row_is}
use Rattle.block.proofs.Parts.{behind-same}
use Rattle.block.proofs.Codes.{op-other, op-some}
use Rattle.block.proofs.Using.{holds-sound}
use Rattle.absorb.specs.Absorbing.{Moves, Absorbs, Absorbable}

-- ---- constants

module _ (f i : ℕ) where
  pub flips-here : (s : Bool) → bit (xor f (cond s (2 ^ i) 0)) i ≡ (bit f i ⊕ s)
  flips-here true = bit_xor f (2 ^ i) i ∙ ap (λ (t : Bool). bit f i ⊕ t) (bit-unit i i ∙ eq-eqb i i refl)
  flips-here false = bit_xor f 0 i ∙ ap (λ (t : Bool). bit f i ⊕ t) (bit-zero i)

  pub flips-there : (s : Bool) (j : ℕ) → j ≢ i → bit (xor f (cond s (2 ^ i) 0)) j ≡ bit f j
  flips-there true j n = bit_xor f (2 ^ i) j ∙ ap (λ (t : Bool). bit f j ⊕ t) (bit-unit i j ∙ ne_eqb j i n) ∙ ⊕-false (bit f j)
  flips-there false j n = bit_xor f 0 j ∙ ap (λ (t : Bool). bit f j ⊕ t) (bit-zero j) ∙ ⊕-false (bit f j)

-- ---- rows

module _ {rs : List Row} {b : State.Block} {table : List ℕ} (h : Joined rs b table) where
  pub add-joined : (r : State.Block) (i q p : ℕ) (s : Bool) → i < b.wires → get_or b.names i 0 ≡ q → Flips b i s r
      → rows_of r.rows ≡ set (rows_of b.rows) i (xor (get_or (rows_of b.rows) i 0) p) → Joined (add_row q p s rs) r table
  unfolding rows_at
  add-joined r i q p s l e k w =
      let n : ℕ = b.wires in
      let f : ℕ → Row = row_at b.names (rows_of b.rows) (val b.flips) in
      let g : ℕ → Row = row_at r.names (rows_of r.rows) (val r.flips) in
      let here : g i ≡ record { wire = (f i).wire; parity = xor (f i).parity p; flips = (f i).flips ⊕ s } =
      row-eq (ap (λ (l : List ℕ). get_or l i 0) k.names)
      (ap (λ (l : List ℕ). get_or l i 0) w ∙ get_or-set_same (rows_of b.rows) i (xor (get_or (rows_of b.rows) i 0) p) 0 (omega (arith, h.wide, h.joins.few)))
      (ap (λ (v : ℕ). bit v i) k.flips ∙ flips-here (val b.flips) i s) in
      let there : (j : ℕ) → j < n → j ≢ i → g j ≡ f j =
      λ j a c. row-eq (ap (λ (l : List ℕ). get_or l j 0) k.names)
      (ap (λ (l : List ℕ). get_or l j 0) w ∙ get_or-set_other (rows_of b.rows) i j (xor (get_or (rows_of b.rows) i 0) p) 0 c)
      (ap (λ (v : ℕ). bit v j) k.flips ∙ flips-there (val b.flips) i s j c) in
      record {
        joins = rw (k.wires, k.names) h.joins;
        wide = rw w (simp length-set h.wide);
        clear = λ j m.
            let d : n ≤ j = omega (arith, k.wires) in
            ap (λ (v : ℕ). bit v j) k.flips ∙ flips-there (val b.flips) i s j (λ z. omega arith) ∙ h.clear j d;
        same =
            ap (λ (m : ℕ). rows_from g m 0) k.wires
            ∙ sym (ap (add_row q p s) (rows_are h) ∙ add-met f q i e n (only h q i l e) p s g here there n 0 (omega arith) (omega arith) (omega arith));
      }

  -- x
  pub flip-joined : (r : State.Block) (i q : ℕ) → i < b.wires → get_or b.names i 0 ≡ q → Flips b i true r → r.rows ≡ b.rows → Joined (rows_by (flip q) rs) r table
  unfolding rows_by
  flip-joined r i q l e k m =
      add-joined r i q 0 true l e k
      (ap rows_of m ∙ sym (ap (λ (v : ℕ). set (rows_of b.rows) i v) (xor_zero_r (get_or (rows_of b.rows) i 0)) ∙ set-get_or (rows_of b.rows) i 0))

  -- cnot
  pub cross-joined : (r : State.Block) (i j c t : ℕ) → i < b.wires → j < b.wires → get_or b.names i 0 ≡ c → get_or b.names j 0 ≡ t
      → Crosses b i j (bit (val b.flips) i) r → Joined (rows_by (cnot c t) rs) r table
  unfolding rows_by add_to
  cross-joined r i j c t li lj ei ej k =
      rw (row_is h i c li ei) (add-joined r j t (get_or (rows_of b.rows) i 0) (bit (val b.flips) i) lj ej k.flips k.held)

  -- a gate that leaves the rows
  pub still-joined : (r : State.Block) → r.wires ≡ b.wires → r.flips ≡ b.flips → r.names ≡ b.names → r.rows ≡ b.rows → Joined rs r table
  unfolding rows_at
  still-joined r w f n m = record {
    joins = rw (w, n) h.joins;
    wide = rw m h.wide;
    clear = λ i l. rw f (h.clear i (omega (arith, w)));
    same = rw (w, f, n, m) h.same;
  }

-- ---- gates

-- the terms of a state whose count and room are another's
pub terms-same : (b r : State.Block) (room : List ℕ) → r.terms ≡ b.terms → terms_at r room ≡ terms_at b room
unfolding terms_at
terms-same b r room e = rw e

module _ (rs : List Row) (ts : List Term) (b r : State.Block) (room table' heads : List ℕ) (x : Indexed heads room b.terms) where
  kept : Folded ts b room → r.terms ≡ b.terms → Folded ts r room
  kept f e = record { few = rw e f.few; same = terms-same b r room e ∙ f.same }

  pub flip-absorbs : (q : ℕ) → Moves (rows_by (flip q) (entered (flip q) rs)) b r table' → Folded ts b room
      → Absorbs (absorb (flip q) (record { rows = rs; terms = ts })) b r room table' room heads
  unfolding absorb terms_by
  flip-absorbs q m f = record { holds = record { rows_are = m.joined; terms-are = kept f m.terms }; more = m.more; grows = omega (arith, m.terms); behind = m.behind; rest = refl; indexed = rw m.terms x }

  pub cnot-absorbs : (c t : ℕ) → Moves (rows_by (cnot c t) (entered (cnot c t) rs)) b r table' → Folded ts b room
      → Absorbs (absorb (cnot c t) (record { rows = rs; terms = ts })) b r room table' room heads
  unfolding absorb terms_by
  cnot-absorbs c t m f = record { holds = record { rows_are = m.joined; terms-are = kept f m.terms }; more = m.more; grows = omega (arith, m.terms); behind = m.behind; rest = refl; indexed = rw m.terms x }

-- e is the block with the gate's wires joined, r the block after
module _ (rs : List Row) (b e r : State.Block) (table' room room' heads' : List ℕ) (same : e.terms ≡ b.terms) (more : b.wires ≤ e.wires) (behind : Behind b e) where
  pub turn-absorbs : (k i q : ℕ) → Joined (join q rs) e table' → i < e.wires → get_or e.names i 0 ≡ q
      → Turns (add_term (get_or (rows_of e.rows) i 0) (signed (bit (val e.flips) i) k) (terms_at e room)) e r room room' heads'
      → Absorbs (absorb (phase k q) (record { rows = rs; terms = terms_at b room })) b r room table' room' heads'
  unfolding absorb entered rows_by terms_by
  turn-absorbs k i q h l n t = record {
    holds = record {
      rows_are = still-joined h r t.wires t.flips t.names t.rows;
      terms-are = rw (row_is h i q l n, ← terms-same b e room same) t.folded;
    };
    more = omega (arith, more, t.wires);
    grows = omega (arith, same, t.grows);
    behind = behind-same b e r t.wires t.names (ap (drop e.wires) t.rows) behind;
    rest = t.rest;
    indexed = t.indexed;
  }

  pub cz-absorbs : (i j c t : ℕ) → Joined (join t (join c rs)) e table' → i < e.wires → j < e.wires → get_or e.names i 0 ≡ c → get_or e.names j 0 ≡ t
      → Turns (cz_terms (get_or (rows_of e.rows) i 0) (bit (val e.flips) i) (get_or (rows_of e.rows) j 0) (bit (val e.flips) j) (terms_at e room)) e r room room' heads'
      → Absorbs (absorb (cz c t) (record { rows = rs; terms = terms_at b room })) b r room table' room' heads'
  unfolding absorb entered rows_by terms_by
  cz-absorbs i j c t h li lj ni nj k = record {
    holds = record {
      rows_are = still-joined h r k.wires k.flips k.names k.rows;
      terms-are = rw (row_is h i c li ni, row_is h j t lj nj, ← terms-same b e room same) k.folded;
    };
    more = omega (arith, more, k.wires);
    grows = omega (arith, same, k.grows);
    behind = behind-same b e r k.wires k.names (ap (drop e.wires) k.rows) behind;
    rest = k.rest;
    indexed = k.indexed;
  }

pub absorb-ready : {p : Block} {b : State.Block} {table room heads : List ℕ} → Holds p b table room
    → (g : Gate) (plan : Plan) → Wired g table → plan.qubits ≤ max_columns → b.terms + 3 ≤ length (terms_of room) → b.terms + 3 ≤ 2 ^ 32 → Indexed heads room b.terms
    → takes plan (op (gate_of g)) p ≡ true → Absorbable b g table room heads
unfolding takes
absorb-ready {p} h g plan w l m low x t =
    let o : Op = op (gate_of g) in
    let clear : not (opaque o) ≡ true = and_left (not (opaque o)) (leb (length (entered o p.rows)) plan.qubits && roomy plan.terms o p) t in
    let rest = and_right (not (opaque o)) (leb (length (entered o p.rows)) plan.qubits && roomy plan.terms o p) t in
    let fits : length (entered o p.rows) ≤ plan.qubits = leb-true _ _ (and_left (leb (length (entered o p.rows)) plan.qubits) (roomy plan.terms o p) rest) in
    let code = op-some g.code (split (ltb g.code 1 || ltb 9 g.code) (λ e. absurd (true≢false (sym clear ∙ ap (λ u. not (opaque u)) (op-other g e)))) (λ e. e)) in
    record {
      sound = holds-sound h;
      wired = w;
      least = code.0;
      most = code.1;
      few = rw h.rows_are.same (le_trans fits l);
      spare = m;
      low = low;
      indexed = x;
    }
