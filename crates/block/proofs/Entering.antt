-- What the rooms say of the rows that they stand for, and a wire that joins.
--     wires-are             how many rows there are
--     row_is                the row of a wire, by its index
--     rowed-is              state and rooms are in step
--     joined_is             whether a wire has joined, by its entry
--     join-old, join-new    the rows with a wire joined: no change, and one row more
--     join-grows            rows never leave
--     empty_holds           an empty state beside an empty table
use mathlib.Core.Path.{◌≡◌, refl, sym, ap, ap₂, ◌∙◌}
use mathlib.Core.Bool.{Bool, true, false, not, cond}
use mathlib.Core.List.{List, [], ◌∷◌, ◌++◌}
use Prim.Native.Nat.{ℕ, zero, suc, ◌+◌, ◌^◌, ◌≤◌, ◌<◌}
use native.Mathlib.Nat.{le_refl, zero-add}
use native.Mathlib.Omega.{arith}
use lib.ListN.{length, get_or, set, length-set, length-append}
use lib.Seq.{get_or-set_same, get_or-set_other}
use lib.Dec.{eqb}
use borrow.Author.Tests.{eq-eqb, ne_eqb}
use Rattle.rules.specs.Limits.{max_columns}
use Rattle.rules.specs.Bit.{bit}
use Rattle.rules.specs.Fold.{Row, empty, joined, row_of, join, fresh}
use Rattle.rules.proofs.Bits.{split, bit-zero}
use Rattle.parity.specs.View.{val}
use Rattle.parity.specs.declared.Parity.{Parity}
use Rattle.rows.specs.Rows.{rows_of}
use Rattle.join.specs.Tables as Tables
use Rattle.join.proofs.Joining.{joined_once, joins-none}
use Rattle.block.specs.View.{rows_from, row_at, rows_at, terms_at, Joined, Holds, Rowed}
use Rattle.block.specs.Steps.{Empty}
use Rattle.block.specs.declared.Block as State
use Rattle.block.proofs.Rowing.{row-eq, rows-length, rows_snoc, rows_ext, rows_none, rows-met, row-met}

module _ {rs : List Row} {b : State.Block} {table : List ℕ} (h : Joined rs b table) where
  pub rows_are : rs ≡ rows_from (row_at b.names (rows_of b.rows) (val b.flips)) b.wires 0
  unfolding rows_at
  rows_are = sym h.same

  pub wires-are : length rs ≡ b.wires
  wires-are = ap length rows_are ∙ rows-length _ _ _

  -- an index is the only one of its wire
  pub only : (q i : ℕ) → i < b.wires → get_or b.names i 0 ≡ q → (k : ℕ) → k < b.wires → get_or b.names k 0 ≡ q → k ≡ i
  only q i l e k m f = joined_once h.joins k i m l (f ∙ sym e)

  pub row_is : (i q : ℕ) → i < b.wires → get_or b.names i 0 ≡ q → row_of q rs ≡ row_at b.names (rows_of b.rows) (val b.flips) i
  row_is i q l e =
      ap (row_of q) rows_are
      ∙ row-met (row_at b.names (rows_of b.rows) (val b.flips)) q i e b.wires (only q i l e) b.wires 0 (omega arith) (omega arith) (omega arith)

  pub joined_is : (q : ℕ) → joined q rs ≡ not (eqb (get_or table q 0) 0)
  joined_is q = ap (joined q) rows_are ∙ go (get_or table q 0) refl
    where
      go : (v : ℕ) → get_or table q 0 ≡ v → joined q (rows_from (row_at b.names (rows_of b.rows) (val b.flips)) b.wires 0) ≡ not (eqb v 0)
      go zero e =
          rows_none (row_at b.names (rows_of b.rows) (val b.flips)) q b.wires 0
          (λ j l k w. let s : 0 ≡ suc j = sym e ∙ ap (λ (p : ℕ). get_or table p 0) (sym w) ∙ h.joins.there j (omega arith) in omega arith)
          ∙ sym (ap not (eq-eqb 0 0 refl))
      go (suc i) e =
          let k = h.joins.back q i e in
          rows-met (row_at b.names (rows_of b.rows) (val b.flips)) q i k.1 b.wires 0 (omega arith) (omega (arith, k.0))
          ∙ sym (ap not (ne_eqb (suc i) 0 (λ z. omega arith)))

  pub rowed-is : Rowed b table
  rowed-is = record { joins = h.joins; wide = h.wide; clear = h.clear; same = refl }

-- ---- a wire joins

pub join-old : (q : ℕ) (rs : List Row) → joined q rs ≡ true → join q rs ≡ rs
unfolding join
join-old q rs e = rw e

pub join-new : (q : ℕ) (rs : List Row) → joined q rs ≡ false → join q rs ≡ rs ++ (fresh q (length rs) ∷ [])
unfolding join
join-new q rs e = rw e

pub join-size : (q : ℕ) (rs : List Row) → length (join q rs) ≡ length rs + cond (joined q rs) 0 1
join-size q rs =
    split (joined q rs)
    (λ e. rw e (ap length (join-old q rs e) ∙ omega arith))
    (λ e. rw e (ap length (join-new q rs e) ∙ length-append rs (fresh q (length rs) ∷ [])))

pub join-grows : (q : ℕ) (rs : List Row) → length rs ≤ length (join q rs)
join-grows q rs = let e = join-size q rs in omega arith

module _ {b : State.Block} {table : List ℕ} (h : Rowed b table) (q : ℕ) where
  -- where q has joined, the rows stay
  pub enter-old : (i : ℕ) → get_or table q 0 ≡ suc i → Joined (join q (rows_at b)) b table
  enter-old i e =
      let j : joined q (rows_at b) ≡ true = joined_is h q ∙ ap (λ (v : ℕ). not (eqb v 0)) e ∙ ap not (ne_eqb (suc i) 0 (λ z. omega arith)) in
      rw (join-old q (rows_at b) j) h

  pub new_is : get_or table q 0 ≡ 0 → joined q (rows_at b) ≡ false
  new_is e = joined_is h q ∙ ap (λ (v : ℕ). not (eqb v 0)) e

  -- then there is an index for it
  pub new-few : get_or table q 0 ≡ 0 → length (join q (rows_at b)) ≤ max_columns → b.wires < max_columns
  new-few e l =
      let s : length (join q (rows_at b)) ≡ length (rows_at b) + 1 = join-size q (rows_at b) ∙ ap (λ (t : Bool). length (rows_at b) + cond t 0 1) (new_is e) in
      omega (arith, wires-are h)

  -- where it has not, its row is added
  pub enter-new : (table' : List ℕ) (r : State.Block) → get_or table q 0 ≡ 0 → b.wires < max_columns
      → Tables.Enters table b.names b.wires q table' r.names → rows_of r.rows ≡ set (rows_of b.rows) b.wires (2 ^ b.wires)
      → r.wires ≡ suc b.wires → r.flips ≡ b.flips → Joined (join q (rows_at b)) r table'
  unfolding rows_at
  enter-new table' r e l t w rn rf =
      let n : ℕ = b.wires in
      let f : ℕ → Row = row_at b.names (rows_of b.rows) (val b.flips) in
      let g : ℕ → Row = row_at r.names (rows_of r.rows) (val r.flips) in
      let bits : val r.flips ≡ val b.flips = ap val rf in
      let name : get_or r.names n 0 ≡ q = ap (λ (l : List ℕ). get_or l n 0) t.name ∙ get_or-set_same b.names n q 0 (omega (arith, h.joins.room)) in
      let held : get_or (rows_of r.rows) n 0 ≡ 2 ^ n = ap (λ (l : List ℕ). get_or l n 0) w ∙ get_or-set_same (rows_of b.rows) n (2 ^ n) 0 (omega (arith, h.wide)) in
      let clear : bit (val r.flips) n ≡ false = ap (λ (v : ℕ). bit v n) bits ∙ h.clear n (le_refl n) in
      let size : length (rows_at b) ≡ n = wires-are h in
      let new : g n ≡ fresh q (length (rows_at b)) =
      row-eq name (held ∙ ap (λ (k : ℕ). 2 ^ k) (sym size)) clear in
      let old : (j : ℕ) → 0 ≤ j → j < 0 + n → g j ≡ f j =
      λ j a c. row-eq
      (ap (λ (l : List ℕ). get_or l j 0) t.name ∙ get_or-set_other b.names n j q 0 (λ z. omega arith))
      (ap (λ (l : List ℕ). get_or l j 0) w ∙ get_or-set_other (rows_of b.rows) n j (2 ^ n) 0 (λ z. omega arith))
      (ap (λ (v : ℕ). bit v j) bits) in
      record {
        joins = rw rn t.joins;
        wide = rw w (simp length-set h.wide);
        clear = λ i k. ap (λ (v : ℕ). bit v i) bits ∙ h.clear i (omega arith);
        same =
            ap (λ (k : ℕ). rows_from g k 0) rn ∙ rows_snoc g n 0 ∙ ap (λ (k : ℕ). rows_from g n 0 ++ (g k ∷ [])) (zero-add n)
            ∙ ap₂ (λ (us : List Row) (u : Row). us ++ (u ∷ [])) (rows_ext g f n 0 old) new
            ∙ sym (join-new q (rows_at b) (new_is e));
      }

-- ---- an empty block

pub empty_holds : (b : State.Block) (table room : List ℕ) → Empty b → ((q : ℕ) → get_or table q 0 ≡ 0)
    → max_columns ≤ length b.names → max_columns ≤ length (rows_of b.rows) → Holds empty b table room
unfolding rows_at rows_from terms_at
empty_holds b table room e z n w = record {
  rows_are = record {
    joins = rw e.wires (joins-none table b.names n z);
    wide = w;
    clear = λ i l. rw e.flips (bit-zero i);
    same = rw e.wires;
  };
  terms-are = record { few = omega (arith, e.terms); same = rw e.terms };
}
