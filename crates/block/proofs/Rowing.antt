-- Rows by index.
--     rows-length, rows_snoc, rows_ext    how many, one more, equal rows
--     rows-met, rows_none                 whether a wire has joined
--     row-met, add-met                    the row of a wire, and the rows with something added to it, where its index is its only one
use mathlib.Core.Path.{◌≡◌, refl, sym, ap, ap₂, ◌∙◌}
use mathlib.Core.Logic.{◌≢◌}
use mathlib.Core.Bool.{Bool, true, false, ◌||◌}
use mathlib.Core.List.{List, [], ◌∷◌, ◌++◌}
use Prim.Native.Nat.{ℕ, zero, suc, ◌+◌, ◌≤◌, ◌<◌}
use native.Mathlib.Nat.{add-zero}
use native.Mathlib.Omega.{arith}
use lib.ListN.{length}
use lib.Dec.{eqb}
use borrow.Author.Tests.{eq-eqb, ne_eqb}
use Rattle.rules.specs.Bit.{◌⊕◌, xor}
use Rattle.rules.specs.Fold.{Row, joined, row_of, add_row}
use Rattle.rules.proofs.Bits.{split, same}
use Rattle.block.specs.View.{rows_from}

-- rows are equal by their fields
pub row-eq : {w u p v : ℕ} {s t : Bool} → w ≡ u → p ≡ v → s ≡ t → ◌≡◌ {A = Row} (record { wire = w; parity = p; flips = s }) (record { wire = u; parity = v; flips = t })
row-eq e f g = cc

pub rows-length : (f : ℕ → Row) (n i : ℕ) → length (rows_from f n i) ≡ n
unfolding rows_from
rows-length f zero i = refl
rows-length f (suc n) i = ap suc (rows-length f n (suc i))

pub rows_snoc : (f : ℕ → Row) (n i : ℕ) → rows_from f (suc n) i ≡ rows_from f n i ++ (f (i + n) ∷ [])
unfolding rows_from
rows_snoc f zero i = ap (λ (k : ℕ). f k ∷ []) (sym (add-zero i))
rows_snoc f (suc n) i =
    let e : suc i + n ≡ i + suc n = omega arith in
    ap (λ (rs : List Row). f i ∷ rs) (rows_snoc f n (suc i) ∙ ap (λ (k : ℕ). rows_from f n (suc i) ++ (f k ∷ [])) e)

pub rows_ext : (f g : ℕ → Row) (n i : ℕ) → ((j : ℕ) → i ≤ j → j < i + n → f j ≡ g j) → rows_from f n i ≡ rows_from g n i
unfolding rows_from
rows_ext f g zero i h = refl
rows_ext f g (suc n) i h =
    ap₂ (λ (r : Row) (rs : List Row). r ∷ rs) (h i (omega arith) (omega arith)) (rows_ext f g n (suc i) (λ j l k. h j (omega arith) (omega arith)))

pub rows_none : (f : ℕ → Row) (q n i : ℕ) → ((j : ℕ) → i ≤ j → j < i + n → (f j).wire ≢ q) → joined q (rows_from f n i) ≡ false
unfolding rows_from joined
rows_none f q zero i h = refl
rows_none f q (suc n) i h =
    ap₂ ◌||◌ (ne_eqb (f i).wire q (h i (omega arith) (omega arith))) (rows_none f q n (suc i) (λ j l k. h j (omega arith) (omega arith)))

module _ (f : ℕ → Row) (q j : ℕ) (at : (f j).wire ≡ q) where
  pub rows-met : (n i : ℕ) → i ≤ j → j < i + n → joined q (rows_from f n i) ≡ true
  unfolding rows_from joined
  rows-met zero i l h = absurd (omega arith)
  rows-met (suc n) i l h =
      split (eqb (f i).wire q)
      (λ t. rw t)
      (λ t. rw t (same i j
      (λ e u. absurd (clash (f i).wire t (ap (λ (k : ℕ). (f k).wire) e ∙ at)))
      (λ e u. rows-met n (suc i) (omega arith) (omega arith))))
    where
      clash : (w : ℕ) → eqb w q ≡ false → w ≡ q → ⊥
      clash w t e = borrow.Author.Tests.eqb-false w q t e

  module _ (m : ℕ) (only : (k : ℕ) → k < m → (f k).wire ≡ q → k ≡ j) where
    pub row-met : (n i : ℕ) → i ≤ j → j < i + n → i + n ≤ m → row_of q (rows_from f n i) ≡ f j
    unfolding rows_from row_of
    row-met zero i l h o = absurd (omega arith)
    row-met (suc n) i l h o =
        same i j
        (λ e u. rw (eq-eqb (f i).wire q (ap (λ (k : ℕ). (f k).wire) e ∙ at)) (ap f e))
        (λ e u. rw (ne_eqb (f i).wire q (λ w. e (only i (omega arith) w))) (row-met n (suc i) (omega arith) (omega arith) (omega arith)))

    pub add-met : (p : ℕ) (s : Bool) (g : ℕ → Row) → g j ≡ record { wire = (f j).wire; parity = xor (f j).parity p; flips = (f j).flips ⊕ s }
        → ((k : ℕ) → k < m → k ≢ j → g k ≡ f k) → (n i : ℕ) → i ≤ j → j < i + n → i + n ≤ m → add_row q p s (rows_from f n i) ≡ rows_from g n i
    unfolding rows_from add_row
    add-met p s g here there zero i l h o = absurd (omega arith)
    add-met p s g here there (suc n) i l h o =
        same i j
        (λ e u. rw (eq-eqb (f i).wire q (ap (λ (k : ℕ). (f k).wire) e ∙ at))
        (ap₂ (λ (r : Row) (rs : List Row). r ∷ rs)
        (ap (λ (k : ℕ). record { wire = (f k).wire; parity = xor (f k).parity p; flips = (f k).flips ⊕ s }) e ∙ sym here ∙ ap g (sym e))
        (rows_ext f g n (suc i) (λ k a b. sym (there k (omega arith) (λ z. omega arith))))))
        (λ e u. rw (ne_eqb (f i).wire q (λ w. e (only i (omega arith) w)))
        (ap₂ (λ (r : Row) (rs : List Row). r ∷ rs) (sym (there i (omega arith) e)) (add-met p s g here there n (suc i) (omega arith) (omega arith) (omega arith))))
