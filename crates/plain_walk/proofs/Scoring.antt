-- The scan over the candidates by their larger side, from the lowest column up.
use mathlib.Core.Path.{◌≡◌, refl, sym, ap, ap₂, ◌∙◌}
use mathlib.Core.Bool.{Bool, true, false, ◌&&◌, cond, true≢false}
use mathlib.Core.List.{List}
use Prim.Native.Nat.{ℕ, suc, ◌+◌, ◌-◌, ◌^◌, ◌≤◌, ◌<◌, max}
use native.Mathlib.Nat.{lt_of_not-le, le_of_suc-le-suc, not-suc-le-zero}
use native.Mathlib.Omega.{arith}
use borrow.Author.Tests.{ne_eqb, leb-true, leb-false}
use lib.ListN.{length}
use lib.Dec.{leb}
use Rattle.rules.specs.Bit.{bit}
use Rattle.rules.specs.Fold.{Term}
use Rattle.rules.specs.Walk.{side, score, beats, best}
use Rattle.rules.proofs.Bits.{split, same, bit-zero}
use Rattle.rules.proofs.Machine.{length-sides}
use Rattle.rules.proofs.Choosing.{score-ones, best-take, best-skips}
use Rattle.parity.specs.Columns.{clear_lowest, Lowest}
use Rattle.parity.proofs.Laws.{bit-clear, bit_high}
use Rattle.column.specs.Choice.{Best}

pub ones-score : (c : ℕ) (ts : List Term) (s size ones : ℕ) → s ≡ max ones (size - ones) → size ≡ length ts → ones ≡ length (side true c ts) → s ≡ score c ts
ones-score c ts s size ones e k o =
    let z : size - ones ≡ length (side false c ts) = omega (arith, length-sides c ts) in
    e ∙ ap₂ max o z ∙ sym (score-ones c ts)

-- the candidates below `at` are behind the scan, the others are left
pub record Scanned (cands : ℕ) (ts : List Term) (left : ℕ) (kept : ℕ × ℕ) : Type 0 where
  pub at : ℕ
  pub is : best at cands ts ≡ kept
  pub below : (j : ℕ) → j < at → bit left j ≡ false
  pub above : (j : ℕ) → at ≤ j → bit left j ≡ bit cands j
  pub small : kept.0 < 128

pub scan-first : (cands : ℕ) (ts : List Term) → Scanned cands ts cands (0, 0)
unfolding best
scan-first cands ts = record { at = 0; is = refl; below = λ j h. absurd (not-suc-le-zero h); above = λ j h. refl; small = omega arith }

module _ (cands : ℕ) (ts : List Term) (left : ℕ) (kept : ℕ × ℕ) (h : Scanned cands ts left kept) where
  -- from m up to j no candidate
  skipped : (m j : ℕ) → m ≤ j → ((i : ℕ) → m ≤ i → i < j → bit cands i ≡ false) → best j cands ts ≡ best m cands ts
  skipped m j l f =
      let e : m + (j - m) ≡ j = omega arith in
      ap (λ (z : ℕ). best z cands ts) (sym e) ∙ best-skips cands ts (j - m) m (λ i a b. f i a (omega arith))

  pub scan-next : (t s : ℕ) (new : ℕ × ℕ) (rest : ℕ) → Lowest left t → t < 128 → s ≡ score t ts → new ≡ cond (beats kept.1 s) (t, s) kept → rest ≡ clear_lowest left
      → Scanned cands ts rest new
  scan-next t s new rest low lt d e r =
      let past : h.at ≤ t = le (λ (q : t < h.at). true≢false (sym low.set ∙ h.below t q)) in
      let here : best t cands ts ≡ kept = skipped h.at t past (λ i a b. sym (h.above i a) ∙ low.below i b) ∙ h.is in
      let hit : bit cands t ≡ true = sym (h.above t past) ∙ low.set in
      record {
        at = suc t;
        is = best-take cands ts t hit ∙ rw (here, ← d) (sym e);
        below = λ j k. ap (λ (z : ℕ). bit z j) r ∙ bit-clear left t j low
            ∙ same j t (λ q f. rw f (off (bit left j))) (λ q f. rw (low.below j (omega arith)));
        above = λ j k. ap (λ (z : ℕ). bit z j) r ∙ bit-clear left t j low ∙ rw (ne_eqb j t (λ q. omega arith)) (on (bit left j) ∙ h.above j (omega arith));
        small = rw e (split (beats kept.1 s) (λ q. rw q lt) (λ q. rw q h.small));
      }
    where
      le : {a b : ℕ} → (b < a → ⊥) → a ≤ b
      le {a} {b} f = le_of_suc-le-suc (lt_of_not-le (λ (g : suc b ≤ a). f g))

      off : (b : Bool) → (b && false) ≡ false
      off true = refl
      off false = refl

      on : (b : Bool) → (b && true) ≡ b
      on true = refl
      on false = refl

  pub scan-end : left ≡ 0 → Best ts cands kept.0
  scan-end z = record { is = λ n k. ap (λ (b : ℕ × ℕ). b.0) (sym (whole n k)); small = h.small }
    where
      none : (j : ℕ) → h.at ≤ j → bit cands j ≡ false
      none j l = sym (h.above j l) ∙ ap (λ (v : ℕ). bit v j) z ∙ bit-zero j

      whole : (n : ℕ) → cands < 2 ^ n → best n cands ts ≡ kept
      whole n k =
          split (leb h.at n)
          (λ q. skipped h.at n (leb-true h.at n q) (λ i a b. none i a) ∙ h.is)
          (λ q. sym (skipped n h.at (omega (arith, leb-false h.at n q)) (λ i a b. bit_high cands n i k a)) ∙ h.is)
