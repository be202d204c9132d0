-- One round of each loop, over plain lists: the OR over a set, the ones and the zeros of a column, and the scan over the candidates.
use mathlib.Core.Path.{◌≡◌, refl, sym, ap, ap₂, ◌∙◌}
use mathlib.Core.Bool.{Bool, true, false, ◌&&◌, ◌||◌, cond, true≢false}
use mathlib.Core.List.{List, [], ◌∷◌}
use Prim.Native.Nat.{ℕ, zero, suc, ◌+◌, ◌^◌, ◌≤◌, ◌<◌}
use native.Mathlib.Nat.{lt_of_not-le, le_of_suc-le-suc, not-suc-le-zero}
use native.Mathlib.Numerals.{add-one}
use native.Mathlib.Omega.{arith}
use lib.ListN.{length, get_or, take, drop, drop_of_length-le, length-take}
use lib.Seq.{drop-cons, take_all}
use lib.Dec.{leb}
use borrow.Author.Tests.{ne_eqb, leb-true, leb-false}
use Rattle.rules.specs.Bit.{bit}
use Rattle.rules.specs.Fold.{Term}
use Rattle.rules.specs.Walk.{side, beats}
use Rattle.rules.specs.Shortcuts.{any}
use Rattle.rules.proofs.Bits.{split, same, bit-zero}
use Rattle.rules.proofs.Machine.{length-sides}
use Rattle.parity.specs.Columns.{clear_lowest, Lowest}
use Rattle.parity.proofs.Laws.{bit-clear, bit_high}
use Rattle.terms.specs.Terms.{no_term}
use Rattle.column.specs.Distance.{distance, from_even, furthest, Furthest}
use Rattle.column.specs.Planes.{one}

-- ---- whether a term has the column, from the first term on

module _ (ts : List Term) (c : ℕ) where
  pub any_none : (v : ℕ) → v ≡ 0 → any c ts ≡ (bit v c || any c (drop 0 ts))
  any_none v e = ap (λ (b : Bool). b || any c ts) (sym (ap (λ (z : ℕ). bit z c) e ∙ bit-zero c))

  pub any_next : (i : ℕ) (p : Term) → p ≡ get_or ts i no_term → i < length ts → (v w : ℕ) → any c ts ≡ (bit v c || any c (drop i ts)) → bit w c ≡ (bit v c || bit p.parity c)
      → any c ts ≡ (bit w c || any c (drop (i + 1) ts))
  unfolding any
  any_next i p r l v w e f =
      let d : drop i ts ≡ get_or ts i no_term ∷ drop (i + 1) ts = rw add-one (drop-cons ts i no_term l) in
      e ∙ ap (λ (us : List Term). bit v c || any c us) d ∙ rw (f, ← r) (sym (assoc (bit v c) (bit p.parity c) (any c (drop (i + 1) ts))))
    where
      assoc : (a b d : Bool) → ((a || b) || d) ≡ (a || (b || d))
      assoc true b d = refl
      assoc false b d = refl

  pub any-end : (i v : ℕ) → any c ts ≡ (bit v c || any c (drop i ts)) → length ts ≤ i → bit v c ≡ any c ts
  unfolding any
  any-end i v e l = sym (e ∙ rw (drop_of_length-le ts l) (unit (bit v c)))
    where
      unit : (b : Bool) → (b || false) ≡ b
      unit true = refl
      unit false = refl

-- ---- how many of the first terms have the column, and how many lack it

abbrev pub with : ℕ → List Term → ℕ
with c ts = length (side true c ts)

abbrev pub without : ℕ → List Term → ℕ
without c ts = length (side false c ts)

-- past the end stands no term
pub past_end : (ts : List Term) (i : ℕ) → length ts ≤ i → (get_or ts i no_term).parity ≡ 0
past_end [] i l = refl
past_end (t ∷ ts) zero l = absurd (not-suc-le-zero l)
past_end (t ∷ ts) (suc i) l = past_end ts i (le_of_suc-le-suc l)

module _ (c : ℕ) where
  with-suc : (ts : List Term) (i : ℕ) → with c (take (suc i) ts) ≡ with c (take i ts) + one (get_or ts i no_term).parity c
  unfolding side
  with-suc [] zero = rw (bit-zero c)
  with-suc [] (suc i) = rw (bit-zero c)
  with-suc (t ∷ ts) zero = split (bit t.parity c) (λ e. rw e) (λ e. rw e)
  with-suc (t ∷ ts) (suc i) = let h = with-suc ts i in split (bit t.parity c) (λ e. rw e (omega arith)) (λ e. rw e h)

  module _ (ts : List Term) where
    pub with_none : with c (take 0 ts) ≡ 0
    unfolding side
    with_none = refl

    -- one more term; past the end there is none
    pub with-next : (i p : ℕ) → p ≡ (get_or ts i no_term).parity → with c (take (i + 1) ts) ≡ with c (take i ts) + one p c
    with-next i p e = rw (add-one i, e) (with-suc ts i)

    pub with-end : (i : ℕ) → length ts ≤ i → with c (take i ts) ≡ with c ts
    with-end i l = ap (with c) (take_all i ts l)

    pub with-le : (i : ℕ) → (with c (take i ts) ≤ length ts) × (with c (take i ts) ≤ i)
    with-le i = (omega (arith, length-sides c (take i ts), length-take i ts), omega (arith, length-sides c (take i ts), length-take i ts))

    pub without-next : (i : ℕ) (p : Term) → p ≡ get_or ts i no_term → i < length ts → without c (take (i + 1) ts) ≡ without c (take i ts) + cond (bit p.parity c) 0 1
    without-next i p e l =
        step (bit p.parity c) (with-next i p.parity (ap (λ (t : Term). t.parity) e))
      where
        step : (b : Bool) → with c (take (i + 1) ts) ≡ with c (take i ts) + cond b 1 0 → without c (take (i + 1) ts) ≡ without c (take i ts) + cond b 0 1
        step true w = omega (arith, length-sides c (take i ts), length-sides c (take (i + 1) ts), length-take i ts, length-take (i + 1) ts)
        step false w = omega (arith, length-sides c (take i ts), length-sides c (take (i + 1) ts), length-take i ts, length-take (i + 1) ts)

    pub ones-le : (ones : ℕ) → ones ≡ with c ts → ones ≤ length ts
    ones-le ones e = omega (arith, length-sides c ts)

    pub ones-distance : (d size ones : ℕ) → d ≡ distance ones size → size ≡ length ts → ones ≡ with c ts → d ≡ from_even c ts
    unfolding from_even
    ones-distance d size ones e k o = e ∙ ap₂ distance o k

-- ---- the scan over the candidates, from the lowest up: those below `at` are behind it

pub record Scanned (cands : ℕ) (ts : List Term) (left : ℕ) (kept : ℕ × ℕ) : Type 0 where
  pub at : ℕ
  pub is : furthest at cands ts ≡ kept
  pub below : (j : ℕ) → j < at → bit left j ≡ false
  pub above : (j : ℕ) → at ≤ j → bit left j ≡ bit cands j
  pub small : kept.0 < 128

pub scan-first : (cands : ℕ) (ts : List Term) → Scanned cands ts cands (0, 0)
unfolding furthest
scan-first cands ts = record { at = 0; is = refl; below = λ j h. absurd (not-suc-le-zero h); above = λ j h. refl; small = omega arith }

module _ (cands : ℕ) (ts : List Term) (left : ℕ) (kept : ℕ × ℕ) (h : Scanned cands ts left kept) where
  -- from m up to j no candidate
  skipped : (m j : ℕ) → m ≤ j → ((i : ℕ) → m ≤ i → i < j → bit cands i ≡ false) → furthest j cands ts ≡ furthest m cands ts
  unfolding furthest
  skipped zero zero l f = refl
  skipped (suc m) zero l f = absurd (not-suc-le-zero l)
  skipped m (suc j) l f =
      same m (suc j)
      (λ q _. ap (λ (z : ℕ). furthest z cands ts) (sym q))
      (λ q _. rw (f j (omega arith) (omega arith)) (skipped m j (omega arith) (λ i a b. f i a (omega arith))))

  -- a candidate takes the place of the one kept where it is at least as far from even
  taken : (m : ℕ) → bit cands m ≡ true → furthest (suc m) cands ts ≡ cond (beats (furthest m cands ts).1 (from_even m ts)) (m, from_even m ts) (furthest m cands ts)
  unfolding furthest
  taken m e = rw e

  pub scan-next : (t d : ℕ) (new : ℕ × ℕ) (rest : ℕ) → Lowest left t → t < 128 → d ≡ from_even t ts → new ≡ cond (beats kept.1 d) (t, d) kept → rest ≡ clear_lowest left
      → Scanned cands ts rest new
  scan-next t d new rest low lt far e r =
      let past : h.at ≤ t = le (λ (q : t < h.at). true≢false (sym low.set ∙ h.below t q)) in
      let here : furthest t cands ts ≡ kept = skipped h.at t past (λ i a b. sym (h.above i a) ∙ low.below i b) ∙ h.is in
      let hit : bit cands t ≡ true = sym (h.above t past) ∙ low.set in
      record {
        at = suc t;
        is = taken t hit ∙ rw (here, ← far) (sym e);
        below = λ j k. ap (λ (z : ℕ). bit z j) r ∙ bit-clear left t j low
            ∙ same j t (λ q f. rw f (off (bit left j))) (λ q f. rw (low.below j (omega arith)));
        above = λ j k. ap (λ (z : ℕ). bit z j) r ∙ bit-clear left t j low ∙ rw (ne_eqb j t (λ q. omega arith)) (on (bit left j) ∙ h.above j (omega arith));
        small = rw e (split (beats kept.1 d) (λ q. rw q lt) (λ q. rw q h.small));
      }
    where
      le : {a b : ℕ} → (b < a → ⊥) → a ≤ b
      le {a} {b} f = le_of_suc-le-suc (lt_of_not-le (λ (g : suc b ≤ a). f g))

      off : (b : Bool) → (b && false) ≡ false
      off true = refl
      off false = refl

      on : (b : Bool) → (b && true) ≡ b
      on true = refl
      on false = refl

  pub scan-end : left ≡ 0 → Furthest ts cands kept.0
  scan-end z = record { is = λ n k. ap (λ (b : ℕ × ℕ). b.0) (sym (whole n k)); small = h.small }
    where
      none : (j : ℕ) → h.at ≤ j → bit cands j ≡ false
      none j l = sym (h.above j l) ∙ ap (λ (v : ℕ). bit v j) z ∙ bit-zero j

      whole : (n : ℕ) → cands < 2 ^ n → furthest n cands ts ≡ kept
      whole n k =
          split (leb h.at n)
          (λ q. skipped h.at n (leb-true h.at n q) (λ i a b. none i a) ∙ h.is)
          (λ q. sym (skipped n h.at (omega (arith, leb-false h.at n q)) (λ i a b. bit_high cands n i k a)) ∙ h.is)
