-- The choice of a column: what a scan over the candidates keeps, and that a column on which all parities agree wins.
use mathlib.Core.Path.{◌≡◌, refl, sym, ap, ◌∙◌}
use mathlib.Core.Bool.{Bool, true, false, ◌&&◌, cond, false≢true, true≢false}
use mathlib.Core.List.{List, [], ◌∷◌}
use Prim.Native.Nat.{ℕ, zero, suc, ◌+◌, ◌≤◌, ◌<◌, max, zero-le}
use native.Mathlib.Nat.{not-suc-le-zero}
use native.Mathlib.Omega.{arith}
use lib.ListN.{length}
use borrow.Author.Tests.{le-leb, lt-leb}
use Rattle.rules.specs.Bit.{bit}
use Rattle.rules.specs.Fold.{Term}
use Rattle.rules.specs.Walk.{side, score, beats, best}
use Rattle.rules.specs.Shortcuts.{any}
use Rattle.rules.proofs.Bits.{split, same}
use Rattle.rules.proofs.Machine.{length-sides}

-- the larger side is at most the set
pub score-le : (c : ℕ) (ts : List Term) → score c ts ≤ length ts
unfolding score
score-le c ts = omega (arith, length-sides c ts)

-- the larger side by the number of ones, as code counts it
pub score-ones : (c : ℕ) (ts : List Term) → score c ts ≡ max (length (side true c ts)) (length (side false c ts))
unfolding score
score-ones c ts = refl

module _ (cs : ℕ) (ts : List Term) where
  -- a column that is no candidate is passed over
  pub best-skip : (m : ℕ) → bit cs m ≡ false → best (suc m) cs ts ≡ best m cs ts
  unfolding best
  best-skip m e = rw e

  -- a candidate takes the place of the best so far where it is at least as good
  pub best-take : (m : ℕ) → bit cs m ≡ true → best (suc m) cs ts ≡ cond (beats (best m cs ts).1 (score m ts)) (m, score m ts) (best m cs ts)
  unfolding best
  best-take m e = rw e

  pub best-skips : (k m : ℕ) → ((j : ℕ) → m ≤ j → j < m + k → bit cs j ≡ false) → best (m + k) cs ts ≡ best m cs ts
  best-skips zero m h = ap (λ (z : ℕ). best z cs ts) (plus m)
    where
      plus : (z : ℕ) → z + zero ≡ z
      plus z = omega arith
  best-skips (suc k) m h =
      ap (λ (z : ℕ). best z cs ts) (next m k) ∙ best-skip (m + k) (h (m + k) (omega arith) (omega arith)) ∙ best-skips k m (λ j a b. h j a (omega arith))
    where
      next : (m k : ℕ) → m + suc k ≡ suc (m + k)
      next m k = omega arith

  pub best-le : (m : ℕ) → (best m cs ts).1 ≤ length ts
  unfolding best
  best-le zero = zero-le
  best-le (suc m) =
      split (bit cs m)
      (λ e. split (beats (best m cs ts).1 (score m ts)) (λ f. rw (e, f) (score-le m ts)) (λ f. rw (e, f) (best-le m)))
      (λ e. rw e (best-le m))

  -- the highest candidate on which all parities agree is the best
  pub best-agreed : (n c : ℕ) → c < n → bit cs c ≡ true → score c ts ≡ length ts
      → ((j : ℕ) → c < j → j < n → bit cs j ≡ true → score j ts < length ts) → best n cs ts ≡ (c, length ts)
  best-agreed zero c h e s f = absurd (not-suc-le-zero h)
  best-agreed (suc m) c h e s f =
      same c m
      (λ q _.
      let at : bit cs m ≡ true = ap (bit cs) (sym q) ∙ e in
      let top : score m ts ≡ length ts = ap (λ (z : ℕ). score z ts) (sym q) ∙ s in
      best-take m at
      ∙ ap (λ (z : Bool). cond z (m, score m ts) (best m cs ts)) (le-leb (best m cs ts).1 (score m ts) (omega (arith, best-le m)))
      ∙ rw (top, q))
      (λ q _.
      let below : best m cs ts ≡ (c, length ts) = best-agreed m c (omega arith) e s (λ j a b. f j a (omega arith)) in
      split (bit cs m)
      (λ g. best-take m g
      ∙ ap (λ (z : Bool). cond z (m, score m ts) (best m cs ts))
      (lt-leb (best m cs ts).1 (score m ts) (omega (arith, ap (λ (b : ℕ × ℕ). b.1) below, f m (omega arith) (omega arith) g)))
      ∙ below)
      (λ g. best-skip m g ∙ below))

-- ---- the columns on which all parities agree, by one AND and one OR over the set

unfoldable pub every : ℕ → List Term → Bool
unfolding bit
every c [] = true
every c (t ∷ ts) = bit t.parity c && every c ts

pub every-sides : (c : ℕ) (ts : List Term) → every c ts ≡ true → length (side false c ts) ≡ 0
unfolding every side
every-sides c [] e = refl
every-sides c (t ∷ ts) e =
    split (bit t.parity c)
    (λ f. rw f (every-sides c ts (rw f at e)))
    (λ f. absurd (false≢true (rw f at e)))

pub any-sides : (c : ℕ) (ts : List Term) → any c ts ≡ false → length (side true c ts) ≡ 0
unfolding any side
any-sides c [] e = refl
any-sides c (t ∷ ts) e =
    split (bit t.parity c)
    (λ f. absurd (true≢false (rw f at e)))
    (λ f. rw f (any-sides c ts (rw f at e)))

some-without : (c : ℕ) (ts : List Term) → every c ts ≡ false → 0 < length (side false c ts)
unfolding every side
some-without c [] e = absurd (true≢false e)
some-without c (t ∷ ts) e = split (bit t.parity c) (λ f. rw f (some-without c ts (rw f at e))) (λ f. rw f (omega arith))

some_with : (c : ℕ) (ts : List Term) → any c ts ≡ true → 0 < length (side true c ts)
unfolding any side
some_with c [] e = absurd (false≢true e)
some_with c (t ∷ ts) e = split (bit t.parity c) (λ f. rw f (omega arith)) (λ f. rw f (some_with c ts (rw f at e)))

-- all have the bit, or none has it: the larger side is the whole set
pub agreed-score : (c : ℕ) (ts : List Term) → 0 < length ts → any c ts ≡ every c ts → score c ts ≡ length ts
unfolding score
agreed-score c ts h e =
    split (every c ts)
    (λ f. omega (arith, every-sides c ts f, length-sides c ts))
    (λ f. omega (arith, any-sides c ts (e ∙ f), length-sides c ts))

-- some have it and some don't: the larger side is less
pub split-score : (c : ℕ) (ts : List Term) → any c ts ≡ true → every c ts ≡ false → score c ts < length ts
unfolding score
split-score c ts e f = omega (arith, some_with c ts e, some-without c ts f, length-sides c ts)
