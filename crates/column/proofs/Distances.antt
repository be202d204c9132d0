-- The choice by distance from even is the choice by the larger side, for every set and all candidates.
--     twice-the-larger                 the law that ties them
--     same-beats                       so of two columns the same one is beaten
--     same-choice                      and so of all candidates the same is left
--     furthest-best, best-furthest     so what is promised by the larger side is promised by the distance
use mathlib.Core.Path.{◌≡◌, refl, sym, ap, ◌∙◌}
use mathlib.Core.Logic.{◌⊎◌, inl, inr}
use mathlib.Core.Bool.{true, false, cond}
use mathlib.Core.List.{List}
use Prim.Native.Nat.{ℕ, zero, suc, ◌+◌, ◌*◌, max}
use native.Mathlib.Omega.{arith}
use lib.ListN.{length}
use lib.Dec.{leb}
use borrow.Author.Tests.{le-leb, lt-leb, leb-true, leb-false}
use Rattle.rules.specs.Bit.{bit}
use Rattle.rules.specs.Fold.{Term}
use Rattle.rules.specs.Walk.{side, score, beats, best}
use Rattle.rules.proofs.Bits.{split}
use Rattle.rules.proofs.Machine.{length-sides}
use Rattle.rules.proofs.Choosing.{score-ones}
use Rattle.column.specs.Choice.{Best}
use Rattle.column.specs.Distance.{distance, from_even, furthest, Furthest}

-- twice the larger side is the size plus the distance
pub twice-the-larger : (ones zeros : ℕ) → 2 * max ones zeros ≡ (ones + zeros) + distance ones (ones + zeros)
twice-the-larger ones zeros = omega arith

-- of two columns that split one size, by their larger sides s and distances d
pub same-beats : (size s s' d d' : ℕ) → 2 * s ≡ size + d → 2 * s' ≡ size + d' → beats s s' ≡ beats d d'
same-beats size s s' d d' e f =
    split (leb d d')
    (λ q. le-leb s s' (omega (arith, leb-true d d' q)) ∙ sym q)
    (λ q. lt-leb s s' (omega (arith, leb-false d d' q)) ∙ sym q)

-- ---- of a set

twice-the-score : (c : ℕ) (ts : List Term) → 2 * score c ts ≡ length ts + from_even c ts
unfolding from_even
twice-the-score c ts =
    let ones : ℕ = length (side true c ts) in
    let zeros : ℕ = length (side false c ts) in
    let all : ones + zeros ≡ length ts = omega (arith, length-sides c ts) in
    ap (λ (s : ℕ). 2 * s) (score-ones c ts) ∙ twice-the-larger ones zeros ∙ ap (λ (n : ℕ). n + distance ones n) all

-- what is kept by the larger side and what by the distance: the same column, and no candidate yet (any beats it) or the law
record Tied (size : ℕ) (b f : ℕ × ℕ) : Type 0 where
  column : b.0 ≡ f.0
  law : ((b.1 ≡ 0) × (f.1 ≡ 0)) ⊎ (2 * b.1 ≡ size + f.1)

-- one more candidate
tied-next : (size c s d : ℕ) (b f : ℕ × ℕ) → Tied size b f → 2 * s ≡ size + d → Tied size (cond (beats b.1 s) (c, s) b) (cond (beats f.1 d) (c, d) f)
tied-next size c s d b f t e =
    rw (alike t.law) (split (beats f.1 d) (λ q. rw q (record { column = refl; law = inr e })) (λ q. rw q t))
  where
    alike : ((b.1 ≡ 0) × (f.1 ≡ 0)) ⊎ (2 * b.1 ≡ size + f.1) → beats b.1 s ≡ beats f.1 d
    alike (inl z) = le-leb b.1 s (omega (arith, z.0)) ∙ sym (le-leb f.1 d (omega (arith, z.1)))
    alike (inr l) = same-beats size b.1 s f.1 d l e

tied : (n cs : ℕ) (ts : List Term) → Tied (length ts) (best n cs ts) (furthest n cs ts)
unfolding best furthest
tied zero cs ts = record { column = refl; law = inl (refl, refl) }
tied (suc c) cs ts =
    split (bit cs c)
    (λ e. rw e (tied-next (length ts) c (score c ts) (from_even c ts) (best c cs ts) (furthest c cs ts) (tied c cs ts) (twice-the-score c ts)))
    (λ e. rw e (tied c cs ts))

pub same-choice : (n cs : ℕ) (ts : List Term) → (furthest n cs ts).0 ≡ (best n cs ts).0
same-choice n cs ts = sym (tied n cs ts).column

module _ (ts : List Term) (cands r : ℕ) where
  pub furthest-best : Furthest ts cands r → Best ts cands r
  furthest-best h = record { is = λ n k. h.is n k ∙ same-choice n cands ts; small = h.small }

  pub best-furthest : Best ts cands r → Furthest ts cands r
  best-furthest h = record { is = λ n k. h.is n k ∙ sym (same-choice n cands ts); small = h.small }
