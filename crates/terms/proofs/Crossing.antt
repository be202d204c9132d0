-- CNOTs to t from the columns of a mask pass terms in place, front to back: what the loop knows after k rounds.
--     cross-none    before the first round
--     cross-read    the term at k is still the one that the loop began with
--     cross-round    it is stored with the columns flipped
--     cross-front   after the last round
use mathlib.Core.Path.{◌≡◌, refl, ap, ◌∙◌}
use mathlib.Core.Bool.{Bool, true, false, cond}
use mathlib.Core.List.{List, [], ◌∷◌, ◌++◌}
use Prim.Native.Nat.{ℕ, zero, suc, ◌+◌, ◌≤◌, ◌<◌}
use native.Mathlib.Nat.{not-suc-le-zero, le_of_suc-le-suc}
use native.Mathlib.Numerals.{add-one}
use lib.ListN.{length, get_or, set, take, drop}
use lib.Seq.{length-take-le, take_at, drop_at}
use Rattle.rules.specs.Bit.{bit, xor}
use Rattle.rules.specs.Fold.{Term}
use Rattle.rules.specs.Shortcuts.{flipped, flip_terms}
use Rattle.parity.proofs.Laws.{xor_zero_r}
use Rattle.terms.specs.Terms.{no_term, Begins}

-- the first k terms are passed
unfoldable pub passed : ℕ → ℕ → ℕ → List Term → List Term
passed m t k ts = flip_terms m t (take k ts) ++ drop k ts

-- the code flips by a mask that is 0 where the bit is not set
pub cross-mask : (m t v : ℕ) → xor v (cond (bit v t) m 0) ≡ flipped m t v
unfolding flipped
cross-mask m t v = go (bit v t)
  where
    go : (b : Bool) → xor v (cond b m 0) ≡ cond b (xor v m) v
    go true = refl
    go false = xor_zero_r v

module _ (m t : ℕ) where
  pub cross-none : (ts : List Term) → ts ≡ passed m t 0 ts
  unfolding passed flip_terms
  cross-none ts = refl

  pub cross-length : (k : ℕ) (ts : List Term) → length (passed m t k ts) ≡ length ts
  unfolding passed flip_terms
  cross-length zero ts = refl
  cross-length (suc k) [] = refl
  cross-length (suc k) (x ∷ ts) = ap suc (cross-length k ts)

  pub cross-read : (k : ℕ) (ts : List Term) → get_or (passed m t k ts) k no_term ≡ get_or ts k no_term
  unfolding passed flip_terms
  cross-read zero ts = refl
  cross-read (suc k) [] = refl
  cross-read (suc k) (x ∷ ts) = cross-read k ts

  store : (k : ℕ) (ts : List Term) → k < length ts
      → set (passed m t k ts) k (record { parity = flipped m t (get_or ts k no_term).parity; turn = (get_or ts k no_term).turn }) ≡ passed m t (suc k) ts
  unfolding passed flip_terms
  store k [] l = absurd (not-suc-le-zero l)
  store zero (x ∷ ts) l = refl
  store (suc k) (x ∷ ts) l = ap (λ (us : List Term). record { parity = flipped m t x.parity; turn = x.turn } ∷ us) (store k ts (le_of_suc-le-suc l))

  -- x is the term that was read, v its parity with the columns flipped
  pub cross-round : (k v : ℕ) (x : Term) (ts now : List Term) → now ≡ passed m t k ts → k < length ts → x ≡ get_or now k no_term → v ≡ flipped m t x.parity
      → set now k (record { parity = v; turn = x.turn }) ≡ passed m t (k + 1) ts
  cross-round k v x ts now e l r h =
      let q : x ≡ get_or ts k no_term = r ∙ ap (λ (us : List Term). get_or us k no_term) e ∙ cross-read k ts in
      rw (add-one k) (rw h (rw e (rw q (store k ts l))))

  many : (ts : List Term) → length (flip_terms m t ts) ≡ length ts
  unfolding flip_terms
  many [] = refl
  many (x ∷ ts) = ap suc (many ts)

  pub cross-front : (k : ℕ) (ts now : List Term) → now ≡ passed m t k ts → k ≤ length ts → Begins (flip_terms m t (take k ts)) k k ts now
  unfolding passed
  cross-front k ts now e l =
      let long : length (flip_terms m t (take k ts)) ≡ k = many (take k ts) ∙ length-take-le k ts l in
      record {
        many = long;
        front = ap (take k) e ∙ take_at (flip_terms m t (take k ts)) (drop k ts) k long;
        rest = ap (drop k) e ∙ drop_at (flip_terms m t (take k ts)) (drop k ts) k long;
      }
