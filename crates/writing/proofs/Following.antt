-- Writings, one after the other.
--     wrote_none, wrote_one, wrote_then    nothing, one gate, and then more
--     fits-first, fits-rest                room for both is room for the first, and then for the rest
use mathlib.Core.Path.{refl, sym, ap, ◌∙◌, subst}
use mathlib.Core.List.{List, [], ◌∷◌, ◌++◌, append_assoc, append-nil}
use Prim.Native.Nat.{ℕ, ◌+◌, ◌*◌}
use native.Mathlib.Omega.{arith}
use lib.IntN.{ℤ}
use lib.ListN.{length, take, length-append}
use Rattle.rules.specs.Limits.{width}
use Rattle.rules.specs.Gate.{Gate}
use Rattle.gate.specs.Writing.{placed}
use Rattle.gate.proofs.Placing.{length-placed, next-placed}
use Rattle.writing.specs.Written.{Stands, Wrote, Fits}

pub wrote_none : (whole : List ℤ) (k : ℕ) → Wrote [] whole k whole k
wrote_none whole k = record { made = λ gs h. subst (Stands whole k) (sym (append-nil gs)) h; count = omega arith; size = refl }

pub wrote_one : (whole : List ℤ) (k : ℕ) (g : Gate) → Fits whole k 1 → Wrote (g ∷ []) whole k (placed whole k g) (k + 1)
wrote_one whole k g fits =
    record {
      made = λ gs h. record {
        text = ap (λ (n : ℕ). take (width * n) (placed whole k g)) (length-append gs (g ∷ []) ∙ ap (λ (n : ℕ). n + 1) (sym h.count))
            ∙ next-placed whole k g (omega arith) gs (ap (λ (n : ℕ). take (width * n) whole) h.count ∙ h.text);
        count = omega (arith, h.count, length-append gs (g ∷ []));
      };
      count = refl;
      size = length-placed whole k g (omega arith);
    }

module _ {us vs : List Gate} {o o₁ o₂ : List ℤ} {k k₁ k₂ : ℕ} where
  pub wrote_then : Wrote us o k o₁ k₁ → Wrote vs o₁ k₁ o₂ k₂ → Wrote (us ++ vs) o k o₂ k₂
  wrote_then h j =
      record {
        made = λ gs a. subst (Stands o₂ k₂) (append_assoc gs us vs) (j.made (gs ++ us) (h.made gs a));
        count = omega (arith, h.count, j.count, length-append us vs);
        size = j.size ∙ h.size;
      }

pub fits-first : (us vs : List Gate) (o : List ℤ) (k : ℕ) → Fits o k (length (us ++ vs)) → Fits o k (length us)
fits-first us vs o k f = omega (arith, f, length-append us vs)

pub fits-rest : (us vs : List Gate) (o o₁ : List ℤ) (k k₁ : ℕ) → Wrote us o k o₁ k₁ → Fits o k (length (us ++ vs)) → Fits o₁ k₁ (length vs)
fits-rest us vs o o₁ k k₁ h f = omega (arith, f, h.count, h.size, length-append us vs)
