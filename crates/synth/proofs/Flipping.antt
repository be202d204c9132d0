-- The x gates, part by part.
use mathlib.Core.Path.{◌≡◌, refl, sym, ap, ◌∙◌, subst}
use mathlib.Core.Bool.{Bool, true, false}
use mathlib.Core.List.{List, [], ◌∷◌, ◌++◌}
use Prim.Native.Nat.{ℕ, zero, suc, ◌+◌, ◌-◌, ◌<◌}
use native.Mathlib.Omega.{arith}
use lib.IntN.{ℤ}
use lib.ListN.{get_or}
use Rattle.rules.specs.Gate.{Gate, gate1, code_x}
use Rattle.rules.specs.Bit.{bit}
use Rattle.rules.proofs.Bits.{split}
use Rattle.rules.specs.Budget.{Budget}
use Rattle.emit.specs.Emitted.{Emits}
use Rattle.emit.proofs.Appending.{emits_then, emits-stop}
use Rattle.synth.specs.Flips.{flip_if, flips_from}

module _ (names : List ℕ) (v : ℕ) where
  pub flips-none : (i : ℕ) → flips_from names v 0 i ≡ []
  unfolding flips_from
  flips-none i = refl

  pub flips-append : (a b i : ℕ) → flips_from names v (a + b) i ≡ flips_from names v a i ++ flips_from names v b (i + a)
  unfolding flips_from
  flips-append zero b i = let e : i ≡ i + 0 = omega arith in let f : 0 + b ≡ b = omega arith in ap (λ (n : ℕ). flips_from names v n i) f ∙ ap (flips_from names v b) e
  flips-append (suc a) b i =
      let n : suc a + b ≡ suc (a + b) = omega arith in
      let e : i + suc a ≡ suc i + a = omega arith in
      let h : flips_from names v (a + b) (suc i) ≡ flips_from names v a (suc i) ++ flips_from names v b (i + suc a) = flips-append a b (suc i) ∙ ap (λ (j : ℕ). flips_from names v a (suc i) ++ flips_from names v b j) (sym e) in
      ap (λ (m : ℕ). flips_from names v m i) n
      ∙ split (bit v i) (λ f. rw f (ap (λ (l : List Gate). gate1 code_x (get_or names i 0) ∷ l) h)) (λ f. rw f h)

  pub flips-one : (i : ℕ) → flips_from names v 1 i ≡ flip_if (bit v i) (get_or names i 0)
  unfolding flips_from
  flips-one i = refl

  -- the index i, after those before it
  pub flips-next : (i : ℕ) → flips_from names v (i + 1) 0 ≡ flips_from names v i 0 ++ flip_if (bit v i) (get_or names i 0)
  flips-next i =
      let e : 0 + i ≡ i = omega arith in
      flips-append i 1 0 ∙ ap (λ (j : ℕ). flips_from names v i 0 ++ flips_from names v 1 j) e ∙ ap (λ (l : List Gate). flips_from names v i 0 ++ l) (flips-one i)

  -- what would have followed
  pub flips-rest : (n i : ℕ) → i < n → flips_from names v n 0 ≡ flips_from names v (i + 1) 0 ++ flips_from names v (n - (i + 1)) (i + 1)
  flips-rest n i l =
      let e : n ≡ (i + 1) + (n - (i + 1)) = omega arith in
      let f : 0 + (i + 1) ≡ i + 1 = omega arith in
      ap (λ (m : ℕ). flips_from names v m 0) e ∙ flips-append (i + 1) (n - (i + 1)) 0 ∙ ap (λ (j : ℕ). flips_from names v (i + 1) 0 ++ flips_from names v (n - (i + 1)) j) f

  module _ {o o₁ o₂ : List ℤ} {b b₁ b₂ : Budget} {w : Bool} (i : ℕ) (before : Emits (flips_from names v i 0) o b o₁ b₁ true)
      (one : Emits (flip_if (bit v i) (get_or names i 0)) o₁ b₁ o₂ b₂ w) where
    -- one index more is emitted
    pub flips-more : Emits (flips_from names v (i + 1) 0) o b o₂ b₂ w
    flips-more = rw (flips-next i) (emits_then before one)

    -- or the budget was spent by it
    pub flips-stop : (n : ℕ) → i < n → w ≡ false → Emits (flips_from names v n 0) o b o₂ b₂ false
    flips-stop n l e = rw (flips-rest n i l) (emits-stop (flips_from names v (i + 1) 0) _ _ _ _ _ (subst (Emits (flips_from names v (i + 1) 0) o b o₂ b₂) e flips-more))
