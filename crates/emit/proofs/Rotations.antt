-- A rotation is its first gate, and a t after it for turns 3 and 5.
use mathlib.Core.Path.{◌≡◌, refl}
use mathlib.Core.Bool.{Bool, true, false, ◌||◌, cond}
use mathlib.Core.List.{List, [], ◌∷◌}
use Prim.Native.Nat.{ℕ, zero, suc, ◌<◌}
use native.Mathlib.Omega.{arith}
use lib.IntN.{ℤ}
use lib.Dec.{eqb}
use Rattle.rules.specs.Gate.{gate1, code_t}
use Rattle.rules.specs.Synth.{rotation}
use Rattle.rules.specs.Budget.{Budget}
use Rattle.emit.specs.Emitted.{Emits}
use Rattle.emit.specs.Turns.{lead}
use Rattle.emit.proofs.Appending.{emits_then, emits-stop}

-- turns that take two gates
abbrev pub double : ℕ → Bool
double k = eqb k 3 || eqb k 5

pub rotation-is : (k q : ℕ) → 0 < k → k < 8 → rotation k q ≡ gate1 (lead k) q ∷ cond (double k) (gate1 code_t q ∷ []) []
unfolding rotation
rotation-is zero q p h = absurd (none p)
  where
    none : 0 < 0 → ⊥
    none p = omega arith
rotation-is (suc zero) q p h = refl
rotation-is (suc (suc zero)) q p h = refl
rotation-is (suc (suc (suc zero))) q p h = refl
rotation-is (suc (suc (suc (suc zero)))) q p h = refl
rotation-is (suc (suc (suc (suc (suc zero))))) q p h = refl
rotation-is (suc (suc (suc (suc (suc (suc zero)))))) q p h = refl
rotation-is (suc (suc (suc (suc (suc (suc (suc zero))))))) q p h = refl
rotation-is (suc (suc (suc (suc (suc (suc (suc (suc k)))))))) q p h = absurd (many h)
  where
    many : suc (suc (suc (suc (suc (suc (suc (suc k))))))) < 8 → ⊥
    many g = omega arith

pub rotation-none : (q : ℕ) → rotation 0 q ≡ []
unfolding rotation
rotation-none q = refl

module _ (k q : ℕ) (p : 0 < k) (h : k < 8) {o o₁ : List ℤ} {b b₁ : Budget} where
  module _ (one : Emits (gate1 (lead k) q ∷ []) o b o₁ b₁ true) where
    -- its first gate, and the t
    pub rotation-two : double k ≡ true → {o₂ : List ℤ} {b₂ : Budget} {v : Bool} → Emits (gate1 code_t q ∷ []) o₁ b₁ o₂ b₂ v → Emits (rotation k q) o b o₂ b₂ v
    rotation-two t two = rw (rotation-is k q p h, t) (emits_then one two)

    -- it is one gate
    pub rotation-one : double k ≡ false → Emits (rotation k q) o b o₁ b₁ true
    rotation-one t = rw (rotation-is k q p h, t) one

  -- the budget was spent by its first gate
  pub rotation-spent : Emits (gate1 (lead k) q ∷ []) o b o₁ b₁ false → Emits (rotation k q) o b o₁ b₁ false
  rotation-spent one =
      rw (rotation-is k q p h) (emits-stop (gate1 (lead k) q ∷ []) (cond (double k) (gate1 code_t q ∷ []) []) o o₁ b b₁ one)
