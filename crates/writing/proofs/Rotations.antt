-- A rotation written: no gate, its first gate, or that and a t.
use mathlib.Core.Path.{◌≡◌, sym, ◌∙◌, subst}
use mathlib.Core.Bool.{true, false, cond}
use mathlib.Core.List.{List, [], ◌∷◌, ◌++◌}
use Prim.Native.Nat.{ℕ, ◌<◌}
use lib.IntN.{ℤ}
use lib.ListN.{length}
use Rattle.rules.specs.Gate.{Gate, gate1, code_t}
use Rattle.rules.specs.Synth.{rotation}
use Rattle.emit.specs.Turns.{lead}
use Rattle.emit.proofs.Rotations.{double, rotation-is, rotation-none}
use Rattle.writing.specs.Written.{Wrote, Fits}
use Rattle.writing.proofs.Following.{wrote_none, wrote_then, fits-first, fits-rest}

pub rotation-nothing : (k q : ℕ) (w : List ℤ) (i : ℕ) → k ≡ 0 → Wrote (rotation k q) w i w i
rotation-nothing k q w i e = rw (e, rotation-none q) (wrote_none w i)

module _ (k q : ℕ) (p : 0 < k) (h : k < 8) (w : List ℤ) (i : ℕ) where
  -- there is room for its first gate
  pub rotation-fits : Fits w i (length (rotation k q)) → Fits w i 1
  rotation-fits f =
      let e = rotation-is k q p h in
      fits-first (gate1 (lead k) q ∷ []) (cond (double k) (gate1 code_t q ∷ []) []) w i (subst (λ (gs : List Gate). Fits w i (length gs)) e f)

  module _ {w₁ : List ℤ} {i₁ : ℕ} (one : Wrote (gate1 (lead k) q ∷ []) w i w₁ i₁) where
    two : double k ≡ true → rotation k q ≡ (gate1 (lead k) q ∷ []) ++ (gate1 code_t q ∷ [])
    two d = rotation-is k q p h ∙ rw d

    -- and behind it for the t
    pub rotation-fits-two : double k ≡ true → Fits w i (length (rotation k q)) → Fits w₁ i₁ 1
    rotation-fits-two d f = fits-rest (gate1 (lead k) q ∷ []) (gate1 code_t q ∷ []) w w₁ i i₁ one (subst (λ (gs : List Gate). Fits w i (length gs)) (two d) f)

    pub rotation-two : double k ≡ true → {w₂ : List ℤ} {i₂ : ℕ} → Wrote (gate1 code_t q ∷ []) w₁ i₁ w₂ i₂ → Wrote (rotation k q) w i w₂ i₂
    rotation-two d {w₂} {i₂} t = subst (λ (gs : List Gate). Wrote gs w i w₂ i₂) (sym (two d)) (wrote_then one t)

    pub rotation-one : double k ≡ false → Wrote (rotation k q) w i w₁ i₁
    rotation-one d = subst (λ (gs : List Gate). Wrote gs w i w₁ i₁) (sym (rotation-is k q p h ∙ rw d)) one
