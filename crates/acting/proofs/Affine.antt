-- Where a run takes a setting: an affine map, which the zeros and the settings with a single one determine; and nothing depends on wires that no gate names.
use mathlib.Core.Path.{◌≡◌, refl, sym, ap, ap₂, ◌∙◌}
use mathlib.Core.Bool.{Bool, true, false, ◌&&◌, cond}
use mathlib.Core.List.{List, [], ◌∷◌}
use Prim.Native.Nat.{ℕ, zero, suc, ◌+◌, ◌≤◌, ◌<◌}
use native.Mathlib.Nat.{le_refl, le-suc, le_trans}
use native.Mathlib.Omega.{arith}
use lib.Dec.{eqb}
use borrow.Author.Tests.{lt-ltb, ne_eqb}
use Rattle.rules.specs.Bit.{◌⊕◌}
use Rattle.rules.specs.Meaning.{Op, flip, phase, cnot, cz, other, moved, added, wires, phases, when1}
use Rattle.rules.proofs.Bits.{split, ⊕-self, ⊕-assoc}
use Rattle.acting.specs.Alike.{Setting, zeros, Below, AllBelow, enters}
use Rattle.acting.proofs.Differences.{◌⊞◌, unit, line, moved-plus, cut, cut-zero, cut-without, cut-with}

-- ---- the linear part of a run

unfoldable pub lines : List Op → Setting → Setting
unfolding line
lines [] u = u
lines (o ∷ os) u = lines os (line o u)

pub wires-plus : (os : List Op) (s u : Setting) → wires os (s ⊞ u) ≡ (wires os s ⊞ lines os u)
unfolding wires lines
wires-plus [] s u = refl
wires-plus (o ∷ os) s u = ap (wires os) (moved-plus o s u) ∙ wires-plus os (moved o s) (line o u)

-- between two settings that differ by u
pub between-plus : (os : List Op) (s u : Setting) (q : ℕ) → (wires os s q ⊕ wires os (s ⊞ u) q) ≡ lines os u q
between-plus os s u q =
    ap (λ (z : Setting). wires os s q ⊕ z q) (wires-plus os s u) ∙ sym (⊕-assoc (wires os s q) (wires os s q) (lines os u q))
    ∙ ap (λ (z : Bool). z ⊕ lines os u q) (⊕-self (wires os s q))

pub lines-plus : (os : List Op) (u v : Setting) (q : ℕ) → lines os (u ⊞ v) q ≡ (lines os u q ⊕ lines os v q)
lines-plus os u v q =
    sym (between-plus os zeros (u ⊞ v) q) ∙ ap (λ (z : Setting). wires os zeros q ⊕ z q) (wires-plus os u v)
    ∙ sym (⊕-assoc (wires os zeros q) (wires os u q) (lines os v q)) ∙ ap (λ (z : Bool). z ⊕ lines os v q) (between-plus os zeros u q)

pub lines-zeros : (os : List Op) (q : ℕ) → lines os zeros q ≡ false
lines-zeros os q = sym (between-plus os zeros zeros q) ∙ ⊕-self (wires os zeros q)

pub enters-line : (os : List Op) (i q : ℕ) → enters os i q ≡ lines os (unit i) q
unfolding enters
enters-line os i q = between-plus os zeros (unit i) q

-- ---- only the wires that the gates name

below-cut : (n q : ℕ) (s : Setting) → q < n → cut n s q ≡ s q
below-cut n q s h = rw (lt-ltb q n h)

module _ (n : ℕ) where
  -- the same below n
  abbrev pub Agree : Setting → Setting → Type 0
  Agree s t = (q : ℕ) → q < n → s q ≡ t q

  pub cut-agrees : (s : Setting) → Agree (cut n s) s
  cut-agrees s q h = below-cut n q s h

  moved-agree : (o : Op) (s t : Setting) → Below n o → Agree s t → Agree (moved o s) (moved o t)
  unfolding moved
  moved-agree (flip a) s t b h q l = ap (λ (z : Bool). cond (eqb q a) (z ⊕ true) z) (h q l)
  moved-agree (phase k a) s t b h q l = h q l
  moved-agree (cnot c a) s t b h q l = ap₂ (λ (z y : Bool). cond (eqb q a) (z ⊕ y) z) (h q l) (h c b.0)
  moved-agree (cz c a) s t b h q l = h q l
  moved-agree other s t b h q l = h q l

  added-agree : (o : Op) (s t : Setting) → Below n o → Agree s t → added o s ≡ added o t
  unfolding added
  added-agree (flip a) s t b h = refl
  added-agree (phase k a) s t b h = ap (λ (z : Bool). when1 z k) (h a b)
  added-agree (cnot c a) s t b h = refl
  added-agree (cz c a) s t b h = ap₂ (λ (y z : Bool). when1 (y && z) 4) (h c b.0) (h a b.1)
  added-agree other s t b h = refl

  moved-beyond : (o : Op) (s : Setting) (q : ℕ) → Below n o → n ≤ q → moved o s q ≡ s q
  unfolding moved
  moved-beyond (flip a) s q b l = rw (ne_eqb q a (λ e. omega arith))
  moved-beyond (phase k a) s q b l = refl
  moved-beyond (cnot c a) s q b l = rw (ne_eqb q a (λ e. omega arith))
  moved-beyond (cz c a) s q b l = refl
  moved-beyond other s q b l = refl

  pub wires-agree : (os : List Op) (s t : Setting) → AllBelow n os → Agree s t → Agree (wires os s) (wires os t)
  unfolding wires AllBelow
  wires-agree [] s t b h = h
  wires-agree (o ∷ os) s t b h = wires-agree os (moved o s) (moved o t) b.1 (moved-agree o s t b.0 h)

  pub phases-agree : (os : List Op) (s t : Setting) → AllBelow n os → Agree s t → phases os s ≡ phases os t
  unfolding phases AllBelow
  phases-agree [] s t b h = refl
  phases-agree (o ∷ os) s t b h =
      ap₂ ◌+◌ (added-agree o s t b.0 h) (phases-agree os (moved o s) (moved o t) b.1 (moved-agree o s t b.0 h))

  pub wires-beyond : (os : List Op) (s : Setting) (q : ℕ) → AllBelow n os → n ≤ q → wires os s q ≡ s q
  unfolding wires AllBelow
  wires-beyond [] s q b l = refl
  wires-beyond (o ∷ os) s q b l = wires-beyond os (moved o s) q b.1 l ∙ moved-beyond o s q b.0 l

  pub phases-cut : (os : List Op) (s : Setting) → AllBelow n os → phases os (cut n s) ≡ phases os s
  phases-cut os s b = phases-agree os (cut n s) s b (cut-agrees s)

  -- a wire below n: the flips, and the linear part of what stands on the first n wires
  pub wires-split : (os : List Op) (s : Setting) (q : ℕ) → AllBelow n os → q < n → wires os s q ≡ (wires os zeros q ⊕ lines os (cut n s) q)
  wires-split os s q b l = sym (wires-agree os (cut n s) s b (cut-agrees s) q l) ∙ ap (λ (z : Setting). z q) (wires-plus os zeros (cut n s))

-- the single ones decide the linear part
pub lines-decide : (m : ℕ) (us vs : List Op) (q : ℕ) → ((i : ℕ) → i < m → lines us (unit i) q ≡ lines vs (unit i) q) → (s : Setting) → lines us (cut m s) q ≡ lines vs (cut m s) q
lines-decide zero us vs q h s = rw (cut-zero s) (lines-zeros us q ∙ sym (lines-zeros vs q))
lines-decide (suc m) us vs q h s =
    let low : lines us (cut m s) q ≡ lines vs (cut m s) q = lines-decide m us vs q (λ i k. h i (le_trans k (le-suc m))) s in
    split (s m)
    (λ e. ap (λ (z : Setting). lines us z q) (cut-with m s e) ∙ lines-plus us (cut m s) (unit m) q ∙ ap₂ ◌⊕◌ low (h m (le_refl (suc m)))
    ∙ sym (ap (λ (z : Setting). lines vs z q) (cut-with m s e) ∙ lines-plus vs (cut m s) (unit m) q))
    (λ e. ap (λ (z : Setting). lines us z q) (cut-without m s e) ∙ low ∙ sym (ap (λ (z : Setting). lines vs z q) (cut-without m s e)))
