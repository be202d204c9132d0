-- Phase functions modulo 8: their fourth differences vanish, so three ones decide.
use mathlib.Core.Path.{◌≡◌, refl, sym, ap, ap₂, ◌∙◌, subst, fun_ext}
use mathlib.Core.Logic.{◌≢◌}
use mathlib.Core.Bool.{Bool, true, false, ◌&&◌, cond}
use mathlib.Core.List.{List, [], ◌∷◌}
use Prim.Native.Nat.{ℕ, zero, suc, ◌+◌, ◌*◌, ◌/◌, ◌%◌, ◌≤◌, ◌<◌, zero-le}
use native.Mathlib.Nat.{le_refl, le-suc, le_trans, add-mul-mod_self_left}
use native.Mathlib.Omega.{arith}
use borrow.Author.Tests.{lt-ltb, le-ltb, ltb-true, ltb-false}
use lib.Dec.{eqb, ltb}
use Rattle.rules.specs.Bit.{◌⊕◌}
use Rattle.rules.specs.Meaning.{Op, flip, phase, cnot, cz, other, change, moved, added, phases, when1}
use Rattle.rules.proofs.Bits.{split, same, eqb-self, ⊕-false, ⊕-assoc, ⊕-mid}
use Rattle.acting.specs.Alike.{Setting, zeros, turned}

infixl 30 ◌⊞◌
abbrev pub ◌⊞◌ : Setting → Setting → Setting
(s ⊞ u) q = s q ⊕ u q

abbrev pub unit : ℕ → Setting
unit i q = eqb q i

-- ---- differences

-- f after u is added, less f before, modulo 8
abbrev pub diff : Setting → (Setting → ℕ) → Setting → ℕ
diff u f s = f (s ⊞ u) + 7 * f s

-- any d differences vanish modulo 8
unfoldable pub Deg : ℕ → (Setting → ℕ) → Type 0
Deg zero f = (s : Setting) → f s % 8 ≡ 0
Deg (suc d) f = (u : Setting) → Deg d (diff u f)

-- a difference, of remainders
reduce : (x y : ℕ) → (x + 7 * y) % 8 ≡ (x % 8 + 7 * (y % 8)) % 8
reduce x y = ap (λ (z : ℕ). z % 8) parts ∙ add-mul-mod_self_left (x % 8 + 7 * (y % 8)) 8 (x / 8 + 7 * (y / 8))
  where
    parts : x + 7 * y ≡ x % 8 + 7 * (y % 8) + 8 * (x / 8 + 7 * (y / 8))
    parts = omega arith

pub diff-ext : (a b c d : ℕ) → a % 8 ≡ b % 8 → c % 8 ≡ d % 8 → (a + 7 * c) % 8 ≡ (b + 7 * d) % 8
diff-ext a b c d h k = reduce a c ∙ ap₂ (λ (x y : ℕ). (x + 7 * y) % 8) h k ∙ sym (reduce b d)

pub deg-ext : (d : ℕ) (f g : Setting → ℕ) → ((s : Setting) → f s % 8 ≡ g s % 8) → Deg d f → Deg d g
unfolding Deg
deg-ext zero f g e h = λ s. sym (e s) ∙ h s
deg-ext (suc d) f g e h = λ u.
    deg-ext d (diff u f) (diff u g) (λ s. diff-ext (f (s ⊞ u)) (g (s ⊞ u)) (f s) (g s) (e (s ⊞ u)) (e s)) (h u)

pub deg-zero : (d : ℕ) → Deg d (λ s. 0)
unfolding Deg
deg-zero zero = λ s. refl
deg-zero (suc d) = λ u. deg-zero d

pub deg-constant : (d c : ℕ) → Deg (suc d) (λ s. c)
unfolding Deg
deg-constant d c u = deg-ext d (λ s. 0) (λ s. c + 7 * c) (λ s. eight c) (deg-zero d)
  where
    eight : (c : ℕ) → 0 ≡ (c + 7 * c) % 8
    eight c = omega arith

pub deg-plus : (d : ℕ) (f g : Setting → ℕ) → Deg d f → Deg d g → Deg d (λ s. f s + g s)
unfolding Deg
deg-plus zero f g h k = λ s. both (f s) (g s) (h s) (k s)
  where
    both : (a b : ℕ) → a % 8 ≡ 0 → b % 8 ≡ 0 → (a + b) % 8 ≡ 0
    both a b h k = omega arith
deg-plus (suc d) f g h k = λ u.
    deg-ext d (λ s. diff u f s + diff u g s) (diff u (λ s. f s + g s)) (λ s. regroup (f (s ⊞ u)) (f s) (g (s ⊞ u)) (g s)) (deg-plus d (diff u f) (diff u g) (h u) (k u))
  where
    regroup : (a b c e : ℕ) → (a + 7 * b + (c + 7 * e)) % 8 ≡ (a + c + 7 * (b + e)) % 8
    regroup a b c e = omega arith

pub deg-minus : (d : ℕ) (f : Setting → ℕ) → Deg d f → Deg d (λ s. 7 * f s)
unfolding Deg
deg-minus zero f h = λ s. seven (f s) (h s)
  where
    seven : (a : ℕ) → a % 8 ≡ 0 → 7 * a % 8 ≡ 0
    seven a h = ap (λ (z : ℕ). z % 8) (plus a) ∙ diff-ext 0 0 a 0 refl h
      where
        plus : (a : ℕ) → 7 * a ≡ 0 + 7 * a
        plus a = omega arith
deg-minus (suc d) f h = λ u.
    deg-ext d (λ s. 7 * diff u f s) (diff u (λ s. 7 * f s)) (λ s. regroup (f (s ⊞ u)) (f s)) (deg-minus d (diff u f) (h u))
  where
    regroup : (a b : ℕ) → 7 * (a + 7 * b) % 8 ≡ (7 * a + 7 * (7 * b)) % 8
    regroup a b = omega arith

-- after a map m that is affine, l being its linear part
pub deg-after : (d : ℕ) (m l : Setting → Setting) (f : Setting → ℕ) → ((s u : Setting) → m (s ⊞ u) ≡ (m s ⊞ l u)) → Deg d f → Deg d (λ s. f (m s))
unfolding Deg
deg-after zero m l f e h = λ s. h (m s)
deg-after (suc d) m l f e h = λ u.
    deg-ext d (λ s. diff (l u) f (m s)) (diff u (λ s. f (m s))) (λ s. ap (λ (z : Setting). (f z + 7 * f (m s)) % 8) (sym (e s u))) (deg-after d m l (diff (l u) f) e (h (l u)))

-- ---- a rotation by k of a parity: each difference takes the turn to 6 times it, and after three that is 0 modulo 8

module _ (L : Setting → Bool) (linear : (s u : Setting) → L (s ⊞ u) ≡ (L s ⊕ L u)) where
  deg-six : (d k : ℕ) → ((c : ℕ) → Deg d (λ s. c + when1 (L s) (6 * k))) → (c : ℕ) → Deg (suc d) (λ s. c + when1 (L s) k)
  unfolding Deg
  deg-six d k h c u =
      split (L u)
      (λ e. deg-ext d (λ s. k + when1 (L s) (6 * k)) (diff u (λ s. c + when1 (L s) k))
      (λ s. on (L s) ∙ ap (λ (z : Bool). (c + when1 z k + 7 * (c + when1 (L s) k)) % 8) (sym (linear s u ∙ ap (λ (z : Bool). L s ⊕ z) e))) (h k))
      (λ e. deg-ext d (λ s. 0) (diff u (λ s. c + when1 (L s) k))
      (λ s. off (L s) ∙ ap (λ (z : Bool). (c + when1 z k + 7 * (c + when1 (L s) k)) % 8) (sym (linear s u ∙ ap (λ (z : Bool). L s ⊕ z) e))) (deg-zero d))
    where
      on : (b : Bool) → (k + when1 b (6 * k)) % 8 ≡ (c + when1 (b ⊕ true) k + 7 * (c + when1 b k)) % 8
      on true = omega arith
      on false = omega arith

      off : (b : Bool) → 0 ≡ (c + when1 (b ⊕ false) k + 7 * (c + when1 b k)) % 8
      off true = omega arith
      off false = omega arith

  deg-dead : (k c : ℕ) → Deg 1 (λ s. c + when1 (L s) (6 * (6 * (6 * k))))
  unfolding Deg
  deg-dead k c u s = go (L (s ⊞ u)) (L s)
    where
      go : (a b : Bool) → (c + when1 a (6 * (6 * (6 * k))) + 7 * (c + when1 b (6 * (6 * (6 * k))))) % 8 ≡ 0
      go true true = omega arith
      go true false = omega arith
      go false true = omega arith
      go false false = omega arith

  pub deg-parity : (k : ℕ) → Deg 4 (λ s. when1 (L s) k)
  deg-parity k =
      deg-ext 4 (λ s. 0 + when1 (L s) k) (λ s. when1 (L s) k) (λ s. plus (when1 (L s) k))
      (deg-six 3 k (deg-six 2 (6 * k) (deg-six 1 (6 * (6 * k)) (deg-dead k))) 0)
    where
      plus : (a : ℕ) → (0 + a) % 8 ≡ a % 8
      plus a = omega arith

-- ---- gates

-- what a gate does to a difference of settings
unfoldable pub line : Op → Setting → Setting
line (flip q) u = u
line (phase k q) u = u
line (cnot c t) u = change t (u c) u
line (cz c t) u = u
line other u = u

pub moved-plus : (o : Op) (s u : Setting) → moved o (s ⊞ u) ≡ (moved o s ⊞ line o u)
unfolding moved line
moved-plus (flip q) s u = fun_ext (λ i. go (eqb i q) (s i) (u i))
  where
    go : (b x y : Bool) → cond b (x ⊕ y ⊕ true) (x ⊕ y) ≡ (cond b (x ⊕ true) x ⊕ y)
    go true x y = ⊕-assoc x y true ∙ ap (λ (z : Bool). x ⊕ z) (turn y) ∙ sym (⊕-assoc x true y)
      where
        turn : (y : Bool) → (y ⊕ true) ≡ (true ⊕ y)
        turn true = refl
        turn false = refl
    go false x y = refl
moved-plus (phase k q) s u = refl
moved-plus (cnot c t) s u = fun_ext (λ i. go (eqb i t) (s i) (u i))
  where
    go : (b x y : Bool) → cond b (x ⊕ y ⊕ (s c ⊕ u c)) (x ⊕ y) ≡ (cond b (x ⊕ s c) x ⊕ cond b (y ⊕ u c) y)
    go true x y = ⊕-mid x y (s c) (u c)
    go false x y = refl
moved-plus (cz c t) s u = refl
moved-plus other s u = refl

deg-added : (o : Op) → Deg 4 (added o)
unfolding added
deg-added (flip q) = deg-zero 4
deg-added (phase k q) = deg-parity (λ s. s q) (λ s u. refl) k
deg-added (cnot c t) = deg-zero 4
deg-added (cz c t) =
    deg-ext 4 (λ s. when1 (s c) 2 + when1 (s t) 2 + when1 (s c ⊕ s t) 6) (λ s. when1 (s c && s t) 4) (λ s. go (s c) (s t))
    (deg-plus 4 (λ s. when1 (s c) 2 + when1 (s t) 2) (λ s. when1 (s c ⊕ s t) 6)
    (deg-plus 4 (λ s. when1 (s c) 2) (λ s. when1 (s t) 2) (deg-parity (λ s. s c) (λ s u. refl) 2) (deg-parity (λ s. s t) (λ s u. refl) 2))
    (deg-parity (λ s. s c ⊕ s t) (λ s u. ⊕-mid (s c) (u c) (s t) (u t)) 6))
  where
    go : (a b : Bool) → (when1 a 2 + when1 b 2 + when1 (a ⊕ b) 6) % 8 ≡ when1 (a && b) 4 % 8
    go true true = refl
    go true false = refl
    go false true = refl
    go false false = refl
deg-added other = deg-zero 4

-- the phase of a run, modulo 8, has vanishing fourth differences
pub phases-deg : (os : List Op) → Deg 4 (phases os)
unfolding phases
phases-deg [] = deg-zero 4
phases-deg (o ∷ os) = deg-plus 4 (added o) (λ s. phases os (moved o s)) (deg-added o) (deg-after 4 (moved o) (line o) (phases os) (moved-plus o) (phases-deg os))

-- ---- d ones decide a function whose d + 1 differences vanish

-- P at s, and at s with at most d wires below m turned, in falling order
unfoldable pub Few : ℕ → ℕ → (Setting → Type 0) → Setting → Type 0
Few zero m P s = P s
Few (suc d) m P s = P s × ((i : ℕ) → i < m → Few d i P (turned i s))

few-here : (d m : ℕ) (P : Setting → Type 0) (s : Setting) → Few d m P s → P s
unfolding Few
few-here zero m P s h = h
few-here (suc d) m P s h = h.0

few-lower : (d m n : ℕ) (P : Setting → Type 0) (s : Setting) → m ≤ n → Few d n P s → Few d m P s
unfolding Few
few-lower zero m n P s l h = h
few-lower (suc d) m n P s l h = (h.0, λ i k. h.1 i (le_trans k l))

few-fewer : (d m : ℕ) (P : Setting → Type 0) (s : Setting) → Few (suc d) m P s → Few d m P s
unfolding Few
few-fewer zero m P s h = h.0
few-fewer (suc d) m P s h = (h.0, λ i k. few-fewer d i P (turned i s) (h.1 i k))

plus-swap : (s u v : Setting) → (s ⊞ u ⊞ v) ≡ (s ⊞ v ⊞ u)
plus-swap s u v = fun_ext (λ q. ⊕-assoc (s q) (u q) (v q) ∙ ap (λ (z : Bool). s q ⊕ z) (comm (u q) (v q)) ∙ sym (⊕-assoc (s q) (v q) (u q)))
  where
    comm : (a b : Bool) → (a ⊕ b) ≡ (b ⊕ a)
    comm true true = refl
    comm true false = refl
    comm false true = refl
    comm false false = refl

few-zip : (d m : ℕ) (P Q R : Setting → Type 0) (e : Setting) → ((s : Setting) → P (s ⊞ e) → Q s → R s)
    → (s : Setting) → Few d m P (s ⊞ e) → Few d m Q s → Few d m R s
unfolding Few
few-zip zero m P Q R e f s h k = f s h k
few-zip (suc d) m P Q R e f s h k = (
  f s h.0 k.0,
  λ i l. few-zip d i P Q R e f (turned i s) (subst (Few d i P) (plus-swap s e (unit i)) (h.1 i l)) (k.1 i l),
)

-- s on the wires below n, 0 elsewhere
abbrev pub cut : ℕ → Setting → Setting
cut n s q = ltb q n && s q

plus-zeros : (s : Setting) → (s ⊞ zeros) ≡ s
plus-zeros s = fun_ext (λ q. ⊕-false (s q))

pub cut-zero : (s : Setting) → cut zero s ≡ zeros
cut-zero s = fun_ext (λ q. rw (le-ltb q zero zero-le))

ltb-step : (q m : ℕ) → q ≢ m → ltb q (suc m) ≡ ltb q m
ltb-step q m h = split (ltb q m) (λ e. lt-ltb q (suc m) (omega (arith, ltb-true q m e)) ∙ sym e) (λ e. le-ltb q (suc m) (omega (arith, ltb-false q m e)) ∙ sym e)

pub cut-without : (m : ℕ) (s : Setting) → s m ≡ false → cut (suc m) s ≡ cut m s
cut-without m s e = fun_ext (λ q. same q m (λ h t. at q h) (λ h t. ap (λ (z : Bool). z && s q) (ltb-step q m h)))
  where
    none : (a b : Bool) → (a && false) ≡ (b && false)
    none true true = refl
    none true false = refl
    none false true = refl
    none false false = refl

    at : (q : ℕ) → q ≡ m → cut (suc m) s q ≡ cut m s q
    at q h = rw (h, e) (none (ltb m (suc m)) (ltb m m))

pub cut-with : (m : ℕ) (s : Setting) → s m ≡ true → cut (suc m) s ≡ (cut m s ⊞ unit m)
cut-with m s e = fun_ext (λ q. same q m (λ h t. at q h) (λ h t. ap (λ (z : Bool). z && s q) (ltb-step q m h) ∙ sym (ap (λ (z : Bool). cut m s q ⊕ z) t ∙ ⊕-false (cut m s q))))
  where
    at : (q : ℕ) → q ≡ m → cut (suc m) s q ≡ (cut m s q ⊕ eqb q m)
    at q h = rw (h, e, lt-ltb m (suc m) (le_refl (suc m)), le-ltb m m (le_refl m), eqb-self m)

cut-onto : (t : Setting) (m : ℕ) (s : Setting) → s m ≡ true → (t ⊞ cut (suc m) s) ≡ (t ⊞ cut m s ⊞ unit m)
cut-onto t m s e = ap (λ (z : Setting). t ⊞ z) (cut-with m s e) ∙ fun_ext (λ q. sym (⊕-assoc (t q) (cut m s q) (eqb q m)))

-- ---- the induction

drop-seven : (a b : ℕ) → (a + 7 * b) % 8 ≡ 0 → b % 8 ≡ 0 → a % 8 ≡ 0
drop-seven a b h k = back a ∙ ap (λ (x : ℕ). (a % 8 + 7 * x) % 8) (sym k) ∙ sym (reduce a b) ∙ h
  where
    back : (a : ℕ) → a % 8 ≡ (a % 8 + 7 * 0) % 8
    back a = omega arith

make-seven : (a b : ℕ) → a % 8 ≡ 0 → b % 8 ≡ 0 → (a + 7 * b) % 8 ≡ 0
make-seven a b h k = diff-ext a 0 b 0 h k

-- a function whose d + 1 differences vanish, and that vanishes where at most d of the first m wires are turned, vanishes on all of them
pub decide : (m d : ℕ) (f : Setting → ℕ) (t : Setting) → Deg (suc d) f → Few d m (λ s. f s % 8 ≡ 0) t → (s : Setting) → f (t ⊞ cut m s) % 8 ≡ 0
unfolding Deg Few
decide zero d f t h k s =
    ap (λ (z : Setting). f z % 8) (ap (λ (z : Setting). t ⊞ z) (cut-zero s) ∙ plus-zeros t) ∙ few-here d zero (λ s. f s % 8 ≡ 0) t k
decide (suc m) zero f t h k s =
    split (s m)
    (λ e. ap (λ (z : Setting). f z % 8) (cut-onto t m s e) ∙ drop-seven (f (t ⊞ cut m s ⊞ unit m)) (f (t ⊞ cut m s)) (h (unit m) (t ⊞ cut m s)) (decide m zero f t h k s))
    (λ e. ap (λ (z : Setting). f (t ⊞ z) % 8) (cut-without m s e) ∙ decide m zero f t h k s)
decide (suc m) (suc d) f t h k s =
    let low : f (t ⊞ cut m s) % 8 ≡ 0 = decide m (suc d) f t h (few-lower (suc d) m (suc m) (λ s. f s % 8 ≡ 0) t (le-suc m) k) s in
    let few : Few d m (λ s. diff (unit m) f s % 8 ≡ 0) t =
    few-zip d m (λ s. f s % 8 ≡ 0) (λ s. f s % 8 ≡ 0) (λ s. diff (unit m) f s % 8 ≡ 0) (unit m) (λ s. make-seven (f (s ⊞ unit m)) (f s)) t
    (k.1 m (le_refl (suc m))) (few-fewer d m (λ s. f s % 8 ≡ 0) t (few-lower (suc d) m (suc m) (λ s. f s % 8 ≡ 0) t (le-suc m) k)) in
    split (s m)
    (λ e. ap (λ (z : Setting). f z % 8) (cut-onto t m s e)
    ∙ drop-seven (f (t ⊞ cut m s ⊞ unit m)) (f (t ⊞ cut m s)) (decide m d (diff (unit m) f) t (h (unit m)) few s) low)
    (λ e. ap (λ (z : Setting). f (t ⊞ z) % 8) (cut-without m s e) ∙ low)
