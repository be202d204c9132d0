-- What a waiting parity stands for: the sum of the wires that its mask and its bits select.
use mathlib.Core.Path.{◌≡◌, refl, sym, ap, ap₂, ◌∙◌}
use mathlib.Core.Logic.{◌≢◌}
use mathlib.Core.Bool.{Bool, true, false, not, ◌&&◌, ◌||◌, and-false}
use Prim.Native.Nat.{ℕ, zero, ◌^◌, ◌<◌}
use lib.Dec.{eqb}
use borrow.Author.Tests.{ne_eqb}
use Rattle.rules.specs.Bit.{◌⊕◌, bit, sum, xor}
use Rattle.rules.specs.Meaning.{change}
use Rattle.rules.specs.Walk.{Aim, free, on, owes, crossed}
use Rattle.rules.proofs.Bits.{split, same, eqb-self, bit_xor, bit-unit, bit-zero, sum-ext, sum-⊕, sum-at, sum-false, ⊕-false, ⊕-self}

-- over n wires with the values w: the mask m, the parity v
unfoldable pub val : ℕ → (ℕ → Bool) → ℕ → (ℕ → Bool) → Bool
unfolding sum bit
val n m v w = sum n (λ i. m i && (bit v i && w i))

-- a candidate taken away
pub bit-rest : (cs c i : ℕ) → bit (xor cs (2 ^ c)) i ≡ (bit cs i ⊕ eqb i c)
bit-rest cs c i = bit_xor cs (2 ^ c) i ∙ ap (λ (z : Bool). bit cs i ⊕ z) (bit-unit c i)

pub bit-crossed : (p t v i : ℕ) → bit (crossed p t v) i ≡ (bit v i ⊕ (eqb i p && bit v t))
unfolding crossed
bit-crossed p t v i =
    split (bit v t)
    (λ e. rw e (bit-rest v p i ∙ ap (λ (z : Bool). bit v i ⊕ z) (sym (mathlib.Core.Bool.and-true (eqb i p)))))
    (λ e. rw e (sym (ap (λ (z : Bool). bit v i ⊕ z) (and-false (eqb i p)) ∙ ⊕-false (bit v i))))

-- f, with something added at a and at b
sum-two : (n a b : ℕ) (f g : ℕ → Bool) (y : Bool) → a < n → b < n
    → ((i : ℕ) → i < n → g i ≡ (f i ⊕ ((eqb i a && y) ⊕ (eqb i b && y)))) → sum n g ≡ sum n f
sum-two n a b f g y ha hb h =
    sum-ext n g (λ i. f i ⊕ ((eqb i a && y) ⊕ (eqb i b && y))) h
    ∙ sum-⊕ n f (λ i. (eqb i a && y) ⊕ (eqb i b && y))
    ∙ ap (λ (z : Bool). sum n f ⊕ z)
    (sum-⊕ n (λ i. eqb i a && y) (λ i. eqb i b && y) ∙ ap₂ ◌⊕◌ (sum-at n a (λ _. y) ha) (sum-at n b (λ _. y) hb) ∙ ⊕-self y)
    ∙ ⊕-false (sum n f)

-- a CNOT from p to t leaves alone what a crossed parity stands for
pub val-cross : (n : ℕ) (m : ℕ → Bool) (p t v : ℕ) (w : ℕ → Bool) → p < n → t < n → p ≢ t → m p ≡ true → m t ≡ true
    → val n m (crossed p t v) (change t (w p) w) ≡ val n m v w
unfolding val
val-cross n m p t v w hp ht ne mp mt =
    sum-two n t p (λ i. m i && (bit v i && w i)) (λ i. m i && (bit (crossed p t v) i && change t (w p) w i)) (bit v t && w p) ht hp
    (λ i k. ap (λ (z : Bool). m i && (z && change t (w p) w i)) (bit-crossed p t v i) ∙ at i)
  where
    first : (a b c : Bool) → (true && (a && (b ⊕ c))) ≡ ((true && (a && b)) ⊕ ((true && (a && c)) ⊕ (false && (a && c))))
    first true true true = refl
    first true true false = refl
    first true false true = refl
    first true false false = refl
    first false b c = refl

    second : (a b c : Bool) → (true && ((a ⊕ (true && b)) && c)) ≡ ((true && (a && c)) ⊕ ((false && (b && c)) ⊕ (true && (b && c))))
    second true true true = refl
    second true true false = refl
    second true false true = refl
    second true false false = refl
    second false true true = refl
    second false true false = refl
    second false false c = refl

    at : (i : ℕ) → (m i && ((bit v i ⊕ (eqb i p && bit v t)) && change t (w p) w i))
        ≡ ((m i && (bit v i && w i)) ⊕ ((eqb i t && (bit v t && w p)) ⊕ (eqb i p && (bit v t && w p))))
    at i =
        same i t
        (λ e f. rw (e, eqb-self t, mt, ne_eqb t p (λ k. ne (sym k))) (ap (λ (z : Bool). z && (w t ⊕ w p)) (⊕-false (bit v t)) ∙ first (bit v t) (w t) (w p)))
        (λ e f. same i p
        (λ e' f'. rw (f, e', eqb-self p, mp) (second (bit v p) (bit v t) (w p)))
        (λ e' f'. rw (f, f') (ap (λ (z : Bool). m i && (z && w i)) (⊕-false (bit v i)) ∙ sym (⊕-false (m i && (bit v i && w i))))))

-- ---- the mask of a node: its candidates, its target and what it owes

abbrev pub mask : ℕ → Aim → ℕ → Bool
mask cs free i = bit cs i
mask cs (on t) i = eqb i t || bit cs i
mask cs (owes p t) i = eqb i t || (eqb i p || bit cs i)

pub val-ext : (n : ℕ) (m m' : ℕ → Bool) (v : ℕ) (w : ℕ → Bool) → ((i : ℕ) → (m i && bit v i) ≡ (m' i && bit v i)) → val n m v w ≡ val n m' v w
unfolding val
val-ext n m m' v w h =
    sum-ext n (λ i. m i && (bit v i && w i)) (λ i. m' i && (bit v i && w i)) (λ i k. assoc (m i) (bit v i) (w i) ∙ ap (λ (z : Bool). z && w i) (h i) ∙ sym (assoc (m' i) (bit v i) (w i)))
  where
    assoc : (a b c : Bool) → (a && (b && c)) ≡ (a && b && c)
    assoc true b c = refl
    assoc false b c = refl

-- the side without c: c's bit is not set
pub val-without : (n cs c : ℕ) (a : Aim) (v : ℕ) (w : ℕ → Bool) → bit v c ≡ false → val n (mask cs a) v w ≡ val n (mask (xor cs (2 ^ c)) a) v w
val-without n cs c a v w h = val-ext n (mask cs a) (mask (xor cs (2 ^ c)) a) v w (λ i. go a i)
  where
    off : (i : ℕ) (b : Bool → Bool) → (b (bit cs i) && bit v i) ≡ (b (bit (xor cs (2 ^ c)) i) && bit v i)
    off i b =
        same i c
        (λ e f. rw (e, h) (and-false (b (bit cs c)) ∙ sym (and-false (b (bit (xor cs (2 ^ c)) c)))))
        (λ e f. ap (λ (z : Bool). b z && bit v i) (sym (bit-rest cs c i ∙ ap (λ (z : Bool). bit cs i ⊕ z) f ∙ ⊕-false (bit cs i))))

    go : (a : Aim) (i : ℕ) → (mask cs a i && bit v i) ≡ (mask (xor cs (2 ^ c)) a i && bit v i)
    go free i = off i (λ z. z)
    go (on t) i = off i (λ z. eqb i t || z)
    go (owes p t) i = off i (λ z. eqb i t || (eqb i p || z))

-- the side with c: the mask is the same
pub with-c : (cs c i : ℕ) → bit cs c ≡ true → (eqb i c || bit (xor cs (2 ^ c)) i) ≡ bit cs i
with-c cs c i h =
    same i c
    (λ e f. rw (e, eqb-self c) (sym h))
    (λ e f. rw f (bit-rest cs c i ∙ ap (λ (z : Bool). bit cs i ⊕ z) f ∙ ⊕-false (bit cs i)))

-- a CNOT is owed, and paid
pub val-paid : (n cs p t v : ℕ) (w : ℕ → Bool) → p < n → t < n → p ≢ t → bit cs p ≡ false → bit v p ≡ true → bit v t ≡ true
    → val n (mask cs (on t)) v (change t (w p) w) ≡ val n (mask cs (owes p t)) v w
unfolding val
val-paid n cs p t v w hp ht ne cp vp vt =
    sum-two n t p (λ i. mask cs (owes p t) i && (bit v i && w i)) (λ i. mask cs (on t) i && (bit v i && change t (w p) w i)) (w p) ht hp (λ i k. at i)
  where
    first : (b c : Bool) → (b ⊕ c) ≡ (b ⊕ (c ⊕ false))
    first b c = ap (λ (z : Bool). b ⊕ z) (sym (⊕-false c))

    at : (i : ℕ) → (mask cs (on t) i && (bit v i && change t (w p) w i)) ≡ ((mask cs (owes p t) i && (bit v i && w i)) ⊕ ((eqb i t && w p) ⊕ (eqb i p && w p)))
    at i =
        same i t
        (λ e f. rw (e, eqb-self t, ne_eqb t p (λ k. ne (sym k)), vt) (first (w t) (w p)))
        (λ e f. same i p
        (λ e' f'. rw (f, e', eqb-self p, cp, vp) (sym (⊕-self (w p))))
        (λ e' f'. rw (f, f') (sym (⊕-false (bit cs i && (bit v i && w i))))))

-- no candidates: only the target is left
pub val-leaf : (n t v : ℕ) (w : ℕ → Bool) → t < n → bit v t ≡ true → val n (mask zero (on t)) v w ≡ w t
unfolding val
val-leaf n t v w h e =
    sum-ext n (λ i. mask zero (on t) i && (bit v i && w i)) (λ i. eqb i t && (bit v i && w i))
    (λ i k. ap (λ (z : Bool). (eqb i t || z) && (bit v i && w i)) (bit-zero i) ∙ ap (λ (z : Bool). z && (bit v i && w i)) (mathlib.Core.Bool.or-false (eqb i t)))
    ∙ sum-at n t (λ i. bit v i && w i) h ∙ ap (λ (z : Bool). z && w t) e

pub val-none : (n v : ℕ) (w : ℕ → Bool) → val n (mask zero free) v w ≡ false
unfolding val
val-none n v w = sum-false n (λ i. bit zero i && (bit v i && w i)) (λ i k. ap (λ (z : Bool). z && (bit v i && w i)) (bit-zero i))
