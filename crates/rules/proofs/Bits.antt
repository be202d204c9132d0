-- Laws of bits, of sums of bits and of the parity of some values.
use mathlib.Core.Path.{◌≡◌, refl, sym, ap, ap₂, ◌∙◌, subst}
use mathlib.Core.Logic.{◌≢◌}
use mathlib.Core.Bool.{false≢true, Bool, true, false, ◌&&◌}
use Prim.Native.Nat.{ℕ, zero, suc, ◌-◌, ◌*◌, ◌/◌, ◌%◌, ◌^◌, ◌≤◌, ◌<◌, zero-le, suc-le-suc}
use native.Mathlib.Nat.{le_refl, le-suc, le_trans, le_of_suc-le-suc, not-suc-le-zero, zero-lt-suc, zero-div, div-one, pow-suc, mod-lt}
use native.Mathlib.Numerals.{one-add}
use native.Mathlib.Omega.{arith}
use lib.Arith.{lt-one}
use lib.Pow.{shr-shr, pow_pos}
use lib.Dec.{eqb, eqb-suc-suc}
use lib.Bits as Words
use borrow.Author.Tests.{eqb-true, eqb-false, eq-eqb, ne_eqb}
use Rattle.rules.specs.Bit.{◌⊕◌, is_set, bit, sum, dot, xor}

-- ---- sums of two bits

pub ⊕-false : (a : Bool) → (a ⊕ false) ≡ a
⊕-false true = refl
⊕-false false = refl

pub ⊕-self : (a : Bool) → (a ⊕ a) ≡ false
⊕-self true = refl
⊕-self false = refl

pub ⊕-assoc : (a b c : Bool) → (a ⊕ b ⊕ c) ≡ (a ⊕ (b ⊕ c))
⊕-assoc true true true = refl
⊕-assoc true true false = refl
⊕-assoc true false c = refl
⊕-assoc false b c = refl

pub ⊕-left : (a b c : Bool) → (a ⊕ (b ⊕ c)) ≡ (b ⊕ (a ⊕ c))
⊕-left true true c = refl
⊕-left true false c = refl
⊕-left false true c = refl
⊕-left false false c = refl

pub ⊕-mid : (a b c d : Bool) → (a ⊕ b ⊕ (c ⊕ d)) ≡ (a ⊕ c ⊕ (b ⊕ d))
⊕-mid a b c d = ⊕-assoc a b (c ⊕ d) ∙ ap (λ (z : Bool). a ⊕ z) (⊕-left b c d) ∙ sym (⊕-assoc a c (b ⊕ d))

pub and-⊕ : (a b c : Bool) → ((a ⊕ b) && c) ≡ ((a && c) ⊕ (b && c))
and-⊕ true true true = refl
and-⊕ true true false = refl
and-⊕ true false true = refl
and-⊕ true false false = refl
and-⊕ false b c = refl

-- ---- a test, with what it says: in each branch `rw` the test away

pub split {ℓ} : {P : Type ℓ} (b : Bool) → (b ≡ true → P) → (b ≡ false → P) → P
split true f g = f refl
split false f g = g refl

pub and_left : (a b : Bool) → (a && b) ≡ true → a ≡ true
and_left true b e = refl
and_left false b e = e

pub and_right : (a b : Bool) → (a && b) ≡ true → b ≡ true
and_right true b e = e
and_right false b e = absurd (false≢true e)

pub same {ℓ} : {P : Type ℓ} (i j : ℕ) → (i ≡ j → eqb i j ≡ true → P) → (i ≢ j → eqb i j ≡ false → P) → P
same i j f g = split (eqb i j) (λ e. f (eqb-true i j e) e) (λ e. g (eqb-false i j e) e)

pub eqb-self : (i : ℕ) → eqb i i ≡ true
eqb-self i = eq-eqb i i refl

pub eqb-sym : (i j : ℕ) → eqb i j ≡ eqb j i
eqb-sym i j = same i j (λ h e. e ∙ sym (eq-eqb j i (sym h))) (λ h e. e ∙ sym (ne_eqb j i (λ k. h (sym k))))

-- ---- bits

xor_low : (a b : ℕ) → a < 2 → b < 2 → is_set (xor a b) ≡ (is_set a ⊕ is_set b)
unfolding xor
xor_low zero b ha hb = refl
xor_low (suc zero) zero ha hb = refl
xor_low (suc zero) (suc zero) ha hb = refl
xor_low (suc zero) (suc (suc b)) ha hb = absurd (not-suc-le-zero (le_of_suc-le-suc (le_of_suc-le-suc hb)))
xor_low (suc (suc a)) b ha hb = absurd (not-suc-le-zero (le_of_suc-le-suc (le_of_suc-le-suc ha)))

pub bit_xor : (p q i : ℕ) → bit (xor p q) i ≡ (bit p i ⊕ bit q i)
unfolding bit xor
bit_xor p q i =
    ap (λ (z : ℕ). is_set (z % 2)) (Words.xor_shr p q i) ∙ ap is_set (Words.xor_mod (p / 2 ^ i) (q / 2 ^ i) 1)
    ∙ xor_low (p / 2 ^ i % 2) (q / 2 ^ i % 2) (mod-lt (p / 2 ^ i) (zero-lt-suc 1)) (mod-lt (q / 2 ^ i) (zero-lt-suc 1))

pub xor_lt : (n p q : ℕ) → p < 2 ^ n → q < 2 ^ n → xor p q < 2 ^ n
unfolding xor
xor_lt = Words.xor_lt

pub bit-zero : (i : ℕ) → bit zero i ≡ false
unfolding bit
bit-zero i = ap (λ (z : ℕ). is_set (z % 2)) (zero-div (2 ^ i))

-- the digits above the lowest
pub bit-suc : (p i : ℕ) → bit p (suc i) ≡ bit (p / 2) i
unfolding bit
bit-suc p i = ap (λ (z : ℕ). is_set (z % 2)) (ap (λ (z : ℕ). p / 2 ^ z) (sym (one-add i)) ∙ sym (shr-shr p 1 i))

pub bit-unit : (i j : ℕ) → bit (2 ^ i) j ≡ eqb j i
unfolding bit
bit-unit zero zero = refl
bit-unit zero (suc j) = bit-suc 1 j ∙ bit-zero j ∙ sym (ne_eqb (suc j) zero (λ e. omega arith))
bit-unit (suc i) zero =
    ap (λ (z : ℕ). is_set (z / 1 % 2)) (pow-suc 2 i) ∙ ap is_set even ∙ sym (ne_eqb zero (suc i) (λ e. omega arith))
  where
    even : 2 ^ i * 2 / 1 % 2 ≡ 0
    even = omega arith
bit-unit (suc i) (suc j) =
    bit-suc (2 ^ suc i) j ∙ ap (λ (z : ℕ). bit z j) half ∙ bit-unit i j ∙ sym (eqb-suc-suc j i)
  where
    half : 2 ^ suc i / 2 ≡ 2 ^ i
    half = omega arith

pub bit-ones : (n i : ℕ) → i < n → bit (2 ^ n - 1) i ≡ true
unfolding bit
bit-ones zero i h = absurd (not-suc-le-zero h)
bit-ones (suc n) zero h = ap is_set odd
  where
    odd : (2 ^ suc n - 1) / 1 % 2 ≡ 1
    odd = omega (arith, pow_pos n)
bit-ones (suc n) (suc i) h = bit-suc (2 ^ suc n - 1) i ∙ ap (λ (z : ℕ). bit z i) half ∙ bit-ones n i (le_of_suc-le-suc h)
  where
    half : (2 ^ suc n - 1) / 2 ≡ 2 ^ n - 1
    half = omega (arith, pow_pos n)

set-low : (m : ℕ) → m < 2 → is_set m ≡ false → m ≡ 0
set-low zero h e = refl
set-low (suc m) h e = absurd (lib.Dec.T_not true (subst (λ (b : Bool). lib.Dec.T b) e tt) tt)

-- a number of n digits, none of which is set
pub none-set : (n p : ℕ) → p < 2 ^ n → ((i : ℕ) → i < n → bit p i ≡ false) → p ≡ zero
unfolding bit
none-set zero p h f = lt-one h
none-set (suc n) p h f =
    let low : p % 2 ≡ 0 = set-low (p % 2) (mod-lt p (zero-lt-suc 1)) (ap (λ (z : ℕ). is_set (z % 2)) (sym one) ∙ f zero (zero-lt-suc n)) in
    let high : p / 2 ≡ 0 = none-set n (p / 2) small (λ i k. sym (bit-suc p i) ∙ f (suc i) (suc-le-suc k)) in
    omega arith
  where
    one : p / 1 ≡ p
    one = omega arith

    small : p / 2 < 2 ^ n
    small = omega arith

low-le : (d e : ℕ) → d < 2 → (is_set d ≡ true → is_set e ≡ true) → d ≤ e
low-le zero e h f = zero-le
low-le (suc d) zero h f = absurd (false≢true (f refl))
low-le (suc d) (suc e) h f = omega arith

-- a number whose digits are all set in another one is at most that
pub bits-le : (n p q : ℕ) → p < 2 ^ n → ((i : ℕ) → i < n → bit p i ≡ true → bit q i ≡ true) → p ≤ q
unfolding bit
bits-le zero p q h f = rw (lt-one h) zero-le
bits-le (suc n) p q h f =
    let low : p % 2 ≤ q % 2 = low-le (p % 2) (q % 2) (mod-lt p (zero-lt-suc 1)) (λ e. one q (f zero (zero-lt-suc n) (one' p e))) in
    let high : p / 2 ≤ q / 2 = bits-le n (p / 2) (q / 2) small (λ i k e. sym (bit-suc q i) ∙ f (suc i) (suc-le-suc k) (bit-suc p i ∙ e)) in
    omega arith
  where
    one : (m : ℕ) → is_set (m / 1 % 2) ≡ true → is_set (m % 2) ≡ true
    one m e = ap (λ (z : ℕ). is_set (z % 2)) (sym (div-one m)) ∙ e

    one' : (m : ℕ) → is_set (m % 2) ≡ true → is_set (m / 1 % 2) ≡ true
    one' m e = ap (λ (z : ℕ). is_set (z % 2)) (div-one m) ∙ e

    small : p / 2 < 2 ^ n
    small = omega arith

-- ---- sums

pub sum-ext : (n : ℕ) (f g : ℕ → Bool) → ((i : ℕ) → i < n → f i ≡ g i) → sum n f ≡ sum n g
unfolding sum
sum-ext zero f g h = refl
sum-ext (suc n) f g h = ap₂ ◌⊕◌ (h n (le_refl (suc n))) (sum-ext n f g (λ i k. h i (le_trans k (le-suc n))))

pub sum-⊕ : (n : ℕ) (f g : ℕ → Bool) → sum n (λ i. f i ⊕ g i) ≡ (sum n f ⊕ sum n g)
unfolding sum
sum-⊕ zero f g = refl
sum-⊕ (suc n) f g = ap (λ (z : Bool). f n ⊕ g n ⊕ z) (sum-⊕ n f g) ∙ ⊕-mid (f n) (g n) (sum n f) (sum n g)

pub sum-false : (n : ℕ) (f : ℕ → Bool) → ((i : ℕ) → i < n → f i ≡ false) → sum n f ≡ false
unfolding sum
sum-false zero f h = refl
sum-false (suc n) f h = ap₂ ◌⊕◌ (h n (le_refl (suc n))) (sum-false n f (λ i k. h i (le_trans k (le-suc n))))

-- the one that c picks
pub sum-at : (n c : ℕ) (f : ℕ → Bool) → c < n → sum n (λ i. eqb i c && f i) ≡ f c
unfolding sum
sum-at zero c f h = absurd (not-suc-le-zero h)
sum-at (suc n) c f h =
    same n c
    (λ e t. ap₂ (λ (a b : Bool). (a && f n) ⊕ b) t (sum-false n (λ i. eqb i c && f i) (λ i k. ap (λ (z : Bool). z && f i) (ne_eqb i c (λ q. omega arith))))
    ∙ ⊕-false (f n) ∙ ap f e)
    (λ e t. ap (λ (a : Bool). (a && f n) ⊕ sum n (λ i. eqb i c && f i)) t ∙ sum-at n c f (omega arith))

-- ---- the parity of some values is linear

pub dot-xor : (n p q : ℕ) (x : ℕ → Bool) → dot n (xor p q) x ≡ (dot n p x ⊕ dot n q x)
unfolding dot
dot-xor n p q x =
    sum-ext n (λ i. bit (xor p q) i && x i) (λ i. (bit p i && x i) ⊕ (bit q i && x i))
    (λ i k. ap (λ (z : Bool). z && x i) (bit_xor p q i) ∙ and-⊕ (bit p i) (bit q i) (x i))
    ∙ sum-⊕ n (λ i. bit p i && x i) (λ i. bit q i && x i)

pub dot-unit : (n i : ℕ) (x : ℕ → Bool) → i < n → dot n (2 ^ i) x ≡ x i
unfolding dot
dot-unit n i x h = sum-ext n (λ j. bit (2 ^ i) j && x j) (λ j. eqb j i && x j) (λ j k. ap (λ (z : Bool). z && x j) (bit-unit i j)) ∙ sum-at n i x h

pub dot-zero : (n : ℕ) (x : ℕ → Bool) → dot n zero x ≡ false
unfolding dot
dot-zero n x = sum-false n (λ i. bit zero i && x i) (λ i k. ap (λ (z : Bool). z && x i) (bit-zero i))
