-- Laws of columns, over any number of them, beside those of `Rattle.rules.proofs.Bits`: what callers of the crate cite.
use mathlib.Core.Path.{◌≡◌, refl, sym, ap, ap₂, ◌∙◌, subst}
use mathlib.Core.Bool.{Bool, true, false, not, ◌&&◌, ◌||◌, true≢false}
use Prim.Native.Nat.{ℕ, zero, suc, ◌+◌, ◌-◌, ◌*◌, ◌/◌, ◌%◌, ◌^◌, ◌≤◌, ◌<◌, min}
use native.Mathlib.Nat.{div-one, div-eq_of_lt, mod-lt, pow-suc, le_of_suc-le-suc, zero-lt-suc, lt_of_lt_of_le}
use native.Mathlib.Omega.{arith}
use borrow.Author.Tests.{eqb-true}
use lib.Dec.{eqb}
use lib.Arith.{lt-one, digits_lt, digits_div}
use lib.Pow.{pow_mono, pow-add, high, low}
use lib.Bits as Digits
use lib.Bits.{bit_and, bit_or, differ}
use lib.Count.{count_trailing_zeros, count_leading_zeros, leading_top, under}
use Rattle.rules.specs.Bit.{◌⊕◌, is_set, bit, xor}
use Rattle.rules.proofs.Bits.{⊕-assoc, bit-suc, bit_xor, bit-unit, xor_lt}
use Rattle.parity.specs.declared.Parity.{Parity}
use Rattle.parity.specs.View.{val}
use Rattle.parity.specs.Columns.{clear_lowest, Lowest, Highest}

-- ---- a column

pub bit-low : (n : ℕ) → bit n 0 ≡ is_set (n % 2)
unfolding bit
bit-low n = ap (λ (x : ℕ). is_set (x % 2)) (div-one n)

-- no column at k or above
pub bit_high : (n k i : ℕ) → n < 2 ^ k → k ≤ i → bit n i ≡ false
unfolding bit
bit_high n k i h l = ap (λ (x : ℕ). is_set (x % 2)) (div-eq_of_lt (lt_of_lt_of_le h (pow_mono l)))

pub half_lt : {n : ℕ} (k : ℕ) → n < 2 ^ suc k → n / 2 < 2 ^ k
half_lt {n} k h = let e = pow-suc 2 k in omega arith

set_same : (d e : ℕ) → d < 2 → e < 2 → is_set d ≡ is_set e → d ≡ e
set_same zero zero hd he t = refl
set_same zero (suc e) hd he t = absurd (true≢false (sym t))
set_same (suc d) zero hd he t = absurd (true≢false t)
set_same (suc d) (suc e) hd he t = omega arith

-- two numbers of k columns that agree on each are equal
pub bit-ext : (k a b : ℕ) → a < 2 ^ k → b < 2 ^ k → ((i : ℕ) → i < k → bit a i ≡ bit b i) → a ≡ b
bit-ext zero a b ha hb f = lt-one ha ∙ sym (lt-one hb)
bit-ext (suc k) a b ha hb f =
    let low : a % 2 ≡ b % 2 = set_same (a % 2) (b % 2) (mod-lt a (zero-lt-suc 1)) (mod-lt b (zero-lt-suc 1)) (sym (bit-low a) ∙ f 0 (zero-lt-suc k) ∙ bit-low b) in
    let high : a / 2 ≡ b / 2 = bit-ext k (a / 2) (b / 2) (half_lt k ha) (half_lt k hb) (λ i h. sym (bit-suc a i) ∙ f (suc i) (omega arith) ∙ bit-suc b i) in
    omega arith

-- ---- two parities together

pub xor_comm : (a b : ℕ) → xor a b ≡ xor b a
unfolding xor
xor_comm a b = Digits.xor_comm a b

pub xor_self : (a : ℕ) → xor a a ≡ 0
unfolding xor
xor_self a = Digits.xor_self a

pub xor_zero_l : (a : ℕ) → xor 0 a ≡ a
unfolding xor
xor_zero_l a = refl

pub xor_zero_r : (a : ℕ) → xor a 0 ≡ a
unfolding xor
xor_zero_r a = Digits.xor_zero_r a

lt-pow : (n : ℕ) → n < 2 ^ n
lt-pow zero = zero-lt-suc 0
lt-pow (suc n) = let e = pow-suc 2 n in let h = lt-pow n in omega arith

pub xor_assoc : (a b c : ℕ) → xor (xor a b) c ≡ xor a (xor b c)
xor_assoc a b c =
    let k = a + (b + c) in
    let up : (x : ℕ) → x ≤ k → x < 2 ^ k = λ x h. lt_of_lt_of_le (lt-pow x) (pow_mono h) in
    let ha = up a (omega arith) in
    let hb = up b (omega arith) in
    let hc = up c (omega arith) in
    bit-ext k _ _ (xor_lt k _ _ (xor_lt k a b ha hb) hc) (xor_lt k _ _ ha (xor_lt k b c hb hc))
    (λ i h. rw (bit_xor (xor a b) c i, bit_xor a b i, bit_xor a (xor b c) i, bit_xor b c i) (⊕-assoc (bit a i) (bit b i) (bit c i)))

low_and : (a b : ℕ) → a < 2 → b < 2 → is_set (bit_and a b) ≡ (is_set a && is_set b)
low_and zero b ha hb = refl
low_and (suc zero) zero ha hb = refl
low_and (suc zero) (suc zero) ha hb = refl
low_and (suc zero) (suc (suc b)) ha hb = absurd (omega arith)
low_and (suc (suc a)) b ha hb = absurd (omega arith)

pub bit-and : (a b i : ℕ) → bit (bit_and a b) i ≡ (bit a i && bit b i)
unfolding bit
bit-and a b i =
    ap (λ (z : ℕ). is_set (z % 2)) (Digits.and_shr a b i) ∙ ap is_set (Digits.and_mod (a / 2 ^ i) (b / 2 ^ i) 1)
    ∙ low_and (a / 2 ^ i % 2) (b / 2 ^ i % 2) (mod-lt (a / 2 ^ i) (zero-lt-suc 1)) (mod-lt (b / 2 ^ i) (zero-lt-suc 1))

low_or : (a b : ℕ) → a < 2 → b < 2 → is_set (bit_or a b) ≡ (is_set a || is_set b)
low_or zero b ha hb = refl
low_or (suc zero) zero ha hb = refl
low_or (suc zero) (suc zero) ha hb = refl
low_or (suc zero) (suc (suc b)) ha hb = absurd (omega arith)
low_or (suc (suc a)) b ha hb = absurd (omega arith)

pub bit-or : (a b i : ℕ) → bit (bit_or a b) i ≡ (bit a i || bit b i)
unfolding bit
bit-or a b i =
    ap (λ (z : ℕ). is_set (z % 2)) (Digits.or_shr a b i) ∙ ap is_set (Digits.or_mod (a / 2 ^ i) (b / 2 ^ i) 1)
    ∙ low_or (a / 2 ^ i % 2) (b / 2 ^ i % 2) (mod-lt (a / 2 ^ i) (zero-lt-suc 1)) (mod-lt (b / 2 ^ i) (zero-lt-suc 1))

-- ---- the lowest column

pub lowest : (k n : ℕ) → 0 < n → n < 2 ^ k → (count_trailing_zeros k n < k) × Lowest n (count_trailing_zeros k n)
unfolding count_trailing_zeros
lowest zero n p h = absurd (omega arith)
lowest (suc k) n p h = go (n % 2) refl (λ q. lowest k (n / 2) q (half_lt k h))
  where
    low : (t : ℕ) → n % 2 ≡ 0 → Lowest (n / 2) t → (j : ℕ) → j < suc t → bit n j ≡ false
    low t e r zero l = bit-low n ∙ ap is_set e
    low t e r (suc j) l = bit-suc n j ∙ r.below j (le_of_suc-le-suc l)

    go : (d : ℕ) → n % 2 ≡ d → (0 < n / 2 → (count_trailing_zeros k (n / 2) < k) × Lowest (n / 2) (count_trailing_zeros k (n / 2))) → (under d (count_trailing_zeros k (n / 2)) < suc k) × Lowest n (under d (count_trailing_zeros k (n / 2)))
    go zero e ih =
        let r = ih (omega arith) in
        (omega (arith, r.0), record { set = bit-suc n _ ∙ r.1.set; below = low (count_trailing_zeros k (n / 2)) e r.1 })
    go (suc d) e ih = (zero-lt-suc k, record { set = bit-low n ∙ ap is_set e; below = λ j l. absurd (omega arith) })

clear-even : (n : ℕ) → n % 2 ≡ 0 → clear_lowest n ≡ clear_lowest (n / 2) * 2
unfolding clear_lowest
clear-even n e =
    let h : (n - 1) / 2 ≡ n / 2 - 1 = omega arith in
    let z : min (n % 2) ((n - 1) % 2) ≡ 0 = omega arith in
    Digits.and_step n (n - 1) ∙ ap₂ (λ (x y : ℕ). bit_and (n / 2) x * 2 + y) h z ∙ omega arith

clear-odd : (n : ℕ) → n % 2 ≡ 1 → clear_lowest n ≡ n / 2 * 2
unfolding clear_lowest
clear-odd n e =
    let h : (n - 1) / 2 ≡ n / 2 = omega arith in
    let z : min (n % 2) ((n - 1) % 2) ≡ 0 = omega arith in
    Digits.and_step n (n - 1) ∙ ap₂ (λ (x y : ℕ). bit_and (n / 2) x * 2 + y) h z ∙ ap (λ (x : ℕ). x * 2 + 0) (Digits.and_self (n / 2)) ∙ omega arith

xor-halves : (a b h d e : ℕ) → b / 2 ≡ h → a % 2 ≡ d → b % 2 ≡ e → xor a b ≡ xor (a / 2) h * 2 + differ d e
unfolding xor
xor-halves a b h d e p q r = Digits.xor_step a b ∙ rw (p, q, r)

-- the lowest column is what  n & (n - 1)  takes out
pub clear_at : (n t : ℕ) → Lowest n t → clear_lowest n ≡ xor n (2 ^ t)
clear_at n zero p =
    let odd : n % 2 ≡ 1 = set_same (n % 2) 1 (mod-lt n (zero-lt-suc 1)) (omega arith) (sym (bit-low n) ∙ p.set) in
    let e : xor n 1 ≡ xor (n / 2) 0 * 2 + 0 = xor-halves n 1 0 1 1 refl odd refl in
    clear-odd n odd ∙ sym (e ∙ ap (λ (x : ℕ). x * 2 + 0) (xor_zero_r (n / 2)) ∙ omega arith)
clear_at n (suc t) p =
    let even : n % 2 ≡ 0 = set_same (n % 2) 0 (mod-lt n (zero-lt-suc 1)) (zero-lt-suc 1) (sym (bit-low n) ∙ p.below 0 (zero-lt-suc t)) in
    let half : 2 ^ suc t / 2 ≡ 2 ^ t = omega (arith, pow-suc 2 t) in
    let none : 2 ^ suc t % 2 ≡ 0 = omega (arith, pow-suc 2 t) in
    let e : xor n (2 ^ suc t) ≡ xor (n / 2) (2 ^ t) * 2 + 0 = xor-halves n (2 ^ suc t) (2 ^ t) 0 0 half even none in
    let r : Lowest (n / 2) t = record { set = sym (bit-suc n t) ∙ p.set; below = λ j l. sym (bit-suc n j) ∙ p.below (suc j) (omega arith) } in
    clear-even n even ∙ ap (λ (x : ℕ). x * 2) (clear_at (n / 2) t r) ∙ sym (e ∙ omega arith)

out : (b c : Bool) → (c ≡ true → b ≡ true) → (b ⊕ c) ≡ (b && not c)
out true c h = refl
out false true h = sym (h refl)
out false false h = refl

-- so every other column stays
pub bit-clear : (n t j : ℕ) → Lowest n t → bit (clear_lowest n) j ≡ (bit n j && not (eqb j t))
bit-clear n t j p =
    rw (clear_at n t p, bit_xor n (2 ^ t) j, bit-unit t j)
    (out (bit n j) (eqb j t) (λ e. ap (bit n) (eqb-true j t e) ∙ p.set))

-- a scan that takes the lowest column out ends
pub clear-lt : (n : ℕ) → 0 < n → clear_lowest n < n
unfolding clear_lowest
clear-lt n p = omega (arith, Digits.and_le_r n (n - 1))

pub clear-le : (n : ℕ) → clear_lowest n ≤ n
unfolding clear_lowest
clear-le n = Digits.and_le_l n (n - 1)

-- ---- the highest column

pub highest-at : (n t : ℕ) → 2 ^ t ≤ n → n < 2 ^ suc t → Highest n t
unfolding bit
highest-at n t l h =
    let e : n ≡ 1 * 2 ^ t + (n - 2 ^ t) = omega arith in
    let r : n - 2 ^ t < 2 ^ t = omega (arith, pow-suc 2 t) in
    record { set = ap (λ (x : ℕ). is_set (x % 2)) (ap (λ (x : ℕ). x / 2 ^ t) e ∙ digits_div 1 r); above = λ j g. bit_high n (suc t) j h g }

pub highest : (k n : ℕ) → 0 < n → n < 2 ^ k → Highest n (k - 1 - count_leading_zeros k n)
highest k n p h =
    let s = leading_top k n p h in
    let e : s.0 ≡ k - 1 - count_leading_zeros k n = omega (arith, s.1) in
    subst (Highest n) e (highest-at n s.0 s.2 s.3)

-- ---- a parity's two words, over any width k of the low one and j of the high one

-- they make a number of j + k digits
pub words-lt : (j k hi lo : ℕ) → hi < 2 ^ j → lo < 2 ^ k → hi * 2 ^ k + lo < 2 ^ (j + k)
words-lt j k hi lo h l = subst (λ (x : ℕ). hi * 2 ^ k + lo < x) (sym (pow-add 2 j k)) (digits_lt h l)

-- equal numbers have equal words
pub words-eq : (k a b c d : ℕ) → b < 2 ^ k → d < 2 ^ k → a * 2 ^ k + b ≡ c * 2 ^ k + d → (a ≡ c) × (b ≡ d)
words-eq k a b c d hb hd e =
    (sym (high a k hb) ∙ ap (λ (x : ℕ). x / 2 ^ k) e ∙ high c k hd, sym (low a k hb) ∙ ap (λ (x : ℕ). x % 2 ^ k) e ∙ low c k hd)

pub val-lt : (p : Parity) → p.hi < 2 ^ 64 → p.lo < 2 ^ 64 → val p < 2 ^ 128
val-lt p h l = words-lt 64 64 p.hi p.lo h l
