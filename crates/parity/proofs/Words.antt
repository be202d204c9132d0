-- Two words as one number, over any width k of the low word and j of the high one.
use mathlib.Core.Path.{◌≡◌, refl, sym, ap, ap₂, ◌∙◌}
use mathlib.Core.Logic.{◌≢◌}
use mathlib.Core.Bool.{cond}
use Prim.Native.Nat.{ℕ, zero, suc, ◌+◌, ◌-◌, ◌*◌, ◌/◌, ◌%◌, ◌^◌, ◌≤◌, ◌<◌}
use native.Mathlib.Nat.{le_of_suc-le-suc, add-suc, add-zero, mul-one, suc-add, zero-add, not-suc-le-zero, one-mul, zero-mul, mod-eq_of_lt, mul-le-mul_right, pow-suc}
use native.Mathlib.Omega.{arith}
use borrow.Author.Tests.{eqb-true, eqb-false}
use lib.Arith.{mul_pred}
use lib.Bits.{bit_and, and_block, and_self, block_half, block_odd, shifted_half, shifted_even}
use lib.Count.{count_trailing_zeros, count_leading_zeros, leading_top, leading_length, leading_unique, under}
use lib.Dec.{eqb}
use lib.Pow.{high, shr-shr, pow_pos, pow-add, pow-lt, ones_lt, ones_split}
use Rattle.rules.specs.Bit.{is_set, bit}
use Rattle.rules.proofs.Bits.{split, bit-suc}
use Rattle.parity.specs.Columns.{clear_lowest}
use Rattle.parity.proofs.Laws.{bit-low, half_lt, words-lt}

-- a word that is 0
pub no-high : (k hi lo : ℕ) → hi ≡ 0 → hi * 2 ^ k + lo ≡ lo
no-high k hi lo e = rw (e, zero-mul (2 ^ k), zero-add lo)

-- a column of the low word, and of the high one
pub low_bit : (k i hi lo : ℕ) → i < k → bit (hi * 2 ^ k + lo) i ≡ bit lo i
low_bit zero i hi lo h = absurd (not-suc-le-zero h)
low_bit (suc k) zero hi lo h = bit-low (hi * 2 ^ suc k + lo) ∙ ap is_set (block_odd hi k lo) ∙ sym (bit-low lo)
low_bit (suc k) (suc i) hi lo h =
    bit-suc (hi * 2 ^ suc k + lo) i ∙ ap (λ (x : ℕ). bit x i) (block_half hi k lo) ∙ low_bit k i hi (lo / 2) (le_of_suc-le-suc h) ∙ sym (bit-suc lo i)

pub high_bit : (k i hi lo : ℕ) → lo < 2 ^ k → k ≤ i → bit (hi * 2 ^ k + lo) i ≡ bit hi (i - k)
unfolding bit
high_bit k i hi lo h l =
    let e : i ≡ k + (i - k) = omega arith in
    ap (bit (hi * 2 ^ k + lo)) e ∙ ap (λ (x : ℕ). is_set (x % 2)) (sym (shr-shr (hi * 2 ^ k + lo) k (i - k)) ∙ ap (λ (x : ℕ). x / 2 ^ (i - k)) (high hi k h))

-- the digit of a word at i, tested
is_one : (m : ℕ) → m < 2 → eqb m 1 ≡ is_set m
is_one zero h = refl
is_one (suc zero) h = refl
is_one (suc (suc m)) h = absurd (omega arith)

pub digit-bit : (n i : ℕ) → eqb (n / 2 ^ i % 2) 1 ≡ bit n i
unfolding bit
digit-bit n i = is_one (n / 2 ^ i % 2) (omega arith)

-- the lowest column, where the low word has one and where it is 0
pub low-trailing : (j k hi lo : ℕ) → 0 < lo → lo < 2 ^ k → count_trailing_zeros (j + k) (hi * 2 ^ k + lo) ≡ count_trailing_zeros k lo
unfolding count_trailing_zeros
low-trailing j zero hi lo p h = absurd (omega arith)
low-trailing j (suc k) hi lo p h =
    rw (add-suc j k, block_odd hi k lo, block_half hi k lo) (go (lo % 2) refl (λ q. low-trailing j k hi (lo / 2) q (half_lt k h)))
  where
    go : (d : ℕ) → lo % 2 ≡ d → (0 < lo / 2 → count_trailing_zeros (j + k) (hi * 2 ^ k + lo / 2) ≡ count_trailing_zeros k (lo / 2)) → under d (count_trailing_zeros (j + k) (hi * 2 ^ k + lo / 2)) ≡ under d (count_trailing_zeros k (lo / 2))
    go zero e ih = ap suc (ih (omega arith))
    go (suc d) e ih = refl

pub high-trailing : (j k hi : ℕ) → count_trailing_zeros (j + k) (hi * 2 ^ k) ≡ k + count_trailing_zeros j hi
unfolding count_trailing_zeros
high-trailing j zero hi = rw (add-zero j, mul-one hi, zero-add (count_trailing_zeros j hi))
high-trailing j (suc k) hi = rw (add-suc j k, shifted_even hi k, shifted_half hi k, high-trailing j k hi) (sym (suc-add k (count_trailing_zeros j hi)))

-- the highest column, where the high word has one and where it is 0
pub high-leading : (j k hi lo : ℕ) → 0 < hi → hi < 2 ^ j → lo < 2 ^ k → count_leading_zeros j hi ≡ count_leading_zeros (j + k) (hi * 2 ^ k + lo)
high-leading j k hi lo p h l =
    let s = leading_top j hi p h in
    let m = s.0 in
    let top : 2 ^ (suc m + k) ≡ 2 ^ m * 2 ^ k * 2 = pow-add 2 (suc m) k ∙ ap (λ (x : ℕ). x * 2 ^ k) (pow-suc 2 m) ∙ omega arith in
    let some : 2 ^ m * 2 ^ k ≤ hi * 2 ^ k = mul-le-mul_right (2 ^ k) s.2 in
    leading_unique (j + k) (hi * 2 ^ k + lo) (count_leading_zeros j hi) (suc m + k) (omega (arith, s.1)) (words-lt (suc m) k hi lo s.3 l) (omega arith)

pub low-leading : (j k lo : ℕ) → lo < 2 ^ k → j + count_leading_zeros k lo ≡ count_leading_zeros (j + k) lo
low-leading j k lo h =
    let s = leading_length k lo h in
    leading_unique (j + k) lo (j + count_leading_zeros k lo) s.0 (omega (arith, s.1)) s.2 s.3

-- what  n & (n - 1)  does to each word
pub clear-low : (k hi lo : ℕ) → 0 < lo → lo < 2 ^ k → clear_lowest (hi * 2 ^ k + lo) ≡ hi * 2 ^ k + bit_and lo (lo - 1)
unfolding clear_lowest
clear-low k hi lo p h =
    let e : hi * 2 ^ k + lo - 1 ≡ hi * 2 ^ k + (lo - 1) = omega arith in
    ap (bit_and (hi * 2 ^ k + lo)) e ∙ and_block k hi hi lo (lo - 1) h (omega arith) ∙ ap (λ (x : ℕ). x * 2 ^ k + bit_and lo (lo - 1)) (and_self hi)

pub clear-high : (k hi : ℕ) → 0 < hi → clear_lowest (hi * 2 ^ k) ≡ bit_and hi (hi - 1) * 2 ^ k
unfolding clear_lowest
clear-high k hi p =
    ap₂ bit_and (sym (add-zero (hi * 2 ^ k))) (mul_pred p (pow_pos k)) ∙ and_block k hi (hi - 1) 0 (2 ^ k - 1) (pow_pos k) (ones_lt k)
    ∙ add-zero (bit_and hi (hi - 1) * 2 ^ k)

-- 1 << i  at a width of w digits
pub shl_one : (w i : ℕ) → i < w → 1 * 2 ^ i % 2 ^ w ≡ 2 ^ i
shl_one w i h = ap (λ (x : ℕ). x % 2 ^ w) (one-mul (2 ^ i)) ∙ mod-eq_of_lt (pow-lt h)

-- a column of the high word, and the columns below one of the high word
pub high-single : (w k i : ℕ) → k ≤ i → i < w + k → 1 * 2 ^ (i - k) % 2 ^ w * 2 ^ k + 0 ≡ 2 ^ i
high-single w k i l h =
    let e : i - k + k ≡ i = omega arith in
    add-zero (1 * 2 ^ (i - k) % 2 ^ w * 2 ^ k) ∙ ap (λ (x : ℕ). x * 2 ^ k) (shl_one w (i - k) (omega arith)) ∙ sym (pow-add 2 (i - k) k) ∙ ap (λ (x : ℕ). 2 ^ x) e

pub high-all : (w k n : ℕ) → k ≤ n → n < w + k → (1 * 2 ^ (n - k) % 2 ^ w - 1) * 2 ^ k + (2 ^ k - 1) ≡ 2 ^ n - 1
high-all w k n l h =
    let e : n - k + k ≡ n = omega arith in
    ap (λ (x : ℕ). (x - 1) * 2 ^ k + (2 ^ k - 1)) (shl_one w (n - k) (omega arith)) ∙ sym (ones_split (n - k) k) ∙ ap (λ (x : ℕ). 2 ^ x - 1) e

-- the digit as a number
pub digit-cond : (n i : ℕ) → n / 2 ^ i % 2 ≡ cond (bit n i) 1 0
digit-cond n i =
    split (bit n i)
    (λ e. rw e (eqb-true (n / 2 ^ i % 2) 1 (digit-bit n i ∙ e)))
    (λ e. rw e (low (eqb-false (n / 2 ^ i % 2) 1 (digit-bit n i ∙ e))))
  where
    low : (n / 2 ^ i % 2 ≢ 1) → n / 2 ^ i % 2 ≡ 0
    low h = omega arith
