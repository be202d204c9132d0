-- Laws of printed numbers: one more digit, how long they are, and that they are numerals of their worth.
use mathlib.Core.Path.{◌≡◌, refl, sym, ap, ◌∙◌}
use mathlib.Core.Bool.{Bool, true, false, ◌||◌, not, true≢false}
use mathlib.Core.List.{List, [], ◌∷◌, ◌++◌, append_assoc, append-nil}
use Prim.Native.Nat.{ℕ, zero, suc, ◌+◌, ◌-◌, ◌*◌, ◌/◌, ◌%◌, ◌^◌, ◌≤◌, ◌<◌, max}
use native.Mathlib.Omega.{arith}
use borrow.Author.Tests.{ltb-true, ltb-false, lt-ltb, le-ltb, le-leb, leb-true, eqb-false, ne_eqb, not-true}
use lib.Dec.{eqb, leb, ltb}
use lib.ListN.{length, get_or, take, length-append}
use lib.Seq.{take-suc}
use Rattle.rules.proofs.Bits.{split, and_left, and_right}
use Rattle.text.specs.Bytes.{nought, is_digit, first}
use Rattle.text.specs.Printing.{digit, digits_in, decimal}
use Rattle.text.specs.Reading.{worth, proper}

-- ---- one digit at a time

-- more than enough is enough
same_digits : (k m n : ℕ) → n < k → n < m → digits_in k n ≡ digits_in m n
unfolding digits_in
same_digits zero m n h g = absurd (omega arith)
same_digits (suc k) zero n h g = absurd (omega arith)
same_digits (suc k) (suc m) n h g =
    split (ltb n 10) (λ e. rw e)
    (λ e.
    let big : 10 ≤ n = ltb-false n 10 e in
    rw e (ap (λ (l : List ℕ). l ++ digit (n % 10) ∷ []) (same_digits k m (n / 10) (omega arith) (omega arith))))

pub decimal-one : (n : ℕ) → n < 10 → decimal n ≡ digit n ∷ []
unfolding decimal
decimal-one n h = rw (lt-ltb n 10 h)

pub decimal-more : (n : ℕ) → 10 ≤ n → decimal n ≡ decimal (n / 10) ++ digit (n % 10) ∷ []
unfolding decimal
decimal-more n h = rw (le-ltb n 10 h) (ap (λ (l : List ℕ). l ++ digit (n % 10) ∷ []) (same_digits n (suc (n / 10)) (n / 10) (omega arith) (omega arith)))

-- what holds of one digit, and with one more digit, holds of every printed number
by_digits : (P : ℕ → List ℕ → Type 0)
    → ((n : ℕ) → n < 10 → P n (digit n ∷ []))
    → ((n : ℕ) → 10 ≤ n → P (n / 10) (decimal (n / 10)) → P n (decimal (n / 10) ++ digit (n % 10) ∷ []))
    → (k n : ℕ) → n < k → P n (decimal n)
by_digits P one more zero n h = absurd (omega arith)
by_digits P one more (suc k) n h =
    split (ltb n 10)
    (λ e. rw (decimal-one n (ltb-true n 10 e)) (one n (ltb-true n 10 e)))
    (λ e.
    let big : 10 ≤ n = ltb-false n 10 e in
    rw (decimal-more n big) (more n big (by_digits P one more k (n / 10) (omega arith))))

-- ---- how long they are

pub decimal-some : (n : ℕ) → 1 ≤ length (decimal n)
decimal-some n =
    by_digits (λ m ds. 1 ≤ length ds) (λ m h. omega arith) (λ m h e. simp length-append (omega arith)) (suc n) n (omega arith)

-- without the last digit
pub shorter : (n : ℕ) → 10 ≤ n → length (decimal n) ≡ length (decimal (n / 10)) + 1
shorter n h = ap length (decimal-more n h) ∙ simp length-append

-- a number below 10 to the k has at most k digits
pub decimal-long : (k n : ℕ) → n < 10 ^ suc k → length (decimal n) ≤ suc k
decimal-long zero n h = rw (decimal-one n (omega arith)) (omega arith)
decimal-long (suc k) n h =
    split (ltb n 10)
    (λ e. rw (decimal-one n (ltb-true n 10 e)) (omega arith))
    (λ e.
    let big : 10 ≤ n = ltb-false n 10 e in
    let others = decimal-long k (n / 10) (omega arith) in
    rw (decimal-more n big) (simp length-append (omega arith)))

tens : (k : ℕ) → 1 ≤ 10 ^ k
tens zero = omega arith
tens (suc k) = omega (arith, tens k)

decimal_at_least : (k n : ℕ) → 10 ^ k ≤ n → suc k ≤ length (decimal n)
decimal_at_least zero n h = decimal-some n
decimal_at_least (suc k) n h =
    let big : 10 ≤ n = omega (arith, tens k) in
    omega (arith, decimal_at_least k (n / 10) (omega arith), shorter n big)

-- the power of ten below a number tells how many digits it has; 0 has one
pub decimal_size : (k n : ℕ) → 10 ^ k ≤ max n 1 → max n 1 < 10 * 10 ^ k → k + 1 ≡ length (decimal n)
decimal_size zero zero low high = omega (arith, ap length (decimal-one 0 (omega arith)))
decimal_size (suc k) zero low high = absurd (omega (arith, tens k))
decimal_size k (suc n) low high = omega (arith, decimal_at_least k (suc n) (omega arith), decimal-long k (suc n) (omega arith))

-- ---- they are numerals

unfoldable pub Digital : List ℕ → Type 0
Digital [] = Unit {0}
Digital (b ∷ bs) = (is_digit b ≡ true) × Digital bs

digit-is : (d : ℕ) → d < 10 → is_digit (digit d) ≡ true
digit-is d h = rw (le-leb nought (digit d) (omega arith), le-leb (digit d) 57 (omega arith))

pub digital-append : (ds es : List ℕ) → Digital ds → Digital es → Digital (ds ++ es)
unfolding Digital
digital-append [] es h g = g
digital-append (d ∷ ds) es h g = (h.0, digital-append ds es h.1 g)

pub digital-decimal : (n : ℕ) → Digital (decimal n)
unfolding Digital
digital-decimal n =
    by_digits (λ m ds. Digital ds) (λ m h. (digit-is m h, tt))
    (λ m h e. digital-append (decimal (m / 10)) (digit (m % 10) ∷ []) e (digit-is (m % 10) (omega arith), tt)) (suc n) n (omega arith)

pub worth-append : (v : ℕ) (ds es : List ℕ) → worth v (ds ++ es) ≡ worth (worth v ds) es
unfolding worth
worth-append v [] es = refl
worth-append v (d ∷ ds) es = worth-append (10 * v + (d - nought)) ds es

-- one digit more of a list of them
pub worth_more : (ds : List ℕ) (i : ℕ) → i < length ds → worth 0 (take (suc i) ds) ≡ 10 * worth 0 (take i ds) + (get_or ds i 0 - nought)
unfolding worth
worth_more ds i h = ap (worth 0) (take-suc ds i 0 h) ∙ worth-append 0 (take i ds) (get_or ds i 0 ∷ [])

pub worth-decimal : (n : ℕ) → worth 0 (decimal n) ≡ n
unfolding worth
worth-decimal n =
    by_digits (λ m ds. worth 0 ds ≡ m) (λ m h. omega arith)
    (λ m h e. worth-append 0 (decimal (m / 10)) (digit (m % 10) ∷ []) ∙ rw e (omega arith)) (suc n) n (omega arith)

first-append : (ds es : List ℕ) → 1 ≤ length ds → first (ds ++ es) ≡ first ds
first-append [] es h = absurd (omega arith)
first-append (d ∷ ds) es h = refl

first_decimal : (n : ℕ) → 1 ≤ n → 1 + nought ≤ first (decimal n)
first_decimal n =
    by_digits (λ m ds. 1 ≤ m → 1 + nought ≤ first ds) (λ m h g. omega arith)
    (λ m h e g. rw (first-append (decimal (m / 10)) (digit (m % 10) ∷ []) (decimal-some (m / 10))) (e (omega arith))) (suc n) n (omega arith)

pub proper-decimal : (n : ℕ) → proper (decimal n) ≡ true
unfolding decimal
proper-decimal zero = refl
proper-decimal (suc n) =
    let f = first_decimal (suc n) (omega arith) in
    let lead : eqb (first (decimal (suc n))) nought ≡ false = ne_eqb (first (decimal (suc n))) nought (λ e. omega arith) in
    rw (lt-ltb 0 (length (decimal (suc n))) (decimal-some (suc n)), lead) (or-true (eqb (length (decimal (suc n))) 1))
  where
    or-true : (b : Bool) → (b || true) ≡ true
    or-true true = refl
    or-true false = refl

-- ---- and each numeral is one of them

digital_at : (ds : List ℕ) (i : ℕ) → Digital ds → i < length ds → is_digit (get_or ds i 0) ≡ true
unfolding Digital
digital_at [] i h g = absurd (omega arith)
digital_at (d ∷ ds) zero h g = h.0
digital_at (d ∷ ds) (suc i) h g = digital_at ds i h.1 (omega arith)

digit-worth : (b : ℕ) → is_digit b ≡ true → (nought ≤ b) × (b ≤ 57)
digit-worth b h = (leb-true nought b (and_left (leb nought b) (leb b 57) h), leb-true b 57 (and_right (leb nought b) (leb b 57) h))

pub decimal-worth : (v : ℕ) (ds : List ℕ) → 1 ≤ v → Digital ds → decimal (worth v ds) ≡ decimal v ++ ds
unfolding worth Digital
decimal-worth v [] h g = rw append-nil
decimal-worth v (d ∷ ds) h g =
    let w = digit-worth d g.0 in
    let m : ℕ = 10 * v + (d - nought) in
    let high : m / 10 ≡ v = omega arith in
    let low : digit (m % 10) ≡ d = omega arith in
    decimal-worth m ds (omega arith) g.1 ∙ rw (decimal-more m (omega arith), high, low) (append_assoc (decimal v) (d ∷ []) ds)

pub decimal-proper : (ds : List ℕ) → Digital ds → proper ds ≡ true → decimal (worth 0 ds) ≡ ds
unfolding worth Digital
decimal-proper [] h p = absurd (true≢false (sym p))
decimal-proper (d ∷ []) h p =
    let w = digit-worth d h.0 in
    let same : digit (10 * 0 + (d - nought)) ≡ d = omega arith in
    decimal-one (10 * 0 + (d - nought)) (omega arith) ∙ rw same
decimal-proper (d ∷ e ∷ ds) h p =
    let w = digit-worth d h.0 in
    let long : eqb (length (d ∷ e ∷ ds)) 1 ≡ false = ne_eqb (length (d ∷ e ∷ ds)) 1 (λ q. omega arith) in
    let lead = not-true (eqb d nought) (rw long at (and_right (ltb 0 (length (d ∷ e ∷ ds))) (eqb (length (d ∷ e ∷ ds)) 1 || not (eqb d nought)) p)) in
    let same : digit (10 * 0 + (d - nought)) ≡ d = omega arith in
    let some : 1 ≤ 10 * 0 + (d - nought) = omega (arith, eqb-false d nought lead) in
    decimal-worth (10 * 0 + (d - nought)) (e ∷ ds) some h.1 ∙ rw (decimal-one (10 * 0 + (d - nought)) (omega arith), same)

-- the last digit of those left is the one at their end, and the others are left
pub record LastDigit (ds : List ℕ) (m left : ℕ) : Type 0 where
  pub others : left / 10 ≡ worth 0 (take m ds)
  pub last : digit (left % 10) ≡ get_or ds m 0

pub last_digit : (ds : List ℕ) (m left : ℕ) → Digital ds → m < length ds → left ≡ worth 0 (take (suc m) ds) → LastDigit ds m left
last_digit ds m left h lt is =
    let d : ℕ = get_or ds m 0 in
    let w = digit-worth d (digital_at ds m h lt) in
    let more = worth_more ds m lt in
    record { others = omega arith; last = omega arith }
