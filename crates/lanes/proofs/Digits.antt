-- Columns of a parity: those of one word below a wire, none below a wire, and a parity added to the rows that are chosen.
use mathlib.Core.Path.{◌≡◌, refl, sym, ap, ap₂, ◌∙◌}
use mathlib.Core.Logic.{◌≢◌}
use mathlib.Core.Bool.{Bool, true, false, not, ◌&&◌, cond, and-true, and-false, false≢true}
use mathlib.Core.List.{List}
use Prim.Native.Nat.{ℕ, zero, suc, ◌+◌, ◌-◌, ◌*◌, ◌%◌, ◌^◌, ◌≤◌, ◌<◌}
use native.Mathlib.Nat.{le_refl, pow-suc, lt_of_not-le}
use native.Mathlib.Omega.{arith}
use lib.ListN.{length, get_or, set}
use lib.Seq.{get_or-set_same, get_or-set_other}
use lib.Dec.{eqb, ltb}
use lib.Pow.{pow_pos}
use borrow.Author.Tests.{eqb-true, eq-eqb, ltb-true, ltb-false, not-true}
use Rattle.rules.specs.Bit.{bit, xor}
use Rattle.rules.proofs.Bits.{split, same, bit-zero, bit-ones, none-set}
use Rattle.parity.specs.Columns.{clear_lowest, Lowest}
use Rattle.parity.proofs.Laws.{bit_high, bit-clear, xor_zero_r}
use Rattle.parity.proofs.Words.{low_bit, high_bit}
use Rattle.acting.specs.Alike.{each}
use Rattle.acting.proofs.Computing.{agree}
use Rattle.acting.proofs.Deciding.{each-true, true-each}
use Rattle.lanes.specs.Lanes.{half, near, Inside, Beside, Adds}

-- the columns 0 to n - 1 and no other
ones-high : (n k : ℕ) → n ≤ k → bit (2 ^ n - 1) k ≡ false
ones-high n k l = bit_high (2 ^ n - 1) n k (omega (arith, pow_pos n)) l

-- a word of two, and its columns below the wire
pub beside : (hi lo i w a r : ℕ) → i < 128 → lo < 2 ^ 64 → w ≡ cond (ltb i half) lo hi → a ≡ 2 ^ (i % half) - 1
    → ((j : ℕ) → bit r j ≡ (bit (0 * 2 ^ 64 + w) j && bit a j)) → Beside (hi * 2 ^ 64 + lo) i r
beside hi lo i w a r l m ew ea h = record { low = low; inside = record { none = high } }
  where
    own : (j : ℕ) → j < i % half → bit w j ≡ bit (hi * 2 ^ 64 + lo) (near i j)
    own j k =
        split (ltb i half)
        (λ e. let b : i < half = ltb-true i half e in
        let z : near i j ≡ j = omega arith in
        let x : bit w j ≡ bit lo j = ap (λ (u : ℕ). bit u j) (rw e at ew) in
        x ∙ sym (rw z (low_bit 64 j hi lo (omega arith))))
        (λ e. let b : half ≤ i = ltb-false i half e in
        let z : near i j ≡ 64 + j = omega arith in
        let y : 64 + j - 64 ≡ j = omega arith in
        let x : bit w j ≡ bit hi j = ap (λ (u : ℕ). bit u j) (rw e at ew) in
        x ∙ sym (rw z (high_bit 64 (64 + j) hi lo m (omega arith) ∙ ap (bit hi) y)))

    low : (j : ℕ) → j < i % half → bit r j ≡ bit (hi * 2 ^ 64 + lo) (near i j)
    low j k =
        h j ∙ ap₂ (λ (x y : Bool). x && y) (low_bit 64 j 0 w (omega arith)) (ap (λ (u : ℕ). bit u j) ea ∙ bit-ones (i % half) j k)
        ∙ and-true (bit w j) ∙ own j k

    high : (j : ℕ) → i % half ≤ j → bit r j ≡ false
    high j k = h j ∙ ap (λ (y : Bool). bit (0 * 2 ^ 64 + w) j && y) (ap (λ (u : ℕ). bit u j) ea ∙ ones-high (i % half) j k) ∙ and-false (bit (0 * 2 ^ 64 + w) j)

-- no column below n
pub none_below : (o m a n : ℕ) → a ≡ 2 ^ n - 1 → ((i : ℕ) → bit m i ≡ (bit o i && bit a i)) → eqb m 0 ≡ each n (λ k. not (bit o k))
none_below o m a n e h = agree (eqb m 0) (each n (λ k. not (bit o k))) to from
  where
    to : eqb m 0 ≡ true → each n (λ k. not (bit o k)) ≡ true
    to t =
        true-each n (λ k. not (bit o k))
        (λ k l. ap not (sym (and-true (bit o k)) ∙ ap (λ (b : Bool). bit o k && b) (sym (ap (λ (z : ℕ). bit z k) e ∙ bit-ones n k l)) ∙ sym (h k)
        ∙ ap (λ (z : ℕ). bit z k) (eqb-true m 0 t) ∙ bit-zero k))

    lt-pow : (m : ℕ) → m < 2 ^ m
    lt-pow zero = le_refl 1
    lt-pow (suc m) = let k : m < 2 ^ m = lt-pow m in let p : 2 ^ suc m ≡ 2 ^ m * 2 = pow-suc 2 m in omega arith

    from : each n (λ k. not (bit o k)) ≡ true → eqb m 0 ≡ true
    from t =
        eq-eqb m 0 (none-set m m (lt-pow m) (λ k l. h k ∙ split (ltb k n)
        (λ u. ap (λ (b : Bool). b && bit a k) (not-true (bit o k) (each-true n (λ k. not (bit o k)) t k (ltb-true k n u))))
        (λ u. ap (λ (b : Bool). bit o k && b) (ap (λ (z : ℕ). bit z k) e ∙ ones-high n k (ltb-false k n u)) ∙ and-false (bit o k))))

-- ---- a parity added to the rows that are chosen, from the lowest up

pub lowest-inside : (v t n : ℕ) → Lowest v t → Inside v n → t < n
lowest-inside v t n p h = lt_of_not-le (λ (l : n ≤ t). false≢true (sym (h.none t l) ∙ p.set))

pub clear-inside : (v t n : ℕ) → Lowest v t → Inside v n → Inside (clear_lowest v) n
clear-inside v t n p h = record { none = λ j l. bit-clear v t j p ∙ ap (λ (b : Bool). b && not (eqb j t)) (h.none j l) }

-- what is left to be added makes the whole
pub record Left (chosen p : ℕ) (rows₀ : List ℕ) (left : ℕ) (rows : List ℕ) : Type 0 where
  pub size : length rows ≡ length rows₀
  pub inside : Inside left (length rows₀)
  pub at : (j : ℕ) → j < length rows₀ → xor (get_or rows j zero) (cond (bit left j) p zero) ≡ xor (get_or rows₀ j zero) (cond (bit chosen j) p zero)

module _ (chosen p : ℕ) (rows₀ : List ℕ) where
  pub left-start : Inside chosen (length rows₀) → Left chosen p rows₀ chosen rows₀
  left-start h = record { size = refl; inside = h; at = λ j l. refl }

  pub left-next : (left t left' : ℕ) (rows rows' : List ℕ) → Lowest left t → left' ≡ clear_lowest left → rows' ≡ set rows t (xor (get_or rows t zero) (cond true p zero))
      → length rows' ≡ length rows → Left chosen p rows₀ left rows → Left chosen p rows₀ left' rows'
  left-next left t left' rows rows' low e f g h = record {
    size = g ∙ h.size;
    inside = rw e (clear-inside left t (length rows₀) low h.inside);
    at = λ j l. same j t (λ u v. here j u l) (λ u v. there j u v l);
  }
    where
      here : (j : ℕ) → j ≡ t → j < length rows₀ → xor (get_or rows' j zero) (cond (bit left' j) p zero) ≡ xor (get_or rows₀ j zero) (cond (bit chosen j) p zero)
      here j u l =
          let on : bit left j ≡ true = ap (bit left) u ∙ low.set in
          let off : bit left' j ≡ false = ap (λ (z : ℕ). bit z j) e ∙ bit-clear left t j low ∙ ap₂ (λ (x y : Bool). x && not y) on (eq-eqb j t u) in
          let new : get_or rows' j zero ≡ xor (get_or rows j zero) p =
          rw (f, u) (get_or-set_same rows t (xor (get_or rows t zero) p) zero (omega (arith, lowest-inside left t (length rows₀) low h.inside, h.size))) in
          ap₂ (λ (x : ℕ) (b : Bool). xor x (cond b p zero)) new off ∙ xor_zero_r (xor (get_or rows j zero) p) ∙ (rw on at (h.at j l))

      there : (j : ℕ) → j ≢ t → eqb j t ≡ false → j < length rows₀ → xor (get_or rows' j zero) (cond (bit left' j) p zero) ≡ xor (get_or rows₀ j zero) (cond (bit chosen j) p zero)
      there j u v l =
          let still : bit left' j ≡ bit left j = ap (λ (z : ℕ). bit z j) e ∙ bit-clear left t j low ∙ rw v (and-true (bit left j)) in
          let old : get_or rows' j zero ≡ get_or rows j zero = rw f (get_or-set_other rows t j (xor (get_or rows t zero) p) zero u) in
          ap₂ (λ (x : ℕ) (b : Bool). xor x (cond b p zero)) old still ∙ h.at j l

  pub left_end : (left : ℕ) (rows : List ℕ) → left ≡ 0 → Left chosen p rows₀ left rows → Adds chosen p rows₀ rows
  left_end left rows e h = record {
    at = λ j l. sym (ap (λ (b : Bool). xor (get_or rows j zero) (cond b p zero)) (ap (λ (z : ℕ). bit z j) e ∙ bit-zero j) ∙ xor_zero_r (get_or rows j zero)) ∙ h.at j l;
  }
