-- One text for each number, both ways: what was printed is read back, and what is accepted is what would be printed.
use mathlib.Core.Path.{◌≡◌, refl, ap, ◌∙◌}
use mathlib.Core.Bool.{true, false, ◌&&◌, false≢true}
use mathlib.Core.List.{List, [], ◌∷◌, ◌++◌, append-nil}
use Prim.Native.Nat.{ℕ, zero, suc, ◌≤◌}
use native.Mathlib.Omega.{arith}
use borrow.Author.Tests.{le-leb, leb-true, eqb-true, ne_eqb}
use lib.Dec.{eqb, leb}
use lib.IntN.{ℤ, pos, negsuc}
use lib.Signed.{mag}
use lib.ListN.{length, drop}
use lib.Seq.{drop-append_seam}
use Rattle.rules.proofs.Bits.{split, and_left, and_right}
use Rattle.text.specs.Bytes.{minus, is_digit, first}
use Rattle.text.specs.Printing.{decimal, printed}
use Rattle.text.specs.Reading.{Found, none, found, digits, worth, proper, up_to, largest, positive, negative, integer}
use Rattle.text.proofs.Decimals.{Digital, decimal-some, digital-decimal, worth-decimal, proper-decimal, decimal-proper}

-- ---- the digits at the front

pub digits-none : (bs : List ℕ) → is_digit (first bs) ≡ false → digits bs ≡ []
unfolding digits
digits-none [] h = refl
digits-none (b ∷ bs) h = rw h

pub digits-digital : (bs : List ℕ) → Digital (digits bs)
unfolding digits Digital
digits-digital [] = tt
digits-digital (b ∷ bs) = split (is_digit b) (λ e. rw e (e, digits-digital bs)) (λ e. rw e tt)

pub digits_append : (ds rest : List ℕ) → Digital ds → digits (ds ++ rest) ≡ ds ++ digits rest
unfolding digits Digital
digits_append [] rest h = refl
digits_append (d ∷ ds) rest h = rw (h.0, digits_append ds rest h.1)

-- they are the text's beginning, and no digit follows them
pub digits-front : (bs : List ℕ) → bs ≡ digits bs ++ drop (length (digits bs)) bs
unfolding digits
digits-front [] = refl
digits-front (b ∷ bs) = split (is_digit b) (λ e. rw e (ap (λ (l : List ℕ). b ∷ l) (digits-front bs))) (λ e. rw e)

pub digits-end : (bs : List ℕ) → is_digit (first (drop (length (digits bs)) bs)) ≡ false
unfolding digits
digits-end [] = refl
digits-end (b ∷ bs) = split (is_digit b) (λ e. rw e (digits-end bs)) (λ e. rw e e)

-- ---- a number without a sign

pub read-decimal : (most n : ℕ) (rest : List ℕ) → n ≤ most → is_digit (first rest) ≡ false → up_to most (decimal n ++ rest) ≡ found n rest
unfolding up_to
read-decimal most n rest h e =
    let d : digits (decimal n ++ rest) ≡ decimal n = digits_append (decimal n) rest (digital-decimal n) ∙ rw (digits-none rest e, append-nil) in
    rw (d, proper-decimal n, worth-decimal n, le-leb n most h, drop-append_seam (decimal n) rest)

-- what is read, is printed so, fits, and is ended by something else than a digit
pub record Spelt (text : List ℕ) (most n : ℕ) (left bs : List ℕ) : Type 0 where
  pub whole : bs ≡ text ++ left
  pub small : n ≤ most
  pub end : is_digit (first left) ≡ false

pub decimal-read : (most n : ℕ) (left bs : List ℕ) → up_to most bs ≡ found n left → Spelt (decimal n) most n left bs
unfolding up_to
decimal-read most n left bs h =
    let ds : List ℕ = digits bs in
    split (proper ds && leb (worth 0 ds) most)
    (λ e.
    let g : found (worth 0 ds) (drop (length ds) bs) ≡ found n left = rw e at h in
    let v : worth 0 ds ≡ n = cc in
    let l : drop (length ds) bs ≡ left = cc in
    let t : decimal (worth 0 ds) ≡ ds = decimal-proper ds (digits-digital bs) (and_left (proper ds) (leb (worth 0 ds) most) e) in
    record {
      whole = digits-front bs ∙ rw (← v, ← l, t);
      small = rw (← v) (leb-true (worth 0 ds) most (and_right (proper ds) (leb (worth 0 ds) most) e));
      end = rw (← l) (digits-end bs);
    })
    (λ e.
    let g : none ≡ found n left = rw e at h in
    let z : ◌≡◌ {A = ℕ} 0 1 = cc in
    absurd (omega arith))

-- ---- a number with a sign

lead-digit : (ds rest : List ℕ) → Digital ds → 1 ≤ length ds → is_digit (first (ds ++ rest)) ≡ true
unfolding Digital
lead-digit [] rest h g = absurd (omega arith)
lead-digit (d ∷ ds) rest h g = h.0

no_minus : (b : ℕ) → is_digit b ≡ true → eqb b minus ≡ false
no_minus b h = ne_eqb b minus (λ (e : b ≡ minus). absurd (false≢true (rw e at h)))

-- every number of 32 signed bits is read back from what is printed
pub read-printed : (v : ℤ) (rest : List ℕ) → mag v ≤ largest → is_digit (first rest) ≡ false → integer (printed v ++ rest) ≡ found v rest
unfolding integer printed
read-printed (pos n) rest h e =
    let d = no_minus (first (decimal n ++ rest)) (lead-digit (decimal n) rest (digital-decimal n) (decimal-some n)) in
    rw (d, read-decimal largest n rest h e)
read-printed (negsuc n) rest h e = rw (read-decimal (suc largest) (suc n) rest (omega arith) e)

positive-found : (o : Found ℕ) (v : ℤ) (left : List ℕ) → positive o ≡ found v left → (n : ℕ) × ((o ≡ found n left) × (v ≡ pos n))
positive-found none v left h = let z : ◌≡◌ {A = ℕ} 0 1 = cc in absurd (omega arith)
positive-found (found n l) v left h = (n, (cc, cc))

negative-found : (o : Found ℕ) (v : ℤ) (left : List ℕ) → negative o ≡ found v left → (n : ℕ) × ((o ≡ found (suc n) left) × (v ≡ negsuc n))
negative-found none v left h = let z : ◌≡◌ {A = ℕ} 0 1 = cc in absurd (omega arith)
negative-found (found zero l) v left h = let z : ◌≡◌ {A = ℕ} 0 1 = cc in absurd (omega arith)
negative-found (found (suc n) l) v left h = (n, (cc, cc))

first-is : (bs : List ℕ) → first bs ≡ minus → bs ≡ minus ∷ drop 1 bs
first-is [] h = absurd (omega arith)
first-is (b ∷ bs) h = ap (λ (x : ℕ). x ∷ bs) h

-- what is accepted is what would be printed, fits 32 signed bits, and is ended by something else than a digit
pub printed-read : (v : ℤ) (left bs : List ℕ) → integer bs ≡ found v left → Spelt (printed v) largest (mag v) left bs
unfolding integer printed
printed-read v left bs h =
    split (eqb (first bs) minus)
    (λ e.
    let o = negative-found (up_to (suc largest) (drop 1 bs)) v left (rw e at h) in
    let s = decimal-read (suc largest) (suc o.0) left (drop 1 bs) o.1.0 in
    rw o.1.1
    record {
      whole = first-is bs (eqb-true (first bs) minus e) ∙ ap (λ (l : List ℕ). minus ∷ l) s.whole;
      small = omega (arith, s.small);
      end = s.end;
    })
    (λ e.
    let o = positive-found (up_to largest bs) v left (rw e at h) in
    let s = decimal-read largest o.0 left bs o.1.0 in
    rw o.1.1 record { whole = s.whole; small = s.small; end = s.end })
