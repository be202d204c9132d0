-- Reading a list of numbers and writing one: each undoes the other.
use mathlib.Core.Path.{◌≡◌, refl, sym, ap, ap₂, ◌∙◌, subst}
use mathlib.Core.Logic.{◌≢◌}
use mathlib.Core.List.{List, [], ◌∷◌, ◌++◌, append-nil}
use Prim.Native.Nat.{ℕ, zero, suc, ◌+◌, ◌*◌, ◌/◌, ◌%◌, ◌≤◌, ◌<◌, zero-le, suc-le-suc}
use native.Mathlib.Nat.{not-suc-le-zero, le_of_suc-le-suc}
use native.Mathlib.Omega.{arith}
use lib.IntN.{ℤ, pos}
use lib.ListN.{length, get_or, take, drop, length-append, length-drop, take-append-drop}
use lib.Seq.{get_or-append-add, length-take-le}
use Rattle.rules.specs.Limits.{width}
use Rattle.rules.specs.Gate.{Gate}
use Rattle.rules.specs.Numbers.{nat_of, field, gate_at, gates_from, gates_of, numbers, numbers_of}

-- ---- a row, the numbers of one gate, before a list

-- the gates of the list come one place later
module _ (r l : List ℤ) (e : length r ≡ width) where
  pub field-after : (i k : ℕ) → field (r ++ l) (suc i) k ≡ field l i k
  field-after i k =
      let f : width * suc i + k ≡ length r + (width * i + k) = omega arith in
      ap (λ (j : ℕ). get_or (r ++ l) j (pos 0)) f ∙ get_or-append-add r l (width * i + k) (pos 0)

  pub gate-after : (i : ℕ) → gate_at (r ++ l) (suc i) ≡ gate_at l i
  unfolding gate_at
  gate-after i =
      let f : (k : ℕ) → field (r ++ l) (suc i) k ≡ field l i k = field-after i in
      rw (f 0, f 1, f 2, f 3, f 4, f 5)

  pub gates-after : (n i : ℕ) → gates_from (r ++ l) n (suc i) ≡ gates_from l n i
  unfolding gates_from
  gates-after zero i = refl
  gates-after (suc n) i = ap₂ (λ (g : Gate) (gs : List Gate). g ∷ gs) (gate-after i) (gates-after n (suc i))

  -- the first gate, and the rest
  pub gates-first : gates_of (r ++ l) ≡ gate_at (r ++ l) zero ∷ gates_of l
  unfolding gates_of gates_from
  gates-first =
      let f : length (r ++ l) / width ≡ suc (length l / width) = omega (arith, length-append r l) in
      rw f (ap (λ (gs : List Gate). gate_at (r ++ l) zero ∷ gs) (gates-after (length l / width) zero))

-- ---- written, then read

pub gates-cons : (g : Gate) (l : List ℤ) → gates_of (numbers g ++ l) ≡ g ∷ gates_of l
unfolding gate_at
gates-cons g l = gates-first (numbers g) l refl

pub gates-of-append : (us : List Gate) (l : List ℤ) → gates_of (numbers_of us ++ l) ≡ us ++ gates_of l
unfolding numbers_of
gates-of-append [] l = refl
gates-of-append (u ∷ us) l = gates-cons u (numbers_of us ++ l) ∙ ap (λ (gs : List Gate). u ∷ gs) (gates-of-append us l)

pub read-written : (gs : List Gate) → gates_of (numbers_of gs) ≡ gs
unfolding gates_of gates_from
read-written gs = ap gates_of (sym (append-nil (numbers_of gs))) ∙ gates-of-append gs [] ∙ append-nil gs

pub numbers-append : (us vs : List Gate) → numbers_of (us ++ vs) ≡ numbers_of us ++ numbers_of vs
unfolding numbers_of
numbers-append [] vs = refl
numbers-append (u ∷ us) vs = ap (λ (l : List ℤ). numbers u ++ l) (numbers-append us vs)

pub length-numbers : (gs : List Gate) → length (numbers_of gs) ≡ width * length gs
unfolding numbers_of
length-numbers [] = refl
length-numbers (g ∷ gs) = let ih : length (numbers_of gs) ≡ width * length gs = length-numbers gs in omega arith

-- ---- by place

pub from-length : (l : List ℤ) (n i : ℕ) → length (gates_from l n i) ≡ n
unfolding gates_from
from-length l zero i = refl
from-length l (suc n) i = ap suc (from-length l n (suc i))

pub gates-length : (l : List ℤ) → length (gates_of l) ≡ length l / width
unfolding gates_of
gates-length l = from-length l (length l / width) zero

pub from_at : (l : List ℤ) (n i j : ℕ) (d : Gate) → j < n → get_or (gates_from l n i) j d ≡ gate_at l (i + j)
unfolding gates_from
from_at l zero i j d h = absurd (not-suc-le-zero h)
from_at l (suc n) i zero d h = let e : i + zero ≡ i = omega arith in rw e
from_at l (suc n) i (suc j) d h = let e : i + suc j ≡ suc i + j = omega arith in rw e (from_at l n (suc i) j d (le_of_suc-le-suc h))

-- a run of places is cut at any of them
pub from-append : (l : List ℤ) (m n i : ℕ) → gates_from l (m + n) i ≡ gates_from l m i ++ gates_from l n (i + m)
unfolding gates_from
from-append l zero n i = let e : zero + n ≡ n = omega arith in let f : i + zero ≡ i = omega arith in rw (e, f)
from-append l (suc m) n i =
    let e : suc m + n ≡ suc (m + n) = omega arith in
    let f : i + suc m ≡ suc i + m = omega arith in
    rw (e, f) (ap (λ (gs : List Gate). gate_at l i ∷ gs) (from-append l m n (suc i)))

-- ---- read, then written

-- no field of gate i is a negative number, but perhaps its turn
abbrev pub Natural : List ℤ → ℕ → Type 0
Natural l i = (k : ℕ) → k < width → k ≢ 4 → pos (nat_of (field l i k)) ≡ field l i k

-- n numbers by their places
abbrev entries : ℕ → (ℕ → ℤ) → List ℤ
entries zero f = []
entries (suc n) f = f zero ∷ entries n (λ k. f (suc k))

entries-are : (l : List ℤ) → entries (length l) (λ k. get_or l k (pos 0)) ≡ l
entries-are [] = refl
entries-are (x ∷ l) = ap (λ (m : List ℤ). x ∷ m) (entries-are l)

entries-before : (r l : List ℤ) (n : ℕ) → n ≤ length r → entries n (λ k. get_or (r ++ l) k (pos 0)) ≡ entries n (λ k. get_or r k (pos 0))
entries-before r l zero h = refl
entries-before [] l (suc n) h = absurd (not-suc-le-zero h)
entries-before (x ∷ r) l (suc n) h = ap (λ (m : List ℤ). x ∷ m) (entries-before r l n (le_of_suc-le-suc h))

module _ (r l : List ℤ) (e : length r ≡ width) where
  -- the first gate is the row
  row_written : Natural (r ++ l) zero → numbers (gate_at (r ++ l) zero) ≡ r
  unfolding gate_at
  row_written f =
      let at : (k : ℕ) → k < width → k ≢ 4 → pos (nat_of (field (r ++ l) zero k)) ≡ field (r ++ l) zero k = f in
      rw (at 0 (omega arith) (λ e. omega arith), at 1 (omega arith) (λ e. omega arith), at 2 (omega arith) (λ e. omega arith), at 3 (omega arith) (λ e. omega arith), at 5 (omega arith) (λ e. omega arith))
      (entries-before r l width (omega arith) ∙ ap (λ (n : ℕ). entries n (λ k. get_or r k (pos 0))) (sym e) ∙ entries-are r)

  written_after : (n : ℕ) → Natural (r ++ l) zero → numbers_of (gates_from l n zero) ≡ l → numbers_of (gates_from (r ++ l) (suc n) zero) ≡ r ++ l
  unfolding numbers_of gates_from
  written_after n f ih = ap₂ ◌++◌ (row_written f) (ap numbers_of (gates-after r l e n zero) ∙ ih)

  natural-after : (i : ℕ) → Natural (r ++ l) (suc i) → Natural l i
  natural-after i h k hk ht = rw (field-after r l e i k) at (h k hk ht)

written : (n : ℕ) (l : List ℤ) → length l ≡ width * n → ((i : ℕ) → i < n → Natural l i) → numbers_of (gates_from l n zero) ≡ l
unfolding numbers_of gates_from
written zero [] e h = refl
written zero (c ∷ l) e h = absurd (omega arith)
written (suc n) l e h =
    let r = take width l in
    let m = drop width l in
    let p : r ++ m ≡ l = take-append-drop width l in
    let er : length r ≡ width = length-take-le width l (omega arith) in
    let em : length m ≡ width * n = omega (arith, length-drop width l) in
    let hr : (i : ℕ) → i < suc n → Natural (r ++ m) i = λ i hi. rw p (h i hi) in
    let ih : numbers_of (gates_from m n zero) ≡ m = written n m em (λ i hi. natural-after r m er i (hr (suc i) (suc-le-suc hi))) in
    subst (λ (xs : List ℤ). numbers_of (gates_from xs (suc n) zero) ≡ xs) p (written_after r m er n (hr zero (suc-le-suc zero-le)) ih)

pub write-natural : (l : List ℤ) → length l % width ≡ 0 → ((i : ℕ) → i < length l / width → Natural l i) → numbers_of (gates_of l) ≡ l
unfolding gates_of
write-natural l e h = written (length l / width) l (omega arith) h
