-- The test of one wire's sums, and those of all wires: they tell what `quiet` tells.
use mathlib.Core.Path.{◌≡◌, refl, sym, ap, ap₂, ◌∙◌}
use mathlib.Core.Bool.{Bool, true, false, not, ◌&&◌, ◌||◌}
use mathlib.Core.List.{List, [], ◌∷◌}
use Prim.Native.Nat.{ℕ, zero, suc, ◌+◌, ◌/◌, ◌%◌, ◌≤◌, ◌<◌}
use native.Mathlib.Nat.{le_refl, le-suc, le_trans, mod-mod, mod-lt, zero-lt-suc}
use native.Mathlib.Numerals.{add-one}
use native.Mathlib.Omega.{arith}
use lib.ListN.{get_or, length, take}
use lib.Seq.{take-suc}
use lib.Dec.{eqb, ltb}
use borrow.Author.Tests.{eqb-true, eq-eqb, ne_eqb, not-true, ltb-true, ltb-false}
use Rattle.rules.specs.Bit.{bit}
use Rattle.rules.specs.Fold.{Term}
use Rattle.rules.proofs.Bits.{split, same, and_left, and_right}
use Rattle.parity.specs.View.{val, none}
use Rattle.parity.specs.declared.Parity.{Parity}
use Rattle.rows.specs.Rows.{rows_of}
use Rattle.rows.proofs.Room.{row_get}
use Rattle.std.specs.List.{list_all}
use Rattle.std.proofs.lemmas.List.Folds.{list_all-append}
use Rattle.acting.specs.Alike.{each}
use Rattle.acting.specs.Table.{total, quiet}
use Rattle.acting.proofs.Deciding.{each-true, true-each}
use Rattle.acting.proofs.Turns.{Even, quiet-even, even-quiet, total_ext}
use Rattle.lanes.specs.Lanes.{half, near, two, three, odd, Holds, even_rows, settled_of, Settles}
use Rattle.lanes.specs.declared.Lanes.{Lanes}
use Rattle.acting.proofs.Computing.{agree}

-- ---- all of a range

pub each-ext : (n : ℕ) (f g : ℕ → Bool) → ((j : ℕ) → j < n → f j ≡ g j) → each n f ≡ each n g
unfolding each
each-ext zero f g h = refl
each-ext (suc n) f g h = ap₂ (λ (x y : Bool). x && y) (h n (le_refl (suc n))) (each-ext n f g (λ j l. h j (le_trans l (le-suc n))))

module _ (P : ℕ → Bool) where
  pub each-stop : (n j : ℕ) → j < n → P j ≡ false → false ≡ each n P
  each-stop n j h e = split (each n P) (λ t. absurd (mathlib.Core.Bool.false≢true (sym e ∙ each-true n P t j h))) (λ t. sym t)

  pub each_next : (j : ℕ) → each j P ≡ true → P j ≡ true → each (j + 1) P ≡ true
  unfolding each
  each_next j h e = rw (add-one j, e) h

  pub each-end : (n j : ℕ) → n ≤ j → j ≤ n → each j P ≡ true → true ≡ each n P
  each-end n j h k e = let z : j ≡ n = omega arith in rw (← z) (sym e)

pub none_yet : (P : ℕ → Bool) → each zero P ≡ true
unfolding each
none_yet P = refl

-- the rows up to m, one after the other
and-swap : (a b : Bool) → (a && (b && true)) ≡ (b && a)
and-swap true true = refl
and-swap true false = refl
and-swap false true = refl
and-swap false false = refl

all-each : (f : Parity → Bool) (xs : List Parity) (m : ℕ) → m ≤ length xs → list_all f (take m xs) ≡ each m (λ j. f (get_or xs j none))
unfolding each
all-each f xs zero l = refl
all-each f xs (suc m) l =
    ap (list_all f) (take-suc xs m none l) ∙ list_all-append f (take m xs) (get_or xs m none ∷ []) ∙ and-swap (list_all f (take m xs)) (f (get_or xs m none))
    ∙ ap (λ (b : Bool). f (get_or xs m none) && b) (all-each f xs m (omega arith))

pub rows_even : (m n : ℕ) (xs : List Parity) → m ≤ length xs → list_all (λ p. each n (λ k. not (bit (val p) k))) (take m xs) ≡ even_rows m n (rows_of xs)
unfolding even_rows
rows_even m n xs l =
    all-each (λ p. each n (λ k. not (bit (val p) k))) xs m l
    ∙ each-ext m _ _ (λ j k. ap (λ (z : ℕ). each n (λ i. not (bit z i))) (sym (row_get xs j)))

-- ---- one wire

-- the two digits of a number are 0
fourth : (m : ℕ) → not (odd m || odd (m / 2)) ≡ eqb (m % 4) 0
unfolding odd
fourth m =
    same (m % 2) 1
    (λ e f. rw f (sym (ne_eqb (m % 4) 0 (λ k. omega arith))))
    (λ e f. rw f (same (m / 2 % 2) 1 (λ g h. rw h (sym (ne_eqb (m % 4) 0 (λ k. omega arith))))
    (λ g h. rw h (sym (eq-eqb (m % 4) 0 (omega (arith, mod-lt m {m = 2} (zero-lt-suc 1), mod-lt (m / 2) {m = 2} (zero-lt-suc 1))))))))

pub settles : (i n : ℕ) (s : Lanes) (both : ℕ) (x y r : Bool) → ((j : ℕ) → bit both j ≡ (bit (val s.low) j || bit (val s.high) j))
    → x ≡ each i (λ j. not (bit both j)) → y ≡ even_rows (i % half) n (rows_of s.odds) → r ≡ (eqb (s.turn % 8) 0 && (x && y)) → Settles i n s r
unfolding even_rows settled_of
settles i n s both x y r hb ex ey er = record { tells = tells }
  where
    tells : (ts : List Term) → Holds i ts s → r ≡ settled_of i n ts
    tells ts h =
        let one : eqb (s.turn % 8) 0 ≡ eqb (total (λ p. bit p i) ts % 8) 0 = ap (λ (z : ℕ). eqb z 0) (ap (λ (z : ℕ). z % 8) h.turn ∙ mod-mod (total (λ p. bit p i) ts) 8) in
        let pairs : x ≡ each i (λ j. eqb (total (two i j) ts % 4) 0) =
        ex ∙ each-ext i (λ j. not (bit both j)) (λ j. eqb (total (two i j) ts % 4) 0)
        (λ j l. ap not (hb j ∙ ap₂ (λ (a b : Bool). a || b) (h.low j) (h.high j)) ∙ fourth (total (two i j) ts)) in
        let triples : y ≡ each (i % half) (λ j. each n (λ k. not (odd (total (three i (near i j) k) ts)))) =
        ey ∙ each-ext (i % half) (λ j. each n (λ k. not (bit (get_or (rows_of s.odds) j zero) k))) (λ j. each n (λ k. not (odd (total (three i (near i j) k) ts))))
        (λ j l. each-ext n (λ k. not (bit (get_or (rows_of s.odds) j zero) k)) (λ k. not (odd (total (three i (near i j) k) ts))) (λ k m. ap not (h.rows j k l))) in
        er ∙ ap₂ (λ (a b : Bool). a && b) one (ap₂ (λ (a b : Bool). a && b) pairs triples)

-- ---- all wires: of any three, two are of one word

module _ (ts : List Term) where
  even_odd : (m : ℕ) → m % 2 ≡ 0 → odd m ≡ false
  unfolding odd
  even_odd m e = ne_eqb (m % 2) 1 (λ k. omega arith)

  odd_even : (m : ℕ) → odd m ≡ false → m % 2 ≡ 0
  unfolding odd
  odd_even m e = same (m % 2) 1 (λ h k. absurd (mathlib.Core.Bool.false≢true (sym e ∙ k))) (λ h k. omega (arith, mod-lt m {m = 2} (zero-lt-suc 1)))

  abbrev sum3 : ℕ → ℕ → ℕ → ℕ
  sum3 i j k = total (three i j k) ts

  -- the order of three wires doesn't matter, and one of them twice is two
  turn-round : (i j k : ℕ) → sum3 i j k ≡ sum3 k i j
  turn-round i j k = total_ext (three i j k) (three k i j) ts (λ p. go (bit p i) (bit p j) (bit p k))
    where
      go : (x y z : Bool) → (x && y && z) ≡ (z && x && y)
      go true true true = refl
      go true true false = refl
      go true false true = refl
      go true false false = refl
      go false true true = refl
      go false true false = refl
      go false false true = refl
      go false false false = refl

  swap-last : (i j k : ℕ) → sum3 i j k ≡ sum3 i k j
  swap-last i j k = total_ext (three i j k) (three i k j) ts (λ p. go (bit p i) (bit p j) (bit p k))
    where
      go : (x y z : Bool) → (x && y && z) ≡ (x && z && y)
      go true true true = refl
      go true true false = refl
      go true false true = refl
      go true false false = refl
      go false y z = refl

  first-twice : (i j : ℕ) → sum3 i j i ≡ total (two i j) ts
  first-twice i j = total_ext (three i j i) (two i j) ts (λ p. go (bit p i) (bit p j))
    where
      go : (x y : Bool) → (x && y && x) ≡ (x && y)
      go true true = refl
      go true false = refl
      go false y = refl

  second-twice : (i j : ℕ) → sum3 i j j ≡ total (two i j) ts
  second-twice i j = total_ext (three i j j) (two i j) ts (λ p. go (bit p i) (bit p j))
    where
      go : (x y : Bool) → (x && y && y) ≡ (x && y)
      go true true = refl
      go true false = refl
      go false y = refl

  -- any third wire below n, with i and a lower j
  third-even : (n i j k : ℕ) → Even n ts → i < n → j < i → k < n → sum3 i j k % 2 ≡ 0
  third-even n i j k h l m o =
      same k i (λ e f. rw e (ap (λ (z : ℕ). z % 2) (first-twice i j) ∙ quarter (total (two i j) ts) (h.two i j l m)))
      (λ ni f. same k j (λ e g. rw e (ap (λ (z : ℕ). z % 2) (second-twice i j) ∙ quarter (total (two i j) ts) (h.two i j l m)))
      (λ nj g. split (ltb k j) (λ t. h.three i j k l m (ltb-true k j t))
      (λ t. let jk : j ≤ k = ltb-false k j t in
      split (ltb k i) (λ u. ap (λ (z : ℕ). z % 2) (swap-last i j k) ∙ h.three i k j l (ltb-true k i u) (omega arith))
      (λ u. let ik : i ≤ k = ltb-false k i u in ap (λ (z : ℕ). z % 2) (turn-round i j k) ∙ h.three k i j o (omega arith) m))))
    where
      quarter : (m : ℕ) → m % 4 ≡ 0 → m % 2 ≡ 0
      quarter m e = omega arith

  abbrev triples : ℕ → ℕ → Bool
  triples i n = each (i % half) (λ j. each n (λ k. not (odd (sum3 i (near i j) k))))

  abbrev pairs : ℕ → Bool
  pairs i = each i (λ j. eqb (total (two i j) ts % 4) 0)

  abbrev alone : ℕ → Bool
  alone i = eqb (total (λ p. bit p i) ts % 8) 0

  even-settled : (n i : ℕ) → Even n ts → i < n → settled_of i n ts ≡ true
  unfolding settled_of
  even-settled n i h l =
      rw (
        eq-eqb (total (λ p. bit p i) ts % 8) 0 (h.one i l),
        true-each i (λ j. eqb (total (two i j) ts % 4) 0) (λ j m. eq-eqb (total (two i j) ts % 4) 0 (h.two i j l m)),
      )
      (true-each (i % half) (λ j. each n (λ k. not (odd (sum3 i (near i j) k))))
      (λ j m. true-each n (λ k. not (odd (sum3 i (near i j) k))) (λ k o. ap not (even_odd (sum3 i (near i j) k) (third-even n i (near i j) k h l (omega arith) o)))))

  module _ (n : ℕ) (few : n ≤ 128) (all : (i : ℕ) → i < n → settled_of i n ts ≡ true) where
    one : (i : ℕ) → i < n → total (λ p. bit p i) ts % 8 ≡ 0
    unfolding settled_of
    one i l = eqb-true (total (λ p. bit p i) ts % 8) 0 (and_left (alone i) (pairs i && triples i n) (all i l))

    two-even : (i j : ℕ) → i < n → j < i → total (two i j) ts % 4 ≡ 0
    unfolding settled_of
    two-even i j l m =
        eqb-true (total (two i j) ts % 4) 0
        (each-true i (λ j. eqb (total (two i j) ts % 4) 0) (and_left (pairs i) (triples i n) (and_right (alone i) (pairs i && triples i n) (all i l))) j m)

    -- with a second wire of the same word
    word_even : (i j k : ℕ) → i < n → j < i → i / half ≡ j / half → k < n → sum3 i j k % 2 ≡ 0
    unfolding settled_of
    word_even i j k l m w o =
        let e : near i (j % half) ≡ j = omega arith in
        let t : not (odd (sum3 i (near i (j % half)) k)) ≡ true =
        each-true n (λ k. not (odd (sum3 i (near i (j % half)) k)))
        (each-true (i % half) (λ j. each n (λ k. not (odd (sum3 i (near i j) k))))
        (and_right (pairs i) (triples i n) (and_right (alone i) (pairs i && triples i n) (all i l))) (j % half) (omega arith)) k o in
        odd_even (sum3 i j k) (not-true (odd (sum3 i j k)) (rw e at t))

    three-even : (i j k : ℕ) → i < n → j < i → k < j → sum3 i j k % 2 ≡ 0
    three-even i j k l m o =
        same (i / half) (j / half) (λ e f. word_even i j k l m e (omega arith))
        (λ e f. ap (λ (z : ℕ). z % 2) (sym (turn-round j k i)) ∙ word_even j k i (omega arith) o (omega arith) l)

    settled-even : Even n ts
    settled-even = record { one = one; two = two-even; three = three-even }

  pub settled-quiet : (n : ℕ) → n ≤ 128 → each n (λ i. settled_of i n ts) ≡ quiet n ts
  settled-quiet n few =
      agree (each n (λ i. settled_of i n ts)) (quiet n ts)
      (λ h. even-quiet n ts (settled-even n few (λ i l. each-true n (λ i. settled_of i n ts) h i l)))
      (λ h. true-each n (λ i. settled_of i n ts) (λ i l. even-settled n i (quiet-even n ts h) l))
