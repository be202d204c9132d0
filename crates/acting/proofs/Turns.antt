-- Turns that add nothing anywhere: the sums by one, two and three wires decide.
use mathlib.Core.Path.{◌≡◌, refl, sym, ap, ap₂, ◌∙◌, fun_ext}
use mathlib.Core.Logic.{◌↔◌}
use mathlib.Core.Bool.{Bool, true, false, ◌&&◌, and-false}
use mathlib.Core.List.{List, [], ◌∷◌}
use Prim.Native.Nat.{ℕ, zero, suc, ◌+◌, ◌*◌, ◌/◌, ◌%◌, ◌≤◌, ◌<◌}
use native.Mathlib.Nat.{le_refl, le-suc, le_trans, mul-mod_right, add_comm}
use native.Mathlib.Omega.{arith}
use lib.Dec.{eqb, ltb}
use borrow.Author.Tests.{eq-eqb, eqb-true, ne_eqb, le-ltb, ltb-false}
use Rattle.rules.specs.Bit.{◌⊕◌, bit, dot}
use Rattle.rules.specs.Meaning.{when1}
use Rattle.rules.specs.Fold.{Term}
use Rattle.rules.proofs.Bits.{split, and_left, and_right, sum-ext, sum-⊕}
use Rattle.acting.specs.Alike.{Setting, zeros, each}
use Rattle.acting.specs.Table.{total, quiet}
use Rattle.acting.proofs.Differences.{◌⊞◌, unit, cut, cut-zero, cut-without, cut-with}
use Rattle.acting.proofs.Deciding.{each-true, true-each}
use Rattle.acting.proofs.Tables.{dot-zeros, dot-one}

pub dot-plus : (n p : ℕ) (s u : Setting) → dot n p (s ⊞ u) ≡ (dot n p s ⊕ dot n p u)
unfolding dot
dot-plus n p s u =
    sum-ext n (λ i. bit p i && (s i ⊕ u i)) (λ i. (bit p i && s i) ⊕ (bit p i && u i)) (λ i k. go (bit p i) (s i) (u i)) ∙ sum-⊕ n (λ i. bit p i && s i) (λ i. bit p i && u i)
  where
    go : (a b c : Bool) → (a && (b ⊕ c)) ≡ ((a && b) ⊕ (a && c))
    go true b c = refl
    go false b c = refl

-- selections that agree make the same sum
pub total_ext : (f g : ℕ → Bool) (ts : List Term) → ((p : ℕ) → f p ≡ g p) → total f ts ≡ total g ts
unfolding total
total_ext f g [] h = refl
total_ext f g (t ∷ ts) h = ap₂ (λ (b : Bool) (r : ℕ). when1 b t.turn + r) (h t.parity) (total_ext f g ts h)

pub total-none : (f : ℕ → Bool) (ts : List Term) → ((p : ℕ) → f p ≡ false) → total f ts ≡ zero
unfolding total
total-none f [] h = refl
total-none f (t ∷ ts) h = ap₂ (λ (b : Bool) (r : ℕ). when1 b t.turn + r) (h t.parity) (total-none f ts h)

-- every turn twice
unfoldable pub doubled : List Term → List Term
doubled [] = []
doubled (t ∷ ts) = record { parity = t.parity; turn = 2 * t.turn } ∷ doubled ts

total-doubled : (f : ℕ → Bool) (ts : List Term) → total f (doubled ts) ≡ 2 * total f ts
unfolding total doubled
total-doubled f [] = refl
total-doubled f (t ∷ ts) = rw (total-doubled f ts) (go (f t.parity) t.turn (total f ts))
  where
    go : (b : Bool) (k r : ℕ) → when1 b (2 * k) + 2 * r ≡ 2 * (when1 b k + r)
    go true k r = omega arith
    go false k r = omega arith

-- a + b is the sum's bit and twice the product: exact, no modulus
total-sum : (f g : ℕ → Bool) (sel : ℕ → Bool) (ts : List Term)
    → total (λ p. sel p && (f p ⊕ g p)) ts + 2 * total (λ p. sel p && g p && f p) ts ≡ total (λ p. sel p && f p) ts + total (λ p. sel p && g p) ts
unfolding total
total-sum f g sel [] = refl
total-sum f g sel (t ∷ ts) =
    go (sel t.parity) (f t.parity) (g t.parity) t.turn (total (λ p. sel p && (f p ⊕ g p)) ts) (total (λ p. sel p && g p && f p) ts)
    (total (λ p. sel p && f p) ts) (total (λ p. sel p && g p) ts) (total-sum f g sel ts)
  where
    go : (e a b : Bool) (k x w y z : ℕ) → x + 2 * w ≡ y + z
        → when1 (e && (a ⊕ b)) k + x + 2 * (when1 (e && b && a) k + w) ≡ when1 (e && a) k + y + (when1 (e && b) k + z)
    go true true true k x w y z h = omega arith
    go true true false k x w y z h = omega arith
    go true false true k x w y z h = omega arith
    go true false false k x w y z h = omega arith
    go false true true k x w y z h = omega arith
    go false true false k x w y z h = omega arith
    go false false true k x w y z h = omega arith
    go false false false k x w y z h = omega arith

-- ---- settings of the first wires

cut_keeps : (m : ℕ) (x : Setting) → ((q : ℕ) → m ≤ q → x q ≡ false) → cut m x ≡ x
cut_keeps m x h = fun_ext (λ q. split (ltb q m) (λ e. ap (λ (z : Bool). z && x q) e) (λ e. ap (λ (z : Bool). z && x q) e ∙ sym (h q (ltb-false q m e))))

cut-zeros : (m : ℕ) → cut m zeros ≡ zeros
cut-zeros m = fun_ext (λ q. and-false (ltb q m))

cut_low : (i m : ℕ) (s : Setting) → i < m → cut m (cut i s) ≡ cut i s
cut_low i m s l = cut_keeps m (cut i s) (λ q k. rw (le-ltb q i (omega arith)))

cut-one : (i m : ℕ) (s : Setting) → i < m → cut m (cut i s ⊞ unit i) ≡ (cut i s ⊞ unit i)
cut-one i m s l = cut_keeps m (cut i s ⊞ unit i) (λ q k. rw (le-ltb q i (omega arith), ne_eqb q i (λ e. omega arith)))

-- three of four vanish
last : (x w y z : ℕ) → x + w ≡ y + z → x % 8 ≡ 0 → y % 8 ≡ 0 → z % 8 ≡ 0 → w % 8 ≡ 0
last x w y z e f g h = one x w f ∙ ap (λ (u : ℕ). u % 8) e ∙ sym (one y z g) ∙ h
  where
    one : (x w : ℕ) → x % 8 ≡ 0 → w % 8 ≡ (x + w) % 8
    one x w f = omega arith

-- ---- one wire after the other

module _ (n : ℕ) where
  abbrev load : (ℕ → Bool) → List Term → Setting → ℕ
  load sel ts s = total (λ p. sel p && dot n p s) ts

  -- the selected turns add nothing on the first m wires
  unfoldable pub Silent : ℕ → (ℕ → Bool) → List Term → Type 0
  Silent m sel ts = (s : Setting) → load sel ts (cut m s) % 8 ≡ 0

  load-zeros : (sel : ℕ → Bool) (ts : List Term) → load sel ts zeros ≡ zero
  load-zeros sel ts = total-none (λ p. sel p && dot n p zeros) ts (λ p. ap (λ (z : Bool). sel p && z) (dot-zeros n p) ∙ and-false (sel p))

  -- the wire i more: its own turns, less twice those that stand on odd parities too
  load-plus : (sel : ℕ → Bool) (ts : List Term) (i : ℕ) (s : Setting) → i < n
      → load sel ts (s ⊞ unit i) + load (λ p. sel p && bit p i) (doubled ts) s ≡ load sel ts s + total (λ p. sel p && bit p i) ts
  load-plus sel ts i s l =
      ap₂ ◌+◌ (total_ext (λ p. sel p && dot n p (s ⊞ unit i)) (λ p. sel p && (dot n p s ⊕ bit p i)) ts
      (λ p. ap (λ (z : Bool). sel p && z) (dot-plus n p s (unit i) ∙ ap (λ (z : Bool). dot n p s ⊕ z) (dot-one n p i l))))
      (total-doubled (λ p. sel p && bit p i && dot n p s) ts)
      ∙ total-sum (λ p. dot n p s) (λ p. bit p i) sel ts

  -- both ways, a wire at a time
  silent-down : (m : ℕ) (sel : ℕ → Bool) (ts : List Term) → m ≤ n → Silent m sel ts
      → (i : ℕ) → i < m → (total (λ p. sel p && bit p i) ts % 8 ≡ 0) × Silent i (λ p. sel p && bit p i) (doubled ts)
  unfolding Silent
  silent-down m sel ts l h i k =
      let own : total (λ p. sel p && bit p i) ts % 8 ≡ 0 =
      alone (load sel ts (cut i zeros ⊞ unit i)) (load (λ p. sel p && bit p i) (doubled ts) (cut i zeros)) (load sel ts (cut i zeros)) (total (λ p. sel p && bit p i) ts)
      (step zeros) (at-zeros (cut-zeros i)) (with-one zeros) in (
        own,
        λ s. last (load sel ts (cut i s ⊞ unit i)) (load (λ p. sel p && bit p i) (doubled ts) (cut i s)) (load sel ts (cut i s)) (total (λ p. sel p && bit p i) ts)
            (step s) (with-one s) (low s) own,
      )
    where
      step : (s : Setting) → load sel ts (cut i s ⊞ unit i) + load (λ p. sel p && bit p i) (doubled ts) (cut i s) ≡ load sel ts (cut i s) + total (λ p. sel p && bit p i) ts
      step s = load-plus sel ts i (cut i s) (le_trans k l)

      low : (s : Setting) → load sel ts (cut i s) % 8 ≡ 0
      low s = ap (λ (z : Setting). load sel ts z % 8) (sym (cut_low i m s k)) ∙ h (cut i s)

      with-one : (s : Setting) → load sel ts (cut i s ⊞ unit i) % 8 ≡ 0
      with-one s = ap (λ (z : Setting). load sel ts z % 8) (sym (cut-one i m s k)) ∙ h (cut i s ⊞ unit i)

      at-zeros : cut i zeros ≡ zeros → (load sel ts (cut i zeros) ≡ zero) × (load (λ p. sel p && bit p i) (doubled ts) (cut i zeros) ≡ zero)
      at-zeros e = rw e (load-zeros sel ts, load-zeros (λ p. sel p && bit p i) (doubled ts))

      alone : (x w y z : ℕ) → x + w ≡ y + z → (y ≡ zero) × (w ≡ zero) → x % 8 ≡ 0 → z % 8 ≡ 0
      alone x w y z e f g = let k : z ≡ x = omega arith in ap (λ (u : ℕ). u % 8) k ∙ g

  silent-up : (m : ℕ) (sel : ℕ → Bool) (ts : List Term) → m ≤ n
      → ((i : ℕ) → i < m → (total (λ p. sel p && bit p i) ts % 8 ≡ 0) × Silent i (λ p. sel p && bit p i) (doubled ts)) → Silent m sel ts
  unfolding Silent
  silent-up zero sel ts l h s = ap (λ (z : Setting). load sel ts z % 8) (cut-zero s) ∙ ap (λ (z : ℕ). z % 8) (load-zeros sel ts)
  silent-up (suc m) sel ts l h s =
      let low : load sel ts (cut m s) % 8 ≡ 0 = silent-up m sel ts (le_trans (le-suc m) l) (λ i k. h i (le_trans k (le-suc m))) s in
      split (s m)
      (λ e. ap (λ (z : Setting). load sel ts z % 8) (cut-with m s e)
      ∙ last (load (λ p. sel p && bit p m) (doubled ts) (cut m s)) (load sel ts (cut m s ⊞ unit m)) (load sel ts (cut m s)) (total (λ p. sel p && bit p m) ts)
      (add_comm (load (λ p. sel p && bit p m) (doubled ts) (cut m s)) (load sel ts (cut m s ⊞ unit m)) ∙ load-plus sel ts m (cut m s) l)
      ((h m (le_refl (suc m))).1 s) low (h m (le_refl (suc m))).0)
      (λ e. ap (λ (z : Setting). load sel ts z % 8) (cut-without m s e) ∙ low)

-- ---- three wires suffice

half : (f : ℕ → Bool) (ts : List Term) → (total f (doubled ts) % 8 ≡ 0) ↔ (total f ts % 4 ≡ 0)
half f ts = rw (total-doubled f ts) (to (total f ts), from (total f ts))
  where
    to : (x : ℕ) → 2 * x % 8 ≡ 0 → x % 4 ≡ 0
    to x h = let e : x ≡ 4 * (2 * x / 8) = omega arith in ap (λ (z : ℕ). z % 4) e ∙ mul-mod_right 4 (2 * x / 8)

    from : (x : ℕ) → x % 4 ≡ 0 → 2 * x % 8 ≡ 0
    from x h = omega arith

quarter : (f : ℕ → Bool) (ts : List Term) → (total f (doubled (doubled ts)) % 8 ≡ 0) ↔ (total f ts % 2 ≡ 0)
quarter f ts = rw (total-doubled f (doubled ts), total-doubled f ts) (to (total f ts), from (total f ts))
  where
    to : (x : ℕ) → 2 * (2 * x) % 8 ≡ 0 → x % 2 ≡ 0
    to x h = let e : x ≡ 2 * (2 * (2 * x) / 8) = omega arith in ap (λ (z : ℕ). z % 2) e ∙ mul-mod_right 2 (2 * (2 * x) / 8)

    from : (x : ℕ) → x % 2 ≡ 0 → 2 * (2 * x) % 8 ≡ 0
    from x h = omega arith

eighth : (f : ℕ → Bool) (ts : List Term) → total f (doubled (doubled (doubled ts))) % 8 ≡ 0
eighth f ts = rw (total-doubled f (doubled (doubled ts)), total-doubled f (doubled ts), total-doubled f ts) (go (total f ts))
  where
    go : (x : ℕ) → 2 * (2 * (2 * x)) % 8 ≡ 0
    go x = omega arith

-- the sums of the turns on a wire, on two, on three
pub record Even (n : ℕ) (ts : List Term) : Type 0 where
  pub one : (i : ℕ) → i < n → total (λ p. bit p i) ts % 8 ≡ 0
  pub two : (i j : ℕ) → i < n → j < i → total (λ p. bit p i && bit p j) ts % 4 ≡ 0
  pub three : (i j k : ℕ) → i < n → j < i → k < j → total (λ p. bit p i && bit p j && bit p k) ts % 2 ≡ 0

below : (j i n : ℕ) → j < i → i ≤ n → j ≤ n
below j i n h k = omega arith

pub silent-even : (n : ℕ) (ts : List Term) → Silent n n (λ p. true) ts → Even n ts
silent-even n ts h =
    let a = silent-down n n (λ p. true) ts (le_refl n) h in
    let b : (i j : ℕ) → i < n → j < i → (total (λ p. bit p i && bit p j) (doubled ts) % 8 ≡ 0) × Silent n j (λ p. bit p i && bit p j) (doubled (doubled ts)) =
    λ i j l k. silent-down n i (λ p. bit p i) (doubled ts) (omega arith) (a i l).1 j k in
    record {
      one = λ i l. (a i l).0;
      two = λ i j l k. (half (λ p. bit p i && bit p j) ts).0 (b i j l k).0;
      three = λ i j k l m o. (quarter (λ p. bit p i && bit p j && bit p k) ts).0
          (silent-down n j (λ p. bit p i && bit p j) (doubled (doubled ts)) (omega arith) (b i j l m).1 k o).0;
    }

pub even-silent : (n : ℕ) (ts : List Term) → Even n ts → Silent n n (λ p. true) ts
unfolding Silent
even-silent n ts h =
    silent-up n n (λ p. true) ts (le_refl n) (λ i l. (
      h.one i l,
      silent-up n i (λ p. bit p i) (doubled ts) (omega arith) (λ j k. (
        (half (λ p. bit p i && bit p j) ts).1 (h.two i j l k),
        silent-up n j (λ p. bit p i && bit p j) (doubled (doubled ts)) (omega arith) (λ m o. (
          (quarter (λ p. bit p i && bit p j && bit p m) ts).1 (h.three i j m l k o),
          λ s. eighth (λ p. bit p i && bit p j && bit p m && dot n p (cut m s)) ts,
        )),
      )),
    ))

pub quiet-even : (n : ℕ) (ts : List Term) → quiet n ts ≡ true → Even n ts
unfolding quiet
quiet-even n ts h = record {
  one = λ i l. eqb-true (A i) 0 (and_left (eqb (A i) 0) (each i (Q i)) (each-true n P h i l));
  two = λ i j l k. eqb-true (B i j) 0 (and_left (eqb (B i j) 0) (each j (C i j)) (inner i j l k));
  three = λ i j k l m o. eqb-true (total (λ p. bit p i && bit p j && bit p k) ts % 2) 0 (each-true j (C i j) (and_right (eqb (B i j) 0) (each j (C i j)) (inner i j l m)) k o);
}
  where
    A : ℕ → ℕ
    A i = total (λ p. bit p i) ts % 8

    B : ℕ → ℕ → ℕ
    B i j = total (λ p. bit p i && bit p j) ts % 4

    C : ℕ → ℕ → ℕ → Bool
    C i j k = eqb (total (λ p. bit p i && bit p j && bit p k) ts % 2) 0

    Q : ℕ → ℕ → Bool
    Q i j = eqb (B i j) 0 && each j (C i j)

    P : ℕ → Bool
    P i = eqb (A i) 0 && each i (Q i)

    inner : (i j : ℕ) → i < n → j < i → Q i j ≡ true
    inner i j l k = each-true i (Q i) (and_right (eqb (A i) 0) (each i (Q i)) (each-true n P h i l)) j k

pub even-quiet : (n : ℕ) (ts : List Term) → Even n ts → quiet n ts ≡ true
unfolding quiet
even-quiet n ts h =
    true-each n _ (λ i l. both (eq-eqb (total (λ p. bit p i) ts % 8) 0 (h.one i l))
    (true-each i _ (λ j k. both (eq-eqb (total (λ p. bit p i && bit p j) ts % 4) 0 (h.two i j l k))
    (true-each j _ (λ m o. eq-eqb (total (λ p. bit p i && bit p j && bit p m) ts % 2) 0 (h.three i j m l k o))))))
  where
    both : {a b : Bool} → a ≡ true → b ≡ true → (a && b) ≡ true
    both {a} {b} e f = rw (e, f)
