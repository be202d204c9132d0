-- One round of each loop, over plain lists.
use mathlib.Core.Path.{◌≡◌, refl, sym, ap, ap₂, ◌∙◌}
use mathlib.Core.Logic.{◌⊎◌, inl, inr}
use mathlib.Core.Bool.{Bool, true, false, ◌&&◌, cond}
use mathlib.Core.List.{List, [], ◌∷◌, ◌++◌}
use mathlib.Core.Option.{none, some}
use Prim.Native.Nat.{ℕ, zero, suc, ◌+◌, ◌-◌, ◌≤◌, ◌<◌}
use native.Mathlib.Numerals.{add-one}
use native.Mathlib.Omega.{arith}
use lib.Dec.{eqb}
use lib.ListN.{length, get_or, set, take}
use lib.Pointwise.{pointwise}
use lib.Seq.{set-get_or, get_or-set_other, take-suc, take-suc-set, take_all}
use Rattle.rules.specs.Bit.{bit, xor}
use Rattle.rules.specs.Close.{add_to, swap, first_with, units, Pairs, clear_both, invert_from, inverse, eq_rows}
use borrow.Author.Tests.{ne_eqb}
use Rattle.rules.proofs.Bits.{same, eqb-self}
use Rattle.parity.proofs.Laws.{xor_zero_r}
use Rattle.parity.specs.declared.Parity.{Parity}
use Rattle.parity.specs.View.{val}
use Rattle.rows.specs.Rows.{rows_of, other_has, pair}

-- ---- a list filled from the front is the first r elements of the list wanted

module _ (all m : List ℕ) (r : ℕ) (h : take r m ≡ take r all) where
  pub fill-next : (x : ℕ) → r < length m → r < length all → x ≡ get_or all r 0 → take (r + 1) (set m r x) ≡ take (r + 1) all
  fill-next x l k e =
      rw (add-one r) (take-suc-set m r x l ∙ ap₂ (λ (xs : List ℕ) (y : ℕ). xs ++ (y ∷ [])) h e ∙ sym (take-suc all r 0 k))

  pub fill_end : length m ≤ r → length all ≤ r → m ≡ all
  fill_end l k = sym (take_all r m l) ∙ h ∙ take_all r all k

-- ---- a row that is added to, or not

-- the store that leaves the row as it is
still : (r : ℕ) (m : List ℕ) → set m r (xor (get_or m r 0) 0) ≡ m
still r m = ap (set m r) (xor_zero_r (get_or m r 0)) ∙ set-get_or m r 0

pub kept-add : (keep : Bool) (c r : ℕ) (m : List ℕ) → set m r (xor (get_or m r 0) (cond keep (get_or m c 0) 0)) ≡ cond keep (add_to c r m) m
unfolding add_to
kept-add true c r m = refl
kept-add false c r m = still r m

-- row c itself is never added to
pub pivot-stays : (keep : Bool) (c r x p : ℕ) (m : List ℕ) → keep ≡ other_has c r x → get_or (set m r (xor (get_or m r 0) (cond keep p 0))) c 0 ≡ get_or m c 0
pivot-stays keep c r x p m k =
    same r c
    (λ e f. rw (k, f) (ap (λ (l : List ℕ). get_or l c 0) (still r m)))
    (λ e f. get_or-set_other m r c _ 0 (λ q. e (sym q)))

module _ (n c r : ℕ) (a b : List ℕ) where
  pub clear_next : (keep : Bool) (p q : ℕ) → r < n → get_or a c 0 ≡ p → get_or b c 0 ≡ q → keep ≡ other_has c r (get_or a r 0)
      → clear_both c (n - r) r (pair a b)
      ≡ clear_both c (n - (r + 1)) (r + 1)
      (pair (set a r (xor (get_or a r 0) (cond keep p 0))) (set b r (xor (get_or b r 0) (cond keep q 0))))
  unfolding clear_both
  clear_next keep p q l ep eq k =
      let e : n - r ≡ suc (n - (r + 1)) = omega arith in
      let both : Bool → Pairs = λ z. cond z (pair (add_to c r a) (add_to c r b)) (pair a b) in
      ap (λ (j : ℕ). clear_both c j r (pair a b)) e
      ∙ ap₂ (λ (z : Bool) (s : ℕ). clear_both c (n - (r + 1)) s (both z)) (sym k) (sym (add-one r))
      ∙ ap (clear_both c (n - (r + 1)) (r + 1))
      (go keep ∙ ap₂ pair (sym (kept-add keep c r a)) (sym (kept-add keep c r b)) ∙ rw (ep, eq))
    where
      go : (z : Bool) → cond z (pair (add_to c r a) (add_to c r b)) (pair a b)
          ≡ pair (cond z (add_to c r a) a) (cond z (add_to c r b) b)
      go true = refl
      go false = refl

  pub clear-end : n ≤ r → clear_both c (n - r) r (pair a b) ≡ pair a b
  unfolding clear_both
  clear-end l = let e : n - r ≡ 0 = omega arith in rw e

-- a row of a part that column c is none of: its bit alone decides
pub another : (c r x from to : ℕ) → from ≤ r → r < to → (c < from) ⊎ (to ≤ c) → bit x c ≡ other_has c r x
another c r x from to l h (inl k) = rw (ne_eqb r c (λ e. omega arith))
another c r x from to l h (inr k) = rw (ne_eqb r c (λ e. omega arith))

clear-parts : (c j k r : ℕ) (m : Pairs) → clear_both c (j + k) r m ≡ clear_both c k (r + j) (clear_both c j r m)
unfolding clear_both
clear-parts c zero k r m =
    let e : zero + k ≡ k = omega arith in
    let f : r + zero ≡ r = omega arith in
    rw (e, f)
clear-parts c (suc j) k r m =
    let e : suc j + k ≡ suc (j + k) = omega arith in
    let f : r + suc j ≡ suc r + j = omega arith in
    rw (e, f) (clear-parts c j k (suc r) _)

clear_self : (c k : ℕ) (m : Pairs) → clear_both c (suc k) c m ≡ clear_both c k (c + 1) m
unfolding clear_both
clear_self c k m = rw (add-one c, eqb-self c)

-- the rows above row c, then those below it
pub clear-around : (n c : ℕ) (m : Pairs) → c < n → clear_both c n 0 m ≡ clear_both c (n - (c + 1)) (c + 1) (clear_both c (c - 0) 0 m)
clear-around n c m h =
    let e : n ≡ c + suc (n - (c + 1)) = omega arith in
    let f : 0 + c ≡ c = omega arith in
    let g : c ≡ c - 0 = omega arith in
    ap (λ (k : ℕ). clear_both c k 0 m) e
    ∙ clear-parts c c (suc (n - (c + 1))) 0 m
    ∙ ap (λ (r : ℕ). clear_both c (suc (n - (c + 1))) r (clear_both c c 0 m)) f
    ∙ clear_self c (n - (c + 1)) (clear_both c c 0 m)
    ∙ ap (λ (k : ℕ). clear_both c (n - (c + 1)) (c + 1) (clear_both c k 0 m)) g

-- ---- a column of the inverse

module _ (n c : ℕ) (a b : List ℕ) where
  pub invert-end : n ≤ c → invert_from n (n - c) c (pair a b) ≡ some b
  unfolding invert_from
  invert-end l = let e : n - c ≡ 0 = omega arith in rw e

  pub invert-stop : c < n → first_with c (n - c) c a ≡ none → invert_from n (n - c) c (pair a b) ≡ none
  unfolding invert_from
  invert-stop l f =
      let e : n - c ≡ suc (n - (c + 1)) = omega arith in
      ap (λ (k : ℕ). invert_from n k c (pair a b)) e ∙ rw f

  -- the rows after the exchange, and after the clearing
  pub invert-next : (r : ℕ) (a₁ b₁ a₂ b₂ : List ℕ) → c < n → length a₁ ≡ n → first_with c (n - c) c a ≡ some r → a₁ ≡ swap c r a → b₁ ≡ swap c r b
      → pair a₂ b₂ ≡ clear_both c (length a₁) 0 (pair a₁ b₁) → invert_from n (n - c) c (pair a b) ≡ invert_from n (n - (c + 1)) (c + 1) (pair a₂ b₂)
  unfolding invert_from
  invert-next r a₁ b₁ a₂ b₂ l k f ea eb g =
      let e : n - c ≡ suc (n - (c + 1)) = omega arith in
      let m : pair a₂ b₂ ≡ clear_both c n 0 (pair (swap c r a) (swap c r b)) = cc in
      ap (λ (j : ℕ). invert_from n j c (pair a b)) e ∙ rw (f, m, add-one c)

pub invert-start : (a b : List ℕ) → b ≡ units (length a) 0 → inverse a ≡ invert_from (length a) (length a - 0) 0 (pair a b)
unfolding inverse
invert-start a b e =
    let s : length a - 0 ≡ length a = omega arith in
    rw (s, e)

-- ---- rows compared

pub rows_same : (xs ys : List Parity) → pointwise (λ a b. eqb (val a) (val b)) xs ys ≡ eq_rows (rows_of xs) (rows_of ys)
unfolding eq_rows
rows_same [] [] = refl
rows_same [] (y ∷ ys) = refl
rows_same (x ∷ xs) [] = refl
rows_same (x ∷ xs) (y ∷ ys) = ap (λ (r : Bool). eqb (val x) (val y) && r) (rows_same xs ys)
