-- The closing map: after its CNOTs the wires hold the wanted parities.
use mathlib.Core.Path.{◌≡◌, refl, sym, ap, ap₂, ◌∙◌, subst, fun_ext}
use mathlib.Core.Logic.{◌≢◌}
use mathlib.Core.Bool.{Bool, true, false, not, ◌&&◌, cond, false≢true}
use mathlib.Core.List.{List, [], ◌∷◌, ◌++◌, map, reverse, reverse-append}
use mathlib.Core.Option.{Option, none, some, none-ne-some, some-injective}
use Prim.Native.Nat.{ℕ, zero, suc, ◌+◌, ◌-◌, ◌^◌, ◌≤◌, ◌<◌, zero-le, suc-le-suc}
use native.Mathlib.Nat.{le_refl, not-suc-le-zero, le_of_suc-le-suc}
use native.Mathlib.Omega.{arith}
use lib.ListN.{length, get_or, set, length-set, length-map}
use lib.Seq.{get_or-set_same, get_or-set_other}
use lib.Dec.{eqb}
use borrow.Author.Tests.{eqb-true, ne_eqb}
use Rattle.rules.specs.Bit.{◌⊕◌, bit, sum, dot, xor}
use Rattle.rules.specs.Meaning.{change, moved, added, wires, phases}
use Rattle.rules.specs.Walk.{Step, cn, rot}
use Rattle.rules.specs.Close.{add_to, swap, first_with, units, times, Pairs, clear_both, and_then, invert_from, inverse, Adds, note, clear, diagonal, reduce_from, eq_rows, needed, closing}
use Rattle.rules.proofs.Bits.{split, and_left, and_right, same, eqb-self, eqb-sym, bit_xor, sum-ext, sum-at, dot-xor, dot-unit, dot-zero, ⊕-false, ⊕-assoc, ⊕-self, ⊕-left}
use Rattle.rules.proofs.Walking.{ops, Within}

-- row i
abbrev pub at : List ℕ → ℕ → ℕ
at m i = get_or m i zero

pub get_d_set : (l : List ℕ) (t a i : ℕ) → t < length l → at (set l t a) i ≡ cond (eqb i t) a (at l i)
get_d_set l t a i h =
    same i t
    (λ e f. rw f (ap (λ (z : ℕ). at (set l t a) z) e ∙ get_or-set_same l t a zero h))
    (λ e f. rw f (get_or-set_other l t i a zero e))

-- ---- additions and swaps, seen by the values of the rows

pub at-add_to : (a b i : ℕ) (m : List ℕ) → b < length m → at (add_to a b m) i ≡ cond (eqb i b) (xor (at m b) (at m a)) (at m i)
unfolding add_to
at-add_to a b i m h = get_d_set m b (xor (at m b) (at m a)) i h

pub length-add_to : (a b : ℕ) (m : List ℕ) → length (add_to a b m) ≡ length m
unfolding add_to
length-add_to a b m = length-set m b (xor (at m b) (at m a))

pub dot-add_to : (n a b i : ℕ) (m : List ℕ) (y : ℕ → Bool) → b < length m
    → dot n (at (add_to a b m) i) y ≡ cond (eqb i b) (dot n (at m i) y ⊕ dot n (at m a) y) (dot n (at m i) y)
dot-add_to n a b i m y h =
    same i b
    (λ e f. rw f (ap (λ (z : ℕ). dot n z y) (at-add_to a b i m h ∙ rw f) ∙ dot-xor n (at m b) (at m a) y ∙ ap (λ (z : ℕ). dot n (at m z) y ⊕ dot n (at m a) y) (sym e)))
    (λ e f. rw f (ap (λ (z : ℕ). dot n z y) (at-add_to a b i m h ∙ rw f)))

pub at-swap : (a b i : ℕ) (m : List ℕ) → a < length m → b < length m → at (swap a b m) i ≡ cond (eqb i b) (at m a) (cond (eqb i a) (at m b) (at m i))
unfolding swap
at-swap a b i m ha hb =
    get_d_set (set m a (at m b)) b (at m a) i (subst (λ (z : ℕ). b < z) (sym (length-set m a (at m b))) hb)
    ∙ ap (λ (z : ℕ). cond (eqb i b) (at m a) z) (get_d_set m a (at m b) i ha)

pub length-swap : (a b : ℕ) (m : List ℕ) → length (swap a b m) ≡ length m
unfolding swap
length-swap a b m = length-set (set m a (at m b)) b (at m a) ∙ length-set m a (at m b)

-- ---- the search

pub first-is : (c k r : ℕ) (m : List ℕ) (q : ℕ) → first_with c k r m ≡ some q → (r ≤ q) × (q < r + k) × (bit (at m q) c ≡ true)
unfolding first_with
first-is c zero r m q e = absurd (none-ne-some q e)
first-is c (suc k) r m q e =
    split (bit (at m r) c)
    (λ f. let s : r ≡ q = some-injective r q (rw f at e) in
    (omega arith, omega arith, ap (λ (z : ℕ). bit (at m z) c) (sym s) ∙ f))
    (λ f. let ih = first-is c k (suc r) m q (rw f at e) in (omega arith, omega arith, ih.2))

-- ---- the columns below c are the identity's

unfoldable pub Unit-below : ℕ → ℕ → List ℕ → Type 0
unfolding bit
Unit-below n c m = (i j : ℕ) → i < n → j < c → bit (at m i) j ≡ eqb i j

-- adding row a, whose columns below c are 0
pub keep-add : (n c a b : ℕ) (m : List ℕ) → b < length m → a < n → b < n → c ≤ a → Unit-below n c m → Unit-below n c (add_to a b m)
unfolding Unit-below
keep-add n c a b m hb ha hn hc u i j hi hj =
    ap (λ (z : ℕ). bit z j) (at-add_to a b i m hb)
    ∙ same i b
    (λ e f. rw f (bit_xor (at m b) (at m a) j
    ∙ ap₂ ◌⊕◌ (u b j hn hj ∙ ap (λ (z : ℕ). eqb z j) (sym e)) (u a j ha hj ∙ ne_eqb a j (λ q. omega arith)) ∙ ⊕-false (eqb i j)))
    (λ e f. rw f (u i j hi hj))

pub keep-swap : (n c r : ℕ) (m : List ℕ) → c < length m → r < length m → c < n → r < n → c ≤ r → Unit-below n c m → Unit-below n c (swap c r m)
unfolding Unit-below
keep-swap n c r m hc hr hcn hrn hcr u i j hi hj =
    ap (λ (z : ℕ). bit z j) (at-swap c r i m hc hr)
    ∙ same i r
    (λ e f. rw f (u c j hcn hj ∙ ne_eqb c j (λ q. omega arith) ∙ sym (ap (λ (z : ℕ). eqb z j) e ∙ ne_eqb r j (λ q. omega arith))))
    (λ e f. same i c
    (λ e' f'. rw (f, f') (u r j hrn hj ∙ ne_eqb r j (λ q. omega arith) ∙ sym (ap (λ (z : ℕ). eqb z j) e' ∙ ne_eqb c j (λ q. omega arith))))
    (λ e' f'. rw (f, f') (u i j hi hj)))

-- ---- clearing a column, on the rows alone

unfoldable pub clears : ℕ → ℕ → ℕ → List ℕ → List ℕ
unfolding add_to bit
clears c zero r m = m
clears c (suc k) r m = clears c k (suc r) (cond (not (eqb r c) && bit (at m r) c) (add_to c r m) m)

-- the column c is cleared above r
pub record Cleared (n c r : ℕ) (m : List ℕ) : Type 0 where
  pub size : length m ≡ n
  pub before : Unit-below n c m
  pub pivot : bit (at m c) c ≡ true
  pub done : (i : ℕ) → i < n → i < r → bit (at m i) c ≡ eqb i c

clear-one : (n c r : ℕ) (m : List ℕ) → c < n → r < n → Cleared n c r m → Cleared n c (suc r) (cond (not (eqb r c) && bit (at m r) c) (add_to c r m) m)
clear-one n c r m hc hr k =
    same r c
    (λ e f. rw f (record {
      size = k.size;
      before = k.before;
      pivot = k.pivot;
      done = λ i hi h. same i c (λ e' f'. ap (λ (z : ℕ). bit (at m z) c) e' ∙ k.pivot ∙ sym f') (λ e' f'. k.done i hi (omega arith));
    }))
    (λ e f. split (bit (at m r) c)
    (λ g. rw (f, g) (
    let l : r < length m = subst (λ (z : ℕ). r < z) (sym k.size) hr in
    record {
      size = length-add_to c r m ∙ k.size;
      before = keep-add n c c r m l hc hr (le_refl c) k.before;
      pivot = ap (λ (z : ℕ). bit z c) (at-add_to c r c m l) ∙ rw (ne_eqb c r (λ q. e (sym q))) k.pivot;
      done = λ i hi h. ap (λ (z : ℕ). bit z c) (at-add_to c r i m l)
          ∙ same i r
          (λ e' f'. rw f' (bit_xor (at m r) (at m c) c ∙ ap₂ ◌⊕◌ g k.pivot ∙ sym (ap (λ (z : ℕ). eqb z c) e' ∙ f)))
          (λ e' f'. rw f' (k.done i hi (omega arith)));
    }))
    (λ g. rw (f, g) (record {
      size = k.size;
      before = k.before;
      pivot = k.pivot;
      done = λ i hi h. same i r (λ e' f'. ap (λ (z : ℕ). bit (at m z) c) e' ∙ g ∙ sym (ap (λ (z : ℕ). eqb z c) e' ∙ f)) (λ e' f'. k.done i hi (omega arith));
    })))

pub clear-all : (n c k r : ℕ) (m : List ℕ) → c < n → r + k ≡ n → Cleared n c r m → Cleared n c n (clears c k r m)
unfolding clears
clear-all n c zero r m hc e h = subst (λ (z : ℕ). Cleared n c z m) (omega arith) h
clear-all n c (suc k) r m hc e h =
    clear-all n c k (suc r) (cond (not (eqb r c) && bit (at m r) c) (add_to c r m) m) hc (omega arith) (clear-one n c r m hc (omega arith) h)

-- so one column more is the identity's
pub next-column : (n c : ℕ) (m : List ℕ) → Cleared n c n m → Unit-below n (suc c) m
unfolding Unit-below
next-column n c m k i j hi hj = same j c (λ e f. ap (bit (at m i)) e ∙ k.done i hi hi ∙ ap (eqb i) (sym e)) (λ e f. k.before i j hi (omega arith))

-- with all columns, the rows are the values themselves
unit-dot : (n : ℕ) (m : List ℕ) (y : ℕ → Bool) → Unit-below n n m → (i : ℕ) → i < n → dot n (at m i) y ≡ y i
unfolding Unit-below dot
unit-dot n m y u i hi =
    sum-ext n (λ j. bit (at m i) j && y j) (λ j. eqb j i && y j) (λ j hj. ap (λ (z : Bool). z && y j) (u i j hi hj ∙ eqb-sym i j)) ∙ sum-at n i y hi

-- ---- the inverse

module _ (n : ℕ) (x y : ℕ → Bool) where
  -- the left rows, of the values x, are the right rows, of the values y
  record Paired (m : Pairs) : Type 0 where
    left-size : length m.left ≡ n
    right-size : length m.right ≡ n
    agree : (i : ℕ) → i < n → dot n (at m.left i) x ≡ dot n (at m.right i) y

  abbrev added-both : ℕ → ℕ → Pairs → Pairs
  added-both a b m = record { left = add_to a b m.left; right = add_to a b m.right }

  pair-add : (a b : ℕ) (m : Pairs) → a < n → b < n → Paired m → Paired (added-both a b m)
  pair-add a b m ha hb k =
      record {
        left-size = length-add_to a b m.left ∙ k.left-size;
        right-size = length-add_to a b m.right ∙ k.right-size;
        agree = λ i hi.
            dot-add_to n a b i m.left x (subst (λ (z : ℕ). b < z) (sym k.left-size) hb)
            ∙ ap₂ (λ (u v : Bool). cond (eqb i b) (u ⊕ v) u) (k.agree i hi) (k.agree a ha)
            ∙ sym (dot-add_to n a b i m.right y (subst (λ (z : ℕ). b < z) (sym k.right-size) hb));
      }

  pair-swap : (a b : ℕ) (m : Pairs) → a < n → b < n → Paired m → Paired (record { left = swap a b m.left; right = swap a b m.right })
  pair-swap a b m ha hb k =
      record {
        left-size = length-swap a b m.left ∙ k.left-size;
        right-size = length-swap a b m.right ∙ k.right-size;
        agree = λ i hi.
            ap (λ (z : ℕ). dot n z x) (at-swap a b i m.left (subst (λ (z : ℕ). a < z) (sym k.left-size) ha) (subst (λ (z : ℕ). b < z) (sym k.left-size) hb))
            ∙ same i b
            (λ e f. rw f (k.agree a ha))
            (λ e f. same i a (λ e' f'. rw (f, f') (k.agree b hb)) (λ e' f'. rw (f, f') (k.agree i hi)))
            ∙ sym (ap (λ (z : ℕ). dot n z y) (at-swap a b i m.right (subst (λ (z : ℕ). a < z) (sym k.right-size) ha) (subst (λ (z : ℕ). b < z) (sym k.right-size) hb)));
      }

  pair-clear : (c k r : ℕ) (m : Pairs) → c < n → r + k ≤ n → Paired m → Paired (clear_both c k r m)
  unfolding clear_both
  pair-clear c zero r m hc h p = p
  pair-clear c (suc k) r m hc h p =
      split (not (eqb r c) && bit (at m.left r) c)
      (λ e. rw e (pair-clear c k (suc r) (added-both c r m) hc (omega arith) (pair-add c r m hc (omega arith) p)))
      (λ e. rw e (pair-clear c k (suc r) m hc (omega arith) p))

  pub left-clear : (c k r : ℕ) (m : Pairs) → (clear_both c k r m).left ≡ clears c k r m.left
  unfolding clear_both clears
  left-clear c zero r m = refl
  left-clear c (suc k) r m =
      let t : Bool = not (eqb r c) && bit (at m.left r) c in
      left-clear c k (suc r) (cond t (added-both c r m) m) ∙ ap (clears c k (suc r)) (cond-left t (added-both c r m) m)
    where
      cond-left : (b : Bool) (p q : Pairs) → (cond b p q).left ≡ cond b p.left q.left
      cond-left true p q = refl
      cond-left false p q = refl

  invert-ok : (k c : ℕ) (m : Pairs) (inv : List ℕ) → c + k ≡ n → Unit-below n c m.left → Paired m → invert_from n k c m ≡ some inv
      → (length inv ≡ n) × ((i : ℕ) → i < n → dot n (at inv i) y ≡ x i)
  unfolding invert_from
  invert-ok zero c m inv h u p e =
      let s : m.right ≡ inv = some-injective m.right inv e in
      let q : c ≡ n = omega arith in
      rw (← s) (p.right-size, λ i hi. sym (p.agree i hi) ∙ unit-dot n m.left x (rw q at u) i hi)
  invert-ok (suc k) c m inv h u p e =
      go (first_with c (n - c) c m.left) refl e (λ m' u' p' e'. invert-ok k (suc c) m' inv (omega arith) u' p' e')
    where
      Goal : Type 0
      Goal = (length inv ≡ n) × ((i : ℕ) → i < n → dot n (at inv i) y ≡ x i)

      swapped : ℕ → Pairs
      swapped r = record { left = swap c r m.left; right = swap c r m.right }

      go : (o : Option ℕ) → first_with c (n - c) c m.left ≡ o
          → and_then o (λ r. invert_from n k (suc c) (clear_both c n zero (swapped r))) ≡ some inv
          → ((m' : Pairs) → Unit-below n (suc c) m'.left → Paired m' → invert_from n k (suc c) m' ≡ some inv → Goal) → Goal
      go none f g ih = absurd (none-ne-some inv g)
      go (some r) f g ih =
          let b = first-is c (n - c) c m.left r f in
          let hc : c < n = omega arith in
          let hr : r < n = omega arith in
          let lc : c < length m.left = subst (λ (z : ℕ). c < z) (sym p.left-size) hc in
          let lr : r < length m.left = subst (λ (z : ℕ). r < z) (sym p.left-size) hr in
          let start : Cleared n c zero (swap c r m.left) = record {
            size = length-swap c r m.left ∙ p.left-size;
            before = keep-swap n c r m.left lc lr hc hr b.0 u;
            pivot = ap (λ (z : ℕ). bit z c) (at-swap c r c m.left lc lr)
                ∙ same c r (λ e' f'. rw f' (ap (λ (z : ℕ). bit (at m.left z) c) e' ∙ b.2)) (λ e' f'. rw (f', eqb-self c) b.2);
            done = λ i hi l. absurd (not-suc-le-zero l);
          } in
          ih (clear_both c n zero (swapped r))
          (rw (left-clear c n zero (swapped r)) (next-column n c (clears c n zero (swap c r m.left)) (clear-all n c n zero (swap c r m.left) hc (omega arith) start)))
          (pair-clear c n zero (swapped r) hc (omega arith) (pair-swap c r m hc hr p))
          g

pub at-units : (k r i : ℕ) → i < k → at (units k r) i ≡ 2 ^ (r + i)
unfolding units
at-units zero r i h = absurd (not-suc-le-zero h)
at-units (suc k) r zero h = ap (λ (z : ℕ). 2 ^ z) (omega arith)
at-units (suc k) r (suc i) h = at-units k (suc r) i (le_of_suc-le-suc h) ∙ ap (λ (z : ℕ). 2 ^ z) (omega arith)

pub length-units : (k r : ℕ) → length (units k r) ≡ k
unfolding units
length-units zero r = refl
length-units (suc k) r = ap suc (length-units k (suc r))

-- ---- a row times the inverse

sum-front : (n : ℕ) (f : ℕ → Bool) → sum (suc n) f ≡ (f zero ⊕ sum n (λ i. f (suc i)))
unfolding sum
sum-front zero f = refl
sum-front (suc n) f = ap (λ (z : Bool). f (suc n) ⊕ z) (sum-front n f) ∙ ⊕-left (f (suc n)) (f zero) (sum n (λ i. f (suc i)))

pub times-ok : (n : ℕ) (x y : ℕ → Bool) (v r : ℕ) (m : List ℕ) → ((i : ℕ) → i < length m → dot n (at m i) y ≡ x (r + i))
    → dot n (times v r m) y ≡ sum (length m) (λ i. bit v (r + i) && x (r + i))
unfolding times sum
times-ok n x y v r [] h = dot-zero n y
times-ok n x y v r (a ∷ m) h =
    let ih : dot n (times v (suc r) m) y ≡ sum (length m) (λ i. bit v (suc r + i) && x (suc r + i)) =
    times-ok n x y v (suc r) m (λ i hi. h (suc i) (suc-le-suc hi) ∙ ap x (omega arith)) in
    let here : dot n a y ≡ x (r + zero) = h zero (suc-le-suc zero-le) in
    let z : r + zero ≡ r = omega arith in
    split (bit v r)
    (λ e. rw e (dot-xor n a (times v (suc r) m) y ∙ ap (λ (z : Bool). z ⊕ dot n (times v (suc r) m) y) here))
    (λ e. rw e refl)
    ∙ ap (λ (b : Bool). (bit v r && x (r + zero)) ⊕ b) (ih ∙ sum-ext (length m) (λ i. bit v (suc r + i) && x (suc r + i)) (λ i. bit v (r + suc i) && x (r + suc i))
    (λ i hi. ap (λ (k : ℕ). bit v k && x k) (omega arith)))
    ∙ ap (λ (k : ℕ). (bit v k && x (r + zero)) ⊕ sum (length m) (λ i. bit v (r + suc i) && x (r + suc i))) (sym z)
    ∙ sym (sum-front (length m) (λ i. bit v (r + i) && x (r + i)))

-- ---- the reduction

-- CNOTs alone
unfoldable pub Pure : List Step → Type 0
Pure [] = Unit {0}
Pure (cn p t ∷ ss) = Pure ss
Pure (rot q k ∷ ss) = ⊥

abbrev pub anywhere : ℕ → Bool
anywhere i = true

module _ (n : ℕ) (y goal : ℕ → Bool) where
  -- the additions so far, made in reverse on the values of the rows, give the goal
  record Reduced (m : Adds) : Type 0 where
    size : length m.rows ≡ n
    within : Within n anywhere anywhere (reverse m.adds)
    pure : Pure (reverse m.adds)
    quiet : (w : ℕ → Bool) → phases (ops (reverse m.adds)) w ≡ zero
    agree : (i : ℕ) → wires (ops (reverse m.adds)) (λ j. dot n (at m.rows j) y) i ≡ goal i

  note-ok : (a b : ℕ) (m : Adds) → a < n → b < n → a ≢ b → Reduced m → Reduced (note a b m)
  unfolding Within phases added wires moved Pure
  note-ok a b m ha hb ne k =
      let back : reverse (m.adds ++ (cn a b ∷ [])) ≡ cn a b ∷ reverse m.adds = reverse-append m.adds (cn a b ∷ []) in
      record {
        size = length-add_to a b m.rows ∙ k.size;
        within = rw back ((ha, hb, ne, refl, refl), k.within);
        pure = rw back k.pure;
        quiet = λ w. rw back (plus (phases (ops (reverse m.adds)) (change b (w a) w)) ∙ k.quiet (change b (w a) w));
        agree = λ i. ap (λ (l : List Step). wires (ops l) (λ j. dot n (at (add_to a b m.rows) j) y) i) back
            ∙ ap (λ (u : ℕ → Bool). wires (ops (reverse m.adds)) u i) (fun_ext undo) ∙ k.agree i;
      }
    where
      plus : (z : ℕ) → zero + z ≡ z
      plus z = omega arith

      u : ℕ → Bool
      u j = dot n (at m.rows j) y

      v : ℕ → Bool
      v j = dot n (at (add_to a b m.rows) j) y

      after : (j : ℕ) → v j ≡ cond (eqb j b) (u j ⊕ u a) (u j)
      after j = dot-add_to n a b j m.rows y (subst (λ (z : ℕ). b < z) (sym k.size) hb)

      twice : (p q : Bool) → (p ⊕ q ⊕ q) ≡ p
      twice p q = ⊕-assoc p q q ∙ ap (λ (z : Bool). p ⊕ z) (⊕-self q) ∙ ⊕-false p

      undo : (j : ℕ) → change b (v a) v j ≡ u j
      undo j =
          same j b
          (λ e f. rw f (ap₂ ◌⊕◌ (rw f at (after j)) (rw (ne_eqb a b ne) at (after a)) ∙ twice (u j) (u a)))
          (λ e f. rw f (rw f at (after j)))

  clear-ok : (c k r : ℕ) (m : Adds) → c < n → r + k ≤ n → Reduced m → Reduced (clear c k r m)
  unfolding clear
  clear-ok c zero r m hc h p = p
  clear-ok c (suc k) r m hc h p =
      clear-ok c k (suc r) (cond (not (eqb r c) && bit (at m.rows r) c) (note c r m) m) hc (omega arith)
      (same r c (λ e f. rw f p) (λ e f. split (bit (at m.rows r) c) (λ g. rw (f, g) (note-ok c r m hc (omega arith) (λ q. e (sym q)) p)) (λ g. rw (f, g) p)))

  pub rows-clear : (c k r : ℕ) (m : Adds) → (clear c k r m).rows ≡ clears c k r m.rows
  unfolding clear clears
  rows-clear c zero r m = refl
  rows-clear c (suc k) r m =
      let t : Bool = not (eqb r c) && bit (at m.rows r) c in
      rows-clear c k (suc r) (cond t (note c r m) m) ∙ ap (clears c k (suc r)) (cond-rows t (note c r m) m)
    where
      cond-rows : (b : Bool) (p q : Adds) → (cond b p q).rows ≡ cond b p.rows q.rows
      cond-rows true p q = refl
      cond-rows false p q = refl

  -- what is left to show of a column
  record Ready (c : ℕ) (m : Adds) : Type 0 where
    reduced : Reduced m
    before : Unit-below n c m.rows
    pivot : bit (at m.rows c) c ≡ true

  diagonal-ok : (c : ℕ) (m d : Adds) → c < n → Unit-below n c m.rows → Reduced m → diagonal n c m ≡ some d → Ready c d
  unfolding diagonal
  diagonal-ok c m d hc u p e =
      split (bit (at m.rows c) c)
      (λ f. let s : m ≡ d = some-injective m d (rw f at e) in rw (← s) (record { reduced = p; before = u; pivot = f }))
      (λ f. go f (first_with c (n - suc c) (suc c) m.rows) refl (rw f at e))
    where
      go : bit (at m.rows c) c ≡ false → (o : Option ℕ) → first_with c (n - suc c) (suc c) m.rows ≡ o
          → and_then o (λ r. some (note r c m)) ≡ some d → Ready c d
      go f none g q = absurd (none-ne-some d q)
      go f (some r) g q =
          let b = first-is c (n - suc c) (suc c) m.rows r g in
          let s : note r c m ≡ d = some-injective (note r c m) d q in
          let lc : c < length m.rows = subst (λ (z : ℕ). c < z) (sym p.size) hc in
          let hr : r < n = omega arith in
          rw (← s) (record {
            reduced = note-ok r c m hr hc (λ z. omega arith) p;
            before = keep-add n c r c m.rows lc hr hc (omega arith) u;
            pivot = ap (λ (z : ℕ). bit z c) (at-add_to r c c m.rows lc) ∙ rw (eqb-self c) (bit_xor (at m.rows c) (at m.rows r) c ∙ ap₂ ◌⊕◌ f b.2);
          })

  reduce-ok : (k c : ℕ) (m d : Adds) → c + k ≡ n → Unit-below n c m.rows → Reduced m → reduce_from n k c m ≡ some d → Reduced d × Unit-below n n d.rows
  unfolding reduce_from
  reduce-ok zero c m d h u p e =
      let s : m ≡ d = some-injective m d e in
      let q : c ≡ n = omega arith in
      rw (← s) (p, rw q at u)
  reduce-ok (suc k) c m d h u p e = go (diagonal n c m) refl e (λ m' u' p' e'. reduce-ok k (suc c) m' d (omega arith) u' p' e')
    where
      Goal : Type 0
      Goal = Reduced d × Unit-below n n d.rows

      go : (o : Option Adds) → diagonal n c m ≡ o → and_then o (λ z. reduce_from n k (suc c) (clear c n zero z)) ≡ some d
          → ((m' : Adds) → Unit-below n (suc c) m'.rows → Reduced m' → reduce_from n k (suc c) m' ≡ some d → Goal) → Goal
      go none f g ih = absurd (none-ne-some d g)
      go (some z) f g ih =
          let hc : c < n = omega arith in
          let r = diagonal-ok c m z hc u p f in
          let start : Cleared n c zero z.rows =
          record { size = r.reduced.size; before = r.before; pivot = r.pivot; done = λ i hi l. absurd (not-suc-le-zero l) } in
          ih (clear c n zero z)
          (rw (rows-clear c n zero z) (next-column n c (clears c n zero z.rows) (clear-all n c n zero z.rows hc (omega arith) start)))
          (clear-ok c n zero z hc (omega arith) r.reduced)
          g

-- ---- steps on values that agree below n

pub wires-agree : (n : ℕ) (C M u v : ℕ → Bool) (ss : List Step) → Within n C M ss → ((i : ℕ) → i < n → u i ≡ v i) → (i : ℕ) → i < n → wires (ops ss) u i ≡ wires (ops ss) v i
unfolding Within wires moved
wires-agree n C M u v [] w h i hi = h i hi
wires-agree n C M u v (cn p t ∷ ss) w h i hi =
    wires-agree n C M (change t (u p) u) (change t (v p) v) ss w.1 (λ j hj. ap₂ (λ (a b : Bool). cond (eqb j t) (a ⊕ b) a) (h j hj) (h p w.0.0)) i hi
wires-agree n C M u v (rot q k ∷ ss) w h i hi = wires-agree n C M u v ss w.1 h i hi

eq-rows : (a b : List ℕ) → eq_rows a b ≡ true → a ≡ b
unfolding eq_rows
eq-rows [] [] e = refl
eq-rows [] (y ∷ ys) e = absurd (false≢true e)
eq-rows (x ∷ xs) [] e = absurd (false≢true e)
eq-rows (x ∷ xs) (y ∷ ys) e = ap₂ (λ (h : ℕ) (l : List ℕ). h ∷ l) (eqb-true x y (and_left (eqb x y) _ e)) (eq-rows xs ys (and_right (eqb x y) _ e))

pub at_map : (f : ℕ → ℕ) (l : List ℕ) (i : ℕ) → i < length l → at (map f l) i ≡ f (at l i)
at_map f [] i h = absurd (not-suc-le-zero h)
at_map f (x ∷ xs) zero h = refl
at_map f (x ∷ xs) (suc i) h = at_map f xs i (le_of_suc-le-suc h)

-- ---- the closing map

pub record Closes (n : ℕ) (x y : ℕ → Bool) (wanted : List ℕ) (ss : List Step) : Type 0 where
  pub within : Within n anywhere anywhere ss
  pub pure : Pure ss
  pub quiet : (w : ℕ → Bool) → phases (ops ss) w ≡ zero
  pub holds : (i : ℕ) → i < n → wires (ops ss) y i ≡ dot n (at wanted i) x

module _ (n : ℕ) (x y : ℕ → Bool) (from wanted : List ℕ) (lf : length from ≡ n) (lw : length wanted ≡ n)
    (has : (i : ℕ) → i < n → y i ≡ dot n (at from i) x) where
  pub from-inverse : (inv : List ℕ) → inverse from ≡ some inv → (length inv ≡ n) × ((i : ℕ) → i < n → dot n (at inv i) y ≡ x i)
  unfolding inverse Unit-below
  from-inverse inv e =
      invert-ok n x y n zero (record { left = from; right = units n zero }) inv (omega arith) (λ i j hi hj. absurd (not-suc-le-zero hj))
      (record {
        left-size = lf;
        right-size = length-units n zero;
        agree = λ i hi. sym (has i hi) ∙ sym (ap (λ (z : ℕ). dot n z y) (at-units n zero i hi ∙ ap (λ (z : ℕ). 2 ^ z) (plus i)) ∙ dot-unit n i y hi);
      })
      (subst (λ (k : ℕ). invert_from k k zero (record { left = from; right = units k zero }) ≡ some inv) lf e)
    where
      plus : (z : ℕ) → zero + z ≡ z
      plus z = omega arith

  pub closing-ok : (ss : List Step) → closing from wanted ≡ some ss → Closes n x y wanted ss
  unfolding closing Within phases wires Unit-below dot Pure
  closing-ok ss e =
      split (eq_rows from wanted)
      (λ f. let s : [] ≡ ss = some-injective [] ss (rw f at e) in
      rw (← s) (record { within = tt; pure = tt; quiet = λ w. refl; holds = λ i hi. has i hi ∙ ap (λ (l : List ℕ). dot n (at l i) x) (eq-rows from wanted f) }))
      (λ f. go (inverse from) refl (rw f at e))
    where
      Last : Option Adds → Type 0
      Last o = and_then o (λ m. some (reverse m.adds)) ≡ some ss

      go : (o : Option (List ℕ)) → inverse from ≡ o → Last (and_then (needed o wanted) (λ m. reduce_from (length wanted) (length wanted) zero m)) → Closes n x y wanted ss
      go none f g = absurd (none-ne-some ss g)
      go (some inv) f g = more (reduce_from (length wanted) (length wanted) zero start) refl g
        where
          start : Adds
          start = record { rows = map (λ v. times v zero inv) wanted; adds = [] }

          goal : ℕ → Bool
          goal i = dot n (at start.rows i) y

          invs : (length inv ≡ n) × ((i : ℕ) → i < n → dot n (at inv i) y ≡ x i)
          invs = from-inverse inv f

          plus : (z : ℕ) → z ≡ zero + z
          plus z = omega arith

          meets : (i : ℕ) → i < n → goal i ≡ dot n (at wanted i) x
          meets i hi =
              let v : ℕ = at wanted i in
              ap (λ (z : ℕ). dot n z y) (at_map (λ v. times v zero inv) wanted i (subst (λ (z : ℕ). i < z) (sym lw) hi))
              ∙ times-ok n x y v zero inv (λ j hj. invs.1 j (subst (λ (z : ℕ). j < z) invs.0 hj) ∙ ap x (plus j))
              ∙ ap (λ (k : ℕ). sum k (λ j. bit v (zero + j) && x (zero + j))) invs.0
              ∙ sum-ext n (λ j. bit v (zero + j) && x (zero + j)) (λ j. bit v j && x j) (λ j hj. ap (λ (z : ℕ). bit v z && x z) (sym (plus j)))

          more : (o : Option Adds) → reduce_from (length wanted) (length wanted) zero start ≡ o → Last o → Closes n x y wanted ss
          more none f g = absurd (none-ne-some ss g)
          more (some d) f g =
              let s : reverse d.adds ≡ ss = some-injective (reverse d.adds) ss g in
              let r = reduce-ok n y goal n zero start d (omega arith) (λ i j hi hj. absurd (not-suc-le-zero hj))
              (record { size = length-map wanted (λ v. times v zero inv) ∙ lw; within = tt; pure = tt; quiet = λ w. refl; agree = λ i. refl })
              (subst (λ (k : ℕ). reduce_from k k zero start ≡ some d) lw f) in
              rw (← s) (record {
                within = r.0.within;
                pure = r.0.pure;
                quiet = r.0.quiet;
                holds = λ i hi.
                    wires-agree n anywhere anywhere y (λ j. dot n (at d.rows j) y) (reverse d.adds) r.0.within (λ j hj. sym (unit-dot n d.rows y r.1 j hj)) i hi
                    ∙ r.0.agree i ∙ meets i hi;
              })
