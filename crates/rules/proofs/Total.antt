-- The closing map always exists: a pivot and a donor are always found.
use mathlib.Core.Path.{◌≡◌, refl, sym, ap, ap₂, ◌∙◌, subst}
use mathlib.Core.Logic.{◌≢◌}
use mathlib.Core.Bool.{Bool, true, false, not, ◌&&◌, cond, false≢true, true≢false, and-false}
use mathlib.Core.List.{List, [], ◌∷◌, ◌++◌, map, reverse}
use Rattle.rules.specs.Bit.{◌⊕◌, bit, sum, dot}
use Rattle.rules.specs.Meaning.{Op, flip, phase, cnot, cz, other}
use Rattle.rules.specs.Fold.{Row, Block, fresh, empty, joined, row_of, add_row, join, entered, rows_by, absorb, fold}
use Rattle.rules.specs.Walk.{Step, cn, rot, held}
use Rattle.rules.specs.Close.{add_to, swap, first_with, units, times, Pairs, clear_both, and_then, invert_from, inverse, Adds, note, clear, diagonal, reduce_from, eq_rows, closing, Inverts}
use Rattle.rules.specs.Synth.{synth, emit, flips_of}
use Rattle.rules.proofs.Folding.{wires_of}
use Rattle.rules.proofs.Blocks.{size_of, walk_of, parities, synth-is, walk-within}
use Rattle.rules.proofs.Closing.{anywhere, from-inverse}
use mathlib.Core.Option.{Option, none, some, none-ne-some}
use Prim.Native.Nat.{ℕ, zero, suc, ◌+◌, ◌-◌, ◌^◌, ◌≤◌, ◌<◌, zero-le, suc-le-suc}
use native.Mathlib.Nat.{le_refl, not-suc-le-zero}
use native.Mathlib.Omega.{arith}
use lib.ListN.{length, length-map}
use lib.Dec.{eqb, ltb}
use borrow.Author.Tests.{ne_eqb, le-ltb, ltb-true, ltb-false}
use Rattle.rules.proofs.Bits.{split, same, eqb-self, eqb-sym, sum-ext, sum-⊕, sum-at, dot-xor, dot-unit, ⊕-false, ⊕-self}
use Rattle.rules.proofs.Walking.{Within}
use Rattle.rules.proofs.Closing.{at, at-add_to, length-add_to, dot-add_to, at-swap, length-swap, first-is, Unit-below, keep-add, keep-swap, clears, Cleared, clear-all, next-column, left-clear, rows-clear, at-units, length-units, times-ok, at_map}

-- only the values that are all 0 below n make every row 0
unfoldable pub Free : ℕ → List ℕ → Type 0
unfolding dot
Free n m = (x : ℕ → Bool) → ((i : ℕ) → i < n → dot n (at m i) x ≡ false) → (i : ℕ) → i < n → x i ≡ false

free-add : (n a b : ℕ) (m : List ℕ) → length m ≡ n → a < n → b < n → a ≢ b → Free n m → Free n (add_to a b m)
unfolding Free
free-add n a b m l ha hb ne f x k =
    let lb : b < length m = subst (λ (z : ℕ). b < z) (sym l) hb in
    let ka : dot n (at m a) x ≡ false = sym (rw (ne_eqb a b ne) at (dot-add_to n a b a m x lb)) ∙ k a ha in
    f x (λ i hi. same i b
    (λ e g. sym (⊕-false (dot n (at m i) x)) ∙ ap (λ (z : Bool). dot n (at m i) x ⊕ z) (sym ka) ∙ sym (rw g at (dot-add_to n a b i m x lb)) ∙ k i hi)
    (λ e g. sym (rw g at (dot-add_to n a b i m x lb)) ∙ k i hi))

free-swap : (n a b : ℕ) (m : List ℕ) → length m ≡ n → a < n → b < n → Free n m → Free n (swap a b m)
unfolding Free
free-swap n a b m l ha hb f x k =
    let la : a < length m = subst (λ (z : ℕ). a < z) (sym l) ha in
    let lb : b < length m = subst (λ (z : ℕ). b < z) (sym l) hb in
    let row : (i : ℕ) → dot n (at (swap a b m) i) x ≡ dot n (cond (eqb i b) (at m a) (cond (eqb i a) (at m b) (at m i))) x =
    λ i. ap (λ (z : ℕ). dot n z x) (at-swap a b i m la lb) in
    f x (λ i hi. same i b
    (λ e g. same a b
    (λ e' g'. ap (λ (z : ℕ). dot n (at m z) x) (e ∙ sym e') ∙ sym (rw (eqb-self b) at (row b)) ∙ k b hb)
    (λ e' g'. ap (λ (z : ℕ). dot n (at m z) x) e ∙ sym (rw (g', eqb-self a) at (row a)) ∙ k a ha))
    (λ e g. same i a
    (λ e' g'. ap (λ (z : ℕ). dot n (at m z) x) e' ∙ sym (rw (eqb-self b) at (row b)) ∙ k b hb)
    (λ e' g'. sym (rw (g, g') at (row i)) ∙ k i hi)))

free-units : (n : ℕ) → Free n (units n zero)
unfolding Free
free-units n x k i hi = sym (ap (λ (z : ℕ). dot n z x) (at-units n zero i hi ∙ ap (λ (z : ℕ). 2 ^ z) plus) ∙ dot-unit n i x hi) ∙ k i hi
  where
    plus : zero + i ≡ i
    plus = omega arith

-- ---- a column with no pivot has something that every row makes 0

no-pivot : (n c : ℕ) (m : List ℕ) → c < n → Unit-below n c m → Free n m → ((r : ℕ) → c ≤ r → r < n → bit (at m r) c ≡ false) → ⊥
unfolding Free Unit-below dot
no-pivot n c m hc u f h = true≢false (sym at_c ∙ f x zeros c hc)
  where
    x : ℕ → Bool
    x j = (ltb j c && bit (at m j) c) ⊕ eqb j c

    at_c : x c ≡ true
    at_c = rw (le-ltb c c (le_refl c), eqb-self c)

    dist : (a b d : Bool) → (a && (b ⊕ d)) ≡ ((a && b) ⊕ (d && a))
    dist true true true = refl
    dist true true false = refl
    dist true false true = refl
    dist true false false = refl
    dist false b true = refl
    dist false b false = refl

    low : (i j : ℕ) → i < n → (bit (at m i) j && (ltb j c && bit (at m j) c)) ≡ (eqb j i && (ltb j c && bit (at m j) c))
    low i j hi = split (ltb j c)
        (λ e. ap (λ (z : Bool). z && (ltb j c && bit (at m j) c)) (u i j hi (ltb-true j c e) ∙ eqb-sym i j))
        (λ e. rw e (and-false (bit (at m i) j) ∙ sym (and-false (eqb j i))))

    zeros : (i : ℕ) → i < n → sum n (λ j. bit (at m i) j && x j) ≡ false
    zeros i hi =
        sum-ext n (λ j. bit (at m i) j && x j) (λ j. (eqb j i && (ltb j c && bit (at m j) c)) ⊕ (eqb j c && bit (at m i) j))
        (λ j hj. dist (bit (at m i) j) (ltb j c && bit (at m j) c) (eqb j c) ∙ ap (λ (z : Bool). z ⊕ (eqb j c && bit (at m i) j)) (low i j hi))
        ∙ sum-⊕ n (λ j. eqb j i && (ltb j c && bit (at m j) c)) (λ j. eqb j c && bit (at m i) j)
        ∙ ap₂ ◌⊕◌ (sum-at n i (λ j. ltb j c && bit (at m j) c) hi) (sum-at n c (bit (at m i)) hc)
        ∙ split (ltb i c)
        (λ e. rw e (⊕-self (bit (at m i) c)))
        (λ e. rw e (h i (ltb-false i c e) hi))

first-none : (c k r : ℕ) (m : List ℕ) → first_with c k r m ≡ none → (q : ℕ) → r ≤ q → q < r + k → bit (at m q) c ≡ false
unfolding first_with
first-none c zero r m e q l h = absurd (over l h)
  where
    over : r ≤ q → q < r + zero → ⊥
    over a b = omega arith
first-none c (suc k) r m e q l h =
    split (bit (at m r) c)
    (λ f. absurd (none-ne-some r (sym (rw f at e))))
    (λ f. same q r (λ g _. ap (λ (z : ℕ). bit (at m z) c) g ∙ f) (λ g _. first-none c k (suc r) m (rw f at e) q (omega arith) (omega arith)))

-- ---- the inverse

-- both sides are free, and stay so
record Freed (n : ℕ) (m : Pairs) : Type 0 where
  left-size : length m.left ≡ n
  right-size : length m.right ≡ n
  left-free : Free n m.left
  right-free : Free n m.right

freed-swap : (n a b : ℕ) (m : Pairs) → a < n → b < n → Freed n m → Freed n (record { left = swap a b m.left; right = swap a b m.right })
freed-swap n a b m ha hb s =
    record {
      left-size = length-swap a b m.left ∙ s.left-size;
      right-size = length-swap a b m.right ∙ s.right-size;
      left-free = free-swap n a b m.left s.left-size ha hb s.left-free;
      right-free = free-swap n a b m.right s.right-size ha hb s.right-free;
    }

freed-clear : (n c k r : ℕ) (m : Pairs) → c < n → r + k ≤ n → Freed n m → Freed n (clear_both c k r m)
unfolding clear_both
freed-clear n c zero r m hc h s = s
freed-clear n c (suc k) r m hc h s =
    freed-clear n c k (suc r) (cond (not (eqb r c) && bit (at m.left r) c) (record { left = add_to c r m.left; right = add_to c r m.right }) m) hc (omega arith)
    (same r c (λ e f. rw f s) (λ e f. split (bit (at m.left r) c)
    (λ g. rw (f, g) (record {
      left-size = length-add_to c r m.left ∙ s.left-size;
      right-size = length-add_to c r m.right ∙ s.right-size;
      left-free = free-add n c r m.left s.left-size hc (omega arith) (λ q. e (sym q)) s.left-free;
      right-free = free-add n c r m.right s.right-size hc (omega arith) (λ q. e (sym q)) s.right-free;
    }))
    (λ g. rw (f, g) s)))

pub Inverted : ℕ → Option (List ℕ) → Type 0
Inverted n o = (inv : List ℕ) × (o ≡ some inv) × (length inv ≡ n) × Free n inv

invert-total : (n k c : ℕ) (m : Pairs) → c + k ≡ n → Unit-below n c m.left → Freed n m → Inverted n (invert_from n k c m)
unfolding invert_from Inverted
invert-total n zero c m h u s = (m.right, refl, s.right-size, s.right-free)
invert-total n (suc k) c m h u s = go (first_with c (n - c) c m.left) refl (λ m' u' s'. invert-total n k (suc c) m' (omega arith) u' s')
  where
    swapped : ℕ → Pairs
    swapped r = record { left = swap c r m.left; right = swap c r m.right }

    go : (o : Option ℕ) → first_with c (n - c) c m.left ≡ o
        → ((m' : Pairs) → Unit-below n (suc c) m'.left → Freed n m' → Inverted n (invert_from n k (suc c) m'))
        → Inverted n (and_then o (λ r. invert_from n k (suc c) (clear_both c n zero (swapped r))))
    go none f ih = absurd (no-pivot n c m.left (omega arith) u s.left-free (λ r l hr. first-none c (n - c) c m.left f r l (omega arith)))
    go (some r) f ih =
        let b = first-is c (n - c) c m.left r f in
        let hc : c < n = omega arith in
        let hr : r < n = omega arith in
        let lc : c < length m.left = subst (λ (z : ℕ). c < z) (sym s.left-size) hc in
        let lr : r < length m.left = subst (λ (z : ℕ). r < z) (sym s.left-size) hr in
        let start : Cleared n c zero (swap c r m.left) = record {
          size = length-swap c r m.left ∙ s.left-size;
          before = keep-swap n c r m.left lc lr hc hr b.0 u;
          pivot = ap (λ (z : ℕ). bit z c) (at-swap c r c m.left lc lr)
              ∙ same c r (λ e' f'. rw f' (ap (λ (z : ℕ). bit (at m.left z) c) e' ∙ b.2)) (λ e' f'. rw (f', eqb-self c) b.2);
          done = λ i hi l. absurd (not-suc-le-zero l);
        } in
        ih (clear_both c n zero (swapped r))
        (rw (left-clear n (λ _. false) (λ _. false) c n zero (swapped r)) (next-column n c (clears c n zero (swap c r m.left)) (clear-all n c n zero (swap c r m.left) hc (omega arith) start)))
        (freed-clear n c n zero (swapped r) hc (omega arith) (freed-swap n c r m hc hr s))

pub inverse-total : (n : ℕ) (m : List ℕ) → length m ≡ n → Free n m → Inverted n (inverse m)
unfolding inverse Inverted Unit-below
inverse-total n m l f =
    subst (λ (k : ℕ). Inverted n (invert_from k k zero (record { left = m; right = units k zero }))) (sym l)
    (invert-total n n zero (record { left = m; right = units n zero }) (omega arith) (λ i j hi hj. absurd (not-suc-le-zero hj))
    (record { left-size = l; right-size = length-units n zero; left-free = f; right-free = free-units n }))

-- ---- the reduction

record Whole (n : ℕ) (m : List ℕ) : Type 0 where
  size : length m ≡ n
  free : Free n m

whole-clear : (n c k r : ℕ) (m : List ℕ) → c < n → r + k ≤ n → Whole n m → Whole n (clears c k r m)
unfolding clears
whole-clear n c zero r m hc h s = s
whole-clear n c (suc k) r m hc h s =
    whole-clear n c k (suc r) (cond (not (eqb r c) && bit (at m r) c) (add_to c r m) m) hc (omega arith)
    (same r c (λ e f. rw f s) (λ e f. split (bit (at m r) c)
    (λ g. rw (f, g) (record { size = length-add_to c r m ∙ s.size; free = free-add n c r m s.size hc (omega arith) (λ q. e (sym q)) s.free }))
    (λ g. rw (f, g) s)))

-- the inverse is one
pub inverse-is : (m inv : List ℕ) → inverse m ≡ some inv → Inverts m inv
inverse-is m inv e = record {
  size = (from-inverse (length m) (λ i. false) (λ i. dot (length m) (at m i) (λ j. false)) m m refl refl (λ i h. refl) inv e).0;
  undoes = λ x y has. (from-inverse (length m) x y m m refl refl has inv e).1;
}

unfoldable pub Found : {A : Type 0} → Option A → Type 0
Found {A} o = (a : A) × (o ≡ some a)

record Pivoted (n c : ℕ) (o : Option Adds) : Type 0 where
  adds : Adds
  is : o ≡ some adds
  whole : Whole n adds.rows
  before : Unit-below n c adds.rows
  pivot : bit (at adds.rows c) c ≡ true

diagonal-total : (n c : ℕ) (m : Adds) → c < n → Unit-below n c m.rows → Whole n m.rows → Pivoted n c (diagonal n c m)
unfolding diagonal
diagonal-total n c m hc u w =
    split (bit (at m.rows c) c)
    (λ f. rw f (record { adds = m; is = refl; whole = w; before = u; pivot = f }))
    (λ f. rw f (go f (first_with c (n - suc c) (suc c) m.rows) refl))
  where
    go : bit (at m.rows c) c ≡ false → (o : Option ℕ) → first_with c (n - suc c) (suc c) m.rows ≡ o → Pivoted n c (and_then o (λ r. some (note r c m)))
    go f none g = absurd (no-pivot n c m.rows hc u w.free
        (λ r l hr. same r c (λ e _. ap (λ (z : ℕ). bit (at m.rows z) c) e ∙ f) (λ e _. first-none c (n - suc c) (suc c) m.rows g r (omega arith) (omega arith))))
    go f (some r) g =
        let b = first-is c (n - suc c) (suc c) m.rows r g in
        let lc : c < length m.rows = subst (λ (z : ℕ). c < z) (sym w.size) hc in
        let hr : r < n = omega arith in
        record {
          adds = note r c m;
          is = refl;
          whole = record { size = length-add_to r c m.rows ∙ w.size; free = free-add n r c m.rows w.size hr hc (λ z. omega arith) w.free };
          before = keep-add n c r c m.rows lc hr hc (omega arith) u;
          pivot = ap (λ (z : ℕ). bit z c) (at-add_to r c c m.rows lc)
              ∙ rw (eqb-self c) (Rattle.rules.proofs.Bits.bit_xor (at m.rows c) (at m.rows r) c ∙ ap₂ ◌⊕◌ f b.2);
        }

reduce-total : (n k c : ℕ) (m : Adds) → c + k ≡ n → Unit-below n c m.rows → Whole n m.rows → Found (reduce_from n k c m)
unfolding reduce_from Found
reduce-total n zero c m h u w = (m, refl)
reduce-total n (suc k) c m h u w =
    let hc : c < n = omega arith in
    let p = diagonal-total n c m hc u w in
    let d : Adds = p.adds in
    let start : Cleared n c zero d.rows = record { size = p.whole.size; before = p.before; pivot = p.pivot; done = λ i hi l. absurd (not-suc-le-zero l) } in
    let r = reduce-total n k (suc c) (clear c n zero d) (omega arith)
    (rw (rows-clear n (λ _. false) (λ _. false) c n zero d) (next-column n c (clears c n zero d.rows) (clear-all n c n zero d.rows hc (omega arith) start)))
    (rw (rows-clear n (λ _. false) (λ _. false) c n zero d) (whole-clear n c n zero d.rows hc (omega arith) p.whole)) in
    (r.0, rw p.is r.1)

-- ---- the closing map

free-times : (n : ℕ) (inv wanted : List ℕ) → length inv ≡ n → length wanted ≡ n → Free n inv → Free n wanted → Free n (map (λ v. times v zero inv) wanted)
unfolding Free dot
free-times n inv wanted li lw fi fw y k =
    let x : ℕ → Bool = λ j. dot n (at inv j) y in
    fi y (fw x (λ i hi.
    let v : ℕ = at wanted i in
    sum-ext n (λ j. bit v j && x j) (λ j. bit v (zero + j) && x (zero + j)) (λ j hj. ap (λ (z : ℕ). bit v z && x z) (plus j))
    ∙ ap (λ (l : ℕ). sum l (λ j. bit v (zero + j) && x (zero + j))) (sym li)
    ∙ sym (times-ok n x y v zero inv (λ j hj. ap x (plus j)))
    ∙ sym (ap (λ (z : ℕ). dot n z y) (at_map (λ v. times v zero inv) wanted i (subst (λ (z : ℕ). i < z) (sym lw) hi)))
    ∙ k i hi))
  where
    plus : (z : ℕ) → z ≡ zero + z
    plus z = omega arith

pub closing-total : (n : ℕ) (from wanted : List ℕ) → length from ≡ n → length wanted ≡ n → Free n from → Free n wanted → Found (closing from wanted)
unfolding closing Found Inverted Unit-below
closing-total n from wanted lf lw ff fw =
    split (eq_rows from wanted)
    (λ e. rw e ([], refl))
    (λ e. rw e (
    let i = inverse-total n from lf ff in
    let start : Adds = record { rows = map (λ v. times v zero i.0) wanted; adds = [] } in
    let r : Found (reduce_from (length wanted) (length wanted) zero start) =
    subst (λ (k : ℕ). Found (reduce_from k k zero start)) (sym lw)
    (reduce-total n n zero start (omega arith) (λ a b ha hb. absurd (not-suc-le-zero hb))
    (record { size = length-map wanted (λ v. times v zero i.0) ∙ lw; free = free-times n i.0 wanted i.2 lw i.3 fw })) in
    (reverse r.0.adds, rw i.1 (rw r.1 refl))))

-- the rows that the walk leaves
pub free-held : (n : ℕ) (C M : ℕ → Bool) (ss : List Step) (m : List ℕ) → Within n C M ss → length m ≡ n → Free n m → Free n (held ss m)
unfolding held Within add_to
free-held n C M [] m w l f = f
free-held n C M (cn p t ∷ ss) m w l f = free-held n C M ss (add_to p t m) w.1 (length-add_to p t m ∙ l) (free-add n p t m l w.0.0 w.0.1 w.0.2 f)
free-held n C M (rot q k ∷ ss) m w l f = free-held n C M ss m w.1 l f

-- ---- the rows of a block

-- the values x make every row 0
unfoldable pub Kills : ℕ → (ℕ → Bool) → List Row → Type 0
unfolding dot
Kills n x [] = Unit {0}
Kills n x (r ∷ rs) = (dot n r.parity x ≡ false) × Kills n x rs

-- only values that are all 0 do
unfoldable pub Basis : List Row → Type 0
unfolding Kills
Basis rs = (x : ℕ → Bool) → Kills (length rs) x rs → (i : ℕ) → i < length rs → x i ≡ false

kills-at : (n : ℕ) (x : ℕ → Bool) (rs : List Row) → ((i : ℕ) → i < length rs → dot n (at (parities rs) i) x ≡ false) → Kills n x rs
unfolding Kills
kills-at n x [] h = tt
kills-at n x (r ∷ rs) h = (h zero (suc-le-suc zero-le), kills-at n x rs (λ i hi. h (suc i) (suc-le-suc hi)))

kills-row : (n : ℕ) (x : ℕ → Bool) (q : ℕ) (rs : List Row) → joined q rs ≡ true → Kills n x rs → dot n (row_of q rs).parity x ≡ false
unfolding Kills row_of joined
kills-row n x q [] j k = absurd (false≢true j)
kills-row n x q (r ∷ rs) j k = split (eqb r.wire q) (λ e. rw e k.0) (λ e. rw e (kills-row n x q rs (rw e at j) k.1))

-- the last row alone
kills-snoc : (n : ℕ) (x : ℕ → Bool) (rs : List Row) (r : Row) → Kills n x (rs ++ (r ∷ [])) → Kills n x rs × (dot n r.parity x ≡ false)
unfolding Kills
kills-snoc n x [] r k = (tt, k.0)
kills-snoc n x (a ∷ rs) r k = let ih = kills-snoc n x rs r k.1 in ((k.0, ih.0), ih.1)

-- one value less
kills-fewer : (n : ℕ) (x : ℕ → Bool) (rs : List Row) → x n ≡ false → Kills (suc n) x rs → Kills n x rs
unfolding Kills dot sum
kills-fewer n x [] e k = tt
kills-fewer n x (r ∷ rs) e k = (
  sym (ap (λ (z : Bool). (bit r.parity n && z) ⊕ dot n r.parity x) e ∙ ap (λ (z : Bool). z ⊕ dot n r.parity x) (and-false (bit r.parity n))) ∙ k.0,
  kills-fewer n x rs e k.1,
)

pub length-snoc : (rs : List Row) (r : Row) → length (rs ++ (r ∷ [])) ≡ suc (length rs)
length-snoc [] r = refl
length-snoc (a ∷ rs) r = ap suc (length-snoc rs r)

basis-join : (q : ℕ) (rs : List Row) → Basis rs → Basis (join q rs)
unfolding Basis join
basis-join q rs h = split (joined q rs) (λ e. rw e h) (λ e. rw e (λ x k. go x (subst (λ (m : ℕ). Kills m x (rs ++ (fresh q (length rs) ∷ []))) (length-snoc rs (fresh q (length rs))) k)))
  where
    go : (x : ℕ → Bool) → Kills (suc (length rs)) x (rs ++ (fresh q (length rs) ∷ [])) → (i : ℕ) → i < length (rs ++ (fresh q (length rs) ∷ [])) → x i ≡ false
    go x k i hi =
        let n : ℕ = length rs in
        let two = kills-snoc (suc n) x rs (fresh q n) k in
        let last : x n ≡ false = sym (dot-unit (suc n) n x (le_refl (suc n))) ∙ two.1 in
        let len : length (rs ++ (fresh q n ∷ [])) ≡ suc n = length-snoc rs (fresh q n) in
        same i n (λ e _. ap x e ∙ last) (λ e _. h x (kills-fewer n x rs last two.0) i (omega arith))

row_other : (c t p : ℕ) (b : Bool) (rs : List Row) → c ≢ t → row_of c (add_row t p b rs) ≡ row_of c rs
unfolding row_of add_row
row_other c t p b [] ne = refl
row_other c t p b (r ∷ rs) ne =
    same r.wire t
    (λ e f. rw (f, ne_eqb r.wire c (λ g. ne (sym g ∙ e))))
    (λ e f. rw f (ap (λ (z : Row). cond (eqb r.wire c) r z) (row_other c t p b rs ne)))

pub length-add : (t p : ℕ) (b : Bool) (rs : List Row) → length (add_row t p b rs) ≡ length rs
unfolding add_row
length-add t p b [] = refl
length-add t p b (r ∷ rs) = split (eqb r.wire t) (λ e. rw e) (λ e. rw e (ap suc (length-add t p b rs)))

kills-add : (n : ℕ) (x : ℕ → Bool) (t p : ℕ) (b : Bool) (rs : List Row) → dot n p x ≡ false → Kills n x (add_row t p b rs) → Kills n x rs
unfolding Kills add_row
kills-add n x t p b [] e k = tt
kills-add n x t p b (r ∷ rs) e k =
    split (eqb r.wire t)
    (λ f. let k' = rw f at k in (sym (⊕-false (dot n r.parity x)) ∙ ap (λ (z : Bool). dot n r.parity x ⊕ z) (sym e) ∙ sym (dot-xor n r.parity p x) ∙ k'.0, k'.1))
    (λ f. let k' = rw f at k in (k'.0, kills-add n x t p b rs e k'.1))

basis-add : (t p : ℕ) (b : Bool) (rs : List Row) → ((x : ℕ → Bool) → Kills (length rs) x (add_row t p b rs) → dot (length rs) p x ≡ false) → Basis rs → Basis (add_row t p b rs)
unfolding Basis
basis-add t p b rs d h x k i hi =
    let k' = subst (λ (m : ℕ). Kills m x (add_row t p b rs)) (length-add t p b rs) k in
    h x (kills-add (length rs) x t p b rs (d x k') k') i (subst (λ (m : ℕ). i < m) (length-add t p b rs) hi)

-- no gate has a wire twice
abbrev pub SaneOp : Op → Type 0
SaneOp (flip q) = Unit {0}
SaneOp (phase k q) = Unit {0}
SaneOp (cnot c t) = c ≢ t
SaneOp (cz c t) = Unit {0}
SaneOp other = Unit {0}

unfoldable pub Sane : List Op → Type 0
Sane [] = Unit {0}
Sane (o ∷ os) = SaneOp o × Sane os

basis-absorb : (o : Op) (b : Block) → SaneOp o → Basis b.rows → Basis (absorb o b).rows
unfolding absorb entered rows_by
basis-absorb (flip q) b s h = basis-add q zero true (join q b.rows) (λ x k. Rattle.rules.proofs.Bits.dot-zero (length (join q b.rows)) x) (basis-join q b.rows h)
basis-absorb (phase k q) b s h = basis-join q b.rows h
basis-absorb (cnot c t) b s h =
    let rs : List Row = join t (join c b.rows) in
    let p : ℕ = (row_of c rs).parity in
    let f : Bool = (row_of c rs).flips in
    basis-add t p f rs
    (λ x k. ap (λ (r : Row). dot (length rs) r.parity x) (sym (row_other c t p f rs s))
    ∙ kills-row (length rs) x c (add_row t p f rs)
    (Rattle.rules.proofs.Emitting.joined-add c t p f rs ∙ Rattle.rules.proofs.Folding.joined-still c t (join c b.rows) (Rattle.rules.proofs.Folding.joined-join c b.rows)) k)
    (basis-join t (join c b.rows) (basis-join c b.rows h))
basis-absorb (cz c t) b s h = basis-join t (join c b.rows) (basis-join c b.rows h)
basis-absorb other b s h = h

basis-fold : (os : List Op) (b : Block) → Sane os → Basis b.rows → Basis (fold os b).rows
unfolding fold Sane
basis-fold [] b s h = h
basis-fold (o ∷ os) b s h = basis-fold os (absorb o b) s.1 (basis-absorb o b s.0 h)

basis-empty : Basis []
unfolding Basis
basis-empty x k i hi = absurd (not-suc-le-zero hi)

-- a block of such gates always has a resynthesis
pub synth-total : (os : List Op) → Sane os → Found (synth (fold os empty))
unfolding Found Basis Free
synth-total os s =
    let b : Block = fold os empty in
    let n : ℕ = size_of b in
    let ps : List ℕ = parities b.rows in
    let lr : length b.rows ≡ n = sym (length-map b.rows (λ r. r.wire)) in
    let basis : Basis b.rows = basis-fold os empty s basis-empty in
    let wanted : Free n ps = subst (λ (m : ℕ). Free m ps) lr (λ x k. basis x (kills-at (length b.rows) x b.rows k)) in
    let c = closing-total n (held (walk_of b) (units n zero)) ps
    (Rattle.rules.proofs.Blocks.held-length (walk_of b) (units n zero) ∙ length-units n zero) (length-map b.rows (λ r. r.parity) ∙ lr)
    (free-held n anywhere anywhere (walk_of b) (units n zero) (walk-within b) (length-units n zero) (free-units n)) wanted in
    (emit (wires_of b.rows) (walk_of b ++ c.0) ++ flips_of b.rows, synth-is b ∙ rw c.1)
