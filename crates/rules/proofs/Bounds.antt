-- Parities of a block of n wires are numbers below 2 ^ n, and no parity stands twice in its table.
use mathlib.Core.Path.{◌≡◌, refl, sym, ap, ◌∙◌, subst}
use mathlib.Core.Logic.{◌≢◌, ◌⊎◌, inl, inr}
use mathlib.Core.Bool.{Bool, true, false, not, false≢true, true≢false}
use mathlib.Core.List.{List, [], ◌∷◌, ◌++◌}
use Prim.Native.Nat.{ℕ, zero, suc, ◌+◌, ◌-◌, ◌*◌, ◌/◌, ◌%◌, ◌^◌, ◌≤◌, ◌<◌, suc-le-suc}
use native.Mathlib.Nat.{le_refl, le-suc, le_trans, zero-lt-suc, mod-lt, not-suc-le-zero}
use native.Mathlib.Omega.{arith}
use lib.ListN.{length}
use lib.Dec.{eqb}
use lib.Arith.{lt-one}
use lib.Pow.{pow_pos, pow_mono, pow-lt, ones_lt}
use Rattle.rules.specs.Bit.{◌⊕◌, is_set, bit}
use Rattle.rules.specs.Meaning.{Op, flip, phase, cnot, cz, other}
use Rattle.rules.specs.Fold.{Row, Term, Block, empty, fresh, joined, row_of, add_row, join, add_term, rotate, signed, both, entered, rows_by, terms_by, absorb, fold}
use Rattle.rules.specs.Walk.{free, is_none, nonzero, phase_walk}
use Rattle.rules.proofs.Bits.{xor_lt, split, same, bit-suc, bit-ones}
use Rattle.rules.proofs.Walking.{tally-le}
use Rattle.rules.proofs.Machine.{phase-walk}
use Rattle.rules.proofs.One.{tree_one, tree-one, Differ, DifferAll, Distinct}
use Rattle.rules.proofs.Total.{length-snoc, length-add}

-- ---- bounds

unfoldable pub RowsBelow : ℕ → List Row → Type 0
RowsBelow n [] = Unit {0}
RowsBelow n (r ∷ rs) = (r.parity < 2 ^ n) × RowsBelow n rs

unfoldable pub TermsBelow : ℕ → List Term → Type 0
TermsBelow n [] = Unit {0}
TermsBelow n (t ∷ ts) = (t.parity < 2 ^ n) × TermsBelow n ts

rows_more : (n m : ℕ) (rs : List Row) → n ≤ m → RowsBelow n rs → RowsBelow m rs
unfolding RowsBelow
rows_more n m [] l h = tt
rows_more n m (r ∷ rs) l h = (le_trans h.0 (pow_mono l), rows_more n m rs l h.1)

terms-more : (n m : ℕ) (ts : List Term) → n ≤ m → TermsBelow n ts → TermsBelow m ts
unfolding TermsBelow
terms-more n m [] l h = tt
terms-more n m (t ∷ ts) l h = (le_trans h.0 (pow_mono l), terms-more n m ts l h.1)

rows_snoc : (n : ℕ) (rs : List Row) (r : Row) → RowsBelow n rs → r.parity < 2 ^ n → RowsBelow n (rs ++ (r ∷ []))
unfolding RowsBelow
rows_snoc n [] r h k = (k, tt)
rows_snoc n (a ∷ rs) r h k = (h.0, rows_snoc n rs r h.1 k)

-- the rows are below their own number, which does not fall
pub record Grown (m : ℕ) (rs : List Row) : Type 0 where
  pub more : m ≤ length rs
  pub below : RowsBelow (length rs) rs

grown-join : (q : ℕ) (rs : List Row) → RowsBelow (length rs) rs → Grown (length rs) (join q rs)
unfolding join
grown-join q rs h =
    split (joined q rs)
    (λ e. rw e (record { more = le_refl (length rs); below = h }))
    (λ e. rw e (
    let r : Row = fresh q (length rs) in
    let l : length (rs ++ (r ∷ [])) ≡ suc (length rs) = length-snoc rs r in
    record {
      more = omega arith;
      below = subst (λ (k : ℕ). RowsBelow k (rs ++ (r ∷ []))) (sym l) (rows_snoc (suc (length rs)) rs r (rows_more (length rs) (suc (length rs)) rs (le-suc (length rs)) h) (pow-lt (le_refl (suc (length rs)))));
    }))

grown-then : (m : ℕ) (q : ℕ) (rs : List Row) → Grown m rs → Grown m (join q rs)
grown-then m q rs g = let k = grown-join q rs g.below in record { more = le_trans g.more k.more; below = k.below }

grown-entered : (o : Op) (rs : List Row) → RowsBelow (length rs) rs → Grown (length rs) (entered o rs)
unfolding entered
grown-entered (flip q) rs h = grown-join q rs h
grown-entered (phase k q) rs h = grown-join q rs h
grown-entered (cnot c t) rs h = grown-then (length rs) t (join c rs) (grown-join c rs h)
grown-entered (cz c t) rs h = grown-then (length rs) t (join c rs) (grown-join c rs h)
grown-entered other rs h = record { more = le_refl (length rs); below = h }

row_below : (n q : ℕ) (rs : List Row) → RowsBelow n rs → (row_of q rs).parity < 2 ^ n
unfolding RowsBelow row_of
row_below n q [] h = pow_pos n
row_below n q (r ∷ rs) h = split (eqb r.wire q) (λ e. rw e h.0) (λ e. rw e (row_below n q rs h.1))

rows-add : (n t p : ℕ) (b : Bool) (rs : List Row) → p < 2 ^ n → RowsBelow n rs → RowsBelow n (add_row t p b rs)
unfolding RowsBelow add_row
rows-add n t p b [] l h = tt
rows-add n t p b (r ∷ rs) l h = split (eqb r.wire t) (λ e. rw e (xor_lt n r.parity p h.0 l, h.1)) (λ e. rw e (h.0, rows-add n t p b rs l h.1))

rows-by : (n : ℕ) (o : Op) (rs : List Row) → RowsBelow n rs → RowsBelow n (rows_by o rs) × (length (rows_by o rs) ≡ length rs)
unfolding rows_by
rows-by n (flip q) rs h = (rows-add n q zero true rs (pow_pos n) h, length-add q zero true rs)
rows-by n (phase k q) rs h = (h, refl)
rows-by n (cnot c t) rs h = (rows-add n t (row_of c rs).parity (row_of c rs).flips rs (row_below n c rs h) h, length-add t (row_of c rs).parity (row_of c rs).flips rs)
rows-by n (cz c t) rs h = (h, refl)
rows-by n other rs h = (h, refl)

terms-add : (n p k : ℕ) (ts : List Term) → p < 2 ^ n → TermsBelow n ts → TermsBelow n (add_term p k ts)
unfolding TermsBelow add_term
terms-add n p k [] l h = (l, tt)
terms-add n p k (t ∷ ts) l h = split (eqb t.parity p) (λ e. rw e h) (λ e. rw e (h.0, terms-add n p k ts l h.1))

terms-by : (n : ℕ) (o : Op) (rs : List Row) (ts : List Term) → RowsBelow n rs → TermsBelow n ts → TermsBelow n (terms_by o rs ts)
unfolding terms_by
terms-by n (flip q) rs ts h k = k
terms-by n (phase a q) rs ts h k = terms-add n (row_of q rs).parity (signed (row_of q rs).flips a) ts (row_below n q rs h) k
terms-by n (cnot c t) rs ts h k = k
terms-by n (cz c t) rs ts h k =
    let rc : Row = row_of c rs in
    let rt : Row = row_of t rs in
    let bc = row_below n c rs h in
    let bt = row_below n t rs h in
    terms-add n (both rc rt).parity (signed (both rc rt).flips 6) (rotate 2 rt (rotate 2 rc ts)) (xor_lt n rc.parity rt.parity bc bt)
    (terms-add n rt.parity (signed rt.flips 2) (rotate 2 rc ts) bt (terms-add n rc.parity (signed rc.flips 2) ts bc k))
terms-by n other rs ts h k = k

-- a block is in bounds
pub record InBounds (b : Block) : Type 0 where
  pub rows-below : RowsBelow (length b.rows) b.rows
  pub terms-below : TermsBelow (length b.rows) b.terms

bounds-absorb : (o : Op) (b : Block) → InBounds b → InBounds (absorb o b)
unfolding absorb
bounds-absorb o b h =
    let es : List Row = entered o b.rows in
    let g = grown-entered o b.rows h.rows-below in
    let r = rows-by (length es) o es g.below in
    record {
      rows-below = subst (λ (k : ℕ). RowsBelow k (rows_by o es)) (sym r.1) r.0;
      terms-below = subst (λ (k : ℕ). TermsBelow k (terms_by o es b.terms)) (sym r.1) (terms-by (length es) o es b.terms g.below (terms-more (length b.rows) (length es) b.terms g.more h.terms-below));
    }

pub bounds-fold : (os : List Op) (b : Block) → InBounds b → InBounds (fold os b)
unfolding fold
bounds-fold [] b h = h
bounds-fold (o ∷ os) b h = bounds-fold os (absorb o b) (bounds-absorb o b h)

-- ---- no parity twice

unfoldable pub Lacks : ℕ → List Term → Type 0
Lacks p [] = Unit {0}
Lacks p (t ∷ ts) = (p ≢ t.parity) × Lacks p ts

unfoldable pub Once : List Term → Type 0
unfolding Lacks
Once [] = Unit {0}
Once (t ∷ ts) = Lacks t.parity ts × Once ts

lacks-add : (q p k : ℕ) (ts : List Term) → q ≢ p → Lacks q ts → Lacks q (add_term p k ts)
unfolding Lacks add_term
lacks-add q p k [] ne h = (ne, tt)
lacks-add q p k (t ∷ ts) ne h = split (eqb t.parity p) (λ e. rw e h) (λ e. rw e (h.0, lacks-add q p k ts ne h.1))

once-add : (p k : ℕ) (ts : List Term) → Once ts → Once (add_term p k ts)
unfolding Once add_term
once-add p k [] h = (tt, tt)
once-add p k (t ∷ ts) h = same t.parity p (λ e f. rw f h) (λ e f. rw f (lacks-add t.parity p k ts e h.0, once-add p k ts h.1))

once_by : (o : Op) (rs : List Row) (ts : List Term) → Once ts → Once (terms_by o rs ts)
unfolding terms_by
once_by (flip q) rs ts h = h
once_by (phase a q) rs ts h = once-add (row_of q rs).parity (signed (row_of q rs).flips a) ts h
once_by (cnot c t) rs ts h = h
once_by (cz c t) rs ts h =
    let rc : Row = row_of c rs in
    let rt : Row = row_of t rs in
    once-add (both rc rt).parity (signed (both rc rt).flips 6) (rotate 2 rt (rotate 2 rc ts))
    (once-add rt.parity (signed rt.flips 2) (rotate 2 rc ts) (once-add rc.parity (signed rc.flips 2) ts h))
once_by other rs ts h = h

pub once-fold : (os : List Op) (b : Block) → Once b.terms → Once (fold os b).terms
unfolding fold absorb
once-fold [] b h = h
once-fold (o ∷ os) b h = once-fold os (absorb o b) (once_by o (entered o b.rows) b.terms h)

lacks-nonzero : (q : ℕ) (ts : List Term) → Lacks q ts → Lacks q (nonzero ts)
unfolding Lacks nonzero
lacks-nonzero q [] h = tt
lacks-nonzero q (t ∷ ts) h = split (is_none (t.turn % 8)) (λ e. rw e (lacks-nonzero q ts h.1)) (λ e. rw e (h.0, lacks-nonzero q ts h.1))

once-nonzero : (ts : List Term) → Once ts → Once (nonzero ts)
unfolding Once nonzero
once-nonzero [] h = tt
once-nonzero (t ∷ ts) h = split (is_none (t.turn % 8)) (λ e. rw e (once-nonzero ts h.1)) (λ e. rw e (lacks-nonzero t.parity ts h.0, once-nonzero ts h.1))

below-nonzero : (n : ℕ) (ts : List Term) → TermsBelow n ts → TermsBelow n (nonzero ts)
unfolding TermsBelow nonzero
below-nonzero n [] h = tt
below-nonzero n (t ∷ ts) h = split (is_none (t.turn % 8)) (λ e. rw e (below-nonzero n ts h.1)) (λ e. rw e (h.0, below-nonzero n ts h.1))

-- ---- two numbers of n digits are equal, or differ in a digit

low-eq : (a b : ℕ) → a < 2 → b < 2 → is_set a ≡ is_set b → a ≡ b
low-eq zero zero ha hb e = refl
low-eq zero (suc b) ha hb e = absurd (false≢true e)
low-eq (suc a) zero ha hb e = absurd (true≢false e)
low-eq (suc a) (suc b) ha hb e = omega arith

pub digits-eq : (n v u : ℕ) → v < 2 ^ n → u < 2 ^ n → ((i : ℕ) → i < n → bit v i ≡ bit u i) → v ≡ u
unfolding bit
digits-eq zero v u hv hu h = lt-one hv ∙ sym (lt-one hu)
digits-eq (suc n) v u hv hu h =
    let low : v % 2 ≡ u % 2 = low-eq (v % 2) (u % 2) (mod-lt v (zero-lt-suc 1)) (mod-lt u (zero-lt-suc 1))
    (ap (λ (z : ℕ). is_set (z % 2)) (sym (one v)) ∙ h zero (zero-lt-suc n) ∙ ap (λ (z : ℕ). is_set (z % 2)) (one u)) in
    let high : v / 2 ≡ u / 2 = digits-eq n (v / 2) (u / 2) (small v hv) (small u hu) (λ i k. sym (bit-suc v i) ∙ h (suc i) (suc-le-suc k) ∙ bit-suc u i) in
    omega arith
  where
    one : (z : ℕ) → z / 1 ≡ z
    one z = omega arith

    small : (z : ℕ) → z < 2 ^ suc n → z / 2 < 2 ^ n
    small z k = omega arith

⊕-same : (a b : Bool) → (a ⊕ b) ≡ false → a ≡ b
⊕-same true true h = refl
⊕-same true false h = h
⊕-same false b h = sym h

⊕-other : (a b : Bool) → (a ⊕ b) ≡ true → a ≡ not b
⊕-other true true h = sym h
⊕-other true false h = refl
⊕-other false true h = refl
⊕-other false false h = h

-- the digits below m agree, or one differs
look : (m v u : ℕ) → ((i : ℕ) → i < m → bit v i ≡ bit u i) ⊎ ((i : ℕ) × (i < m) × (bit v i ≡ not (bit u i)))
look zero v u = inl (λ i k. absurd (not-suc-le-zero k))
look (suc m) v u = split (bit v m ⊕ bit u m) (λ e. inr (m, le_refl (suc m), ⊕-other (bit v m) (bit u m) e)) (λ e. go e (look m v u))
  where
    go : (bit v m ⊕ bit u m) ≡ false → ((i : ℕ) → i < m → bit v i ≡ bit u i) ⊎ ((i : ℕ) × (i < m) × (bit v i ≡ not (bit u i)))
        → ((i : ℕ) → i < suc m → bit v i ≡ bit u i) ⊎ ((i : ℕ) × (i < suc m) × (bit v i ≡ not (bit u i)))
    go e (inl h) = inl (λ i k. same i m (λ q _. ap (bit v) q ∙ ⊕-same (bit v m) (bit u m) e ∙ ap (bit u) (sym q)) (λ q _. h i (omega arith)))
    go e (inr (i, k, d)) = inr (i, le_trans k (le-suc m), d)

differ_of : (n v u : ℕ) → v < 2 ^ n → u < 2 ^ n → v ≢ u → Differ (2 ^ n - 1) v u
differ_of n v u hv hu ne = go (look n v u)
  where
    go : ((i : ℕ) → i < n → bit v i ≡ bit u i) ⊎ ((i : ℕ) × (i < n) × (bit v i ≡ not (bit u i))) → Differ (2 ^ n - 1) v u
    go (inl h) = absurd (ne (digits-eq n v u hv hu h))
    go (inr (i, k, d)) = record { col = i; cand = bit-ones n i k; apart = d }

differ-all : (n v : ℕ) (ts : List Term) → v < 2 ^ n → TermsBelow n ts → Lacks v ts → DifferAll (2 ^ n - 1) v ts
unfolding TermsBelow Lacks DifferAll
differ-all n v [] hv b h = tt
differ-all n v (t ∷ ts) hv b h = (differ_of n v t.parity hv b.0 h.0, differ-all n v ts hv b.1 h.1)

distinct_of : (n : ℕ) (ts : List Term) → TermsBelow n ts → Once ts → Distinct (2 ^ n - 1) ts
unfolding TermsBelow Once Distinct
distinct_of n [] b h = tt
distinct_of n (t ∷ ts) b h = (differ-all n t.parity ts b.0 b.1 h.0, distinct_of n ts b.1 h.1)

-- a leaf holds one term: the walk of a block is the walk by the original's rule, which emits only where there is exactly one
pub leaf-one : (os : List Op) → phase_walk (length (fold os empty).rows) (fold os empty).terms
    ≡ tree_one (length (fold os empty).rows) (length (fold os empty).rows) (2 ^ length (fold os empty).rows - 1) free (nonzero (fold os empty).terms)
unfolding RowsBelow TermsBelow Once
leaf-one os =
    let b : Block = fold os empty in
    let n : ℕ = length b.rows in
    let set : List Term = nonzero b.terms in
    let bounds : InBounds b = bounds-fold os empty (record { rows-below = tt; terms-below = tt }) in
    phase-walk n b.terms
    ∙ sym (tree-one n n (2 ^ n - 1) free set (ones_lt n) (tally-le n (bit (2 ^ n - 1))) tt
    (distinct_of n set (below-nonzero n b.terms bounds.terms-below) (once-nonzero b.terms (once-fold os empty tt))))

-- ---- one gate more: what code that keeps a block has to show

pub fold-snoc : (os : List Op) (o : Op) (b : Block) → fold (os ++ (o ∷ [])) b ≡ absorb o (fold os b)
unfolding fold
fold-snoc [] o b = refl
fold-snoc (a ∷ os) o b = fold-snoc os o (absorb a b)

-- a gate adds three terms at most
pub length-add_term : (p k : ℕ) (ts : List Term) → length (add_term p k ts) ≤ length ts + 1
unfolding add_term
length-add_term p k [] = omega arith
length-add_term p k (t ∷ ts) = split (eqb t.parity p) (λ e. rw e (omega arith)) (λ e. rw e (omega (arith, length-add_term p k ts)))

length-terms_by : (o : Op) (rs : List Row) (ts : List Term) → length (terms_by o rs ts) ≤ length ts + 3
unfolding terms_by
length-terms_by (flip q) rs ts = omega arith
length-terms_by (phase k q) rs ts = omega (arith, length-add_term (row_of q rs).parity (signed (row_of q rs).flips k) ts)
length-terms_by (cnot c t) rs ts = omega arith
length-terms_by (cz c t) rs ts =
    let rc : Row = row_of c rs in
    let rt : Row = row_of t rs in
    omega (
      arith,
      length-add_term (both rc rt).parity (signed (both rc rt).flips 6) (rotate 2 rt (rotate 2 rc ts)),
      length-add_term rt.parity (signed rt.flips 2) (rotate 2 rc ts),
      length-add_term rc.parity (signed rc.flips 2) ts,
    )
length-terms_by other rs ts = omega arith

pub length-terms : (os : List Op) (b : Block) → length (fold os b).terms ≤ length b.terms + 3 * length os
unfolding fold absorb
length-terms [] b = omega arith
length-terms (o ∷ os) b = omega (arith, length-terms os (absorb o b), length-terms_by o (entered o b.rows) b.terms)
