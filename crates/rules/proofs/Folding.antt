-- What a block has folded is what its gates do.
use mathlib.Core.Path.{◌≡◌, refl, sym, ap, ap₂, ◌∙◌}
use mathlib.Core.Bool.{Bool, true, false, ◌&&◌, cond, or-true, false≢true}
use mathlib.Core.List.{List, [], ◌∷◌, ◌++◌, map, append_assoc, append-nil}
use Prim.Native.Nat.{ℕ, zero, ◌+◌, ◌-◌, ◌%◌, ◌^◌, ◌<◌}
use native.Mathlib.Omega.{arith}
use lib.ListN.{length, get_or, length-append, length-map}
use lib.Seq.{get_or_at}
use lib.Dec.{eqb}
use borrow.Author.Tests.{eq-eqb, ne_eqb}
use Rattle.rules.specs.Bit.{◌⊕◌, dot}
use Rattle.rules.specs.Meaning.{Op, flip, phase, cnot, cz, other, moved, added, wires, phases, when1}
use Rattle.rules.specs.Fold.{Row, Term, Block, fresh, joined, row_of, add_row, join, signed, add_term, rotate, both, entered, rows_by, terms_by, absorb, fold}
use Rattle.rules.specs.Fold
use Rattle.rules.proofs.Bits.{split, same, eqb-self, dot-xor, dot-unit, dot-zero, ⊕-false, ⊕-mid}

abbrev pub wires_of : List Row → List ℕ
wires_of rs = map (λ r. r.wire) rs

-- xs begins ys
pub record Begins (xs ys : List ℕ) : Type 0 where
  pub rest : List ℕ
  pub whole : xs ++ rest ≡ ys

begins-same : {xs ys : List ℕ} → xs ≡ ys → Begins xs ys
begins-same {xs} e = record { rest = []; whole = append-nil xs ∙ e }

begins-trans : {xs ys zs : List ℕ} → Begins xs ys → Begins ys zs → Begins xs zs
begins-trans {xs} p q =
    record { rest = p.rest ++ q.rest; whole = sym (append_assoc xs p.rest q.rest) ∙ ap (λ (l : List ℕ). l ++ q.rest) p.whole ∙ q.whole }

wires-snoc : (rs : List Row) (r : Row) → wires_of (rs ++ (r ∷ [])) ≡ wires_of rs ++ (r.wire ∷ [])
wires-snoc [] r = refl
wires-snoc (a ∷ rs) r = ap (λ (l : List ℕ). a.wire ∷ l) (wires-snoc rs r)

begins-join : (q : ℕ) (rs : List Row) → Begins (wires_of rs) (wires_of (join q rs))
unfolding join
begins-join q rs =
    split (joined q rs) (λ e. rw e (begins-same refl)) (λ e. rw e (record { rest = q ∷ []; whole = sym (wires-snoc rs (fresh q (length rs))) }))

wires-add : (q p : ℕ) (b : Bool) (rs : List Row) → wires_of (add_row q p b rs) ≡ wires_of rs
unfolding add_row
wires-add q p b [] = refl
wires-add q p b (r ∷ rs) = split (eqb r.wire q) (λ e. rw e) (λ e. rw e (ap (λ (l : List ℕ). r.wire ∷ l) (wires-add q p b rs)))

wires-rows : (o : Op) (rs : List Row) → wires_of (rows_by o rs) ≡ wires_of rs
unfolding rows_by
wires-rows (flip q) rs = wires-add q zero true rs
wires-rows (phase k q) rs = refl
wires-rows (cnot c t) rs = wires-add t (row_of c rs).parity (row_of c rs).flips rs
wires-rows (cz c t) rs = refl
wires-rows other rs = refl

begins-entered : (o : Op) (rs : List Row) → Begins (wires_of rs) (wires_of (entered o rs))
unfolding entered
begins-entered (flip q) rs = begins-join q rs
begins-entered (phase k q) rs = begins-join q rs
begins-entered (cnot c t) rs = begins-trans (begins-join c rs) (begins-join t (join c rs))
begins-entered (cz c t) rs = begins-trans (begins-join c rs) (begins-join t (join c rs))
begins-entered other rs = begins-same refl

begins-absorb : (o : Op) (b : Block) → Begins (wires_of (entered o b.rows)) (wires_of (absorb o b).rows)
unfolding absorb
begins-absorb o b = begins-same (sym (wires-rows o (entered o b.rows)))

-- a gate changes rows, and adds none but those of the wires that it joins
pub absorb-rows : (o : Op) (b : Block) → length (absorb o b).rows ≡ length (entered o b.rows)
unfolding absorb
absorb-rows o b =
    let rs : List Row = entered o b.rows in
    sym (length-map (rows_by o rs) (λ r. r.wire)) ∙ ap length (wires-rows o rs) ∙ length-map rs (λ r. r.wire)

begins-fold : (os : List Op) (b : Block) → Begins (wires_of b.rows) (wires_of (fold os b).rows)
unfolding fold
begins-fold [] b = begins-same refl
begins-fold (o ∷ os) b = begins-trans (begins-trans (begins-entered o b.rows) (begins-absorb o b)) (begins-fold os (absorb o b))

-- ---- joined wires stay joined

joined_snoc : (q : ℕ) (rs : List Row) (r : Row) → joined q rs ≡ true → joined q (rs ++ (r ∷ [])) ≡ true
unfolding joined
joined_snoc q [] r h = absurd (false≢true h)
joined_snoc q (a ∷ rs) r h = split (eqb a.wire q) (λ e. rw e) (λ e. rw e (joined_snoc q rs r (rw e at h)))

joined-last : (rs : List Row) (r : Row) → joined r.wire (rs ++ (r ∷ [])) ≡ true
unfolding joined
joined-last [] r = rw (eqb-self r.wire)
joined-last (a ∷ rs) r = rw (joined-last rs r) (or-true (eqb a.wire r.wire))

pub joined-join : (q : ℕ) (rs : List Row) → joined q (join q rs) ≡ true
unfolding join
joined-join q rs = split (joined q rs) (λ e. rw e e) (λ e. rw e (joined-last rs (fresh q (length rs))))

pub joined-still : (q c : ℕ) (rs : List Row) → joined q rs ≡ true → joined q (join c rs) ≡ true
unfolding join
joined-still q c rs h = split (joined c rs) (λ e. rw e h) (λ e. rw e (joined_snoc q rs (fresh c (length rs)) h))

-- ---- the phases

-- what the constant of a rotation leaves behind
unfoldable pub lost_by : Op → List Row → ℕ
unfolding row_of
lost_by (flip q) rs = zero
lost_by (phase k q) rs = when1 (row_of q rs).flips k
lost_by (cnot c t) rs = zero
lost_by (cz c t) rs = when1 (row_of c rs).flips 2 + when1 (row_of t rs).flips 2 + when1 ((row_of c rs).flips ⊕ (row_of t rs).flips) 6
lost_by other rs = zero

unfoldable pub lost : List Op → Block → ℕ
unfolding entered absorb lost_by
lost [] b = zero
lost (o ∷ os) b = lost_by o (entered o b.rows) + lost os (absorb o b)

-- the sum of the turns of the terms whose parity is odd
unfoldable pub weigh : ℕ → (ℕ → Bool) → List Term → ℕ
unfolding dot
weigh n x [] = zero
weigh n x (t ∷ ts) = when1 (dot n t.parity x) t.turn + weigh n x ts

weigh-add : (n : ℕ) (x : ℕ → Bool) (p k : ℕ) (ts : List Term) → weigh n x (add_term p k ts) % 8 ≡ (when1 (dot n p x) k + weigh n x ts) % 8
unfolding weigh add_term
weigh-add n x p k [] = refl
weigh-add n x p k (t ∷ ts) =
    same t.parity p (λ h e. rw (e, ← h) (merge (dot n t.parity x) (weigh n x ts))) (λ h e. rw e (swap (weigh-add n x p k ts)))
  where
    merge : (d : Bool) (w : ℕ) → (when1 d ((t.turn + k) % 8) + w) % 8 ≡ (when1 d k + (when1 d t.turn + w)) % 8
    merge true w = omega arith
    merge false w = omega arith

    swap : weigh n x (add_term p k ts) % 8 ≡ (when1 (dot n p x) k + weigh n x ts) % 8
        → (when1 (dot n t.parity x) t.turn + weigh n x (add_term p k ts)) % 8 ≡ (when1 (dot n p x) k + (when1 (dot n t.parity x) t.turn + weigh n x ts)) % 8
    swap h = omega arith

negated : (k : ℕ) → (k + (8 - k % 8) % 8) % 8 ≡ 0
negated k = omega arith

cancel : (k m w v : ℕ) → (k + m) % 8 ≡ 0 → w % 8 ≡ (m + v) % 8 → v % 8 ≡ (k + w) % 8
cancel k m w v g h = omega arith

-- a rotation of the row's value, against its term
weigh-rotate : (n : ℕ) (x : ℕ → Bool) (k : ℕ) (r : Row) (ts : List Term)
    → (when1 (dot n r.parity x ⊕ r.flips) k + weigh n x ts) % 8 ≡ (when1 r.flips k + weigh n x (rotate k r ts)) % 8
weigh-rotate n x k r ts = go (dot n r.parity x) r.flips (weigh n x ts) (weigh n x (rotate k r ts)) (weigh-add n x r.parity (signed r.flips k) ts)
  where
    go : (d f : Bool) (v w : ℕ) → w % 8 ≡ (when1 d (signed f k) + v) % 8 → (when1 (d ⊕ f) k + v) % 8 ≡ (when1 f k + w) % 8
    go true true v w h = ap (λ (z : ℕ). z % 8) (zero-plus v) ∙ cancel k ((8 - k % 8) % 8) w v (negated k) h
      where
        zero-plus : (v : ℕ) → zero + v ≡ v
        zero-plus v = omega arith
    go true false v w h = omega arith
    go false true v w h = omega arith
    go false false v w h = omega arith

-- ---- the values that the wires hold: x, the values at the block's start by local index; s, the setting at its start

unfoldable pub value : ℕ → (ℕ → Bool) → (ℕ → Bool) → ℕ → List Row → Bool
unfolding dot
value n x s q [] = s q
value n x s q (r ∷ rs) = cond (eqb r.wire q) (dot n r.parity x ⊕ r.flips) (value n x s q rs)

module _ (n : ℕ) (x s : ℕ → Bool) where
  value-snoc : (q : ℕ) (rs : List Row) (r : Row) → (dot n r.parity x ⊕ r.flips) ≡ s r.wire → value n x s q (rs ++ (r ∷ [])) ≡ value n x s q rs
  unfolding value
  value-snoc q [] r h = same r.wire q (λ k e. rw e (h ∙ ap s k)) (λ k e. rw e)
  value-snoc q (a ∷ rs) r h = rw (value-snoc q rs r h)

  value_row : (q : ℕ) (rs : List Row) → joined q rs ≡ true → value n x s q rs ≡ (dot n (row_of q rs).parity x ⊕ (row_of q rs).flips)
  unfolding value row_of joined
  value_row q [] h = absurd (false≢true h)
  value_row q (r ∷ rs) h = split (eqb r.wire q) (λ e. rw e) (λ e. rw e (value_row q rs (rw e at h)))

  value-add : (q t p : ℕ) (b : Bool) (rs : List Row) → joined t rs ≡ true
      → value n x s q (add_row t p b rs) ≡ cond (eqb q t) (value n x s q rs ⊕ (dot n p x ⊕ b)) (value n x s q rs)
  unfolding value add_row joined
  value-add q t p b [] h = absurd (false≢true h)
  value-add q t p b (r ∷ rs) h =
      same r.wire t
      (λ u e. same q t
      (λ v f. rw (e, f, eq-eqb r.wire q (u ∙ sym v))
      (ap (λ (z : Bool). z ⊕ (r.flips ⊕ b)) (dot-xor n r.parity p x) ∙ ⊕-mid (dot n r.parity x) (dot n p x) r.flips b))
      (λ v f. rw (e, f, ne_eqb r.wire q (λ k. v (sym k ∙ u)))))
      (λ u e. same r.wire q
      (λ v f. rw (e, f, ne_eqb q t (λ k. u (v ∙ k))))
      (λ v f. rw (e, f) (value-add q t p b rs (rw e at h))))

-- ---- one gate

-- the values at the block's start, by local index
abbrev pub starts : List ℕ → (ℕ → Bool) → ℕ → Bool
starts W s i = s (get_or W i zero)

-- where a wire that joins stands
place : (W : List ℕ) (rs : List Row) (c : ℕ) → Begins (wires_of (rs ++ (fresh c (length rs) ∷ []))) W → (length rs < length W) × (get_or W (length rs) zero ≡ c)
place W rs c h =
    let all : wires_of rs ++ (c ∷ h.rest) ≡ W =
    sym (append_assoc (wires_of rs) (c ∷ []) h.rest) ∙ ap (λ (l : List ℕ). l ++ h.rest) (sym (wires-snoc rs (fresh c (length rs)))) ∙ h.whole in (
      omega (arith, ap length all, length-append (wires_of rs) (c ∷ h.rest), length-map rs (λ (r : Row). r.wire)),
      ap (λ (l : List ℕ). get_or l (length rs) zero) (sym all) ∙ get_or_at (wires_of rs) c h.rest zero (length rs) (length-map rs (λ (r : Row). r.wire)),
    )

-- two steps in a row
link : (a u l v p m w : ℕ) → (a + u) % 8 ≡ (l + v) % 8 → (p + v) % 8 ≡ (m + w) % 8 → (a + p + u) % 8 ≡ (l + m + w) % 8
link a u l v p m w h k = omega arith

-- three folds in a row
chain : (a b c a' b' c' u v w z : ℕ) → (a + u) % 8 ≡ (a' + v) % 8 → (b + v) % 8 ≡ (b' + w) % 8 → (c + w) % 8 ≡ (c' + z) % 8
    → (a + b + c + u) % 8 ≡ (a' + b' + c' + z) % 8
chain a b c a' b' c' u v w z p q r = link (a + b) u (a' + b') w c c' z (link a u a' v b b' w p q) r

-- 4 on both, by parities
cz-sum : (a b : Bool) (w : ℕ) → (when1 (a && b) 4 + w) % 8 ≡ (when1 a 2 + when1 b 2 + when1 (a ⊕ b) 6 + w) % 8
cz-sum true true w = omega arith
cz-sum true false w = omega arith
cz-sum false true w = omega arith
cz-sum false false w = omega arith

module _ (W : List ℕ) (s : ℕ → Bool) where
  -- what the wire q holds
  abbrev pub now : ℕ → List Row → Bool
  now q rs = value (length W) (starts W s) s q rs

  abbrev pub weight : List Term → ℕ
  weight ts = weigh (length W) (starts W s) ts

  now-join : (c q : ℕ) (rs : List Row) → Begins (wires_of (join c rs)) W → now q (join c rs) ≡ now q rs
  unfolding join
  now-join c q rs h =
      split (joined c rs) (λ e. rw e)
      (λ e. rw e (
      let at = place W rs c (rw e at h) in
      value-snoc (length W) (starts W s) s q rs (fresh c (length rs))
      (⊕-false (dot (length W) (2 ^ length rs) (starts W s)) ∙ dot-unit (length W) (length rs) (starts W s) at.0 ∙ ap s at.1)))

  now-entered : (o : Op) (q : ℕ) (rs : List Row) → Begins (wires_of (entered o rs)) W → now q (entered o rs) ≡ now q rs
  unfolding entered
  now-entered (flip a) q rs h = now-join a q rs h
  now-entered (phase k a) q rs h = now-join a q rs h
  now-entered (cnot c t) q rs h = now-join t q (join c rs) h ∙ now-join c q rs (begins-trans (begins-join t (join c rs)) h)
  now-entered (cz c t) q rs h = now-join t q (join c rs) h ∙ now-join c q rs (begins-trans (begins-join t (join c rs)) h)
  now-entered other q rs h = refl

  -- the rows after a gate hold what the wires hold after it
  now-rows : (o : Op) (s' : ℕ → Bool) (rs : List Row) → ((q : ℕ) → s' q ≡ now q (entered o rs)) → (q : ℕ) → moved o s' q ≡ now q (rows_by o (entered o rs))
  unfolding moved rows_by entered
  now-rows (flip a) s' rs h q =
      ap (λ (z : Bool). cond (eqb q a) (z ⊕ true) z) (h q)
      ∙ ap (λ (z : Bool). cond (eqb q a) (now q (join a rs) ⊕ (z ⊕ true)) (now q (join a rs))) (sym (dot-zero (length W) (starts W s)))
      ∙ sym (value-add (length W) (starts W s) s q a zero true (join a rs) (joined-join a rs))
  now-rows (phase k a) s' rs h q = h q
  now-rows (cnot c t) s' rs h q =
      let es : List Row = join t (join c rs) in
      ap₂ (λ (z y : Bool). cond (eqb q t) (z ⊕ y) z) (h q)
      (h c ∙ value_row (length W) (starts W s) s c es (joined-still c t (join c rs) (joined-join c rs)))
      ∙ sym (value-add (length W) (starts W s) s q t (row_of c es).parity (row_of c es).flips es (joined-join t (join c rs)))
  now-rows (cz c t) s' rs h q = h q
  now-rows other s' rs h q = h q

  -- and the terms weigh what it adds
  now-terms : (o : Op) (s' : ℕ → Bool) (rs : List Row) (ts : List Term) → ((q : ℕ) → s' q ≡ now q (entered o rs))
      → (added o s' + weight ts) % 8 ≡ (lost_by o (entered o rs) + weight (terms_by o (entered o rs) ts)) % 8
  unfolding added terms_by lost_by entered
  now-terms (flip a) s' rs ts h = refl
  now-terms (phase k a) s' rs ts h =
      let es : List Row = join a rs in
      ap (λ (z : Bool). (when1 z k + weight ts) % 8) (h a ∙ value_row (length W) (starts W s) s a es (joined-join a rs))
      ∙ weigh-rotate (length W) (starts W s) k (row_of a es) ts
  now-terms (cnot c t) s' rs ts h = refl
  now-terms (cz c t) s' rs ts h =
      let es : List Row = join t (join c rs) in
      let n : ℕ = length W in
      let x : ℕ → Bool = starts W s in
      let rc : Row = row_of c es in
      let rt : Row = row_of t es in
      let vc : Bool = dot n rc.parity x ⊕ rc.flips in
      let vt : Bool = dot n rt.parity x ⊕ rt.flips in
      let t1 : List Term = rotate 2 rc ts in
      let t2 : List Term = rotate 2 rt t1 in
      ap₂ (λ (y z : Bool). (when1 (y && z) 4 + weight ts) % 8)
      (h c ∙ value_row n x s c es (joined-still c t (join c rs) (joined-join c rs)))
      (h t ∙ value_row n x s t es (joined-join t (join c rs)))
      ∙ cz-sum vc vt (weight ts)
      ∙ chain (when1 vc 2) (when1 vt 2) (when1 (vc ⊕ vt) 6) (when1 rc.flips 2) (when1 rt.flips 2) (when1 (rc.flips ⊕ rt.flips) 6)
      (weight ts) (weight t1) (weight t2) (weight (rotate 6 (both rc rt) t2))
      (weigh-rotate n x 2 rc ts) (weigh-rotate n x 2 rt t1)
      (ap (λ (z : Bool). (when1 z 6 + weight t2) % 8)
      (⊕-mid (dot n rc.parity x) rc.flips (dot n rt.parity x) rt.flips
      ∙ ap (λ (z : Bool). z ⊕ (rc.flips ⊕ rt.flips)) (sym (dot-xor n rc.parity rt.parity x)))
      ∙ weigh-rotate n x 6 (both rc rt) t2)
  now-terms other s' rs ts h = refl

-- ---- the theorem

module _ (W : List ℕ) (s : ℕ → Bool) where
  -- from a block whose rows hold the wires of s', for any gates whose wires are W's first
  pub fold-wires : (os : List Op) (b : Block) (s' : ℕ → Bool) → Begins (wires_of (fold os b).rows) W → ((q : ℕ) → s' q ≡ now W s q b.rows)
      → (q : ℕ) → wires os s' q ≡ now W s q (fold os b).rows
  unfolding wires fold absorb
  fold-wires [] b s' g h q = h q
  fold-wires (o ∷ os) b s' g h q =
      fold-wires os (absorb o b) (moved o s') g
      (now-rows W s o s' b.rows (λ a. h a ∙ sym (now-entered W s o a b.rows (begins-trans (begins-absorb o b) (begins-trans (begins-fold os (absorb o b)) g)))))
      q

  pub fold-phases : (os : List Op) (b : Block) (s' : ℕ → Bool) → Begins (wires_of (fold os b).rows) W → ((q : ℕ) → s' q ≡ now W s q b.rows)
      → (phases os s' + weight W s b.terms) % 8 ≡ (lost os b + weight W s (fold os b).terms) % 8
  unfolding phases fold absorb lost
  fold-phases [] b s' g h = refl
  fold-phases (o ∷ os) b s' g h =
      let k : (q : ℕ) → s' q ≡ now W s q (entered o b.rows) =
      λ a. h a ∙ sym (now-entered W s o a b.rows (begins-trans (begins-absorb o b) (begins-trans (begins-fold os (absorb o b)) g))) in
      link (added o s') (weight W s b.terms) (lost_by o (entered o b.rows)) (weight W s (absorb o b).terms)
      (phases os (moved o s')) (lost os (absorb o b)) (weight W s (fold os (absorb o b)).terms)
      (now-terms W s o s' b.rows b.terms k)
      (fold-phases os (absorb o b) (moved o s') g (now-rows W s o s' b.rows k))

-- a block from its start: the wires, and the phases up to the constant `lost`
pub folded : (os : List Op) (s : ℕ → Bool)
    → ((q : ℕ) → wires os s q ≡ now (wires_of (fold os Fold.empty).rows) s q (fold os Fold.empty).rows)
    × (phases os s % 8 ≡ (lost os Fold.empty + weight (wires_of (fold os Fold.empty).rows) s (fold os Fold.empty).terms) % 8)
unfolding weigh value
folded os s =
    let W : List ℕ = wires_of (fold os Fold.empty).rows in (
      fold-wires W s os Fold.empty s (begins-same refl) (λ q. refl),
      ap (λ (z : ℕ). z % 8) (plus-zero (phases os s)) ∙ fold-phases W s os Fold.empty s (begins-same refl) (λ q. refl),
    )
  where
    plus-zero : (z : ℕ) → z ≡ z + zero
    plus-zero z = omega arith
