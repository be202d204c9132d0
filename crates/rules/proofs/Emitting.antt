-- Steps on local indices, and the gates that they are emitted as.
use mathlib.Core.Path.{◌≡◌, refl, sym, ap, ap₂, ◌∙◌}
use mathlib.Core.Logic.{◌≢◌}
use mathlib.Core.Bool.{Bool, true, false, ◌||◌, cond, or-false, true≢false}
use mathlib.Core.List.{List, [], ◌∷◌, ◌++◌, map}
use Prim.Native.Nat.{ℕ, zero, suc, ◌+◌, ◌%◌, ◌<◌}
use native.Mathlib.Nat.{not-suc-le-zero, le_of_suc-le-suc, mod-lt, zero-lt-suc}
use native.Mathlib.Omega.{arith}
use lib.ListN.{length}
use lib.Dec.{eqb}
use borrow.Author.Tests.{eq-eqb, ne_eqb}
use Rattle.rules.specs.Gate.{Gate}
use Rattle.rules.specs.Bit.{◌⊕◌}
use Rattle.rules.specs.Meaning.{Op, flip, phase, cnot, cz, other, op, change, when1, moved, added, wires, phases}
use Rattle.rules.specs.Fold.{Row, Block, fresh, joined, row_of, add_row, join, entered, rows_by, absorb, fold}
use Rattle.rules.specs.Walk.{Step, cn, rot}
use Rattle.rules.specs.Synth.{rotation, emit, flips_of}
use Rattle.rules.proofs.Bits.{split, same, ⊕-false}
use Rattle.rules.proofs.Folding.{wires_of}
use Rattle.rules.proofs.Walking.{ops, Within}
use Rattle.rules.proofs.Closing.{at}

-- ---- runs, one after the other

pub wires-app : (us vs : List Op) (s : ℕ → Bool) → wires (us ++ vs) s ≡ wires vs (wires us s)
unfolding wires
wires-app [] vs s = refl
wires-app (u ∷ us) vs s = wires-app us vs (moved u s)

pub phases-app : (us vs : List Op) (s : ℕ → Bool) → phases (us ++ vs) s ≡ phases us s + phases vs (wires us s)
unfolding wires phases
phases-app [] vs s = plus (phases vs s)
  where
    plus : (z : ℕ) → z ≡ zero + z
    plus z = omega arith
phases-app (u ∷ us) vs s = ap (λ (z : ℕ). added u s + z) (phases-app us vs (moved u s)) ∙ assoc (added u s) (phases us (moved u s)) (phases vs (wires us (moved u s)))
  where
    assoc : (x y z : ℕ) → x + (y + z) ≡ x + y + z
    assoc x y z = omega arith

pub map_app : {A B : Type 0} (f : A → B) (us vs : List A) → map f (us ++ vs) ≡ map f us ++ map f vs
map_app f [] vs = refl
map_app {B = B} f (u ∷ us) vs = ap (λ (l : List B). f u ∷ l) (map_app f us vs)

-- ---- no wire joins twice

unfoldable pub Apart : List Row → Type 0
unfolding joined
Apart [] = Unit {0}
Apart (r ∷ rs) = (joined r.wire rs ≡ false) × Apart rs

joined-app : (q : ℕ) (rs : List Row) (r : Row) → joined q (rs ++ (r ∷ [])) ≡ (joined q rs || eqb r.wire q)
unfolding joined
joined-app q [] r = or-false (eqb r.wire q)
joined-app q (a ∷ rs) r = split (eqb a.wire q) (λ e. rw e) (λ e. rw e (joined-app q rs r))

apart_snoc : (rs : List Row) (r : Row) → Apart rs → joined r.wire rs ≡ false → Apart (rs ++ (r ∷ []))
unfolding Apart
apart_snoc [] r h j = (refl, tt)
apart_snoc (a ∷ rs) r h j =
    same a.wire r.wire
    (λ e f. absurd (true≢false (rw f at j)))
    (λ e f. let j' : joined r.wire rs ≡ false = rw f at j in
    (joined-app a.wire rs r ∙ ap₂ ◌||◌ h.0 (ne_eqb r.wire a.wire (λ q. e (sym q))), apart_snoc rs r h.1 j'))

apart-join : (q : ℕ) (rs : List Row) → Apart rs → Apart (join q rs)
unfolding join
apart-join q rs h = split (joined q rs) (λ e. rw e h) (λ e. rw e (apart_snoc rs (fresh q (length rs)) h e))

pub joined-add : (a q p : ℕ) (b : Bool) (rs : List Row) → joined a (add_row q p b rs) ≡ joined a rs
unfolding joined add_row
joined-add a q p b [] = refl
joined-add a q p b (r ∷ rs) = split (eqb r.wire q) (λ e. rw e) (λ e. rw e (ap (λ (z : Bool). eqb r.wire a || z) (joined-add a q p b rs)))

apart-add : (q p : ℕ) (b : Bool) (rs : List Row) → Apart rs → Apart (add_row q p b rs)
unfolding Apart add_row
apart-add q p b [] h = tt
apart-add q p b (r ∷ rs) h = split (eqb r.wire q) (λ e. rw e h) (λ e. rw e (joined-add r.wire q p b rs ∙ h.0, apart-add q p b rs h.1))

apart-absorb : (o : Op) (b : Block) → Apart b.rows → Apart (absorb o b).rows
unfolding absorb entered rows_by
apart-absorb (flip q) b h = apart-add q zero true (join q b.rows) (apart-join q b.rows h)
apart-absorb (phase k q) b h = apart-join q b.rows h
apart-absorb (cnot c t) b h =
    let rs : List Row = join t (join c b.rows) in
    apart-add t (row_of c rs).parity (row_of c rs).flips rs (apart-join t (join c b.rows) (apart-join c b.rows h))
apart-absorb (cz c t) b h = apart-join t (join c b.rows) (apart-join c b.rows h)
apart-absorb other b h = h

pub apart-fold : (os : List Op) (b : Block) → Apart b.rows → Apart (fold os b).rows
unfolding fold
apart-fold [] b h = h
apart-fold (o ∷ os) b h = apart-fold os (absorb o b) (apart-absorb o b h)

-- no index holds q
abbrev pub Absent : ℕ → List ℕ → Type 0
Absent q ws = (i : ℕ) → i < length ws → at ws i ≢ q

absent : (q : ℕ) (rs : List Row) → joined q rs ≡ false → Absent q (wires_of rs)
unfolding joined
absent q [] h i hi e = not-suc-le-zero hi
absent q (r ∷ rs) h zero hi e = true≢false (sym (ap (λ (z : Bool). z || joined q rs) (eq-eqb r.wire q e)) ∙ h)
absent q (r ∷ rs) h (suc i) hi e = split (eqb r.wire q) (λ f. true≢false (rw f at h)) (λ f. absent q rs (rw f at h) i (le_of_suc-le-suc hi) e)

-- so an index is known by its wire
pub index : (rs : List Row) → Apart rs → (i j : ℕ) → i < length (wires_of rs) → j < length (wires_of rs) → at (wires_of rs) i ≡ at (wires_of rs) j → i ≡ j
unfolding Apart
index [] h i j hi hj e = absurd (not-suc-le-zero hi)
index (r ∷ rs) h zero zero hi hj e = refl
index (r ∷ rs) h zero (suc j) hi hj e = absurd (absent r.wire rs h.0 j (le_of_suc-le-suc hj) (sym e))
index (r ∷ rs) h (suc i) zero hi hj e = absurd (absent r.wire rs h.0 i (le_of_suc-le-suc hi) e)
index (r ∷ rs) h (suc i) (suc j) hi hj e = ap suc (index rs h.1 i j (le_of_suc-le-suc hi) (le_of_suc-le-suc hj) e)

-- ---- a rotation

-- it moves nothing, and adds its turn
turned : (k q : ℕ) (s : ℕ → Bool) → k < 8 → (phases (map op (rotation k q)) s ≡ when1 (s q) k) × (wires (map op (rotation k q)) s ≡ s)
unfolding rotation op phases wires
turned zero q s h = (split (s q) (λ e. rw e) (λ e. rw e), refl)
turned (suc zero) q s h = (split (s q) (λ e. rw e) (λ e. rw e), refl)
turned (suc (suc zero)) q s h = (split (s q) (λ e. rw e) (λ e. rw e), refl)
turned (suc (suc (suc zero))) q s h = (split (s q) (λ e. rw e) (λ e. rw e), refl)
turned (suc (suc (suc (suc zero)))) q s h = (split (s q) (λ e. rw e) (λ e. rw e), refl)
turned (suc (suc (suc (suc (suc zero))))) q s h = (split (s q) (λ e. rw e) (λ e. rw e), refl)
turned (suc (suc (suc (suc (suc (suc zero)))))) q s h = (split (s q) (λ e. rw e) (λ e. rw e), refl)
turned (suc (suc (suc (suc (suc (suc (suc zero))))))) q s h = (split (s q) (λ e. rw e) (λ e. rw e), refl)
turned (suc (suc (suc (suc (suc (suc (suc (suc k)))))))) q s h = absurd (too_many h)
  where
    too_many : suc (suc (suc (suc (suc (suc (suc (suc k))))))) < 8 → ⊥
    too_many g = omega arith

-- ---- the gates of some steps

module _ (rs : List Row) (apart : Apart rs) where
  abbrev ws : List ℕ
  ws = wires_of rs

  -- the setting has the local values
  abbrev Has : (ℕ → Bool) → (ℕ → Bool) → Type 0
  Has s w = (i : ℕ) → i < length ws → s (at ws i) ≡ w i

  pub record Acts (gs : List Gate) (ss : List Step) (s w : ℕ → Bool) : Type 0 where
    pub inside : (i : ℕ) → i < length ws → wires (map op gs) s (at ws i) ≡ wires (ops ss) w i
    pub outside : (q : ℕ) → Absent q ws → wires (map op gs) s q ≡ s q
    pub adds : phases (map op gs) s % 8 ≡ phases (ops ss) w % 8

  cross-has : (p t : ℕ) (s w : ℕ → Bool) → p < length ws → t < length ws → Has s w → Has (change (at ws t) (s (at ws p)) s) (change t (w p) w)
  cross-has p t s w hp ht h i hi =
      same i t
      (λ e f. rw (f, eq-eqb (at ws i) (at ws t) (ap (at ws) e)) (ap₂ ◌⊕◌ (h i hi) (h p hp)))
      (λ e f. rw (f, ne_eqb (at ws i) (at ws t) (λ q. e (index rs apart i t hi ht q))) (h i hi))

  pub emit-acts : (C M : ℕ → Bool) (ss : List Step) (s w : ℕ → Bool) → Within (length ws) C M ss → Has s w → Acts (emit ws ss) ss s w
  unfolding emit Within wires phases moved added op
  emit-acts C M [] s w h k = record { inside = k; outside = λ q a. refl; adds = refl }
  emit-acts C M (cn p t ∷ ss) s w h k =
      let s' : ℕ → Bool = change (at ws t) (s (at ws p)) s in
      let r = emit-acts C M ss s' (change t (w p) w) h.1 (cross-has p t s w h.0.0 h.0.1 k) in
      record {
        inside = r.inside;
        outside = λ q a. r.outside q a ∙ rw (ne_eqb q (at ws t) (λ e. a t h.0.1 (sym e)));
        adds = plus (phases (map op (emit ws ss)) s') (phases (ops ss) (change t (w p) w)) r.adds;
      }
    where
      plus : (a b : ℕ) → a % 8 ≡ b % 8 → (zero + a) % 8 ≡ (zero + b) % 8
      plus a b e = omega arith
  emit-acts C M (rot q k ∷ ss) s w h hs =
      let r = emit-acts C M ss s w h.1 hs in
      let gs : List Gate = rotation (k % 8) (at ws q) in
      let t = turned (k % 8) (at ws q) s (mod-lt k (zero-lt-suc 7)) in
      let split-gs : map op (gs ++ emit ws ss) ≡ map op gs ++ map op (emit ws ss) = map_app op gs (emit ws ss) in
      let moves : wires (map op (gs ++ emit ws ss)) s ≡ wires (map op (emit ws ss)) s =
      ap (λ (l : List Op). wires l s) split-gs ∙ wires-app (map op gs) (map op (emit ws ss)) s ∙ ap (wires (map op (emit ws ss))) t.1 in
      record {
        inside = λ i hi. ap (λ (u : ℕ → Bool). u (at ws i)) moves ∙ r.inside i hi;
        outside = λ a ha. ap (λ (u : ℕ → Bool). u a) moves ∙ r.outside a ha;
        adds = ap (λ (z : ℕ). z % 8)
            (ap (λ (l : List Op). phases l s) split-gs ∙ phases-app (map op gs) (map op (emit ws ss)) s
            ∙ ap₂ (λ (x y : ℕ). x + y) (t.0 ∙ ap (λ (b : Bool). when1 b (k % 8)) (hs q h.0)) (ap (λ (u : ℕ → Bool). phases (map op (emit ws ss)) u) t.1))
            ∙ add (w q) (phases (map op (emit ws ss)) s) (phases (ops ss) w) r.adds;
      }
    where
      add : (b : Bool) (x y : ℕ) → x % 8 ≡ y % 8 → (when1 b (k % 8) + x) % 8 ≡ (when1 b k + y) % 8
      add true x y e = omega arith
      add false x y e = omega arith

-- ---- the flips at the end

unfoldable pub flip_at : ℕ → List Row → Bool
flip_at q [] = false
flip_at q (r ∷ rs) = cond (eqb r.wire q) r.flips (flip_at q rs)

flip-none : (q : ℕ) (rs : List Row) → joined q rs ≡ false → flip_at q rs ≡ false
unfolding joined flip_at
flip-none q [] h = refl
flip-none q (r ∷ rs) h = split (eqb r.wire q) (λ e. absurd (true≢false (rw e at h))) (λ e. rw e (flip-none q rs (rw e at h)))

pub flips-act : (rs : List Row) (s : ℕ → Bool) → Apart rs → ((q : ℕ) → wires (map op (flips_of rs)) s q ≡ (s q ⊕ flip_at q rs)) × (phases (map op (flips_of rs)) s ≡ zero)
unfolding flips_of flip_at wires phases moved added op Apart
flips-act [] s h = ((λ q. sym (⊕-false (s q))), refl)
flips-act (r ∷ rs) s h =
    split r.flips
    (λ e. let ih = flips-act rs (change r.wire true s) h.1 in
    rw e (
      (λ q. ih.0 q ∙ same q r.wire
          (λ g f. rw (f, eq-eqb r.wire q (sym g)) (ap (λ (z : Bool). s q ⊕ true ⊕ z) (ap (λ (z : ℕ). flip_at z rs) g ∙ flip-none r.wire rs h.0) ∙ ⊕-false (s q ⊕ true)))
          (λ g f. rw (f, ne_eqb r.wire q (λ z. g (sym z))))),
      plus (phases (map op (flips_of rs)) (change r.wire true s)) ∙ ih.1,
    ))
    (λ e. let ih = flips-act rs s h.1 in
    rw e (
      (λ q. ih.0 q ∙ same r.wire q
          (λ g f. rw f (ap (λ (z : Bool). s q ⊕ z) (ap (λ (z : ℕ). flip_at z rs) (sym g) ∙ flip-none r.wire rs h.0)))
          (λ g f. rw f)),
      ih.1,
    ))
  where
    plus : (z : ℕ) → zero + z ≡ z
    plus z = omega arith
