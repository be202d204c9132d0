-- Flips that wait, over plain lists: what the terms are now, when some of them are brought up to date and when CNOTs pass.
--     settled-now     the terms between two places are flipped, and wait no more
--     deferred-same   CNOTs to the same target join those that wait
--     deferred-new    those of another target are made first
--     now-rest        the terms that don't wait are as they stand
--     now-branched    a split of them is one of the terms as they are now
use mathlib.Core.Path.{◌≡◌, refl, sym, ap, ap₂, ◌∙◌, subst}
use mathlib.Core.Logic.{◌≢◌}
use mathlib.Core.Bool.{true, false}
use mathlib.Core.List.{List, [], ◌∷◌, ◌++◌, append-nil}
use Prim.Native.Nat.{ℕ, zero, suc, ◌-◌, ◌*◌, ◌^◌, ◌≤◌, ◌<◌}
use native.Mathlib.Nat.{not-suc-le-zero, le_of_suc-le-suc}
use native.Mathlib.Omega.{arith}
use lib.ListN.{length, take, drop, length-drop, take-append-drop}
use lib.Seq.{slice, length-take-le}
use borrow.Author.Tests.{ne_eqb}
use borrow.Rule.Slice.PartMut.{put_mid}
use Rattle.rules.specs.Bit.{bit, xor}
use Rattle.rules.specs.Fold.{Term}
use Rattle.rules.specs.Shortcuts.{flipped, flip_terms}
use Rattle.rules.proofs.Bits.{split, bit-zero, bit_xor, bit-unit}
use Rattle.parity.specs.View.{val}
use Rattle.parity.proofs.Laws.{xor_assoc, xor_self, xor_zero_l}
use Rattle.terms.specs.Terms.{terms_of, Begins, Sides}
use Rattle.terms.proofs.Room.{room-same}
use Rattle.terms.proofs.Crossing.{passed, cross-length, cross-front}
use Rattle.terms.proofs.Parts.{part-terms, part-back}
use Rattle.column.specs.Choice.{Best}
use Rattle.walk.specs.declared.Slot.{Slot}
use Rattle.walk.specs.declared.Pending.{Pending}
use Rattle.walk.specs.Stack.{Branched}
use Rattle.walk.specs.Later.{flip_between, current, no_flips, Waits, Settles, Deferred}
use Rattle.walk.proofs.Stacks.{slice-part, slice-rest}
use Rattle.walk.proofs.Splitting.{room-slice}

-- ---- one parity

-- a single column has no other
pub other-bit : (p t : ℕ) → p ≢ t → bit (2 ^ p) t ≡ false
other-bit p t q = bit-unit p t ∙ ne_eqb t p (λ e. q (sym e))

module _ (m t : ℕ) (apart : bit m t ≡ false) where
  -- the target's bit stays
  stays : (v : ℕ) → bit v t ≡ true → bit (xor v m) t ≡ true
  stays v e = bit_xor v m t ∙ rw (apart, e)

  -- all at once, or one after the other
  pub flipped-both : (k v : ℕ) → flipped (xor m k) t v ≡ flipped k t (flipped m t v)
  unfolding flipped
  flipped-both k v = split (bit v t) (λ e. rw e (rw (stays v e) (sym (xor_assoc v m k)))) (λ e. rw e (rw e))

  -- a second time takes the first one back
  pub flipped-back : (k v : ℕ) → flipped (xor m k) t (flipped m t v) ≡ flipped k t v
  unfolding flipped
  flipped-back k v = split (bit v t) (λ e. rw e (rw (stays v e) (twice k v))) (λ e. rw e (rw e))
    where
      twice : (k v : ℕ) → xor (xor v m) (xor m k) ≡ xor v k
      twice k v = xor_assoc v m (xor m k) ∙ ap (xor v) (sym (xor_assoc m m k) ∙ ap (λ (x : ℕ). xor x k) (xor_self m) ∙ xor_zero_l k)

-- ---- terms

-- a lent part of the room has all of its terms
pub part-many : (from to : ℕ) (xs : List ℕ) → from ≤ to → to ≤ length (terms_of xs) → to - from ≤ length (terms_of (take (3 * to - 3 * from) (drop (3 * from) xs)))
part-many from to xs l h = rw (part-terms from to xs l h) (omega (arith, length-take-le (to - from) (drop from (terms_of xs)) (simp length-drop (omega arith))))

module _ (m t : ℕ) where
  -- the terms between two places are flipped: those before the second wait no longer than to the first
  pub between-passed : (a e : ℕ) (ts : List Term) → a ≤ e → passed m t a (flip_between m t a e ts) ≡ passed m t e ts
  unfolding passed flip_terms flip_between
  between-passed zero e ts l = refl
  between-passed (suc a) zero ts l = absurd (not-suc-le-zero l)
  between-passed (suc a) (suc e) [] l = refl
  between-passed (suc a) (suc e) (x ∷ ts) l = ap (λ (us : List Term). record { parity = flipped m t x.parity; turn = x.turn } ∷ us) (between-passed a e ts (le_of_suc-le-suc l))

  -- what doesn't wait is as it stands
  pub passed-rest : (u k : ℕ) (ts : List Term) → u ≤ k → drop k (passed m t u ts) ≡ drop k ts
  unfolding passed flip_terms
  passed-rest zero k ts l = refl
  passed-rest (suc u) zero ts l = absurd (not-suc-le-zero l)
  passed-rest (suc u) (suc k) [] l = refl
  passed-rest (suc u) (suc k) (x ∷ ts) l = passed-rest u k ts (le_of_suc-le-suc l)

  pub passed-front : (u k : ℕ) (ts zs : List Term) → u ≤ k → k ≤ length ts → passed m t u (take k ts ++ zs) ≡ take k (passed m t u ts) ++ zs
  unfolding passed flip_terms
  passed-front zero k ts zs l h = refl
  passed-front (suc u) zero ts zs l h = absurd (not-suc-le-zero l)
  passed-front (suc u) (suc k) [] zs l h = absurd (not-suc-le-zero h)
  passed-front (suc u) (suc k) (x ∷ ts) zs l h =
      ap (λ (us : List Term). record { parity = flipped m t x.parity; turn = x.turn } ∷ us) (passed-front u k ts zs (le_of_suc-le-suc l) (le_of_suc-le-suc h))

  -- from what a flip of the first k terms ensures
  pub passed_is : (k : ℕ) (ts us : List Term) → Begins (flip_terms m t (take k ts)) k k ts us → us ≡ passed m t k ts
  unfolding passed
  passed_is k ts us b = sym (take-append-drop k us) ∙ ap₂ (λ (x y : List Term). x ++ y) b.front b.rest

  -- and of the terms of a lent part
  pub passed-part : (from to : ℕ) (xs ys : List ℕ) → from ≤ to → to ≤ length (terms_of xs) → length ys ≡ length (take (3 * to - 3 * from) (drop (3 * from) xs))
      → Begins (flip_terms m t (take (to - from) (terms_of (take (3 * to - 3 * from) (drop (3 * from) xs))))) (to - from) (to - from) (terms_of (take (3 * to - 3 * from) (drop (3 * from) xs))) (terms_of ys)
      → terms_of (put_mid (3 * from) (3 * to - 3 * from) xs ys) ≡ flip_between m t from to (terms_of xs)
  unfolding flip_between
  passed-part from to xs ys l h e b = part-back from to xs l h ys e ∙ ap (λ (us : List Term). take from (terms_of xs) ++ (us ++ drop to (terms_of xs))) part
    where
      whole : take (to - from) (take (to - from) (drop from (terms_of xs))) ≡ take (to - from) (drop from (terms_of xs))
      whole = twice (to - from) (drop from (terms_of xs))
        where
          twice : (k : ℕ) (us : List Term) → take k (take k us) ≡ take k us
          twice zero us = refl
          twice (suc k) [] = refl
          twice (suc k) (x ∷ us) = ap (λ (vs : List Term). x ∷ vs) (twice k us)

      rest : drop (to - from) (take (to - from) (drop from (terms_of xs))) ≡ []
      rest = none (to - from) (drop from (terms_of xs))
        where
          none : (k : ℕ) (us : List Term) → drop k (take k us) ≡ []
          none zero us = refl
          none (suc k) [] = refl
          none (suc k) (x ∷ us) = none k us

      part : terms_of ys ≡ flip_terms m t (slice from to (terms_of xs))
      part =
          let p = part-terms from to xs l h in
          sym (take-append-drop (to - from) (terms_of ys))
          ∙ ap₂ (λ (x y : List Term). x ++ y)
          (b.front ∙ ap (λ (us : List Term). flip_terms m t (take (to - from) us)) p ∙ ap (flip_terms m t) (whole ∙ slice-part from to (terms_of xs)))
          (b.rest ∙ ap (drop (to - from)) p ∙ rest)
          ∙ append-nil _

module _ (m t : ℕ) (apart : bit m t ≡ false) (k : ℕ) where
  back : (e : ℕ) (ts : List Term) → passed (xor m k) t e (flip_between m t 0 e ts) ≡ passed k t e ts
  unfolding passed flip_terms flip_between
  back zero ts = refl
  back (suc e) [] = refl
  back (suc e) (x ∷ ts) = ap₂ (λ (v : ℕ) (us : List Term). record { parity = v; turn = x.turn } ∷ us) (flipped-back m t apart k x.parity) (back e ts)

  -- the terms that were up to date are taken back to where the others stand, and then all wait for both masks
  pub between-joined : (a e : ℕ) (ts : List Term) → a ≤ e → passed (xor m k) t e (flip_between m t a e ts) ≡ passed k t e (passed m t a ts)
  unfolding passed flip_terms flip_between
  between-joined zero e ts l = back e ts
  between-joined (suc a) zero ts l = absurd (not-suc-le-zero l)
  between-joined (suc a) (suc e) [] l = refl
  between-joined (suc a) (suc e) (x ∷ ts) l =
      ap₂ (λ (v : ℕ) (us : List Term). record { parity = v; turn = x.turn } ∷ us) (flipped-both m t apart k x.parity) (between-joined a e ts (le_of_suc-le-suc l))

-- ---- as they are now

now-is : (p : Pending) (ts : List Term) → current p ts ≡ passed (val p.mask) p.target p.upto ts
unfolding current passed
now-is p ts = refl

pub now-length : (p : Pending) (ts : List Term) → length (current p ts) ≡ length ts
now-length p ts = ap length (now-is p ts) ∙ cross-length (val p.mask) p.target p.upto ts

pub now-none : (p : Pending) (ts : List Term) → p.upto ≡ 0 → current p ts ≡ ts
unfolding current flip_terms
now-none p ts e = rw e

pub now-rest : (p : Pending) (k : ℕ) (ts : List Term) → p.upto ≤ k → drop k (current p ts) ≡ drop k ts
now-rest p k ts l = ap (drop k) (now-is p ts) ∙ passed-rest (val p.mask) p.target p.upto k ts l

pub now-slice : (p : Pending) (a e : ℕ) (ts : List Term) → p.upto ≤ a → slice a e (current p ts) ≡ slice a e ts
now-slice p a e ts l = slice-rest a e ts (current p ts) (now-rest p a ts l)

-- a lent part of the room that doesn't wait
pub now-room : (p : Pending) (a e : ℕ) (xs : List ℕ) → p.upto ≤ a → a ≤ e → e ≤ length (terms_of xs) → terms_of (take (3 * e - 3 * a) (drop (3 * a) xs)) ≡ slice a e (current p (terms_of xs))
now-room p a e xs u l h = room-slice a e xs l h ∙ sym (now-slice p a e (terms_of xs) u)

-- rooms of one length have as many terms, whatever waits
pub now-same : (p q : Pending) (xs ys : List ℕ) → length xs ≡ length ys → length (current p (terms_of xs)) ≡ length (current q (terms_of ys))
now-same p q xs ys e = now-length p (terms_of xs) ∙ room-same xs ys e ∙ sym (now-length q (terms_of ys))

pub waits-same : (p : Pending) (xs ys : List ℕ) → length xs ≡ length ys → Waits p (length (terms_of ys)) → Waits p (length (terms_of xs))
waits-same p xs ys e w = subst (Waits p) (sym (room-same xs ys e)) w

pub waits-none : (n : ℕ) → Waits no_flips n
waits-none n = record { column = omega arith; apart = bit-zero 0; fits = omega arith }

module _ (p p' : Pending) (ts ts' : List Term) (w : Waits p (length ts)) where
  pub settled-now : (from : ℕ) → from < p.upto → val p'.mask ≡ val p.mask → p'.target ≡ p.target → p'.upto ≡ from → length ts' ≡ length ts
      → ts' ≡ flip_between (val p.mask) p.target from p.upto ts → Settles from p p' ts ts'
  settled-now from l em et eu n f =
      record {
        same = now-is p' ts' ∙ rw (em, et, eu, f) (between-passed (val p.mask) p.target from p.upto ts (omega arith)) ∙ sym (now-is p ts);
        upto = omega (arith, eu);
        waits = record { column = rw et w.column; apart = rw (em, et) w.apart; fits = omega (arith, eu, n, w.fits) };
      }

  module _ (mask t start : ℕ) (l : p.upto ≤ start) (h : start ≤ length ts) (small : t < 128) (apart : bit mask t ≡ false) (et : p'.target ≡ t) (eu : p'.upto ≡ start) (n : length ts' ≡ length ts) where
    deferred : bit (val p'.mask) t ≡ false → current p' ts' ≡ passed mask t start (current p ts) → Deferred mask t start p p' ts ts'
    deferred off e =
        record {
          terms = cross-front mask t start (current p ts) (current p' ts') e (omega (arith, now-length p ts));
          upto = omega (arith, eu);
          waits = record { column = rw et small; apart = rw et off; fits = omega (arith, eu, n) };
        }

    pub deferred-same : p.target ≡ t → val p'.mask ≡ xor (val p.mask) mask → ts' ≡ flip_between (val p.mask) t p.upto start ts → Deferred mask t start p p' ts ts'
    deferred-same e em f =
        let off : bit (val p.mask) t ≡ false = subst (λ (j : ℕ). bit (val p.mask) j ≡ false) e w.apart in
        let old : current p ts ≡ passed (val p.mask) t p.upto ts = now-is p ts ∙ ap (λ (j : ℕ). passed (val p.mask) j p.upto ts) e in
        deferred
        (ap (λ (v : ℕ). bit v t) em ∙ bit_xor (val p.mask) mask t ∙ rw (off, apart))
        (now-is p' ts' ∙ rw (em, et, eu, f) (between-joined (val p.mask) t off mask p.upto start ts l) ∙ ap (passed mask t start) (sym old))

    pub deferred-new : val p'.mask ≡ mask → Begins (flip_terms (val p.mask) p.target (take p.upto ts)) p.upto p.upto ts ts' → Deferred mask t start p p' ts ts'
    deferred-new em b =
        deferred
        (ap (λ (v : ℕ). bit v t) em ∙ apart)
        (now-is p' ts' ∙ rw (em, et, eu) (ap (passed mask t start) (passed_is (val p.mask) p.target p.upto ts ts' b ∙ sym (now-is p ts))))

-- the terms from there on are as they were
pub deferred-slice : (mask t start end : ℕ) (p p' : Pending) (ts ts' : List Term) → Deferred mask t start p p' ts ts' → slice start end ts' ≡ slice start end (current p ts)
deferred-slice mask t start end p p' ts ts' d = sym (now-slice p' start end ts' d.upto) ∙ slice-rest start end (current p ts) (current p' ts') d.terms.rest

-- ---- a split of terms that don't wait

module _ (p : Pending) (s : Slot) (l : p.upto ≤ s.start) where
  pub now-branched : (at end : ℕ) (ts ts' : List Term) (ss ss' : List Slot) → s.start ≤ end → end ≤ length ts → Branched s at end ts ts' ss ss'
      → Branched s at end (current p ts) (current p ts') ss ss'
  now-branched at end ts ts' ss ss' h k b =
      record {
        column = b.column;
        best = subst (λ (us : List Term). Best us (val s.cands) b.column) (sym (now-slice p s.start end ts l)) b.best;
        ones = b.ones;
        split = record {
          part = b.split.part;
          list = ap (current p) b.split.list ∙ now-is p _ ∙ passed-front (val p.mask) p.target p.upto s.start ts (b.split.part ++ drop end ts) l (omega arith)
              ∙ ap₂ (λ (x y : List Term). take s.start x ++ (b.split.part ++ y)) (sym (now-is p ts)) (sym (now-rest p end ts (omega arith)));
          sides = subst (λ (us : List Term). Sides b.column (take (end - s.start) us) b.split.part b.ones) (sym (now-rest p s.start ts l)) b.split.sides;
        };
        rest = b.rest;
        less = b.less;
        slots = b.slots;
      }
