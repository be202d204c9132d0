-- The candidates whose count is the largest, plane by plane from the highest; and the two columns that are left to be scanned.
--     sift-first, sift-next    what is left after the planes from k up
--     most-top, least-top      the highest of those that most terms have, and of those that fewest have
--     ends-best                the better of the two is the best
use mathlib.Core.Path.{◌≡◌, refl, sym, ap, ap₂, ◌∙◌, subst}
use mathlib.Core.Bool.{Bool, true, false, ◌&&◌, ◌||◌, cond, true≢false}
use mathlib.Core.List.{List, [], ◌∷◌}
use Prim.Native.Nat.{ℕ, zero, suc, ◌+◌, ◌*◌, ◌^◌, ◌≤◌, ◌<◌}
use native.Mathlib.Nat.{pow-suc, pos_of_ne-zero, lt_of_not-le}
use native.Mathlib.Numerals.{add-one}
use native.Mathlib.Omega.{arith}
use lib.ListN.{length, get_or, drop, drop_of_length-le}
use lib.Seq.{drop-cons}
use lib.Dec.{eqb, leb}
use borrow.Author.Tests.{eq-eqb, ne_eqb, eqb-true, eqb-false, leb-true, leb-false}
use Rattle.rules.specs.Bit.{◌⊕◌, bit, xor}
use Rattle.rules.specs.Fold.{Term}
use Rattle.rules.specs.Walk.{score, best}
use Rattle.rules.proofs.Bits.{split, and_left, and_right, bit-zero, bit_xor, bit-unit}
use Rattle.rules.proofs.Machine.{length-sides}
use Rattle.rules.proofs.Choosing.{best-skips}
use Rattle.parity.specs.Columns.{Highest}
use Rattle.parity.proofs.Laws.{bit_high}
use Rattle.column.specs.Choice.{Best}
use Rattle.column.specs.Planes.{tally, Sifted}
use Rattle.column.proofs.Scanning.{with, without}
use Rattle.column.proofs.Marking.{best-top}

-- ---- one plane after the other

module _ (cands flip : ℕ) (ps : List ℕ) where
  pub sift-first : (n : ℕ) → length ps ≤ n → Sifted cands flip (drop n ps) cands
  unfolding tally
  sift-first n l = rw (drop_of_length-le ps l) (record { most = 0; under = λ j e. omega arith; is = λ j. sym (unit (bit cands j)); some = λ p. p })
    where
      unit : (b : Bool) → (b && true) ≡ b
      unit true = refl
      unit false = refl

  module _ (k x left turned hit new : ℕ) (l : k < length ps) (e : x ≡ get_or ps k 0) (h : Sifted cands flip (drop (k + 1) ps) left)
      (et : turned ≡ xor flip x) (eh : (j : ℕ) → bit hit j ≡ (bit left j && bit turned j)) (en : new ≡ cond (eqb hit 0) left hit) where
    abbrev digit : ℕ → Bool
    digit j = bit flip j ⊕ bit x j

    abbrev rest : ℕ → ℕ
    rest j = tally (bit flip j) j (drop (k + 1) ps)

    abbrev count : ℕ → ℕ
    count j = tally (bit flip j) j (drop k ps)

    -- a count by its lowest digit
    whole : (j : ℕ) → count j ≡ cond (digit j) 1 0 + 2 * rest j
    unfolding tally
    whole j =
        let d : drop k ps ≡ x ∷ drop (k + 1) ps = rw (e, add-one) (drop-cons ps k 0 l) in
        ap (tally (bit flip j) j) d

    hit-is : (j : ℕ) → bit hit j ≡ ((bit cands j && eqb (rest j) h.most) && digit j)
    hit-is j = eh j ∙ ap₂ ◌&&◌ (h.is j) (ap (λ (z : ℕ). bit z j) et ∙ bit_xor flip x j)

    -- some of those left have the digit: they stay
    some-hit : 0 < hit → Sifted cands flip (drop k ps) hit
    some-hit p =
        record {
          most = 2 * h.most + 1;
          under = λ j c. bound (count j) (rest j) h.most (digit j) (h.under j c) (whole j);
          is = λ j. hit-is j ∙ at (count j) (rest j) h.most (bit cands j) (digit j) (whole j);
          some = λ q. p;
        }
      where
        bound : (v t m : ℕ) (d : Bool) → t ≤ m → v ≡ cond d 1 0 + 2 * t → v ≤ 2 * m + 1
        bound v t m true u w = omega arith
        bound v t m false u w = omega arith

        at : (v t m : ℕ) (b d : Bool) → v ≡ cond d 1 0 + 2 * t → ((b && eqb t m) && d) ≡ (b && eqb v (2 * m + 1))
        at v t m false d w = refl
        at v t m true true w =
            split (eqb t m)
            (λ q. let s = eqb-true t m q in rw (q, eq-eqb v (2 * m + 1) (omega arith)))
            (λ q. let s = eqb-false t m q in rw (q, ne_eqb v (2 * m + 1) (λ z. s (omega arith))))
        at v t m true false w = split (eqb t m) (λ q. rw (q, ne_eqb v (2 * m + 1) (λ z. omega arith))) (λ q. rw (q, ne_eqb v (2 * m + 1) (λ z. omega arith)))

    -- none has it: all stay
    none-hit : hit ≡ 0 → Sifted cands flip (drop k ps) left
    none-hit z =
        record {
          most = 2 * h.most;
          under = λ j c. bound (count j) (rest j) h.most (digit j) (h.under j c) (whole j) (ap (λ (b : Bool). (b && eqb (rest j) h.most) && digit j) (sym c) ∙ off j);
          is = λ j. h.is j ∙ at (count j) (rest j) h.most (bit cands j) (digit j) (whole j) (off j);
          some = h.some;
        }
      where
        off : (j : ℕ) → ((bit cands j && eqb (rest j) h.most) && digit j) ≡ false
        off j = sym (hit-is j) ∙ ap (λ (v : ℕ). bit v j) z ∙ bit-zero j

        bound : (v t m : ℕ) (d : Bool) → t ≤ m → v ≡ cond d 1 0 + 2 * t → (eqb t m && d) ≡ false → v ≤ 2 * m
        bound v t m true u w o =
            split (leb m t)
            (λ g. absurd (true≢false (sym (rw (eq-eqb t m (omega (arith, leb-true m t g)))) ∙ o)))
            (λ g. omega (arith, leb-false m t g))
        bound v t m false u w o = omega arith

        at : (v t m : ℕ) (b d : Bool) → v ≡ cond d 1 0 + 2 * t → ((b && eqb t m) && d) ≡ false → (b && eqb t m) ≡ (b && eqb v (2 * m))
        at v t m false d w o = refl
        at v t m true true w o = split (eqb t m) (λ q. absurd (true≢false (sym (rw q) ∙ o))) (λ q. rw (q, ne_eqb v (2 * m) (λ z. omega arith)))
        at v t m true false w o =
            split (eqb t m)
            (λ q. let s = eqb-true t m q in rw (q, eq-eqb v (2 * m) (omega arith)))
            (λ q. let s = eqb-false t m q in rw (q, ne_eqb v (2 * m) (λ z. s (omega arith))))

    pub sift-next : Sifted cands flip (drop k ps) new
    sift-next =
        split (eqb hit 0)
        (λ q. subst (Sifted cands flip (drop k ps)) (sym (en ∙ rw q)) (none-hit (eqb-true hit 0 q)))
        (λ q. subst (Sifted cands flip (drop k ps)) (sym (en ∙ rw q)) (some-hit (pos_of_ne-zero (eqb-false hit 0 q))))

-- ---- the two ends

grow : (n : ℕ) → n < 2 ^ n
grow zero = omega arith
grow (suc n) = omega (arith, pow-suc 2 n, grow n)

-- a number and the one with every digit exchanged
tally-both : (c : ℕ) (ps : List ℕ) → tally true c ps + tally false c ps + 1 ≡ 2 ^ length ps
unfolding tally
tally-both c [] = refl
tally-both c (p ∷ ps) =
    let h = tally-both c ps in
    split (bit p c)
    (λ e. rw e (omega (arith, pow-suc 2 (length ps))))
    (λ e. rw e (omega (arith, pow-suc 2 (length ps))))

module _ (ts : List Term) (cands : ℕ) where
  -- a candidate that no other passes, nor one above it reaches, by a number for each column
  record Top (f : ℕ → ℕ) (c : ℕ) : Type 0 where
    here : bit cands c ≡ true
    under : (j : ℕ) → bit cands j ≡ true → f j ≤ f c
    above : (j : ℕ) → bit cands j ≡ true → c < j → f j < f c

  top-is : (flip : ℕ) (ps : List ℕ) (r c : ℕ) → Sifted cands flip ps r → Highest r c → Top (λ j. tally (bit flip j) j ps) c
  top-is flip ps r c s h =
      record {
        here = and_left (bit cands c) _ on;
        under = λ j e. rw at (s.under j e);
        above = λ j e l. rw at (less _ _ (s.under j e) (eqb-false _ _ (sym (rw e) ∙ sym (s.is j) ∙ h.above j l)));
      }
    where
      on : (bit cands c && eqb (tally (bit flip c) c ps) s.most) ≡ true
      on = sym (s.is c) ∙ h.set

      at : tally (bit flip c) c ps ≡ s.most
      at = eqb-true _ _ (and_right (bit cands c) _ on)

      less : (a b : ℕ) → a ≤ b → (a ≡ b → ⊥) → a < b
      less a b l f = split (leb b a) (λ g. absurd (f (omega (arith, leb-true b a g)))) (λ g. omega (arith, leb-false b a g))

  -- of those that most terms have, and of those that fewest have
  most-top : (nil : ℕ) (ps : List ℕ) (r c : ℕ) → nil ≡ 0 → ((j : ℕ) → tally false j ps ≡ with j ts) → Sifted cands nil ps r → Highest r c → Top (λ j. with j ts) c
  most-top nil ps r c z k s h =
      let t = top-is nil ps r c s h in
      let e : (j : ℕ) → tally (bit nil j) j ps ≡ with j ts = λ j. ap (λ (b : Bool). tally b j ps) (ap (λ (v : ℕ). bit v j) z ∙ bit-zero j) ∙ k j in
      record { here = t.here; under = λ j i. omega (arith, t.under j i, e j, e c); above = λ j i l. omega (arith, t.above j i l, e j, e c) }

  least-top : (ps : List ℕ) (r c : ℕ) → ((j : ℕ) → tally false j ps ≡ with j ts) → Sifted cands cands ps r → Highest r c → Top (λ j. without j ts) c
  least-top ps r c k s h =
      let t = top-is cands ps r c s h in
      let e : (j : ℕ) → bit cands j ≡ true → tally (bit cands j) j ps + with j ts + 1 ≡ 2 ^ length ps =
      λ j i. ap (λ (b : Bool). tally b j ps + with j ts + 1) i ∙ ap (λ (z : ℕ). tally true j ps + z + 1) (sym (k j)) ∙ tally-both j ps in
      record {
        here = t.here;
        under = λ j i. omega (arith, t.under j i, e j i, e c t.here, length-sides j ts, length-sides c ts);
        above = λ j i l. omega (arith, t.above j i l, e j i, e c t.here, length-sides j ts, length-sides c ts);
      }

  -- a candidate among some of them whose score no candidate passes, and none above it reaches
  wins : (among s c n : ℕ) → ((j : ℕ) → bit among j ≡ true → bit cands j ≡ true) → ((j : ℕ) → bit cands j ≡ true → score j ts ≤ s) → bit among c ≡ true → score c ts ≡ s
      → ((j : ℕ) → bit cands j ≡ true → c < j → score j ts < s) → among < 2 ^ n → (best n among ts).0 ≡ c
  wins among s c n sub under e t f k =
      ap (λ (b : ℕ × ℕ). b.0)
      (best-top among ts s (λ j i. under j (sub j i)) n c (lt_of_not-le (λ (g : n ≤ c). true≢false (sym e ∙ bit_high among n c k g))) e t (λ j l i. f j (sub j i) l))

  pub ends-best : (nil most least a b one-a one_b r : ℕ) (ps : List ℕ) → nil ≡ 0 → ((j : ℕ) → tally false j ps ≡ with j ts) → Sifted cands nil ps most → Sifted cands cands ps least
      → 0 < cands → (0 < most → Highest most a) → (0 < least → Highest least b) → one-a ≡ 2 ^ a → one_b ≡ 2 ^ b
      → ((j : ℕ) → bit r j ≡ (bit one-a j || bit one_b j)) → (c : ℕ) → Best ts r c → Best ts cands c
  unfolding score
  ends-best nil most least a b one-a one_b r ps z k sm sl p ha hb ea eb er c h =
      split (leb b a)
      (λ q. let l = leb-true b a q in
      split (leb (score b ts) (score a ts))
      (λ d. let m = leb-true (score b ts) (score a ts) d in
      done a a_in t.here (λ j i. omega (arith, t.under j i, u.under j i)) (λ j i g. omega (arith, t.above j i g, u.above j i (omega arith))))
      (λ d. let m = leb-false (score b ts) (score a ts) d in
      done b b-in u.here (λ j i. omega (arith, t.under j i, u.under j i)) (λ j i g. omega (arith, t.under j i, u.above j i g))))
      (λ q. let l = leb-false b a q in
      split (leb (score a ts) (score b ts))
      (λ d. let m = leb-true (score a ts) (score b ts) d in
      done b b-in u.here (λ j i. omega (arith, t.under j i, u.under j i)) (λ j i g. omega (arith, u.above j i g, t.above j i (omega arith))))
      (λ d. let m = leb-false (score a ts) (score b ts) d in
      done a a_in t.here (λ j i. omega (arith, t.under j i, u.under j i)) (λ j i g. omega (arith, u.under j i, t.above j i g))))
    where
      t : Top (λ j. with j ts) a
      t = most-top nil ps most a z k sm (ha (sm.some p))

      u : Top (λ j. without j ts) b
      u = least-top ps least b k sl (hb (sl.some p))

      r-is : (j : ℕ) → bit r j ≡ (eqb j a || eqb j b)
      r-is j = er j ∙ ap₂ ◌||◌ (ap (λ (v : ℕ). bit v j) ea ∙ bit-unit a j) (ap (λ (v : ℕ). bit v j) eb ∙ bit-unit b j)

      a_in : bit r a ≡ true
      a_in = r-is a ∙ rw (eq-eqb a a refl)

      b-in : bit r b ≡ true
      b-in = r-is b ∙ split (eqb b a) (λ q. rw q) (λ q. rw (q, eq-eqb b b refl))

      sub : (j : ℕ) → bit r j ≡ true → bit cands j ≡ true
      sub j e =
          split (eqb j a)
          (λ q. ap (bit cands) (eqb-true j a q) ∙ t.here)
          (λ q. ap (bit cands) (eqb-true j b (rw q at (sym (r-is j) ∙ e))) ∙ u.here)

      done : (w : ℕ) → bit r w ≡ true → bit cands w ≡ true → ((j : ℕ) → bit cands j ≡ true → score j ts ≤ score w ts)
          → ((j : ℕ) → bit cands j ≡ true → w < j → score j ts < score w ts) → Best ts cands c
      done w i o under above =
          let e : c ≡ w = h.is r (grow r) ∙ wins r (score w ts) w r sub under i refl above (grow r) in
          record { is = λ n l. e ∙ sym (wins cands (score w ts) w n (λ j y. y) under o refl above l); small = h.small }

  -- where there is no candidate
  pub none-best : cands ≡ 0 → Best ts cands 0
  unfolding best
  none-best z = record { is = λ n k. ap (λ (b : ℕ × ℕ). b.0) (sym (best-skips cands ts n 0 (λ j l m. ap (λ (v : ℕ). bit v j) z ∙ bit-zero j)) ∙ ap (λ (m : ℕ). best m cands ts) (plus n)); small = omega arith }
    where
      plus : (n : ℕ) → 0 + n ≡ n
      plus n = omega arith
