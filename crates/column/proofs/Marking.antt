-- The columns on which all parities agree, and those on which all but one do, by four marks that one pass makes; and the highest of them wins.
--     Marks, mark-none, mark-next    what the marks say of a column after some terms
--     agreed-is, nearly-is           what they say at the end
--     agreed-best, nearly-best       a candidate whose score none passes, and none above it reaches
use mathlib.Core.Path.{◌≡◌, refl, sym, ap, ap₂, ◌∙◌}
use mathlib.Core.Bool.{Bool, true, false, ◌&&◌, ◌||◌, cond, true≢false}
use mathlib.Core.List.{List, []}
use Prim.Native.Nat.{ℕ, zero, suc, ◌+◌, ◌^◌, ◌≤◌, ◌<◌, max, zero-le}
use native.Mathlib.Nat.{not-suc-le-zero, lt_of_not-le, pos_of_ne-zero}
use native.Mathlib.Omega.{arith}
use lib.ListN.{length, get_or, take}
use lib.Seq.{take_all}
use lib.Dec.{eqb, leb}
use borrow.Author.Tests.{eq-eqb, ne_eqb, eqb-true, eqb-false, le-leb, lt-leb}
use Rattle.rules.specs.Bit.{◌⊕◌, bit, xor}
use Rattle.rules.specs.Fold.{Term}
use Rattle.rules.specs.Walk.{side, score, beats, best}
use Rattle.rules.proofs.Bits.{split, same, and_left, and_right, bit-zero, bit_xor}
use Rattle.rules.proofs.Machine.{length-sides}
use Rattle.rules.proofs.Choosing.{best-skip, best-take, best-agreed}
use Rattle.parity.specs.Columns.{Highest}
use Rattle.parity.proofs.Laws.{bit_high}
use Rattle.terms.specs.Terms.{no_term}
use Rattle.column.specs.Choice.{Agreed, lone, Nearly, Best}
use Rattle.column.proofs.Scanning.{with, without, with-next, without-next}

-- ---- the marks

-- of the column c, after the terms ts
pub record Marks (cands c : ℕ) (ts : List Term) (some two every most : ℕ) : Type 0 where
  pub some_is : bit some c ≡ leb 1 (length (side true c ts))
  pub two_is : bit two c ≡ leb 2 (length (side true c ts))
  pub every-is : bit every c ≡ (bit cands c && leb (length (side false c ts)) 0)
  pub most-is : bit most c ≡ (bit cands c && leb (length (side false c ts)) 1)

and-true : (b : Bool) → (b && true) ≡ b
and-true true = refl
and-true false = refl

pub mark-none : (cands c some two : ℕ) → some ≡ 0 → two ≡ 0 → Marks cands c [] some two cands cands
unfolding side
mark-none cands c some two e f = record {
  some_is = ap (λ (v : ℕ). bit v c) e ∙ bit-zero c;
  two_is = ap (λ (v : ℕ). bit v c) f ∙ bit-zero c;
  every-is = sym (and-true (bit cands c));
  most-is = sym (and-true (bit cands c));
}

-- one more parity, by whether it has the column
some-step : (a : ℕ) (b : Bool) → (leb 1 a || b) ≡ leb 1 (a + cond b 1 0)
some-step zero true = refl
some-step zero false = refl
some-step (suc a) b = rw (le-leb 1 (suc a) (omega arith), le-leb 1 (suc a + cond b 1 0) (omega arith))

two-step : (a : ℕ) (b : Bool) → (leb 2 a || (leb 1 a && b)) ≡ leb 2 (a + cond b 1 0)
two-step zero true = refl
two-step zero false = refl
two-step (suc zero) true = refl
two-step (suc zero) false = refl
two-step (suc (suc a)) b = rw (le-leb 2 (suc (suc a)) (omega arith), le-leb 2 (suc (suc a) + cond b 1 0) (omega arith))

every-step : (k : Bool) (z : ℕ) (b : Bool) → ((k && leb z 0) && b) ≡ (k && leb (z + cond b 0 1) 0)
every-step false z b = refl
every-step true zero true = refl
every-step true zero false = refl
every-step true (suc z) b = rw (lt-leb (suc z) 0 (omega arith), lt-leb (suc z + cond b 0 1) 0 (omega arith))

most_step : (k : Bool) (z : ℕ) (b : Bool) → ((k && leb z 0) || ((k && leb z 1) && b)) ≡ (k && leb (z + cond b 0 1) 1)
most_step false z b = refl
most_step true zero true = refl
most_step true zero false = refl
most_step true (suc zero) true = refl
most_step true (suc zero) false = refl
most_step true (suc (suc z)) b = rw (lt-leb (suc (suc z)) 0 (omega arith), lt-leb (suc (suc z)) 1 (omega arith), lt-leb (suc (suc z) + cond b 0 1) 1 (omega arith))

module _ (cands c : ℕ) (ts : List Term) (i : ℕ) (p : Term) (r : p ≡ get_or ts i no_term) (l : i < length ts) where
  pub mark-next : (some two every most both two' some' kept most' every' : ℕ) → Marks cands c (take i ts) some two every most
      → bit both c ≡ (bit some c && bit p.parity c) → bit two' c ≡ (bit two c || bit both c) → bit some' c ≡ (bit some c || bit p.parity c)
      → bit kept c ≡ (bit most c && bit p.parity c) → bit most' c ≡ (bit every c || bit kept c) → bit every' c ≡ (bit every c && bit p.parity c)
      → Marks cands c (take (i + 1) ts) some' two' every' most'
  mark-next some two every most both two' some' kept most' every' m eb et es ek em ev =
      let b : Bool = bit p.parity c in
      let a : with c (take (i + 1) ts) ≡ with c (take i ts) + cond b 1 0 = with-next c ts i p.parity (ap (λ (t : Term). t.parity) r) in
      let z : without c (take (i + 1) ts) ≡ without c (take i ts) + cond b 0 1 = without-next c ts i p r l in
      record {
        some_is = es ∙ ap (λ (x : Bool). x || b) m.some_is ∙ some-step (with c (take i ts)) b ∙ ap (leb 1) (sym a);
        two_is = et ∙ ap₂ ◌||◌ m.two_is (eb ∙ ap (λ (x : Bool). x && b) m.some_is) ∙ two-step (with c (take i ts)) b ∙ ap (leb 2) (sym a);
        every-is = ev ∙ ap (λ (x : Bool). x && b) m.every-is ∙ every-step (bit cands c) (without c (take i ts)) b ∙ ap (λ (x : ℕ). bit cands c && leb x 0) (sym z);
        most-is =
            em ∙ ap₂ ◌||◌ m.every-is (ek ∙ ap (λ (x : Bool). x && b) m.most-is) ∙ most_step (bit cands c) (without c (take i ts)) b
            ∙ ap (λ (x : ℕ). bit cands c && leb x 1) (sym z);
      }

-- ---- at the end

one_of : (a : ℕ) → (leb 1 a ⊕ leb 2 a) ≡ eqb a 1
one_of zero = refl
one_of (suc zero) = refl
one_of (suc (suc a)) = rw (le-leb 1 (suc (suc a)) (omega arith), le-leb 2 (suc (suc a)) (omega arith), ne_eqb (suc (suc a)) 1 (λ e. omega arith))

lacks-one : (z : ℕ) → (leb z 1 ⊕ leb z 0) ≡ eqb z 1
lacks-one zero = refl
lacks-one (suc zero) = refl
lacks-one (suc (suc z)) = rw (lt-leb (suc (suc z)) 1 (omega arith), lt-leb (suc (suc z)) 0 (omega arith), ne_eqb (suc (suc z)) 1 (λ e. omega arith))

marked : (k : Bool) (a z : ℕ) → (((k && leb z 1) ⊕ (k && leb z 0)) || (k && (leb 1 a ⊕ leb 2 a))) ≡ (k && (eqb z 1 || eqb a 1))
marked false a z = refl
marked true a z = ap₂ ◌||◌ (lacks-one z) (one_of a)

-- at least two on either side
apart : (z a n : ℕ) → (z ≡ 1 → ⊥) → (a ≡ 1 → ⊥) → z + a ≡ n → max a z < n → max a z + 1 < n
apart zero a n f g e l = absurd (omega arith)
apart (suc zero) a n f g e l = absurd (f refl)
apart (suc (suc z)) zero n f g e l = absurd (omega arith)
apart (suc (suc z)) (suc zero) n f g e l = absurd (g refl)
apart (suc (suc z)) (suc (suc a)) n f g e l = omega arith

-- all have it, or none has it
all-or-none : (k : Bool) (a z : ℕ) → ((k && leb z 0) || (k ⊕ (k && leb 1 a))) ≡ (k && (eqb z 0 || eqb a 0))
all-or-none false a z = refl
all-or-none true a z = ap₂ ◌||◌ (none z) (not_some a)
  where
    none : (n : ℕ) → leb n 0 ≡ eqb n 0
    none zero = refl
    none (suc n) = rw (lt-leb (suc n) 0 (omega arith), ne_eqb (suc n) 0 (λ e. omega arith))

    not_some : (n : ℕ) → (true ⊕ leb 1 n) ≡ eqb n 0
    not_some zero = refl
    not_some (suc n) = rw (le-leb 1 (suc n) (omega arith), ne_eqb (suc n) 0 (λ e. omega arith))

pub agreed-is : (ts : List Term) (cands some two every most n seen unseen r : ℕ) → length ts ≤ n → ((c : ℕ) → Marks cands c (take n ts) some two every most)
    → ((c : ℕ) → bit seen c ≡ (bit cands c && bit some c)) → unseen ≡ xor cands seen → ((c : ℕ) → bit r c ≡ (bit every c || bit unseen c)) → Agreed ts cands r
unfolding score
agreed-is ts cands some two every most n seen unseen r l m es eu er =
    record {
      fits = λ i h. let t = sym (is i) ∙ h in (and_left (bit cands i) _ t, whole i (and_right (bit cands i) _ t));
      others = λ i h k. split-up i (sym (ap (λ (x : Bool). x && (eqb (without i ts) 0 || eqb (with i ts) 0)) h) ∙ sym (is i) ∙ k);
    }
  where
    is : (c : ℕ) → bit r c ≡ (bit cands c && (eqb (without c ts) 0 || eqb (with c ts) 0))
    is c =
        let k = rw (take_all n ts l) at (m c) in
        er c
        ∙ ap₂ ◌||◌ k.every-is (ap (λ (v : ℕ). bit v c) eu ∙ bit_xor cands seen c ∙ ap (λ (x : Bool). bit cands c ⊕ x) (es c ∙ ap (λ (x : Bool). bit cands c && x) k.some_is))
        ∙ all-or-none (bit cands c) (with c ts) (without c ts)

    whole : (c : ℕ) → (eqb (without c ts) 0 || eqb (with c ts) 0) ≡ true → score c ts ≡ length ts
    whole c e =
        split (eqb (without c ts) 0)
        (λ f. omega (arith, eqb-true (without c ts) 0 f, length-sides c ts))
        (λ f. omega (arith, eqb-true (with c ts) 0 (rw f at e), length-sides c ts))

    split-up : (c : ℕ) → (true && (eqb (without c ts) 0 || eqb (with c ts) 0)) ≡ false → score c ts < length ts
    split-up c e =
        split (eqb (without c ts) 0)
        (λ f. absurd (true≢false (rw f at e)))
        (λ f. omega (arith, pos_of_ne-zero (eqb-false (without c ts) 0 f), pos_of_ne-zero (eqb-false (with c ts) 0 (rw f at e)), length-sides c ts))

-- one parity agrees with itself
module _ (ts : List Term) (cands : ℕ) (e : length ts ≡ 1) where
  one-score : (c : ℕ) → score c ts ≡ length ts
  unfolding score
  one-score c = omega (arith, length-sides c ts)

  pub one-agreed : Agreed ts cands cands
  one-agreed = record { fits = λ i h. (h, one-score i); others = λ i h k. absurd (true≢false (sym h ∙ k)) }

  one-lone : (c : ℕ) → lone c ts ≡ true
  one-lone c =
      same (without c ts) 1
      (λ p f. rw f refl)
      (λ p f. rw f (eq-eqb (with c ts) 1 (omega (arith, length-sides c ts, p))))

  pub one-nearly : Nearly ts cands cands
  one-nearly = record { is = λ c. sym (and-true (bit cands c)) ∙ ap (λ (x : Bool). bit cands c && x) (sym (one-lone c)) }

pub nearly-is : (ts : List Term) (cands some two every most n odd both gap r : ℕ) → length ts ≤ n → ((c : ℕ) → Marks cands c (take n ts) some two every most)
    → gap ≡ xor most every → odd ≡ xor some two → ((c : ℕ) → bit both c ≡ (bit cands c && bit odd c)) → ((c : ℕ) → bit r c ≡ (bit gap c || bit both c))
    → Nearly ts cands r
nearly-is ts cands some two every most n odd both gap r l m eg ea eb er =
    record {
      is = λ c.
          let k = rw (take_all n ts l) at (m c) in
          er c
          ∙ ap₂ ◌||◌ (ap (λ (v : ℕ). bit v c) eg ∙ bit_xor most every c ∙ ap₂ ◌⊕◌ k.most-is k.every-is)
          (eb c ∙ ap (λ (x : Bool). bit cands c && x) (ap (λ (v : ℕ). bit v c) ea ∙ bit_xor some two c ∙ ap₂ ◌⊕◌ k.some_is k.two_is))
          ∙ marked (bit cands c) (with c ts) (without c ts);
    }

-- their score is at most one below the largest, and where no parities agree that of no other candidate is
module _ (ts : List Term) (cands r : ℕ) (h : Nearly ts cands r) (c : ℕ) where
  near_fits : bit r c ≡ true → (bit cands c ≡ true) × (length ts ≤ score c ts + 1)
  unfolding score
  near_fits e =
      let t = sym (h.is c) ∙ e in (
        and_left (bit cands c) _ t,
        split (eqb (without c ts) 1)
            (λ f. omega (arith, eqb-true (without c ts) 1 f, length-sides c ts))
            (λ f. omega (arith, eqb-true (with c ts) 1 (rw f at (and_right (bit cands c) _ t)), length-sides c ts)),
      )

  near-others : bit cands c ≡ true → bit r c ≡ false → score c ts < length ts → score c ts + 1 < length ts
  unfolding score
  near-others k e s =
      let t : lone c ts ≡ false = sym (ap (λ (x : Bool). x && lone c ts) k) ∙ sym (h.is c) ∙ e in
      split (eqb (without c ts) 1)
      (λ f. absurd (true≢false (rw f at t)))
      (λ f. apart (without c ts) (with c ts) (length ts) (eqb-false (without c ts) 1 f) (eqb-false (with c ts) 1 (rw f at t)) (length-sides c ts) s)

-- ---- the highest of them wins

module _ (cs : ℕ) (ts : List Term) (s : ℕ) (under : (j : ℕ) → bit cs j ≡ true → score j ts ≤ s) where
  best-under : (m : ℕ) → (best m cs ts).1 ≤ s
  unfolding best
  best-under zero = zero-le
  best-under (suc m) =
      split (bit cs m)
      (λ e. split (beats (best m cs ts).1 (score m ts)) (λ f. rw (e, f) (under m e)) (λ f. rw (e, f) (best-under m)))
      (λ e. rw e (best-under m))

  pub best-top : (n c : ℕ) → c < n → bit cs c ≡ true → score c ts ≡ s → ((j : ℕ) → c < j → bit cs j ≡ true → score j ts < s) → best n cs ts ≡ (c, s)
  best-top zero c h e t f = absurd (not-suc-le-zero h)
  best-top (suc m) c h e t f =
      same c m
      (λ q _.
      let at : bit cs m ≡ true = ap (bit cs) (sym q) ∙ e in
      let top : score m ts ≡ s = ap (λ (z : ℕ). score z ts) (sym q) ∙ t in
      best-take cs ts m at
      ∙ ap (λ (z : Bool). cond z (m, score m ts) (best m cs ts)) (le-leb (best m cs ts).1 (score m ts) (omega (arith, best-under m)))
      ∙ rw (top, q))
      (λ q _.
      let below : best m cs ts ≡ (c, s) = best-top m c (omega arith) e t f in
      split (bit cs m)
      (λ g. best-take cs ts m g
      ∙ ap (λ (z : Bool). cond z (m, score m ts) (best m cs ts))
      (lt-leb (best m cs ts).1 (score m ts) (omega (arith, ap (λ (b : ℕ × ℕ). b.1) below, f m (omega arith) g)))
      ∙ below)
      (λ g. best-skip cs ts m g ∙ below))

pub agreed-best : (ts : List Term) (cands whole c : ℕ) → Agreed ts cands whole → Highest whole c → c < 128 → Best ts cands c
agreed-best ts cands whole c a h s =
    record {
      is = λ n k. ap (λ (b : ℕ × ℕ). b.0) (sym (best-agreed cands ts n c (in-room n k) (a.fits c h.set).0 (a.fits c h.set).1
          (λ j p q e. a.others j e (h.above j p))));
      small = s;
    }
  where
    in-room : (n : ℕ) → cands < 2 ^ n → c < n
    in-room n k = lt_of_not-le (λ (l : n ≤ c). true≢false (sym (a.fits c h.set).0 ∙ bit_high cands n c k l))

-- where the parities agree on no candidate
pub nearly-best : (ts : List Term) (cands whole near c : ℕ) → Agreed ts cands whole → whole ≡ 0 → Nearly ts cands near → Highest near c → c < 128 → Best ts cands c
nearly-best ts cands whole near c a z h t l =
    record {
      is = λ n k. ap (λ (b : ℕ × ℕ). b.0) (sym (best-top cands ts (score c ts) under n c (in-room n k) here.0 refl (λ j p e. omega (arith, others j e (t.above j p), here.1))));
      small = l;
    }
  where
    here : (bit cands c ≡ true) × (length ts ≤ score c ts + 1)
    here = near_fits ts cands near h c t.set

    less : (j : ℕ) → bit cands j ≡ true → score j ts < length ts
    less j e = a.others j e (ap (λ (v : ℕ). bit v j) z ∙ bit-zero j)

    others : (j : ℕ) → bit cands j ≡ true → bit near j ≡ false → score j ts + 1 < length ts
    others j e f = near-others ts cands near h j e f (less j e)

    under : (j : ℕ) → bit cands j ≡ true → score j ts ≤ score c ts
    under j e = omega (arith, less j e, here.1)

    in-room : (n : ℕ) → cands < 2 ^ n → c < n
    in-room n k = lt_of_not-le (λ (g : n ≤ c). true≢false (sym here.0 ∙ bit_high cands n c k g))
