-- The answer is right: `alike` exactly for runs that act alike, and each other answer exactly where that is the first to differ.
use mathlib.Core.Path.{◌≡◌, refl, sym, ap, ap₂, ◌∙◌}
use mathlib.Core.Logic.{◌↔◌}
use mathlib.Core.Bool.{Bool, true, false, false≢true}
use mathlib.Core.List.{List, [], ◌∷◌}
use Prim.Native.Nat.{ℕ, zero, suc, ◌+◌, ◌*◌, ◌%◌, ◌≤◌, ◌<◌, zero-le, suc-le-suc}
use native.Mathlib.Nat.{le_refl, le-suc, le_trans, not-suc-le-zero}
use native.Mathlib.Omega.{arith}
use lib.ListN.{length}
use lib.Dec.{ltb}
use borrow.Author.Tests.{eqb-true, eq-eqb, ltb-true, ltb-false}
use Rattle.rules.specs.Bit.{◌⊕◌}
use Rattle.rules.specs.Meaning.{Op, wires, phases, Alike}
use Rattle.rules.proofs.Bits.{split, same, and_left, and_right, ⊕-false, ⊕-self, ⊕-assoc, ⊕-mid}
use Rattle.acting.specs.Alike.{Setting, zeros, turned, Falling, turned_all, AllBelow, SameMap, SameFlips, SamePhase, each, few, eq_bit, enters, map_test, flips_test, phase_at, phase_test, alike, map_differs, flips_differ, phase_differs, first, verdict}
use Rattle.acting.proofs.Differences.{Deg, deg-plus, deg-minus, deg-constant, diff-ext, phases-deg, cut, Few, decide}
use Rattle.acting.proofs.Affine.{lines, enters-line, wires-beyond, wires-split, phases-cut, lines-decide}

-- ---- tests of ranges

pub each-true : (n : ℕ) (p : ℕ → Bool) → each n p ≡ true → (i : ℕ) → i < n → p i ≡ true
unfolding each
each-true zero p h i l = absurd (not-suc-le-zero l)
each-true (suc n) p h i l = same i n (λ e t. rw e (and_left (p n) (each n p) h)) (λ e t. each-true n p (and_right (p n) (each n p) h) i (omega arith))

pub true-each : (n : ℕ) (p : ℕ → Bool) → ((i : ℕ) → i < n → p i ≡ true) → each n p ≡ true
unfolding each
true-each zero p h = refl
true-each (suc n) p h = rw (h n (le_refl (suc n)), true-each n p (λ i l. h i (le_trans l (le-suc n))))

pub few-true : (d m : ℕ) (p : Setting → Bool) (s : Setting) → few d m p s ≡ true → Few d m (λ z. p z ≡ true) s
unfolding few Few
few-true zero m p s h = h
few-true (suc d) m p s h =
    let es : Bool = each m (λ i. few d i p (turned i s)) in
    (and_left (p s) es h, λ i l. few-true d i p (turned i s) (each-true m (λ i. few d i p (turned i s)) (and_right (p s) es h) i l))

pub true-few : (d m : ℕ) (p : Setting → Bool) (s : Setting) → ((z : Setting) → p z ≡ true) → few d m p s ≡ true
unfolding few
true-few zero m p s h = h s
true-few (suc d) m p s h = rw (h s, true-each m (λ i. few d i p (turned i s)) (λ i l. true-few d i p (turned i s) h))

few-map : (d m : ℕ) (P Q : Setting → Type 0) (s : Setting) → ((z : Setting) → P z → Q z) → Few d m P s → Few d m Q s
unfolding Few
few-map zero m P Q s f h = f s h
few-map (suc d) m P Q s f h = (f s h.0, λ i l. few-map d i P Q (turned i s) f (h.1 i l))

-- by lists of places
few-listed : (d m : ℕ) (P : Setting → Type 0) (s : Setting) → ((is : List ℕ) → Falling m is → length is ≤ d → P (turned_all is s)) → Few d m P s
unfolding Few
few-listed zero m P s h = h [] tt zero-le
few-listed (suc d) m P s h = (h [] tt zero-le, λ i l. few-listed d i P (turned i s) (λ is f k. h (i ∷ is) (l, f) (suc-le-suc k)))

eq_bit-true : (a b : Bool) → eq_bit a b ≡ true → a ≡ b
eq_bit-true true true e = refl
eq_bit-true true false e = sym e
eq_bit-true false true e = e
eq_bit-true false false e = refl

eq_bit-same : (a b : Bool) → a ≡ b → eq_bit a b ≡ true
eq_bit-same a b e = rw (e, ⊕-self b)

-- ---- the phase

seven : (a b : ℕ) → a % 8 ≡ b % 8 → (a + 7 * b) % 8 ≡ 0
seven a b h = diff-ext a b b b h refl ∙ eight b
  where
    eight : (b : ℕ) → (b + 7 * b) % 8 ≡ 0
    eight b = omega arith

unseven : (a b : ℕ) → (a + 7 * b) % 8 ≡ 0 → a % 8 ≡ b % 8
unseven a b h = more a b ∙ go (a + 7 * b) b h
  where
    more : (a b : ℕ) → a % 8 ≡ (a + 7 * b + b) % 8
    more a b = omega arith

    go : (x b : ℕ) → x % 8 ≡ 0 → (x + b) % 8 ≡ b % 8
    go x b h = omega arith

-- the phases differ at s as at the zeros
abbrev pub At : List Op → List Op → Setting → Type 0
At us vs s = (phases us s + phases vs zeros) % 8 ≡ (phases vs s + phases us zeros) % 8

module _ (n : ℕ) (us vs : List Op) (bu : AllBelow n us) (bv : AllBelow n vs) where
  -- the difference of the two phase functions, as a sum
  gap : Setting → ℕ
  gap s = phases us s + phases vs zeros + 7 * (phases vs s + phases us zeros)

  gap-deg : Deg 4 gap
  unfolding gap
  gap-deg =
      deg-plus 4 (λ s. phases us s + phases vs zeros) (λ s. 7 * (phases vs s + phases us zeros))
      (deg-plus 4 (phases us) (λ s. phases vs zeros) (phases-deg us) (deg-constant 3 (phases vs zeros)))
      (deg-minus 4 (λ s. phases vs s + phases us zeros) (deg-plus 4 (phases vs) (λ s. phases us zeros) (phases-deg vs) (deg-constant 3 (phases us zeros))))

  few-decide : Few 3 n (At us vs) zeros → (s : Setting) → At us vs s
  unfolding gap
  few-decide h s =
      let at : At us vs (cut n s) =
      unseven (phases us (cut n s) + phases vs zeros) (phases vs (cut n s) + phases us zeros)
      (decide n 3 gap zeros gap-deg (few-map 3 n (At us vs) (λ z. gap z % 8 ≡ 0) zeros (λ z. seven (phases us z + phases vs zeros) (phases vs z + phases us zeros)) h) s) in
      rw (phases-cut n us s bu, phases-cut n vs s bv) at at

  -- THREE DECIDE: what holds where at most three of the wires are 1, holds everywhere
  pub three-decide : ((is : List ℕ) → Falling n is → length is ≤ 3 → At us vs (turned_all is zeros)) → (s : Setting) → At us vs s
  three-decide h = few-decide (few-listed 3 n (At us vs) zeros h)

  pub at-phase : ((s : Setting) → At us vs s) → SamePhase us vs
  at-phase h = record {
    constant = phases vs zeros + 7 * phases us zeros;
    phase = λ s. to (phases us s) (phases vs s) (phases us zeros) (phases vs zeros) (h s);
  }
    where
      to : (a b x y : ℕ) → (a + y) % 8 ≡ (b + x) % 8 → (y + 7 * x + a) % 8 ≡ b % 8
      to a b x y h = one a x y ∙ diff-ext (a + y) (b + x) x x h refl ∙ two b x
        where
          one : (a x y : ℕ) → (y + 7 * x + a) % 8 ≡ (a + y + 7 * x) % 8
          one a x y = omega arith

          two : (b x : ℕ) → (b + x + 7 * x) % 8 ≡ b % 8
          two b x = omega arith

  pub phase-at : SamePhase us vs → (s : Setting) → At us vs s
  phase-at p s = from p.constant (phases us s) (phases vs s) (phases us zeros) (phases vs zeros) (p.phase s) (p.phase zeros)
    where
      from : (c a b x y : ℕ) → (c + a) % 8 ≡ b % 8 → (c + x) % 8 ≡ y % 8 → (a + y) % 8 ≡ (b + x) % 8
      from c a b x y h k = one k ∙ two h
        where
          one : (c + x) % 8 ≡ y % 8 → (a + y) % 8 ≡ (c + a + x) % 8
          one k = omega arith

          two : (c + a) % 8 ≡ b % 8 → (c + a + x) % 8 ≡ (b + x) % 8
          two h = omega arith

  pub phase-sound : phase_test n us vs ≡ true → SamePhase us vs
  unfolding phase_test phase_at
  phase-sound h =
      at-phase (few-decide (few-map 3 n (λ z. phase_at us vs z ≡ true) (At us vs) zeros
      (λ z. eqb-true ((phases us z + phases vs zeros) % 8) ((phases vs z + phases us zeros) % 8)) (few-true 3 n (phase_at us vs) zeros h)))

  pub phase-complete : SamePhase us vs → phase_test n us vs ≡ true
  unfolding phase_test phase_at
  phase-complete p = true-few 3 n (phase_at us vs) zeros (λ z. eq-eqb ((phases us z + phases vs zeros) % 8) ((phases vs z + phases us zeros) % 8) (phase-at p z))

  -- ---- the linear map

  -- the single ones decide
  pub map-singles : ((i q : ℕ) → i < n → q < n → enters us i q ≡ enters vs i q) → SameMap us vs
  map-singles h = record { between = λ s t q. split (ltb q n) (λ e. inside s t q (ltb-true q n e)) (λ e. outside s t q (ltb-false q n e)) }
    where
      linear : (q : ℕ) → q < n → (s : Setting) → lines us (cut n s) q ≡ lines vs (cut n s) q
      linear q l = lines-decide n us vs q (λ i k. sym (enters-line us i q) ∙ h i q k l ∙ enters-line vs i q)

      cancel : (z a b : Bool) → ((z ⊕ a) ⊕ (z ⊕ b)) ≡ (a ⊕ b)
      cancel z a b = ⊕-mid z a z b ∙ ap (λ (y : Bool). y ⊕ (a ⊕ b)) (⊕-self z)

      two : (os : List Op) → AllBelow n os → (s t : Setting) (q : ℕ) → q < n → (wires os s q ⊕ wires os t q) ≡ (lines os (cut n s) q ⊕ lines os (cut n t) q)
      two os b s t q l = ap₂ ◌⊕◌ (wires-split n os s q b l) (wires-split n os t q b l) ∙ cancel (wires os zeros q) (lines os (cut n s) q) (lines os (cut n t) q)

      inside : (s t : Setting) (q : ℕ) → q < n → (wires us s q ⊕ wires us t q) ≡ (wires vs s q ⊕ wires vs t q)
      inside s t q l = two us bu s t q l ∙ ap₂ ◌⊕◌ (linear q l s) (linear q l t) ∙ sym (two vs bv s t q l)

      outside : (s t : Setting) (q : ℕ) → n ≤ q → (wires us s q ⊕ wires us t q) ≡ (wires vs s q ⊕ wires vs t q)
      outside s t q l = rw (wires-beyond n us s q bu l, wires-beyond n us t q bu l, wires-beyond n vs s q bv l, wires-beyond n vs t q bv l)

  pub map-sound : map_test n us vs ≡ true → SameMap us vs
  unfolding map_test
  map-sound h =
      map-singles (λ i q k l. eq_bit-true (enters us i q) (enters vs i q)
      (each-true n (λ q. eq_bit (enters us i q) (enters vs i q)) (each-true n (λ i. each n (λ q. eq_bit (enters us i q) (enters vs i q))) h i k) q l))

  pub map-complete : SameMap us vs → map_test n us vs ≡ true
  unfolding map_test enters
  map-complete m =
      true-each n (λ i. each n (λ q. eq_bit (enters us i q) (enters vs i q)))
      (λ i k. true-each n (λ q. eq_bit (enters us i q) (enters vs i q)) (λ q l. eq_bit-same (enters us i q) (enters vs i q) (m.between zeros (turned i zeros) q)))

  -- ---- the flips

  -- the wires below n decide
  pub flips-below : ((q : ℕ) → q < n → wires us zeros q ≡ wires vs zeros q) → SameFlips us vs
  flips-below h = record {
    zeroed = λ q. split (ltb q n) (λ e. h q (ltb-true q n e)) (λ e. wires-beyond n us zeros q bu (ltb-false q n e) ∙ sym (wires-beyond n vs zeros q bv (ltb-false q n e)));
  }

  pub flips-sound : flips_test n us vs ≡ true → SameFlips us vs
  unfolding flips_test
  flips-sound h = flips-below (λ q l. eq_bit-true (wires us zeros q) (wires vs zeros q) (each-true n (λ q. eq_bit (wires us zeros q) (wires vs zeros q)) h q l))

  pub flips-complete : SameFlips us vs → flips_test n us vs ≡ true
  unfolding flips_test
  flips-complete f =
      true-each n (λ q. eq_bit (wires us zeros q) (wires vs zeros q)) (λ q l. eq_bit-same (wires us zeros q) (wires vs zeros q) (f.zeroed q))

-- ---- where the settings go: the linear map and the flips, and nothing else

pub wires-same : (us vs : List Op) → SameMap us vs → SameFlips us vs → (s : Setting) (q : ℕ) → wires us s q ≡ wires vs s q
wires-same us vs m f s q =
    sym (back (wires us s q) (wires us zeros q)) ∙ ap₂ ◌⊕◌ (m.between s zeros q) (f.zeroed q) ∙ back (wires vs s q) (wires vs zeros q)
  where
    back : (a b : Bool) → (a ⊕ b ⊕ b) ≡ a
    back a b = ⊕-assoc a b b ∙ ap (λ (z : Bool). a ⊕ z) (⊕-self b) ∙ ⊕-false a

pub same-wires : (us vs : List Op) → ((s : Setting) (q : ℕ) → wires us s q ≡ wires vs s q) → SameMap us vs × SameFlips us vs
same-wires us vs h = (record { between = λ s t q. ap₂ ◌⊕◌ (h s q) (h t q) }, record { zeroed = h zeros })

-- acting alike, in three parts
pub alike-parts : (us vs : List Op) → Alike us vs → SameMap us vs × SameFlips us vs × SamePhase us vs
alike-parts us vs a =
    let w = same-wires us vs a.same in
    (w.0, w.1, record { constant = a.constant; phase = a.phase })

pub parts-alike : (us vs : List Op) → SameMap us vs → SameFlips us vs → SamePhase us vs → Alike us vs
parts-alike us vs m f p = record { same = wires-same us vs m f; constant = p.constant; phase = p.phase }

-- ---- the answer

clash : {A : Type 0} → ◌≡◌ {A = ℕ} 0 1 → A
clash e = absurd (omega arith)

first_alike : (m f p : Bool) → first m f p ≡ alike → (m ≡ true) × (f ≡ true) × (p ≡ true)
first_alike false f p e = clash (cc)
first_alike true false p e = clash (cc)
first_alike true true false e = clash (cc)
first_alike true true true e = (refl, refl, refl)

first-map : (m f p : Bool) → first m f p ≡ map_differs → m ≡ false
first-map false f p e = refl
first-map true false p e = clash (cc)
first-map true true false e = clash (cc)
first-map true true true e = clash (cc)

first-flips : (m f p : Bool) → first m f p ≡ flips_differ → (m ≡ true) × (f ≡ false)
first-flips false f p e = clash (cc)
first-flips true false p e = (refl, refl)
first-flips true true false e = clash (cc)
first-flips true true true e = clash (cc)

first-phase : (m f p : Bool) → first m f p ≡ phase_differs → (m ≡ true) × (f ≡ true) × (p ≡ false)
first-phase false f p e = clash (cc)
first-phase true false p e = clash (cc)
first-phase true true false e = (refl, refl, refl)
first-phase true true true e = clash (cc)

-- a test that fails, for a statement that implies it, and one that does not hold
fails : {P : Type 0} (b : Bool) → (P → b ≡ true) → b ≡ false → ¬ P
fails b f e p = false≢true (sym e ∙ f p)

failed : {P : Type 0} (b : Bool) → (b ≡ true → P) → ¬ P → b ≡ false
failed true f h = absurd (h (f refl))
failed false f h = refl

module _ (n : ℕ) (us vs : List Op) (bu : AllBelow n us) (bv : AllBelow n vs) where
  abbrev m : Bool
  m = map_test n us vs

  abbrev f : Bool
  f = flips_test n us vs

  abbrev p : Bool
  p = phase_test n us vs

  verdict-first : verdict n us vs ≡ first m f p
  unfolding verdict
  verdict-first = refl

  pub verdict-alike : (verdict n us vs ≡ alike) ↔ Alike us vs
  verdict-alike = (to, from)
    where
      to : verdict n us vs ≡ alike → Alike us vs
      to e =
          let t = first_alike m f p (sym verdict-first ∙ e) in
          parts-alike us vs (map-sound n us vs bu bv t.0) (flips-sound n us vs bu bv t.1) (phase-sound n us vs bu bv t.2)

      from : Alike us vs → verdict n us vs ≡ alike
      from a =
          let t = alike-parts us vs a in
          verdict-first ∙ rw (map-complete n us vs bu bv t.0, flips-complete n us vs bu bv t.1, phase-complete n us vs bu bv t.2)

  pub verdict-map : (verdict n us vs ≡ map_differs) ↔ ¬ (SameMap us vs)
  verdict-map = (
    λ e. fails m (map-complete n us vs bu bv) (first-map m f p (sym verdict-first ∙ e)),
    λ h. verdict-first ∙ ap (λ (z : Bool). first z f p) (failed m (map-sound n us vs bu bv) h),
  )

  pub verdict-flips : (verdict n us vs ≡ flips_differ) ↔ (SameMap us vs × ¬ (SameFlips us vs))
  verdict-flips = (to, from)
    where
      to : verdict n us vs ≡ flips_differ → SameMap us vs × ¬ (SameFlips us vs)
      to e =
          let t = first-flips m f p (sym verdict-first ∙ e) in
          (map-sound n us vs bu bv t.0, fails f (flips-complete n us vs bu bv) t.1)

      from : SameMap us vs × ¬ (SameFlips us vs) → verdict n us vs ≡ flips_differ
      from t = verdict-first ∙ rw (map-complete n us vs bu bv t.0, failed f (flips-sound n us vs bu bv) t.1)

  pub verdict-phase : (verdict n us vs ≡ phase_differs) ↔ (SameMap us vs × SameFlips us vs × ¬ (SamePhase us vs))
  verdict-phase = (to, from)
    where
      to : verdict n us vs ≡ phase_differs → SameMap us vs × SameFlips us vs × ¬ (SamePhase us vs)
      to e =
          let t = first-phase m f p (sym verdict-first ∙ e) in
          (map-sound n us vs bu bv t.0, flips-sound n us vs bu bv t.1, fails p (phase-complete n us vs bu bv) t.2)

      from : SameMap us vs × SameFlips us vs × ¬ (SamePhase us vs) → verdict n us vs ≡ phase_differs
      from t = verdict-first ∙ rw (map-complete n us vs bu bv t.0, flips-complete n us vs bu bv t.1, failed p (phase-sound n us vs bu bv) t.2)
