-- What an accepted list has: its limits, and gate by gate what each field may be.
use mathlib.Core.Path.{◌≡◌, refl, sym, ap, ◌∙◌}
use mathlib.Core.Logic.{◌≢◌}
use mathlib.Core.Bool.{Bool, true, false, not, ◌&&◌, ◌||◌, cond, or-true, false≢true}
use mathlib.Core.List.{List, [], ◌∷◌, ◌++◌, map}
use Prim.Native.Nat.{ℕ, zero, suc, ◌+◌, ◌*◌, ◌/◌, ◌%◌, ◌≤◌, ◌<◌, zero-le, suc-le-suc}
use native.Mathlib.Nat.{not-suc-le-zero, le_of_suc-le-suc}
use native.Mathlib.Omega.{arith}
use borrow.Author.Tests.{ltb-true, ltb-false, leb-true, eqb-true, le-ltb, eq-eqb, not-false}
use lib.Dec.{eqb, leb, ltb}
use lib.IntN.{ℤ, pos, negsuc}
use lib.ListN.{length, get_or}
use Rattle.rules.specs.Limits.{width, last_code, max_gates, max_wires, max_bits, term_width, step_width, term_entries, step_entries}
use Rattle.rules.specs.Gate.{Gate, from, second, bitted, third, turned}
use Rattle.rules.specs.Numbers.{nat_of, inside, same, negative, field, gate_at, gates_from, gates_of, numbers, numbers_of}
use Rattle.rules.specs.Refusal.{Refusal, Fault, Verdict, accepted, refused, tell, none, first_number, ruled, nought, unused, apart, gate_tests, fault_of, fault_at, whole_fault, faults_from, verdict}
use Rattle.rules.proofs.Bits.{split}
use Rattle.rules.proofs.Reading.{field-after, length-numbers, Natural, write-natural}

-- ---- the first test that fails

-- the tests, each with a part of what it gives
abbrev pub parts : {A B : Type 0} → (A → B) → List (Bool × A) → List (Bool × B)
parts f tests = map (λ test. (test.0, f test.1)) tests

-- a part of the first is the first of the parts
pub first-map : {A B : Type 0} (f : A → B) (tests : List (Bool × A)) (else : A) → f (first_number tests else) ≡ first_number (parts f tests) (f else)
first-map f [] else = refl
first-map f (test ∷ others) else = split test.0 (λ e. rw e) (λ e. rw e (first-map f others else))

-- ---- the list

pub record Accepted (l : List ℤ) (w b out terms steps : ℕ) : Type 0 where
  pub even : length l % width ≡ 0
  pub few : length l / width ≤ max_gates
  pub wires : w ≤ max_wires
  pub bits : b ≤ max_bits
  pub room : length l ≤ out
  pub term-room : term_entries (length l / width) ≤ terms / term_width
  pub step_room : step_entries (length l / width) ≤ steps / step_width
  pub each : (i : ℕ) → i < length l / width → (fault_at l w b i).number ≡ 0

not-refused : (r : Refusal) → refused r ≡ accepted → ⊥
not-refused r e = let z : ◌≡◌ {A = ℕ} 0 1 = cc in omega arith

-- what is accepted has no fault, and the rest is accepted
past : (f : Fault) (p : ℕ) (v : Verdict) → ruled f p v ≡ accepted → (f.number ≡ 0) × (v ≡ accepted)
past f p v e = split (eqb f.number 0) (λ t. (eqb-true f.number 0 t, rw t at e)) (λ t. absurd (not-refused _ (rw t at e)))

-- no test fails where the first number is 0
none_first : (t : Bool) (k n : ℕ) → cond t (suc k) n ≡ 0 → (t ≡ false) × (n ≡ 0)
none_first true k n e = absurd (omega arith)
none_first false k n e = (refl, e)

neither : (s t : Bool) → (s || t) ≡ false → (s ≡ false) × (t ≡ false)
neither false t h = (refl, h)
neither true t h = absurd (false≢true (sym h))

faults-each : (l : List ℤ) (w b n i : ℕ) → faults_from l w b n i ≡ accepted → (j : ℕ) → j < n → (fault_at l w b (i + j)).number ≡ 0
unfolding faults_from
faults-each l w b zero i e j h = absurd (not-suc-le-zero h)
faults-each l w b (suc n) i e zero h =
    let z : i + zero ≡ i = omega arith in
    rw z (past (fault_at l w b i) i (faults_from l w b n (suc i)) e).0
faults-each l w b (suc n) i e (suc j) h =
    let z : i + suc j ≡ suc i + j = omega arith in
    rw z (faults-each l w b n (suc i) (past (fault_at l w b i) i (faults_from l w b n (suc i)) e).1 j (le_of_suc-le-suc h))

each-faults : (l : List ℤ) (w b n i : ℕ) → ((j : ℕ) → j < n → (fault_at l w b (i + j)).number ≡ 0) → faults_from l w b n i ≡ accepted
unfolding faults_from
each-faults l w b zero i h = refl
each-faults l w b (suc n) i h =
    let z : i + zero ≡ i = omega arith in
    let now : (fault_at l w b i).number ≡ 0 = rw z at (h zero (suc-le-suc zero-le)) in
    rw now (each-faults l w b n (suc i) (λ j hj. let e : i + suc j ≡ suc i + j = omega arith in rw e at (h (suc j) (suc-le-suc hj))))

pub accepted-is : (l : List ℤ) (w b out terms steps : ℕ) → verdict l w b out terms steps ≡ accepted → Accepted l w b out terms steps
unfolding verdict
accepted-is l w b out terms steps e =
    let g : ℕ = length l / width in
    let p = past (tell (whole_fault (length l) g w b out terms steps) 0) zero (faults_from l w b g zero) e in
    let p1 = none_first (not (eqb (length l % width) 0)) 0 _ p.0 in
    let p2 = none_first (ltb max_gates g) 1 _ p1.1 in
    let p3 = none_first (ltb max_wires w || ltb max_bits b) 2 _ p2.1 in
    let p4 = none_first (ltb out (length l)) 3 _ p3.1 in
    let p5 = none_first (ltb (terms / term_width) (term_entries g) || ltb (steps / step_width) (step_entries g)) 4 _ p4.1 in
    let n3 = neither (ltb max_wires w) (ltb max_bits b) p3.0 in
    let n5 = neither (ltb (terms / term_width) (term_entries g)) (ltb (steps / step_width) (step_entries g)) p5.0 in
    record {
      even = eqb-true (length l % width) 0 (not-false (eqb (length l % width) 0) p1.0);
      few = ltb-false max_gates g p2.0;
      wires = ltb-false max_wires w n3.0;
      bits = ltb-false max_bits b n3.1;
      room = ltb-false out (length l) p4.0;
      term-room = ltb-false (terms / term_width) (term_entries g) n5.0;
      step_room = ltb-false (steps / step_width) (step_entries g) n5.1;
      each = λ i h. let z : zero + i ≡ i = omega arith in rw z at (faults-each l w b g zero p.1 i h);
    }

pub is-accepted : (l : List ℤ) (w b out terms steps : ℕ) → Accepted l w b out terms steps → verdict l w b out terms steps ≡ accepted
unfolding verdict
is-accepted l w b out terms steps a =
    let g : ℕ = length l / width in
    rw (
      a.even,
      le-ltb max_gates g a.few,
      le-ltb max_wires w a.wires,
      le-ltb max_bits b a.bits,
      le-ltb out (length l) a.room,
      le-ltb (terms / term_width) (term_entries g) a.term-room,
      le-ltb (steps / step_width) (step_entries g) a.step_room,
    )
    (each-faults l w b g zero (λ j hj. let z : zero + j ≡ j = omega arith in rw z (a.each j hj)))

-- ---- where a refusal stands

abbrev pub place_of : Verdict → ℕ
place_of accepted = 0
place_of (refused r) = r.place

ruled-place : (f : Fault) (p m : ℕ) (v : Verdict) → p ≤ m → (f.number ≡ 0 → place_of v ≤ m) → place_of (ruled f p v) ≤ m
ruled-place f p m v h g = split (eqb f.number 0) (λ e. rw e (g (eqb-true f.number 0 e))) (λ e. rw e h)

faults-place : (l : List ℤ) (w b n i : ℕ) → place_of (faults_from l w b n i) ≤ i + n
unfolding faults_from
faults-place l w b zero i = omega arith
faults-place l w b (suc n) i = ruled-place (fault_at l w b i) i (i + suc n) (faults_from l w b n (suc i)) (omega arith) (λ e. omega (arith, faults-place l w b n (suc i)))

-- at a gate of the list, and at one of those that a list may have
pub verdict-place : (l : List ℤ) (w b out terms steps : ℕ) → place_of (verdict l w b out terms steps) ≤ length l / width
unfolding verdict
verdict-place l w b out terms steps =
    let g : ℕ = length l / width in
    ruled-place (tell (whole_fault (length l) g w b out terms steps) 0) zero g (faults_from l w b g zero) (omega arith) (λ e. omega (arith, faults-place l w b g zero))

pub verdict-few : (l : List ℤ) (w b out terms steps : ℕ) → place_of (verdict l w b out terms steps) ≤ max_gates
unfolding verdict
verdict-few l w b out terms steps =
    let g : ℕ = length l / width in
    ruled-place (tell (whole_fault (length l) g w b out terms steps) 0) zero max_gates (faults_from l w b g zero) (omega arith)
    (λ e.
    let p1 = none_first (not (eqb (length l % width) 0)) 0 _ e in
    let p2 = none_first (ltb max_gates g) 1 _ p1.1 in
    omega (arith, faults-place l w b g zero, ltb-false max_gates g p2.0))

-- ---- one gate

-- what the fields of a gate that is not refused are, in numbers that `omega` reads
pub record Fit (w b c x y z : ℕ) (t : ℤ) : Type 0 where
  pub least : 1 ≤ c
  pub most : c ≤ last_code
  pub first-in : x < w
  pub second-in : second c ≡ true → y < w
  pub bit_in : bitted c ≡ true → y < b
  pub third-in : third c ≡ true → z < w
  pub first-second : second c ≡ true → x ≢ y
  pub first-third : third c ≡ true → x ≢ z
  pub second-third : third c ≡ true → y ≢ z
  pub no_second : second c ≡ false → bitted c ≡ false → y ≡ 0
  pub no_third : third c ≡ false → z ≡ 0
  pub no-turn : turned c ≡ false → t ≡ pos 0

both : (s t : Bool) → (s && t) ≡ true → (s ≡ true) × (t ≡ true)
both true t h = (refl, h)
both false t h = absurd (false≢true h)

given : (s t : Bool) → (s && not t) ≡ false → s ≡ true → t ≡ true
given true t h e = not-false t h
given false t h e = absurd (false≢true e)

unless : (s t : Bool) → (s || t) ≡ true → s ≡ false → t ≡ true
unless false t h e = h
unless true t h e = absurd (false≢true (sym e))

denied : (s t : Bool) → not (s && t) ≡ true → s ≡ true → t ≡ true → ⊥
denied true true h e f = false≢true h
denied true false h e f = false≢true f
denied false t h e f = false≢true e

-- a number inside is no negative number
inside-pos : (z : ℤ) (n : ℕ) → inside z n ≡ true → (pos (nat_of z) ≡ z) × (nat_of z < n)
inside-pos (pos k) n h = (refl, ltb-true k n h)
inside-pos (negsuc k) n h = absurd (false≢true h)

nought-is : (z : ℤ) → nought z ≡ true → z ≡ pos 0
nought-is (pos k) h = ap pos (eqb-true k 0 h)
nought-is (negsuc k) h = absurd (false≢true h)

coded-pos : (z : ℤ) → 1 ≤ nat_of z → pos (nat_of z) ≡ z
coded-pos (pos k) h = refl
coded-pos (negsuc k) h = absurd (omega arith)

lined-pos : (z : ℤ) → negative z ≡ false → pos (nat_of z) ≡ z
lined-pos (pos k) h = refl
lined-pos (negsuc k) h = absurd (false≢true (sym h))

-- two such fields are the same where their numbers are
same-pos : (x y : ℤ) → pos (nat_of x) ≡ x → pos (nat_of y) ≡ y → nat_of x ≡ nat_of y → same x y ≡ true
same-pos x y p q e = rw (← p, ← q) (eq-eqb (nat_of x) (nat_of y) e)

-- the five fields that are wires, bits, codes or lines are no negative numbers
pub record Signless (c x y z s : ℤ) : Type 0 where
  pub code : pos (nat_of c) ≡ c
  pub first : pos (nat_of x) ≡ x
  pub second : pos (nat_of y) ≡ y
  pub third : pos (nat_of z) ≡ z
  pub line : pos (nat_of s) ≡ s

-- what the tests say, where none fails
record Passed (w b : ℕ) (code x y z t s : ℤ) : Type 0 where
  coded : from 1 last_code (nat_of code) ≡ true
  free : unused (nat_of code) y z t ≡ true
  first-is : inside x w ≡ true
  second_is : second (nat_of code) ≡ true → inside y w ≡ true
  bit_is : bitted (nat_of code) ≡ true → inside y b ≡ true
  third-is : third (nat_of code) ≡ true → inside z w ≡ true
  distinct : apart (nat_of code) x y z ≡ true
  lined : negative s ≡ false

-- a part of what is wrong with a gate, test by test
pub fault-part : (f : Fault → ℕ) (w b : ℕ) (code x y z t s : ℤ) → f (fault_of w b code x y z t s) ≡ first_number (parts f (gate_tests (nat_of code) w b x y z t s)) (f none)
unfolding fault_of
fault-part f w b code x y z t s = first-map f (gate_tests (nat_of code) w b x y z t s) none

module _ (w b : ℕ) (code x y z t s : ℤ) (h : (fault_of w b code x y z t s).number ≡ 0) where
  abbrev c : ℕ
  c = nat_of code

  passed : Passed w b code x y z t s
  passed =
      let p6 = none_first (not (from 1 last_code c)) 5 _ (sym (fault-part (λ f. f.number) w b code x y z t s) ∙ h) in
      let p7 = none_first (not (unused c y z t)) 6 _ p6.1 in
      let p1 = none_first (not (inside x w)) 7 _ p7.1 in
      let p2 = none_first (second c && not (inside y w)) 7 _ p1.1 in
      let pb = none_first (bitted c && not (inside y b)) 13 _ p2.1 in
      let p3 = none_first (third c && not (inside z w)) 7 _ pb.1 in
      let p9 = none_first (not (apart c x y z)) 8 _ p3.1 in
      let p18 = none_first (negative s) 17 _ p9.1 in
      record {
        coded = not-false (from 1 last_code c) p6.0;
        free = not-false (unused c y z t) p7.0;
        first-is = not-false (inside x w) p1.0;
        second_is = given (second c) (inside y w) p2.0;
        bit_is = given (bitted c) (inside y b) pb.0;
        third-is = given (third c) (inside z w) p3.0;
        distinct = not-false (apart c x y z) p9.0;
        lined = p18.0;
      }

  code_in : (1 ≤ c) × (c ≤ last_code)
  code_in = let k = both (leb 1 c) (leb c last_code) passed.coded in (leb-true 1 c k.0, leb-true c last_code k.1)

  second_none : second c ≡ false → bitted c ≡ false → y ≡ pos 0
  second_none e f = nought-is y (unless (bitted c) (nought y) (unless (second c) (bitted c || nought y) (both (second c || (bitted c || nought y)) _ passed.free).0 e) f)

  others : ((third c || nought z) && (turned c || nought t)) ≡ true
  others = (both (second c || (bitted c || nought y)) _ passed.free).1

  third-none : third c ≡ false → z ≡ pos 0
  third-none e = nought-is z (unless (third c) (nought z) (both (third c || nought z) _ others).0 e)

  third-apart : third c ≡ true → (same x z || same y z) ≡ true → ⊥
  third-apart = denied (third c) (same x z || same y z) (both (not (second c && same x y)) _ passed.distinct).1

  second-pos : pos (nat_of y) ≡ y
  second-pos =
      split (second c)
      (λ e. (inside-pos y w (passed.second_is e)).0)
      (λ e. split (bitted c) (λ f. (inside-pos y b (passed.bit_is f)).0) (λ f. let z = second_none e f in ap (λ (u : ℤ). pos (nat_of u)) z ∙ sym z))

  third-pos : pos (nat_of z) ≡ z
  third-pos = split (third c) (λ e. (inside-pos z w (passed.third-is e)).0) (λ e. let u = third-none e in ap (λ (v : ℤ). pos (nat_of v)) u ∙ sym u)

  pub signless : Signless code x y z s
  signless = record { code = coded-pos code code_in.0; first = (inside-pos x w passed.first-is).0; second = second-pos; third = third-pos; line = lined-pos s passed.lined }

  pub fit : Fit w b c (nat_of x) (nat_of y) (nat_of z) t
  fit =
      record {
        least = code_in.0;
        most = code_in.1;
        first-in = (inside-pos x w passed.first-is).1;
        second-in = λ s. (inside-pos y w (passed.second_is s)).1;
        bit_in = λ s. (inside-pos y b (passed.bit_is s)).1;
        third-in = λ s. (inside-pos z w (passed.third-is s)).1;
        first-second = λ s e. denied (second c) (same x y) (both (not (second c && same x y)) _ passed.distinct).0 s (same-pos x y signless.first signless.second e);
        first-third = λ s e. third-apart s (rw (same-pos x z signless.first signless.third e) refl);
        second-third = λ s e. third-apart s (rw (same-pos y z signless.second signless.third e) (or-true (same x z)));
        no_second = λ e f. ap nat_of (second_none e f);
        no_third = λ e. ap nat_of (third-none e);
        no-turn = λ e. nought-is t (unless (turned c) (nought t) (both (third c || nought z) _ others).1 e);
      }

-- ---- gates

-- the gate's own six numbers are not refused
abbrev pub Sound : ℕ → ℕ → Gate → Type 0
Sound w b g = (fault_of w b (pos g.code) (pos g.first) (pos g.second) (pos g.third) g.turn (pos g.line)).number ≡ 0

pub sound-by : (w b : ℕ) (g : Gate) → first_number (parts (λ f. f.number) (gate_tests g.code w b (pos g.first) (pos g.second) (pos g.third) g.turn (pos g.line))) 0 ≡ 0 → Sound w b g
sound-by w b g e = fault-part (λ f. f.number) w b (pos g.code) (pos g.first) (pos g.second) (pos g.third) g.turn (pos g.line) ∙ e

unfoldable pub SoundAll : ℕ → ℕ → List Gate → Type 0
SoundAll w b [] = Unit {0}
SoundAll w b (g ∷ gs) = Sound w b g × SoundAll w b gs

pub sound-append : (w b : ℕ) (us vs : List Gate) → SoundAll w b us → SoundAll w b vs → SoundAll w b (us ++ vs)
unfolding SoundAll
sound-append w b [] vs h k = k
sound-append w b (u ∷ us) vs h k = (h.0, sound-append w b us vs h.1 k)

pub sound-parts : (w b : ℕ) (us vs : List Gate) → SoundAll w b (us ++ vs) → SoundAll w b us × SoundAll w b vs
unfolding SoundAll
sound-parts w b [] vs h = (tt, h)
sound-parts w b (u ∷ us) vs h = let r = sound-parts w b us vs h.1 in ((h.0, r.0), r.1)

pub sound-at : (w b : ℕ) (gs : List Gate) (i : ℕ) (d : Gate) → SoundAll w b gs → i < length gs → Sound w b (get_or gs i d)
unfolding SoundAll
sound-at w b [] i d h k = absurd (not-suc-le-zero k)
sound-at w b (g ∷ gs) zero d h k = h.0
sound-at w b (g ∷ gs) (suc i) d h k = sound-at w b gs i d h.1 (le_of_suc-le-suc k)

-- ---- the gates of an accepted list

pub fit_at : (l : List ℤ) (w b i : ℕ) → (fault_at l w b i).number ≡ 0 → Fit w b (gate_at l i).code (gate_at l i).first (gate_at l i).second (gate_at l i).third (gate_at l i).turn
unfolding fault_at gate_at
fit_at l w b i h = fit w b (field l i 0) (field l i 1) (field l i 2) (field l i 3) (field l i 4) (field l i 5) h

signless-at : (l : List ℤ) (w b i : ℕ) → (fault_at l w b i).number ≡ 0 → Signless (field l i 0) (field l i 1) (field l i 2) (field l i 3) (field l i 5)
unfolding fault_at
signless-at l w b i h = signless w b (field l i 0) (field l i 1) (field l i 2) (field l i 3) (field l i 4) (field l i 5) h

natural-at : (l : List ℤ) (w b i : ℕ) → (fault_at l w b i).number ≡ 0 → Natural l i
natural-at l w b i h k hk ht = go k hk ht (signless-at l w b i h)
  where
    go : (k : ℕ) → k < width → k ≢ 4 → Signless (field l i 0) (field l i 1) (field l i 2) (field l i 3) (field l i 5) → pos (nat_of (field l i k)) ≡ field l i k
    go zero hk ht s = s.code
    go (suc zero) hk ht s = s.first
    go (suc (suc zero)) hk ht s = s.second
    go (suc (suc (suc zero))) hk ht s = s.third
    go (suc (suc (suc (suc zero)))) hk ht s = absurd (ht refl)
    go (suc (suc (suc (suc (suc zero))))) hk ht s = s.line
    go (suc (suc (suc (suc (suc (suc k)))))) hk ht s = absurd (omega arith)

signless-fault : (w b : ℕ) (c x y z t s : ℤ) → Signless c x y z s
    → fault_of w b (pos (nat_of c)) (pos (nat_of x)) (pos (nat_of y)) (pos (nat_of z)) t (pos (nat_of s)) ≡ fault_of w b c x y z t s
signless-fault w b c x y z t s h = rw (h.code, h.first, h.second, h.third, h.line)

pub sound-gate : (l : List ℤ) (w b i : ℕ) → (fault_at l w b i).number ≡ 0 → Sound w b (gate_at l i)
unfolding fault_at gate_at
sound-gate l w b i h = ap (λ (f : Fault). f.number) (signless-fault w b (field l i 0) (field l i 1) (field l i 2) (field l i 3) (field l i 4) (field l i 5) (signless-at l w b i h)) ∙ h

sound-from : (l : List ℤ) (w b n i : ℕ) → ((j : ℕ) → j < n → (fault_at l w b (i + j)).number ≡ 0) → SoundAll w b (gates_from l n i)
unfolding SoundAll gates_from
sound-from l w b zero i h = tt
sound-from l w b (suc n) i h =
    let z : i + zero ≡ i = omega arith in (
      sound-gate l w b i (rw z at (h zero (suc-le-suc zero-le))),
      sound-from l w b n (suc i) (λ j hj. let e : i + suc j ≡ suc i + j = omega arith in rw e at (h (suc j) (suc-le-suc hj))),
    )

pub accepted-sound : (l : List ℤ) (w b out terms steps : ℕ) → verdict l w b out terms steps ≡ accepted → SoundAll w b (gates_of l)
unfolding gates_of
accepted-sound l w b out terms steps e =
    sound-from l w b (length l / width) zero (λ j hj. let z : zero + j ≡ j = omega arith in rw z ((accepted-is l w b out terms steps e).each j hj))

-- an accepted list is its gates, written
pub write_read : (l : List ℤ) (w b out terms steps : ℕ) → verdict l w b out terms steps ≡ accepted → numbers_of (gates_of l) ≡ l
write_read l w b out terms steps e =
    let a = accepted-is l w b out terms steps e in
    write-natural l a.even (λ i hi. natural-at l w b i (a.each i hi))

-- ---- a list of sound gates, written

fault-after : (r l : List ℤ) → length r ≡ width → (w b i : ℕ) → fault_at (r ++ l) w b (suc i) ≡ fault_at l w b i
unfolding fault_at
fault-after r l e w b i =
    let f : (k : ℕ) → field (r ++ l) (suc i) k ≡ field l i k = field-after r l e i in
    rw (f 0, f 1, f 2, f 3, f 4, f 5)

pub sound-written : (w b : ℕ) (gs : List Gate) → SoundAll w b gs → (i : ℕ) → i < length gs → (fault_at (numbers_of gs) w b i).number ≡ 0
unfolding SoundAll numbers_of fault_at
sound-written w b [] h i k = absurd (not-suc-le-zero k)
sound-written w b (g ∷ gs) h zero k = h.0
sound-written w b (g ∷ gs) h (suc i) k =
    ap (λ (f : Fault). f.number) (fault-after (numbers g) (numbers_of gs) refl w b i) ∙ sound-written w b gs h.1 i (le_of_suc-le-suc k)

pub sound-accepted : (gs : List Gate) (w b out terms steps : ℕ) → SoundAll w b gs → length gs ≤ max_gates → w ≤ max_wires → b ≤ max_bits → width * length gs ≤ out
    → term_entries (length gs) ≤ terms / term_width → step_entries (length gs) ≤ steps / step_width → verdict (numbers_of gs) w b out terms steps ≡ accepted
sound-accepted gs w b out terms steps h few hw hb room ht hs =
    let n : ℕ = length (numbers_of gs) in
    let e : n ≡ width * length gs = length-numbers gs in
    let q : n / width ≡ length gs = omega arith in
    is-accepted (numbers_of gs) w b out terms steps
    (record {
      even = omega arith;
      few = rw q few;
      wires = hw;
      bits = hb;
      room = rw e room;
      term-room = rw q ht;
      step_room = rw q hs;
      each = λ i hi. sound-written w b gs h i (omega arith);
    })
