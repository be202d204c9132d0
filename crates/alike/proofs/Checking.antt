-- The check of one list: what a gate that passes it has, and the gates one by one.
use mathlib.Core.Path.{◌≡◌, refl, sym, ap, ◌∙◌}
use mathlib.Core.Bool.{Bool, true, false, not, ◌&&◌, ◌||◌, cond}
use mathlib.Core.List.{List, [], ◌∷◌}
use Prim.Native.Nat.{ℕ, zero, suc, ◌+◌, ◌-◌, ◌/◌, ◌%◌, ◌≤◌, ◌<◌}
use native.Mathlib.Nat.{not-suc-le-zero, le_of_suc-le-suc}
use native.Mathlib.Numerals.{add-one}
use native.Mathlib.Omega.{arith}
use borrow.Author.Tests.{eqb-true, eq-eqb, leb-true, ltb-false, not-false}
use lib.Dec.{eqb, leb, ltb}
use lib.IntN.{ℤ}
use lib.ListN.{length}
use Rattle.rules.specs.Limits.{width, last_code, last_fragment, max_gates, max_wires, max_columns}
use Rattle.rules.specs.Gate.{from, second, bitted, third, fragment}
use Rattle.rules.specs.Numbers.{nat_of, inside, negative, field, gate_at}
use Rattle.rules.specs.Refusal.{Refusal, Fault, Verdict, accepted, refused, tell, none, first_number, ruled, unused, apart, fault_of, fault_at}
use Rattle.rules.proofs.Bits.{split, and_right}
use Rattle.rules.proofs.Accepting.{first-map}
use Rattle.gate.specs.declared.Fault as Code
use Rattle.gate.specs.declared.Fault.TheVariants.{Length, Gates, Limits, CompareLimits}
use Rattle.gate.specs.Faults.{tells}
use Rattle.gate.specs.Verdicts.{refusal_of}
use Rattle.gate.specs.Tests.{all_told}
use Rattle.gate.proofs.First.{ruled-fault, ruled-none}
use Rattle.compare.specs.View.{Fine}
use Rattle.alike.specs.Asking.{passes_nine, asked_at, whole_asked, asked_from, asked}

-- ---- one gate

-- the fault, as the code finds it: 16 where no test up to 9 fails and the code is opaque
abbrev pub settled : Bool → Fault → Fault
settled o f = cond (passes_nine f.number && o) (tell 16 0) f

-- seven tests, then those of any list; and those of one of two
abbrev others : Bool → Bool → Bool → Bool → Bool → Bool → Bool → List (Bool × Fault) → List (Bool × Fault)
others b1 b2 b3 b4 b5 b6 b7 rest =
    (b1, tell 6 0)
    ∷ (b2, tell 7 0)
    ∷ (b3, tell 8 1)
    ∷ (b4, tell 8 2)
    ∷ (b5, tell 14 2)
    ∷ (b6, tell 8 3)
    ∷ (b7, tell 9 0)
    ∷ rest

abbrev any : Bool → Bool → Bool → Bool → Bool → Bool → Bool → Bool → Fault
any b1 b2 b3 b4 b5 b6 b7 g = first_number (others b1 b2 b3 b4 b5 b6 b7 ((g, tell 18 0) ∷ [])) none

abbrev paired : Bool → Bool → Bool → Bool → Bool → Bool → Bool → Bool → Bool → Fault
paired b1 b2 b3 b4 b5 b6 b7 o g = first_number (others b1 b2 b3 b4 b5 b6 b7 ((false, tell 18 0) ∷ (o, tell 16 0) ∷ (g, tell 18 0) ∷ [])) none

seven : (b1 b2 b3 b4 b5 b6 b7 o g : Bool) → paired b1 b2 b3 b4 b5 b6 b7 o g ≡ settled o (any b1 b2 b3 b4 b5 b6 b7 g)
seven true b2 b3 b4 b5 b6 b7 o g = refl
seven false true b3 b4 b5 b6 b7 o g = refl
seven false false true b4 b5 b6 b7 o g = refl
seven false false false true b5 b6 b7 o g = refl
seven false false false false true b6 b7 o g = refl
seven false false false false false true b7 o g = refl
seven false false false false false false true o g = refl
seven false false false false false false false true true = refl
seven false false false false false false false true false = refl
seven false false false false false false false false true = refl
seven false false false false false false false false false = refl

pub asked_is : (l : List ℤ) (w i : ℕ) → asked_at l w i ≡ settled (not (fragment (nat_of (field l i 0)))) (fault_at l w zero i)
unfolding asked_at fault_at fault_of
asked_is l w i =
    let c : ℕ = nat_of (field l i 0) in
    let x : ℤ = field l i 1 in
    let y : ℤ = field l i 2 in
    let z : ℤ = field l i 3 in
    let t : ℤ = field l i 4 in
    seven (not (from 1 last_code c)) (not (unused c y z t)) (not (inside x w)) (second c && not (inside y w)) (bitted c && not (inside y zero)) (third c && not (inside z w)) (not (apart c x y z)) (not (fragment c)) (negative (field l i 5))

-- of what the code reads
pub asked_by : (l : List ℤ) (w i c : ℕ) (f : Fault) (passes o : Bool) → c ≡ nat_of (field l i 0) → f ≡ fault_at l w zero i → passes ≡ passes_nine f.number
    → (passes && not (leb 1 c && leb c 9)) ≡ o → cond o (tell 16 0) f ≡ asked_at l w i
asked_by l w i c f passes o ec ef ep eo = rw (← eo, ep, ec, ef) (sym (asked_is l w i))

-- what passes is of the fragment, and any list may have it
plain-first : (o : Bool) (f : Fault) → (settled o f).number ≡ 0 → (f.number ≡ 0) × (o ≡ false)
plain-first true f e =
    split (eqb f.number 0) (λ t. absurd (sixteen (rw t at e)))
    (λ t. split (eqb f.number 18) (λ u. absurd (sixteen (rw (t, u) at e))) (λ u. absurd (mathlib.Core.Bool.false≢true (sym t ∙ eq-eqb f.number 0 (rw (t, u) at e)))))
  where
    sixteen : ◌≡◌ {A = ℕ} 16 0 → ⊥
    sixteen e = omega arith
plain-first false f e = (split (eqb f.number 0) (λ t. eqb-true f.number 0 t) (λ t. split (eqb f.number 18) (λ u. rw (t, u) at e) (λ u. rw (t, u) at e)), refl)

pub asked-plain : (l : List ℤ) (w i : ℕ) → (asked_at l w i).number ≡ 0 → ((fault_at l w zero i).number ≡ 0) × ((gate_at l i).code ≤ last_fragment)
unfolding gate_at
asked-plain l w i e =
    let c : ℕ = nat_of (field l i 0) in
    let p = plain-first (not (fragment c)) (fault_at l w zero i) (ap (λ (f : Fault). f.number) (sym (asked_is l w i)) ∙ e) in
    (p.0, leb-true c last_fragment (and_right (leb 1 c) (leb c last_fragment) (not-false (fragment c) p.1)))

-- ---- the gates one by one

module _ (l : List ℤ) (w n i : ℕ) where
  pub stops : (f : Code.Fault) → i < n → tells f ≡ asked_at l w i → asked_from l w (n - i) i ≡ refused (refusal_of (record { fault = f; place = i }))
  unfolding asked_from
  stops f h e =
      let k : n - i ≡ suc (n - (i + 1)) = omega arith in
      rw k (sym (ruled-fault f (asked_at l w i) i (asked_from l w (n - (i + 1)) (suc i)) e))

  pub goes_on : i < n → none ≡ asked_at l w i → asked_from l w (n - i) i ≡ asked_from l w (n - (i + 1)) (i + 1)
  unfolding asked_from
  goes_on h e =
      let k : n - i ≡ suc (n - (i + 1)) = omega arith in
      rw (k, add-one i) (sym (ruled-none (asked_at l w i) i (asked_from l w (n - suc i) (suc i)) e))

  pub ends : n ≤ i → asked_from l w (n - i) i ≡ accepted
  unfolding asked_from
  ends h = let k : n - i ≡ 0 = omega arith in rw k

-- the tests of a list as a whole, in the code's faults
pub whole-told : (a b c d : Bool)
    → tell (first_number ((a, 1) ∷ (b, 2) ∷ (c, 3) ∷ (d, 17) ∷ []) 0) 0 ≡ first_number (all_told ((a, Length) ∷ (b, Gates) ∷ (c, Limits) ∷ (d, CompareLimits) ∷ [])) none
whole-told a b c d = first-map (λ (k : ℕ). tell k 0) ((a, 1) ∷ (b, 2) ∷ (c, 3) ∷ (d, 17) ∷ []) 0

-- ---- a list that is accepted

not-refused : (r : Refusal) → refused r ≡ accepted → ⊥
not-refused r e = let z : ◌≡◌ {A = ℕ} 0 1 = cc in omega arith

past : (f : Fault) (p : ℕ) (v : Verdict) → ruled f p v ≡ accepted → (f.number ≡ 0) × (v ≡ accepted)
past f p v e = split (eqb f.number 0) (λ t. (eqb-true f.number 0 t, rw t at e)) (λ t. absurd (not-refused _ (rw t at e)))

each-asked : (l : List ℤ) (w n i : ℕ) → asked_from l w n i ≡ accepted → (j : ℕ) → j < n → (asked_at l w (i + j)).number ≡ 0
unfolding asked_from
each-asked l w zero i e j h = absurd (not-suc-le-zero h)
each-asked l w (suc n) i e zero h = let z : i + zero ≡ i = omega arith in rw z (past (asked_at l w i) i (asked_from l w n (suc i)) e).0
each-asked l w (suc n) i e (suc j) h =
    let z : i + suc j ≡ suc i + j = omega arith in
    rw z (each-asked l w n (suc i) (past (asked_at l w i) i (asked_from l w n (suc i)) e).1 j (le_of_suc-le-suc h))

few-wires : (a b : Bool) (w : ℕ) → ◌≡◌ {A = ℕ} (first_number ((a, 1) ∷ (b, 2) ∷ (ltb max_wires w, 3) ∷ (ltb max_columns w, 17) ∷ []) 0) 0 → w ≤ max_columns
few-wires true b w e = absurd (omega arith)
few-wires false true w e = absurd (omega arith)
few-wires false false w e =
    split (ltb max_wires w) (λ t. absurd (three (rw t at e)))
    (λ t. split (ltb max_columns w) (λ u. absurd (seventeen (rw (t, u) at e))) (λ u. ltb-false max_columns w u))
  where
    three : ◌≡◌ {A = ℕ} 3 0 → ⊥
    three e = omega arith

    seventeen : ◌≡◌ {A = ℕ} 17 0 → ⊥
    seventeen e = omega arith

pub asked-fine : (l : List ℤ) (w : ℕ) → asked l w ≡ accepted → Fine l w × (w ≤ max_columns)
unfolding asked
asked-fine l w e =
    let g : ℕ = length l / width in
    let p = past (tell (whole_asked (length l) g w) 0) zero (asked_from l w g zero) e in
    let each : ((i : ℕ) → i < g → (asked_at l w i).number ≡ 0) = λ i h. let z : zero + i ≡ i = omega arith in rw z at (each-asked l w g zero p.1 i h) in
    (record { sound = λ i h. (asked-plain l w i (each i h)).0; plain = λ i h. (asked-plain l w i (each i h)).1 }, few-wires (not (eqb (length l % width) 0)) (ltb max_gates g) w p.0)
