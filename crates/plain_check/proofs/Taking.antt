-- What the plain engine accepts, the first engine accepts too.
use mathlib.Core.Path.{◌≡◌, refl, sym, ap, ◌∙◌}
use mathlib.Core.Bool.{Bool, true, false, not, ◌||◌, cond, false≢true}
use mathlib.Core.List.{List, [], ◌∷◌}
use Prim.Native.Nat.{ℕ, zero, suc, ◌*◌, ◌/◌, ◌%◌, ◌≤◌}
use native.Mathlib.Omega.{arith}
use lib.Dec.{eqb, ltb}
use lib.IntN.{ℤ}
use lib.ListN.{length}
use borrow.Author.Tests.{eqb-true, ltb-false}
use Rattle.rules.specs.Limits.{width, max_gates, max_wires, max_bits, term_width, step_width, term_entries, step_entries, plain_gates, plain_columns, whole_gates}
use Rattle.rules.specs.Refusal.{Refusal, Fault, Verdict, accepted, refused, tell, none, first_number, ruled, faults_from, verdict}
use Rattle.rules.proofs.Bits.{split}
use Rattle.rules.proofs.Accepting.{first-map, place_of}
use Rattle.gate.specs.declared.Fault.TheVariants.{Length, Gates, Limits, PlainLimits, OutRoom, WorkRooms}
use Rattle.gate.specs.Tests.{all_told}
use Rattle.plain_check.specs.Refusing.{whole_plain, plain_verdict, Taken}

not-refused : (r : Refusal) → refused r ≡ accepted → ⊥
not-refused r e = let z : ◌≡◌ {A = ℕ} 0 1 = cc in omega arith

-- what is accepted has no fault, and the rest is accepted
past : (f : Fault) (p : ℕ) (v : Verdict) → ruled f p v ≡ accepted → (f.number ≡ 0) × (v ≡ accepted)
past f p v e = split (eqb f.number 0) (λ t. (eqb-true f.number 0 t, rw t at e)) (λ t. absurd (not-refused _ (rw t at e)))

-- no test fails where the first number is 0
none_first : (t : Bool) (k n : ℕ) → cond t (suc k) n ≡ 0 → (t ≡ false) × (n ≡ 0)
none_first true k n e = absurd (omega arith)
none_first false k n e = (refl, e)

neither : (s t : Bool) → (s || t) ≡ false → (s ≡ false) × (t ≡ false)
neither false t h = (refl, h)
neither true t h = absurd (false≢true (sym h))

-- the tests of a list as a whole, in the code's faults
pub whole-told : (a b c d e f : Bool)
    → tell (first_number ((a, 1) ∷ (b, 2) ∷ (c, 3) ∷ (d, 15) ∷ (e, 4) ∷ (f, 5) ∷ []) 0) 0
    ≡ first_number (all_told ((a, Length) ∷ (b, Gates) ∷ (c, Limits) ∷ (d, PlainLimits) ∷ (e, OutRoom) ∷ (f, WorkRooms) ∷ [])) none
whole-told a b c d e f = first-map (λ (k : ℕ). tell k 0) ((a, 1) ∷ (b, 2) ∷ (c, 3) ∷ (d, 15) ∷ (e, 4) ∷ (f, 5) ∷ []) 0

-- where the list as a whole has no fault it has none for the first engine, and it is short and narrow with room for every resynthesis
module _ (l : List ℤ) (w b qubits out terms steps whole : ℕ) where
  abbrev g : ℕ
  g = length l / width

  abbrev fault : ℕ
  fault = whole_plain (length l) g w b qubits out terms steps whole

  record Roomy : Type 0 where
    pub rest : verdict l w b out terms steps ≡ faults_from l w b g zero
    pub few : g ≤ plain_gates
    pub narrow : qubits ≤ plain_columns
    pub long : width * whole_gates ≤ whole

  roomy : fault ≡ 0 → Roomy
  unfolding verdict
  roomy e =
      let p1 = none_first (not (eqb (length l % width) 0)) 0 _ e in
      let p2 = none_first (ltb max_gates g) 1 _ p1.1 in
      let p3 = none_first (ltb max_wires w || ltb max_bits b) 2 _ p2.1 in
      let p15 = none_first (ltb plain_gates g || ltb plain_columns qubits) 14 _ p3.1 in
      let p4 = none_first (ltb out (length l)) 3 _ p15.1 in
      let p5 = none_first ((ltb (terms / term_width) (term_entries g) || ltb (steps / step_width) (step_entries g)) || ltb whole (width * whole_gates)) 4 _ p4.1 in
      let n15 = neither (ltb plain_gates g) (ltb plain_columns qubits) p15.0 in
      let n5 = neither (ltb (terms / term_width) (term_entries g) || ltb (steps / step_width) (step_entries g)) (ltb whole (width * whole_gates)) p5.0 in
      record {
        rest = rw (p1.0, p2.0, p3.0, p4.0, n5.0) refl;
        few = ltb-false plain_gates g n15.0;
        narrow = ltb-false plain_columns qubits n15.1;
        long = ltb-false whole (width * whole_gates) n5.1;
      }

  pub taken : plain_verdict l w b qubits out terms steps whole ≡ accepted → Taken l w b qubits out terms steps whole
  unfolding plain_verdict
  taken e =
      let p = past (tell fault 0) zero (faults_from l w b g zero) e in
      let r = roomy p.0 in
      record { first = r.rest ∙ p.1; few = r.few; narrow = r.narrow; long = r.long }

  -- a refusal stands at the list, or where the first engine's does
  pub plain-place : place_of (plain_verdict l w b qubits out terms steps whole) ≤ place_of (verdict l w b out terms steps)
  unfolding plain_verdict
  plain-place = split (eqb fault 0) (λ t. rw t (omega (arith, ap place_of (roomy (eqb-true fault 0 t)).rest))) (λ t. rw t (omega arith))
