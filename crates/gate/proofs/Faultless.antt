-- What is wrong with a gate: the code's tests are document 01's, and a plain gate has no fault.
use mathlib.Core.Path.{◌≡◌, refl, sym, ap, ◌∙◌}
use mathlib.Core.Bool.{Bool, true, false, not, ◌&&◌, ◌||◌, false≢true}
use mathlib.Core.List.{[], ◌∷◌}
use Prim.Native.Nat.{ℕ, ◌≤◌}
use native.Mathlib.Omega.{arith}
use borrow.Author.Tests.{le-leb, lt-leb, leb-true, ne_eqb, not-true}
use lib.Dec.{eqb, leb}
use lib.IntN.{ℤ}
use Rattle.rules.specs.Limits.{last_code}
use Rattle.rules.specs.Gate.{from, second, bitted, third, code_x, code_rz, code_cnot, code_cz}
use Rattle.rules.specs.Numbers.{inside, same, negative}
use Rattle.rules.specs.Refusal.{none, first_number, nought, unused, apart, gate_tests}
use Rattle.rules.proofs.Bits.{split, and_left, and_right}
use Rattle.std.specs.Prelude.{Option}
use Rattle.gate.specs.declared.Fields.{Fields}
use Rattle.gate.specs.declared.Field.TheVariants.{First, Second, Third}
use Rattle.gate.specs.declared.Fault.{Fault}
use Rattle.gate.specs.declared.Fault.TheVariants.{Code, Unused, Range, Twice, Bit, Line}
use Rattle.gate.specs.Fields.{fault_of}
use Rattle.gate.specs.Tests.{first, told}
use Rattle.gate.specs.Plain.{single, paired, plain}
use Rattle.gate.proofs.First.{first-told}

or_right : (a b : Bool) → a ≡ false → (a || b) ≡ true → b ≡ true
or_right true b e h = absurd (false≢true (sym e))
or_right false b e h = h

module _ (c w b : ℕ) (x y z t s : ℤ) (first : inside x w ≡ true) (third : nought z ≡ true) (line : negative s ≡ false) where
  single-faultless : single c y t ≡ true → first_number (gate_tests c w b x y z t s) none ≡ none
  single-faultless h =
      let f : from code_x code_rz c ≡ true = and_left (from code_x code_rz c) (nought y && (eqb c code_rz || nought t)) h in
      let r : (nought y && (eqb c code_rz || nought t)) ≡ true = and_right (from code_x code_rz c) (nought y && (eqb c code_rz || nought t)) h in
      let second : nought y ≡ true = and_left (nought y) (eqb c code_rz || nought t) r in
      let turn : (eqb c code_rz || nought t) ≡ true = and_right (nought y) (eqb c code_rz || nought t) r in
      small (leb-true 1 c (and_left (leb 1 c) (leb c 7) f)) (leb-true c 7 (and_right (leb 1 c) (leb c 7) f)) second turn
    where
      small : 1 ≤ c → c ≤ 7 → nought y ≡ true → (eqb c code_rz || nought t) ≡ true → first_number (gate_tests c w b x y z t s) none ≡ none
      small low high second turn =
          rw (le-leb 1 c low, le-leb c 27 (omega arith), lt-leb 8 c (omega arith), lt-leb 17 c (omega arith), lt-leb 24 c (omega arith), lt-leb 14 c (omega arith), lt-leb 20 c (omega arith), ne_eqb c 27 (λ q. omega arith), first, third, second, line)
          (split (eqb c 7) (λ e. rw e) (λ e. rw (e, or_right (eqb c 7) (nought t) e turn)))

  paired-faultless : paired c w x y t ≡ true → first_number (gate_tests c w b x y z t s) none ≡ none
  paired-faultless h =
      let f : from code_cnot code_cz c ≡ true = and_left (from code_cnot code_cz c) (inside y w && (not (same x y) && nought t)) h in
      let r : (inside y w && (not (same x y) && nought t)) ≡ true = and_right (from code_cnot code_cz c) (inside y w && (not (same x y) && nought t)) h in
      let second : inside y w ≡ true = and_left (inside y w) (not (same x y) && nought t) r in
      let rest : (not (same x y) && nought t) ≡ true = and_right (inside y w) (not (same x y) && nought t) r in
      large (leb-true 8 c (and_left (leb 8 c) (leb c 9) f)) (leb-true c 9 (and_right (leb 8 c) (leb c 9) f)) second
      (not-true (same x y) (and_left (not (same x y)) (nought t) rest)) (and_right (not (same x y)) (nought t) rest)
    where
      large : 8 ≤ c → c ≤ 9 → inside y w ≡ true → same x y ≡ false → nought t ≡ true → first_number (gate_tests c w b x y z t s) none ≡ none
      large low high second other turn =
          rw (le-leb 1 c (omega arith), le-leb c 27 (omega arith), le-leb 8 c low, le-leb c 9 high, lt-leb 24 c (omega arith), ne_eqb c 27 (λ q. omega arith), ne_eqb c 7 (λ q. omega arith), lt-leb 14 c (omega arith), lt-leb 20 c (omega arith), first, second, other, third, turn, line)

pub plain-faultless : (c w b : ℕ) (x y z t s : ℤ) → plain c w x y z t s ≡ true → first_number (gate_tests c w b x y z t s) none ≡ none
unfolding plain
plain-faultless c w b x y z t s h =
    let rest : Bool = nought z && not (negative s) in
    let one : (single c y t || paired c w x y t) ≡ true = and_left (single c y t || paired c w x y t) (inside x w && rest) h in
    let r : (inside x w && rest) ≡ true = and_right (single c y t || paired c w x y t) (inside x w && rest) h in
    let first : inside x w ≡ true = and_left (inside x w) rest r in
    let q : rest ≡ true = and_right (inside x w) rest r in
    let third : nought z ≡ true = and_left (nought z) (not (negative s)) q in
    let line : negative s ≡ false = not-true (negative s) (and_right (nought z) (not (negative s)) q) in
    split (single c y t)
    (λ e. single-faultless c w b x y z t s first third line e)
    (λ e. paired-faultless c w b x y z t s first third line (or_right (single c y t) (paired c w x y t) e one))

-- ---- the tests as the code makes them

pub fault-by : (f : Fields) (w b : ℕ) {coded free one two wire bit inner three last distinct below : Bool}
    → coded ≡ from 1 last_code f.code → free ≡ unused f.code f.second f.third f.turn → one ≡ inside f.first w → two ≡ second f.code → wire ≡ inside f.second w
    → bit ≡ bitted f.code → inner ≡ inside f.second b → three ≡ third f.code → last ≡ inside f.third w → distinct ≡ apart f.code f.first f.second f.third → below ≡ negative f.line
    → (r : Option Fault)
    → r ≡ first ((not coded, Code) ∷ (not free, Unused) ∷ (not one, Range First) ∷ (two && not wire, Range Second) ∷ (bit && not inner, Bit) ∷ (three && not last, Range Third) ∷ (not distinct, Twice) ∷ (below, Line) ∷ [])
    → told r ≡ fault_of f w b
fault-by f w b {coded} {free} {one} {two} {wire} {bit} {inner} {three} {last} {distinct} {below} e1 e2 e3 e4 e5 e6 e7 e8 e9 e10 e11 r e =
    ap told e
    ∙ first-told ((not coded, Code) ∷ (not free, Unused) ∷ (not one, Range First) ∷ (two && not wire, Range Second) ∷ (bit && not inner, Bit) ∷ (three && not last, Range Third) ∷ (not distinct, Twice) ∷ (below, Line) ∷ [])
    ∙ rw (e1, e2, e3, e4, e5, e6, e7, e8, e9, e10, e11) refl
