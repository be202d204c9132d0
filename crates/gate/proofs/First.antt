-- The first of some tests that fails, and what it decides.
use mathlib.Core.Path.{◌≡◌, refl, sym}
use mathlib.Core.Bool.{Bool, false}
use mathlib.Core.List.{List, [], ◌∷◌}
use Prim.Native.Nat.{ℕ}
use native.Mathlib.Omega.{arith}
use lib.Dec.{eqb}
use Rattle.rules.specs.Refusal as Paper
use Rattle.rules.specs.Refusal.{Verdict, accepted, refused, tell, none, first_number, ruled}
use Rattle.rules.proofs.Bits.{split}
use Rattle.rules.proofs.Accepting.{first-map}
use Rattle.gate.specs.declared.Field.TheVariants.{First, Second, Third}
use Rattle.gate.specs.declared.Fault.{Fault}
use Rattle.gate.specs.declared.Fault.TheVariants.{Length, Gates, Limits, OutRoom, WorkRooms, Code, Unused, Range, Twice, Bit, PlainLimits, Opaque, CompareLimits, Line}
use Rattle.gate.specs.Faults.{tells}
use Rattle.gate.specs.Verdicts.{refusal_of}
use Rattle.gate.specs.Tests.{first, all_told, told}

-- told in document 01's numbers it is the first of the tests so told
pub first-told : (tests : List (Bool × Fault)) → told (first tests) ≡ first_number (all_told tests) none
first-told [] = refl
first-told (test ∷ others) = split test.0 (λ e. rw e) (λ e. rw e (first-told others))

-- the tests of a list as a whole
pub whole-told : (a b c d e : Bool)
    → tell (first_number ((a, 1) ∷ (b, 2) ∷ (c, 3) ∷ (d, 4) ∷ (e, 5) ∷ []) 0) 0 ≡ first_number (all_told ((a, Length) ∷ (b, Gates) ∷ (c, Limits) ∷ (d, OutRoom) ∷ (e, WorkRooms) ∷ [])) none
whole-told a b c d e = first-map (λ (k : ℕ). tell k 0) ((a, 1) ∷ (b, 2) ∷ (c, 3) ∷ (d, 4) ∷ (e, 5) ∷ []) 0

-- ---- what a fault decides

-- each fault has a number
pub numbered : (f : Fault) → eqb (tells f).number 0 ≡ false
numbered Length = refl
numbered Gates = refl
numbered Limits = refl
numbered OutRoom = refl
numbered WorkRooms = refl
numbered Code = refl
numbered Unused = refl
numbered (Range First) = refl
numbered (Range Second) = refl
numbered (Range Third) = refl
numbered Twice = refl
numbered Bit = refl
numbered PlainLimits = refl
numbered Opaque = refl
numbered CompareLimits = refl
numbered Line = refl

-- so it refuses
pub ruled-fault : (f : Fault) (g : Paper.Fault) (p : ℕ) (v : Verdict) → tells f ≡ g → refused (refusal_of (record { fault = f; place = p })) ≡ ruled g p v
ruled-fault f g p v e = rw (← e, numbered f) refl

pub ruled-none : (g : Paper.Fault) (p : ℕ) (v : Verdict) → none ≡ g → v ≡ ruled g p v
ruled-none g p v e = rw (← e) refl

not-refused : (r : Paper.Refusal) → refused r ≡ accepted → ⊥
not-refused r e = let z : ◌≡◌ {A = ℕ} 0 1 = cc in omega arith

-- what some tests decide before all else they decide before any rest
pub ruled-ok : (g : Paper.Fault) (p : ℕ) (v : Verdict) → accepted ≡ ruled g p accepted → v ≡ ruled g p v
ruled-ok g p v e = split (eqb g.number 0) (λ t. rw t refl) (λ t. absurd (not-refused _ (sym (rw t at e))))

pub ruled-err : (g : Paper.Fault) (p : ℕ) (v : Verdict) (r : Paper.Refusal) → refused r ≡ ruled g p accepted → refused r ≡ ruled g p v
ruled-err g p v r e = split (eqb g.number 0) (λ t. absurd (not-refused r (rw t at e))) (λ t. rw t (rw t at e))
