-- The place of a refusal of the plain engine fits 32 bits.
use mathlib.Core.Path.{◌≡◌, refl, ap}
use mathlib.Core.List.{List}
use Prim.Native.Nat.{ℕ, ◌≤◌}
use native.Mathlib.Omega.{arith}
use lib.IntN.{ℤ}
use lib.ListN.{length}
use Rattle.rules.specs.Limits.{max_gates, clamp_qubits}
use Rattle.rules.specs.Refusal.{Verdict, accepted, refused}
use Rattle.rules.proofs.Accepting.{place_of, verdict-few}
use Rattle.std.specs.Prelude.{Result, Ok, Err}
use Rattle.gate.specs.declared.Refusal.{Refusal}
use Rattle.cnot_min.specs.declared.Counts.{Counts}
use Rattle.plain_check.specs.Refusing.{plain_verdict}
use Rattle.plain_check.proofs.Taking.{plain-place}
use Rattle.plain.specs.Plainly.{plain_as, plain_after, Plainly}
use Rattle.dilkovan.specs.Doors.{Placed}
use Rattle.dilkovan.proofs.Answers.{place_in}

place_is : (v : Verdict) (l : List ℤ) (q t : ℕ) (out : List ℤ) (terms steps : List ℕ) (whole : List ℤ) → place_in (plain_as v l q t out terms steps whole).first.answer ≡ place_of v
unfolding place_in
place_is accepted l q t out terms steps whole = refl
place_is (refused r) l q t out terms steps whole = refl

module _ (l : List ℤ) (w b q t : ℕ) (out : List ℤ) (terms steps : List ℕ) (whole : List ℤ) where
  after-place : place_in (plain_after l w b q t out terms steps whole).first.answer ≤ max_gates
  unfolding plain_after
  after-place =
      omega (
        arith,
        place_is (plain_verdict l w b (clamp_qubits q) (length out) (length terms) (length steps) (length whole)) l q t out terms steps whole,
        plain-place l w b (clamp_qubits q) (length out) (length terms) (length steps) (length whole),
        verdict-few l w b (length out) (length terms) (length steps),
      )

  pub placed : (a : Result Counts Refusal) (out' : List ℤ) (terms' steps' : List ℕ) (whole' : List ℤ) → Plainly l w b q t out terms steps whole a out' terms' steps' whole' → Placed a
  unfolding Placed place_in
  placed (Err r) out' terms' steps' whole' m = omega (arith, ap place_in m.answer, after-place)
  placed (Ok c) out' terms' steps' whole' m = tt
