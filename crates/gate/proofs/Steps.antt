-- The gates of a list one by one, by how many there are and the place that is next.
use mathlib.Core.Path.{◌≡◌, sym}
use mathlib.Core.List.{List}
use Prim.Native.Nat.{ℕ, suc, ◌+◌, ◌-◌, ◌≤◌, ◌<◌}
use native.Mathlib.Numerals.{add-one}
use native.Mathlib.Omega.{arith}
use lib.IntN.{ℤ}
use Rattle.rules.specs.Refusal.{accepted, refused, none, fault_at, faults_from}
use Rattle.gate.specs.declared.Fault.{Fault}
use Rattle.gate.specs.Faults.{tells}
use Rattle.gate.specs.Verdicts.{refusal_of}
use Rattle.gate.proofs.First.{ruled-fault, ruled-none}

module _ (l : List ℤ) (w b n i : ℕ) where
  pub stops : (f : Fault) → i < n → tells f ≡ fault_at l w b i → faults_from l w b (n - i) i ≡ refused (refusal_of (record { fault = f; place = i }))
  unfolding faults_from
  stops f h e =
      let k : n - i ≡ suc (n - (i + 1)) = omega arith in
      rw k (sym (ruled-fault f (fault_at l w b i) i (faults_from l w b (n - (i + 1)) (suc i)) e))

  pub goes_on : i < n → none ≡ fault_at l w b i → faults_from l w b (n - i) i ≡ faults_from l w b (n - (i + 1)) (i + 1)
  unfolding faults_from
  goes_on h e =
      let k : n - i ≡ suc (n - (i + 1)) = omega arith in
      rw (k, add-one i) (sym (ruled-none (fault_at l w b i) i (faults_from l w b (n - suc i) (suc i)) e))

  pub ends : n ≤ i → faults_from l w b (n - i) i ≡ accepted
  unfolding faults_from
  ends h =
      let k : n - i ≡ 0 = omega arith in
      rw k
