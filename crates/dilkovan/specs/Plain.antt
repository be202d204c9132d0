-- The plain engine's answer as a caller in another language gets it.
use Rattle.std.specs.Prelude.{◌≡◌, Result, List, ℕ, ℤ}
use Rattle.cnot_min.specs.Minimizing.{told}
use Rattle.cnot_min.specs.declared.Counts.{Counts}
use Rattle.gate.specs.declared.Refusal.{Refusal}
use Rattle.plain.specs.Plainly.{Plainly}
use Rattle.dilkovan.specs.Doors.{coded, stored}

-- the answer is one that `cnot_min_plain` gives: its number, its counts, and the four rooms as it leaves them
pub record ExportsPlain (l : List ℤ) (wires bits qcap tcap : ℕ) (out : List ℤ) (terms steps : List ℕ) (whole : List ℤ) (counts : List ℕ) (r : ℕ) (out' : List ℤ) (terms' steps' : List ℕ) (whole' : List ℤ) (counts' : List ℕ) : Type 0 where
  pub answer : Result Counts Refusal
  pub plainly : Plainly l wires bits qcap tcap out terms steps whole answer out' terms' steps' whole'
  pub number : r ≡ coded (told answer)
  pub counts-are : counts' ≡ stored (told answer) counts
