-- A refusal's place fits 32 bits; and number, place and field are read back from the one number.
use mathlib.Core.Path.{◌≡◌, refl, ap}
use mathlib.Core.List.{List}
use Prim.Native.Nat.{ℕ, ◌/◌, ◌%◌, ◌^◌, ◌≤◌, ◌<◌}
use native.Mathlib.Omega.{arith}
use lib.IntN.{ℤ}
use lib.ListN.{length}
use Rattle.rules.specs.Limits.{max_gates}
use Rattle.rules.specs.Gate.{Gate}
use Rattle.rules.specs.Numbers.{gates_of}
use Rattle.rules.specs.Refusal.{Refusal, Verdict, accepted, refused, verdict}
use Rattle.rules.specs.Scan as Scan
use Rattle.rules.specs.Pass as Paper
use Rattle.rules.proofs.Accepting.{place_of, verdict-few}
use Rattle.cnot_min.specs.Minimizing.{Minimizes}
use Rattle.std.specs.Prelude.{Result, Ok, Err}
use Rattle.gate.specs.declared.Refusal as Code
use Rattle.cnot_min.specs.declared.Counts.{Counts}
use Rattle.dilkovan.specs.Doors.{coded, Placed}

unfoldable pub place_in : Paper.Answer → ℕ
place_in (Paper.refusal r) = r.place
place_in (Paper.done c) = 0

place_is : (v : Verdict) (gs : List Gate) (new : Scan.Result) (out : List ℤ) (terms steps : List ℕ) → place_in (Paper.after_as v gs new out terms steps).answer ≡ place_of v
unfolding place_in
place_is accepted gs new out terms steps = refl
place_is (refused r) gs new out terms steps = refl

after-place : (l : List ℤ) (w b q t : ℕ) (out : List ℤ) (terms steps : List ℕ) → place_in (Paper.after l w b q t out terms steps).answer ≤ max_gates
unfolding Paper.after
after-place l w b q t out terms steps = omega (arith, place_is (verdict l w b (length out) (length terms) (length steps)) (gates_of l) (Paper.pass q t (gates_of l)) out terms steps, verdict-few l w b (length out) (length terms) (length steps))

pub placed : (l : List ℤ) (w b q t : ℕ) (out : List ℤ) (terms steps : List ℕ) (a : Result Counts Code.Refusal) (out' : List ℤ) (terms' steps' : List ℕ)
    → Minimizes l w b q t out terms steps a out' terms' steps' → Placed a
unfolding Placed place_in
placed l w b q t out terms steps (Err r) out' terms' steps' m = omega (arith, ap place_in m.answer, after-place l w b q t out terms steps)
placed l w b q t out terms steps (Ok c) out' terms' steps' m = tt

-- what a caller reads back from the one number
pub decoded : (r : Refusal) → r.number < 2 ^ 16 → r.place < 2 ^ 32
    → let k = coded (Paper.refusal r) in (k / 2 ^ 48 ≡ r.field) × ((k / 2 ^ 32 % 2 ^ 16 ≡ r.number) × (k % 2 ^ 32 ≡ r.place))
decoded r n p = (omega arith, (omega arith, omega arith))
