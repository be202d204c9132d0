-- A refusal's place fits 32 bits; and list, number, place and field are read back from the one number.
use mathlib.Core.Path.{◌≡◌}
use mathlib.Core.List.{List}
use Prim.Native.Nat.{ℕ, ◌/◌, ◌%◌, ◌^◌, ◌<◌}
use native.Mathlib.Omega.{arith}
use lib.IntN.{ℤ}
use Rattle.rules.specs.Refusal.{Refusal}
use Rattle.alike.specs.Answering.{refusal, Answers}
use Rattle.std.specs.Prelude.{Result, Ok, Err}
use Rattle.acting.specs.declared.Verdict.{Verdict}
use Rattle.alike.specs.declared.Blame.{Blame}
use Rattle.alike.proofs.Placing.{blame-place}
use Rattle.dilkovan.specs.Pairs.{coded_pair, Blamed}

pub blamed-fits : (first second : List ℤ) (w : ℕ) (a : Result Verdict Blame) → Answers first second w a → Blamed a
unfolding Blamed
blamed-fits first second w (Err b) h = omega (arith, blame-place first second w b h.answered)
blamed-fits first second w (Ok v) h = tt

-- what a caller reads back; a refusal's list isn't 0, so that no refusal is one of 0 to 3
pub decoded-pair : (which : ℕ) (r : Refusal) → r.field < 2 ^ 8 → r.number < 2 ^ 16 → r.place < 2 ^ 32
    → let k = coded_pair (refusal which r) in (k / 2 ^ 56 ≡ which) × ((k / 2 ^ 48 % 2 ^ 8 ≡ r.field) × ((k / 2 ^ 32 % 2 ^ 16 ≡ r.number) × (k % 2 ^ 32 ≡ r.place)))
decoded-pair which r f n p = (omega arith, (omega arith, (omega arith, omega arith)))
