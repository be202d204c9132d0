-- What is written stands in the room; and what the library answers, as it is printed.
use mathlib.Core.Path.{◌≡◌, refl, sym, ap, subst}
use mathlib.Core.Bool.{Bool}
use mathlib.Core.List.{List}
use Prim.Native.Nat.{ℕ, ◌^◌, ◌≤◌, ◌<◌}
use native.Mathlib.Omega.{arith}
use lib.IntN.{ℤ}
use lib.ListN.{length}
use Rattle.text.specs.Clauses.{Writes}
use Rattle.saying.specs.Answer.{Answer, answered}
use Rattle.saying.specs.Clauses.{Says}
use Rattle.saying.specs.declared.Said.{Said}
use Rattle.saying.proofs.Saying.{says-printed}
use Rattle.acting.specs.Answer.{verdict_of}
use Rattle.acting.specs.declared.Verdict.{Verdict}
use Rattle.alike.specs.Answering as Alike
use Rattle.alike.specs.Answering.{number_of}
use Rattle.alike.specs.declared.Blame.{Blame}
use Rattle.alike.specs.declared.Which.TheVariants.{First, Second}
use Rattle.alike.proofs.Placing.{blame-place}
use Rattle.gate.specs.Verdicts.{refusal_of}
use Rattle.reading.specs.Clauses.{front_of}
use Rattle.reading.specs.declared.Wrong.{Wrong}
use Rattle.reading.specs.declared.Wrong.TheVariants.{Line, Many}
use Rattle.saying.specs.declared.Reason.TheVariants.{List as OfList}
use Rattle.saying.specs.Reasons.{reason_of}
use Rattle.std.specs.Prelude.{Some, Err}
use Rattle.pair.specs.Answer.{verdict_text, told, first_as, second_as}
use Rattle.pair.specs.Clauses.{refused_as}

-- the same answer, written otherwise
pub says-as : (a b : Answer) (room : List ℕ) (r : Said) (room' : List ℕ) → b ≡ a → Says a room r room' → Says b room r room'
says-as a b room r room' e s = subst (λ (x : Answer). Says x room r room') (sym e) s

pub says-written : (refused : Bool) (new room room' : List ℕ) (n : ℕ) → length new ≤ length room → Writes new room 0 room' n
    → Says (record { refused = refused; text = new }) room (record { length = n; refused = refused }) room'
says-written refused new room room' n h w = says-printed refused (length new) new room room' n h (record { writes = w; short = omega arith })

module _ (us vs : List ℤ) (w : ℕ) where
  module _ (b : Blame) (e : Alike.refusal (number_of b.list) (refusal_of b.refusal) ≡ Alike.answer us vs w) where
    pub told-refused : told (Alike.answer us vs w) ≡ refused_as (Some b.list) (OfList b.refusal)
    told-refused = ap told (sym e)

    pub refused-place : b.refusal.place < 2 ^ 32
    refused-place = omega (arith, blame-place us vs w b e)

  pub told-says : (v : Verdict) → Alike.says (verdict_of v) ≡ Alike.answer us vs w → told (Alike.answer us vs w) ≡ answered (verdict_text (verdict_of v))
  told-says v e = ap told (sym e)

-- a list that isn't read
pub first-wrong : (room : List ℤ) (w : Wrong) → first_as (front_of room (Err w)) ≡ refused_as (Some First) (reason_of w)
first-wrong room (Line k) = refl
first-wrong room (Many k) = refl

pub second-wrong : (wires : ℕ) (us room : List ℤ) (k : ℕ) (w : Wrong) → second_as wires us k (front_of room (Err w)) ≡ refused_as (Some Second) (reason_of w)
second-wrong wires us room k (Line n) = refl
second-wrong wires us room k (Many n) = refl
