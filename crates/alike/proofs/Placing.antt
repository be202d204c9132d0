-- Where a refusal stands: at one of the gates that a list may have.
use mathlib.Core.Path.{◌≡◌, ap}
use mathlib.Core.Bool.{Bool, true, false, not}
use mathlib.Core.List.{List, [], ◌∷◌}
use Prim.Native.Nat.{ℕ, zero, suc, ◌+◌, ◌/◌, ◌%◌, ◌≤◌}
use native.Mathlib.Omega.{arith}
use borrow.Author.Tests.{eqb-true, ltb-false}
use lib.Dec.{eqb, ltb}
use lib.IntN.{ℤ}
use lib.ListN.{length}
use Rattle.rules.specs.Limits.{width, max_gates, max_wires, max_columns}
use Rattle.rules.specs.Refusal.{Fault, Verdict, accepted, refused, tell, first_number, ruled}
use Rattle.rules.proofs.Bits.{split}
use Rattle.rules.proofs.Accepting.{place_of}
use Rattle.std.specs.Prelude.{Err}
use Rattle.acting.specs.Alike as Question
use Rattle.compare.specs.View.{ops_of}
use Rattle.alike.specs.Asking.{asked_at, whole_asked, asked_from, asked}
use Rattle.alike.specs.Answering.{Answer, refusal, says, after, answer, told}
use Rattle.alike.specs.declared.Blame.{Blame}

ruled-place : (f : Fault) (p m : ℕ) (v : Verdict) → p ≤ m → (f.number ≡ 0 → place_of v ≤ m) → place_of (ruled f p v) ≤ m
ruled-place f p m v h g = split (eqb f.number 0) (λ e. rw e (g (eqb-true f.number 0 e))) (λ e. rw e h)

from_place : (l : List ℤ) (w n i : ℕ) → place_of (asked_from l w n i) ≤ i + n
unfolding asked_from
from_place l w zero i = omega arith
from_place l w (suc n) i = ruled-place (asked_at l w i) i (i + suc n) (asked_from l w n (suc i)) (omega arith) (λ e. omega (arith, from_place l w n (suc i)))

few-gates : (a b c : Bool) (g : ℕ) → ◌≡◌ {A = ℕ} (first_number ((a, 1) ∷ (ltb max_gates g, 2) ∷ (b, 3) ∷ (c, 17) ∷ []) 0) 0 → g ≤ max_gates
few-gates true b c g e = absurd (omega arith)
few-gates false b c g e = split (ltb max_gates g) (λ t. absurd (two (rw t at e))) (λ t. ltb-false max_gates g t)
  where
    two : ◌≡◌ {A = ℕ} 2 0 → ⊥
    two e = omega arith

asked-place : (l : List ℤ) (w : ℕ) → place_of (asked l w) ≤ max_gates
unfolding asked
asked-place l w =
    let g : ℕ = length l / width in
    ruled-place (tell (whole_asked (length l) g w) 0) zero max_gates (asked_from l w g zero) (omega arith)
    (λ e. omega (arith, from_place l w g zero, few-gates (not (eqb (length l % width) 0)) (ltb max_wires w) (ltb max_columns w) g e))

place_in : Answer → ℕ
place_in (refusal k r) = r.place
place_in (says v) = 0

after-place : (one two : Verdict) (v : Question.Verdict) (m : ℕ) → place_of one ≤ m → place_of two ≤ m → place_in (after 1 one (after 2 two (says v))) ≤ m
unfolding place_in
after-place accepted accepted v m h k = omega arith
after-place accepted (refused r) v m h k = k
after-place (refused r) two v m h k = h

pub blame-place : (first second : List ℤ) (w : ℕ) (b : Blame) → told (Err b) ≡ answer first second w → b.refusal.place ≤ max_gates
unfolding answer place_in
blame-place first second w b e = omega (arith, ap place_in e, after-place (asked first w) (asked second w) (Question.verdict w (ops_of first) (ops_of second)) max_gates (asked-place first w) (asked-place second w))
