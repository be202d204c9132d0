-- 13, or the laboratories' text, by the first gate that isn't spelled.
use mathlib.Core.Path.{◌≡◌, ap, ◌∙◌}
use mathlib.Core.List.{List}
use Prim.Native.Nat.{ℕ, zero, suc, ◌+◌, ◌/◌, ◌≤◌, ◌<◌}
use native.Mathlib.Omega.{arith}
use borrow.Author.Tests.{le-ltb, lt-ltb}
use lib.IntN.{ℤ}
use lib.ListN.{length}
use Rattle.rules.specs.Limits.{width}
use Rattle.rules.specs.Numbers.{nat_of, field}
use Rattle.rules.proofs.Bits.{split}
use Rattle.spelling.specs.Texts.{Head}
use Rattle.rules.specs.Refusal.{accepted, refused}
use Rattle.rules.proofs.Accepting.{place_of}
use Rattle.gate.specs.declared.Refusal.{Refusal}
use Rattle.gate.specs.Verdicts.{refusal_of}
use Rattle.saying.specs.Answer.{answered, refusal, exact, judged}
use Rattle.saying.specs.declared.Reason.TheVariants.{Unspelled as Unsaid, List as OfList}
use Rattle.saying.specs.Clauses.{Few}
use Rattle.saying.proofs.Checking.{exact-place, exact-fits}
use Rattle.qasm.specs.Table.{spelled}
use Rattle.qasm.specs.Export.{qasm_text, unspelled_from, unspelled}
use Rattle.export.specs.Answer.{translated}
use Rattle.export.specs.Clauses.{Spelled, Unspelled}

from-most : (l : List ℤ) (n i : ℕ) → unspelled_from l n i ≤ i + n
unfolding unspelled_from
from-most l zero i = omega arith
from-most l (suc n) i = split (spelled (nat_of (field l i 0))) (λ e. rw e (omega (arith, from-most l n (suc i)))) (λ e. rw e (omega arith))

pub unspelled-most : (l : List ℤ) → unspelled l ≤ length l / width
unfolding unspelled
unspelled-most l = omega (arith, from-most l (length l / width) zero)

pub not-spelled : (h : Head) (l : List ℤ) → unspelled l < length l / width → translated h l ≡ refusal 13 (unspelled l) 0
unfolding translated
not-spelled h l k = rw (lt-ltb (unspelled l) (length l / width) k)

pub all-spelled : (h : Head) (l : List ℤ) → length l / width ≤ unspelled l → translated h l ≡ answered (qasm_text h.wires h.bits l)
unfolding translated
all-spelled h l k = rw (le-ltb (unspelled l) (length l / width) k)

-- ---- a list that was read

module _ (h : Head) (l : List ℤ) (few : Few l) where
  pub refused-list : (r : Refusal) → exact h l ≡ refused (refusal_of r) → Unspelled h l (OfList r)
  refused-list r e = record { answer = ap (judged (translated h l)) e; small = omega (arith, ap place_of e, exact-place h l, few.few) }

  pub unspelled-list : exact h l ≡ accepted → unspelled l < length l / width → Unspelled h l (Unsaid (unspelled l))
  unspelled-list e k = record { answer = ap (judged (translated h l)) e ∙ not-spelled h l k; small = omega (arith, few.few) }

  pub spelled-list : exact h l ≡ accepted → length l / width ≤ unspelled l → Spelled h l
  spelled-list e k = let a = exact-fits h l e in record { sized = record { wires = a.wires; bits = a.bits }; answer = ap (judged (translated h l)) e ∙ all-spelled h l k }
