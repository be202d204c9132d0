-- is `Marks`: what the four marks say of each column after i terms.
use Prim.Native.Nat.{ℕ}
use lib.ListN.{take}
use Rattle.parity.specs.View.{val}
use Rattle.terms.specs.Terms.{terms_of}
use Rattle.column.proofs.Marking.{Marks}
use Rattle.column.proofs.survey.Given as goal

abbrev pub invariant-loop-i : goal.invariant-loop-i
invariant-loop-i l = (j : ℕ) → Marks (val l.cands) j (take l.i (terms_of l.set)) (val l.some) (val l.two) (val l.every) (val l.most)
