-- the OR so far, with that from i on, is that of the whole set.
use mathlib.Core.Path.{◌≡◌}
use mathlib.Core.Bool.{◌||◌}
use Prim.Native.Nat.{ℕ}
use lib.ListN.{drop}
use Rattle.rules.specs.Bit.{bit}
use Rattle.rules.specs.Shortcuts.{any}
use Rattle.parity.specs.View.{val}
use Rattle.terms.specs.Terms.{terms_of}
use Rattle.column.proofs.seen.Given as goal

abbrev pub invariant-loop-i : goal.invariant-loop-i
invariant-loop-i l = (j : ℕ) → any j (terms_of l.set) ≡ (bit (val l.met) j || any j (drop l.i (terms_of l.set)))
