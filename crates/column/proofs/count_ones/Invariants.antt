-- the ones of the first i terms are counted.
use mathlib.Core.Path.{◌≡◌}
use lib.ListN.{take}
use Rattle.terms.specs.Terms.{terms_of}
use Rattle.column.proofs.Scanning.{with}
use Rattle.column.proofs.count_ones.Given as goal

abbrev pub invariant-loop-i : goal.invariant-loop-i
invariant-loop-i l = l.sum ≡ with l.column (take l.i (terms_of l.set))
