-- The sum so far, with the turns from i on, is the whole sum.
use mathlib.Core.Path.{◌≡◌}
use Prim.Native.Nat.{◌+◌, ◌%◌, ◌<◌}
use lib.ListN.{drop}
use Rattle.rules.specs.Walk.{turns}
use Rattle.terms.specs.Terms.{terms_of}
use Rattle.walk.proofs.sum_turns.Given as goal

abbrev pub invariant-loop-i : goal.invariant-loop-i
invariant-loop-i l = record {
  small : l.sum < 8;
  same : (l.sum + turns (drop l.i (terms_of l.set))) % 8 ≡ turns (terms_of l.set) % 8;
}
