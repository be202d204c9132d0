-- `gate::first_of` meets its contract. The loop's invariant: the tests that are left decide what all do.
use mathlib.Core.Path.{◌≡◌}
use lib.ListN.{drop}
use Rattle.gate.specs.Tests.{first}
use Rattle.gate.proofs.first_of.Given as goal

abbrev pub invariant-loop-fails : goal.invariant-loop-fails
invariant-loop-fails g l = first l.tests ≡ first (drop l.fails-index l.tests)
