-- `say` of `trace::Pieces` meets its contract: the lines so far, and those of the pieces that are left.
use mathlib.Core.Path.{◌≡◌}
use mathlib.Core.List.{List}
use Prim.Native.Nat.{ℕ, ◌-◌, ◌*◌, ◌≤◌}
use lib.ListN.{length}
use Rattle.rules.specs.Gate.{Gate}
use Rattle.rules.specs.Plan.{Plan, plan_of}
use Rattle.rules.specs.Scan.{pieces_of}
use Rattle.rules.specs.Pass.{writer_of}
use Rattle.text.proofs.Begun.{Begun}
use Rattle.scan.specs.Scanning.{rest}
use Rattle.origin.specs.Origins.{origins, origins_text}
use Rattle.origin.specs.Clauses.{origin_size}
use Rattle.trace.proofs.PiecesProgram.say.Given as goal

-- what is told of some gates
abbrev pub told : Plan → List Gate → List ℕ
told p gs = origins_text (origins (writer_of p) (pieces_of p gs))

abbrev pub invariant-loop-at : goal.invariant-loop-at
invariant-loop-at l = (l.at ≤ l.n) × (length l.out ≡ length l.initial.out) × Begun (origin_size * l.at) (told (plan_of l.head.qubits l.head.terms) (rest l.numbers l.at)) (told (plan_of l.head.qubits l.head.terms) (rest l.numbers 0)) l.initial.out 0 l.out l.next

abbrev pub decreases-loop-at : goal.decreases-loop-at
decreases-loop-at l = l.n - l.at
