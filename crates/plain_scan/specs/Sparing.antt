-- What the loop of the plain engine asks beside what the first engine's scan does.
use Rattle.std.specs.Prelude.{List, ◌*◌, ◌≤◌, ℤ, length}
use Rattle.rules.specs.Limits.{width, plain_gates, plain_columns, whole_gates}
use Rattle.rules.specs.Plan.{Plan}
use Rattle.scan.specs.Scanning.{gates_in}

-- the list is short, the plan narrow, and there is room for every resynthesis
pub record Sized (p : Plan) (l whole : List ℤ) : Type 0 where
  pub few : gates_in l ≤ plain_gates
  pub narrow : p.qubits ≤ plain_columns
  pub long : width * whole_gates ≤ length whole
