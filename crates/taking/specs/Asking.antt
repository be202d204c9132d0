-- What the test of a gate asks, and the parts of its answer.
use Rattle.std.specs.Prelude.{◌≡◌, cond, List, ℕ, suc, ◌-◌, ◌^◌, ◌≤◌, ◌<◌, length, get_or, eqb, leb}
use Rattle.rules.specs.Limits.{max_columns}
use Rattle.rules.specs.Gate.{code_cnot}
use Rattle.rows.specs.Rows.{rows_of}
use Rattle.terms.specs.Terms.{terms_of, Indexed}
use Rattle.gate.specs.declared.Gate.{Gate}
use Rattle.block.specs.Steps.{Wired}
use Rattle.block.specs.declared.Block.{Block}

-- of a gate on two wires the second, else the first
abbrev pub last_wire : Gate → ℕ
last_wire g = cond (leb code_cnot g.code) g.second g.first

-- 1 for a wire whose entry says that it has not joined
abbrev pub new : ℕ → ℕ
new entry = cond (eqb entry 0) 1 0

-- the parity that a wire holds once it has joined, by its entry
unfoldable pub parity_at : ℕ → List ℕ → ℕ → ℕ
parity_at wires held entry = cond (eqb entry 0) (2 ^ wires) (get_or held (entry - 1) 0)

-- the row that an entry names is there; else there is an index for the wire
pub record Held (b : Block) (q : ℕ) (table : List ℕ) : Type 0 where
  pub inside : q < length table
  pub old : (i : ℕ) → get_or table q 0 ≡ suc i → i < length (rows_of b.rows)
  pub fresh : get_or table q 0 ≡ 0 → b.wires < max_columns

-- what the test of a gate asks
pub record Askable (b : Block) (g : Gate) (table room : List ℕ) (cap : ℕ) (heads : List ℕ) : Type 0 where
  pub wired : Wired g table
  pub few : b.wires ≤ max_columns
  pub low : cap ≤ max_columns
  pub held : (q i : ℕ) → get_or table q 0 ≡ suc i → i < length (rows_of b.rows)
  pub terms : b.terms ≤ length (terms_of room)
  pub indexed : Indexed heads room b.terms
