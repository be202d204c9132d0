-- A closing map written to its end: its additions with no limit but the room for all of them, and its CNOTs.
use Rattle.std.specs.Prelude.{◌≡◌, List, ℕ, ◌+◌, ◌*◌, ◌≤◌, ◌<◌, ℤ, length, Option, Some, None}
use Rattle.std.proofs.Math.Option as Maybe
use Rattle.parity.specs.declared.Parity.{Parity}
use Rattle.rules.specs.Limits.{max_columns}
use Rattle.rules.specs.Walk.{Step}
use Rattle.rules.specs.Close.{Adds}
use Rattle.rules.specs.Synth.{emit}
use Rattle.rows.specs.Rows.{rows_of}
use Rattle.closing.specs.Additions.{held, Made}
use Rattle.writing.specs.Written.{Wrote}

-- a column of some rows, and k additions with room for n more
pub record Column (m : List Parity) (room : List ℕ) (k n column : ℕ) : Type 0 where
  pub few : length (rows_of m) ≤ max_columns
  pub inside : column < length (rows_of m)
  pub long : 2 * (k + n) ≤ length room

-- what the rows and the additions become, one addition more at most
pub record Next (to : Adds) (k : ℕ) (m' : List Parity) (room' : List ℕ) (k' : ℕ) : Type 0 where
  pub is : held m' room' k' ≡ to
  pub few : k' ≤ k + 1

-- the diagonal bit is there after one addition more at most; or no lower row has it
abbrev pub Filled : Maybe.Option Adds → ℕ → List Parity → List ℕ → Option ℕ → Type 0
Filled o k m' room' (Some j) = (o ≡ Maybe.some (held m' room' j)) × (j ≤ k + 1)
Filled o k m' room' None = o ≡ Maybe.none

-- k additions are all that are wanted, n squared at most, and the room begins with them; or there is no end
abbrev pub Ends : ℕ → Maybe.Option Adds → List ℕ → Option ℕ → Type 0
Ends n o room (Some k) = Made (n * n) k o room
Ends n o room None = o ≡ Maybe.none

-- these steps are the map, and they follow the gates that stood there
pub record Follows (o : Maybe.Option (List Step)) (names : List ℕ) (whole : List ℤ) (k : ℕ) (whole' : List ℤ) (k' : ℕ) : Type 0 where
  pub steps : List Step
  pub is : o ≡ Maybe.some steps
  pub wrote : Wrote (emit names steps) whole k whole' k'

-- the map is written to its end; or there is none
abbrev pub Closes : Maybe.Option (List Step) → List ℕ → List ℤ → ℕ → List ℤ → Option ℕ → Type 0
Closes o names whole k whole' (Some k') = Follows o names whole k whole' k'
Closes o names whole k whole' None = o ≡ Maybe.none
