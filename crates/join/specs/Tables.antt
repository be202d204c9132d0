-- The join table: for each wire of the circuit its local index plus 1, or 0 where it has not joined. `names` leads back.
use Rattle.std.specs.Prelude.{◌≡◌, Option, Some, None, List, ℕ, zero, suc, ◌≤◌, ◌<◌, length, get_or, set}
use Rattle.rules.specs.Limits.{max_columns}
use Rattle.join.specs.declared.Local.{Local}

-- a place as the table's number
abbrev pub number_of : Option Local → ℕ
number_of (Some i) = suc i.0
number_of None = zero

-- n wires have joined, and table and names say the same of them
pub record Joins (table names : List ℕ) (n : ℕ) : Type 0 where
  pub few : n ≤ max_columns
  pub room : max_columns ≤ length names
  pub inside : (i : ℕ) → i < n → get_or names i 0 < length table
  pub there : (i : ℕ) → i < n → get_or table (get_or names i 0) 0 ≡ suc i
  pub back : (q i : ℕ) → get_or table q 0 ≡ suc i → (i < n) × (get_or names i 0 ≡ q)

-- the wire q may take the local index n
pub record Joinable (table names : List ℕ) (n q : ℕ) : Type 0 where
  pub joins : Joins table names n
  pub few : n < max_columns
  pub inside : q < length table
  pub new : get_or table q 0 ≡ 0

-- it has taken it
pub record Enters (table names : List ℕ) (n q : ℕ) (table' names' : List ℕ) : Type 0 where
  pub joins : Joins table' names' (suc n)
  pub entry : table' ≡ set table q (suc n)
  pub name : names' ≡ set names n q

-- no wire is joined any more
pub record Leaves (table names : List ℕ) : Type 0 where
  pub clear : (q : ℕ) → get_or table q 0 ≡ 0
  pub joins : Joins table names 0
