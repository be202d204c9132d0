-- What the closing map emits, and what that asks of the rooms.
use Rattle.std.specs.Prelude.{◌≡◌, Bool, false, List, map, reverse, ℕ, zero, ◌+◌, ◌-◌, ◌*◌, ◌^◌, ◌≤◌, ◌<◌, min, ℤ, length, get_or, take}
use Rattle.std.proofs.Math.Option.{Option, none, some}
use Rattle.parity.specs.declared.Parity.{Parity}
use Rattle.rules.specs.Limits.{max_columns}
use Rattle.rules.specs.Walk.{Step}
use Rattle.rules.specs.Close.{times, and_then, closing}
use Rattle.rules.specs.Synth.{emit}
use Rattle.rules.specs.Budget.{Budget}
use Rattle.emit.specs.Emitted.{Emits}
use Rattle.rows.specs.Rows.{rows_of}
use Rattle.closing.specs.Additions.{steps_of, wanted}

-- the gates that a budget has left, the scarcer of its two counts
abbrev pub left_of : Budget → ℕ
left_of b = min (b.max_two - b.two) (b.max_all - b.all)

-- each circuit wire is a number that a gate can hold
abbrev pub Wired : List ℕ → Type 0
Wired names = (i : ℕ) → i < length names → get_or names i 0 < 2 ^ 31

-- entry i of a room, two numbers, is between indices that have names
pub record IsNamed (names steps : List ℕ) (i : ℕ) : Type 0 where
  pub fits : 2 * i + 1 < length steps
  pub added : get_or steps (2 * i) 0 < length names
  pub changed : get_or steps (2 * i + 1) 0 < length names

-- the wire of the row that entry i adds, and of the row that it changes
abbrev pub added_wire : List ℕ → List ℕ → ℕ → ℕ
added_wire names steps i = get_or names (get_or steps (2 * i) 0) 0

abbrev pub changed_wire : List ℕ → List ℕ → ℕ → ℕ
changed_wire names steps i = get_or names (get_or steps (2 * i + 1) 0) 0

-- the first k additions of a room, each between indices that have names
pub record Sent (names steps : List ℕ) (k : ℕ) : Type 0 where
  pub wired : Wired names
  pub fits : 2 * k ≤ length steps
  pub inside : (i : ℕ) → i < k → (get_or steps (2 * i) 0 < length names) × (get_or steps (2 * i + 1) 0 < length names)

-- the first k additions of a room, the last of them first
abbrev pub backwards : List ℕ → ℕ → List Step
backwards steps k = reverse (take k (steps_of steps))

-- the additions that take some rows to the identity, the last of them first
abbrev pub reversed : List ℕ → Option (List Step)
reversed rows = and_then (wanted rows) (λ m. some (reverse m.adds))

-- what n rows in all can take: the gates that the budget allows, and never more than n squared
abbrev pub step_room : ℕ → ℕ → ℕ
step_room most n = 2 * (min most (n * n) + 1)

-- rows that are the map needed for some closing map, n names, and steps
pub record Sendable (m : List Parity) (names room : List ℕ) (most : ℕ) : Type 0 where
  pub few : length (rows_of m) ≤ max_columns
  pub named : length names ≡ length (rows_of m)
  pub wired : Wired names
  pub steps : step_room most (length (rows_of m)) ≤ length room
  pub from : List ℕ
  pub to : List ℕ
  pub square : length from ≡ length to
  pub sized : length to ≡ length (rows_of m)
  pub closes : closing from to ≡ reversed (rows_of m)

-- these CNOTs, emitted; where there are none, lost
pub record Sends (o : Option (List Step)) (names : List ℕ) (out : List ℤ) (b : Budget) (out' : List ℤ) (b' : Budget) (within : Bool) : Type 0 where
  pub emits : (c : List Step) → o ≡ some c → Emits (emit names c) out b out' b' within
  pub lost : o ≡ none → within ≡ false

-- three matrices of n rows
pub record Matrices (from to spare : List Parity) : Type 0 where
  pub few : length (rows_of to) ≤ max_columns
  pub held : length from ≡ length to
  pub right : length spare ≡ length to
  pub below : (i : ℕ) → i < length (rows_of to) → get_or (rows_of to) i 0 < 2 ^ length (rows_of to)

-- the wanted rows times the inverse of those held
abbrev pub needed_rows : Option (List ℕ) → List ℕ → Option (List ℕ)
needed_rows inv to = and_then inv (λ m. some (map (λ v. times v zero m) to))

-- three matrices, n names, and steps for what n rows can take
pub record Rooms (from to spare : List Parity) (names room : List ℕ) (most : ℕ) : Type 0 where
  pub matrices : Matrices from to spare
  pub named : length names ≡ length (rows_of to)
  pub wired : Wired names
  pub steps : step_room most (length (rows_of to)) ≤ length room

-- the CNOTs that take the rows `from` to the rows `to`, emitted; where there are none, lost
abbrev pub Closes : List ℕ → List ℕ → List ℕ → List ℤ → Budget → List ℤ → Budget → Bool → Type 0
Closes from to names out b out' b' within = Sends (closing from to) names out b out' b' within
