-- The stack of waiting nodes in a lent room, and the sets side by side in the room of terms, the newest last.
use Rattle.std.specs.Prelude.{◌≡◌, ◌≢◌, false, List, [], ◌∷◌, ℕ, zero, suc, ◌+◌, ◌^◌, ◌≤◌, ◌<◌, get_or, set, Option, Some, None}
use Rattle.std.proofs.Math.Seq.{slice}
use Rattle.rules.specs.Bit.{bit, xor}
use Rattle.rules.specs.Fold.{Term}
use Rattle.rules.specs.Walk.{free, on, owes, Node, node}
use Rattle.rules.specs.Walk as Walk
use Rattle.parity.specs.declared.Parity.{Parity}
use Rattle.parity.specs.View.{val}
use Rattle.parity.specs.Columns.{HighestIs}
use Rattle.terms.specs.Terms.{SplitAt}
use Rattle.column.specs.Choice.{Best}
use Rattle.walk.specs.declared.Slot.{Slot}
use Rattle.walk.specs.declared.Aim.{Aim}
use Rattle.walk.specs.declared.Aim.TheVariants.{Free, On, Owes}

-- what stands past the end
abbrev pub no_slot : Slot
no_slot = record { cands = record { lo = 0; hi = 0 }; aim = Free; start = 0 }

-- the target, owed to or not
abbrev pub target_of : Aim → Option ℕ
target_of Free = None
target_of (On t) = Some t
target_of (Owes p t) = Some t

-- the target that is set, with nothing owed
abbrev pub aim_to : Option ℕ → Walk.Aim
aim_to None = free
aim_to (Some t) = on t

-- document 01's aim
abbrev pub view : Aim → Walk.Aim
view Free = free
view (On t) = on t
view (Owes p t) = owes p t

abbrev pub aim_of : Slot → Walk.Aim
aim_of s = view s.aim

-- the node of a slot whose set ends at `end`
abbrev pub node_of : Slot → List Term → ℕ → Node
node_of s ts end = node (val s.cands) (aim_of s) (slice s.start end ts)

-- the first `depth` nodes, newest first; the newest one's set ends at `end`
unfoldable pub stack_of : List Slot → ℕ → List Term → ℕ → List Node
stack_of ss zero ts end = []
stack_of ss (suc d) ts end = let s = get_or ss d no_slot in node_of s ts end ∷ stack_of ss d ts s.start

-- the columns of a slot are among n, and its target is no candidate and not what it owes
pub record Aimed (n : ℕ) (s : Slot) : Type 0 where
  pub target : (t : ℕ) → target_of s.aim ≡ Some t → t < n
  pub owed : (p t : ℕ) → s.aim ≡ Owes p t → p < n
  pub apart : (t : ℕ) → target_of s.aim ≡ Some t → bit (val s.cands) t ≡ false
  pub differ : (p t : ℕ) → s.aim ≡ Owes p t → p ≢ t

-- of the first `depth` nodes each set begins where the one before it ends, and the columns are among n
unfoldable pub Laid : ℕ → List Slot → ℕ → ℕ → Type 0
Laid n ss zero end = Unit {0}
Laid n ss (suc d) end = let s = get_or ss d no_slot in (s.start ≤ end) × (Aimed n s × Laid n ss d s.start)

-- the column c as target or, with a target, owed to it
abbrev pub aim_with : Option ℕ → ℕ → Aim
aim_with None c = On c
aim_with (Some t) c = Owes c t

-- the side with the column c: it takes c as target or, with a target, owes c to it
abbrev pub takes : Slot → Parity → ℕ → Slot
takes s rest c = record { cands = rest; aim = aim_with (target_of s.aim) c; start = s.start }

-- the side without: its set begins where the other's ends
abbrev pub leaves : Slot → Parity → ℕ → Slot
leaves s rest ones = record { cands = rest; aim = s.aim; start = s.start + ones }

-- nothing is owed any more, and the target stays
abbrev pub settled : Aim → Aim
settled Free = Free
settled (On t) = On t
settled (Owes p t) = On t

-- what is owed is paid
abbrev pub paid : Slot → Slot
paid s = record { cands = s.cands; aim = settled s.aim; start = s.start }

-- only these candidates are left
abbrev pub narrowed : Slot → Parity → Slot
narrowed s live = record { cands = live; aim = s.aim; start = s.start }

-- the node with which the walk begins
abbrev pub first : Parity → Slot
first cands = record { cands = cands; aim = Free; start = 0 }

-- the newest node, at the place `at`, is split: its set by a column, and two nodes in its place
pub record Branched (s : Slot) (at end : ℕ) (ts ts' : List Term) (ss ss' : List Slot) : Type 0 where
  pub column : ℕ
  pub best : Best (slice s.start end ts) (val s.cands) column
  pub ones : ℕ
  pub split : SplitAt column s.start end ts ts' ones
  pub rest : Parity
  pub less : val rest ≡ xor (val s.cands) (2 ^ column)
  pub slots : ss' ≡ set (set ss at (takes s rest column)) (at + 1) (leaves s rest ones)

-- the highest column of a mask, and the others
pub record Peeled (mask column others : ℕ) : Type 0 where
  pub high : HighestIs mask column
  pub rest : others ≡ xor mask (2 ^ column)

-- the column that takes the rotation of a one-term node, and those that are added to it: its target and its live candidates or, with no target yet, the highest
-- of them and the others
pub record Chosen (target : Option ℕ) (live column mask : ℕ) : Type 0 where
  pub given : (t : ℕ) → target ≡ Some t → (column ≡ t) × (mask ≡ live)
  pub taken : target ≡ None → Peeled live column mask
