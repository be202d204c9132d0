-- Gates counted one by one, from place i on.
use mathlib.Core.Path.{◌≡◌, refl}
use mathlib.Core.Bool.{Bool, cond}
use mathlib.Core.List.{List, [], ◌∷◌}
use Prim.Native.Nat.{ℕ, suc, ◌+◌, ◌-◌, ◌≤◌, ◌<◌}
use native.Mathlib.Numerals.{add-one}
use native.Mathlib.Omega.{arith}
use lib.IntN.{ℤ}
use mir.Val.{bool_byte}
use Rattle.rules.specs.Gate.{Gate}
use Rattle.rules.specs.Numbers.{gate_at, gates_from}
use Rattle.rules.specs.Counts.{is_two, twos, spends, ts}
use Rattle.rules.proofs.Flags.{byte-cond}

-- the count moves by a test of each gate
pub record Tallies (test : Gate → Bool) (count : List Gate → ℕ) : Type 0 where
  pub none : count [] ≡ 0
  pub more : (g : Gate) (gs : List Gate) → count (g ∷ gs) ≡ cond (test g) 1 0 + count gs

pub tallies-twos : Tallies (λ g. is_two g.code) twos
unfolding twos
tallies-twos = record { none = refl; more = λ g gs. refl }

pub tallies-ts : Tallies (λ g. spends g.code g.turn) ts
unfolding ts
tallies-ts = record { none = refl; more = λ g gs. refl }

module _ {test : Gate → Bool} {count : List Gate → ℕ} (t : Tallies test count) (l : List ℤ) (n i : ℕ) where
  pub tally-more : i < n → count (gates_from l (n - i) i) ≡ bool_byte (test (gate_at l i)) + count (gates_from l (n - (i + 1)) (i + 1))
  unfolding gates_from
  tally-more h =
      let k : n - i ≡ suc (n - (i + 1)) = omega arith in
      rw (k, add-one i, byte-cond (test (gate_at l i))) (t.more (gate_at l i) (gates_from l (n - suc i) (suc i)))

  pub tally-none : n ≤ i → count (gates_from l (n - i) i) ≡ 0
  unfolding gates_from
  tally-none h =
      let k : n - i ≡ 0 = omega arith in
      rw k t.none
