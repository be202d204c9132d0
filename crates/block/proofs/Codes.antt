-- How a gate acts, by its code.
--     op-read                       the gate that was read acts as the list's gate
--     op-x, op-turn, op-cnot, op-cz, op-other
use mathlib.Core.Path.{◌≡◌, refl, ◌∙◌}
use mathlib.Core.Bool.{true, false, ◌||◌, true≢false}
use Prim.Native.Nat.{ℕ, zero, suc, ◌%◌, ◌≤◌, ◌<◌}
use native.Mathlib.Omega.{arith}
use native.Mathlib.Nat.{mod-eq_of_lt}
use lib.Dec.{ltb}
use borrow.Author.Tests.{ltb-true, ltb-false, le-leb}
use Rattle.rules.proofs.Bits.{split}
use lib.IntN.{ℤ, pos}
use Rattle.rules.specs.Gate as Paper
use Rattle.rules.specs.Meaning.{flip, phase, cnot, cz, other, op_of, op, turn8}
use Rattle.gate.specs.Writing.{gate_of}
use Rattle.gate.specs.Reading.{Reads}
use Rattle.gate.specs.declared.Gate.{Gate}
use Rattle.block.specs.Steps.{turn_of}

-- a turn that is reduced already
op-reduced : (c a b k : ℕ) (t : ℤ) → k ≡ turn8 t → k < 8 → op_of c a b (pos k) ≡ op_of c a b t
unfolding op_of
op-reduced c a b k t e l =
    let m : k % 8 ≡ turn8 t = mod-eq_of_lt l ∙ e in
    rw m

pub op-read : (p : Paper.Gate) (g : Gate) → Reads p g → op (gate_of g) ≡ op p
unfolding op
op-read p g r =
    rw (r.code, r.first, r.second) (op-reduced p.code p.first p.second g.turn p.turn r.turn r.turn-lt)

module _ (g : Gate) where
  pub op-x : g.code ≡ 1 → op (gate_of g) ≡ flip g.first
  unfolding op op_of
  op-x e = rw e

  pub op-cnot : g.code ≡ 8 → op (gate_of g) ≡ cnot g.first g.second
  unfolding op op_of
  op-cnot e = rw e

  pub op-cz : g.code ≡ 9 → op (gate_of g) ≡ cz g.first g.second
  unfolding op op_of
  op-cz e = rw e

turn-case : (c a b k : ℕ) → 2 ≤ c → c ≤ 7 → op_of c a b (pos k) ≡ phase (turn_of c k) a
unfolding op_of
turn-case zero a b k l h = absurd (omega arith)
turn-case (suc zero) a b k l h = absurd (omega arith)
turn-case (suc (suc zero)) a b k l h = refl
turn-case (suc (suc (suc zero))) a b k l h = refl
turn-case (suc (suc (suc (suc zero)))) a b k l h = refl
turn-case (suc (suc (suc (suc (suc zero))))) a b k l h = refl
turn-case (suc (suc (suc (suc (suc (suc zero)))))) a b k l h = refl
turn-case (suc (suc (suc (suc (suc (suc (suc zero))))))) a b k l h = refl
turn-case (suc (suc (suc (suc (suc (suc (suc (suc c)))))))) a b k l h = absurd (omega arith)

-- a code past the table
past : (c a b : ℕ) (k : ℤ) → 9 < c → op_of c a b k ≡ other
unfolding op_of
past zero a b k h = absurd (omega arith)
past (suc zero) a b k h = absurd (omega arith)
past (suc (suc zero)) a b k h = absurd (omega arith)
past (suc (suc (suc zero))) a b k h = absurd (omega arith)
past (suc (suc (suc (suc zero)))) a b k h = absurd (omega arith)
past (suc (suc (suc (suc (suc zero))))) a b k h = absurd (omega arith)
past (suc (suc (suc (suc (suc (suc zero)))))) a b k h = absurd (omega arith)
past (suc (suc (suc (suc (suc (suc (suc zero))))))) a b k h = absurd (omega arith)
past (suc (suc (suc (suc (suc (suc (suc (suc zero)))))))) a b k h = absurd (omega arith)
past (suc (suc (suc (suc (suc (suc (suc (suc (suc zero))))))))) a b k h = absurd (omega arith)
past (suc (suc (suc (suc (suc (suc (suc (suc (suc (suc c)))))))))) a b k h = refl

module _ (g : Gate) where
  pub op-turn : 2 ≤ g.code → g.code ≤ 7 → op (gate_of g) ≡ phase (turn_of g.code g.turn) g.first
  unfolding op
  op-turn l h = turn-case g.code g.first g.second g.turn l h

  pub op-other : (ltb g.code 1 || ltb 9 g.code) ≡ true → op (gate_of g) ≡ other
  unfolding op op_of
  op-other h =
      split (ltb g.code 1)
      (λ t. let e : g.code ≡ 0 = omega (arith, ltb-true g.code 1 t) in rw e)
      (λ t. past g.code g.first g.second (pos g.turn) (ltb-true 9 g.code (rw t at h)))

-- the other codes
pub op-some : (c : ℕ) → (ltb c 1 || ltb 9 c) ≡ false → (1 ≤ c) × (c ≤ 9)
op-some c h =
    split (ltb c 1)
    (λ t. absurd (true≢false (rw t at h)))
    (λ t. (ltb-false c 1 t, ltb-false 9 c (rw t at h)))

-- cnot and cz have two wires
pub two-wires : (c : ℕ) → 8 ≤ c → c ≤ 9 → Paper.second c ≡ true
two-wires c l h = rw (le-leb 8 c l, le-leb c 9 h)
