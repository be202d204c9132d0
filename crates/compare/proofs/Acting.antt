-- What a gate does to the table, and the turns that it adds, by its code.
use mathlib.Core.Path.{◌≡◌, refl}
use mathlib.Core.Logic.{◌≢◌}
use mathlib.Core.Bool.{Bool, cond}
use mathlib.Core.List.{List, [], ◌∷◌}
use Prim.Native.Nat.{ℕ, zero, suc, ◌^◌, ◌≤◌}
use native.Mathlib.Omega.{arith}
use lib.ListN.{get_or}
use Rattle.rules.specs.Bit.{◌⊕◌, bit, xor}
use Rattle.rules.specs.Meaning.{op}
use Rattle.rules.specs.Close.{add_to}
use Rattle.rules.specs.Fold.{Term, signed}
use Rattle.gate.specs.Writing.{gate_of}
use Rattle.gate.specs.declared.Gate.{Gate}
use Rattle.block.specs.Steps.{turn_of}
use Rattle.block.proofs.Codes.{op-x, op-cnot, op-cz, op-turn}
use Rattle.acting.specs.Table.{Table, act, turns, rotated}
use Rattle.lanes.specs.Lanes.{term, Notes}
use Rattle.lanes.specs.declared.Lanes.{Lanes}
use Rattle.lanes.proofs.Noting.{notes-none, notes-then}
use Rattle.compare.specs.View.{backed}

abbrev pub table : List ℕ → ℕ → Table
table held flips = record { held = held; flips = flips }

module _ (g : Gate) (held : List ℕ) (f : ℕ) where
  pub act-x : (r : ℕ) → g.code ≡ 1 → r ≡ xor f (2 ^ g.first) → table held r ≡ act (op (gate_of g)) (table held f)
  unfolding act
  act-x r e h = rw (op-x g e, h)

  pub act-cnot : (held' : List ℕ) (r : ℕ) → g.code ≡ 8 → held' ≡ add_to g.first g.second held → r ≡ xor f (cond (bit f g.first) (2 ^ g.second) zero)
      → table held' r ≡ act (op (gate_of g)) (table held f)
  unfolding act
  act-cnot held' r e h k = rw (op-cnot g e, h, k)

  pub act-none : 1 ≤ g.code → g.code ≤ 9 → g.code ≢ 1 → g.code ≢ 8 → table held f ≡ act (op (gate_of g)) (table held f)
  unfolding act
  act-none l m x y = go g.code refl
    where
      go : (c : ℕ) → g.code ≡ c → table held f ≡ act (op (gate_of g)) (table held f)
      go zero e = absurd (omega arith)
      go (suc zero) e = absurd (x e)
      go (suc (suc zero)) e = rw (op-turn g (omega arith) (omega arith))
      go (suc (suc (suc zero))) e = rw (op-turn g (omega arith) (omega arith))
      go (suc (suc (suc (suc zero)))) e = rw (op-turn g (omega arith) (omega arith))
      go (suc (suc (suc (suc (suc zero))))) e = rw (op-turn g (omega arith) (omega arith))
      go (suc (suc (suc (suc (suc (suc zero)))))) e = rw (op-turn g (omega arith) (omega arith))
      go (suc (suc (suc (suc (suc (suc (suc zero))))))) e = rw (op-turn g (omega arith) (omega arith))
      go (suc (suc (suc (suc (suc (suc (suc (suc zero)))))))) e = absurd (y e)
      go (suc (suc (suc (suc (suc (suc (suc (suc (suc zero))))))))) e = rw (op-cz g e)
      go (suc (suc (suc (suc (suc (suc (suc (suc (suc (suc c)))))))))) e = absurd (omega arith)

  pub turns-x : g.code ≡ 1 → turns (op (gate_of g)) (table held f) ≡ []
  unfolding turns
  turns-x e = rw (op-x g e)

  pub turns-cnot : g.code ≡ 8 → turns (op (gate_of g)) (table held f) ≡ []
  unfolding turns
  turns-cnot e = rw (op-cnot g e)

  pub turns-phase : 2 ≤ g.code → g.code ≤ 7 → turns (op (gate_of g)) (table held f) ≡ rotated (turn_of g.code g.turn) (get_or held g.first zero) (bit f g.first) ∷ []
  unfolding turns
  turns-phase l m = rw (op-turn g l m)

  pub turns-cz : g.code ≡ 9 → turns (op (gate_of g)) (table held f)
      ≡ rotated 2 (get_or held g.first zero) (bit f g.first) ∷ rotated 2 (get_or held g.second zero) (bit f g.second)
      ∷ rotated 6 (xor (get_or held g.first zero) (get_or held g.second zero)) (bit f g.first ⊕ bit f g.second) ∷ []
  unfolding turns
  turns-cz e = rw (op-cz g e)

-- ---- what is noted of a gate's turns

module _ (i : ℕ) (back : Bool) (s : Lanes) where
  pub weighed-none : (ts : List Term) → ts ≡ [] → Notes i (backed back ts) s s
  unfolding backed
  weighed-none ts e = rw e (notes-none i s)

  pub weighed-one : (ts : List Term) (k p : ℕ) (f : Bool) (r : Lanes) → ts ≡ rotated k p f ∷ []
      → Notes i (term p (signed back (signed f k)) ∷ []) s r → Notes i (backed back ts) s r
  unfolding backed
  weighed-one ts k p f r e h = rw e h

  pub weighed-three : (x y z : ℕ) (e f d : Bool) (one two three : Lanes) → Notes i (term x (signed back (signed e 2)) ∷ []) s one
      → Notes i (term y (signed back (signed f 2)) ∷ []) one two → Notes i (term z (signed back (signed d 6)) ∷ []) two three → z ≡ xor x y → d ≡ (e ⊕ f)
      → Notes i (backed back (rotated 2 x e ∷ rotated 2 y f ∷ rotated 6 (xor x y) (e ⊕ f) ∷ [])) s three
  unfolding backed
  weighed-three x y z e f d one two three f1 f2 f3 u v =
      rw (← u, ← v) (notes-then i (term x (signed back (signed e 2)) ∷ []) (term y (signed back (signed f 2)) ∷ term z (signed back (signed d 6)) ∷ []) s one three f1
      (notes-then i (term y (signed back (signed f 2)) ∷ []) (term z (signed back (signed d 6)) ∷ []) one two three f2 f3))

  -- of the parities and constants that were read
  pub weighed-by : (ts : List Term) (px py x y : ℕ) (e f : Bool) (r : Lanes) {pe pf : Bool}
      → ts ≡ rotated 2 px pe ∷ rotated 2 py pf ∷ rotated 6 (xor px py) (pe ⊕ pf) ∷ [] → x ≡ px → y ≡ py → e ≡ pe → f ≡ pf
      → Notes i (backed back (rotated 2 x e ∷ rotated 2 y f ∷ rotated 6 (xor x y) (e ⊕ f) ∷ [])) s r → Notes i (backed back ts) s r
  weighed-by ts px py x y e f r h u v a b n = rw (h, ← u, ← v, ← a, ← b) n
