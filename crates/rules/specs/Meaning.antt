-- The meaning of a stretch: where it takes a setting of the wires, and the phase that it adds. This file mentions no parities.
use Rattle.std.specs.Prelude.{◌≡◌, Bool, true, false, ◌&&◌, cond, List, [], ◌∷◌, ℕ, zero, ◌+◌, ◌-◌, ◌%◌, ℤ, pos, negsuc, get_or, eqb}
use Rattle.rules.specs.Bit.{◌⊕◌}
use Rattle.rules.specs.Gate.{Gate}

-- a signed turn, reduced to 0..7. `negsuc n` is -(n + 1), so -1 is 7 and -8 is 0
abbrev pub turn8 : ℤ → ℕ
turn8 (pos n) = n % 8
turn8 (negsuc n) = 7 - n % 8

-- how a gate acts: x; t, s, z, sdg, tdg and rz by their turn; cnot and cz by control and target. `other` is opaque
pub data Op : Type 0 where
  flip : ℕ → Op
  phase : ℕ → ℕ → Op
  cnot : ℕ → ℕ → Op
  cz : ℕ → ℕ → Op
  other : Op

-- the codes 1 to 9 in order: x, t, tdg, s, sdg, z, rz, cnot, cz
unfoldable pub op_of : ℕ → ℕ → ℕ → ℤ → Op
op_of code a b k =
    get_or (other ∷ flip a ∷ phase 1 a ∷ phase 7 a ∷ phase 2 a ∷ phase 6 a ∷ phase 4 a ∷ phase (turn8 k) a ∷ cnot a b ∷ cz a b ∷ []) code other

unfoldable pub op : Gate → Op
unfolding op_of
op g = op_of g.code g.first g.second g.turn

abbrev pub opaque : Op → Bool
opaque (flip q) = false
opaque (phase k q) = false
opaque (cnot c t) = false
opaque (cz c t) = false
opaque other = true

-- the setting with b added to wire q
abbrev pub change : ℕ → Bool → (ℕ → Bool) → ℕ → Bool
change q b s i = cond (eqb i q) (s i ⊕ b) (s i)

-- the turn k where the bit is 1
abbrev pub when1 : Bool → ℕ → ℕ
when1 true k = k
when1 false k = zero

-- x and cnot change wires
unfoldable pub moved : Op → (ℕ → Bool) → ℕ → Bool
moved (flip q) s = change q true s
moved (phase k q) s = s
moved (cnot c t) s = change t (s c) s
moved (cz c t) s = s
moved other s = s

-- a rotation adds its turn when the wire is 1; cz adds 4 when both are
unfoldable pub added : Op → (ℕ → Bool) → ℕ
added (flip q) s = zero
added (phase k q) s = when1 (s q) k
added (cnot c t) s = zero
added (cz c t) s = when1 (s c && s t) 4
added other s = zero

-- a run: where it takes a setting, and the phase that it adds to it, to be read modulo 8
unfoldable pub wires : List Op → (ℕ → Bool) → ℕ → Bool
unfolding moved
wires [] s = s
wires (o ∷ os) s = wires os (moved o s)

unfoldable pub phases : List Op → (ℕ → Bool) → ℕ
unfolding added moved
phases [] s = zero
phases (o ∷ os) s = added o s + phases os (moved o s)

-- the two runs act alike: every setting goes to the same setting, and the phases differ by one constant modulo 8
pub record Alike (us vs : List Op) : Type 0 where
  pub same : (s : ℕ → Bool) (q : ℕ) → wires us s q ≡ wires vs s q
  pub constant : ℕ
  pub phase : (s : ℕ → Bool) → (constant + phases us s) % 8 ≡ phases vs s % 8
