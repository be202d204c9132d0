-- Do two runs act alike: an answer that looks at settings with at most three ones, and what each answer means.
use Rattle.std.specs.Prelude.{◌≡◌, Bool, true, false, not, ◌&&◌, List, [], ◌∷◌, ℕ, zero, suc, ◌+◌, ◌%◌, ◌<◌, eqb}
use Rattle.rules.specs.Bit.{◌⊕◌}
use Rattle.rules.specs.Meaning.{Op, flip, phase, cnot, cz, other, wires, phases}

-- a value for each wire
abbrev pub Setting : Type 0
Setting = ℕ → Bool

-- every wire 0
abbrev pub zeros : Setting
zeros q = false

-- s with the wire i turned
abbrev pub turned : ℕ → Setting → Setting
turned i s q = s q ⊕ eqb q i

-- places below n, in falling order
abbrev pub Falling : ℕ → List ℕ → Type 0
Falling n [] = Unit {0}
Falling n (i ∷ is) = (i < n) × Falling i is

-- s with the wires of the list turned
abbrev pub turned_all : List ℕ → Setting → Setting
turned_all [] s = s
turned_all (i ∷ is) s = turned_all is (turned i s)

-- ---- the runs in question: every wire below n

abbrev pub Below : ℕ → Op → Type 0
Below n (flip q) = q < n
Below n (phase k q) = q < n
Below n (cnot c t) = (c < n) × (t < n)
Below n (cz c t) = (c < n) × (t < n)
Below n other = Unit {0}

unfoldable pub AllBelow : ℕ → List Op → Type 0
AllBelow n [] = Unit {0}
AllBelow n (o ∷ os) = Below n o × AllBelow n os

-- ---- what is asked

-- the linear map: between any two settings, the same wires change
pub record SameMap (us vs : List Op) : Type 0 where
  pub between : (s t : Setting) (q : ℕ) → (wires us s q ⊕ wires us t q) ≡ (wires vs s q ⊕ wires vs t q)

-- the flips: where the zeros go
pub record SameFlips (us vs : List Op) : Type 0 where
  pub zeroed : (q : ℕ) → wires us zeros q ≡ wires vs zeros q

-- the phase, up to one constant modulo 8
pub record SamePhase (us vs : List Op) : Type 0 where
  pub constant : ℕ
  pub phase : (s : Setting) → (constant + phases us s) % 8 ≡ phases vs s % 8

-- ---- the answer

-- each of test 0 .. test (n - 1)
unfoldable pub each : ℕ → (ℕ → Bool) → Bool
each zero p = true
each (suc n) p = p n && each n p

-- s, and s with at most d wires below m turned, in falling order
unfoldable pub few : ℕ → ℕ → (Setting → Bool) → Setting → Bool
unfolding each
few zero m p s = p s
few (suc d) m p s = p s && each m (λ i. few d i p (turned i s))

abbrev pub eq_bit : Bool → Bool → Bool
eq_bit a b = not (a ⊕ b)

-- the wire i, turned, turns the wire q
unfoldable pub enters : List Op → ℕ → ℕ → Bool
unfolding wires
enters os i q = wires os zeros q ⊕ wires os (turned i zeros) q

unfoldable pub map_test : ℕ → List Op → List Op → Bool
unfolding each enters
map_test n us vs = each n (λ i. each n (λ q. eq_bit (enters us i q) (enters vs i q)))

unfoldable pub flips_test : ℕ → List Op → List Op → Bool
unfolding each wires
flips_test n us vs = each n (λ q. eq_bit (wires us zeros q) (wires vs zeros q))

-- the phases differ at s as they do at the zeros
unfoldable pub phase_at : List Op → List Op → Setting → Bool
unfolding phases
phase_at us vs s = eqb ((phases us s + phases vs zeros) % 8) ((phases vs s + phases us zeros) % 8)

unfoldable pub phase_test : ℕ → List Op → List Op → Bool
unfolding few phase_at
phase_test n us vs = few 3 n (phase_at us vs) zeros

pub data Verdict : Type 0 where
  alike : Verdict
  map_differs : Verdict
  flips_differ : Verdict
  phase_differs : Verdict

-- the first that differs
abbrev pub first : Bool → Bool → Bool → Verdict
first false f p = map_differs
first true false p = flips_differ
first true true false = phase_differs
first true true true = alike

unfoldable pub verdict : ℕ → List Op → List Op → Verdict
unfolding map_test flips_test phase_test
verdict n us vs = first (map_test n us vs) (flips_test n us vs) (phase_test n us vs)

-- the answer as a number
abbrev pub number_of : Verdict → ℕ
number_of alike = 0
number_of map_differs = 1
number_of flips_differ = 2
number_of phase_differs = 3
