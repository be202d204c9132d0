-- Worked lists for the refusals 1 to 9, 14 and 18 and for none, by computing: one table, one statement.
use mathlib.Core.Path.{◌≡◌, refl}
use mathlib.Core.List.{List, [], ◌∷◌, ◌++◌, map}
use Prim.Native.Nat.{ℕ, ◌+◌}
use lib.IntN.{ℤ, pos, negsuc}
use lib.ListN.{length}
use Rattle.rules.specs.Limits.{max_wires}
use Rattle.rules.specs.Refusal.{Verdict, accepted, tell, refuse, whole, whole_fault, verdict}

-- a list on some wires and one bit, and what is said of it
pub record Case : Type 0 where
  pub list : List ℤ
  pub wires : ℕ
  pub out : ℕ
  pub terms : ℕ
  pub steps : ℕ
  pub answer : Verdict

abbrev pub lined : ℤ → ℕ → ℤ → ℤ → ℤ → ℤ → List ℤ
lined s c x y z t = pos c ∷ x ∷ y ∷ z ∷ t ∷ s ∷ []

-- on line 3
abbrev pub gate : ℕ → ℤ → ℤ → ℤ → ℤ → List ℤ
gate c x y z t = lined (pos 3) c x y z t

-- t on wire 0
abbrev pub t0 : List ℤ
t0 = gate 2 (pos 0) (pos 0) (pos 0) (pos 0)

-- two gates, of which the second, at place 1, is in question
abbrev pub pair : List ℤ → Verdict → Case
pair g v = record { list = t0 ++ g; wires = 2; out = 12; terms = 18; steps = 260; answer = v }

-- it is refused by that number, and in that field
abbrev pub second : ℕ → ℕ → List ℤ → Case
second number field g = pair g (refuse (tell number field) 1)

abbrev pub cases : List Case
cases =
    -- no gate, on no wire
    record { list = []; wires = 0; out = 0; terms = 0; steps = 256; answer = accepted }
    -- rz by -8, and a measure whose bit equals its wire
    ∷ pair (gate 7 (pos 1) (pos 0) (pos 0) (negsuc 7)) accepted
    ∷ pair (gate 27 (pos 0) (pos 0) (pos 0) (pos 0)) accepted
    -- a number too few; a wire too many; output, term and step room a number short. A gate too many is below
    ∷ pair (pos 2 ∷ []) (whole 1)
    ∷ record { list = []; wires = max_wires + 1; out = 0; terms = 0; steps = 256; answer = whole 3 }
    ∷ record { list = t0; wires = 2; out = 5; terms = 9; steps = 258; answer = whole 4 }
    ∷ record { list = t0; wires = 2; out = 6; terms = 8; steps = 258; answer = whole 5 }
    ∷ record { list = t0; wires = 2; out = 6; terms = 9; steps = 257; answer = whole 5 }
    -- no such code; a turn on t, before a wire that isn't there; a second on x; an unused third of a cnot, before its wires
    ∷ second 6 0 (gate 28 (pos 0) (pos 0) (pos 0) (pos 0))
    ∷ second 7 0 (gate 2 (pos 2) (pos 0) (pos 0) (pos 1))
    ∷ second 7 0 (gate 1 (pos 0) (pos 5) (pos 0) (pos 0))
    ∷ second 7 0 (gate 8 (pos 5) (pos 5) (pos 1) (pos 0))
    -- the first bad field from the left: a wire that isn't there, first, second and third
    ∷ second 8 1 (gate 1 (pos 2) (pos 0) (pos 0) (pos 0))
    ∷ second 8 1 (gate 8 (pos 2) (pos 2) (pos 0) (pos 0))
    ∷ second 8 2 (gate 24 (pos 0) (negsuc 0) (pos 2) (pos 0))
    ∷ second 8 3 (gate 24 (pos 0) (pos 1) (pos 2) (pos 0))
    -- a bit that isn't there, and before it its wire
    ∷ second 14 2 (gate 27 (pos 0) (pos 1) (pos 0) (pos 0))
    ∷ second 14 2 (gate 27 (pos 1) (negsuc 0) (pos 0) (pos 0))
    ∷ second 8 1 (gate 27 (pos 2) (pos 1) (pos 0) (pos 0))
    -- a wire twice, behind all fields
    ∷ second 9 0 (gate 8 (pos 1) (pos 1) (pos 0) (pos 0))
    ∷ second 8 3 (gate 24 (pos 1) (pos 1) (pos 2) (pos 0))
    -- a negative line, behind all of these; the greatest line is right
    ∷ second 18 0 (lined (negsuc 0) 10 (pos 0) (pos 0) (pos 0) (pos 0))
    ∷ second 9 0 (lined (negsuc 0) 8 (pos 1) (pos 1) (pos 0) (pos 0))
    ∷ pair (lined (pos 2147483647) 10 (pos 0) (pos 0) (pos 0) (pos 0)) accepted
    ∷ []

pub worked : map (λ (c : Case). verdict c.list c.wires 1 c.out c.terms c.steps) cases ≡ map (λ (c : Case). c.answer) cases
unfolding verdict
worked = refl

-- a gate too many, whatever the list holds: by its length alone, since so long a list isn't computed
pub too_many : (l : List ℤ) (w b out terms steps : ℕ) → length l ≡ 393222 → verdict l w b out terms steps ≡ whole 2
unfolding verdict
too_many l w b out terms steps e = rw e

-- the most gates, wires and bits in exact rooms; then a gate, a wire and a bit more, each before the rooms
pub limits : (whole_fault 393216 65536 4096 1024 393216 589824 131328 ≡ 0)
    × ((whole_fault 393222 65537 4096 1024 0 0 0 ≡ 2)
    × ((whole_fault 393216 65536 4097 1024 0 0 0 ≡ 3)
    × (whole_fault 393216 65536 4096 1025 0 0 0 ≡ 3)))
limits = (refl, (refl, (refl, refl)))
