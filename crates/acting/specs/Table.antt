-- The answer as a program computes it: a table of n rows, and sums of turns by one, two and three wires.
use Rattle.std.specs.Prelude.{Bool, true, ◌&&◌, cond, List, [], ◌∷◌, ◌++◌, ℕ, zero, ◌+◌, ◌%◌, ◌^◌, get_or, eqb}
use Rattle.rules.specs.Bit.{◌⊕◌, bit, xor}
use Rattle.rules.specs.Meaning.{Op, flip, phase, cnot, cz, other, when1}
use Rattle.rules.specs.Fold.{Term, signed}
use Rattle.rules.specs.Close.{add_to, units, eq_rows}
use Rattle.acting.specs.Alike.{each, Verdict, first}

-- row q has the wires whose values the wire q holds the sum of; bit q of `flips` is its constant
pub record Table : Type 0 where
  pub held : List ℕ
  pub flips : ℕ

-- n wires, each with its own value
unfoldable pub begin : ℕ → Table
unfolding units
begin n = record { held = units n zero; flips = zero }

-- x flips the constant; cnot adds the control's row and constant to the target's
unfoldable pub act : Op → Table → Table
unfolding add_to xor bit
act (flip q) b = record { held = b.held; flips = xor b.flips (2 ^ q) }
act (phase k q) b = b
act (cnot c t) b = record { held = add_to c t b.held; flips = xor b.flips (cond (bit b.flips c) (2 ^ t) zero) }
act (cz c t) b = b
act other b = b

unfoldable pub table_of : List Op → Table → Table
unfolding act
table_of [] b = b
table_of (o ∷ os) b = table_of os (act o b)

-- the linear map as a run's rows, and the flips as its constants
unfoldable pub map_of : ℕ → List Op → List ℕ
unfolding table_of begin
map_of n os = (table_of os (begin n)).held

unfoldable pub flips_of : ℕ → List Op → ℕ
unfolding table_of begin
flips_of n os = (table_of os (begin n)).flips

-- a turn on the parity p, negated by its constant
abbrev pub rotated : ℕ → ℕ → Bool → Term
rotated k p b = record { parity = p; turn = signed b k }

-- the turns of a gate, as the fold has them, in no table
unfoldable pub turns : Op → Table → List Term
unfolding xor bit
turns (flip q) b = []
turns (phase k q) b = rotated k (get_or b.held q zero) (bit b.flips q) ∷ []
turns (cnot c t) b = []
turns (cz c t) b =
    let p = get_or b.held c zero in
    let q = get_or b.held t zero in
    let e = bit b.flips c in
    let f = bit b.flips t in
    rotated 2 p e ∷ rotated 2 q f ∷ rotated 6 (xor p q) (e ⊕ f) ∷ []
turns other b = []

unfoldable pub turns_of : List Op → Table → List Term
unfolding turns act
turns_of [] b = []
turns_of (o ∷ os) b = turns o b ++ turns_of os (act o b)

-- every turn negated
unfoldable pub minus : List Term → List Term
minus [] = []
minus (t ∷ ts) = record { parity = t.parity; turn = signed true t.turn } ∷ minus ts

-- the turns of the one run and, negated, of the other
unfoldable pub apart : ℕ → List Op → List Op → List Term
unfolding turns_of minus begin
apart n us vs = turns_of us (begin n) ++ minus (turns_of vs (begin n))

-- the sum of the turns whose parities are selected
unfoldable pub total : (ℕ → Bool) → List Term → ℕ
total sel [] = zero
total sel (t ∷ ts) = when1 (sel t.parity) t.turn + total sel ts

-- turns that add nothing, up to a constant: for each wire the turns on it make 0 modulo 8, for two wires 0 modulo 4, for three 0 modulo 2
unfoldable pub quiet : ℕ → List Term → Bool
unfolding each total bit
quiet n ts =
    each n (λ i. eqb (total (λ p. bit p i) ts % 8) 0
    && each i (λ j. eqb (total (λ p. bit p i && bit p j) ts % 4) 0 && each j (λ k. eqb (total (λ p. bit p i && bit p j && bit p k) ts % 2) 0)))

-- the answer, by rows, constants and sums
unfoldable pub computed : ℕ → List Op → List Op → Verdict
unfolding map_of flips_of eq_rows apart quiet
computed n us vs = first (eq_rows (map_of n us) (map_of n vs)) (eqb (flips_of n us) (flips_of n vs)) (quiet n (apart n us vs))
