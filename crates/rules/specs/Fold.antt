-- The fold: what a block of gates does, as rows (one for each joined wire) and a table of terms.
use Rattle.std.specs.Prelude.{Bool, true, false, ◌||◌, cond, List, [], ◌∷◌, ◌++◌, ℕ, zero, ◌+◌, ◌-◌, ◌%◌, ◌^◌, length, eqb}
use Rattle.rules.specs.Bit.{◌⊕◌, xor}
use Rattle.rules.specs.Meaning.{Op, flip, phase, cnot, cz, other}

-- a joined wire: the circuit's wire, and the parity and constant that it holds. Its local index is its place in the list
pub record Row : Type 0 where
  pub wire : ℕ
  pub parity : ℕ
  pub flips : Bool

-- a term of the phase: the turn that is added where the parity is 1
pub record Term : Type 0 where
  pub parity : ℕ
  pub turn : ℕ

pub record Block : Type 0 where
  pub rows : List Row
  pub terms : List Term

-- no wire joined, no term
abbrev pub empty : Block
empty = record { rows = []; terms = [] }

-- the wire q has joined
unfoldable pub joined : ℕ → List Row → Bool
joined q [] = false
joined q (r ∷ rs) = eqb r.wire q || joined q rs

-- the row of the wire q
unfoldable pub row_of : ℕ → List Row → Row
row_of q [] = record { wire = q; parity = zero; flips = false }
row_of q (r ∷ rs) = cond (eqb r.wire q) r (row_of q rs)

-- q's row with a parity and a constant added
unfoldable pub add_row : ℕ → ℕ → Bool → List Row → List Row
add_row q p b [] = []
add_row q p b (r ∷ rs) =
    cond (eqb r.wire q) (record { wire = r.wire; parity = xor r.parity p; flips = r.flips ⊕ b } ∷ rs) (r ∷ add_row q p b rs)

-- a wire that joins at the local index i
abbrev pub fresh : ℕ → ℕ → Row
fresh q i = record { wire = q; parity = 2 ^ i; flips = false }

-- at its first use a wire takes the next local index and holds the parity of its own index alone
unfoldable pub join : ℕ → List Row → List Row
unfolding joined
join q rs = cond (joined q rs) rs (rs ++ (fresh q (length rs) ∷ []))

-- the turn, negated if the constant is true
abbrev pub signed : Bool → ℕ → ℕ
signed false k = k % 8
signed true k = (8 - k % 8) % 8

-- a turn folded onto the parity p; a term folded to 0 stays in the table
unfoldable pub add_term : ℕ → ℕ → List Term → List Term
add_term p k [] = record { parity = p; turn = k } ∷ []
add_term p k (t ∷ ts) =
    cond (eqb t.parity p) (record { parity = t.parity; turn = (t.turn + k) % 8 } ∷ ts) (t ∷ add_term p k ts)

-- a turn folded onto a row's parity, negated by its constant
abbrev pub rotate : ℕ → Row → List Term → List Term
rotate k r ts = add_term r.parity (signed r.flips k) ts

-- the row that holds the sum of two
abbrev pub both : Row → Row → Row
both a b = record { wire = a.wire; parity = xor a.parity b.parity; flips = a.flips ⊕ b.flips }

-- the rows, with the wires of a gate joined, control before target
unfoldable pub entered : Op → List Row → List Row
unfolding join
entered (flip q) rs = join q rs
entered (phase k q) rs = join q rs
entered (cnot c t) rs = join t (join c rs)
entered (cz c t) rs = join t (join c rs)
entered other rs = rs

-- x flips the constant; cnot adds the control's parity and constant to the target's
unfoldable pub rows_by : Op → List Row → List Row
unfolding row_of add_row
rows_by (flip q) rs = add_row q zero true rs
rows_by (phase k q) rs = rs
rows_by (cnot c t) rs = add_row t (row_of c rs).parity (row_of c rs).flips rs
rows_by (cz c t) rs = rs
rows_by other rs = rs

-- a rotation folds its turn; cz folds 2 on the control's parity, 2 on the target's, 6 on their sum, each negated by its own constant
unfoldable pub terms_by : Op → List Row → List Term → List Term
unfolding row_of add_term
terms_by (flip q) rs ts = ts
terms_by (phase k q) rs ts = rotate k (row_of q rs) ts
terms_by (cnot c t) rs ts = ts
terms_by (cz c t) rs ts = rotate 6 (both (row_of c rs) (row_of t rs)) (rotate 2 (row_of t rs) (rotate 2 (row_of c rs) ts))
terms_by other rs ts = ts

-- one gate more
unfoldable pub absorb : Op → Block → Block
unfolding entered rows_by terms_by
absorb o b = let rs = entered o b.rows in record { rows = rows_by o rs; terms = terms_by o rs b.terms }

-- a run of gates
unfoldable pub fold : List Op → Block → Block
unfolding absorb
fold [] b = b
fold (o ∷ os) b = fold os (absorb o b)
