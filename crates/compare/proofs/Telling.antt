-- The test of a wire from the two runs, and the tests of all wires.
use mathlib.Core.Path.{◌≡◌, refl, sym, ap, ap₂, ◌∙◌, subst}
use mathlib.Core.Bool.{Bool, true, false}
use mathlib.Core.List.{List, [], ◌∷◌, ◌++◌}
use Prim.Native.Nat.{ℕ, zero, ◌-◌, ◌%◌, ◌≤◌}
use native.Mathlib.Nat.{mod-mod}
use lib.IntN.{ℤ}
use lib.ListN.{length}
use Rattle.rules.specs.Limits.{max_columns}
use Rattle.rules.specs.Meaning.{Op, flip, phase, cnot, cz, other}
use Rattle.rules.specs.Fold.{Term, signed}
use Rattle.rules.specs.Close.{units}
use Rattle.parity.specs.declared.Parity.{Parity}
use Rattle.rows.specs.Rows.{rows_of}
use Rattle.rows.proofs.Room.{row_count}
use Rattle.acting.specs.Alike.{each}
use Rattle.acting.specs.Table.{Table, begin, act, turns, turns_of, minus, apart, quiet}
use Rattle.lanes.specs.Lanes.{None, Holds, Notes, settled_of, Settles}
use Rattle.lanes.specs.declared.Lanes.{Lanes}
use Rattle.lanes.proofs.Noting.{holds-none}
use Rattle.lanes.proofs.Settling.{settled-quiet}
use Rattle.compare.specs.View.{ops_of, backed, Passes, wire_test}
use Rattle.compare.proofs.Acting.{table}
use Rattle.compare.proofs.Running.{backed-append}

-- ---- rooms of the same length

pub rows-length : (a b : List Parity) → length b ≡ length a → length (rows_of b) ≡ length (rows_of a)
rows-length a b e = row_count b ∙ e ∙ sym (row_count a)

pub test-as : (a b : List Parity) → length b ≡ length a → (us vs : List ℤ) (i : ℕ) (r : Bool) → r ≡ wire_test (length (rows_of b)) us vs i → r ≡ wire_test (length (rows_of a)) us vs i
test-as a b e us vs i r h = h ∙ ap (λ (z : ℕ). wire_test z us vs i) (rows-length a b e)

pub from-begin : (os : List Op) (i : ℕ) (back : Bool) (held : List ℕ) (f w : ℕ) (s : Lanes) (b' : Table) (s' : Lanes)
    → Passes os i back (table held f) s b' s' → held ≡ units w zero → f ≡ zero → Passes os i back (begin w) s b' s'
unfolding begin
from-begin os i back held f w s b' s' h e g = subst (λ (b : Table). Passes os i back b s b' s') (ap₂ table e g) h

-- ---- turns as they are, and negated

-- a turn that is reduced already
signed-again : (f : Bool) (k : ℕ) → signed false (signed f k) ≡ signed f k
signed-again true k = mod-mod (8 - k % 8) 8
signed-again false k = mod-mod k 8

backed-turns : (o : Op) (b : Table) → backed false (turns o b) ≡ turns o b
unfolding backed turns
backed-turns (flip q) b = refl
backed-turns (phase k q) b = simp signed-again
backed-turns (cnot c t) b = refl
backed-turns (cz c t) b = simp signed-again
backed-turns other b = refl

backed-same : (os : List Op) (b : Table) → backed false (turns_of os b) ≡ turns_of os b
unfolding backed turns_of
backed-same [] b = refl
backed-same (o ∷ os) b = backed-append false (turns o b) (turns_of os (act o b)) ∙ ap₂ ◌++◌ (backed-turns o b) (backed-same os (act o b))

backed-minus : (ts : List Term) → backed true ts ≡ minus ts
unfolding backed minus
backed-minus [] = refl
backed-minus (t ∷ ts) = ap (λ (l : List Term). record { parity = t.parity; turn = signed true t.turn } ∷ l) (backed-minus ts)

-- ---- one wire

pub wire-told : (w w' n i : ℕ) (us vs : List ℤ) (a b c : Lanes) (r : Bool) → None a
    → Notes i (backed false (turns_of (ops_of us) (begin w))) a b → Notes i (backed true (turns_of (ops_of vs) (begin w'))) b c → w' ≡ w → n ≡ w
    → Settles i n c r → r ≡ wire_test w us vs i
unfolding wire_test apart
wire-told w w' n i us vs a b c r h f g ew en t =
    let first : Holds i (turns_of (ops_of us) (begin w)) b =
    rw (backed-same (ops_of us) (begin w)) at (f.holds [] (holds-none i a h)) in
    let second : Holds i (turns_of (ops_of us) (begin w) ++ minus (turns_of (ops_of vs) (begin w))) c =
    rw (ew, backed-minus (turns_of (ops_of vs) (begin w))) at (g.holds (turns_of (ops_of us) (begin w)) first) in
    t.tells (turns_of (ops_of us) (begin w) ++ minus (turns_of (ops_of vs) (begin w))) second ∙ ap (λ (z : ℕ). settled_of i z (turns_of (ops_of us) (begin w) ++ minus (turns_of (ops_of vs) (begin w)))) en

-- all wires
pub all_told : (w : ℕ) (us vs : List ℤ) → w ≤ max_columns → each w (wire_test w us vs) ≡ quiet w (apart w (ops_of us) (ops_of vs))
unfolding wire_test
all_told w us vs h = settled-quiet (apart w (ops_of us) (ops_of vs)) w h
