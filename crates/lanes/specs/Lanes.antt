-- Sums of turns for one wire with all others, and the test of them.
use Rattle.std.specs.Prelude.{◌≡◌, Bool, false, not, ◌&&◌, cond, List, ◌++◌, ℕ, zero, ◌+◌, ◌*◌, ◌/◌, ◌%◌, ◌≤◌, ◌<◌, length, get_or, eqb}
use Rattle.rules.specs.Bit.{bit, xor}
use Rattle.rules.specs.Fold.{Term}
use Rattle.parity.specs.View.{val}
use Rattle.rows.specs.Rows.{rows_of}
use Rattle.acting.specs.Alike.{each}
use Rattle.acting.specs.Table.{total}
use Rattle.lanes.specs.declared.Lanes.{Lanes}

-- the digits of a word, of which a parity has two
abbrev pub half : ℕ
half = 64

-- the wire that stands at digit j of the word that has wire i
abbrev pub near : ℕ → ℕ → ℕ
near i j = half * (i / half) + j

-- every column of p is below n
pub record Inside (p n : ℕ) : Type 0 where
  pub none : (j : ℕ) → n ≤ j → bit p j ≡ false

-- r has the columns of p below i in i's own word, at the low end
pub record Beside (p i r : ℕ) : Type 0 where
  pub low : (j : ℕ) → j < i % half → bit r j ≡ bit p (near i j)
  pub inside : Inside r (i % half)

abbrev pub term : ℕ → ℕ → Term
term p k = record { parity = p; turn = k }

-- the parities that have two wires, and three
abbrev pub two : ℕ → ℕ → ℕ → Bool
two i j p = bit p i && bit p j

abbrev pub three : ℕ → ℕ → ℕ → ℕ → Bool
three i j k p = bit p i && bit p j && bit p k

unfoldable pub odd : ℕ → Bool
odd m = eqb (m % 2) 1

-- the sums of the turns ts: those on wire i; with a second wire, by digits; with two others of which the first is of i's word and below it, whether they are odd
pub record Holds (i : ℕ) (ts : List Term) (s : Lanes) : Type 0 where
  pub turn : s.turn ≡ total (λ p. bit p i) ts % 8
  pub low : (j : ℕ) → bit (val s.low) j ≡ odd (total (two i j) ts)
  pub high : (j : ℕ) → bit (val s.high) j ≡ odd (total (two i j) ts / 2)
  pub rows : (j k : ℕ) → j < i % half → bit (get_or (rows_of s.odds) j zero) k ≡ odd (total (three i (near i j) k) ts)

-- no turn is summed
pub record None (s : Lanes) : Type 0 where
  pub turn : s.turn ≡ 0
  pub low : val s.low ≡ 0
  pub high : val s.high ≡ 0
  pub rows : (j : ℕ) → get_or (rows_of s.odds) j zero ≡ 0

-- the parity p is added to each of the rows in `chosen`
pub record Adds (chosen p : ℕ) (rows rows' : List ℕ) : Type 0 where
  pub at : (j : ℕ) → j < length rows → get_or rows' j zero ≡ xor (get_or rows j zero) (cond (bit chosen j) p zero)

-- whatever turns were summed, then these are too
pub record Notes (i : ℕ) (new : List Term) (s s' : Lanes) : Type 0 where
  pub holds : (ts : List Term) → Holds i ts s → Holds i (ts ++ new) s'

-- the first m rows have none of the columns below n
unfoldable pub even_rows : ℕ → ℕ → List ℕ → Bool
unfolding each bit
even_rows m n rows = each m (λ j. each n (λ k. not (bit (get_or rows j zero) k)))

-- the turns on wire i make 0 modulo 8, on it and a lower one 0 modulo 4, on it, a lower one of its word and any third 0 modulo 2
unfoldable pub settled_of : ℕ → ℕ → List Term → Bool
unfolding each total bit odd
settled_of i n ts =
    eqb (total (λ p. bit p i) ts % 8) 0
    && (each i (λ j. eqb (total (two i j) ts % 4) 0) && each (i % half) (λ j. each n (λ k. not (odd (total (three i (near i j) k) ts)))))

-- r is that test, whatever turns were summed
pub record Settles (i n : ℕ) (s : Lanes) (r : Bool) : Type 0 where
  pub tells : (ts : List Term) → Holds i ts s → r ≡ settled_of i n ts
