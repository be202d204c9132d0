-- A template byte by byte: one more, one that isn't there, and none left; read, and written.
use mathlib.Core.Path.{◌≡◌, refl}
use mathlib.Core.List.{List, [], ◌∷◌, ◌++◌, map}
use Prim.Native.Nat.{ℕ, zero, suc, ◌+◌, ◌≤◌, ◌<◌}
use native.Mathlib.Numerals.{add-one}
use native.Mathlib.Omega.{arith}
use lib.IntN.{ℤ}
use lib.ListN.{length, get_or, drop, length-append, drop_of_length-le}
use lib.Seq.{drop-cons}
use mir.Syntax.{w32}
use mir.Val.{SFits}
use Rattle.std.specs.Borrow.{Bor}
use Rattle.text.specs.Bytes.{lf}
use Rattle.text.specs.Printing.{printed, ended_text}
use Rattle.text.specs.Reading.{none, found}
use Rattle.text.proofs.Sizes.{ended-short}
use Rattle.qasm.specs.Statement.{piece, spell_by, read_piece, read_by}
use Rattle.qasm.specs.Clauses.{piece_size, template_size}

-- ---- the table

-- what an element of some slices shows
pub now_at : (xs : List (Bor (List ℕ))) (d : Bor (List ℕ)) (c : ℕ) → (get_or xs c d).now ≡ get_or (map (λ (b : Bor (List ℕ)). b.now) xs) c d.now
now_at [] d c = refl
now_at (x ∷ xs) d zero = refl
now_at (x ∷ xs) d (suc c) = now_at xs d c

-- ---- read

module _ (t : List ℕ) (i : ℕ) (h : i < length t) (bs : List ℕ) (row : List ℤ) where
  pub by-stop : read_piece (get_or t i 0) bs row ≡ none → read_by (drop i t) bs row ≡ none
  unfolding read_by
  by-stop e = rw (drop-cons t i 0 h, e)

  pub by-once : (now : List ℤ) (rest : List ℕ) → read_piece (get_or t i 0) bs row ≡ found now rest → read_by (drop (i + 1) t) rest now ≡ read_by (drop i t) bs row
  unfolding read_by
  by-once now rest e = rw (drop-cons t i 0 h, e, add-one i)

pub by_end : (t : List ℕ) (i : ℕ) (bs : List ℕ) (row : List ℤ) → length t ≤ i → read_by (drop i t) bs row ≡ found row bs
unfolding read_by
by_end t i bs row h = rw (drop_of_length-le t h)

-- ---- written

pub printed_short : (v : ℤ) → SFits w32 v → length (printed v) ≤ 11
unfolding ended_text
printed_short v f = omega (arith, ended-short lf v f, length-append (printed v) (lf ∷ []))

module _ (t : List ℕ) (i : ℕ) (h : i < length t) where
  pub spell-more : (row : List ℤ) → spell_by (drop i t) row ≡ piece (get_or t i 0) row ++ spell_by (drop (i + 1) t) row
  unfolding spell_by
  spell-more row = rw (drop-cons t i 0 h, add-one i)

  pub size-more : template_size (drop i t) ≡ piece_size (get_or t i 0) + template_size (drop (i + 1) t)
  unfolding template_size
  size-more = rw (drop-cons t i 0 h, add-one i)

pub spell-none : (t : List ℕ) (i : ℕ) (row : List ℤ) → length t ≤ i → spell_by (drop i t) row ≡ []
unfolding spell_by
spell-none t i row h = rw (drop_of_length-le t h)
