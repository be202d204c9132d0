-- A text that is written piece by piece: what is written so far, and what is left of it.
use mathlib.Core.Path.{◌≡◌, refl, sym, ap, ◌∙◌}
use mathlib.Core.List.{List, [], ◌++◌, append_assoc, append-nil}
use Prim.Native.Nat.{ℕ, ◌+◌, ◌≤◌, ◌<◌}
use native.Mathlib.Numerals.{add-one}
use native.Mathlib.Omega.{arith}
use lib.ListN.{length, get_or, drop, drop_of_length-le}
use lib.Seq.{drop-cons}
use Rattle.text.specs.Printing.{spaced_text, all_spaced}
use Rattle.text.specs.Clauses.{Prints}
use Rattle.text.proofs.Pasting.{pasted-none}
use Rattle.text.proofs.Sizes.{prints-both}

pub record Begun (most : ℕ) (rest whole room : List ℕ) (at : ℕ) (room' : List ℕ) (next : ℕ) : Type 0 where
  pub so_far : List ℕ
  pub all : so_far ++ rest ≡ whole
  pub prints : Prints most so_far room at room' next

pub begun-none : (whole room : List ℕ) (at : ℕ) → Begun 0 whole whole room at room at
begun-none whole room at = record {
  so_far = [];
  all = refl;
  prints = record { writes = record { text = sym (pasted-none room at); behind = omega arith }; short = omega arith };
}

pub begun_more : (k m : ℕ) (piece rest whole room : List ℕ) (at : ℕ) (room' : List ℕ) (next : ℕ) (room'' : List ℕ) (last : ℕ) → at + (k + m) ≤ length room
    → Begun k (piece ++ rest) whole room at room' next → Prints m piece room' next room'' last → Begun (k + m) rest whole room at room'' last
begun_more k m piece rest whole room at room' next room'' last h b p = record {
  so_far = b.so_far ++ piece;
  all = append_assoc b.so_far piece rest ∙ b.all;
  prints = prints-both k m b.so_far room at room' next h b.prints piece room'' last p;
}

pub begun_all : (k : ℕ) (rest whole room : List ℕ) (at : ℕ) (room' : List ℕ) (next : ℕ) → rest ≡ [] → Begun k rest whole room at room' next → Prints k whole room at room' next
begun_all k rest whole room at room' next e b =
    let all : b.so_far ≡ whole = sym (append-nil b.so_far) ∙ ap (λ (l : List ℕ). b.so_far ++ l) (sym e) ∙ b.all in
    rw (← all) b.prints

-- ---- one number more, and none left

pub spaced-more : (ns : List ℕ) (i : ℕ) → i < length ns → all_spaced (drop i ns) ≡ spaced_text (get_or ns i 0) ++ all_spaced (drop (i + 1) ns)
unfolding all_spaced
spaced-more ns i h = rw (drop-cons ns i 0 h, add-one i)

pub spaced-none : (ns : List ℕ) (i : ℕ) → length ns ≤ i → all_spaced (drop i ns) ≡ []
unfolding all_spaced
spaced-none ns i h = rw (drop_of_length-le ns h)
