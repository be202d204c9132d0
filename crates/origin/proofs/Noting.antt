-- A note in the place of a statement's LF; and gates one by one.
use mathlib.Core.Path.{◌≡◌, sym, ap, ◌∙◌}
use mathlib.Core.List.{List, [], ◌∷◌, ◌++◌}
use Prim.Native.Nat.{ℕ, suc, ◌+◌, ◌-◌, ◌*◌, ◌^◌, ◌≤◌, ◌<◌}
use native.Mathlib.Omega.{arith}
use lib.IntN.{ℤ}
use lib.ListN.{length, get_or, drop, length-append, take-append-drop}
use lib.Seq.{length-take-le, drop-cons, drop-length, drop-drop}
use Rattle.rules.specs.Limits.{width}
use Rattle.text.specs.Bytes.{bytes, lf, pasted}
use Rattle.text.specs.Printing.{decimal, all_spaced, named_text}
use Rattle.text.specs.Clauses.{Writes, Prints, named_size}
use Rattle.text.proofs.Pasting.{length-pasted, pasted-none, pasted-one, pasted-over, pasted-both}
use Rattle.text.proofs.Sizes.{decimal-short, prints-next, prints-both}
use Rattle.qasm.proofs.Gates.{row_at}
use Rattle.origin.specs.declared.Source.{Source}
use Rattle.origin.specs.Origins.{unended, line_note, lines_note}
use Rattle.origin.specs.Clauses.{row_text, rows_text, note_size}

-- ---- the last byte

-- a text is what stands before its last byte, and that byte
last_byte : (t : List ℕ) → 1 ≤ length t → unended t ++ (get_or t (length t - 1) 0 ∷ []) ≡ t
last_byte t h =
    let k : ℕ = length t - 1 in
    let e : suc k ≡ length t = omega arith in
    let d : drop k t ≡ get_or t k 0 ∷ [] = drop-cons t k 0 (omega arith) ∙ ap (λ (l : List ℕ). get_or t k 0 ∷ l) (ap (λ (j : ℕ). drop j t) e ∙ drop-length t) in
    ap (λ (l : List ℕ). unended t ++ l) (sym d) ∙ take-append-drop k t

-- what is written over the last byte
over_last : (room : List ℕ) (at : ℕ) (t note : List ℕ) → 1 ≤ length note → at + length t + length note ≤ length room
    → pasted (pasted room at t) (at + (length t - 1)) note ≡ pasted room at (unended t ++ note)
over_last room at [] note h fits =
    let k : at + (0 - 1) ≡ at = omega arith in
    rw (pasted-none room at, k)
over_last room at (b ∷ bs) note h fits =
    let t : List ℕ = b ∷ bs in
    let a : List ℕ = unended t in
    let x : ℕ = get_or t (length t - 1) 0 in
    let size : length a ≡ length t - 1 = length-take-le (length t - 1) t (omega arith) in
    let here : List ℕ = pasted room at a in
    let k : at + (length t - 1) ≡ at + length a = omega arith in
    ap (λ (l : List ℕ). pasted (pasted room at l) (at + (length t - 1)) note) (sym (last_byte t (omega arith)))
    ∙ ap (λ (l : List ℕ). pasted l (at + (length t - 1)) note) (sym (pasted-both room at a (x ∷ []) (omega arith)))
    ∙ ap (λ (j : ℕ). pasted (pasted here (at + length a) (x ∷ [])) j note) k
    ∙ ap (λ (l : List ℕ). pasted l (at + length a) note) (sym (pasted-one here (at + length a) x (omega (arith, length-pasted room at a (omega arith)))))
    ∙ pasted-over here (at + length a) x note h
    ∙ pasted-both room at a note (omega arith)

-- a statement, and a note that begins where its last byte stands
pub noted : (m n : ℕ) (t note room : List ℕ) (at : ℕ) (room' : List ℕ) (next : ℕ) (room'' : List ℕ) (last : ℕ) → 1 ≤ length note → at + (m + n) ≤ length room
    → Prints m t room at room' next → Prints n note room' (at + (next - at - 1)) room'' last → Prints (m + n) (unended t ++ note) room at room'' last
noted m n t note room at room' next room'' last some fits p q =
    let k : at + (next - at - 1) ≡ at + (length t - 1) = omega (arith, p.writes.behind) in
    let size : length (unended t) ≡ length t - 1 = length-take-le (length t - 1) t (omega arith) in
    record {
      writes = record {
        text = q.writes.text ∙ ap (λ (l : List ℕ). pasted l (at + (next - at - 1)) note) p.writes.text ∙ ap (λ (j : ℕ). pasted (pasted room at t) j note) k
            ∙ over_last room at t note some (omega (arith, p.short, q.short));
        behind = omega (arith, q.writes.behind, k, length-append (unended t) note, size);
      };
      short = omega (arith, length-append (unended t) note, size, p.short, q.short);
    }

-- there is room for it
pub noted-room : (m n : ℕ) (t room : List ℕ) (at : ℕ) (room' : List ℕ) (next : ℕ) → at + (m + n) ≤ length room → Prints m t room at room' next → at + (next - at - 1) + n ≤ length room'
noted-room m n t room at room' next fits p = omega (arith, p.short, p.writes.behind, ap length p.writes.text, length-pasted room at t (omega (arith, p.short)))

-- ---- gate by gate

pub rows_more : (s : Source) (n : ℕ) (ns : List ℤ) (i : ℕ) → i < n → rows_text s (n - i) (drop (width * i) ns) ≡ row_text s (row_at ns i) ++ rows_text s (n - (i + 1)) (drop (width * (i + 1)) ns)
unfolding rows_text
rows_more s n ns i h =
    let e : n - i ≡ suc (n - (i + 1)) = omega arith in
    let j : width * i + width ≡ width * (i + 1) = omega arith in
    rw (e, drop-drop width (width * i) ns, j)

pub rows_none : (s : Source) (n : ℕ) (ns : List ℤ) (i : ℕ) → n ≤ i → rows_text s (n - i) (drop (width * i) ns) ≡ []
unfolding rows_text
rows_none s n ns i h =
    let e : n - i ≡ 0 = omega arith in
    rw e

-- ---- the lines of a block

module _ (a b : ℕ) (small : a < 2 ^ 32) (room : List ℕ) (at : ℕ) (fits : at + note_size ≤ length room) (room₁ : List ℕ) (n₁ : ℕ) (word : Writes (bytes " // lines ") room at room₁ n₁) where
  said : Prints 10 (bytes " // lines ") room at room₁ n₁
  said = record { writes = word; short = omega arith }

  pub word_room : n₁ + 25 ≤ length room₁
  word_room = prints-next 10 25 (bytes " // lines ") room at room₁ n₁ fits said

  pub from-room : n₁ + length (decimal a) ≤ length room₁
  from-room = omega (arith, word_room, decimal-short a small)

  module _ (room₂ : List ℕ) (n₂ : ℕ) (first : Writes (decimal a) room₁ n₁ room₂ n₂) where
    begun : Prints 10 (decimal a) room₁ n₁ room₂ n₂
    begun = record { writes = first; short = decimal-short a small }

    pub to_room : n₂ + named_size 3 1 ≤ length room₂
    to_room = prints-next 10 15 (decimal a) room₁ n₁ room₂ n₂ word_room begun

    pub lines_noted : (room₃ : List ℕ) (n₃ : ℕ) → Prints (named_size 3 1) (named_text (bytes " to") (b ∷ [])) room₂ n₂ room₃ n₃ → Prints note_size (lines_note a b) room at room₃ n₃
    unfolding lines_note
    lines_noted room₃ n₃ p =
        prints-both 10 25 (bytes " // lines ") room at room₁ n₁ fits said (decimal a ++ named_text (bytes " to") (b ∷ [])) room₃ n₃
        (prints-both 10 15 (decimal a) room₁ n₁ room₂ n₂ word_room begun (named_text (bytes " to") (b ∷ [])) room₃ n₃ p)

-- a note has a byte at least
pub line-some : (n : ℕ) → 1 ≤ length (line_note n)
unfolding line_note named_text
line-some n = omega (arith, length-append (bytes " // line") (all_spaced (n ∷ []) ++ lf ∷ []))

pub lines-some : (a b : ℕ) → 1 ≤ length (lines_note a b)
unfolding lines_note
lines-some a b = omega (arith, length-append (bytes " // lines ") (decimal a ++ named_text (bytes " to") (b ∷ [])))
