-- The two first bytes of a statement tell its code: no other spelling can stand there.
use mathlib.Core.Path.{◌≡◌, refl, sym, ap, ◌∙◌}
use mathlib.Core.Bool.{Bool, true, ◌&&◌, false≢true}
use mathlib.Core.List.{List, [], ◌∷◌}
use Prim.Native.Nat.{ℕ, zero, suc, ◌+◌, ◌≤◌, ◌<◌}
use native.Mathlib.Nat.{zero-add}
use native.Mathlib.Omega.{arith}
use borrow.Author.Tests.{eqb-true, ltb-true, ltb-false}
use lib.Dec.{eqb, ltb}
use lib.IntN.{ℤ}
use lib.ListN.{get_or}
use Rattle.rules.specs.Limits.{last_code}
use Rattle.rules.proofs.Bits.{split, same, and_left, and_right}
use Rattle.text.specs.Reading.{Found, none, found, word}
use Rattle.text.proofs.Lines.{absent, goes_on, word_read}
use Rattle.qasm.specs.Table.{templates, template, written, spelled, field_of}
use Rattle.qasm.specs.Statement.{bare, read_piece, read_by, read_as, or_else, read_first, any_gate}
use Rattle.qasm.specs.Clauses.{first_part, second_part}
use Rattle.qasm.proofs.Templates.{read-self}
use Rattle.qasm.proofs.Codes.{beyond, every, every-at, spelled-most, spelled_at}
use Rattle.qasm.proofs.Statements.{first_read, as_read}

-- the code that they tell
abbrev pub guess : List ℕ → ℕ
guess bs = first_part (get_or bs 0 0) + second_part (get_or bs 1 0)

-- ---- the table, by a test that computes

-- a spelling begins with two bytes that stand for themselves and tell its code
abbrev tells : ℕ → List ℕ → Bool
tells c [] = true
tells c (a ∷ []) = true
tells c (a ∷ b ∷ t) = eqb (field_of a) 0 && (eqb (field_of b) 0 && eqb (first_part a + second_part b) c)

told : every tells 0 templates ≡ true
unfolding every templates field_of
told = refl

tell-code : (c : ℕ) → spelled c ≡ true → tells c (template c) ≡ true
unfolding template
tell-code c h = rw (zero-add c) at (every-at tells 0 c templates told (spelled_at c h))

-- ---- what is read tells its code

self-read : (b : ℕ) (bs : List ℕ) (row now : List ℤ) (rest : List ℕ) → eqb (field_of b) 0 ≡ true → read_piece b bs row ≡ found now rest → bs ≡ b ∷ rest
self-read b bs row now rest e h =
    let o = goes_on (word (b ∷ []) bs) (λ u left. found row left) now rest (sym (read-self b bs row e) ∙ h) in
    let end : o.1.0 ≡ rest = cc in
    word_read (b ∷ []) bs o.1.0 o.0 o.1.1.0 ∙ ap (λ (l : List ℕ). b ∷ l) end

by-told : (c : ℕ) (t bs : List ℕ) (base row : List ℤ) (left : List ℕ) → written t ≡ true → tells c t ≡ true → read_by t bs base ≡ found row left → guess bs ≡ c
unfolding read_by
by-told c [] bs base row left w h e = absurd (false≢true w)
by-told c (a ∷ []) bs base row left w h e = absurd (false≢true w)
by-told c (a ∷ b ∷ t) bs base row left w h e =
    let more : Bool = eqb (field_of b) 0 && eqb (first_part a + second_part b) c in
    let g = and_right (eqb (field_of a) 0) more h in
    let o = goes_on (read_piece a bs base) (λ now rest. read_by (b ∷ t) rest now) row left e in
    let p = goes_on (read_piece b o.1.0 o.0) (λ now rest. read_by t rest now) row left o.1.1.1 in
    let one = self-read a bs base o.0 o.1.0 (and_left (eqb (field_of a) 0) more h) o.1.1.0 in
    let two = self-read b o.1.0 o.0 p.0 p.1.0 (and_left (eqb (field_of b) 0) (eqb (first_part a + second_part b) c) g) p.1.1.0 in
    ap guess (one ∙ ap (λ (l : List ℕ). a ∷ l) two) ∙ eqb-true (first_part a + second_part b) c (and_right (eqb (field_of b) 0) (eqb (first_part a + second_part b) c) g)

as-told : (c : ℕ) (bs : List ℕ) (row : List ℤ) (left : List ℕ) → read_as c bs ≡ found row left → guess bs ≡ c
unfolding spelled
as-told c bs row left e =
    let a = as_read c bs row left e in
    by-told c (template c) bs (bare c) row left a.0 (tell-code c a.0) a.1

-- ---- so no other code is tried

first-none : (n c : ℕ) (bs : List ℕ) → read_first n c bs ≡ none → (d : ℕ) → c ≤ d → d < c + n → read_as d bs ≡ none
unfolding read_first
first-none zero c bs e d h g = absurd (omega arith)
first-none (suc n) c bs e d h g =
    let s = both (read_as c bs) (read_first n (suc c) bs) e in
    same c d
    (λ i j. ap (λ (k : ℕ). read_as k bs) (sym i) ∙ s.0)
    (λ i j. first-none n (suc c) bs s.1 d (omega (arith, i)) (omega arith))
  where
    both : (o u : Found (List ℤ)) → or_else o u ≡ none → (o ≡ none) × (u ≡ none)
    both none u e = (refl, e)
    both (found v left) u e = absent v left (sym e)

no-code-zero : (bs : List ℕ) → read_as 0 bs ≡ none
unfolding read_as spelled template templates
no-code-zero bs = refl

any-guess : (bs : List ℕ) → guess bs ≤ last_code → any_gate bs ≡ read_as (guess bs) bs
unfolding any_gate
any-guess bs h = go (read_first last_code 1 bs) refl
  where
    go : (o : Found (List ℤ)) → read_first last_code 1 bs ≡ o → read_first last_code 1 bs ≡ read_as (guess bs) bs
    go none e =
        e ∙ sym (same (guess bs) 0
        (λ i j. ap (λ (k : ℕ). read_as k bs) i ∙ no-code-zero bs)
        (λ i j. first-none last_code 1 bs e (guess bs) (omega (arith, i)) (omega arith)))
    go (found row left) e =
        let d = first_read last_code 1 bs row left e in
        e ∙ sym (ap (λ (k : ℕ). read_as k bs) (as-told d.0 bs row left d.1) ∙ d.1)

any_none : (bs : List ℕ) → last_code < guess bs → any_gate bs ≡ none
unfolding any_gate
any_none bs h = go (read_first last_code 1 bs) refl
  where
    go : (o : Found (List ℤ)) → read_first last_code 1 bs ≡ o → read_first last_code 1 bs ≡ none
    go none e = e
    go (found row left) e =
        let d = first_read last_code 1 bs row left e in
        let a = as_read d.0 bs row left d.1 in
        absurd (omega (arith, as-told d.0 bs row left d.1, spelled-most d.0 a.0))

beyond-none : (c : ℕ) (bs : List ℕ) → last_code < c → read_as c bs ≡ none
unfolding read_as spelled
beyond-none c bs h = rw (beyond c h)

-- the code that they tell is the only one that has to be tried
pub any-as : (bs : List ℕ) → any_gate bs ≡ read_as (guess bs) bs
any-as bs =
    split (ltb last_code (guess bs))
    (λ e. let far = ltb-true last_code (guess bs) e in any_none bs far ∙ sym (beyond-none (guess bs) bs far))
    (λ e. any-guess bs (ltb-false last_code (guess bs) e))
