-- The table, by tests that compute: each spelling is sound and names the numbers that its code uses, and no two begin alike.
use mathlib.Core.Path.{◌≡◌, refl, sym}
use mathlib.Core.Bool.{Bool, true, false, not, ◌&&◌, ◌||◌, cond, false≢true}
use mathlib.Core.List.{List, [], ◌∷◌}
use Prim.Native.Nat.{ℕ, zero, suc, ◌+◌, ◌≤◌, ◌<◌}
use native.Mathlib.Nat.{add-zero, zero-add}
use native.Mathlib.Omega.{arith}
use borrow.Author.Tests.{ltb-true, ltb-false, leb-true}
use lib.Dec.{eqb, leb, ltb}
use lib.ListN.{length, get_or, get_or-eq_default}
use Rattle.rules.specs.Limits.{last_code}
use Rattle.rules.specs.Gate.{second, bitted, third, turned}
use Rattle.rules.proofs.Bits.{split, and_left, and_right}
use Rattle.qasm.specs.Table.{templates, template, written, spelled, field_of}
use Rattle.qasm.specs.Import.{wires_line, bits_line}
use Rattle.qasm.specs.Clauses.{template_size, statement_size, register_size}
use Rattle.qasm.proofs.Templates.{names, plain, sound, apart}

-- ---- one test for each spelling

abbrev agree : Bool → Bool → Bool
agree true b = b
agree false b = not b

agreed : (a b : Bool) → agree a b ≡ true → a ≡ b
agreed true b h = sym h
agreed false false h = refl
agreed false true h = absurd (false≢true h)

-- a byte of a template, and a template, where no index has more than four digits
abbrev pub short_piece : ℕ → ℕ
short_piece b = cond (eqb (field_of b) 0) 1 (cond (eqb (field_of b) 4) 11 4)

unfoldable pub short_size : List ℕ → ℕ
short_size [] = 0
short_size (b ∷ t) = short_piece b + short_size t

-- it names what its code uses
abbrev uses : ℕ → List ℕ → Bool
uses c t = names 1 t && (agree (names 2 t) (second c || bitted c) && (agree (names 3 t) (third c) && agree (names 4 t) (turned c)))

abbrev okay : ℕ → List ℕ → Bool
okay c t = (leb (template_size t) statement_size && (leb (short_size t) 31 && sound t)) && (not (written t) || (plain t && uses c t))

-- a test of each code's spelling, from code c on
unfoldable pub every : (ℕ → List ℕ → Bool) → ℕ → List (List ℕ) → Bool
every f c [] = true
every f c (t ∷ ts) = f c t && every f (suc c) ts

pub every-at : (f : ℕ → List ℕ → Bool) (c i : ℕ) (ts : List (List ℕ)) → every f c ts ≡ true → i < length ts → f (c + i) (get_or ts i []) ≡ true
unfolding every
every-at f c i [] h g = absurd (omega arith)
every-at f c zero (t ∷ ts) h g = rw (add-zero c) (and_left (f c t) (every f (suc c) ts) h)
every-at f c (suc i) (t ∷ ts) h g =
    let k : c + suc i ≡ suc c + i = omega arith in
    rw k (every-at f (suc c) i ts (and_right (f c t) (every f (suc c) ts) h) (omega arith))

tested : every okay 0 templates ≡ true
unfolding every templates sound names short_size template_size field_of
tested = refl

-- 0 to 27
sized : length templates ≡ suc last_code
unfolding templates
sized = refl

pub beyond : (c : ℕ) → last_code < c → template c ≡ []
unfolding template
beyond c h =
    let far : length templates ≤ c = omega (arith, sized) in
    get_or-eq_default templates [] far

okay-code : (c : ℕ) → c ≤ last_code → okay c (template c) ≡ true
unfolding template
okay-code c h = rw (zero-add c) at (every-at okay 0 c templates tested (omega (arith, sized)))

-- ---- what it shows

-- of every code
pub record Fine (t : List ℕ) : Type 0 where
  pub size : template_size t ≤ statement_size
  pub short : short_size t ≤ 31
  pub is-sound : sound t ≡ true

fine_of : (c : ℕ) (t : List ℕ) → okay c t ≡ true → Fine t
fine_of c t h =
    let more : Bool = leb (short_size t) 31 && sound t in
    let a = and_left (leb (template_size t) statement_size && more) (not (written t) || (plain t && uses c t)) h in
    let b = and_right (leb (template_size t) statement_size) more a in
    record {
      size = leb-true (template_size t) statement_size (and_left (leb (template_size t) statement_size) more a);
      short = leb-true (short_size t) 31 (and_left (leb (short_size t) 31) (sound t) b);
      is-sound = and_right (leb (short_size t) 31) (sound t) b;
    }

pub fine : (c : ℕ) → Fine (template c)
unfolding template_size short_size sound
fine c =
    split (ltb last_code c)
    (λ e. rw (beyond c (ltb-true last_code c e)) (record { size = omega arith; short = omega arith; is-sound = refl }))
    (λ e. fine_of c (template c) (okay-code c (ltb-false last_code c e)))

-- of a code that is spelled
pub record Uses (c : ℕ) (t : List ℕ) : Type 0 where
  pub opens : plain t ≡ true
  pub has_first : names 1 t ≡ true
  pub has-second : names 2 t ≡ (second c || bitted c)
  pub has-third : names 3 t ≡ third c
  pub has-turn : names 4 t ≡ turned c

uses-of : (c : ℕ) (t : List ℕ) → okay c t ≡ true → written t ≡ true → Uses c t
uses-of c t h w =
    let d = rw w at (and_right (leb (template_size t) statement_size && (leb (short_size t) 31 && sound t)) (not (written t) || (plain t && uses c t)) h) in
    let u = and_right (plain t) (uses c t) d in
    let last : Bool = agree (names 3 t) (third c) && agree (names 4 t) (turned c) in
    let v = and_right (names 1 t) (agree (names 2 t) (second c || bitted c) && last) u in
    let x = and_right (agree (names 2 t) (second c || bitted c)) last v in
    record {
      opens = and_left (plain t) (uses c t) d;
      has_first = and_left (names 1 t) (agree (names 2 t) (second c || bitted c) && last) u;
      has-second = agreed (names 2 t) (second c || bitted c) (and_left (agree (names 2 t) (second c || bitted c)) last v);
      has-third = agreed (names 3 t) (third c) (and_left (agree (names 3 t) (third c)) (agree (names 4 t) (turned c)) x);
      has-turn = agreed (names 4 t) (turned c) (and_right (agree (names 3 t) (third c)) (agree (names 4 t) (turned c)) x);
    }

pub spelled-most : (c : ℕ) → spelled c ≡ true → c ≤ last_code
unfolding spelled
spelled-most c h =
    split (ltb last_code c)
    (λ e. absurd (false≢true (rw (beyond c (ltb-true last_code c e)) at h)))
    (λ e. ltb-false last_code c e)

pub spelled_at : (c : ℕ) → spelled c ≡ true → c < length templates
spelled_at c h = omega (arith, sized, spelled-most c h)

pub uses-code : (c : ℕ) → spelled c ≡ true → Uses c (template c)
unfolding spelled
uses-code c h = uses-of c (template c) (okay-code c (spelled-most c h)) h

-- ---- no two begin alike

abbrev distinct : List ℕ → List ℕ → Bool
distinct t u = not (written t) || (not (written u) || apart t u)

unfoldable pub against : List ℕ → List (List ℕ) → Bool
against t [] = true
against t (u ∷ us) = distinct t u && against t us

pairs : List (List ℕ) → Bool
pairs [] = true
pairs (t ∷ ts) = against t ts && pairs ts

paired : pairs templates ≡ true
unfolding pairs against templates apart field_of
paired = refl

against-at : (t : List ℕ) (j : ℕ) (us : List (List ℕ)) → against t us ≡ true → j < length us → distinct t (get_or us j []) ≡ true
unfolding against
against-at t j [] h g = absurd (omega arith)
against-at t zero (u ∷ us) h g = and_left (distinct t u) (against t us) h
against-at t (suc j) (u ∷ us) h g = against-at t j us (and_right (distinct t u) (against t us) h) (omega arith)

pair-at : (i j : ℕ) (ts : List (List ℕ)) → pairs ts ≡ true → i < j → j < length ts → distinct (get_or ts i []) (get_or ts j []) ≡ true
unfolding pairs
pair-at i j [] h g k = absurd (omega arith)
pair-at i zero (t ∷ ts) h g k = absurd (omega arith)
pair-at zero (suc j) (t ∷ ts) h g k = against-at t j ts (and_left (against t ts) (pairs ts) h) (omega arith)
pair-at (suc i) (suc j) (t ∷ ts) h g k = pair-at i j ts (and_right (against t ts) (pairs ts) h) (omega arith) (omega arith)

pub apart-codes : (c d : ℕ) → c < d → spelled c ≡ true → spelled d ≡ true → apart (template c) (template d) ≡ true
unfolding spelled template
apart-codes c d h p q = rw (p, q) at (pair-at c d templates paired h (omega (arith, sized, spelled-most d q)))

-- another template, tried against each
pub apart-first : (t : List ℕ) → against t templates ≡ true → written t ≡ true → (c : ℕ) → spelled c ≡ true → apart t (template c) ≡ true
unfolding spelled template
apart-first t h w c q = rw (w, q) at (against-at t c templates h (omega (arith, sized, spelled-most c q)))

-- ---- the registers' templates are as long

pub wires-size : template_size wires_line ≡ register_size
unfolding template_size field_of
wires-size = refl

pub bits-size : template_size bits_line ≡ register_size
unfolding template_size field_of
bits-size = refl
