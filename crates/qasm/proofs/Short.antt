-- How long an exported text is: every list that export takes gives one that import reads.
use mathlib.Core.Path.{◌≡◌, refl}
use mathlib.Core.Bool.{false, true≢false}
use mathlib.Core.List.{List, [], ◌∷◌, ◌++◌}
use Prim.Native.Nat.{ℕ, zero, suc, ◌+◌, ◌*◌, ◌/◌, ◌≤◌, ◌<◌}
use native.Mathlib.Omega.{arith}
use borrow.Author.Tests.{eqb-true}
use lib.Dec.{eqb}
use lib.IntN.{ℤ, pos}
use lib.ListN.{length, get_or, take, drop, length-append}
use Rattle.rules.specs.Limits.{width, max_wires, max_bits}
use Rattle.rules.specs.Gate.{second, bitted, third}
use Rattle.rules.specs.Numbers.{nat_of}
use Rattle.rules.proofs.Bits.{split}
use Rattle.text.specs.Printing.{printed}
use Rattle.text.proofs.Decimals.{decimal-long}
use Rattle.qasm.specs.Table.{template, field_of}
use Rattle.qasm.specs.Statement.{piece, spell_by, statement_text}
use Rattle.qasm.specs.Import.{version_line, include_line, wires_line, bits_line}
use Rattle.qasm.specs.Export.{sized, register_text, opening_text, statements_text, qasm_text}
use Rattle.qasm.specs.Clauses.{opening_size}
use Rattle.qasm.proofs.Templates.{field_lt, ranged-at, piece-self, piece-number}
use Rattle.qasm.proofs.Codes.{short_piece, short_size, fine}
use Rattle.qasm.proofs.Pieces.{printed_short}
use Rattle.qasm.proofs.Statements.{code_of, Gated, row-fit, row-signless}
use Rattle.qasm.proofs.Gates.{Each}
use Rattle.qasm.proofs.Trips.{Spellable, rows_right}

-- ---- the numbers that are spelled: no index has more than four digits

record Small (row : List ℤ) : Type 0 where
  index : (k : ℕ) → k < 5 → eqb k 0 ≡ false → eqb k 4 ≡ false → length (printed (get_or row k (pos 0))) ≤ 4
  turn : length (printed (get_or row 4 (pos 0))) ≤ 11

four : (v : ℤ) (n : ℕ) → pos n ≡ v → n ≤ max_wires → length (printed v) ≤ 4
unfolding printed
four v n e h = rw (← e) (decimal-long 3 n (omega arith))

small-gate : (w b : ℕ) (row : List ℤ) → w ≤ max_wires → b ≤ max_bits → Gated w b row → Small row
small-gate w b row hw hb g = record { index = at; turn = printed_short (get_or row 4 (pos 0)) (record { sfits = omega (arith, ranged-at row 4 g.each) }) }
  where
    at : (k : ℕ) → k < 5 → eqb k 0 ≡ false → eqb k 4 ≡ false → length (printed (get_or row k (pos 0))) ≤ 4
    at zero h e f = absurd (true≢false e)
    at (suc zero) h e f = four (get_or row 1 (pos 0)) (nat_of (get_or row 1 (pos 0))) (row-signless w b row g.right).first (omega (arith, (row-fit w b row g.right).first-in))
    at (suc (suc zero)) h e f =
        let c : ℕ = code_of row in
        let r = row-fit w b row g.right in
        let n : ℕ = nat_of (get_or row 2 (pos 0)) in
        let fits : n ≤ max_wires = split (second c) (λ s. omega (arith, r.second-in s)) (λ s. split (bitted c) (λ t. omega (arith, r.bit_in t)) (λ t. omega (arith, r.no_second s t))) in
        four (get_or row 2 (pos 0)) n (row-signless w b row g.right).second fits
    at (suc (suc (suc zero))) h e f =
        let c : ℕ = code_of row in
        let r = row-fit w b row g.right in
        let n : ℕ = nat_of (get_or row 3 (pos 0)) in
        let fits : n ≤ max_wires = split (third c) (λ s. omega (arith, r.third-in s)) (λ s. omega (arith, r.no_third s)) in
        four (get_or row 3 (pos 0)) n (row-signless w b row g.right).third fits
    at (suc (suc (suc (suc zero)))) h e f = absurd (true≢false f)
    at (suc (suc (suc (suc (suc k))))) h e f = absurd (omega arith)

small_size : (n : ℕ) → n ≤ max_wires → Small (sized n)
small_size n h = record { index = at; turn = omega (arith, four (pos 0) 0 refl (omega arith)) }
  where
    at : (k : ℕ) → k < 5 → eqb k 0 ≡ false → eqb k 4 ≡ false → length (printed (get_or (sized n) k (pos 0))) ≤ 4
    at zero l e f = absurd (true≢false e)
    at (suc zero) l e f = four (pos n) n refl h
    at (suc (suc zero)) l e f = four (pos 0) 0 refl (omega arith)
    at (suc (suc (suc zero))) l e f = four (pos 0) 0 refl (omega arith)
    at (suc (suc (suc (suc zero)))) l e f = absurd (true≢false f)
    at (suc (suc (suc (suc (suc k))))) l e f = absurd (omega arith)

-- ---- a template

piece-short : (b : ℕ) (row : List ℤ) → Small row → length (piece b row) ≤ short_piece b
piece-short b row s =
    split (eqb (field_of b) 0)
    (λ e. rw (piece-self b row e, e) (omega arith))
    (λ e.
    split (eqb (field_of b) 4)
    (λ f.
    let k : field_of b ≡ 4 = eqb-true (field_of b) 4 f in
    rw (piece-number b row e, e, f) (rw k s.turn))
    (λ f. rw (piece-number b row e, e, f) (s.index (field_of b) (field_lt b) e f)))

spell-short : (t : List ℕ) (row : List ℤ) → Small row → length (spell_by t row) ≤ short_size t
unfolding spell_by short_size
spell-short [] row s = omega arith
spell-short (b ∷ t) row s = omega (arith, length-append (piece b row) (spell_by t row), piece-short b row s, spell-short t row s)

-- ---- the whole text

statements-short : (w b g : ℕ) (ns : List ℤ) → w ≤ max_wires → b ≤ max_bits → Each w b g ns → length (statements_text g ns) ≤ 31 * g
unfolding statements_text statement_text Each
statements-short w b zero ns hw hb e = omega arith
statements-short w b (suc g) ns hw hb e =
    let row : List ℤ = take width ns in
    let t : List ℕ = template (code_of row) in
    omega (arith, length-append (spell_by t row) (statements_text g (drop width ns)), spell-short t row (small-gate w b row hw hb e.0), (fine (code_of row)).short, statements-short w b g (drop width ns) hw hb e.1)

register-short : (t : List ℕ) (n : ℕ) → short_size t ≡ 14 → n ≤ max_wires → length (register_text t n) ≤ 14
unfolding register_text
register-short t n e h = split (eqb n 0) (λ z. rw z (omega arith)) (λ z. rw z (omega (arith, spell-short t (sized n) (small_size n h))))

wires-short : short_size wires_line ≡ 14
unfolding short_size field_of
wires-short = refl

bits-short : short_size bits_line ≡ 14
unfolding short_size field_of
bits-short = refl

opening-short : (w b : ℕ) → w ≤ max_wires → b ≤ max_bits → length (opening_text w b) ≤ opening_size
unfolding opening_text
opening-short w b hw hb =
    let q : List ℕ = register_text wires_line w in
    let c : List ℕ = register_text bits_line b in
    omega (arith, length-append version_line (include_line ++ (q ++ c)), length-append include_line (q ++ c), length-append q c, register-short wires_line w wires-short hw, register-short bits_line b bits-short (omega arith))

-- 896 gates have at most 27,854 bytes, and a text may have 32,768
pub qasm-short : (most w b : ℕ) (ns : List ℤ) → Spellable most w b ns → length (qasm_text w b ns) ≤ opening_size + 31 * (length ns / width)
unfolding qasm_text
qasm-short most w b ns s =
    let g : ℕ = length ns / width in
    omega (arith, length-append (opening_text w b) (statements_text g ns), opening-short w b s.wires-fit s.bits_fit, statements-short w b g ns s.wires-fit s.bits_fit (rows_right most w b ns s))
