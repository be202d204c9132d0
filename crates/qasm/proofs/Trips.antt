-- Round trips: what is exported is imported as it was but for the lines, which are those of the text; and what is imported is exported byte for byte.
use mathlib.Core.Path.{◌≡◌, refl, sym, ap, ◌∙◌, subst}
use mathlib.Core.Bool.{◌||◌}
use mathlib.Core.List.{List, [], ◌++◌}
use Prim.Native.Nat.{ℕ, ◌+◌, ◌*◌, ◌/◌, ◌≤◌, ◌<◌}
use native.Mathlib.Nat.{zero-add}
use native.Mathlib.Omega.{arith}
use borrow.Author.Tests.{ltb-false, le-ltb}
use lib.Dec.{ltb}
use lib.IntN.{ℤ}
use lib.ListN.{length, drop, length-append}
use Rattle.rules.specs.Limits.{width, max_wires, max_bits}
use Rattle.rules.specs.Refusal.{Fault, fault_at}
use Rattle.rules.proofs.Bits.{split}
use Rattle.text.specs.Reading.{largest}
use Rattle.spelling.specs.Lines.{Lines, bad, good}
use Rattle.spelling.specs.Reading.{Rows}
use Rattle.spelling.proofs.Spelling.{Ranged, ranged-take, ranged-drop}
use Rattle.qasm.specs.Table.{spelled}
use Rattle.qasm.specs.Import.{wrong, many, large, list, Registers, opening, body, judged, gathered, opened, read_qasm}
use Rattle.qasm.specs.Export.{opening_text, statements_text, qasm_text, unspelled, first_line, relined_from, relined}
use Rattle.qasm.specs.Clauses.{longest}
use Rattle.qasm.proofs.Templates.{either}
use Rattle.qasm.proofs.Gates.{Each, each_at, at_each, row-fault, row-code, row-size, all-spelled, spelled-all}
use Rattle.qasm.proofs.Bodies.{statements-some, read-body, relined-size, body-read}
use Rattle.qasm.proofs.Openings.{read-opening, opening-read}

-- a list that export takes, of at most so many gates; and what import gives
pub record Spellable (most w b : ℕ) (ns : List ℤ) : Type 0 where
  pub whole : width * (length ns / width) ≡ length ns
  pub few : length ns / width ≤ most
  pub wires-fit : w ≤ max_wires
  pub bits_fit : b ≤ max_bits
  pub each : Ranged ns
  pub right : (i : ℕ) → i < length ns / width → (fault_at ns w b i).number ≡ 0
  pub known : unspelled ns ≡ length ns / width

-- ---- gate by gate

pub rows_right : (most w b : ℕ) (ns : List ℤ) → Spellable most w b ns → Each w b (length ns / width) ns
unfolding unspelled
rows_right most w b ns s =
    let g : ℕ = length ns / width in
    at_each w b g 0 ns (λ j h l.
    let in_list : j < g = omega arith in
    record {
      size = row-size ns j in_list;
      each = ranged-take width (drop (width * j) ns) (ranged-drop (width * j) ns s.each);
      right = ap (λ (f : Fault). f.number) (row-fault ns w b j) ∙ s.right j in_list;
      known = rw (row-code ns j) (spelled-all ns g 0 (s.known ∙ sym (zero-add g)) j (omega arith) (omega arith));
    })

-- ---- export, then import

pub export-import : (most w b : ℕ) (ns : List ℤ) → Spellable most w b ns → read_qasm most (qasm_text w b ns) ≡ list w b (relined w b ns)
unfolding read_qasm qasm_text relined
export-import most w b ns s =
    let g : ℕ = length ns / width in
    let e = rows_right most w b ns s in
    let bs : List ℕ = statements_text g ns in
    let k : ℕ = first_line w b in
    let lines : body (length bs) w b k bs ≡ record { numbers = relined_from g k ns; behind = good tt (k + g) [] } = read-body (length bs) w b k g ns (statements-some w b g ns e) e in
    let size : length (relined_from g k ns) / width ≡ g = omega (arith, relined-size g k ns (sym s.whole)) in
    rw (read-opening w b g ns (omega (arith, s.wires-fit)) (omega (arith, s.bits_fit)) e, lines, size, le-ltb most g s.few, le-ltb max_wires w s.wires-fit, le-ltb max_bits b s.bits_fit)

-- ---- import, then export

not-wrong : {P : Type 0} (k w b : ℕ) (ns : List ℤ) → wrong k ≡ list w b ns → P
not-wrong k w b ns e = let z : ◌≡◌ {A = ℕ} 0 1 = cc in absurd (omega arith)

record Judged (most : ℕ) (r : Registers) (ms : List ℤ) (w b : ℕ) (ns : List ℤ) : Type 0 where
  few : length ms / width ≤ most
  wires-fit : r.wires ≤ max_wires
  bits_fit : r.bits ≤ max_bits
  wires-is : r.wires ≡ w
  bits_is : r.bits ≡ b
  numbers : ms ≡ ns

judged-list : (most : ℕ) (r : Registers) (ms : List ℤ) (w b : ℕ) (ns : List ℤ) → judged most r ms ≡ list w b ns → Judged most r ms w b ns
judged-list most r ms w b ns h =
    split (ltb most (length ms / width))
    (λ e. let g : many ≡ list w b ns = rw e at h in let z : ◌≡◌ {A = ℕ} 0 1 = cc in absurd (omega arith))
    (λ e.
    split (ltb max_wires r.wires || ltb max_bits r.bits)
    (λ f. let g : large ≡ list w b ns = rw (e, f) at h in let z : ◌≡◌ {A = ℕ} 0 1 = cc in absurd (omega arith))
    (λ f.
    let g : list r.wires r.bits ms ≡ list w b ns = rw (e, f) at h in
    let n = either (ltb max_wires r.wires) (ltb max_bits r.bits) f in
    record { few = ltb-false most (length ms / width) e; wires-fit = ltb-false max_wires r.wires n.0; bits_fit = ltb-false max_bits r.bits n.1; wires-is = cc; bits_is = cc; numbers = cc }))

gathered-list : (most : ℕ) (r : Registers) (ms : List ℤ) (o : Lines Unit) (w b : ℕ) (ns : List ℤ) → gathered most r ms o ≡ list w b ns
    → ((i : ℕ) × ((left : List ℕ) × (o ≡ good tt i left))) × Judged most r ms w b ns
gathered-list most r ms (bad k) w b ns h = not-wrong k w b ns h
gathered-list most r ms (good u k left) w b ns h = ((k, (left, refl)), judged-list most r ms w b ns h)

-- the numbers of what was read
spelt : (most w b : ℕ) (ns : List ℤ) (g : ℕ) → length ns ≡ width * g → length ns / width ≤ most → w ≤ max_wires → b ≤ max_bits → Ranged ns → Each w b g ns → Spellable most w b ns
unfolding unspelled
spelt most w b ns g size few hw hb ranged e =
    let n : length ns / width ≡ g = omega arith in
    record {
      whole = omega arith;
      few = few;
      wires-fit = hw;
      bits_fit = hb;
      each = ranged;
      right = λ i h. ap (λ (f : Fault). f.number) (sym (row-fault ns w b i)) ∙ (each_at w b g ns i e (omega arith)).right;
      known = all-spelled ns (length ns / width) 0 (λ j h l. sym (ap spelled (row-code ns j)) ∙ (each_at w b g ns j e (omega arith)).known) ∙ zero-add (length ns / width);
    }

opened-list : (most : ℕ) (bs : List ℕ) (o : Lines Registers) (w b : ℕ) (ns : List ℤ) → length bs ≤ longest → opening bs ≡ o → opened most o ≡ list w b ns → (bs ≡ qasm_text w b ns) × Spellable most w b ns
unfolding qasm_text
opened-list most bs (bad k) w b ns q e h = not-wrong k w b ns h
opened-list most bs (good r k left) w b ns q e h =
    let rows : Rows = body (length left) r.wires r.bits k left in
    let p = gathered-list most r rows.numbers rows.behind w b ns h in
    let j = p.1 in
    let o = opening-read r bs k left e in
    let short : k + length left ≤ largest = omega (arith, q, o.line, ap length o.text, length-append (opening_text r.wires r.bits) left) in
    let l = body-read (length left) r.wires r.bits k left tt p.0.0 p.0.1.0 short p.0.1.1 in
    let g : length rows.numbers / width ≡ l.count = omega (arith, l.size) in
    let text : bs ≡ opening_text r.wires r.bits ++ statements_text (length rows.numbers / width) rows.numbers = rw g (o.text ∙ ap (λ (x : List ℕ). opening_text r.wires r.bits ++ x) l.text) in
    let s = spelt most r.wires r.bits rows.numbers l.count l.size j.few j.wires-fit j.bits_fit l.ranged l.each in
    subst (λ (x : ℕ). (bs ≡ opening_text x b ++ statements_text (length ns / width) ns) × Spellable most x b ns) j.wires-is
    (subst (λ (y : ℕ). (bs ≡ opening_text r.wires y ++ statements_text (length ns / width) ns) × Spellable most r.wires y ns) j.bits_is
    (subst (λ (z : List ℤ). (bs ≡ opening_text r.wires r.bits ++ statements_text (length z / width) z) × Spellable most r.wires r.bits z) j.numbers (text, s)))

pub import-export : (most : ℕ) (bs : List ℕ) (w b : ℕ) (ns : List ℤ) → length bs ≤ longest → read_qasm most bs ≡ list w b ns → (bs ≡ qasm_text w b ns) × Spellable most w b ns
unfolding read_qasm
import-export most bs w b ns q h = opened-list most bs (opening bs) w b ns q refl h

-- so the lines are those of the text: the first gate's is the one behind the opening, and each is one more than the one before
pub import-lines : (most : ℕ) (bs : List ℕ) (w b : ℕ) (ns : List ℤ) → length bs ≤ longest → read_qasm most bs ≡ list w b ns → ns ≡ relined w b ns
import-lines most bs w b ns q h =
    let p = import-export most bs w b ns q h in
    let e : list w b ns ≡ list w b (relined w b ns) = sym h ∙ ap (read_qasm most) p.0 ∙ export-import most w b ns p.1 in
    cc
