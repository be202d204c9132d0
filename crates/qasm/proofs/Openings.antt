-- The lines before the gates, both ways: a register that is left out isn't found in what comes next.
use mathlib.Core.Path.{◌≡◌, refl, sym, ap, ◌∙◌, subst}
use mathlib.Core.Bool.{true, false, cond, false≢true}
use mathlib.Core.List.{List, [], ◌∷◌, ◌++◌, append_assoc}
use Prim.Native.Nat.{ℕ, zero, suc, ◌≤◌}
use native.Mathlib.Omega.{arith}
use borrow.Author.Tests.{eqb-true, eqb-false, ne_eqb}
use lib.Dec.{eqb}
use lib.IntN.{ℤ, pos, negsuc}
use lib.ListN.{get_or, take, drop}
use lib.Signed.{mag}
use Rattle.rules.specs.Limits.{width}
use Rattle.rules.specs.Numbers.{nat_of}
use Rattle.rules.proofs.Bits.{split, and_left}
use Rattle.text.specs.Reading.{Found, none, found, largest, word}
use Rattle.text.proofs.Lines.{absent, goes_on, read_word, word_read}
use Rattle.spelling.specs.Lines.{Lines, good}
use Rattle.spelling.proofs.Spelling.{Ranged, line-goes}
use Rattle.qasm.specs.Table.{templates, template, spelled, field_of}
use Rattle.qasm.specs.Statement.{spell_by, read_by, statement_text, bare}
use Rattle.qasm.specs.Import.{version_line, include_line, wires_line, bits_line, register, perhaps, Registers, opening}
use Rattle.qasm.specs.Export.{sized, register_text, statements_text, opening_text, past, first_line}
use Rattle.qasm.proofs.Templates.{sound, plain, filled, ranged-at, read-self, read-spelled, by_read, apart, apart_none}
use Rattle.qasm.proofs.Codes.{against, apart-first}
use Rattle.qasm.proofs.Statements.{code_of, bare-ranged}
use Rattle.qasm.proofs.Gates.{Each}

-- ---- what is asked of a register's template

pub record Sizing (t : List ℕ) : Type 0 where
  pub is-sound : sound t ≡ true
  pub opens : plain t ≡ true
  pub fills : (n : ℕ) → filled t (sized n) (bare 0) ≡ sized n
  pub only : (row : List ℤ) (n : ℕ) → get_or row 1 (pos 0) ≡ pos n → spell_by t row ≡ spell_by t (sized n)
  pub apart-gates : (c : ℕ) → spelled c ≡ true → apart t (template c) ≡ true

pub sizing-wires : Sizing wires_line
unfolding sound field_of filled spell_by against apart templates
sizing-wires = record { is-sound = refl; opens = refl; fills = λ n. refl; only = λ row n e. rw e; apart-gates = apart-first wires_line refl refl }

pub sizing-bits : Sizing bits_line
unfolding sound field_of filled spell_by against apart templates
sizing-bits = record { is-sound = refl; opens = refl; fills = λ n. refl; only = λ row n e. rw e; apart-gates = apart-first bits_line refl refl }

wires-bits : apart wires_line bits_line ≡ true
unfolding apart field_of
wires-bits = refl

-- ---- a register

ranged-sized : (n : ℕ) → n ≤ largest → Ranged (sized n)
unfolding Ranged
ranged-sized n h = (omega arith, (h, (omega arith, (omega arith, (omega arith, (omega arith, tt))))))

pub read-register : (t : List ℕ) (n : ℕ) (rest : List ℕ) → Sizing t → 1 ≤ n → n ≤ largest → register t (spell_by t (sized n) ++ rest) ≡ found n rest
unfolding register
read-register t n rest s h g =
    let e : read_by t (spell_by t (sized n) ++ rest) (bare 0) ≡ found (sized n) rest =
    read-spelled t (sized n) (bare 0) rest s.is-sound (ranged-sized n g) ∙ ap (λ (r : List ℤ). found r rest) (s.fills n) in
    rw (e, ne_eqb n 0 (λ q. omega arith))

nat_of-some : (v : ℤ) → eqb (nat_of v) 0 ≡ false → v ≡ pos (nat_of v)
nat_of-some (pos n) e = refl
nat_of-some (negsuc n) e = absurd (false≢true (sym e))

pub register-read : (t bs : List ℕ) (n : ℕ) (left : List ℕ) → Sizing t → register t bs ≡ found n left → (bs ≡ register_text t n ++ left) × (n ≤ largest)
unfolding register register_text
register-read t bs n left s h =
    let o = goes_on (read_by t bs (bare 0)) (λ row rest. cond (eqb (nat_of (get_or row 1 (pos 0))) 0) none (found (nat_of (get_or row 1 (pos 0))) rest)) n left h in
    let row : List ℤ = o.0 in
    let rest : List ℕ = o.1.0 in
    let m : ℕ = nat_of (get_or row 1 (pos 0)) in
    split (eqb m 0)
    (λ e. absent n left (rw e at o.1.1.1))
    (λ e.
    let g : found m rest ≡ found n left = rw e at o.1.1.1 in
    let r = by_read t bs (bare 0) row rest s.is-sound refl o.1.1.0 in
    let v = nat_of-some (get_or row 1 (pos 0)) e in
    let text : bs ≡ cond (eqb m 0) [] (spell_by t (sized m)) ++ rest = rw e (r.text ∙ ap (λ (l : List ℕ). l ++ rest) (s.only row m v)) in
    let is : m ≡ n = cc in
    let end : rest ≡ left = cc in
    let fits : m ≤ largest = nat_of-small (get_or row 1 (pos 0)) (ranged-at row 1 (r.each (bare-ranged 0 (omega arith)))) in
    (text ∙ rw (is, end), subst (λ (x : ℕ). x ≤ largest) is fits))
  where
    nat_of-small : (v : ℤ) → mag v ≤ largest → nat_of v ≤ largest
    nat_of-small (pos n) h = h
    nat_of-small (negsuc n) h = omega arith

-- ---- a register that is left out

-- nothing is read from nothing
plain-none : (t : List ℕ) (row : List ℤ) → plain t ≡ true → read_by t [] row ≡ none
unfolding read_by word
plain-none [] row h = absurd (false≢true h)
plain-none (b ∷ t) row h = rw (read-self b [] row (and_left _ _ h))

none_then : (t bs : List ℕ) → read_by t bs (bare 0) ≡ none → register t bs ≡ none
unfolding register
none_then t bs h = rw h

-- no statement is a register
pub not-statements : (t : List ℕ) (w b g : ℕ) (ns : List ℤ) → Sizing t → Each w b g ns → register t (statements_text g ns) ≡ none
unfolding statements_text Each statement_text
not-statements t w b zero ns s e = none_then t [] (plain-none t (bare 0) s.opens)
not-statements t w b (suc g) ns s e =
    none_then t _ (apart_none t (template (code_of (take width ns))) (take width ns) (bare 0) (statements_text g (drop width ns)) (s.apart-gates (code_of (take width ns)) e.0.known))

-- nor is the register of bits that of wires
not-bits : (b n g w : ℕ) (ns : List ℤ) → Each w b g ns → register wires_line (register_text bits_line n ++ statements_text g ns) ≡ none
unfolding register_text
not-bits b n g w ns e =
    split (eqb n 0)
    (λ z. rw z (not-statements wires_line w b g ns sizing-wires e))
    (λ z. rw z (none_then wires_line _ (apart_none wires_line bits_line (sized n) (bare 0) (statements_text g ns) wires-bits)))

-- ---- both registers

perhaps-reads : {B : Type 0} (k : ℕ) (t : List ℕ) (n : ℕ) (rest : List ℕ) (next : ℕ → ℕ → List ℕ → B) → Sizing t → n ≤ largest → (n ≡ 0 → register t rest ≡ none)
    → perhaps k (register t (register_text t n ++ rest)) (register_text t n ++ rest) next ≡ next n (past k n) rest
unfolding register_text
perhaps-reads k t n rest next s h f =
    split (eqb n 0)
    (λ e.
    let z : n ≡ 0 = eqb-true n 0 e in
    rw (e, f z, z))
    (λ e.
    let some : 1 ≤ n = omega (arith, eqb-false n 0 e) in
    rw (e, read-register t n rest s some h))

opening-parts : (w b : ℕ) (rest : List ℕ) → opening_text w b ++ rest ≡ version_line ++ (include_line ++ (register_text wires_line w ++ (register_text bits_line b ++ rest)))
unfolding opening_text
opening-parts w b rest =
    append_assoc version_line (include_line ++ (register_text wires_line w ++ register_text bits_line b)) rest
    ∙ ap (λ (l : List ℕ). version_line ++ l)
    (append_assoc include_line (register_text wires_line w ++ register_text bits_line b) rest
    ∙ ap (λ (l : List ℕ). include_line ++ l) (append_assoc (register_text wires_line w) (register_text bits_line b) rest))

pub read-opening : (w b g : ℕ) (ns : List ℤ) → w ≤ largest → b ≤ largest → Each w b g ns
    → opening (opening_text w b ++ statements_text g ns) ≡ good (record { wires = w; bits = b }) (first_line w b) (statements_text g ns)
unfolding opening
read-opening w b g ns hw hb e =
    let rest : List ℕ = statements_text g ns in
    let bits : List ℕ = register_text bits_line b ++ rest in
    rw (opening-parts w b rest, read_word version_line (include_line ++ (register_text wires_line w ++ bits)), read_word include_line (register_text wires_line w ++ bits))
    (perhaps-reads 3 wires_line w bits _ sizing-wires hw (λ z. not-bits b b g w ns e)
    ∙ perhaps-reads (past 3 w) bits_line b rest _ sizing-bits hb (λ z. not-statements bits_line w b g ns sizing-bits e))

-- ---- what is read was spelled so

perhaps-goes : {B : Type 0} (k : ℕ) (t bs : List ℕ) (next : ℕ → ℕ → List ℕ → Lines B) (v : B) (i : ℕ) (left : List ℕ) → Sizing t → perhaps k (register t bs) bs next ≡ good v i left
    → (n : ℕ) × ((j : ℕ) × ((rest : List ℕ) × (((bs ≡ register_text t n ++ rest) × ((n ≤ largest) × (j ≤ suc k))) × (next n j rest ≡ good v i left))))
unfolding register_text
perhaps-goes {B} k t bs next v i left s h = go (register t bs) refl h
  where
    go : (o : Found ℕ) → register t bs ≡ o → perhaps k o bs next ≡ good v i left
        → (n : ℕ) × ((j : ℕ) × ((rest : List ℕ) × (((bs ≡ register_text t n ++ rest) × ((n ≤ largest) × (j ≤ suc k))) × (next n j rest ≡ good v i left))))
    go none e h = (0, (k, (bs, ((refl, (omega arith, omega arith)), h))))
    go (found n rest) e h = let r = register-read t bs n rest s e in (n, (suc k, (rest, ((r.0, (r.1, omega arith)), h))))

pub record OpeningRead (r : Registers) (bs : List ℕ) (i : ℕ) (left : List ℕ) : Type 0 where
  pub text : bs ≡ opening_text r.wires r.bits ++ left
  pub wires-fit : r.wires ≤ largest
  pub bits_fit : r.bits ≤ largest
  pub line : i ≤ 5

spelt : (w b i j : ℕ) (bs r₀ r₁ r₂ left : List ℕ) → bs ≡ version_line ++ r₀ → r₀ ≡ include_line ++ r₁
    → (r₁ ≡ register_text wires_line w ++ r₂) × ((w ≤ largest) × (i ≤ 4)) → (r₂ ≡ register_text bits_line b ++ left) × ((b ≤ largest) × (j ≤ suc i))
    → OpeningRead (record { wires = w; bits = b }) bs j left
spelt w b i j bs r₀ r₁ r₂ left v n q c = record {
  text = rw (v, n, q.0, c.0) (sym (opening-parts w b left));
  wires-fit = q.1.0;
  bits_fit = c.1.0;
  line = omega (arith, q.1.1, c.1.1);
}

pub opening-read : (r : Registers) (bs : List ℕ) (i : ℕ) (left : List ℕ) → opening bs ≡ good r i left → OpeningRead r bs i left
unfolding opening
opening-read r bs i left h =
    let v = line-goes 1 (word version_line bs) _ r i left h in
    let n = line-goes 2 (word include_line v.1.0) _ r i left v.1.1.1 in
    let q = perhaps-goes 3 wires_line n.1.0 _ r i left sizing-wires n.1.1.1 in
    let c = perhaps-goes q.1.0 bits_line q.1.1.0 _ r i left sizing-bits q.1.1.1.1 in
    let is : record { wires = q.0; bits = c.0 } ≡ r = cc in
    let at : c.1.0 ≡ i = cc in
    let end : c.1.1.0 ≡ left = cc in
    let s = spelt q.0 c.0 q.1.0 c.1.0 bs v.1.0 n.1.0 q.1.1.0 c.1.1.0 (word_read version_line bs v.1.0 v.0 v.1.1.0) (word_read include_line v.1.0 n.1.0 n.0 n.1.1.0) q.1.1.1.0 c.1.1.1.0 in
    subst (λ (x : Registers). OpeningRead x bs i left) is (subst (λ (x : List ℕ). OpeningRead (record { wires = q.0; bits = c.0 }) bs i x) end (subst (λ (x : ℕ). OpeningRead (record { wires = q.0; bits = c.0 }) bs x c.1.1.0) at s))
