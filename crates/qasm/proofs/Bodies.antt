-- The gates' lines, both ways.
use mathlib.Core.Path.{◌≡◌, refl, ap, ◌∙◌}
use mathlib.Core.List.{List, [], ◌∷◌, ◌++◌}
use Prim.Native.Nat.{ℕ, zero, suc, ◌+◌, ◌*◌, ◌≤◌, ◌<◌}
use native.Mathlib.Nat.{add-zero}
use native.Mathlib.Omega.{arith}
use lib.IntN.{ℤ, pos}
use lib.ListN.{length, take, drop, length-set, length-append, length-drop}
use lib.Seq.{length-take-le, take_at, drop_at}
use Rattle.rules.specs.Limits.{width}
use Rattle.text.specs.Reading.{Found, none, found, onward, largest}
use Rattle.spelling.specs.Lines.{bad, good}
use Rattle.spelling.specs.Reading.{Rows}
use Rattle.spelling.proofs.Spelling.{apart, Ranged, ranged-append}
use Rattle.qasm.specs.Statement.{statement_text, on_line, statement}
use Rattle.qasm.specs.Import.{at_end, body}
use Rattle.qasm.specs.Export.{statements_text, relined_from}
use Rattle.qasm.proofs.Statements.{line-again, text-line, gated-line, read-statement, statement-read, statement-some}
use Rattle.qasm.proofs.Gates.{Each, each-cons}

-- ---- the end of the text, or not yet

pub before-end : {A : Type 0} (bs : List ℕ) (done more : A) → 1 ≤ length bs → at_end bs done more ≡ more
before-end [] done more h = absurd (omega arith)
before-end (b ∷ bs) done more h = refl

-- ---- what was spelled is read back

-- as many bytes as gates
pub statements-some : (w b g : ℕ) (ns : List ℤ) → Each w b g ns → g ≤ length (statements_text g ns)
unfolding statements_text Each
statements-some w b zero ns e = omega arith
statements-some w b (suc g) ns e =
    omega (arith, length-append (statement_text (take width ns)) (statements_text g (drop width ns)), statement-some w b (take width ns) e.0, statements-some w b g (drop width ns) e.1)

pub body_end : (n w b k : ℕ) → body n w b k [] ≡ record { numbers = []; behind = good tt k [] }
unfolding body
body_end zero w b k = refl
body_end (suc n) w b k = refl

-- with the lines that the statements stand on
pub read-body : (n w b k g : ℕ) (ns : List ℤ) → g ≤ n → Each w b g ns → body n w b k (statements_text g ns) ≡ record { numbers = relined_from g k ns; behind = good tt (k + g) [] }
unfolding body statements_text relined_from Each
read-body n w b k zero ns h e = body_end n w b k ∙ rw (add-zero k)
read-body zero w b k (suc g) ns h e = absurd (omega arith)
read-body (suc n) w b k (suc g) ns h e =
    let row : List ℤ = take width ns in
    let rest : List ℕ = statements_text g (drop width ns) in
    let some : 1 ≤ length (statement_text row ++ rest) = omega (arith, length-append (statement_text row) rest, statement-some w b row e.0) in
    let others = read-body n w b (suc k) g (drop width ns) (omega arith) e.1 in
    let j : suc k + g ≡ k + suc g = omega arith in
    before-end {A = Rows} (statement_text row ++ rest) _ _ some ∙ rw (read-statement w b row rest e.0, others, line-again k row 0, j)

-- as many numbers
pub relined-size : (g k : ℕ) (ns : List ℤ) → length ns ≡ width * g → length (relined_from g k ns) ≡ width * g
unfolding relined_from
relined-size zero k ns e = refl
relined-size (suc g) k ns e =
    let row : List ℤ = take width ns in
    omega (arith, length-append (on_line k row) (relined_from g (suc k) (drop width ns)), length-set row 5 (pos k), length-take-le width ns (omega arith), relined-size g (suc k) (drop width ns) (length-drop width ns ∙ omega arith))

-- ---- what is read was spelled so

pub record BodyRead (w b : ℕ) (bs : List ℕ) (r : Rows) : Type 0 where
  pub count : ℕ
  pub text : bs ≡ statements_text count r.numbers
  pub size : length r.numbers ≡ width * count
  pub ranged : Ranged r.numbers
  pub each : Each w b count r.numbers

none_read : (w b k : ℕ) → BodyRead w b [] (record { numbers = []; behind = good tt k [] })
unfolding statements_text Each Ranged
none_read w b k = record { count = 0; text = refl; size = refl; ranged = tt; each = tt }

more-read : (w b k : ℕ) (bs rest : List ℕ) (row : List ℤ) (r : Rows) → k ≤ largest → statement w b bs ≡ found row rest → BodyRead w b rest r
    → BodyRead w b bs (record { numbers = on_line k row ++ r.numbers; behind = r.behind })
unfolding statements_text
more-read w b k bs rest row r h e o =
    let s = statement-read w b bs row rest e in
    let now : List ℤ = on_line k row in
    let g = gated-line k row w b h s.1 in
    record {
      count = suc o.count;
      text = s.0 ∙ rw (take_at now r.numbers width g.size, drop_at now r.numbers width g.size, text-line k row) (ap (λ (l : List ℕ). statement_text row ++ l) o.text);
      size = simp length-append (omega (arith, g.size, o.size));
      ranged = ranged-append now r.numbers g.each o.ranged;
      each = each-cons w b o.count now r.numbers g o.each;
    }

-- a statement that is read leaves less of the text
pub statement_less : (w b : ℕ) (bs : List ℕ) (row : List ℤ) (left : List ℕ) → statement w b bs ≡ found row left → length left < length bs
statement_less w b bs row left e =
    let s = statement-read w b bs row left e in
    omega (arith, ap length s.0, length-append (statement_text row) left, statement-some w b row s.1)

-- no line's number is too large
pub body-read : (n w b k : ℕ) (bs : List ℕ) (u : Unit) (i : ℕ) (left : List ℕ) → k + length bs ≤ largest → (body n w b k bs).behind ≡ good u i left → BodyRead w b bs (body n w b k bs)
unfolding body
body-read zero w b k [] u i left l h = none_read w b k
body-read zero w b k (c ∷ bs) u i left l h = apart k u i left h
body-read (suc n) w b k [] u i left l h = none_read w b k
body-read (suc n) w b k (c ∷ bs) u i left l h = go (statement w b (c ∷ bs)) refl (λ rest. body-read n w b (suc k) rest u i left) h
  where
    go : (o : Found (List ℤ)) → statement w b (c ∷ bs) ≡ o → ((rest : List ℕ) → suc k + length rest ≤ largest → (body n w b (suc k) rest).behind ≡ good u i left → BodyRead w b rest (body n w b (suc k) rest))
        → (let r = onward {B = Rows} o (record { numbers = []; behind = bad k }) (λ row rest. record { numbers = on_line k row ++ (body n w b (suc k) rest).numbers; behind = (body n w b (suc k) rest).behind }) in
        r.behind ≡ good u i left → BodyRead w b (c ∷ bs) r)
    go none e f h = apart k u i left h
    go (found row rest) e f h = more-read w b k (c ∷ bs) rest row (body n w b (suc k) rest) (omega arith) e (f rest (omega (arith, statement_less w b (c ∷ bs) row rest e)) h)

-- ---- line by line, as the code goes

module _ (f w b k : ℕ) (bs : List ℕ) (h : 1 ≤ length bs) where
  pub body-stop : statement w b bs ≡ none → body (suc f) w b k bs ≡ record { numbers = []; behind = bad k }
  unfolding body
  body-stop e = before-end {A = Rows} bs _ _ h ∙ rw e

  pub body-once : (row : List ℤ) (left : List ℕ) → statement w b bs ≡ found row left
      → body (suc f) w b k bs ≡ record { numbers = on_line k row ++ (body f w b (suc k) left).numbers; behind = (body f w b (suc k) left).behind }
  unfolding body
  body-once row left e = before-end {A = Rows} bs _ _ h ∙ rw e
