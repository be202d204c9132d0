-- One text for each list, both ways: what was printed is read back, and what is accepted is what would be printed.
use mathlib.Core.Path.{◌≡◌, refl, sym, ap, ap₂, ◌∙◌, subst}
use mathlib.Core.Logic.{◌⊎◌, inl, inr}
use mathlib.Core.Bool.{Bool, true, false, ◌||◌, true≢false, cond}
use mathlib.Core.List.{List, [], ◌∷◌, ◌++◌, append_assoc, append-nil}
use Prim.Native.Nat.{ℕ, zero, suc, ◌+◌, ◌-◌, ◌*◌, ◌/◌, ◌≤◌}
use native.Mathlib.Nat.{add-zero}
use native.Mathlib.Omega.{arith}
use borrow.Author.Tests.{le-ltb, ltb-false}
use lib.Dec.{eqb, ltb, eqb-suc-zero}
use lib.IntN.{ℤ}
use lib.ListN.{length, take, drop, length-append, length-take, length-drop, take-append-drop}
use lib.Seq.{take_at, drop_at}
use lib.Signed.{mag}
use Rattle.rules.specs.Limits.{width}
use Rattle.rules.proofs.Bits.{split, same}
use Rattle.text.specs.Bytes.{lf, blank, is_digit}
use Rattle.text.specs.Printing.{ended_text, line_text, named_text}
use Rattle.text.specs.Reading.{Found, none, found, onward, largest, ended, natural_line, count_line}
use Rattle.text.proofs.Lines.{absent, read-ended, ended-read, read-line, line_read, read_count, count-read}
use Rattle.spelling.specs.Lines.{Lines, bad, good, line}
use Rattle.spelling.specs.Texts.{lines_text, row_text, Form, four, five, six, per_gate, unsaid, fifth, form_of, rows_text, Head, head_numbers, head_lines, head_word, head_text, gates_word, gates_text, list_text}
use Rattle.spelling.specs.Reading.{Row, row, gate_row, Rows, rows, Front, wrong, large, list, read, such, head_line, form_line, head_at, gathered, counted, headed, list_at, ending, read_text}
use Rattle.spelling.proofs.Forms.{per-gate-le, all_said, Shown}

-- ---- what a list's text can hold

-- every number fits 32 signed bits
unfoldable pub Ranged : List ℤ → Type 0
Ranged [] = Unit {0}
Ranged (v ∷ vs) = (mag v ≤ largest) × Ranged vs

-- of at most so many gates, whose numbers are 0 where the form doesn't show them
pub record Listed (most : ℕ) (h : Head) (ns : List ℤ) : Type 0 where
  pub wires : h.wires ≤ largest
  pub bits : h.bits ≤ largest
  pub qubits : h.qubits ≤ largest
  pub terms : h.terms ≤ largest
  pub whole : width * (length ns / width) ≡ length ns
  pub few : length ns / width ≤ most
  pub count : length ns / width ≤ largest
  pub each : Ranged ns
  pub shown : Shown h.form (length ns / width) ns

-- ---- a line

-- what ends the number behind which k more come
abbrev pub ends : ℕ → ℕ
ends k = cond (eqb k 0) lf blank

end-byte : (k : ℕ) → is_digit (ends k) ≡ false
end-byte zero = refl
end-byte (suc k) = rw (eqb-suc-zero k)

pub read-row : (vs : List ℤ) (rest : List ℕ) → Ranged vs → row (length vs) (row_text vs ++ rest) ≡ record { numbers = vs; behind = found tt rest }
unfolding row row_text Ranged
read-row [] rest h = refl
read-row (v ∷ vs) rest h =
    rw (append_assoc (ended_text (ends (length vs)) v) (row_text vs) rest, read-ended (ends (length vs)) v (row_text vs ++ rest) (end-byte (length vs)) h.0, read-row vs rest h.1)

pub record RowRead (k : ℕ) (bs left : List ℕ) (r : Row) : Type 0 where
  pub text : bs ≡ row_text r.numbers ++ left
  pub size : length r.numbers ≡ k
  pub each : Ranged r.numbers

pub row_read : (k : ℕ) (bs : List ℕ) (u : Unit) (left : List ℕ) → (row k bs).behind ≡ found u left → RowRead k bs left (row k bs)
unfolding row row_text Ranged
row_read zero bs u left h = record { text = cc; size = refl; each = tt }
row_read (suc k) bs u left h = go (ended (ends k) bs) refl (λ rest. row_read k rest u left) h
  where
    go : (o : Found ℤ) → ended (ends k) bs ≡ o → ((rest : List ℕ) → (row k rest).behind ≡ found u left → RowRead k rest left (row k rest))
        → (let r = onward {B = Row} o (record { numbers = []; behind = none }) (λ v rest. record { numbers = v ∷ (row k rest).numbers; behind = (row k rest).behind }) in
        r.behind ≡ found u left → RowRead (suc k) bs left r)
    go none e f h = absent u left h
    go (found v rest) e f h =
        let s = f rest h in
        let t = ended-read (ends k) v rest bs e in
        record {
          text = t.0 ∙ rw s.size (ap (λ (l : List ℕ). ended_text (ends k) v ++ l) s.text ∙ sym (append_assoc (ended_text (ends k) v) (row_text (row k rest).numbers) left));
          size = ap suc s.size;
          each = (t.1, s.each);
        }

-- ---- the gates' lines

pub apart : {A : Type 0} {P : Type 0} (i : ℕ) (v : A) (k : ℕ) (left : List ℕ) → bad i ≡ good v k left → P
apart i v k left h = let z : ◌≡◌ {A = ℕ} 0 1 = cc in absurd (omega arith)

pub ranged-append : (vs ws : List ℤ) → Ranged vs → Ranged ws → Ranged (vs ++ ws)
unfolding Ranged
ranged-append [] ws h g = g
ranged-append (v ∷ vs) ws h g = (h.0, ranged-append vs ws h.1 g)

pub ranged-take : (k : ℕ) (vs : List ℤ) → Ranged vs → Ranged (take k vs)
unfolding Ranged
ranged-take zero vs h = tt
ranged-take (suc k) [] h = tt
ranged-take (suc k) (v ∷ vs) h = (h.0, ranged-take k vs h.1)

pub ranged-drop : (k : ℕ) (vs : List ℤ) → Ranged vs → Ranged (drop k vs)
unfolding Ranged
ranged-drop zero vs h = h
ranged-drop (suc k) [] h = tt
ranged-drop (suc k) (v ∷ vs) h = ranged-drop k vs h.1

ranged-unsaid : (f : Form) → Ranged (unsaid f)
unfolding Ranged
ranged-unsaid four = (omega arith, tt)
ranged-unsaid five = (omega arith, tt)
ranged-unsaid six = tt

-- a gate's line
pub read-gate : (f : Form) (vs : List ℤ) (rest : List ℕ) → length vs ≡ per_gate f → Ranged vs
    → gate_row f (row_text vs ++ rest) ≡ record { numbers = vs ++ unsaid f; behind = found tt rest }
unfolding gate_row
read-gate f vs rest e h =
    let shown : row (per_gate f) (row_text vs ++ rest) ≡ record { numbers = vs; behind = found tt rest } = rw e at (read-row vs rest h) in
    rw shown

-- what its line shows, and what it doesn't
pub record GateRead (f : Form) (bs left : List ℕ) (r : Row) : Type 0 where
  pub shown : List ℤ
  pub numbers : r.numbers ≡ shown ++ unsaid f
  pub text : bs ≡ row_text shown ++ left
  pub size : length shown ≡ per_gate f
  pub each : Ranged shown

pub gate-read : (f : Form) (bs : List ℕ) (u : Unit) (left : List ℕ) → (gate_row f bs).behind ≡ found u left → GateRead f bs left (gate_row f bs)
unfolding gate_row
gate-read f bs u left h = go (row (per_gate f) bs).behind refl h
  where
    go : (o : Found Unit) → (row (per_gate f) bs).behind ≡ o
        → (let r = onward {B = Row} o (row (per_gate f) bs) (λ w rest. record { numbers = (row (per_gate f) bs).numbers ++ unsaid f; behind = found w rest }) in
        r.behind ≡ found u left → GateRead f bs left r)
    go none e h = absent u left (sym e ∙ h)
    go (found w rest) e h =
        let same : rest ≡ left = cc in
        let p = row_read (per_gate f) bs w rest e in
        record { shown = (row (per_gate f) bs).numbers; numbers = refl; text = rw (← same) p.text; size = p.size; each = p.each }

pub read-rows : (f : Form) (n k : ℕ) (ns : List ℤ) (rest : List ℕ) → length ns ≡ width * n → Ranged ns → Shown f n ns
    → rows f n k (rows_text f n ns ++ rest) ≡ record { numbers = ns; behind = good tt (k + n) rest }
unfolding rows rows_text Shown
read-rows f zero k [] rest h g z = rw (add-zero k)
read-rows f zero k (v ∷ ns) rest h g z = absurd (omega arith)
read-rows f (suc n) k ns rest h g z =
    let a : List ℤ = take (per_gate f) ns in
    let b : List ℤ = drop width ns in
    let size : length a ≡ per_gate f = length-take (per_gate f) ns ∙ omega (arith, per-gate-le f) in
    let others = read-rows f n (suc k) b rest (length-drop width ns ∙ omega arith) (ranged-drop width ns g) z.1 in
    let gate = read-gate f a (rows_text f n b ++ rest) size (ranged-take (per_gate f) ns g) in
    let j : suc k + n ≡ k + suc n = omega arith in
    rw (append_assoc (row_text a) (rows_text f n b) rest, gate, others, ← z.0, take-append-drop width ns, j)

pub record RowsRead (f : Form) (n : ℕ) (bs left : List ℕ) (r : Rows) : Type 0 where
  pub text : bs ≡ rows_text f n r.numbers ++ left
  pub size : length r.numbers ≡ width * n
  pub each : Ranged r.numbers
  pub shown : Shown f n r.numbers

-- a gate's numbers before others
module _ (f : Form) (a b : List ℤ) (size : length a ≡ per_gate f) where
  gate-size : length (a ++ unsaid f) ≡ width
  gate-size = length-append a (unsaid f) ∙ omega (arith, all_said f)

  shown-first : take (per_gate f) ((a ++ unsaid f) ++ b) ≡ a
  shown-first = rw (append_assoc a (unsaid f) b) (take_at a (unsaid f ++ b) (per_gate f) size)

  gate-first : take width ((a ++ unsaid f) ++ b) ≡ a ++ unsaid f
  gate-first = take_at (a ++ unsaid f) b width gate-size

  gate-behind : drop width ((a ++ unsaid f) ++ b) ≡ b
  gate-behind = drop_at (a ++ unsaid f) b width gate-size

-- one line more before the others
rows-cons : (f : Form) (n : ℕ) (bs rest left : List ℕ) (gate : Row) (others : Rows) (i : Lines Unit) → GateRead f bs rest gate → RowsRead f n rest left others
    → RowsRead f (suc n) bs left (record { numbers = gate.numbers ++ others.numbers; behind = i })
unfolding rows_text Shown
rows-cons f n bs rest left gate others i p s =
    let a : List ℤ = p.shown in
    let b : List ℤ = others.numbers in
    rw p.numbers
    (record {
      text =
          p.text ∙ ap (λ (l : List ℕ). row_text a ++ l) s.text
          ∙ rw (shown-first f a b p.size, gate-behind f a b p.size) (sym (append_assoc (row_text a) (rows_text f n b) left));
      size = length-append (a ++ unsaid f) b ∙ omega (arith, gate-size f a b p.size, s.size);
      each = ranged-append (a ++ unsaid f) b (ranged-append a (unsaid f) p.each (ranged-unsaid f)) s.each;
      shown = rw (shown-first f a b p.size, gate-first f a b p.size, gate-behind f a b p.size) (refl, s.shown);
    })

pub rows-read : (f : Form) (n k : ℕ) (bs : List ℕ) (u : Unit) (i : ℕ) (left : List ℕ) → (rows f n k bs).behind ≡ good u i left → RowsRead f n bs left (rows f n k bs)
unfolding rows rows_text Ranged Shown
rows-read f zero k bs u i left h = record { text = cc; size = refl; each = tt; shown = tt }
rows-read f (suc n) k bs u i left h = go (gate_row f bs).behind refl (λ rest. rows-read f n (suc k) rest u i left) h
  where
    go : (o : Found Unit) → (gate_row f bs).behind ≡ o → ((rest : List ℕ) → (rows f n (suc k) rest).behind ≡ good u i left → RowsRead f n rest left (rows f n (suc k) rest))
        → (let r = onward {B = Rows} o (record { numbers = (gate_row f bs).numbers; behind = bad k }) (λ w rest. record { numbers = (gate_row f bs).numbers ++ (rows f n (suc k) rest).numbers; behind = (rows f n (suc k) rest).behind }) in
        r.behind ≡ good u i left → RowsRead f (suc n) bs left r)
    go none e g h = apart k u i left h
    go (found w rest) e g h = rows-cons f n bs rest left (gate_row f bs) (rows f n (suc k) rest) (rows f n (suc k) rest).behind (gate-read f bs w rest e) (g rest h)

-- ---- the head

pub line-goes : {A B : Type 0} (k : ℕ) (o : Found A) (next : A → ℕ → List ℕ → Lines B) (v : B) (i : ℕ) (left : List ℕ) → line k o next ≡ good v i left
    → (a : A) × ((rest : List ℕ) × ((o ≡ found a rest) × (next a (suc k) rest ≡ good v i left)))
line-goes k none next v i left h = apart k v i left h
line-goes k (found a rest) next v i left h = (a, (rest, (refl, h)))

pub onward-goes : {A B : Type 0} (j : ℕ) (o : Found A) (next : A → List ℕ → Lines B) (v : B) (i : ℕ) (left : List ℕ) → onward o (bad j) next ≡ good v i left
    → (a : A) × ((rest : List ℕ) × ((o ≡ found a rest) × (next a rest ≡ good v i left)))
onward-goes j none next v i left h = apart j v i left h
onward-goes j (found a rest) next v i left h = (a, (rest, (refl, h)))

pub such-read : (ok : ℕ → Bool) (o : Found ℕ) (n : ℕ) (rest : List ℕ) → such ok o ≡ found n rest → (o ≡ found n rest) × (ok n ≡ true)
such-read ok none n rest e = absent n rest e
such-read ok (found m left) n rest e =
    split (ok m)
    (λ t.
    let is : found m left ≡ found n rest = rw t at e in
    let same : m ≡ n = cc in
    (is, subst (λ (x : ℕ). ok x ≡ true) same t))
    (λ t. absent n rest (rw t at e))

pub one_of : (a b n : ℕ) → (eqb n a || eqb n b) ≡ true → (n ≡ a) ⊎ (n ≡ b)
one_of a b n t = same n a (λ e q. inl e) (λ e q. same n b (λ g p. inr g) (λ g p. absurd (true≢false (sym (rw (q, p) at t)))))

lines_cons : (n : ℕ) (ns rest : List ℕ) → lines_text (n ∷ ns) ++ rest ≡ line_text n ++ (lines_text ns ++ rest)
unfolding lines_text
lines_cons n ns rest = append_assoc (line_text n) (lines_text ns) rest

lines-last : (n : ℕ) (rest : List ℕ) → lines_text (n ∷ []) ++ rest ≡ line_text n ++ rest
unfolding lines_text
lines-last n rest = rw (append-nil (line_text n))

-- its first line
abbrev head_count : Form → ℕ
head_count f = 4 + length (fifth f)

head-line : (h : Head) → head_text h ≡ named_text head_word (head_count h.form ∷ []) ++ lines_text (head_numbers h)
unfolding head_text
head-line h =
    let count : length (head_numbers h) ≡ head_count h.form = omega arith in
    ap (λ (n : ℕ). named_text head_word (n ∷ []) ++ lines_text (head_numbers h)) count

read-first : (f : Form) (rest : List ℕ) → head_line (named_text head_word (head_count f ∷ []) ++ rest) ≡ found (head_count f) rest
unfolding head_line
read-first four rest = rw (read_count head_word 4 rest (omega arith))
read-first five rest = rw (read_count head_word 5 rest (omega arith))
read-first six rest = rw (read_count head_word 5 rest (omega arith))

-- its form
abbrev number_of : Form → ℕ
number_of four = 4
number_of five = 5
number_of six = 6

form-number : (f : Form) → form_of (number_of f) ≡ f
form-number four = refl
form-number five = refl
form-number six = refl

read-form : (f : Form) (rest : List ℕ) → form_line (head_count f) (lines_text (fifth f) ++ rest) ≡ found (number_of f) rest
unfolding form_line lines_text
read-form four rest = refl
read-form five rest = ap (such (λ m. eqb m 5 || eqb m 6)) (ap natural_line (lines-last 5 rest) ∙ read-line 5 rest (omega arith))
read-form six rest = ap (such (λ m. eqb m 5 || eqb m 6)) (ap natural_line (lines-last 6 rest) ∙ read-line 6 rest (omega arith))

-- a head of n numbers has the form v
record Formed (n v : ℕ) (bs left : List ℕ) : Type 0 where
  count : n ≡ head_count (form_of v)
  text : bs ≡ lines_text (fifth (form_of v)) ++ left

form-five : (v : ℕ) (bs left : List ℕ) → bs ≡ line_text v ++ left → (v ≡ 5) ⊎ (v ≡ 6) → Formed 5 v bs left
form-five v bs left e (inl h) = rw h (record { count = refl; text = rw h at e ∙ sym (lines-last 5 left) })
form-five v bs left e (inr h) = rw h (record { count = refl; text = rw h at e ∙ sym (lines-last 6 left) })

form-read : (n v : ℕ) (bs left : List ℕ) → (n ≡ 4) ⊎ (n ≡ 5) → form_line n bs ≡ found v left → Formed n v bs left
unfolding form_line lines_text
form-read n v bs left (inl h) e =
    let at : found 4 bs ≡ found v left = rw h at e in
    let is : v ≡ 4 = cc in
    let end : bs ≡ left = cc in
    rw (h, is) (record { count = refl; text = end })
form-read n v bs left (inr h) e =
    let s = such-read (λ m. eqb m 5 || eqb m 6) (natural_line bs) v left (rw h at e) in
    rw h (form-five v bs left (line_read v left bs s.0).0 (one_of 5 6 v s.1))

pub record HeadRead (h : Head) (k : ℕ) (bs : List ℕ) (i : ℕ) (left : List ℕ) : Type 0 where
  pub text : bs ≡ head_text h ++ left
  pub wires : h.wires ≤ largest
  pub bits : h.bits ≤ largest
  pub qubits : h.qubits ≤ largest
  pub terms : h.terms ≤ largest
  pub ahead : i ≡ k + head_lines h.form

head-parts : (h : Head) (rest : List ℕ)
    → head_text h ++ rest
    ≡ named_text head_word (head_count h.form ∷ []) ++ (line_text h.wires ++ (line_text h.bits ++ (line_text h.qubits ++ (line_text h.terms ++ (lines_text (fifth h.form) ++ rest)))))
head-parts h rest =
    let last : List ℕ = fifth h.form in
    ap (λ (l : List ℕ). l ++ rest) (head-line h) ∙ append_assoc (named_text head_word (head_count h.form ∷ [])) (lines_text (head_numbers h)) rest
    ∙ ap (λ (l : List ℕ). named_text head_word (head_count h.form ∷ []) ++ l)
    (lines_cons h.wires (h.bits ∷ h.qubits ∷ h.terms ∷ last) rest
    ∙ rw (lines_cons h.bits (h.qubits ∷ h.terms ∷ last) rest, lines_cons h.qubits (h.terms ∷ last) rest, lines_cons h.terms last rest))

head-spelt : (n w b q t v k : ℕ) (bs r₀ r₁ r₂ r₃ r₄ r₅ : List ℕ) → bs ≡ named_text head_word (n ∷ []) ++ r₀
    → (r₀ ≡ line_text w ++ r₁) × (w ≤ largest) → (r₁ ≡ line_text b ++ r₂) × (b ≤ largest) → (r₂ ≡ line_text q ++ r₃) × (q ≤ largest) → (r₃ ≡ line_text t ++ r₄) × (t ≤ largest)
    → Formed n v r₄ r₅ → HeadRead (record { wires = w; bits = b; qubits = q; terms = t; form = form_of v }) k bs (suc (suc (suc (suc (suc k)))) + (n - 4)) r₅
head-spelt n w b q t v k bs r₀ r₁ r₂ r₃ r₄ r₅ e₀ e₁ e₂ e₃ e₄ e₅ = record {
  text = e₀ ∙ rw (e₁.0, e₂.0, e₃.0, e₄.0, e₅.text, e₅.count) (sym (head-parts (record { wires = w; bits = b; qubits = q; terms = t; form = form_of v }) r₅));
  wires = e₁.1;
  bits = e₂.1;
  qubits = e₃.1;
  terms = e₄.1;
  ahead = omega (arith, e₅.count);
}

read_as : (h h' : Head) (k : ℕ) (bs : List ℕ) (i i' : ℕ) (left left' : List ℕ) → good h i left ≡ good h' i' left' → HeadRead h k bs i left → HeadRead h' k bs i' left'
read_as h h' k bs i i' left left' e r =
    let a : h ≡ h' = cc in
    let b : i ≡ i' = cc in
    let c : left ≡ left' = cc in
    rw (← a, ← b, ← c) r

pub head_read : (h : Head) (k : ℕ) (bs : List ℕ) (i : ℕ) (left : List ℕ) → head_at k bs ≡ good h i left → HeadRead h k bs i left
unfolding head_at head_line
head_read h k bs i left e =
    let p = line-goes k (head_line bs) _ h i left e in
    let w = line-goes (suc k) (natural_line p.1.0) _ h i left p.1.1.1 in
    let b = line-goes (suc (suc k)) (natural_line w.1.0) _ h i left w.1.1.1 in
    let q = line-goes (suc (suc (suc k))) (natural_line b.1.0) _ h i left b.1.1.1 in
    let t = line-goes (suc (suc (suc (suc k)))) (natural_line q.1.0) _ h i left q.1.1.1 in
    let f = onward-goes (suc (suc (suc (suc (suc k))))) (form_line p.0 t.1.0) _ h i left t.1.1.1 in
    let read : Head = record { wires = w.0; bits = b.0; qubits = q.0; terms = t.0; form = form_of f.0 } in
    let next : ℕ = suc (suc (suc (suc (suc k)))) + (p.0 - 4) in
    let first = such-read (λ n. eqb n 4 || eqb n 5) _ p.0 p.1.0 p.1.1.0 in
    let s =
    head-spelt p.0 w.0 b.0 q.0 t.0 f.0 k bs p.1.0 w.1.0 b.1.0 q.1.0 t.1.0 f.1.0
    (count-read head_word p.0 p.1.0 bs first.0).0
    (line_read w.0 w.1.0 p.1.0 w.1.1.0)
    (line_read b.0 b.1.0 w.1.0 b.1.1.0)
    (line_read q.0 q.1.0 b.1.0 q.1.1.0)
    (line_read t.0 t.1.0 q.1.0 t.1.1.0)
    (form-read p.0 f.0 t.1.0 f.1.0 (one_of 4 5 p.0 first.1) f.1.1.0) in
    read_as read h k bs next i f.1.0 left f.1.1.1 s

-- a line for `head` and for each of its numbers
pub read_head : (h : Head) (k : ℕ) (rest : List ℕ) → h.wires ≤ largest → h.bits ≤ largest → h.qubits ≤ largest → h.terms ≤ largest
    → head_at k (head_text h ++ rest) ≡ good h (k + head_lines h.form) rest
unfolding head_at
read_head h k rest w b q t =
    let r₄ : List ℕ = lines_text (fifth h.form) ++ rest in
    let r₃ : List ℕ = line_text h.terms ++ r₄ in
    let r₂ : List ℕ = line_text h.qubits ++ r₃ in
    let r₁ : List ℕ = line_text h.bits ++ r₂ in
    let ahead : suc (suc (suc (suc (suc k)))) + (head_count h.form - 4) ≡ k + head_lines h.form = omega arith in
    rw (
      head-parts h rest,
      read-first h.form (line_text h.wires ++ r₁),
      read-line h.wires r₁ w,
      read-line h.bits r₂ b,
      read-line h.qubits r₃ q,
      read-line h.terms r₄ t,
      read-form h.form rest,
      form-number h.form,
      ahead,
    )

-- ---- a list

pub read-list : (most k : ℕ) (h : Head) (ns : List ℤ) (rest : List ℕ) → Listed most h ns → list_at most k (list_text h ns ++ rest) ≡ list h ns (suc (k + head_lines h.form) + length ns / width) rest
unfolding list_at list_text gates_text
read-list most k h ns rest l =
    let g : ℕ = length ns / width in
    let body : List ℕ = named_text gates_word (g ∷ []) ++ rows_text h.form g ns in
    let gates = read-rows h.form g (suc (k + head_lines h.form)) ns rest (sym l.whole) l.each l.shown in
    rw (
      append_assoc (head_text h) body rest,
      read_head h k (body ++ rest) l.wires l.bits l.qubits l.terms,
      append_assoc (named_text gates_word (g ∷ [])) (rows_text h.form g ns) rest,
      read_count gates_word g (rows_text h.form g ns ++ rest) l.count,
      le-ltb most g l.few,
      gates,
    )

-- where a list is read: the count, and the lines behind it
record Whole (most : ℕ) (h h' : Head) (ns : List ℤ) (k : ℕ) (o : Found ℕ) (i : ℕ) (left : List ℕ) : Type 0 where
  n : ℕ
  rest : List ℕ
  count : o ≡ found n rest
  few : n ≤ most
  lines : (rows h'.form n (suc k) rest).behind ≡ good tt i left
  same : h' ≡ h
  numbers : (rows h'.form n (suc k) rest).numbers ≡ ns

not-wrong : {P : Type 0} (j : ℕ) (h : Head) (ns : List ℤ) (i : ℕ) (left : List ℕ) → wrong j ≡ list h ns i left → P
not-wrong j h ns i left e = let z : ◌≡◌ {A = ℕ} 0 1 = cc in absurd (omega arith)

not-large : {P : Type 0} (j : ℕ) (h : Head) (ns : List ℤ) (i : ℕ) (left : List ℕ) → large j ≡ list h ns i left → P
not-large j h ns i left e = let z : ◌≡◌ {A = ℕ} 0 1 = cc in absurd (omega arith)

gathered-read : (h h' : Head) (ns ms : List ℤ) (o : Lines Unit) (i : ℕ) (left : List ℕ) → gathered h' ms o ≡ list h ns i left → (o ≡ good tt i left) × ((h' ≡ h) × (ms ≡ ns))
gathered-read h h' ns ms (bad j) i left e = not-wrong j h ns i left e
gathered-read h h' ns ms (good u j rest) i left e =
    let a : j ≡ i = cc in
    let b : rest ≡ left = cc in
    (ap₂ (λ (x : ℕ) (y : List ℕ). good tt x y) a b, (cc, cc))

counted-read : (most : ℕ) (h h' : Head) (ns : List ℤ) (k : ℕ) (o : Found ℕ) (i : ℕ) (left : List ℕ) → counted most h' k o ≡ list h ns i left → Whole most h h' ns k o i left
counted-read most h h' ns k none i left e = not-wrong k h ns i left e
counted-read most h h' ns k (found n rest) i left e =
    split (ltb most n)
    (λ t. not-large k h ns i left (rw t at e))
    (λ t.
    let f = gathered-read h h' ns (rows h'.form n (suc k) rest).numbers (rows h'.form n (suc k) rest).behind i left (rw t at e) in
    record { n = n; rest = rest; count = refl; few = ltb-false most n t; lines = f.0; same = f.1.0; numbers = f.1.1 })

headed-read : (most : ℕ) (h : Head) (ns : List ℤ) (o : Lines Head) (i : ℕ) (left : List ℕ) → headed most o ≡ list h ns i left
    → (h' : Head) × ((k : ℕ) × ((rest : List ℕ) × ((o ≡ good h' k rest) × Whole most h h' ns k (count_line gates_word rest) i left)))
headed-read most h ns (bad k) i left e = not-wrong k h ns i left e
headed-read most h ns (good h' k rest) i left e = (h', (k, (rest, (refl, counted-read most h h' ns k (count_line gates_word rest) i left e))))

pub list_read : (most k : ℕ) (h : Head) (ns : List ℤ) (bs : List ℕ) (i : ℕ) (left : List ℕ) → list_at most k bs ≡ list h ns i left → (bs ≡ list_text h ns ++ left) × Listed most h ns
unfolding list_at list_text gates_text
list_read most k h ns bs i left e =
    let p = headed-read most h ns (head_at k bs) i left e in
    let behind : List ℕ = p.1.1.0 in
    let w = p.1.1.1.1 in
    let j : ℕ = p.1.0 in
    let head : HeadRead h k bs j behind = subst (λ (x : Head). HeadRead x k bs j behind) w.same (head_read p.0 k bs j behind p.1.1.1.0) in
    let count = count-read gates_word w.n w.rest behind w.count in
    let f : Form = h.form in
    let r : RowsRead f w.n w.rest left (rows f w.n (suc j) w.rest) =
    rows-read f w.n (suc j) w.rest tt i left (subst (λ (x : Head). (rows x.form w.n (suc j) w.rest).behind ≡ good tt i left) w.same w.lines) in
    let is : (rows f w.n (suc j) w.rest).numbers ≡ ns = subst (λ (x : Head). (rows x.form w.n (suc j) w.rest).numbers ≡ ns) w.same w.numbers in
    let size : length ns ≡ width * w.n = rw is at r.size in
    let g : length ns / width ≡ w.n = omega arith in
    let text : w.rest ≡ rows_text f w.n ns ++ left = rw is at r.text in
    let body : List ℕ = named_text gates_word (w.n ∷ []) ++ rows_text f w.n ns in (
      head.text
          ∙ rw (count.0, text, g, ← append_assoc (named_text gates_word (w.n ∷ [])) (rows_text f w.n ns) left) (sym (append_assoc (head_text h) body left)),
      record {
        wires = head.wires;
        bits = head.bits;
        qubits = head.qubits;
        terms = head.terms;
        whole = omega arith;
        few = rw g w.few;
        count = rw g count.1;
        each = rw is at r.each;
        shown = rw g (rw is at r.shown);
      },
    )

-- ---- the whole text

pub read-text : (most : ℕ) (h : Head) (ns : List ℤ) → Listed most h ns → read_text most (list_text h ns) ≡ read h ns
unfolding read_text
read-text most h ns l = rw (rw append-nil at (read-list most 1 h ns [] l))

ending-read : (h : Head) (ns : List ℤ) (o : Front) → ending o ≡ read h ns → (i : ℕ) × (o ≡ list h ns i [])
ending-read h ns (wrong k) e = let z : ◌≡◌ {A = ℕ} 0 1 = cc in absurd (omega arith)
ending-read h ns (large k) e = let z : ◌≡◌ {A = ℕ} 0 1 = cc in absurd (omega arith)
ending-read h ns (list h' ms k []) e = (k, let a : h' ≡ h = cc in let b : ms ≡ ns = cc in rw (a, b))
ending-read h ns (list h' ms k (b ∷ bs)) e = let z : ◌≡◌ {A = ℕ} 0 1 = cc in absurd (omega arith)

pub text-read : (most : ℕ) (h : Head) (ns : List ℤ) (bs : List ℕ) → read_text most bs ≡ read h ns → (bs ≡ list_text h ns) × Listed most h ns
unfolding read_text
text-read most h ns bs e =
    let o = ending-read h ns (list_at most 1 bs) e in
    let l = list_read most 1 h ns bs o.0 [] o.1 in
    (rw append-nil at l.0, l.1)
