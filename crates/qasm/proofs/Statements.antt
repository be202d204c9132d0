-- A statement, both ways: a gate that is right and spelled is read back from its line, and a line that is read is the gate's.
use mathlib.Core.Path.{◌≡◌, refl, sym, ap, ◌∙◌, subst}
use mathlib.Core.Bool.{true, ◌||◌, cond, false≢true}
use mathlib.Core.List.{List, [], ◌∷◌, ◌++◌}
use Prim.Native.Nat.{ℕ, zero, suc, ◌+◌, ◌≤◌, ◌<◌}
use native.Mathlib.Omega.{arith}
use borrow.Author.Tests.{eqb-true}
use lib.Dec.{eqb}
use lib.IntN.{ℤ, pos}
use lib.ListN.{length, get_or, set, length-set}
use lib.Seq.{get_or-set_same, get_or-set_other, ext_get_or}
use Rattle.rules.specs.Limits.{width, last_code}
use Rattle.rules.specs.Gate.{second, bitted, third, turned}
use Rattle.rules.specs.Numbers.{nat_of}
use Rattle.rules.specs.Refusal.{fault_of, fault_at}
use Rattle.rules.proofs.Bits.{split, same, and_left}
use Rattle.rules.proofs.Accepting.{Fit, Signless, fit, signless}
use Rattle.text.specs.Reading.{Found, none, found, largest}
use Rattle.text.proofs.Lines.{absent, goes_on}
use Rattle.spelling.proofs.Spelling.{Ranged}
use Rattle.qasm.specs.Table.{template, spelled, field_of}
use Rattle.qasm.specs.Statement.{spell_by, read_by, statement_text, bare, on_line, read_as, or_else, read_first, any_gate, statement}
use Rattle.qasm.proofs.Templates.{either, names, plain, no_code, no_line, ranged-set, filled, field_lt, piece-self, spell-line, read-spelled, by_read, apart_none}
use Rattle.qasm.proofs.Codes.{fine, Uses, uses-code, spelled-most, apart-codes}

-- ---- the numbers that a template fills in

filled-size : (t : List ℕ) (row base : List ℤ) → length (filled t row base) ≡ length base
unfolding filled
filled-size [] row base = refl
filled-size (b ∷ t) row base =
    let k : ℕ = field_of b in
    split (eqb k 0)
    (λ e. rw e (filled-size t row base))
    (λ e. rw e (filled-size t row (set base k (get_or row k (pos 0))) ∙ length-set base k (get_or row k (pos 0))))

filled_at : (t : List ℕ) (row base : List ℤ) (k : ℕ) → length base ≡ width → get_or (filled t row base) k (pos 0) ≡ cond (names k t) (get_or row k (pos 0)) (get_or base k (pos 0))
unfolding filled names
filled_at [] row base k w = refl
filled_at (b ∷ t) row base k w =
    let f : ℕ = field_of b in
    let v : ℤ = get_or row f (pos 0) in
    split (eqb f 0)
    (λ e. rw e (filled_at t row base k w))
    (λ e.
    let more = filled_at t row (set base f v) k (length-set base f v ∙ w) in
    rw e
    (same f k
    (λ i q.
    let here : get_or (set base f v) k (pos 0) ≡ get_or row k (pos 0) = rw (← i) (get_or-set_same base f v (pos 0) (omega (arith, field_lt b))) in
    rw q (more ∙ rw here (split (names k t) (λ n. rw n) (λ n. rw n))))
    (λ i q. rw q (more ∙ rw (get_or-set_other base f k v (pos 0) (λ j. i (sym j)))))))

-- ---- a gate that is right and spelled

abbrev pub code_of : List ℤ → ℕ
code_of row = nat_of (get_or row 0 (pos 0))

pub record Gated (w b : ℕ) (row : List ℤ) : Type 0 where
  pub size : length row ≡ width
  pub each : Ranged row
  pub right : (fault_at row w b 0).number ≡ 0
  pub known : spelled (code_of row) ≡ true

module _ (w b : ℕ) (row : List ℤ) (h : (fault_at row w b 0).number ≡ 0) where
  pub row-fit : Fit w b (code_of row) (nat_of (get_or row 1 (pos 0))) (nat_of (get_or row 2 (pos 0))) (nat_of (get_or row 3 (pos 0))) (get_or row 4 (pos 0))
  unfolding fault_at
  row-fit = fit w b (get_or row 0 (pos 0)) (get_or row 1 (pos 0)) (get_or row 2 (pos 0)) (get_or row 3 (pos 0)) (get_or row 4 (pos 0)) (get_or row 5 (pos 0)) h

  pub row-signless : Signless (get_or row 0 (pos 0)) (get_or row 1 (pos 0)) (get_or row 2 (pos 0)) (get_or row 3 (pos 0)) (get_or row 5 (pos 0))
  unfolding fault_at
  row-signless = signless w b (get_or row 0 (pos 0)) (get_or row 1 (pos 0)) (get_or row 2 (pos 0)) (get_or row 3 (pos 0)) (get_or row 4 (pos 0)) (get_or row 5 (pos 0)) h

-- ---- on another line

module _ (k : ℕ) (row : List ℤ) where
  line_other : (i : ℕ) → i < 5 → get_or (on_line k row) i (pos 0) ≡ get_or row i (pos 0)
  line_other i h = get_or-set_other row 5 i (pos k) (pos 0) (λ e. omega arith)

  pub line-again : (j : ℕ) → on_line k (on_line j row) ≡ on_line k row
  line-again j = set-again row 5 (pos j) (pos k)
    where
      set-again : (l : List ℤ) (i : ℕ) (a b : ℤ) → set (set l i a) i b ≡ set l i b
      set-again [] i a b = refl
      set-again (x ∷ l) zero a b = refl
      set-again (x ∷ l) (suc i) a b = ap (λ (r : List ℤ). x ∷ r) (set-again l i a b)

  -- it is spelled alike
  pub text-line : statement_text (on_line k row) ≡ statement_text row
  unfolding statement_text
  text-line = rw (line_other 0 (omega arith)) (spell-line (template (code_of row)) k row)

  -- and as right
  right-line : (w b : ℕ) → Gated w b row → (fault_at (on_line k row) w b 0).number ≡ 0
  unfolding fault_at fault_of
  right-line w b g =
      let s = row-signless w b row g.right in
      rw (line_other 0 (omega arith), line_other 1 (omega arith), line_other 2 (omega arith), line_other 3 (omega arith), line_other 4 (omega arith), get_or-set_same row 5 (pos k) (pos 0) (omega (arith, g.size)))
      (rw (← s.line) at g.right)

  pub gated-line : (w b : ℕ) → k ≤ largest → Gated w b row → Gated w b (on_line k row)
  gated-line w b h g = record {
    size = length-set row 5 (pos k) ∙ g.size;
    each = ranged-set row 5 (pos k) g.each h;
    right = right-line w b g;
    known = rw (line_other 0 (omega arith)) g.known;
  }

-- what its spelling doesn't name is 0, but for the line
filled_is : (w b : ℕ) (row : List ℤ) → Gated w b row → filled (template (code_of row)) row (bare (code_of row)) ≡ on_line 0 row
filled_is w b row g =
    ext_get_or (pos 0) (filled t row base) (on_line 0 row) (filled-size t row base ∙ sym (length-set row 5 (pos 0) ∙ g.size)) (λ i h. filled_at t row base i refl ∙ at i (omega (arith, filled-size t row base)))
  where
    c : ℕ
    c = code_of row

    t : List ℕ
    t = template c

    base : List ℤ
    base = bare c

    f : Fit w b c (nat_of (get_or row 1 (pos 0))) (nat_of (get_or row 2 (pos 0))) (nat_of (get_or row 3 (pos 0))) (get_or row 4 (pos 0))
    f = row-fit w b row g.right

    s : Signless (get_or row 0 (pos 0)) (get_or row 1 (pos 0)) (get_or row 2 (pos 0)) (get_or row 3 (pos 0)) (get_or row 5 (pos 0))
    s = row-signless w b row g.right

    u : Uses c t
    u = uses-code c g.known

    five : (i : ℕ) → i < 5 → cond (names i t) (get_or row i (pos 0)) (get_or base i (pos 0)) ≡ get_or row i (pos 0)
    five zero h = rw (no_code t) s.code
    five (suc zero) h = rw u.has_first
    five (suc (suc zero)) h =
        split (second c || bitted c)
        (λ e. rw (u.has-second, e))
        (λ e. let n = either (second c) (bitted c) e in rw (u.has-second, e) (sym (ap pos (f.no_second n.0 n.1)) ∙ s.second))
    five (suc (suc (suc zero))) h =
        split (third c)
        (λ e. rw (u.has-third, e))
        (λ e. rw (u.has-third, e) (sym (ap pos (f.no_third e)) ∙ s.third))
    five (suc (suc (suc (suc zero)))) h =
        split (turned c)
        (λ e. rw (u.has-turn, e))
        (λ e. rw (u.has-turn, e) (sym (f.no-turn e)))
    five (suc (suc (suc (suc (suc i))))) h = absurd (omega arith)

    at : (i : ℕ) → i < width → cond (names i t) (get_or row i (pos 0)) (get_or base i (pos 0)) ≡ get_or (on_line 0 row) i (pos 0)
    at i h =
        same i 5
        (λ e q. rw (e, no_line t) (sym (get_or-set_same row 5 (pos 0) (pos 0) (omega (arith, g.size)))))
        (λ e q. five i (omega (arith, e)) ∙ sym (line_other 0 row i (omega (arith, e))))

-- ---- the first code that reads

as_none : (c d : ℕ) (row : List ℤ) (rest : List ℕ) → c < d → spelled d ≡ true → read_as c (spell_by (template d) row ++ rest) ≡ none
unfolding read_as
as_none c d row rest h q =
    split (spelled c)
    (λ p. rw p (apart_none (template c) (template d) row (bare c) rest (apart-codes c d h p q)))
    (λ p. rw p)

read-first : (n c d : ℕ) (row : List ℤ) (rest : List ℕ) → c ≤ d → d < c + n → spelled d ≡ true → (now : List ℤ) → read_as d (spell_by (template d) row ++ rest) ≡ found now rest
    → read_first n c (spell_by (template d) row ++ rest) ≡ found now rest
unfolding read_first
read-first zero c d row rest h g q now e = absurd (omega arith)
read-first (suc n) c d row rest h g q now e =
    same c d
    (λ i j. rw (i, e))
    (λ i j. rw (as_none c d row rest (omega (arith, i)) q) (read-first n (suc c) d row rest (omega (arith, i)) (omega arith) q now e))

pub first_read : (n c : ℕ) (bs : List ℕ) (row : List ℤ) (left : List ℕ) → read_first n c bs ≡ found row left → (d : ℕ) × (read_as d bs ≡ found row left)
unfolding read_first
first_read zero c bs row left h = absent row left h
first_read (suc n) c bs row left h = go (read_as c bs) refl (λ e. first_read n (suc c) bs row left e) h
  where
    go : (o : Found (List ℤ)) → read_as c bs ≡ o → (read_first n (suc c) bs ≡ found row left → (d : ℕ) × (read_as d bs ≡ found row left))
        → or_else o (read_first n (suc c) bs) ≡ found row left → (d : ℕ) × (read_as d bs ≡ found row left)
    go none e f h = f h
    go (found v rest) e f h = (c, e ∙ h)

pub as_read : (c : ℕ) (bs : List ℕ) (row : List ℤ) (left : List ℕ) → read_as c bs ≡ found row left → (spelled c ≡ true) × (read_by (template c) bs (bare c) ≡ found row left)
unfolding read_as
as_read c bs row left h = split (spelled c) (λ e. (e, rw e at h)) (λ e. absent row left (rw e at h))

-- ---- a statement

-- its line isn't spelled, and is read as 0
pub read-statement : (w b : ℕ) (row : List ℤ) (rest : List ℕ) → Gated w b row → statement w b (statement_text row ++ rest) ≡ found (on_line 0 row) rest
unfolding statement any_gate statement_text read_as
read-statement w b row rest g =
    let c : ℕ = code_of row in
    let f = row-fit w b row g.right in
    let now : List ℤ = on_line 0 row in
    let reads : read_by (template c) (spell_by (template c) row ++ rest) (bare c) ≡ found now rest =
    read-spelled (template c) row (bare c) rest (fine c).is-sound g.each ∙ ap (λ (r : List ℤ). found r rest) (filled_is w b row g) in
    let one : read_as c (spell_by (template c) row ++ rest) ≡ found now rest = rw g.known reads in
    rw (read-first last_code 1 c row rest f.least (omega (arith, f.most)) g.known now one, (gated-line 0 row w b (omega arith) g).right)

pub bare-ranged : (c : ℕ) → c ≤ last_code → Ranged (bare c)
unfolding Ranged
bare-ranged c h = (omega arith, (omega arith, (omega arith, (omega arith, (omega arith, (omega arith, tt))))))

pub statement-read : (w b : ℕ) (bs : List ℕ) (row : List ℤ) (left : List ℕ) → statement w b bs ≡ found row left → (bs ≡ statement_text row ++ left) × Gated w b row
unfolding statement any_gate statement_text
statement-read w b bs row left h =
    let o = goes_on (read_first last_code 1 bs) (λ r rest. cond (eqb (fault_at r w b 0).number 0) (found r rest) none) row left h in
    let p = passed o.0 o.1.0 o.1.1.1 in
    let d = first_read last_code 1 bs o.0 o.1.0 o.1.1.0 in
    let a = as_read d.0 bs o.0 o.1.0 d.1 in
    let r = by_read (template d.0) bs (bare d.0) o.0 o.1.0 (fine d.0).is-sound refl a.1 in
    let code : code_of o.0 ≡ d.0 = ap nat_of (r.kept 0 (no_code (template d.0))) in
    let text : bs ≡ spell_by (template (code_of o.0)) o.0 ++ o.1.0 = rw code r.text in (
      subst (λ (x : List ℤ). bs ≡ spell_by (template (code_of x)) x ++ left) p.1.0 (text ∙ ap (λ (l : List ℕ). spell_by (template (code_of o.0)) o.0 ++ l) p.1.1),
      subst (Gated w b) p.1.0 (record { size = r.size; each = r.each (bare-ranged d.0 (spelled-most d.0 a.0)); right = p.0; known = rw code a.0 }),
    )
  where
    passed : (r : List ℤ) (rest : List ℕ) → cond (eqb (fault_at r w b 0).number 0) (found r rest) none ≡ found row left → ((fault_at r w b 0).number ≡ 0) × ((r ≡ row) × (rest ≡ left))
    passed r rest h = split (eqb (fault_at r w b 0).number 0) (λ e. let g : found r rest ≡ found row left = rw e at h in (eqb-true (fault_at r w b 0).number 0 e, (cc, cc))) (λ e. absent row left (rw e at h))

-- it has a byte at least
pub statement-some : (w b : ℕ) (row : List ℤ) → Gated w b row → 1 ≤ length (statement_text row)
unfolding statement_text spell_by
statement-some w b row g = go (template (code_of row)) (uses-code (code_of row) g.known).opens
  where
    go : (t : List ℕ) → plain t ≡ true → 1 ≤ length (spell_by t row)
    go [] h = absurd (false≢true h)
    go (b ∷ t) h = rw (piece-self b row (and_left _ _ h)) (omega arith)
