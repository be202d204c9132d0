-- By a template, both ways: what was spelled is read back, and what is read was spelled so.
use mathlib.Core.Path.{◌≡◌, refl, sym, ap, ◌∙◌, subst}
use mathlib.Core.Bool.{Bool, true, false, not, ◌&&◌, ◌||◌, cond, false≢true}
use mathlib.Core.List.{List, [], ◌∷◌, ◌++◌, append_assoc}
use Prim.Native.Nat.{ℕ, zero, suc, ◌≤◌, ◌<◌}
use native.Mathlib.Omega.{arith}
use borrow.Author.Tests.{eqb-false, ne_eqb, not-true}
use lib.Dec.{eqb}
use lib.IntN.{ℤ, pos}
use lib.ListN.{length, get_or, set, length-set}
use lib.Seq.{get_or-set_same, get_or-set_other}
use lib.Signed.{mag}
use Rattle.rules.specs.Limits.{width}
use Rattle.rules.proofs.Bits.{split, and_left, and_right}
use Rattle.text.specs.Bytes.{is_digit, first}
use Rattle.text.specs.Printing.{printed}
use Rattle.text.specs.Reading.{none, found, onward, largest, integer, word}
use Rattle.text.proofs.Lines.{goes_on, read_word, word_read}
use Rattle.text.proofs.Grammar.{read-printed, printed-read}
use Rattle.spelling.proofs.Spelling.{Ranged}
use Rattle.qasm.specs.Table.{field_of}
use Rattle.qasm.specs.Statement.{piece, spell_by, read_piece, read_by, on_line}

-- ---- what is asked of a template: one test that computes

-- a byte stands for this number, and does so in a template
abbrev pub is_name : ℕ → ℕ → Bool
is_name k b = not (eqb (field_of b) 0) && eqb (field_of b) k

unfoldable pub names : ℕ → List ℕ → Bool
names k [] = false
names k (b ∷ t) = is_name k b || names k t

-- it begins with a byte that stands for itself and is no digit
abbrev pub plain : List ℕ → Bool
plain [] = false
plain (b ∷ t) = eqb (field_of b) 0 && not (is_digit b)

-- behind each number comes such a byte, and no number stands twice
unfoldable pub sound : List ℕ → Bool
unfolding names
sound [] = true
sound (b ∷ t) = cond (eqb (field_of b) 0) (sound t) (plain t && (not (names (field_of b) t) && sound t))

-- ---- numbers by their place

-- the code is never named
pub no_code : (t : List ℕ) → names 0 t ≡ false
unfolding names
no_code [] = refl
no_code (b ∷ t) = split (eqb (field_of b) 0) (λ e. rw e (no_code t)) (λ e. rw e (no_code t))

-- no byte stands for the line
pub field_lt : (b : ℕ) → field_of b < 5
unfolding field_of
field_lt b =
    split (eqb b 70) (λ e. rw e (omega arith))
    (λ e. split (eqb b 83) (λ f. rw (e, f) (omega arith))
    (λ f. split (eqb b 84) (λ g. rw (e, f, g) (omega arith))
    (λ g. split (eqb b 75) (λ h. rw (e, f, g, h) (omega arith)) (λ h. rw (e, f, g, h) (omega arith)))))

pub no_line : (t : List ℕ) → names 5 t ≡ false
unfolding names
no_line [] = refl
no_line (b ∷ t) = rw (ne_eqb (field_of b) 5 (λ e. omega (arith, field_lt b))) (split (eqb (field_of b) 0) (λ e. rw e (no_line t)) (λ e. rw e (no_line t)))

pub ranged-at : (vs : List ℤ) (k : ℕ) → Ranged vs → mag (get_or vs k (pos 0)) ≤ largest
unfolding Ranged
ranged-at [] k h = omega arith
ranged-at (v ∷ vs) zero h = h.0
ranged-at (v ∷ vs) (suc k) h = ranged-at vs k h.1

pub ranged-set : (vs : List ℤ) (k : ℕ) (v : ℤ) → Ranged vs → mag v ≤ largest → Ranged (set vs k v)
unfolding Ranged
ranged-set [] k v h g = tt
ranged-set (x ∷ vs) zero v h g = (g, h.1)
ranged-set (x ∷ vs) (suc k) v h g = (h.0, ranged-set vs k v h.1 g)

pub either : (a b : Bool) → (a || b) ≡ false → (a ≡ false) × (b ≡ false)
either false b h = (refl, h)
either true b h = absurd (false≢true (sym h))

-- ---- a byte of a template

module _ (b : ℕ) (row : List ℤ) where
  pub piece-self : eqb (field_of b) 0 ≡ true → piece b row ≡ b ∷ []
  unfolding piece
  piece-self e = rw e

  pub piece-number : eqb (field_of b) 0 ≡ false → piece b row ≡ printed (get_or row (field_of b) (pos 0))
  unfolding piece
  piece-number e = rw e

-- what is spelled doesn't depend on the line
pub spell-line : (t : List ℕ) (k : ℕ) (row : List ℤ) → spell_by t (on_line k row) ≡ spell_by t row
unfolding spell_by piece
spell-line [] k row = refl
spell-line (b ∷ t) k row = rw (get_or-set_other row 5 (field_of b) (pos k) (pos 0) (λ e. omega (arith, field_lt b)), spell-line t k row)

module _ (b : ℕ) (bs : List ℕ) (row : List ℤ) where
  pub read-self : eqb (field_of b) 0 ≡ true → read_piece b bs row ≡ onward (word (b ∷ []) bs) none (λ u left. found row left)
  unfolding read_piece
  read-self e = rw e

  pub read_number : eqb (field_of b) 0 ≡ false → read_piece b bs row ≡ onward (integer bs) none (λ v left. found (set row (field_of b) v) left)
  unfolding read_piece
  read_number e = rw e

plain-first : (t : List ℕ) (row : List ℤ) (rest : List ℕ) → plain t ≡ true → is_digit (first (spell_by t row ++ rest)) ≡ false
unfolding spell_by
plain-first [] row rest h = absurd (false≢true h)
plain-first (b ∷ t) row rest h =
    rw (piece-self b row (and_left (eqb (field_of b) 0) (not (is_digit b)) h)) (not-true (is_digit b) (and_right (eqb (field_of b) 0) (not (is_digit b)) h))

-- ---- what was spelled is read back

-- the numbers at hand, with those that the template names taken from the row
unfoldable pub filled : List ℕ → List ℤ → List ℤ → List ℤ
filled [] row base = base
filled (b ∷ t) row base = cond (eqb (field_of b) 0) (filled t row base) (filled t row (set base (field_of b) (get_or row (field_of b) (pos 0))))

pub read-spelled : (t : List ℕ) (row base : List ℤ) (rest : List ℕ) → sound t ≡ true → Ranged row → read_by t (spell_by t row ++ rest) base ≡ found (filled t row base) rest
unfolding read_by spell_by sound filled
read-spelled [] row base rest s r = refl
read-spelled (b ∷ t) row base rest s r =
    let behind : List ℕ = spell_by t row ++ rest in
    split (eqb (field_of b) 0)
    (λ e.
    rw (append_assoc (piece b row) (spell_by t row) rest, piece-self b row e, read-self b (b ∷ behind) base e, read_word (b ∷ []) behind, e)
    (read-spelled t row base rest (rw e at s) r))
    (λ e.
    let k : ℕ = field_of b in
    let v : ℤ = get_or row k (pos 0) in
    let h : (plain t && (not (names k t) && sound t)) ≡ true = rw e at s in
    let more = and_right (not (names k t)) (sound t) (and_right (plain t) (not (names k t) && sound t) h) in
    rw (append_assoc (piece b row) (spell_by t row) rest, piece-number b row e, read_number b (printed v ++ behind) base e, read-printed v behind (ranged-at row k r) (plain-first t row rest (and_left (plain t) (not (names k t) && sound t) h)), e)
    (read-spelled t row (set base k v) rest more r))

-- ---- what is read was spelled so

-- the numbers that the template doesn't name are kept
pub record ByRead (t bs : List ℕ) (base row : List ℤ) (left : List ℕ) : Type 0 where
  pub text : bs ≡ spell_by t row ++ left
  pub size : length row ≡ length base
  pub each : Ranged base → Ranged row
  pub kept : (k : ℕ) → names k t ≡ false → get_or row k (pos 0) ≡ get_or base k (pos 0)

-- one byte of a template: the rest of the bytes, and the numbers then
record Once (b : ℕ) (bs rest : List ℕ) (base now : List ℤ) : Type 0 where
  text : (row : List ℤ) → (eqb (field_of b) 0 ≡ false → get_or row (field_of b) (pos 0) ≡ get_or now (field_of b) (pos 0)) → bs ≡ piece b row ++ rest
  size : length now ≡ length base
  each : Ranged base → Ranged now
  kept : (k : ℕ) → is_name k b ≡ false → get_or now k (pos 0) ≡ get_or base k (pos 0)

once : (b : ℕ) (bs rest : List ℕ) (base now : List ℤ) → length base ≡ width → read_piece b bs base ≡ found now rest → Once b bs rest base now
once b bs rest base now w h =
    split (eqb (field_of b) 0)
    (λ e.
    let o = goes_on (word (b ∷ []) bs) (λ u left. found base left) now rest (sym (read-self b bs base e) ∙ h) in
    let same : base ≡ now = cc in
    let end : o.1.0 ≡ rest = cc in
    let front = word_read (b ∷ []) bs o.1.0 o.0 o.1.1.0 in
    record {
      text = λ row f. rw (piece-self b row e) (front ∙ ap (λ (l : List ℕ). b ∷ l) end);
      size = ap length (sym same);
      each = λ r. subst Ranged same r;
      kept = λ k f. ap (λ (l : List ℤ). get_or l k (pos 0)) (sym same);
    })
    (λ e.
    let o = goes_on (integer bs) (λ v left. found (set base (field_of b) v) left) now rest (sym (read_number b bs base e) ∙ h) in
    let v : ℤ = o.0 in
    let same : set base (field_of b) v ≡ now = cc in
    let end : o.1.0 ≡ rest = cc in
    let s = printed-read v o.1.0 bs o.1.1.0 in
    let at : (k : ℕ) → get_or now k (pos 0) ≡ get_or (set base (field_of b) v) k (pos 0) = λ k. ap (λ (l : List ℤ). get_or l k (pos 0)) (sym same) in
    let here : get_or now (field_of b) (pos 0) ≡ v = at (field_of b) ∙ get_or-set_same base (field_of b) v (pos 0) (omega (arith, field_lt b)) in
    record {
      text = λ row f. rw (piece-number b row e, f e, here) (s.whole ∙ ap (λ (l : List ℕ). printed v ++ l) end);
      size = ap length (sym same) ∙ length-set base (field_of b) v;
      each = λ r. subst Ranged same (ranged-set base (field_of b) v r s.small);
      kept = λ k f. at k ∙ get_or-set_other base (field_of b) k v (pos 0) (λ q. eqb-false (field_of b) k (rw e at f) (sym q));
    })

pub by_read : (t bs : List ℕ) (base row : List ℤ) (left : List ℕ) → sound t ≡ true → length base ≡ width → read_by t bs base ≡ found row left → ByRead t bs base row left
unfolding read_by spell_by sound names
by_read [] bs base row left s w h =
    let same : base ≡ row = cc in
    record { text = cc; size = ap length (sym same); each = λ r. subst Ranged same r; kept = λ k f. ap (λ (l : List ℤ). get_or l k (pos 0)) (sym same) }
by_read (b ∷ t) bs base row left s w h =
    let o = goes_on (read_piece b bs base) (λ now rest. read_by t rest now) row left h in
    let now : List ℤ = o.0 in
    let rest : List ℕ = o.1.0 in
    let p = once b bs rest base now w o.1.1.0 in
    let q = by_read t rest now row left (sound-rest b t s) (p.size ∙ w) o.1.1.1 in
    record {
      text = p.text row (λ e. q.kept (field_of b) (named-once b t e s)) ∙ ap (λ (l : List ℕ). piece b row ++ l) q.text ∙ sym (append_assoc (piece b row) (spell_by t row) left);
      size = q.size ∙ p.size;
      each = λ r. q.each (p.each r);
      kept = λ k f. let g = either (is_name k b) (names k t) f in q.kept k g.1 ∙ p.kept k g.0;
    }
  where
    sound-rest : (b : ℕ) (t : List ℕ) → sound (b ∷ t) ≡ true → sound t ≡ true
    sound-rest b t s = split (eqb (field_of b) 0) (λ e. rw e at s) (λ e. let h = rw e at s in and_right (not (names (field_of b) t)) (sound t) (and_right (plain t) (not (names (field_of b) t) && sound t) h))

    named-once : (b : ℕ) (t : List ℕ) → eqb (field_of b) 0 ≡ false → sound (b ∷ t) ≡ true → names (field_of b) t ≡ false
    named-once b t e s = let h = rw e at s in not-true (names (field_of b) t) (and_left (not (names (field_of b) t)) (sound t) (and_right (plain t) (not (names (field_of b) t) && sound t) h))

-- ---- two templates that differ before their first number

unfoldable pub apart : List ℕ → List ℕ → Bool
apart [] u = false
apart (a ∷ t) [] = false
apart (a ∷ t) (b ∷ u) = eqb (field_of a) 0 && (eqb (field_of b) 0 && (not (eqb b a) || apart t u))

-- what was spelled by one isn't read by the other
pub apart_none : (t u : List ℕ) (row base : List ℤ) (rest : List ℕ) → apart t u ≡ true → read_by t (spell_by u row ++ rest) base ≡ none
unfolding apart read_by spell_by word
apart_none [] u row base rest h = absurd (false≢true h)
apart_none (a ∷ t) [] row base rest h = absurd (false≢true h)
apart_none (a ∷ t) (b ∷ u) row base rest h =
    let e = and_left (eqb (field_of a) 0) (eqb (field_of b) 0 && (not (eqb b a) || apart t u)) h in
    let g = and_right (eqb (field_of a) 0) (eqb (field_of b) 0 && (not (eqb b a) || apart t u)) h in
    let f = and_left (eqb (field_of b) 0) (not (eqb b a) || apart t u) g in
    let i = and_right (eqb (field_of b) 0) (not (eqb b a) || apart t u) g in
    rw (append_assoc (piece b row) (spell_by u row) rest, piece-self b row f, read-self a (b ∷ (spell_by u row ++ rest)) base e)
    (split (eqb b a)
    (λ q. rw q (apart_none t u row base rest (rw q at i)))
    (λ q. rw q))
