-- From what reading says to the answer.
use mathlib.Core.Path.{◌≡◌, refl, sym, ap}
use mathlib.Core.Bool.{false, true≢false}
use mathlib.Core.List.{List}
use Rattle.std.specs.Prelude.{Ok, Err}
use Prim.Native.Nat.{ℕ, ◌*◌, ◌≤◌, ◌<◌}
use native.Mathlib.Omega.{arith}
use borrow.Author.Tests.{le-ltb, lt-ltb}
use lib.Dec.{ltb}
use lib.IntN.{ℤ}
use lib.ListN.{length, take, drop, length-append}
use lib.Seq.{length-take-le}
use Rattle.rules.specs.Limits.{width}
use Rattle.rules.specs.Refusal.{Verdict, accepted, refused}
use Rattle.rules.proofs.Bits.{split}
use Rattle.spelling.specs.Sizes.{list_bytes, list_gates}
use Rattle.spelling.specs.Texts.{Head}
use Rattle.spelling.specs.Reading.{Read, malformed, many, read, read_text}
use Rattle.spelling.specs.Heads.{head_of}
use Rattle.spelling.specs.declared.Head as HeadIs
use Rattle.spelling.proofs.Spelling.{text-read}
use Rattle.reading.specs.Clauses.{ReadsText, answered, met}
use Rattle.reading.specs.declared.Wrong.{Wrong}
use Rattle.reading.specs.declared.Wrong.TheVariants.{Line, Many}
use Rattle.saying.specs.Answer.{Judge, Next, refusal, judged, judged_by, read_as, answer_by}
use Rattle.saying.specs.declared.Reason.TheVariants.{Long}
use Rattle.saying.specs.Reasons.{reason_of}
use Rattle.saying.specs.Clauses.{Declined, Held}
use Rattle.saying.proofs.Places.{line_of, text-line}

pub answer-long : (next : Next) (text : List ℕ) → list_bytes < length text → answer_by next text ≡ refusal 10 0 0
unfolding answer_by
answer-long next text h = rw (lt-ltb list_bytes (length text) h)

pub answer-read : (next : Next) (text : List ℕ) (r : Read) → length text ≤ list_bytes → r ≡ read_text list_gates text → answer_by next text ≡ read_as next r
unfolding answer_by
answer-read next text r h e = rw (le-ltb list_bytes (length text) h) (ap (read_as next) (sym e))

-- a text that is too long, or that was not read
pub long : (text : List ℕ) → list_bytes < length text → Declined answer_by text Long
long text h = record { is = λ next. answer-long next text h; small = omega arith }

pub declined : (text : List ℕ) (room' : List ℤ) (w : Wrong) → length text ≤ list_bytes → answered room' (Err w) ≡ read_text list_gates text → Declined answer_by text (reason_of w)
declined text room' (Line k) short is = record { is = λ next. answer-read next text (malformed k) short is; small = omega (arith, ap line_of is, text-line list_gates text) }
declined text room' (Many k) short is = record { is = λ next. answer-read next text (many k) short is; small = omega (arith, ap line_of is, text-line list_gates text) }

pub held : (text : List ℕ) (room room' : List ℤ) (p : HeadIs.Head × ℕ) → length text ≤ list_bytes → ReadsText text list_gates room room' (Ok p) → Held text room' p.0 p.1
held text room room' p short t =
    let n = p.1 in
    let size : length (met list_gates 1 text) ≡ width * n = t.counts in
    let l = (text-read list_gates (head_of p.0) (take (width * n) room') text (sym t.answer)).1 in
    let fits : width * n ≤ length room' = omega (arith, ap length t.numbers, length-append (met list_gates 1 text) (drop (length (met list_gates 1 text)) room)) in
    record {
      most = omega (arith, l.few, length-take-le (width * n) room' fits);
      fits = fits;
      few = record { whole = l.whole; few = l.few };
      reads = sym t.answer;
      answer = λ next. answer-read next text _ short t.answer;
    }

-- ---- what holds of each answer to an accepted list holds of each answer that is no refusal

module _ (P : List ℕ → Type 0) (judge : Judge) (next : Next) (text : List ℕ)
    (kept : (h : Head) (ns : List ℤ) → read_text list_gates text ≡ read h ns → judge h ns ≡ accepted → (next h ns).refused ≡ false → P (next h ns).text) where
  judged-kept : (h : Head) (ns : List ℤ) → read_text list_gates text ≡ read h ns → (v : Verdict) → judge h ns ≡ v → (judged (next h ns) v).refused ≡ false → P (judged (next h ns) v).text
  judged-kept h ns e (refused r) x f = absurd (true≢false f)
  judged-kept h ns e accepted x f = kept h ns e x f

  read_kept : (r : Read) → read_text list_gates text ≡ r → (read_as (judged_by judge next) r).refused ≡ false → P (read_as (judged_by judge next) r).text
  read_kept (malformed k) e f = absurd (true≢false f)
  read_kept (many k) e f = absurd (true≢false f)
  read_kept (read h ns) e f = judged-kept h ns e (judge h ns) refl f

  pub answer-kept : (answer_by (judged_by judge next) text).refused ≡ false → P (answer_by (judged_by judge next) text).text
  unfolding answer_by
  answer-kept f =
      split (ltb list_bytes (length text))
      (λ e. absurd (true≢false (rw e at f)))
      (λ e. rw e (read_kept (read_text list_gates text) refl (rw e at f)))

-- ---- a judge that accepts only what another accepts: where it doesn't refuse, the answer is the other's

module _ (strict judge : Judge) (next : Next) (within : (h : Head) (ns : List ℤ) → strict h ns ≡ accepted → judge h ns ≡ accepted) where
  judged-same : (h : Head) (ns : List ℤ) (v : Verdict) → strict h ns ≡ v → (judged (next h ns) v).refused ≡ false → judged (next h ns) v ≡ judged_by judge next h ns
  judged-same h ns (refused r) x f = absurd (true≢false f)
  judged-same h ns accepted x f = rw (within h ns x)

  read_same : (r : Read) → (read_as (judged_by strict next) r).refused ≡ false → read_as (judged_by strict next) r ≡ read_as (judged_by judge next) r
  read_same (malformed k) f = refl
  read_same (many k) f = refl
  read_same (read h ns) f = judged-same h ns (strict h ns) refl f

  pub answer-same : (text : List ℕ) → (answer_by (judged_by strict next) text).refused ≡ false → answer_by (judged_by strict next) text ≡ answer_by (judged_by judge next) text
  unfolding answer_by
  answer-same text f = split (ltb list_bytes (length text)) (λ t. rw t) (λ t. rw t (read_same (read_text list_gates text) (rw t at f)))
