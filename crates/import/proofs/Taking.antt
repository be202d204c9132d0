-- From what reading says to the answer.
use mathlib.Core.Path.{◌≡◌, refl, sym, ap, subst, ◌∙◌}
use mathlib.Core.Bool.{false, true≢false}
use mathlib.Core.List.{List}
use Rattle.std.specs.Prelude.{Ok, Err}
use Prim.Native.Nat.{ℕ, ◌*◌, ◌≤◌, ◌<◌}
use native.Mathlib.Omega.{arith}
use borrow.Author.Tests.{le-ltb, lt-ltb, ltb-false}
use lib.Dec.{ltb}
use lib.IntN.{ℤ}
use lib.ListN.{length, take, drop, length-append}
use Rattle.rules.specs.Limits.{width}
use Rattle.rules.proofs.Bits.{split}
use Rattle.spelling.specs.Sizes.{list_bytes, list_gates}
use Rattle.saying.specs.Answer.{Next, refusal}
use Rattle.saying.specs.declared.Reason.TheVariants.{Long}
use Rattle.saying.specs.Clauses.{Declined}
use Rattle.saying.proofs.Checking.{right-exact}
use Rattle.qasm.specs.Import.{Import, wrong, many, large, list, read_qasm}
use Rattle.qasm.specs.Clauses.{ReadsQasm, answered, met}
use Rattle.qasm.specs.declared.Wrong.{Wrong}
use Rattle.qasm.specs.declared.Wrong.TheVariants.{Line, Many, Large}
use Rattle.qasm.proofs.Trips.{Spellable, import-export}
use Rattle.import.specs.Answer.{head_for, read_as, answer_by}
use Rattle.spelling.specs.declared.Form.TheVariants.{Six}
use Rattle.import.specs.Clauses.{reason_of, right, Held}
use Rattle.import.proofs.Lines.{line_of, text-line}

pub answer-long : (next : Next) (text : List ℕ) → list_bytes < length text → answer_by next text ≡ refusal 10 0 0
unfolding answer_by
answer-long next text h = rw (lt-ltb list_bytes (length text) h)

pub answer-read : (next : Next) (text : List ℕ) (r : Import) → length text ≤ list_bytes → r ≡ read_qasm list_gates text → answer_by next text ≡ read_as next r
unfolding answer_by
answer-read next text r h e = rw (le-ltb list_bytes (length text) h) (ap (read_as next) (sym e))

-- a text that is too long, or that was not read
pub long : (text : List ℕ) → list_bytes < length text → Declined answer_by text Long
long text h = record { is = λ next. answer-long next text h; small = omega arith }

pub declined : (text : List ℕ) (room' : List ℤ) (w : Wrong) → length text ≤ list_bytes → answered room' (Err w) ≡ read_qasm list_gates text → Declined answer_by text (reason_of w)
declined text room' (Line k) short is = record { is = λ next. answer-read next text (wrong k) short is; small = omega (arith, ap line_of is, text-line list_gates text) }
declined text room' Many short is = record { is = λ next. answer-read next text many short is; small = omega arith }
declined text room' Large short is = record { is = λ next. answer-read next text large short is; small = omega arith }

-- a list that was read is accepted
pub imported-exact : (w b : ℕ) (ns : List ℤ) → Spellable list_gates w b ns → right (head_for w b) ns
imported-exact w b ns s = right-exact (head_for w b) ns s.whole (omega (arith, s.few)) s.wires-fit s.bits_fit s.right

pub held : (text : List ℕ) (room room' : List ℤ) (x : ℕ × ℕ × ℕ) → length text ≤ list_bytes → ReadsQasm text list_gates room room' (Ok x)
    → Held text room' (record { wires = x.0; bits = x.1; qubits = 128; terms = 512; form = Six }) x.2
held text room room' x short t =
    let n : ℕ = x.2 in
    let size : (length (met list_gates text) ≡ width * n) × (n ≤ list_gates) = t.counts in
    let s = (import-export list_gates text x.0 x.1 (take (width * n) room') (omega arith) (sym t.answer)).1 in
    record {
      short = short;
      most = size.1;
      fits = omega (arith, size.0, ap length t.numbers, length-append (met list_gates text) (drop (length (met list_gates text)) room));
      few = record { whole = s.whole; few = s.few };
      head = refl;
      reads = sym t.answer;
      known = imported-exact x.0 x.1 (take (width * n) room') s;
      answer = λ next. answer-read next text _ short t.answer;
    }

-- ---- what holds of each answer to a list holds of each answer that is no refusal

module _ (P : List ℕ → Type 0) (next : Next) (text : List ℕ)
    (kept : (w b : ℕ) (ns : List ℤ) → length text ≤ list_bytes → read_qasm list_gates text ≡ list w b ns → P (next (head_for w b) ns).text) where
  read_kept : length text ≤ list_bytes → (r : Import) → read_qasm list_gates text ≡ r → (read_as next r).refused ≡ false → P (read_as next r).text
  read_kept h (wrong k) e f = absurd (true≢false f)
  read_kept h many e f = absurd (true≢false f)
  read_kept h large e f = absurd (true≢false f)
  read_kept h (list w b ns) e f = kept w b ns h e

  pub answer-kept : (answer_by next text).refused ≡ false → P (answer_by next text).text
  unfolding answer_by
  answer-kept f =
      split (ltb list_bytes (length text))
      (λ e. absurd (true≢false (rw e at f)))
      (λ e. rw e (read_kept (ltb-false list_bytes (length text) e) (read_qasm list_gates text) refl (rw e at f)))
