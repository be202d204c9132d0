-- From what the code does to what is promised, and the two engines side by side.
use mathlib.Core.Path.{◌≡◌, refl, sym, ap, ◌∙◌}
use mathlib.Core.Bool.{false≢true}
use mathlib.Core.List.{List, ◌++◌}
use Prim.Native.Nat.{ℕ, ◌*◌, ◌≤◌}
use native.Mathlib.Omega.{arith}
use lib.IntN.{ℤ, pos}
use lib.ListN.{length, take, drop, replicate, length-replicate}
use lib.Seq.{length-take-le}
use Rattle.rules.specs.Limits.{width, clamp_qubits, whole_gates}
use Rattle.rules.specs.Numbers.{gates_of}
use Rattle.rules.specs.Refusal.{Refusal, accepted, refused}
use Rattle.rules.specs.Plan.{Plan}
use Rattle.rules.specs.Pass as Paper
use Rattle.std.specs.Prelude as Res
use Rattle.gate.specs.declared.Refusal as Code
use Rattle.cnot_min.specs.declared.Counts.{Counts}
use Rattle.cnot_min.specs.Minimizing.{told, Minimizes, Minimized}
use Rattle.cnot_min.proofs.Rooms.{over-is}
use Rattle.cnot_min.proofs.Promising.{not_done, minimizes}
use Rattle.plain_check.specs.Refusing.{plain_verdict}
use Rattle.plain_check.proofs.Taking.{taken}
use Rattle.plain_scan.specs.Sparing.{Sized}
use Rattle.plain.specs.Plainly.{whole_after, PlainAfter, plain_after, Plainly, Agree}

-- ---- the room of one resynthesis

pub whole-over : (new whole : List ℤ) → new ≡ replicate (length (take (width * whole_gates) whole)) (pos 0) → width * whole_gates ≤ length whole
    → new ++ drop (width * whole_gates) whole ≡ whole_after whole
unfolding whole_after
whole-over new whole e h =
    let n : ℕ = width * whole_gates in
    let is : new ≡ replicate n (pos 0) = e ∙ ap (λ (k : ℕ). replicate k (pos 0)) (length-take-le n whole h) in
    over-is new whole n (ap length is ∙ length-replicate n (pos 0)) ∙ ap (λ (ns : List ℤ). Paper.over ns whole) is

-- in exactly the part that is lent there is room too
pub sized : (p : Plan) (l whole : List ℤ) → Sized p l whole → Sized p l (take (width * whole_gates) whole)
sized p l whole s = record { few = s.few; narrow = s.narrow; long = omega (arith, length-take-le (width * whole_gates) whole s.long) }

-- ---- the promise, of an accepted list and of a refused one

module _ (l : List ℤ) (w b q t : ℕ) (out : List ℤ) (terms steps : List ℕ) (whole : List ℤ) where
  plain-accepted : plain_verdict l w b (clamp_qubits q) (length out) (length terms) (length steps) (length whole) ≡ accepted
      → plain_after l w b q t out terms steps whole ≡ record {
        first = record {
          answer = Paper.done (Paper.counts (gates_of l) (Paper.pass q t (gates_of l)));
          out = Paper.out_after (length (gates_of l)) (Paper.pass q t (gates_of l)).gates out;
          terms = Paper.terms_after (length (gates_of l)) terms;
          steps = Paper.steps_after (length (gates_of l)) steps;
        };
        whole = whole_after whole;
      }
  unfolding plain_after
  plain-accepted e = rw e refl

  plain-refused : (r : Refusal) → plain_verdict l w b (clamp_qubits q) (length out) (length terms) (length steps) (length whole) ≡ refused r
      → plain_after l w b q t out terms steps whole ≡ record { first = record { answer = Paper.refusal r; out = out; terms = terms; steps = steps }; whole = whole }
  unfolding plain_after
  plain-refused r e = rw e refl

  pub does : (r : Res.Result Counts Code.Refusal) (out' : List ℤ) (terms' steps' : List ℕ) (whole' : List ℤ)
      → plain_verdict l w b (clamp_qubits q) (length out) (length terms) (length steps) (length whole) ≡ accepted
      → Minimized l q t out terms steps r out' terms' steps' → whole' ≡ whole_after whole → Plainly l w b q t out terms steps whole r out' terms' steps' whole'
  does r out' terms' steps' whole' e m z =
      let ours : Minimizes l w b q t out terms steps r out' terms' steps' = minimizes l w b q t out terms steps r out' terms' steps' (taken l w b (clamp_qubits q) (length out) (length terms) (length steps) (length whole) e).first m in
      record {
        answer = m.answer ∙ ap (λ (x : PlainAfter). x.first.answer) (sym (plain-accepted e));
        out-is = m.out-is ∙ ap (λ (x : PlainAfter). x.first.out) (sym (plain-accepted e));
        terms-are = m.terms-are ∙ ap (λ (x : PlainAfter). x.first.terms) (sym (plain-accepted e));
        steps-are = m.steps-are ∙ ap (λ (x : PlainAfter). x.first.steps) (sym (plain-accepted e));
        whole_is = z ∙ ap (λ (x : PlainAfter). x.whole) (sym (plain-accepted e));
        same = λ c f. ours;
        alike = ours.alike;
        exactly = ours.exactly;
      }

  pub declines : (r : Refusal) (a : Res.Result Counts Code.Refusal) → told a ≡ Paper.refusal r
      → plain_verdict l w b (clamp_qubits q) (length out) (length terms) (length steps) (length whole) ≡ refused r
      → Plainly l w b q t out terms steps whole a out terms steps whole
  declines r a f e = record {
    answer = f ∙ ap (λ (x : PlainAfter). x.first.answer) (sym (plain-refused r e));
    out-is = ap (λ (x : PlainAfter). x.first.out) (sym (plain-refused r e));
    terms-are = ap (λ (x : PlainAfter). x.first.terms) (sym (plain-refused r e));
    steps-are = ap (λ (x : PlainAfter). x.first.steps) (sym (plain-refused r e));
    whole_is = ap (λ (x : PlainAfter). x.whole) (sym (plain-refused r e));
    same = λ c g. absurd (false≢true (not_done r c (sym f ∙ g)));
    alike = λ c g. absurd (false≢true (not_done r c (sym f ∙ g)));
    exactly = λ c g. absurd (false≢true (not_done r c (sym f ∙ g)));
  }

  -- ---- the two engines: whatever the first answers and leaves, and whatever the plain one does, where the plain one is done they are the same.
  -- Only the two contracts are used
  pub engines-agree : (r₁ : Res.Result Counts Code.Refusal) (out₁ : List ℤ) (terms₁ steps₁ : List ℕ) (r₂ : Res.Result Counts Code.Refusal) (out₂ : List ℤ) (terms₂ steps₂ : List ℕ) (whole₂ : List ℤ)
      → Minimizes l w b q t out terms steps r₁ out₁ terms₁ steps₁ → Plainly l w b q t out terms steps whole r₂ out₂ terms₂ steps₂ whole₂
      → (c : Paper.Counts) → told r₂ ≡ Paper.done c → Agree r₁ out₁ terms₁ steps₁ r₂ out₂ terms₂ steps₂
  engines-agree r₁ out₁ terms₁ steps₁ r₂ out₂ terms₂ steps₂ whole₂ m p c f =
      let s = p.same c f in
      record { answers = m.answer ∙ sym s.answer; outs = m.out-is ∙ sym s.out-is; terms = m.terms-are ∙ sym s.terms-are; steps = m.steps-are ∙ sym s.steps-are }
