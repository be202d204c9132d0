-- From what the plain engine says to the first engine's pass in rooms exactly as long as a list needs.
use mathlib.Core.Path.{◌≡◌, refl, sym, ap, ◌∙◌}
use mathlib.Core.List.{List}
use Rattle.std.specs.Prelude.{Result, Ok, Err}
use Prim.Native.Nat.{ℕ, ◌*◌, ◌/◌, ◌≤◌}
use native.Mathlib.Omega.{arith}
use lib.IntN.{ℤ}
use lib.ListN.{length}
use Rattle.rules.specs.Limits.{width, term_width, step_width, term_entries, step_entries, clamp_qubits, whole_gates}
use Rattle.rules.specs.Refusal.{Verdict, accepted, refused}
use Rattle.rules.proofs.Accepting.{place_of}
use Rattle.gate.specs.declared.Refusal.{Refusal}
use Rattle.cnot_min.specs.Minimizing.{told, counted}
use Rattle.cnot_min.specs.declared.Counts.{Counts}
use Rattle.spelling.specs.Texts.{Head}
use Rattle.saying.specs.Answer.{exact}
use Rattle.saying.specs.Clauses.{Few}
use Rattle.saying.proofs.Checking.{exact-place}
use Rattle.fitting.specs.Clauses.{Denied, Written, Fits}
use Rattle.fitting.proofs.Fitting as First
use Rattle.fitting.proofs.Fitting.{as_verdict}
use Rattle.plain_check.specs.Refusing.{plain_verdict}
use Rattle.plain_check.proofs.Taking.{taken, plain-place}
use Rattle.plain.specs.Plainly.{plain_as, plain_after, Plainly}
use Rattle.plain_list.specs.Answer.{plain_exact}

-- what the plain engine accepts in exact rooms, the first engine accepts
pub plain-exact : (h : Head) (l : List ℤ) → plain_exact h l ≡ accepted → exact h l ≡ accepted
unfolding plain_exact exact
plain-exact h l e = (taken l h.wires h.bits (clamp_qubits h.qubits) (length l) (term_width * term_entries (length l / width)) (step_width * step_entries (length l / width)) (width * whole_gates) e).first

-- refused at one of its gates
place : (h : Head) (l : List ℤ) → place_of (plain_exact h l) ≤ place_of (exact h l)
unfolding plain_exact exact
place h l = plain-place l h.wires h.bits (clamp_qubits h.qubits) (length l) (term_width * term_entries (length l / width)) (step_width * step_entries (length l / width)) (width * whole_gates)

judged-as : (v : Verdict) (l : List ℤ) (q t : ℕ) (out : List ℤ) (terms steps : List ℕ) (whole : List ℤ) → as_verdict (plain_as v l q t out terms steps whole).first.answer ≡ v
judged-as accepted l q t out terms steps whole = refl
judged-as (refused r) l q t out terms steps whole = refl

module _ (h : Head) (l out : List ℤ) (terms steps : List ℕ) (whole out' : List ℤ) (terms' steps' : List ℕ) (whole' : List ℤ) (few : Few l)
    (eo : length out ≡ length l) (et : length terms ≡ term_width * term_entries (length l / width)) (es : length steps ≡ step_width * step_entries (length l / width))
    (ew : length whole ≡ width * whole_gates) where
  abbrev verdict : Verdict
  verdict = plain_verdict l h.wires h.bits (clamp_qubits h.qubits) (length out) (length terms) (length steps) (length whole)

  verdict-is : verdict ≡ plain_exact h l
  unfolding plain_exact
  verdict-is = rw (eo, et, es, ew)

  abbrev Says : Result Counts Refusal → Type 0
  Says a = Plainly l h.wires h.bits h.qubits h.terms out terms steps whole a out' terms' steps' whole'

  is : (a : Result Counts Refusal) → Says a → as_verdict (told a) ≡ plain_exact h l
  unfolding plain_after
  is a p = ap as_verdict p.answer ∙ judged-as verdict l h.qubits h.terms out terms steps whole ∙ verdict-is

  fits-refused : (r : Refusal) → Says (Err r) → Denied plain_exact h l r
  fits-refused r p = record { is = sym (is (Err r) p); place = omega (arith, ap place_of (is (Err r) p), place h l, few.few, exact-place h l) }

  fits-done : (c : Counts) → Says (Ok c) → Written plain_exact h l c out'
  fits-done c p = record { is = sym (is (Ok c) p); made = (First.fits h l out terms steps out' terms' steps' few eo et es (Ok c) (p.same (counted c) refl)).made }

  pub fits : (a : Result Counts Refusal) → Says a → Fits plain_exact h l a out'
  fits (Err r) p = fits-refused r p
  fits (Ok c) p = fits-done c p
