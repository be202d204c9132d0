-- From what the entry point says to the pass in rooms exactly as long as a list needs.
use mathlib.Core.Path.{◌≡◌, refl, sym, ap, ◌∙◌}
use Rattle.std.specs.Prelude.{Result as Answered, Ok, Err}
use mathlib.Core.List.{List, ◌++◌, append_assoc}
use Prim.Native.Nat.{ℕ, ◌-◌, ◌*◌, ◌/◌}
use native.Mathlib.Omega.{arith}
use lib.IntN.{ℤ, pos}
use lib.ListN.{length, take, drop, replicate, length-append}
use lib.Seq.{take_at}
use Rattle.rules.specs.Limits.{width, term_width, step_width, term_entries, step_entries}
use Rattle.rules.specs.Gate.{Gate}
use Rattle.rules.specs.Numbers.{gates_of, numbers_of}
use Rattle.rules.specs.Refusal.{Verdict, accepted, refused, verdict}
use Rattle.rules.specs.Scan.{Result}
use Rattle.rules.specs.Pass as Pass
use Rattle.rules.specs.Pass.{pass, counts, over}
use Rattle.rules.proofs.Reading.{length-numbers, gates-length}
use Rattle.rules.proofs.Accepting.{place_of}
use Rattle.gate.specs.declared.Refusal.{Refusal}
use Rattle.gate.specs.Verdicts.{refusal_of}
use Rattle.cnot_min.specs.Minimizing.{counted, Minimizes}
use Rattle.cnot_min.specs.declared.Counts.{Counts}
use Rattle.spelling.specs.Texts.{Head}
use Rattle.saying.specs.Answer.{exact}
use Rattle.saying.specs.Clauses.{Few}
use Rattle.saying.proofs.Checking.{exact-is, exact-place}
use Rattle.fitting.specs.Clauses.{Denied, Written, Fits}
use Rattle.fitting.proofs.Few.{counts-small}

after-at : (l : List ℤ) (w b q t : ℕ) (out : List ℤ) (terms steps : List ℕ) (v : Verdict) → verdict l w b (length out) (length terms) (length steps) ≡ v
    → Pass.after l w b q t out terms steps ≡ Pass.after_as v (gates_of l) (pass q t (gates_of l)) out terms steps
unfolding Pass.after
after-at l w b q t out terms steps v e = ap (λ (v : Verdict). Pass.after_as v (gates_of l) (pass q t (gates_of l)) out terms steps) e

made-size : (gs : List Gate) (new : Result) → (counts gs new).gates_out ≡ length new.gates
unfolding counts
made-size gs new = refl

-- a refusal is read back from an answer
abbrev pub as_verdict : Pass.Answer → Verdict
as_verdict (Pass.refusal r) = refused r
as_verdict (Pass.done c) = accepted

abbrev counts_or : Pass.Counts → Pass.Answer → Pass.Counts
counts_or d (Pass.refusal r) = d
counts_or d (Pass.done c) = c

judged-as : (v : Verdict) (gs : List Gate) (new : Result) (out : List ℤ) (terms steps : List ℕ) → as_verdict (Pass.after_as v gs new out terms steps).answer ≡ v
judged-as accepted gs new out terms steps = refl
judged-as (refused r) gs new out terms steps = refl

module _ (h : Head) (l out : List ℤ) (terms steps : List ℕ) (out' : List ℤ) (terms' steps' : List ℕ) (few : Few l)
    (eo : length out ≡ length l) (et : length terms ≡ term_width * term_entries (length l / width)) (es : length steps ≡ step_width * step_entries (length l / width)) where
  abbrev gs : List Gate
  gs = gates_of l

  abbrev new : Result
  new = pass h.qubits h.terms gs

  after_is : Pass.after l h.wires h.bits h.qubits h.terms out terms steps ≡ Pass.after_as (exact h l) gs new out terms steps
  after_is = after-at l h.wires h.bits h.qubits h.terms out terms steps (exact h l) (rw (eo, et, es) (sym (exact-is h l)))

  fits-refused : (r : Refusal) → Minimizes l h.wires h.bits h.qubits h.terms out terms steps (Err r) out' terms' steps' → Denied exact h l r
  fits-refused r m =
      let is : refused (refusal_of r) ≡ exact h l = ap as_verdict (m.answer ∙ ap (λ (x : Pass.After). x.answer) after_is) ∙ judged-as (exact h l) gs new out terms steps in
      record {
        is = sym is;
        place = omega (arith, ap place_of is, few.few, exact-place h l);
      }

  pub fits-done : (c : Counts) → Minimizes l h.wires h.bits h.qubits h.terms out terms steps (Ok c) out' terms' steps' → Written exact h l c out'
  unfolding Pass.out_after
  fits-done c m =
      let is : accepted ≡ exact h l = ap as_verdict (m.answer ∙ ap (λ (x : Pass.After). x.answer) after_is) ∙ judged-as (exact h l) gs new out terms steps in
      let at : Pass.after l h.wires h.bits h.qubits h.terms out terms steps ≡ Pass.after_as accepted gs new out terms steps = after_is ∙ ap (λ (v : Verdict). Pass.after_as v gs new out terms steps) (sym is) in
      let same : counted c ≡ counts gs new = ap (counts_or (counted c)) (m.answer ∙ ap (λ (x : Pass.After). x.answer) at) in
      let zeros : List ℤ = replicate (width * (length gs - length new.gates)) (pos 0) in
      let room : out' ≡ over (numbers_of new.gates ++ zeros) out = m.out-is ∙ ap (λ (x : Pass.After). x.out) at in
      let size : c.gatesout ≡ length new.gates = ap (λ k. k.gates_out) same ∙ made-size gs new in
      let long : length (numbers_of new.gates) ≡ width * c.gatesout = length-numbers new.gates ∙ ap (λ (k : ℕ). width * k) (sym size) in
      record {
        is = sym is;
        made = record {
          is = sym is;
          small = counts-small c h.qubits h.terms gs same (omega (arith, few.few, gates-length l));
          fits =
              omega (arith, long, ap length (room ∙ append_assoc (numbers_of new.gates) zeros (drop (length (numbers_of new.gates ++ zeros)) out)), length-append (numbers_of new.gates) (zeros ++ drop (length (numbers_of new.gates ++ zeros)) out));
          numbers = ap (take (width * c.gatesout)) (room ∙ append_assoc (numbers_of new.gates) zeros _) ∙ take_at (numbers_of new.gates) _ (width * c.gatesout) long;
          counts = same;
        };
      }

  pub fits : (a : Answered Counts Refusal) → Minimizes l h.wires h.bits h.qubits h.terms out terms steps a out' terms' steps' → Fits exact h l a out'
  fits (Err r) m = fits-refused r m
  fits (Ok c) m = fits-done c m
