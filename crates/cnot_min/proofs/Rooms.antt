-- The rooms of an accepted list: what the scan is lent, and what is left in them.
use mathlib.Core.Path.{◌≡◌, refl, sym, ap, ◌∙◌}
use mathlib.Core.List.{List, [], ◌∷◌, ◌++◌}
use Prim.Native.Nat.{ℕ, zero, suc, ◌-◌, ◌*◌, ◌≤◌}
use native.Mathlib.Omega.{arith}
use lib.IntN.{ℤ, pos}
use lib.ListN.{length, get_or, take, drop, replicate, length-append, length-replicate}
use lib.Seq.{length-take-le}
use Rattle.rules.specs.Limits.{width, max_gates, max_wires, max_columns, term_width, step_width, term_entries, step_entries}
use Rattle.rules.specs.Gate.{Gate}
use Rattle.rules.specs.Numbers.{gates_of, numbers_of}
use Rattle.rules.specs.Counts.{twos, ts}
use Rattle.rules.specs.Refusal.{verdict, accepted}
use Rattle.rules.specs.Plan.{Plan, plan_of}
use Rattle.std.specs.Prelude.{Ok}
use Rattle.rules.specs.Scan.{Writer, Result, pass_by}
use Rattle.rules.specs.Pass as Paper
use Rattle.rules.specs.Pass.{writer_of}
use Rattle.rules.proofs.Accepting.{Accepted, accepted-is, write_read}
use Rattle.rules.proofs.Reading.{read-written, length-numbers, gates-length}
use Rattle.rules.proofs.Output.{output-length}
use Rattle.terms.proofs.Room.{room-length}
use Rattle.scan.specs.Scanning.{Scannable, Scans, gates_in}
use Rattle.scan.specs.declared.Tally.{Tally}
use Rattle.cnot_min.specs.Minimizing.{counted, Lent, Rewritable, Rewrites, Minimized}
use Rattle.cnot_min.specs.declared.Counts.{Counts}

-- a list that is its gates' numbers and no more
even : (l : List ℤ) → numbers_of (gates_of l) ≡ l → length l ≡ width * gates_in l
even l e = sym (ap length e) ∙ length-numbers (gates_of l) ∙ ap (λ (k : ℕ). width * k) (gates-length l)

-- ---- what the scan is lent

zeros-clear : (n q : ℕ) → get_or {A = ℕ} (replicate n 0) q 0 ≡ 0
zeros-clear zero q = refl
zeros-clear (suc n) zero = refl
zeros-clear (suc n) (suc q) = zeros-clear n q

clear-take : (w q : ℕ) (xs : List ℕ) → ((i : ℕ) → get_or xs i 0 ≡ 0) → get_or (take w xs) q 0 ≡ 0
clear-take zero q xs z = refl
clear-take (suc w) q [] z = refl
clear-take (suc w) zero (x ∷ xs) z = z 0
clear-take (suc w) (suc q) (x ∷ xs) z = clear-take w q xs (λ i. z (suc i))

pub scannable : (p : Plan) (w : ℕ) (l out : List ℤ) (terms steps : List ℕ) → Rewritable p l w out terms steps
    → Scannable p l out (take w (replicate max_wires 0)) terms steps
scannable p w l out terms steps r =
    let size : length (take w (replicate {A = ℕ} max_wires 0)) ≡ w = length-take-le w (replicate {A = ℕ} max_wires 0) r.checked.wires in
    record {
      capped = r.capped;
      checked = rw size r.checked;
      clear = record { clear = λ i. clear-take w i (replicate max_wires 0) (zeros-clear max_wires); terms = omega (arith, r.terms-fit, room-length terms) };
      fits = r.out-fits;
      long = omega (arith, r.steps-fit);
    }

-- ---- what is left

-- the counts, part by part
counts-eq : (gs hs : List Gate) (r : Result) (g m b p : ℕ) → g ≡ length gs → hs ≡ r.gates → m ≡ length r.gates → b ≡ r.blocks → p ≡ r.replaced
    → ◌≡◌ {A = Paper.Counts} (record { gates_in = g; gates_out = m; twos_in = twos gs; twos_out = twos hs; t_in = ts gs; t_out = ts hs; blocks = b; replaced = p }) (Paper.counts gs r)
unfolding Paper.counts
counts-eq gs hs r g m b p e f h i j = rw (e, f, h, i, j) refl

module _ (write : Writer) (p : Plan) (w : ℕ) (l out : List ℤ) (terms steps : List ℕ) (fit : Rewritable p l w out terms steps)
    (out₁ : List ℤ) (table₁ : List ℕ) (s : Tally) (scan : Scans write p l out₁ table₁ s) where
  result : List Gate
  result = (pass_by write p (gates_of l)).gates

  few : s.gates ≤ gates_in l
  few = omega (arith, scan.gates, output-length write p (gates_of l), gates-length l)

  pub shorter : length out₁ ≡ length out → width * s.gates ≤ length out₁
  shorter e = omega (arith, few, fit.out-fits)

  pub counts-are : (c : Counts)
      → c ≡ record { gatesin = gates_in l; gatesout = s.gates; twosin = twos (gates_of l); twosout = twos (gates_of (take (width * s.gates) out₁)); tin = ts (gates_of l); tout = ts (gates_of (take (width * s.gates) out₁)); blocks = s.blocks; replaced = s.replaced }
      → counted c ≡ Paper.counts (gates_of l) (pass_by write p (gates_of l))
  counts-are c e =
      let r : Result = pass_by write p (gates_of l) in
      let made : List ℤ = take (width * s.gates) out₁ in
      ap counted e
      ∙ counts-eq (gates_of l) (gates_of made) r (gates_in l) s.gates s.blocks s.replaced (sym (gates-length l)) (ap gates_of scan.text ∙ read-written r.gates) scan.gates scan.blocks scan.replaced

  pub rewrites : (c : Counts) (out' : List ℤ) (terms₁ steps₁ terms' steps' : List ℕ) → counted c ≡ Paper.counts (gates_of l) (pass_by write p (gates_of l)) → length out₁ ≡ length out
      → out' ≡ take (width * s.gates) out₁ ++ replicate (length out₁ - width * s.gates) (pos 0)
      → terms' ≡ replicate (length terms₁) 0 → length terms₁ ≡ length terms → steps' ≡ replicate (length steps₁) 0 → length steps₁ ≡ length steps
      → Rewrites write p l c out' terms' steps'
  unfolding result
  rewrites c out' terms₁ steps₁ terms' steps' counts e zeros z₁ e₁ z₂ e₂ =
      let rest : length out₁ - width * s.gates ≡ width * (gates_in l - length result) = omega (arith, scan.gates, few, e, fit.out-fits, even l fit.checked.exact) in
      record {
        counts = counts;
        out-is = zeros ∙ ap (λ ns. ns ++ replicate (length out₁ - width * s.gates) (pos 0)) scan.text ∙ ap (λ (k : ℕ). numbers_of result ++ replicate k (pos 0)) rest;
        terms-are = z₁ ∙ ap (λ (k : ℕ). replicate k 0) (e₁ ∙ fit.terms-fit);
        steps-are = z₂ ∙ ap (λ (k : ℕ). replicate k 0) (e₂ ∙ fit.steps-fit);
      }

-- ---- rooms that are longer

pub lent : (l : List ℤ) (w b out terms steps : ℕ) → verdict l w b out terms steps ≡ accepted → Lent l w out terms steps
lent l w b out terms steps e =
    let limits : Accepted l w b out terms steps = accepted-is l w b out terms steps e in
    record {
      checked = record { bits = b; exact = write_read l w b out terms steps e; few = limits.few; wires = limits.wires; each = limits.each };
      out-fits = omega (arith, limits.room);
      terms-fit = omega (arith, limits.term-room);
      steps-fit = omega (arith, limits.step_room);
    }

pub rewritable : (p : Plan) (l : List ℤ) (w : ℕ) (out : List ℤ) (terms steps : List ℕ) → p.qubits ≤ max_columns → Lent l w (length out) (length terms) (length steps)
    → Rewritable p l w (take (width * gates_in l) out) (take (term_width * term_entries (gates_in l)) terms) (take (step_width * step_entries (gates_in l)) steps)
rewritable p l w out terms steps k h = record {
  capped = k;
  checked = h.checked;
  out-fits = length-take-le (width * gates_in l) out h.out-fits ∙ sym (even l h.checked.exact);
  terms-fit = length-take-le (term_width * term_entries (gates_in l)) terms h.terms-fit;
  steps-fit = length-take-le (step_width * step_entries (gates_in l)) steps h.steps-fit;
}

-- the plan of two caps is clamped
pub clamped : (q t : ℕ) → (plan_of q t).qubits ≤ max_columns
clamped q t = omega arith

pub over-is : {A : Type 0} (new room : List A) (n : ℕ) → length new ≡ n → new ++ drop n room ≡ Paper.over new room
over-is {A} new room n e = ap (λ (k : ℕ). new ++ drop k room) (sym e)

module _ (l : List ℤ) (q t : ℕ) (c : Counts) (new : List ℤ) (terms' steps' : List ℕ) (r : Rewrites (writer_of (plan_of q t)) (plan_of q t) l c new terms' steps') where
  made : List Gate
  made = (pass_by (writer_of (plan_of q t)) (plan_of q t) (gates_of l)).gates

  new-size : length new ≡ width * gates_in l
  unfolding made
  new-size =
      ap length r.out-is ∙ length-append (numbers_of made) (replicate (width * (gates_in l - length made)) (pos 0))
      ∙ omega (arith, length-numbers made, length-replicate (width * (gates_in l - length made)) (pos 0), output-length (writer_of (plan_of q t)) (plan_of q t) (gates_of l), gates-length l)

  pub minimized : (out : List ℤ) (terms steps : List ℕ)
      → Minimized l q t out terms steps (Ok c) (new ++ drop (width * gates_in l) out) (terms' ++ drop (term_width * term_entries (gates_in l)) terms) (steps' ++ drop (step_width * step_entries (gates_in l)) steps)
  unfolding Paper.pass Paper.out_after Paper.terms_after Paper.steps_after
  minimized out terms steps =
      let g : gates_in l ≡ length (gates_of l) = sym (gates-length l) in
      record {
        answer = ap Paper.done r.counts;
        out-is = over-is new out (width * gates_in l) new-size ∙ ap (λ ns. Paper.over ns out) (r.out-is ∙ ap (λ (k : ℕ). numbers_of (Paper.pass q t (gates_of l)).gates ++ replicate (width * (k - length (Paper.pass q t (gates_of l)).gates)) (pos 0)) g);
        terms-are = over-is terms' terms (term_width * term_entries (gates_in l)) (ap length r.terms-are ∙ length-replicate (term_width * term_entries (gates_in l)) 0) ∙ ap (λ ns. Paper.over ns terms) (r.terms-are ∙ ap (λ (k : ℕ). replicate (term_width * term_entries k) 0) g);
        steps-are = over-is steps' steps (step_width * step_entries (gates_in l)) (ap length r.steps-are ∙ length-replicate (step_width * step_entries (gates_in l)) 0) ∙ ap (λ ns. Paper.over ns steps) (r.steps-are ∙ ap (λ (k : ℕ). replicate (step_width * step_entries k) 0) g);
      }
