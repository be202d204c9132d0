-- What is printed reads back, and keeps demand 3.
use mathlib.Core.Path.{◌≡◌, refl, sym, ap, ◌∙◌}
use mathlib.Core.Bool.{false}
use mathlib.Core.List.{List}
use Prim.Native.Nat.{ℕ, ◌/◌}
use native.Mathlib.Omega.{arith}
use lib.IntN.{ℤ}
use lib.ListN.{length}
use Rattle.rules.specs.Limits.{width}
use Rattle.rules.specs.Gate.{Gate}
use Rattle.rules.specs.Numbers.{gates_of, numbers_of}
use Rattle.rules.specs.Refusal.{accepted}
use Rattle.rules.specs.Scan.{Result}
use Rattle.rules.specs.Pass.{pass, counts}
use Rattle.rules.proofs.Reading.{length-numbers}
use Rattle.rules.proofs.Resynthesis.{promised, counts-spent}
use Rattle.spelling.specs.Sizes.{list_gates}
use Rattle.spelling.specs.Texts.{Head, list_text, result_text}
use Rattle.spelling.specs.Reading.{read, read_text}
use Rattle.spelling.proofs.Spelling.{Listed, read-text, text-read}
use Rattle.saying.specs.Answer.{exact}
use Rattle.saying.specs.Clauses.{Says}
use Rattle.saying.specs.declared.Said.{Said}
use Rattle.saying.proofs.Saying.{says-shown}
use Rattle.saying.proofs.Taking.{answer-kept}
use Rattle.fitting.proofs.Made.{made-few, made-ranged, made-shown, same-result}
use Rattle.list.specs.Answer.{shortened, answer}
use Rattle.list.specs.Clauses.{Kept, Lists}

gates-counted : (gs : List Gate) → length (numbers_of gs) / width ≡ length gs
gates-counted gs = omega (arith, length-numbers gs)

-- ---- a list that was accepted

module _ (text : List ℕ) (h : Head) (ns : List ℤ) (is : read_text list_gates text ≡ read h ns) where
  abbrev gs : List Gate
  gs = gates_of ns

  abbrev new : Result
  new = pass h.qubits h.terms gs

  -- the new list, in the form of the old one
  made-listed : exact h ns ≡ accepted → Listed list_gates h (numbers_of new.gates)
  made-listed e =
      let l = (text-read list_gates h ns text is).1 in
      let size = length-numbers new.gates in
      let few = made-few h ns e in
      record {
        wires = l.wires;
        bits = l.bits;
        qubits = l.qubits;
        terms = l.terms;
        whole = omega arith;
        few = omega (arith, l.few);
        count = omega (arith, l.count);
        each = made-ranged h ns e l.each;
        shown = rw (gates-counted new.gates) (made-shown h ns e l.shown);
      }

  accepted-kept : exact h ns ≡ accepted → Kept text (shortened h ns).text
  unfolding shortened result_text counts
  accepted-kept e = record {
    head = h;
    old = ns;
    list = list_text h (numbers_of new.gates);
    new = numbers_of new.gates;
    counts = counts gs new;
    reads = is;
    parts = refl;
    reads-back = read-text list_gates h (numbers_of new.gates) (made-listed e);
    promised = rw (same-result h ns e) (promised h.qubits h.terms gs);
    spent = counts-spent h.qubits h.terms gs;
    counted = ap (λ (r : Result). counts gs r) (sym (same-result h ns e));
  }

-- ---- a text

pub text-kept : (text : List ℕ) → (answer text).refused ≡ false → Kept text (answer text).text
unfolding answer
text-kept text f = answer-kept (Kept text) exact shortened text (λ h ns is e g. accepted-kept text h ns is e) f

pub lists : (text room : List ℕ) (r : Said) (room' : List ℕ) → Says (answer text) room r room' → Lists text room r room'
lists text room r room' s = record { says = s; kept = λ e. rw (says-shown _ room r room' s) (text-kept text (sym s.refused ∙ e)) }
