-- What is printed reads back, and keeps demand 3.
use mathlib.Core.Path.{◌≡◌, sym, ap, ◌∙◌}
use mathlib.Core.Bool.{false}
use mathlib.Core.List.{List}
use Prim.Native.Nat.{ℕ, ◌*◌, ◌≤◌}
use native.Mathlib.Omega.{arith}
use lib.IntN.{ℤ}
use lib.ListN.{length, take}
use Rattle.rules.specs.Limits.{width}
use Rattle.rules.specs.Numbers.{gates_of, numbers_of}
use Rattle.rules.specs.Scan.{Result}
use Rattle.rules.specs.Pass.{pass}
use Rattle.rules.proofs.Resynthesis.{promised}
use Rattle.cnot_min.specs.declared.Counts.{Counts}
use Rattle.spelling.specs.Sizes.{list_bytes, list_gates}
use Rattle.spelling.specs.Texts.{Head}
use Rattle.saying.specs.Answer.{answered}
use Rattle.saying.specs.Clauses.{Says}
use Rattle.saying.specs.declared.Said.{Said}
use Rattle.saying.proofs.Saying.{says-shown}
use Rattle.fitting.specs.Clauses.{Made}
use Rattle.fitting.proofs.Made.{same-result}
use Rattle.qasm.specs.Import.{list, read_qasm}
use Rattle.qasm.specs.Export.{qasm_text}
use Rattle.qasm.proofs.Trips.{import-export, export-import}
use Rattle.import.specs.Answer.{head_for}
use Rattle.import.proofs.Taking.{imported-exact, answer-kept}
use Rattle.shorten.specs.Answer.{shortened, answer}
use Rattle.shorten.specs.Clauses.{Kept, Shortens}
use Rattle.shorten.proofs.Spelled.{made-spellable}

-- what is printed, by what the pass leaves in its room
pub shown : (h : Head) (l : List ℤ) (c : Counts) (room' : List ℤ) → Made h l c room' → shortened h l ≡ answered (qasm_text h.wires h.bits (take (width * c.gatesout) room'))
unfolding shortened
shown h l c room' m = ap (λ (ns : List ℤ). answered (qasm_text h.wires h.bits ns)) (sym m.numbers)

list-kept : (text : List ℕ) (w b : ℕ) (ns : List ℤ) → length text ≤ list_bytes → read_qasm list_gates text ≡ list w b ns → Kept text (shortened (head_for w b) ns).text
unfolding shortened
list-kept text w b ns h e =
    let s = (import-export list_gates text w b ns (omega arith) e).1 in
    let new : Result = pass 128 512 (gates_of ns) in
    record {
      wires = w;
      bits = b;
      old = ns;
      new = numbers_of new.gates;
      blocks = new.blocks;
      replaced = new.replaced;
      reads = e;
      reads-back = export-import list_gates w b (numbers_of new.gates) (made-spellable w b ns s);
      promised = rw (same-result (head_for w b) ns (imported-exact w b ns s)) (promised 128 512 (gates_of ns));
    }

text-kept : (text : List ℕ) → (answer text).refused ≡ false → Kept text (answer text).text
unfolding answer
text-kept text f = answer-kept (Kept text) shortened text (list-kept text) f

pub shortens : (text room : List ℕ) (r : Said) (room' : List ℕ) → Says (answer text) room r room' → Shortens text room r room'
shortens text room r room' s = record { says = s; kept = λ e. rw (says-shown _ room r room' s) (text-kept text (sym s.refused ∙ e)) }
