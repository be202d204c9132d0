-- What import prints reads back, and export would print the text that was read.
use mathlib.Core.Path.{◌≡◌, sym, ◌∙◌}
use mathlib.Core.Bool.{false}
use mathlib.Core.List.{List}
use Prim.Native.Nat.{ℕ, ◌/◌, ◌≤◌}
use native.Mathlib.Omega.{arith}
use lib.IntN.{ℤ}
use lib.ListN.{length}
use Rattle.rules.specs.Limits.{width}
use Rattle.spelling.specs.Sizes.{list_bytes, list_gates}
use Rattle.spelling.proofs.Forms.{shown-six}
use Rattle.spelling.proofs.Spelling.{Listed, read-text}
use Rattle.saying.specs.Clauses.{Says}
use Rattle.saying.specs.declared.Said.{Said}
use Rattle.saying.proofs.Saying.{says-shown}
use Rattle.qasm.specs.Import.{list, read_qasm}
use Rattle.qasm.proofs.Trips.{Spellable, import-export, import-lines}
use Rattle.import.specs.Answer.{head_for, translated, answer}
use Rattle.import.specs.Clauses.{Translated, Imports}
use Rattle.import.proofs.Taking.{answer-kept}

spelled-listed : (w b : ℕ) (ns : List ℤ) → Spellable list_gates w b ns → Listed list_gates (head_for w b) ns
spelled-listed w b ns s = record {
  wires = omega (arith, s.wires-fit);
  bits = omega (arith, s.bits_fit);
  qubits = omega arith;
  terms = omega arith;
  whole = s.whole;
  few = s.few;
  count = omega (arith, s.few);
  each = s.each;
  shown = shown-six (length ns / width) ns;
}

list-kept : (text : List ℕ) (w b : ℕ) (ns : List ℤ) → length text ≤ list_bytes → read_qasm list_gates text ≡ list w b ns → Translated text (translated (head_for w b) ns).text
unfolding translated
list-kept text w b ns h e =
    let p = import-export list_gates text w b ns (omega arith) e in
    record {
      wires = w;
      bits = b;
      numbers = ns;
      reads = e;
      reads-back = read-text list_gates (head_for w b) ns (spelled-listed w b ns p.1);
      exports = sym p.0;
      lines = sym (import-lines list_gates text w b ns (omega arith) e);
    }

text-kept : (text : List ℕ) → (answer text).refused ≡ false → Translated text (answer text).text
unfolding answer
text-kept text f = answer-kept (Translated text) translated text (list-kept text) f

pub imports : (text room : List ℕ) (r : Said) (room' : List ℕ) → Says (answer text) room r room' → Imports text room r room'
imports text room r room' s = record { says = s; translated = λ e. rw (says-shown _ room r room' s) (text-kept text (sym s.refused ∙ e)) }
