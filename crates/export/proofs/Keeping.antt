-- What export prints reads, as a laboratory's text, as the same wires, bits and gates.
use mathlib.Core.Path.{◌≡◌, sym, ap, ◌∙◌}
use mathlib.Core.Bool.{false, true≢false}
use mathlib.Core.List.{List}
use Prim.Native.Nat.{ℕ, ◌/◌, ◌≤◌}
use native.Mathlib.Omega.{arith}
use borrow.Author.Tests.{ltb-true, ltb-false}
use lib.Dec.{ltb}
use lib.IntN.{ℤ}
use lib.ListN.{length}
use Rattle.rules.specs.Limits.{width}
use Rattle.rules.specs.Refusal.{accepted}
use Rattle.rules.proofs.Bits.{split}
use Rattle.spelling.specs.Sizes.{list_gates}
use Rattle.spelling.specs.Texts.{Head}
use Rattle.spelling.specs.Reading.{read, read_text}
use Rattle.spelling.proofs.Spelling.{text-read}
use Rattle.saying.specs.Answer.{Answer, exact}
use Rattle.saying.specs.Clauses.{Says}
use Rattle.saying.specs.declared.Said.{Said}
use Rattle.saying.proofs.Saying.{says-shown}
use Rattle.saying.proofs.Checking.{exact-fits}
use Rattle.saying.proofs.Taking.{answer-kept}
use Rattle.qasm.specs.Export.{unspelled}
use Rattle.qasm.proofs.Trips.{Spellable, export-import}
use Rattle.export.specs.Answer.{translated, answer}
use Rattle.export.specs.Clauses.{Translated, Exports}
use Rattle.export.proofs.Answering.{unspelled-most, not-spelled, all-spelled}

module _ (text : List ℕ) (h : Head) (ns : List ℤ) (is : read_text list_gates text ≡ read h ns) where
  spellable : exact h ns ≡ accepted → length ns / width ≤ unspelled ns → Spellable list_gates h.wires h.bits ns
  spellable e k =
      let l = (text-read list_gates h ns text is).1 in
      let a = exact-fits h ns e in
      record { whole = l.whole; few = l.few; wires-fit = a.wires; bits_fit = a.bits; each = l.each; right = a.each; known = omega (arith, unspelled-most ns) }

  accepted-kept : exact h ns ≡ accepted → (translated h ns).refused ≡ false → Translated text (translated h ns).text
  accepted-kept e f =
      split (ltb (unspelled ns) (length ns / width))
      (λ t. absurd (true≢false (ap (λ (a : Answer). a.refused) (sym (not-spelled h ns (ltb-true (unspelled ns) (length ns / width) t))) ∙ f)))
      (λ t.
      let k = ltb-false (unspelled ns) (length ns / width) t in
      rw (all-spelled h ns k) (record { head = h; numbers = ns; reads = is; reads-back = export-import list_gates h.wires h.bits ns (spellable e k) }))

text-kept : (text : List ℕ) → (answer text).refused ≡ false → Translated text (answer text).text
unfolding answer
text-kept text f = answer-kept (Translated text) exact translated text (accepted-kept text) f

pub exports : (text room : List ℕ) (r : Said) (room' : List ℕ) → Says (answer text) room r room' → Exports text room r room'
exports text room r room' s = record { says = s; translated = λ e. rw (says-shown _ room r room' s) (text-kept text (sym s.refused ∙ e)) }
