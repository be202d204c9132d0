-- The code's head as the definitions' head.
use Rattle.spelling.specs.Texts as Texts
use Rattle.spelling.specs.Forms.{form_of}
use Rattle.spelling.specs.declared.Head.{Head}

abbrev pub head_of : Head → Texts.Head
head_of h = record { wires = h.wires; bits = h.bits; qubits = h.qubits; terms = h.terms; form = form_of h.form }
