-- Where gates come from, said: one that was copied, and those of a block that was written again.
use mathlib.Core.Path.{◌≡◌, refl}
use mathlib.Core.List.{[], ◌∷◌}
use lib.IntN.{pos, negsuc}
use Rattle.text.specs.Bytes.{bytes}
use Rattle.text.specs.Printing.{printed, decimal}
use Rattle.qasm.specs.Table.{template, field_of}
use Rattle.origin.specs.Origins.{kept, made, origins_text}

told : origins_text (
    kept (record { code = 10; first = 0; second = 0; third = 0; turn = pos 0; line = 5 })
    ∷ made 6 12 (record { code = 8; first = 1; second = 0; third = 0; turn = pos 0; line = 6 })
    ∷ made 6 12 (record { code = 7; first = 1; second = 0; third = 0; turn = negsuc 2; line = 6 }) ∷ [])
    ≡ bytes "h q[0]; // line 5\ncx q[1],q[0]; // lines 6 to 12\nrz(-3*pi/4) q[1]; // lines 6 to 12\n"
unfolding origins_text printed decimal field_of template
told = refl
