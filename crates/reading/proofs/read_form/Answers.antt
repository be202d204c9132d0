-- `reading::read_form` meets its contract: 4 after `head 4`.
use mathlib.Core.Path.{refl}
use Rattle.spelling.specs.Reading.{form_line}
use Rattle.reading.proofs.read_form.Goals as goal

pub returns-then-n-eq4 : goal.returns-then-n-eq4
unfolding form_line
returns-then-n-eq4 c = (4, rw c.if-n-eq4.true refl, refl)
