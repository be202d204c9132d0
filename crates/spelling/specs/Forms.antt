-- The code's form as the definitions' form.
use Rattle.spelling.specs.Texts as Texts
use Rattle.spelling.specs.declared.Form.{Form}
use Rattle.spelling.specs.declared.Form.TheVariants.{Four, Five, Six}

abbrev pub form_of : Form → Texts.Form
form_of Four = Texts.four
form_of Five = Texts.five
form_of Six = Texts.six
