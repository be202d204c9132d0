-- The code's answer as that of the definitions.
use Rattle.acting.specs.Alike.{Verdict, alike, map_differs, flips_differ, phase_differs}
use Rattle.acting.specs.declared.Verdict as Code
use Rattle.acting.specs.declared.Verdict.TheVariants.{Same, Map, Flips, Phase}

abbrev pub verdict_of : Code.Verdict → Verdict
verdict_of Same = alike
verdict_of Map = map_differs
verdict_of Flips = flips_differ
verdict_of Phase = phase_differs
