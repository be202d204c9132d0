-- Document 01's number, place and field for each case of the code's verdict.
use Rattle.std.specs.Prelude.{Result, Ok, Err}
use Rattle.rules.specs.Refusal as Paper
use Rattle.gate.specs.declared.Refusal.{Refusal}
use Rattle.gate.specs.Faults.{tells}

abbrev pub refusal_of : Refusal → Paper.Refusal
refusal_of r = let f = tells r.fault in record { number = f.number; place = r.place; field = f.field }

abbrev pub verdict_of : Result (Unit {0}) Refusal → Paper.Verdict
verdict_of (Ok u) = Paper.accepted
verdict_of (Err r) = Paper.refused (refusal_of r)
