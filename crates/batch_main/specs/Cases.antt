-- What the helpers of the program keep: a case within the program's arrays.
use Rattle.std.specs.Prelude.{ℕ, ◌*◌, ◌≤◌}
use Rattle.rules.specs.Limits.{width, term_width, step_width, term_entries, step_entries}
use Rattle.batch_main.specs.declared.Case.{Case}

-- some more than 8,192 gates, and their numbers
abbrev pub most_gates : ℕ
most_gates = 10900

abbrev pub most_numbers : ℕ
most_numbers = width * most_gates

-- the rooms that they need
abbrev pub most_terms : ℕ
most_terms = term_width * term_entries most_gates

abbrev pub most_steps : ℕ
most_steps = step_width * step_entries most_gates

-- the list and the rooms of a case are no longer than the program's own
pub record Small (c : Case) : Type 0 where
  pub list-fits : c.list ≤ most_numbers
  pub out-fits : c.out ≤ most_numbers
  pub terms-fits : c.terms ≤ most_terms
  pub steps-fits : c.steps ≤ most_steps
