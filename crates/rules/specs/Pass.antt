-- The pass of document 01, its eight counts, and what it answers and leaves in each room.
use Rattle.std.specs.Prelude.{List, ◌++◌, ℕ, zero, ◌-◌, ◌*◌, ℤ, pos, length, drop, replicate}
use Rattle.rules.specs.Limits.{width, term_width, step_width, term_entries, step_entries}
use Rattle.rules.specs.Gate.{Gate}
use Rattle.rules.specs.Numbers.{gates_of, numbers_of}
use Rattle.rules.specs.Refusal.{Refusal, Verdict, accepted, refused, verdict}
use Rattle.rules.specs.Counts.{twos, ts}
use Rattle.rules.specs.Synth.{resynthesis}
use Rattle.rules.specs.Plan.{Plan, plan_of}
use Rattle.rules.specs.Scan.{Writer, Result, pass_by}
use Rattle.rules.specs.Lines.{lined}

-- what a plan rewrites a block to: document 01's resynthesis, whatever the caps are, with the line of the block's first gate
unfoldable pub writer_of : Plan → Writer
unfolding resynthesis lined
writer_of p = lined resynthesis

-- the pass at any two caps
unfoldable pub pass : ℕ → ℕ → List Gate → Result
unfolding pass_by writer_of
pass qcap tcap gs = let p = plan_of qcap tcap in pass_by (writer_of p) p gs

-- the eight counts, in document 01's order
pub record Counts : Type 0 where
  pub gates_in : ℕ
  pub gates_out : ℕ
  pub twos_in : ℕ
  pub twos_out : ℕ
  pub t_in : ℕ
  pub t_out : ℕ
  pub blocks : ℕ
  pub replaced : ℕ

unfoldable pub counts : List Gate → Result → Counts
unfolding twos ts
counts gs r = record {
  gates_in = length gs;
  gates_out = length r.gates;
  twos_in = twos gs;
  twos_out = twos r.gates;
  t_in = ts gs;
  t_out = ts r.gates;
  blocks = r.blocks;
  replaced = r.replaced;
}

-- ---- the rooms

-- a room whose first numbers are these; the rest is untouched
abbrev pub over : {A : Type 0} → List A → List A → List A
over new room = new ++ drop (length new) room

-- the result, then 0 up to the list's length
unfoldable pub out_after : ℕ → List Gate → List ℤ → List ℤ
unfolding numbers_of
out_after g result room = over (numbers_of result ++ replicate (width * (g - length result)) (pos zero)) room

-- the needed part of both work rooms ends as 0
unfoldable pub terms_after : ℕ → List ℕ → List ℕ
terms_after g room = over (replicate (term_width * term_entries g) zero) room

unfoldable pub steps_after : ℕ → List ℕ → List ℕ
steps_after g room = over (replicate (step_width * step_entries g) zero) room

-- ---- the answer

pub data Answer : Type 0 where
  refusal : Refusal → Answer
  done : Counts → Answer

pub record After : Type 0 where
  pub answer : Answer
  pub out : List ℤ
  pub terms : List ℕ
  pub steps : List ℕ

-- a refusal writes nothing
abbrev pub after_as : Verdict → List Gate → Result → List ℤ → List ℕ → List ℕ → After
after_as (refused r) gs new out terms steps = record { answer = refusal r; out = out; terms = terms; steps = steps }
after_as accepted gs new out terms steps = record {
  answer = done (counts gs new);
  out = out_after (length gs) new.gates out;
  terms = terms_after (length gs) terms;
  steps = steps_after (length gs) steps;
}

-- everything that the pass does, for every list, any numbers of wires and bits, any two caps and any three rooms
unfoldable pub after : List ℤ → ℕ → ℕ → ℕ → ℕ → List ℤ → List ℕ → List ℕ → After
unfolding verdict gates_of pass counts out_after terms_after steps_after
after l wires bits qcap tcap out terms steps =
    let gs = gates_of l in
    after_as (verdict l wires bits (length out) (length terms) (length steps)) gs (pass qcap tcap gs) out terms steps
