-- What the entry point promises, for every list, any numbers of wires and bits, any two caps and any three rooms.
use Rattle.std.specs.Prelude.{◌≡◌, Result, Ok, Err, List, ◌++◌, ℕ, ◌-◌, ◌*◌, ◌≤◌, ℤ, pos, length, take, replicate}
use Rattle.rules.specs.Limits.{width, max_columns, term_width, step_width, term_entries, step_entries}
use Rattle.rules.specs.Numbers.{gates_of, numbers_of}
use Rattle.rules.specs.Stretch.{Stretchwise, AlikeGates}
use Rattle.rules.specs.Counts.{Thrifty, NoMoreT}
use Rattle.rules.specs.Plan.{Plan, plan_of}
use Rattle.rules.specs.Synth.{resynthesis}
use Rattle.rules.specs.Scan as Scan
use Rattle.rules.specs.Scan.{Writer, pieces_of, pass_by}
use Rattle.rules.specs.Lines as Lines
use Rattle.rules.specs.Lines.{lines_after, LinesFrom, unlined, five_of}
use Rattle.rules.specs.Promise.{Exactly}
use Rattle.rules.specs.Pass as Paper
use Rattle.rules.specs.Pass.{writer_of}
use Rattle.gate.specs.declared.Refusal.{Refusal}
use Rattle.gate.specs.Verdicts.{refusal_of}
use Rattle.scan.specs.Scanning.{Checked, gates_in}
use Rattle.cnot_min.specs.declared.Counts.{Counts}

-- ---- the answer, in document 01's words

-- the eight counts, in their order
abbrev pub counted : Counts → Paper.Counts
counted c = record {
  gates_in = c.gatesin;
  gates_out = c.gatesout;
  twos_in = c.twosin;
  twos_out = c.twosout;
  t_in = c.tin;
  t_out = c.tout;
  blocks = c.blocks;
  replaced = c.replaced;
}

-- a refusal's number, place and field, or the eight counts
abbrev pub told : Result Counts Refusal → Paper.Answer
told (Err r) = Paper.refusal (refusal_of r)
told (Ok c) = Paper.done (counted c)

-- ---- the promise

-- the result that the counts and the output show: as many gates as they say, read from the output's beginning
abbrev pub shown : Paper.Counts → List ℤ → Scan.Result
shown c out = record { gates = gates_of (take (width * c.gates_out) out); blocks = c.blocks; replaced = c.replaced }

-- demands 1, 2 and 3, that T never rises, and the lines
pub record Minimizes (l : List ℤ) (wires bits qcap tcap : ℕ) (out : List ℤ) (terms steps : List ℕ) (r : Result Counts Refusal) (out' : List ℤ) (terms' steps' : List ℕ) : Type 0 where
  -- refused exactly when document 01's table says, with its number, place and field; else the eight counts of document 01's pass.
  -- Wrong: always refusing; a count that is invented
  pub answer : told r ≡ (Paper.after l wires bits qcap tcap out terms steps).answer
  -- refused: as it was. Done: the pass's gates, 0 up to the list's length, the rest untouched.
  -- Wrong: copying the list; writing again only the first block; losing the sign before a t; one 0 too few
  pub out-is : out' ≡ (Paper.after l wires bits qcap tcap out terms steps).out
  -- refused: as it was. Done: the needed part 0, the rest untouched.
  -- Wrong: one entry too few cleared; one too many
  pub terms-are : terms' ≡ (Paper.after l wires bits qcap tcap out terms steps).terms
  pub steps-are : steps' ≡ (Paper.after l wires bits qcap tcap out terms steps).steps
  -- the gates outside the fragment are the same, field for field and in order, and each stretch between them takes every setting of
  -- the wires to the same setting, with phases that differ by one number. Wrong: an x lost; a t for a tdg
  pub alike : (c : Paper.Counts) → told r ≡ Paper.done c → Stretchwise AlikeGates (shown c out').gates (gates_of l)
  -- each stretch is unchanged, or no more gates, no more CNOT and CZ, and fewer of one. Wrong: a dearer writing kept; a gate added
  pub thrifty : (c : Paper.Counts) → told r ≡ Paper.done c → Stretchwise Thrifty (shown c out').gates (gates_of l)
  -- each gate outside a block is copied; each block is replaced exactly when its resynthesis is cheaper, else kept; and the blocks closed and replaced are counted.
  -- Wrong: a block that ties replaced; a cheaper writing left
  pub exactly : (c : Paper.Counts) → told r ≡ Paper.done c → let p = plan_of qcap tcap in Exactly (writer_of p) p (gates_of l) (shown c out')
  -- no stretch spends more T than it did: t, tdg, and rz or p with an odd turn. Wrong: a turn of 2 emitted as two t; one of 0 as t and tdg
  pub sparing : (c : Paper.Counts) → told r ≡ Paper.done c → Stretchwise NoMoreT (shown c out').gates (gates_of l)
  -- and so, of the counts that are told, T out is at most T in. Wrong: t and tdg alone counted, where rz(1) rz(0) becomes t; T in and out exchanged
  pub spent : (c : Paper.Counts) → told r ≡ Paper.done c → c.t_out ≤ c.t_in
  -- the lines out are, gate by gate, those of document 02: a copied gate has its own, the gates of a replaced block have the line of its first gate.
  -- Wrong: the line of the block's last gate; copied gates stamped too
  pub lines : (c : Paper.Counts) → told r ≡ Paper.done c
      → let p = plan_of qcap tcap in Lines.lines (shown c out').gates ≡ lines_after (writer_of p) (pieces_of p (gates_of l))
  -- and each of them is the line of a gate in, in the same stretch. Wrong: 0 for the gates that are new
  pub traced : (c : Paper.Counts) → told r ≡ Paper.done c → Stretchwise LinesFrom (shown c out').gates (gates_of l)
  -- demand 2: over the first five fields the result is that of document 01's pass, of the list without lines. This is what is compared with the Rust.
  -- Wrong: the line read as part of the cost
  pub five : (c : Paper.Counts) → told r ≡ Paper.done c → five_of (shown c out') ≡ pass_by resynthesis (plan_of qcap tcap) (unlined (gates_of l))

-- ---- an accepted list

-- its gates are sound, and rooms of these lengths are long enough for it
pub record Lent (l : List ℤ) (w out terms steps : ℕ) : Type 0 where
  pub checked : Checked l w
  pub out-fits : width * gates_in l ≤ out
  pub terms-fit : term_width * term_entries (gates_in l) ≤ terms
  pub steps-fit : step_width * step_entries (gates_in l) ≤ steps

-- rooms of exactly the length that the list needs
pub record Rewritable (p : Plan) (l : List ℤ) (w : ℕ) (out : List ℤ) (terms steps : List ℕ) : Type 0 where
  pub capped : p.qubits ≤ max_columns
  pub checked : Checked l w
  pub out-fits : length out ≡ length l
  pub terms-fit : length terms ≡ term_width * term_entries (gates_in l)
  pub steps-fit : length steps ≡ step_width * step_entries (gates_in l)

-- what they then hold: the result and 0, and 0
pub record Rewrites (write : Writer) (p : Plan) (l : List ℤ) (c : Counts) (out' : List ℤ) (terms' steps' : List ℕ) : Type 0 where
  pub counts : counted c ≡ Paper.counts (gates_of l) (pass_by write p (gates_of l))
  pub out-is : out' ≡ numbers_of (pass_by write p (gates_of l)).gates ++ replicate (width * (gates_in l - length (pass_by write p (gates_of l)).gates)) (pos 0)
  pub terms-are : terms' ≡ replicate (term_width * term_entries (gates_in l)) 0
  pub steps-are : steps' ≡ replicate (step_width * step_entries (gates_in l)) 0

-- the same in rooms that are at least as long
pub record Minimized (l : List ℤ) (qcap tcap : ℕ) (out : List ℤ) (terms steps : List ℕ) (r : Result Counts Refusal) (out' : List ℤ) (terms' steps' : List ℕ) : Type 0 where
  pub answer : told r ≡ Paper.done (Paper.counts (gates_of l) (Paper.pass qcap tcap (gates_of l)))
  pub out-is : out' ≡ Paper.out_after (length (gates_of l)) (Paper.pass qcap tcap (gates_of l)).gates out
  pub terms-are : terms' ≡ Paper.terms_after (length (gates_of l)) terms
  pub steps-are : steps' ≡ Paper.steps_after (length (gates_of l)) steps
