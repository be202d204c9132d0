-- What the plain engine promises, for every list, any numbers of wires and bits, any two caps and any four rooms.
use Rattle.std.specs.Prelude.{◌≡◌, Result, List, ℕ, zero, ◌*◌, ℤ, pos, length, replicate}
use Rattle.rules.specs.Limits.{width, clamp_qubits, whole_gates}
use Rattle.rules.specs.Numbers.{gates_of}
use Rattle.rules.specs.Refusal.{Verdict, accepted, refused}
use Rattle.rules.specs.Stretch.{Stretchwise, AlikeGates}
use Rattle.rules.specs.Plan.{Plan, plan_of}
use Rattle.rules.specs.Promise.{Exactly}
use Rattle.rules.specs.Pass as Paper
use Rattle.rules.specs.Pass.{over, writer_of}
use Rattle.gate.specs.declared.Refusal.{Refusal}
use Rattle.cnot_min.specs.declared.Counts.{Counts}
use Rattle.cnot_min.specs.Minimizing.{told, shown, Minimizes, Minimized}
use Rattle.plain_check.specs.Refusing.{plain_verdict}

-- ---- the definition

-- the room of one resynthesis ends as 0, all of it; the rest is untouched
unfoldable pub whole_after : List ℤ → List ℤ
whole_after room = over (replicate (width * whole_gates) (pos zero)) room

pub record PlainAfter : Type 0 where
  pub first : Paper.After
  pub whole : List ℤ

-- a refusal writes nothing
abbrev pub plain_as : Verdict → List ℤ → ℕ → ℕ → List ℤ → List ℕ → List ℕ → List ℤ → PlainAfter
plain_as (refused r) l qcap tcap out terms steps whole = record { first = record { answer = Paper.refusal r; out = out; terms = terms; steps = steps }; whole = whole }
plain_as accepted l qcap tcap out terms steps whole =
    record { first = Paper.after_as accepted (gates_of l) (Paper.pass qcap tcap (gates_of l)) out terms steps; whole = whole_after whole }

-- everything that the plain engine does
unfoldable pub plain_after : List ℤ → ℕ → ℕ → ℕ → ℕ → List ℤ → List ℕ → List ℕ → List ℤ → PlainAfter
unfolding plain_verdict gates_of Paper.pass Paper.counts Paper.out_after Paper.terms_after Paper.steps_after whole_after
plain_after l wires bits qcap tcap out terms steps whole =
    plain_as (plain_verdict l wires bits (clamp_qubits qcap) (length out) (length terms) (length steps) (length whole)) l qcap tcap out terms steps whole

-- ---- the promise

pub record Plainly (l : List ℤ) (wires bits qcap tcap : ℕ) (out : List ℤ) (terms steps : List ℕ) (whole : List ℤ) (r : Result Counts Refusal) (out' : List ℤ) (terms' steps' : List ℕ) (whole' : List ℤ) : Type 0 where
  -- refused exactly when document 02 says, in its order, with the cap as it is clamped; else the eight counts of document 01's pass.
  -- Wrong: a cap of 0 or above 128 tested before it is clamped; 15 after 4
  pub answer : told r ≡ (plain_after l wires bits qcap tcap out terms steps whole).first.answer
  -- refused: as they were. Done: what the first engine leaves there
  pub out-is : out' ≡ (plain_after l wires bits qcap tcap out terms steps whole).first.out
  pub terms-are : terms' ≡ (plain_after l wires bits qcap tcap out terms steps whole).first.terms
  pub steps-are : steps' ≡ (plain_after l wires bits qcap tcap out terms steps whole).first.steps
  -- refused: as it was. Done: all of the room of one resynthesis is 0, the rest untouched. Wrong: only the used part cleared; one number more
  pub whole_is : whole' ≡ (plain_after l wires bits qcap tcap out terms steps whole).whole
  -- where it is done, it keeps every promise of the first engine at the same arguments: answer, output, terms and steps are those of `Paper.after`.
  -- So the budget of the first engine decides nothing
  pub same : (c : Paper.Counts) → told r ≡ Paper.done c → Minimizes l wires bits qcap tcap out terms steps r out' terms' steps'
  -- of those promises, the first demand: the result acts as the list does, stretch by stretch
  pub alike : (c : Paper.Counts) → told r ≡ Paper.done c → Stretchwise AlikeGates (shown c out').gates (gates_of l)
  -- and the second: a block is replaced exactly when its resynthesis, written to its end, is cheaper
  pub exactly : (c : Paper.Counts) → told r ≡ Paper.done c → let p = plan_of qcap tcap in Exactly (writer_of p) p (gates_of l) (shown c out')

-- what the two engines leave, of the same list and in rooms of the same contents: the same
pub record Agree (r₁ : Result Counts Refusal) (out₁ : List ℤ) (terms₁ steps₁ : List ℕ) (r₂ : Result Counts Refusal) (out₂ : List ℤ) (terms₂ steps₂ : List ℕ) : Type 0 where
  pub answers : told r₁ ≡ told r₂
  pub outs : out₁ ≡ out₂
  pub terms : terms₁ ≡ terms₂
  pub steps : steps₁ ≡ steps₂

-- ---- an accepted list

-- what the first engine leaves in three rooms, at any caps that give the plan; and all of the fourth is 0
pub record Shortened (p : Plan) (l out : List ℤ) (terms steps : List ℕ) (whole : List ℤ) (r : Result Counts Refusal) (out' : List ℤ) (terms' steps' : List ℕ) (whole' : List ℤ) : Type 0 where
  pub first : (qcap tcap : ℕ) → p ≡ plan_of qcap tcap → Minimized l qcap tcap out terms steps r out' terms' steps'
  pub whole_is : whole' ≡ whole_after whole
