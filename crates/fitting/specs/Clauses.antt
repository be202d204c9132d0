-- What the crate's function says.
use Rattle.std.specs.Prelude.{◌≡◌, List, ℕ, ◌*◌, ◌/◌, ◌≤◌, ℤ, length, take, Result, Ok, Err}
use Rattle.rules.specs.Limits.{width, term_width, step_width, term_entries, step_entries}
use Rattle.rules.specs.Numbers.{gates_of, numbers_of}
use Rattle.rules.specs.Refusal.{accepted, refused}
use Rattle.rules.specs.Pass as Paper
use Rattle.rules.specs.Pass.{pass}
use Rattle.gate.specs.declared.Refusal.{Refusal}
use Rattle.gate.specs.Verdicts.{refusal_of}
use Rattle.cnot_min.specs.Minimizing.{counted}
use Rattle.cnot_min.specs.declared.Counts.{Counts}
use Rattle.spelling.specs.Sizes.{list_gates}
use Rattle.spelling.specs.Texts.{Head}
use Rattle.saying.specs.Answer.{Judge, exact}

-- no count of so few gates is larger
pub record Small (c : Counts) : Type 0 where
  pub gatesin : c.gatesin ≤ list_gates
  pub gatesout : c.gatesout ≤ list_gates
  pub twosin : c.twosin ≤ list_gates
  pub twosout : c.twosout ≤ list_gates
  pub tin : c.tin ≤ list_gates
  pub tout : c.tout ≤ list_gates
  pub blocks : c.blocks ≤ list_gates
  pub replaced : c.replaced ≤ list_gates

-- rooms exactly as long as a list of these numbers needs
pub record Exact (numbers new : List ℤ) (terms steps : List ℕ) : Type 0 where
  pub gates : length new ≡ length numbers
  pub term_room : length terms ≡ term_width * term_entries (length numbers / width)
  pub step_room : length steps ≡ step_width * step_entries (length numbers / width)

-- refused as the list is, at one of its gates
pub record Denied (judge : Judge) (h : Head) (l : List ℤ) (r : Refusal) : Type 0 where
  pub is : judge h l ≡ refused (refusal_of r)
  pub place : r.place ≤ list_gates

-- done: the pass's gates stand first in the room, and its counts are told
pub record Made (h : Head) (l : List ℤ) (c : Counts) (room' : List ℤ) : Type 0 where
  pub is : exact h l ≡ accepted
  pub small : Small c
  pub fits : width * c.gatesout ≤ length room'
  pub numbers : take (width * c.gatesout) room' ≡ numbers_of (pass h.qubits h.terms (gates_of l)).gates
  pub counts : counted c ≡ Paper.counts (gates_of l) (pass h.qubits h.terms (gates_of l))

-- whatever accepts a list, the same is made of it
pub record Written (judge : Judge) (h : Head) (l : List ℤ) (c : Counts) (room' : List ℤ) : Type 0 where
  pub is : judge h l ≡ accepted
  pub made : Made h l c room'

abbrev pub Fits : Judge → Head → List ℤ → Result Counts Refusal → List ℤ → Type 0
Fits judge h l (Err r) room' = Denied judge h l r
Fits judge h l (Ok c) room' = Written judge h l c room'
