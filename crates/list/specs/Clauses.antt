-- What the crate's functions ask and say.
use Rattle.std.specs.Prelude.{◌≡◌, false, List, ◌++◌, ℕ, ◌≤◌, ℤ, take}
use Rattle.rules.specs.Numbers.{gates_of}
use Rattle.rules.specs.Plan.{plan_of}
use Rattle.rules.specs.Promise.{Promised}
use Rattle.rules.specs.Pass as Paper
use Rattle.rules.specs.Pass.{writer_of}
use Rattle.spelling.specs.Sizes.{list_gates}
use Rattle.spelling.specs.Texts.{Head, counts_word, section_text}
use Rattle.spelling.specs.Reading.{read, read_text}
use Rattle.saying.specs.Clauses.{Says}
use Rattle.saying.specs.declared.Said.{Said}
use Rattle.list.specs.Answer.{count_numbers, answer}

-- demand 3, of the gates that are printed. The text reads as a head and some gates' numbers; what is printed is a list's text and a section of
-- counts; that list's text reads as the same head, and so in the same form, and other gates' numbers; and the gates that are printed stand to those that were read as
-- demand 3 says, and spend no more T. The counts are theirs
pub record Kept (text printed : List ℕ) : Type 0 where
  pub head : Head
  pub old : List ℤ
  pub list : List ℕ
  pub new : List ℤ
  pub counts : Paper.Counts
  pub reads : read_text list_gates text ≡ read head old
  pub parts : printed ≡ list ++ section_text counts_word (count_numbers counts)
  -- wrong: a blank behind a gate's last number; the count of the list that was read; caps printed as they were clamped; six numbers a gate after a 5
  pub reads-back : read_text list_gates list ≡ read head new
  -- wrong: an x lost; a dearer writing kept; a block that ties replaced; the line of a block's last gate
  pub promised : let p = plan_of head.qubits head.terms in Promised (writer_of p) p (gates_of old) (record { gates = gates_of new; blocks = counts.blocks; replaced = counts.replaced })
  -- wrong: T as document 01 counted it, by t and tdg alone; T in and out exchanged
  pub spent : counts.t_out ≤ counts.t_in
  -- wrong: the counts of another list
  pub counted : counts ≡ Paper.counts (gates_of old) (record { gates = gates_of new; blocks = counts.blocks; replaced = counts.replaced })

-- every text is answered by document 01's bytes; and where they are no refusal, the list that they show keeps demand 3
pub record Lists (text room : List ℕ) (r : Said) (room' : List ℕ) : Type 0 where
  pub says : Says (answer text) room r room'
  pub kept : r.refused ≡ false → Kept text (take r.length room')
