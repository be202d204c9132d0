-- What is printed is what the list program prints, and so keeps demand 3.
use mathlib.Core.Path.{◌≡◌, sym, ap, ◌∙◌}
use mathlib.Core.Bool.{false}
use mathlib.Core.List.{List}
use Prim.Native.Nat.{ℕ}
use Rattle.saying.specs.Answer.{Answer, exact}
use Rattle.saying.specs.Clauses.{Says}
use Rattle.saying.specs.declared.Said.{Said}
use Rattle.saying.proofs.Saying.{says-shown}
use Rattle.saying.proofs.Taking.{answer-same}
use Rattle.list.specs.Answer as List
use Rattle.list.specs.Clauses.{Kept}
use Rattle.list.proofs.Keeping.{text-kept}
use Rattle.plain_list.specs.Answer.{plain_exact, answer}
use Rattle.plain_list.specs.Clauses.{Plains}
use Rattle.plain_list.proofs.Fitting.{plain-exact}

-- the budget decides nothing that is printed
pub same_answer : (text : List ℕ) → (answer text).refused ≡ false → answer text ≡ List.answer text
unfolding answer List.answer
same_answer text f = answer-same plain_exact exact List.shortened plain-exact text f

kept_same : (text : List ℕ) → (answer text).refused ≡ false → Kept text (answer text).text
kept_same text f =
    let e = same_answer text f in
    rw e (text-kept text (ap (λ (a : Answer). a.refused) (sym e) ∙ f))

pub plains : (text room : List ℕ) (r : Said) (room' : List ℕ) → Says (answer text) room r room' → Plains text room r room'
plains text room r room' s = record {
  says = s;
  same = λ e. same_answer text (sym s.refused ∙ e);
  kept = λ e. rw (says-shown _ room r room' s) (kept_same text (sym s.refused ∙ e));
}
