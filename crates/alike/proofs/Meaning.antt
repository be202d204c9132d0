-- What the answer means, for lists that are taken.
use mathlib.Core.Path.{◌≡◌, refl, sym, ap, ◌∙◌}
use mathlib.Core.Logic.{◌↔◌}
use mathlib.Core.List.{List}
use Prim.Native.Nat.{ℕ}
use lib.IntN.{ℤ}
use Rattle.rules.specs.Refusal.{Verdict, accepted, refused}
use Rattle.std.specs.Prelude.{Result}
use Rattle.acting.specs.declared.Verdict as Code
use Rattle.acting.specs.Alike as Question
use Rattle.acting.specs.Alike.{AllBelow, verdict}
use Rattle.acting.proofs.Deciding.{verdict-alike, verdict-map, verdict-flips, verdict-phase}
use Rattle.compare.specs.View.{ops_of}
use Rattle.compare.proofs.Saying.{fine-below}
use Rattle.alike.specs.Answering.{Answer, refusal, says, after, answer, told, Taken, Answers}
use Rattle.alike.specs.declared.Blame.{Blame}
use Rattle.alike.proofs.Checking.{asked-fine}

-- a list whose check leaves every rest as it is is accepted
pub taken-by : (k : ℕ) (v : Verdict) → ((rest : Answer) → rest ≡ after k v rest) → v ≡ accepted
taken-by k accepted h = refl
taken-by k (refused r) h = let e : says Question.alike ≡ refusal k r = h (says Question.alike) in cc

-- the verdict that is said
verdict_in : Answer → Question.Verdict → Question.Verdict
verdict_in (refusal k r) else = else
verdict_in (says v) else = v

module _ (first second : List ℤ) (w : ℕ) (r : Result Code.Verdict Blame) (e : told r ≡ answer first second w) where
  taken : Taken first second w → told r ≡ says (verdict w (ops_of first) (ops_of second))
  unfolding answer
  taken t = e ∙ rw (t.one, t.two)

  -- an answer is the verdict
  says_is : Taken first second w → (v : Question.Verdict) → (told r ≡ says v) ↔ (verdict w (ops_of first) (ops_of second) ≡ v)
  unfolding verdict_in
  says_is t v = (λ h. ap (λ (a : Answer). verdict_in a v) (sym (taken t) ∙ h), λ h. taken t ∙ ap says h)

  below : Taken first second w → AllBelow w (ops_of first) × AllBelow w (ops_of second)
  below t = (fine-below first w (asked-fine first w t.one).0, fine-below second w (asked-fine second w t.two).0)

  through : {A B C : Type 0} → A ↔ B → B ↔ C → A ↔ C
  through f g = (λ a. g.0 (f.0 a), λ c. f.1 (g.1 c))

  pub answers : Answers first second w r
  unfolding ops_of
  answers = record {
    answered = e;
    same = λ t. through (says_is t Question.alike) (verdict-alike w (ops_of first) (ops_of second) (below t).0 (below t).1);
    map = λ t. through (says_is t Question.map_differs) (verdict-map w (ops_of first) (ops_of second) (below t).0 (below t).1);
    flips = λ t. through (says_is t Question.flips_differ) (verdict-flips w (ops_of first) (ops_of second) (below t).0 (below t).1);
    phase = λ t. through (says_is t Question.phase_differs) (verdict-phase w (ops_of first) (ops_of second) (below t).0 (below t).1);
  }
