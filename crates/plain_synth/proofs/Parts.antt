-- Walk, closing map and flips, one behind the other, are the resynthesis.
use mathlib.Core.Path.{◌≡◌, refl, ap, ◌∙◌}
use mathlib.Core.Bool.{Bool}
use mathlib.Core.List.{List, [], ◌++◌, append_assoc}
use mathlib.Core.Option.{Option, some}
use Prim.Native.Nat.{ℕ, ◌+◌, ◌*◌, ◌≤◌}
use native.Mathlib.Omega.{arith}
use lib.IntN.{ℤ}
use lib.ListN.{length}
use Rattle.rules.specs.Gate.{Gate}
use Rattle.rules.specs.Numbers.{numbers_of}
use Rattle.rules.specs.Fold.{Term}
use Rattle.rules.specs.Walk.{Step}
use Rattle.rules.specs.Close.{closing}
use Rattle.rules.specs.Synth.{emit, with_steps, synth}
use Rattle.rules.proofs.Bits.{split}
use Rattle.rules.proofs.Counting.{closing-size}
use Rattle.rules.proofs.Steps.{emit-append, pure-count, closing-steps}
use Rattle.writing.specs.Written.{Stands, Wrote}
use Rattle.writing.proofs.Following.{wrote_then}
use Rattle.plain_close.specs.Map.{Follows}
use Rattle.synth.specs.Flips.{flip_if, flips_from}
use Rattle.synth.proofs.Sections.{whole, walked, begun, synth-parts}
use Rattle.plain_synth.specs.Whole.{Made}

-- nothing stands there yet
pub stands-none : (room : List ℤ) → Stands room 0 []
unfolding numbers_of
stands-none room = record { text = refl; count = refl }

pub made-parts : (names hs : List ℕ) (v n : ℕ) (ts : List Term) (ln : length names ≡ n) (lh : length hs ≡ n) (o o₁ o₂ o₃ : List ℤ) (k₁ k₂ k₃ : ℕ)
    → Wrote (emit names (walked names hs v n ts ln lh)) o 0 o₁ k₁ → Follows (closing (begun names hs v n ts ln lh) hs) names o₁ k₁ o₂ k₂
    → Wrote (flips_from names v n 0) o₂ k₂ o₃ k₃ → Made (synth (whole names hs v n ts ln lh)) o₃ k₃
made-parts names hs v n ts ln lh o o₁ o₂ o₃ k₁ k₂ k₃ w c f =
    let ss : List Step = walked names hs v n ts ln lh in
    let flips : List Gate = flips_from names v n 0 in
    record {
      gates = emit names ss ++ (emit names c.steps ++ flips);
      is = synth-parts names hs v n ts ln lh ∙ ap (λ (z : Option (List Step)). with_steps z (λ d. emit names (ss ++ d) ++ flips)) c.is
          ∙ ap (λ (l : List Gate). some (l ++ flips)) (emit-append names ss c.steps) ∙ ap some (append_assoc (emit names ss) (emit names c.steps) flips);
      stands = (wrote_then w (wrote_then c.wrote f)).made [] (stands-none o);
    }

-- ---- what there is room for

-- n rows never take more than n squared CNOTs
pub follows-few : (from to names : List ℕ) (o o₁ : List ℤ) (k k₁ : ℕ) → length from ≡ length to → Follows (closing from to) names o k o₁ k₁ → k₁ ≤ k + length to * length to
follows-few from to names o o₁ k k₁ l f =
    omega (arith, f.wrote.count, (pure-count names f.steps (closing-steps from to f.steps l f.is).1).0, closing-size from to f.steps f.is)

-- one x at most
pub flip-few : (on : Bool) (q : ℕ) → length (flip_if on q) ≤ 1
flip-few on q = split on (λ e. rw e (omega arith)) (λ e. rw e (omega arith))
