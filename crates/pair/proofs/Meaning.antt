-- What an answer that is no refusal means: the text is two lists over the same wires, and `same` exactly where they act alike.
use mathlib.Core.Path.{◌≡◌, refl, sym, ap, ◌∙◌}
use mathlib.Core.Logic.{◌↔◌}
use mathlib.Core.Bool.{Bool, false, true≢false}
use mathlib.Core.List.{List, [], ◌∷◌, ◌++◌, append-nil}
use Prim.Native.Nat.{ℕ}
use native.Mathlib.Omega.{arith}
use borrow.Author.Tests.{eqb-true}
use lib.Dec.{eqb, ltb}
use lib.IntN.{ℤ}
use lib.ListN.{length}
use Rattle.rules.specs.Numbers.{gates_of}
use Rattle.rules.specs.Refusal as Rules
use Rattle.rules.specs.Stretch.{AlikeGates}
use Rattle.rules.proofs.Bits.{split}
use Rattle.text.specs.Bytes.{bytes}
use Rattle.spelling.specs.Sizes.{list_bytes, list_gates}
use Rattle.spelling.specs.Texts.{Head, list_text}
use Rattle.spelling.specs.Reading.{Front, wrong, large, list, list_at}
use Rattle.spelling.proofs.Spelling.{list_read}
use Rattle.saying.specs.Clauses.{Says}
use Rattle.saying.specs.declared.Said.{Said}
use Rattle.saying.proofs.Saying.{says-shown}
use Rattle.acting.specs.Alike.{Verdict, alike, map_differs, flips_differ, phase_differs}
use Rattle.acting.specs.declared.Verdict.TheVariants.{Same, Map, Flips, Phase}
use Rattle.alike.specs.Asking.{asked}
use Rattle.alike.specs.Answering as Alike
use Rattle.alike.specs.Answering.{answer as compared}
use Rattle.std.specs.Prelude.{Ok}
use Rattle.alike.proofs.Meaning.{answers}
use Rattle.pair.specs.Answer.{verdict_text, told, second_as, first_as, answer}
use Rattle.pair.specs.Clauses.{Compared, Pairs}

-- ---- two lists that the library compares

module _ (us vs : List ℤ) (w : ℕ) where
  -- what tells answers apart: a refusal from the others, and `same` by its length
  refuses : Alike.Answer → Bool
  refuses a = (told a).refused

  size : Alike.Answer → ℕ
  size a = length (told a).text

  -- both are taken
  taken : (v : Verdict) → compared us vs w ≡ Alike.says v → (one two : Rules.Verdict) → asked us w ≡ one → asked vs w ≡ two → Alike.Taken us vs w
  unfolding compared refuses
  taken v a (Rules.refused r) two e f = absurd (true≢false (ap refuses (rw e at a)))
  taken v a Rules.accepted (Rules.refused r) e f = absurd (true≢false (ap refuses (rw (e, f) at a)))
  taken v a Rules.accepted Rules.accepted e f = record { one = e; two = f }

  meant : Alike.Taken us vs w → (v : Verdict) → compared us vs w ≡ Alike.says v → (verdict_text v ≡ bytes "same\n") ↔ AlikeGates (gates_of us) (gates_of vs)
  unfolding size
  meant t alike e = let a = (answers us vs w (Ok Same) (sym e)).same t in (λ x. a.0 refl, λ g. refl)
  meant t map_differs e = let a = (answers us vs w (Ok Map) (sym e)).same t in (λ x. absurd (omega (arith, ap length x)), λ g. absurd (omega (arith, ap size (a.1 g))))
  meant t flips_differ e = let a = (answers us vs w (Ok Flips) (sym e)).same t in (λ x. absurd (omega (arith, ap length x)), λ g. absurd (omega (arith, ap size (a.1 g))))
  meant t phase_differs e = let a = (answers us vs w (Ok Phase) (sym e)).same t in (λ x. absurd (omega (arith, ap length x)), λ g. absurd (omega (arith, ap size (a.1 g))))

  told-means : (a : Alike.Answer) → compared us vs w ≡ a → (told a).refused ≡ false → ((told a).text ≡ bytes "same\n") ↔ AlikeGates (gates_of us) (gates_of vs)
  told-means (Alike.refusal k r) e f = absurd (true≢false f)
  told-means (Alike.says v) e f = meant (taken v e (asked us w) (asked vs w) refl refl) v e

-- ---- the text

second-means : (text : List ℕ) (one : Head) (us : List ℤ) (k : ℕ) (rest : List ℕ) → text ≡ list_text one us ++ rest → (o : Front) → list_at list_gates k rest ≡ o
    → (second_as one.wires us k o).refused ≡ false → Compared text (second_as one.wires us k o).text
second-means text one us k rest p (wrong n) e f = absurd (true≢false f)
second-means text one us k rest p (large n) e f = absurd (true≢false f)
second-means text one us k rest p (list two vs n (b ∷ bs)) e f = split (eqb two.wires one.wires) (λ t. absurd (true≢false (rw t at f))) (λ t. absurd (true≢false (rw t at f)))
second-means text one us k rest p (list two vs n []) e f =
    split (eqb two.wires one.wires)
    (λ t. rw t (record {
      one = one;
      two = two;
      first = us;
      second = vs;
      parts = p ∙ ap (λ (r : List ℕ). list_text one us ++ r) ((list_read list_gates k two vs rest n [] e).0 ∙ append-nil (list_text two vs));
      wires = eqb-true two.wires one.wires t;
      same = told-means us vs one.wires (compared us vs one.wires) refl (rw t at f);
    }))
    (λ t. absurd (true≢false (rw t at f)))

first-means : (text : List ℕ) (o : Front) → list_at list_gates 1 text ≡ o → (first_as o).refused ≡ false → Compared text (first_as o).text
first-means text (wrong n) e f = absurd (true≢false f)
first-means text (large n) e f = absurd (true≢false f)
first-means text (list one us n left) e f = second-means text one us n left (list_read list_gates 1 one us text n left e).0 (list_at list_gates n left) refl f

answer-means : (text : List ℕ) → (answer text).refused ≡ false → Compared text (answer text).text
unfolding answer
answer-means text f = split (ltb list_bytes (length text)) (λ e. absurd (true≢false (rw e at f))) (λ e. rw e (first-means text (list_at list_gates 1 text) refl (rw e at f)))

pub pairs : (text room : List ℕ) (r : Said) (room' : List ℕ) → Says (answer text) room r room' → Pairs text room r room'
pairs text room r room' s = record { says = s; compared = λ e. rw (says-shown _ room r room' s) (answer-means text (sym s.refused ∙ e)) }
