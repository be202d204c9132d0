-- The keep test decides as document 01's rule does, and the place then begins with the choice.
use mathlib.Core.Path.{◌≡◌, refl, sym, ap, ◌∙◌}
use mathlib.Core.Logic.{◌⊎◌, inl, inr}
use mathlib.Core.Bool.{true, false, ◌&&◌, false≢true}
use mathlib.Core.List.{List, [], ◌∷◌, ◌++◌}
use mathlib.Core.Option.{Option, none, some}
use Prim.Native.Nat.{ℕ, ◌+◌, ◌*◌, ◌≤◌, ◌<◌}
use native.Mathlib.Omega.{arith}
use native.Mathlib.Numerals.{add-one}
use lib.IntN.{ℤ}
use lib.ListN.{length, get_or, set, take}
use lib.Seq.{take_all, take-suc, take-suc-set}
use Rattle.rules.specs.Limits.{width}
use Rattle.rules.specs.Gate.{Gate}
use Rattle.rules.specs.Numbers.{gates_of, numbers_of}
use Rattle.rules.specs.Counts.{twos, cheaper}
use Rattle.rules.specs.Budget.{Budget, budget_of}
use Rattle.rules.specs.Synth.{synth, block_of, or_else, resynthesis}
use Rattle.rules.specs.Scan.{Writer, chosen, replaces}
use Rattle.rules.specs.Lines.{stamp, line_of, lined}
use Rattle.rules.proofs.Bits.{split, and_left, and_right}
use Rattle.rules.proofs.Passing.{cheaper-is}
use Rattle.rules.proofs.Reading.{length-numbers}
use Rattle.rules.proofs.Stamping.{stamp-length, stamp-twos, stamp-cheaper}
use Rattle.gate.specs.Writing.{stamped}
use Rattle.gate.proofs.Lines.{stamped-gates}
use Rattle.emit.specs.Emitted.{Holds, Passes, dear, long, Emits}
use Rattle.std.specs.Prelude.{Result}
use Rattle.budget.specs.declared.Budget as Code
use Rattle.budget.specs.declared.Spent.{Spent}
use Rattle.budget.specs.View.{counts_after, made}
use Rattle.synth.specs.Resynthesis.{Synthesizes}
use Rattle.flush.specs.Choice.{keeps, Made, Writes, Exact, Settles}

-- what passes a ceiling of the old gates is not cheaper than they
pub passes-not-cheaper : (new old : List Gate) → Passes (budget_of old) new → cheaper new old ≡ false
passes-not-cheaper new old p = split (cheaper new old) (λ e. absurd (no p (cheaper-is new old e))) (λ e. e)
  where
    no : Passes (budget_of old) new → (length new ≤ length old) × (twos new ≤ twos old) × ((length new < length old) ⊎ (twos new < twos old)) → ⊥
    no (dear h) c = omega (arith, c.1)
    no (long h) c = omega (arith, c.0)

pub self-not-cheaper : (gs : List Gate) → cheaper gs gs ≡ false
self-not-cheaper gs = split (cheaper gs gs) (λ e. absurd (no (cheaper-is gs gs e).2)) (λ e. e)
  where
    no : (length gs < length gs) ⊎ (twos gs < twos gs) → ⊥
    no (inl h) = omega arith
    no (inr h) = omega arith

pub keeps-cheaper : (out : List ℤ) (b : Budget) (new old : List Gate) → Holds out b new → b.max_two ≡ twos old → b.max_all ≡ length old → keeps b ≡ cheaper new old
unfolding cheaper
keeps-cheaper out b new old h e f = rw (h.two, h.all, e, f)

chosen-new : (write : Writer) (gs : List Gate) → replaces write gs ≡ true → chosen write gs ≡ write gs
unfolding chosen
chosen-new write gs e = rw e

chosen-old : (write : Writer) (gs : List Gate) → replaces write gs ≡ false → chosen write gs ≡ gs
unfolding chosen
chosen-old write gs e = rw e

-- ---- what is settled, whatever the writer is

module _ (write : Writer) (run place : List ℤ) (p : Result Code.Budget Spent) (t : Writes write (gates_of run) place p) (x : Exact run) where
  abbrev old : List Gate
  old = gates_of run

  -- kept: the new writing is there, and is cheaper
  pub kept : (made p && keeps (counts_after p)) ≡ true → Settles write run place (record { gates = (counts_after p).all; replaced = true })
  unfolding replaces
  kept w =
      let b : Budget = counts_after p in
      let m : Made (write old) old place b = t.made (and_left (made p) (keeps b) w) in
      let cheap : cheaper (write old) old ≡ true = sym (keeps-cheaper place b (write old) old m.holds m.max_two m.max_all) ∙ and_right (made p) (keeps b) w in
      let new : chosen write old ≡ write old = chosen-new write old cheap in
      record {
        text = ap (λ (n : ℕ). take (width * n) place) m.holds.all ∙ m.holds.text ∙ ap numbers_of (sym new);
        gates = m.holds.all ∙ ap length (sym new);
        replaced = sym cheap;
      }

  -- not kept: the new writing is not cheaper, and the run is copied
  pub copied : (made p && keeps (counts_after p)) ≡ false → (place' : List ℤ) (n : ℕ) → place' ≡ run → n ≡ length old
      → Settles write run place' (record { gates = n; replaced = false })
  unfolding replaces
  copied w place' n e q =
      let b : Budget = counts_after p in
      let dear-is : cheaper (write old) old ≡ false =
      split (made p)
      (λ f. let m : Made (write old) old place b = t.made f in sym (keeps-cheaper place b (write old) old m.holds m.max_two m.max_all) ∙ (rw f at w))
      (λ f. t.stopped f) in
      let same : chosen write old ≡ old = chosen-old write old dear-is in
      let size : length run ≡ width * length old = ap length (sym x) ∙ length-numbers old in
      record {
        text = ap (take (width * n)) e ∙ take_all (width * n) run (omega arith) ∙ sym x ∙ ap numbers_of (sym same);
        gates = q ∙ ap length (sym same);
        replaced = sym dear-is;
      }

-- ---- today's writer

-- nothing is written, nothing is counted
holds-none : (out : List ℤ) (gs : List Gate) → Holds out (budget_of gs) []
unfolding numbers_of twos
holds-none out gs = record { text = refl; two = refl; all = refl }

-- gates emitted within the run's own counts are what a writer says, if it says them
pub written : (write : Writer) (gs new : List Gate) (before after : List ℤ) (p : Result Code.Budget Spent) → write gs ≡ new
    → Emits new before (budget_of gs) after (counts_after p) (made p) → Writes write gs after p
written write gs new before after p e m = record {
  made = λ w. record { holds = rw e (m.made w [] (holds-none before gs)); max_two = m.max_two; max_all = m.max_all };
  stopped = λ w. rw e (passes-not-cheaper new gs (m.spent w [] (holds-none before gs)));
}

-- the resynthesis; where a block had none the run would stand for it
pub writes : (gs : List Gate) (before after : List ℤ) (p : Result Code.Budget Spent) → Synthesizes (block_of gs) before (budget_of gs) after (counts_after p) (made p) → Writes resynthesis gs after p
unfolding resynthesis
writes gs before after p t = go (synth (block_of gs)) refl
  where
    go : (o : Option (List Gate)) → synth (block_of gs) ≡ o → Writes resynthesis gs after p
    go none e = record { made = λ w. absurd (false≢true (sym (t.lost e) ∙ w)); stopped = λ _. rw e (self-not-cheaper gs) }
    go (some new) e = written resynthesis gs new before after p (ap (λ o. or_else o gs) e) (t.emits new e)

-- ---- lines around a writer

-- made: the gates get the line of the run's first, and nothing else of what is said of them changes
pub lined-made : (write : Writer) (gs : List Gate) (place : List ℤ) (p : Result Code.Budget Spent) → made p ≡ true → Writes write gs place p
    → Writes (lined write) gs (stamped (line_of gs) (counts_after p).all 0 place) p
unfolding lined
lined-made write gs place p w t =
    let m : Made (write gs) gs place (counts_after p) = t.made w in
    let n : ℕ = line_of gs in
    let e : length (stamp n (write gs)) ≡ length (write gs) = stamp-length n (write gs) in
    record {
      made = λ _. record {
        holds = record {
          text = rw (e, m.holds.all) (stamped-gates n (write gs) place m.holds.text);
          two = m.holds.two ∙ sym (stamp-twos n (write gs));
          all = m.holds.all ∙ sym e;
        };
        max_two = m.max_two;
        max_all = m.max_all;
      };
      stopped = λ s. absurd (false≢true (sym s ∙ w));
    }

-- stopped: no line makes it cheaper
pub lined-stopped : (write : Writer) (gs : List Gate) (place : List ℤ) (p : Result Code.Budget Spent) → made p ≡ false → Writes write gs place p → Writes (lined write) gs place p
unfolding lined
lined-stopped write gs place p s t =
    record { made = λ w. absurd (false≢true (sym s ∙ w)); stopped = λ _. stamp-cheaper (line_of gs) (write gs) gs ∙ t.stopped s }

-- ---- a copy, number by number

pub copy-next : (run place : List ℤ) (i : ℕ) (d : ℤ) → i < length run → length place ≡ length run → take i place ≡ take i run → take (i + 1) (set place i (get_or run i d)) ≡ take (i + 1) run
copy-next run place i d l n e =
    ap (λ (k : ℕ). take k (set place i (get_or run i d))) (add-one i) ∙ take-suc-set place i (get_or run i d) (omega arith)
    ∙ ap (λ (t : List ℤ). t ++ (get_or run i d ∷ [])) e ∙ sym (take-suc run i d l) ∙ ap (λ (k : ℕ). take k run) (sym (add-one i))

pub copy-end : (run place : List ℤ) (i : ℕ) → length run ≤ i → length place ≡ length run → take i place ≡ take i run → place ≡ run
copy-end run place i l n e = sym (take_all i place (omega arith)) ∙ e ∙ take_all i run l
