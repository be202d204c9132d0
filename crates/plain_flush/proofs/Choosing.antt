-- The choice between two whole writings is the first engine's.
--     fits_whole               gates that stand in a room lie in it
--     stands-lined             a new writing with the line of the run's first gate
--     keeps-new, keeps-run     the new writing is copied, or the run, which is no dearer
--     lined-none               there is no new writing
use mathlib.Core.Path.{◌≡◌, refl, sym, ap, ◌∙◌}
use mathlib.Core.Bool.{true, false, true≢false}
use mathlib.Core.List.{List}
use mathlib.Core.Option.{Option, none, some}
use Prim.Native.Nat.{ℕ, ◌*◌, ◌≤◌}
use native.Mathlib.Omega.{arith}
use lib.IntN.{ℤ}
use lib.ListN.{length, take, length-take}
use Rattle.rules.specs.Limits.{width}
use Rattle.rules.specs.Gate.{Gate}
use Rattle.rules.specs.Numbers.{gates_of, numbers_of}
use Rattle.rules.specs.Counts.{twos, cheaper}
use Rattle.rules.specs.Synth.{synth, block_of, or_else, resynthesis}
use Rattle.rules.specs.Scan.{Writer}
use Rattle.rules.specs.Lines.{stamp, line_of, lined}
use Rattle.rules.proofs.Reading.{length-numbers, read-written}
use Rattle.rules.proofs.Stamping.{stamp-length, stamp-twos, stamp-cheaper}
use Rattle.gate.specs.Writing.{stamped}
use Rattle.gate.proofs.Lines.{stamped-gates}
use Rattle.std.specs.Prelude.{Result, Ok, Err}
use Rattle.budget.specs.declared.Budget as Code
use Rattle.budget.specs.declared.Spent.{Spent}
use Rattle.budget.specs.View.{view}
use Rattle.writing.specs.Written.{Stands}
use Rattle.flush.specs.Choice.{keeps, Writes, Exact, Settles}
use Rattle.flush.proofs.Keeping.{keeps-cheaper, self-not-cheaper, kept, copied}
use Rattle.plain_flush.specs.Keeping.{Keeps}

-- ---- a whole writing

pub fits_whole : (whole : List ℤ) (k : ℕ) (gs : List Gate) → Stands whole k gs → width * k ≤ length whole
fits_whole whole k gs s = omega (arith, s.count, length-take (width * length gs) whole, ap length s.text ∙ length-numbers gs)

pub stands-lined : (write : Writer) (gs : List Gate) (whole : List ℤ) (k : ℕ) → Stands whole k (write gs) → Stands (stamped (line_of gs) k 0 whole) k (lined write gs)
unfolding lined
stands-lined write gs whole k s =
    let n : ℕ = line_of gs in
    let e : length (stamp n (write gs)) ≡ length (write gs) = stamp-length n (write gs) in
    record { text = rw (e, s.count) (stamped-gates n (write gs) whole s.text); count = s.count ∙ sym e }

-- ---- the choice

-- the counts of the new writing under those of the run
abbrev pub counted : ℕ → ℕ → ℕ → ℕ → Result Code.Budget Spent
counted two all maxtwo maxall = Ok (record { two = two; all = all; maxtwo = maxtwo; maxall = maxall })

module _ (write : Writer) (run whole : List ℤ) (k : ℕ) (x : Exact run) (s : Stands whole k (write (gates_of run)))
    (a b c : ℕ) (ea : a ≡ twos (gates_of (take (width * k) whole))) (eb : b ≡ twos (gates_of run)) (ec : c ≡ length (gates_of run)) where
  pub new_is : a ≡ twos (write (gates_of run))
  new_is =
      let e : take (width * k) whole ≡ numbers_of (write (gates_of run)) = ap (λ (n : ℕ). take (width * n) whole) s.count ∙ s.text in
      ea ∙ ap (λ (l : List ℤ). twos (gates_of l)) e ∙ ap twos (read-written (write (gates_of run)))

  made : Writes write (gates_of run) whole (counted a k b c)
  made = record {
    made = λ _. record { holds = record { text = s.text; two = new_is; all = s.count }; max_two = eb; max_all = ec };
    stopped = λ w. absurd (true≢false w);
  }

  pub keeps-new : keeps (view (record { two = a; all = k; maxtwo = b; maxall = c })) ≡ true → (place : List ℤ) → take (width * k) place ≡ take (width * k) whole
      → Keeps write run place (record { flushed = record { gates = k; replaced = true }; twos = a })
  keeps-new t place e =
      let h : Settles write run whole (record { gates = k; replaced = true }) = kept write run whole (counted a k b c) made x t in
      record { settles = record { text = e ∙ h.text; gates = h.gates; replaced = h.replaced }; twos = new_is }

  -- it is not cheaper than the run
  pub dearer : keeps (view (record { two = a; all = k; maxtwo = b; maxall = c })) ≡ false → cheaper (write (gates_of run)) (gates_of run) ≡ false
  dearer t = sym (keeps-cheaper whole _ (write (gates_of run)) (gates_of run) (record { text = s.text; two = new_is; all = s.count }) eb ec) ∙ t

-- ---- the run stays

-- stopped before it began
abbrev pub stopped : Result Code.Budget Spent
stopped = Err (record { 0 = record { two = 0; all = 0; maxtwo = 0; maxall = 0 } })

pub keeps-run : (write : Writer) (run place : List ℤ) (n a : ℕ) → Exact run → cheaper (write (gates_of run)) (gates_of run) ≡ false → a ≡ twos (write (gates_of run))
    → place ≡ run → n ≡ length (gates_of run) → Keeps write run place (record { flushed = record { gates = n; replaced = false }; twos = a })
keeps-run write run place n a x e f g h =
    let t : Writes write (gates_of run) run stopped = record { made = λ w. absurd (true≢false (sym w)); stopped = λ _. e } in
    record { settles = copied write run run stopped t x refl place n g h; twos = f }

module _ (gs : List Gate) where
  pub lined-some : (new : List Gate) → synth (block_of gs) ≡ some new → resynthesis gs ≡ new
  unfolding resynthesis
  lined-some new e = ap (λ (o : Option (List Gate)). or_else o gs) e

  pub lined-none : synth (block_of gs) ≡ none → (cheaper (lined resynthesis gs) gs ≡ false) × (twos (lined resynthesis gs) ≡ twos gs)
  unfolding lined resynthesis
  lined-none e =
      let f : resynthesis gs ≡ gs = ap (λ (o : Option (List Gate)). or_else o gs) e in
      (stamp-cheaper (line_of gs) (resynthesis gs) gs ∙ ap (λ (l : List Gate). cheaper l gs) f ∙ self-not-cheaper gs, stamp-twos (line_of gs) (resynthesis gs) ∙ ap twos f)
