-- `taking::takes` meets its contract: by the one test of a gate, `takes-is`.
use mathlib.Core.Path.{◌≡◌, refl, sym, ◌∙◌}
use mathlib.Core.Bool.{Bool, true, false, ◌||◌, cond, or-true, or-false, true≢false}
use mathlib.Core.List.{List}
use Prim.Native.Nat.{ℕ, ◌+◌, ◌≤◌, ◌<◌}
use native.Mathlib.Nat.{lt_of_lt_of_le}
use borrow.Author.Tests.{leb-true}
use lib.ListN.{length, get_or}
use lib.Dec.{eqb, leb, ltb}
use Rattle.rules.specs.Scan.{has_term}
use Rattle.rules.proofs.Bits.{split}
use Rattle.gate.specs.declared.Gate.{Gate}
use Rattle.plan.specs.View.{view}
use Rattle.rows.specs.Rows.{rows_of}
use Rattle.block.specs.View.{terms_at}
use Rattle.block.specs.Steps.{Wired}
use Rattle.taking.specs.Asking.{new, parity_at, last_wire}
use Rattle.block.proofs.Codes.{op-other, op-some, two-wires}
use Rattle.taking.proofs.Taking.{takes-is, takes-other, fits_fresh, searched}
use Rattle.taking.proofs.takes.Goals as goal
use Rattle.taking.proofs.takes.Goals.{After-fits}

-- the last wire is in the table
last-in : (g : Gate) (table : List ℕ) → Wired g table → g.code ≤ 9 → last_wire g < length table
last-in g table w h =
    split (leb 8 g.code)
    (λ e. rw e (w.second-in (two-wires g.code (leb-true 8 g.code e) h)))
    (λ e. rw e w.first-in)

-- a gate that isn't refused by the first three tests isn't by the four
spare : (a x m t : Bool) → (a || (x || t)) ≡ true → (a || (x || (m || t))) ≡ true
spare true x m t e = refl
spare false true m t e = refl
spare false false m t e = rw e (or-true m)

-- none of three tests
none : (a x t : Bool) → (a || (x || t)) ≡ false → (a ≡ false) × ((x ≡ false) × (t ≡ false))
none true x t e = absurd (true≢false e)
none false true t e = absurd (true≢false e)
none false false t e = (refl, (refl, e))

pub returns-then-code : goal.returns-then-code
returns-then-code c = λ h. rw (op-other c.args.g c.if-code.true) (takes-other h _ (view c.args.plan))

-- what the test of the qubit cap says, of the gate's last wire
told : (c : After-fits) → leb (c.args.b.now.wires + new (get_or c.args.table.now c.args.g.first 0) + cond (leb 8 c.args.g.code) (new (get_or c.args.table.now (last_wire c.args.g) 0)) 0) c.args.plan.qubits ≡ c.fits.result
told c = sym (rw (← c.last_wire.ensures) c.fits.ensures)

pub returns-then-not-fits : goal.returns-then-not-fits
returns-then-not-fits c =
    let k = op-some c.args.g.code c.if-code.false in
    let w = told (goal.at.returns-then-not-fits c).After-fits ∙ c.if-not-fits.true in
    λ h. sym (takes-is h _ (view c.args.plan) c.args.g k.0 k.1 c.requires.wired.apart (record { few = c.requires.terms; same = refl }) ∙ rw w)

pub returns-then-two-code : goal.returns-then-two-code
returns-then-two-code c =
    let k = op-some c.args.g.code c.if-code.false in
    let w = told (goal.at.returns-then-two-code c).After-fits ∙ c.if-not-fits.false in
    λ h. sym (takes-is h _ (view c.args.plan) c.args.g k.0 k.1 c.requires.wired.apart (record { few = c.requires.terms; same = refl })
    ∙ rw w (spare (leb 8 c.args.g.code) (eqb c.args.g.code 1) (has_term (parity_at c.args.b.now.wires (rows_of c.args.b.now.rows) (get_or c.args.table.now c.args.g.first 0)) (terms_at c.args.b.now c.args.room.now)) (ltb c.args.b.now.terms c.args.plan.terms) c.if-two-code.true))

pub parity_of-p-requires : goal.parity_of-p-requires
parity_of-p-requires c =
    record {
      inside = c.requires.wired.first-in;
      old = c.requires.held _;
      fresh = λ e. lt_of_lt_of_le (fits_fresh _ _ _ _ (told (goal.at.parity_of-p-requires c).After-fits ∙ c.if-not-fits.false) e) c.requires.low;
    }

pub returns : goal.returns
unfolding terms_at
returns c =
    let k = op-some c.args.g.code c.if-code.false in
    let w = told (goal.at.returns c).After-fits ∙ c.if-not-fits.false in
    let f = none (leb 8 c.args.g.code) (eqb c.args.g.code 1) (ltb c.args.b.now.terms c.args.plan.terms) c.if-two-code.false in
    let m : c.is_some.result ≡ has_term (parity_at c.args.b.now.wires (rows_of c.args.b.now.rows) (get_or c.args.table.now c.args.g.first 0)) (terms_at c.args.b.now c.args.room.now) =
    c.is_some.ensures ∙ searched c.args.b.now.terms _ _ _ _ c.requires.terms c.find.ensures c.parity_of-p.ensures in
    λ h. m ∙ sym (takes-is h _ (view c.args.plan) c.args.g k.0 k.1 c.requires.wired.apart (record { few = c.requires.terms; same = refl }) ∙ rw (w, f.0, f.1.0, f.1.1) (or-false _))
