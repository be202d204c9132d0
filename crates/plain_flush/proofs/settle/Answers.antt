-- `plain_flush::settle` meets its contract: the resynthesis stands whole in its room and gets its line before it is compared; without one the run stays.
use Rattle.std.proofs.Common.{sym, ap, ◌∙◌, arith, subst}
use Rattle.rules.specs.Numbers.{gates_of}
use Rattle.rules.specs.Synth.{synth, resynthesis}
use Rattle.rules.specs.Pass.{writer_of}
use Rattle.writing.specs.Written.{Stands}
use Rattle.plain_flush.proofs.Choosing.{fits_whole, stands-lined, lined-some, lined-none}
use Rattle.plain_flush.proofs.settle.Goals as goal
use Rattle.plain_flush.proofs.settle.Goals.{In-Some}

-- the new writing stands in the room
stands : (c : In-Some) → Stands c.resynthesize.new.whole c.in-Some.k (resynthesis (gates_of c.args.run.now))
stands c =
    let m = c.in-Some.ensures in
    subst (Stands c.resynthesize.new.whole c.in-Some.k) (sym (lined-some (gates_of c.args.run.now) m.gates (ap synth (sym c.requires.fitted.same) ∙ m.is))) m.stands

pub returns-in_default : goal.returns-in_default
unfolding writer_of
returns-in_default c =
    let n = lined-none (gates_of c.args.run.now) (ap synth (sym c.requires.fitted.same) ∙ c.in_default.ensures) in
    c.stay.ensures _ c.requires.exact n.0 (c.count_two.ensures ∙ sym n.1)

pub stamp-requires : goal.stamp-requires
stamp-requires c = record { n_in_bounds = fits_whole _ _ _ (stands (goal.at.stamp-requires c).In-Some); line_bound = c.line.ensures.1 }

pub keep-requires : goal.keep-requires
keep-requires c = (c.requires.fitted.fits, omega (arith, fits_whole _ _ _ (stands (goal.at.keep-requires c).In-Some)))

pub returns : goal.returns
unfolding writer_of
returns c =
    let l = stands-lined resynthesis (gates_of c.args.run.now) _ _ (stands (goal.at.returns c).In-Some) in
    c.keep.ensures _ c.requires.exact (rw (c.stamp.ensures, c.line.ensures.0) l)
