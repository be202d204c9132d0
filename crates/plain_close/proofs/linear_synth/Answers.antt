-- `plain_close::linear_synth` meets its contract: nothing is needed, no map can be had, or the map that is needed is reduced.
use Rattle.std.proofs.Common.{◌≡◌, false, true, List, sym, ◌∙◌, subst}
use Rattle.std.proofs.Math.Option.{Option}
use Rattle.rules.specs.Walk.{Step}
use Rattle.rules.specs.Close.{eq_rows, inverse}
use Rattle.rows.specs.Rows.{rows_of, given}
use Rattle.closing.specs.Emission.{needed_rows}
use Rattle.closing.proofs.Sending.{given-as, stuck-none, closes-needed, needed-sendable}
use Rattle.plain_close.specs.Map.{Closes}
use Rattle.plain_close.proofs.Noting.{follows_same}
use Rattle.plain_close.proofs.linear_synth.Goals as goal
use Rattle.plain_close.proofs.linear_synth.Goals.{Else-equal, Else-not-needed}

-- the rows are not as wanted
differ : (c : Else-equal) → let s = c.args in eq_rows (rows_of s.held.now) (rows_of s.wanted.now) ≡ false
differ c = sym c.equal.ensures ∙ c.if-equal.false

-- and the map that is needed stands in their place
reduced : (c : Else-not-needed) → let s = c.args in given true (rows_of c.needed.new.held) ≡ needed_rows (inverse (rows_of s.held.now)) (rows_of s.wanted.now)
reduced c = given-as _ _ _ _ c.needed.ensures (c.if-not-needed.false)

pub returns-then-equal : goal.returns-then-equal
returns-then-equal c = follows_same _ _ _ _ _ (sym c.equal.ensures ∙ c.if-equal.true)

pub returns-then-not-needed : goal.returns-then-not-needed
returns-then-not-needed c = stuck-none _ _ _ (differ (goal.at.returns-then-not-needed c).Else-equal) (given-as _ _ _ _ c.needed.ensures (c.if-not-needed.true))

pub send-requires : goal.send-requires
send-requires c =
    let s = c.args in
    let d = differ (goal.at.send-requires c).Else-equal in
    let r = reduced (goal.at.send-requires c).Else-not-needed in
    let n = closes-needed _ _ _ d r in
    record { sendable = rw n.1 (needed-sendable s.held.now s.wanted.now s.right.now _ _ _ _ c.requires.rooms d r); fits = rw n.1 c.requires.fits }

pub returns : goal.returns
returns c =
    let s = c.args in
    let r = c.send in
    let n = closes-needed _ _ _ (differ (goal.at.returns c).Else-equal) (reduced (goal.at.returns c).Else-not-needed) in
    subst (λ (o : Option (List Step)). Closes o s.names.now s.whole.now s.k r.new.whole r.result) (sym n.0) r.ensures
