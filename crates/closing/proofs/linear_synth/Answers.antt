-- `closing::linear_synth` meets its contract: nothing is needed, no map can be had, or the map that is needed is reduced.
use Rattle.std.proofs.Common.{◌≡◌, false, length, sym, ◌∙◌}
use Rattle.rules.specs.Close.{eq_rows, closing}
use Rattle.rows.specs.Rows.{rows_of}
use Rattle.closing.specs.Emission.{reversed}
use Rattle.closing.proofs.Sending.{given-as, closes-same, closes-stuck, closes-needed, needed-sendable}
use Rattle.closing.proofs.linear_synth.Goals as goal
use Rattle.closing.proofs.linear_synth.Goals.{Else-equal, Else-not-needed}

-- the rows are not as wanted
differ : (c : Else-equal) → let s = c.args in eq_rows (rows_of s.held.now) (rows_of s.wanted.now) ≡ false
differ c = sym c.equal.ensures ∙ c.if-equal.false

-- and the map that is needed stands in their place
reduced : (c : Else-not-needed) → let s = c.args in let rows = rows_of c.needed.new.held in
    eq_rows (rows_of s.held.now) (rows_of s.wanted.now) ≡ false → (closing (rows_of s.held.now) (rows_of s.wanted.now) ≡ reversed rows) × (length rows ≡ length (rows_of s.wanted.now))
reduced c d = closes-needed _ _ _ d (given-as _ _ _ _ c.needed.ensures (c.if-not-needed.false))

pub returns-then-equal : goal.returns-then-equal
returns-then-equal c = closes-same _ _ _ _ _ (sym c.equal.ensures ∙ c.if-equal.true) c.requires.ready

pub returns-then-not-needed : goal.returns-then-not-needed
returns-then-not-needed c = closes-stuck _ _ _ _ _ _ (differ (goal.at.returns-then-not-needed c).Else-equal) (given-as _ _ _ _ c.needed.ensures (c.if-not-needed.true))

pub send-requires : goal.send-requires
send-requires c =
    record {
      ready = c.requires.ready;
      sendable = needed-sendable _ _ _ _ _ _ _ c.requires.rooms (differ (goal.at.send-requires c).Else-equal) (given-as _ _ _ _ c.needed.ensures (c.if-not-needed.false));
    }

pub returns : goal.returns
returns c = let n = reduced (goal.at.returns c).Else-not-needed (differ (goal.at.returns c).Else-equal) in record { emits = λ s q. c.send.ensures.emits s (sym n.0 ∙ q); lost = λ q. c.send.ensures.lost (sym n.0 ∙ q) }
