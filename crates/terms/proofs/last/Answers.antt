-- `terms::last` meets its contract: a head that is past the count, one of another hash, one that is trusted.
use Rattle.std.proofs.Common.{◌≡◌, ◌∙◌, length, get_or, ap, arith}
use Rattle.rules.specs.Fold.{Term}
use Rattle.terms.specs.Terms.{slot_of, parity_at}
use Rattle.terms.proofs.Chains.{head-past, head-other}
use Rattle.terms.proofs.last.Goals as goal

pub returns-then-count-at : goal.returns-then-count-at
returns-then-count-at c = head-past _ (λ h. get_or c.args.heads.now h 0) c.args.count c.args.h c.requires.1.1.linked.heads (omega arith)

pub returns-else-slot-h : goal.returns-else-slot-h
returns-else-slot-h c =
    let hash : c.slot.result ≡ slot_of (length c.args.heads.now) (parity_at c.args.room.now (get_or c.args.heads.now c.args.h 0)) = c.slot.ensures ∙ ap (λ (t : Term). slot_of (length c.args.heads.now) t.parity) c.get-e.ensures in
    head-other _ (λ h. get_or c.args.heads.now h 0) _ _ c.requires.1.1.linked.heads (λ q. c.if-slot-h.false (hash ∙ q))
