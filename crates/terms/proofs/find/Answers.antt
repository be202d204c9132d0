-- `terms::find` meets its contract.
use Rattle.std.proofs.Common.{◌<◌, suc, ◌∙◌, sym, arith, length, get_or}
use borrow.Author.Tests.{eqb-true, eqb-false}
use Rattle.parity.specs.View.{val}
use Rattle.terms.specs.Terms.{terms_of, slot_of, parity_at}
use Rattle.terms.proofs.Chains.{Down, chain_first, chain-less, chain_next, chain-met}
use Rattle.terms.proofs.Indexing.{slot_lt, found-met, found-end}
use Rattle.terms.proofs.find.Goals as goal
use Rattle.terms.proofs.find.Goals.{After-slot-h, In-Some}

inside : (c : After-slot-h) → c.slot-h.result < length c.args.heads.now
inside c = rw c.slot-h.ensures (slot_lt _ _ c.requires.1.some)

pub offset_bounds-heads-h : goal.offset_bounds-heads-h
offset_bounds-heads-h c = omega (arith, inside (goal.at.offset_bounds-heads-h c).After-slot-h)

pub bounds-heads-h : goal.bounds-heads-h
bounds-heads-h c = inside (goal.at.bounds-heads-h c).After-slot-h

-- a head with the parity is its place: the parities are apart
pub returns-then-meets : goal.returns-then-meets
returns-then-meets c =
    let e = eqb-true _ _ (sym c.meets.ensures ∙ c.if-meets.true) in
    let near : get_or c.args.heads.now c.slot-h.result 0 < c.args.count = omega arith in
    let f = found-met _ _ _ c.requires.0 _ near e (λ j b q. c.requires.1.linked.apart j _ b near (q ∙ sym e)) in
    (omega arith, f)

pub last-next-requires : goal.last-next-requires
last-next-requires c = (c.requires.0, (inside (goal.at.last-next-requires c).After-slot-h, c.requires.1))

pub loop-next-init : goal.loop-next-init
loop-next-init c = chain_first _ _ _ _ _ _ c.requires.1.linked _ (rw c.slot-h.ensures at c.last-next.ensures)

-- the chain from the place that the loop looks at
down : (c : In-Some) → Down (slot_of (length c.args.heads.now)) (parity_at c.args.room.now) c.args.count (val c.args.p) (suc c.in-Some.i)
down c = rw c.in-Some.is at c.loop-next.invariant

pub returns-then-meets-2 : goal.returns-then-meets-2
returns-then-meets-2 c =
    let d = down (goal.at.returns-then-meets-2 c).In-Some in
    let e = eqb-true _ _ (sym c.meets-in-Some.ensures ∙ c.if-meets-2.true) in
    let f = found-met _ _ _ c.requires.0 _ d.within e (chain-met _ _ _ _ _ _ c.requires.1.linked _ d e) in
    (omega (arith, d.within), f)

pub loop-next-smaller : goal.loop-next-smaller
loop-next-smaller c =
    let d = down (goal.at.loop-next-smaller c).In-Some in
    rw (c.link-next.ensures, c.in-Some.is) (chain-less _ _ _ _ _ _ c.requires.1.linked _ d)

pub loop-next-preserved : goal.loop-next-preserved
loop-next-preserved c =
    let d = down (goal.at.loop-next-preserved c).In-Some in
    rw c.link-next.ensures (chain_next _ _ _ _ _ _ c.requires.1.linked _ d (eqb-false _ _ (sym c.meets-in-Some.ensures ∙ c.if-meets-2.false)))

pub returns : goal.returns
returns c =
    let d = rw c.in_default.is at c.loop-next.invariant in
    let f = found-end (val c.args.p) c.args.count (terms_of c.args.room.now) c.requires.0 (λ j b. d.none j (omega arith) b) in
    λ b. omega arith
