-- `terms::add_term` meets its contract: by where the search ended, a term's turn is stored anew, or a term more; the index follows.
use Rattle.std.proofs.Common.{◌∙◌, ◌+◌, ◌≤◌, ◌<◌, ℕ, sym, refl, ap, length, take, arith}
use Rattle.parity.specs.View.{val}
use Rattle.terms.specs.Terms.{terms_of, slot_of, last_of, link_of, place, parity_at}
use Rattle.terms.proofs.Places.{not-lt, fold-met, fold-new}
use Rattle.terms.proofs.Chains.{last-le}
use Rattle.terms.proofs.Indexing.{slot_lt, signed_lt, found_at, found_none, word-met, word-new, indexed-met, indexed-new}
use Rattle.terms.proofs.add_term.Goals as goal
use Rattle.terms.proofs.add_term.Goals.{After-slot-h, After-last}

inside : (c : After-slot-h) → c.slot-h.result < length c.args.heads.now
inside c = rw c.slot-h.ensures (slot_lt _ _ c.requires.1.1.some)

low : (c : After-last) → link_of c.last.result ≤ c.args.count
low c = rw c.last.ensures (last-le _ _ _)

pub last-requires : goal.last-requires
last-requires c = (omega (arith, c.requires.0), (inside (goal.at.last-requires c).After-slot-h, c.requires.1.1))

pub linked-next-requires : goal.linked-next-requires
linked-next-requires c = omega (arith, c.requires.1.0, low (goal.at.linked-next-requires c).After-last)

pub offset_bounds-heads-h : goal.offset_bounds-heads-h
offset_bounds-heads-h c = omega (arith, inside (goal.at.offset_bounds-heads-h c).After-slot-h)

pub bounds-heads-h : goal.bounds-heads-h
bounds-heads-h c = inside (goal.at.bounds-heads-h c).After-slot-h

pub returns-in-Some : goal.returns-in-Some
returns-in-Some c =
    let w = word-met _ _ _ _ _ _ c.word-old.ensures c.fold-sum.ensures c.signed-added.ensures in
    let e = c.put.ensures in
    let l = c.requires.0 in
    let f = c.in-Some.ensures in
    let near : c.in-Some.at < c.args.count = omega (arith, f.0, f.1) in
    record {
      begins = rw e.terms (fold-met _ _ _ _ _ f.1 _ near (omega arith) w.0);
      rest = e.rest c.args.count (omega arith);
      indexed = indexed-met _ _ _ _ _ _ _ c.requires.1.1 e (omega arith) (sym (found_at _ _ _ (omega arith) _ f.1 near)) w.1;
    }

pub overflow_mul-turn-2 : goal.overflow_mul-turn-2
overflow_mul-turn-2 c = omega (arith, c.requires.1.0, low (goal.at.overflow_mul-turn-2 c).After-last)

pub overflow_add-turn-2 : goal.overflow_add-turn-2
overflow_add-turn-2 c = omega (arith, c.requires.1.0, low (goal.at.overflow_add-turn-2 c).After-last)

pub returns : goal.returns
returns c =
    let s = c.args in
    let w = word-new c.linked-next.result _ _ c.signed-added.ensures (signed_lt s.flips s.k) in
    let e = c.put-2.ensures in
    let l = c.requires.0 in
    let f : s.count ≤ place (val s.p) (take s.count (terms_of s.room.now)) = not-lt c.in_default.ensures in
    let none = found_none (val s.p) s.count (terms_of s.room.now) (omega arith) f in
    let h = ap (λ (h : ℕ). last_of (λ j. slot_of (length s.heads.now) (parity_at s.room.now j)) h s.count) c.slot-h.ensures in
    record {
      begins = rw e.terms (fold-new _ _ _ _ _ refl _ f l w.0);
      rest = e.rest (s.count + 1) (omega arith);
      indexed = rw c.slot-h.ensures (indexed-new _ _ _ _ _ _ _ c.requires.1.1 e l refl (w.1 ∙ c.linked-next.ensures ∙ c.last.ensures ∙ h) none);
    }
