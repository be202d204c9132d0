-- The stack in its rooms: its newest node, what a store or a CNOT does to it, and what a split makes of it.
use mathlib.Core.Path.{◌≡◌, refl, sym, ap, ap₂, ◌∙◌}
use mathlib.Core.List.{List, [], ◌∷◌, ◌++◌}
use Prim.Native.Nat.{ℕ, zero, suc, ◌+◌, ◌-◌, ◌≤◌, ◌<◌}
use native.Mathlib.Nat.{not-suc-le-zero}
use native.Mathlib.Numerals.{add-one}
use native.Mathlib.Omega.{arith}
use lib.ListN.{length, get_or, set, take, drop}
use lib.Seq.{slice, take-take, get_or-set_other}
use Rattle.rules.specs.Fold.{Term}
use Rattle.rules.specs.Walk.{Step, cn, rot, Node, cross_terms, node}
use Rattle.rules.proofs.Walking.{cross_all}
use Rattle.rules.proofs.Machine.{cross_stack, cross-cons, cross-empty}
use Rattle.parity.specs.View.{val}
use Rattle.walk.specs.declared.Slot.{Slot}
use Rattle.walk.specs.Stack.{no_slot, aim_of, node_of, stack_of, Aimed, Laid}

-- a part by its length is the part by its end
pub slice-part : (a e : ℕ) (ts : List Term) → take (e - a) (drop a ts) ≡ slice a e ts
slice-part zero e ts = ap (λ (k : ℕ). take k ts) (all e)
  where
    all : (e : ℕ) → e - 0 ≡ e
    all e = omega arith
slice-part (suc a) zero ts = ap (λ (k : ℕ). take k (drop (suc a) ts)) (none a)
  where
    none : (a : ℕ) → 0 - suc a ≡ 0
    none a = omega arith
slice-part (suc a) (suc e) [] = go (suc e - suc a)
  where
    go : (k : ℕ) → ◌≡◌ {A = List Term} (take k []) []
    go zero = refl
    go (suc k) = refl
slice-part (suc a) (suc e) (t ∷ ts) = ap (λ (k : ℕ). take k (drop a ts)) (less a e) ∙ slice-part a e ts
  where
    less : (a e : ℕ) → suc e - suc a ≡ e - a
    less a e = omega arith

-- of two lists that are the same from a on
pub slice-rest : (a e : ℕ) (ts us : List Term) → drop a us ≡ drop a ts → slice a e us ≡ slice a e ts
slice-rest a e ts us h = sym (slice-part a e us) ∙ ap (take (e - a)) h ∙ slice-part a e ts

pub stack-length : (ss : List Slot) (d : ℕ) (ts : List Term) (end : ℕ) → length (stack_of ss d ts end) ≡ d
unfolding stack_of
stack-length ss zero ts end = refl
stack-length ss (suc d) ts end = ap suc (stack-length ss d ts (get_or ss d no_slot).start)

-- ---- the newest node

pub stack_top : (ss : List Slot) (depth : ℕ) (ts : List Term) (end : ℕ) (s : Slot) → 0 < depth → s ≡ get_or ss (depth - 1) no_slot
    → stack_of ss depth ts end ≡ node_of s ts end ∷ stack_of ss (depth - 1) ts s.start
unfolding stack_of
stack_top ss zero ts end s h e = absurd (not-suc-le-zero h)
stack_top ss (suc d) ts end s h e =
    let f : s ≡ get_or ss d no_slot = e ∙ ap (λ (k : ℕ). get_or ss k no_slot) (one d) in
    rw (f, one d)
  where
    one : (d : ℕ) → suc d - 1 ≡ d
    one d = omega arith

pub record Top (n : ℕ) (ss : List Slot) (depth end : ℕ) (s : Slot) : Type 0 where
  pub start : s.start ≤ end
  pub aimed : Aimed n s
  pub rest : Laid n ss (depth - 1) s.start

pub sound-top : (n : ℕ) (ss : List Slot) (depth end : ℕ) (s : Slot) → 0 < depth → s ≡ get_or ss (depth - 1) no_slot → Laid n ss depth end → Top n ss depth end s
unfolding Laid
sound-top n ss zero end s h e k = absurd (not-suc-le-zero h)
sound-top n ss (suc d) end s h e k =
    let f : s ≡ get_or ss d no_slot = e ∙ ap (λ (k : ℕ). get_or ss k no_slot) (one d) in
    rw f (record { start = k.0; aimed = k.1.0; rest = rw (one d) k.1.1 })
  where
    one : (d : ℕ) → suc d - 1 ≡ d
    one d = omega arith

-- the same where the slot's place is given
pub stack_at : (ss : List Slot) (depth : ℕ) (ts : List Term) (end at : ℕ) → depth ≡ at + 1 → (s : Slot) → s ≡ get_or ss at no_slot
    → stack_of ss depth ts end ≡ node_of s ts end ∷ stack_of ss at ts s.start
unfolding stack_of
stack_at ss depth ts end at k s e = rw (k, add-one at, e)

pub sound-at : (n : ℕ) (ss : List Slot) (depth end at : ℕ) → depth ≡ at + 1 → (s : Slot) → s ≡ get_or ss at no_slot → s.start ≤ end → Aimed n s → Laid n ss at s.start
    → Laid n ss depth end
unfolding Laid
sound-at n ss depth end at k s e a b c = rw (k, add-one at, ← e) (a, (b, c))

-- ---- a store at or above the stack's height

pub stack-slots : (ss : List Slot) (i : ℕ) (x : Slot) (d : ℕ) (ts : List Term) (end : ℕ) → d ≤ i → stack_of (set ss i x) d ts end ≡ stack_of ss d ts end
unfolding stack_of
stack-slots ss i x zero ts end h = refl
stack-slots ss i x (suc d) ts end h =
    rw (get_or-set_other ss i d x no_slot (λ q. omega arith)) (ap (λ (st : List Node). node_of (get_or ss d no_slot) ts end ∷ st) (stack-slots ss i x d ts (get_or ss d no_slot).start (omega arith)))

pub sound-slots : (n : ℕ) (ss : List Slot) (i : ℕ) (x : Slot) (d end : ℕ) → d ≤ i → Laid n ss d end → Laid n (set ss i x) d end
unfolding Laid
sound-slots n ss i x zero end h k = tt
sound-slots n ss i x (suc d) end h k =
    rw (get_or-set_other ss i d x no_slot (λ q. omega arith)) (k.0, (k.1.0, sound-slots n ss i x d (get_or ss d no_slot).start (omega arith) k.1.1))

-- ---- only the terms below `end` are in the sets

take-down : (a e : ℕ) (ts us : List Term) → a ≤ e → take e ts ≡ take e us → take a ts ≡ take a us
take-down a e ts us l h = sym (take-take a e ts l) ∙ ap (take a) h ∙ take-take a e us l

pub stack-terms : (n : ℕ) (ss : List Slot) (d : ℕ) (ts us : List Term) (end : ℕ) → Laid n ss d end → take end ts ≡ take end us → stack_of ss d ts end ≡ stack_of ss d us end
unfolding stack_of Laid
stack-terms n ss zero ts us end k h = refl
stack-terms n ss (suc d) ts us end k h =
    let s = get_or ss d no_slot in
    ap₂ (λ (set : List Term) (st : List Node). node (val s.cands) (aim_of s) set ∷ st) (ap (drop s.start) h)
    (stack-terms n ss d ts us s.start k.1.1 (take-down s.start end ts us k.0 h))

-- ---- a CNOT passes the terms below `end`

cross-take : (p t k : ℕ) (ts : List Term) → take k (cross_terms p t ts) ≡ cross_terms p t (take k ts)
unfolding cross_terms
cross-take p t zero ts = refl
cross-take p t (suc k) [] = refl
cross-take p t (suc k) (x ∷ ts) = ap (λ (us : List Term). cross_terms p t (x ∷ []) ++ us) (cross-take p t k ts)

cross-drop : (p t k : ℕ) (ts : List Term) → drop k (cross_terms p t ts) ≡ cross_terms p t (drop k ts)
unfolding cross_terms
cross-drop p t zero ts = refl
cross-drop p t (suc k) [] = refl
cross-drop p t (suc k) (x ∷ ts) = cross-drop p t k ts

-- and so do several steps

all_take : (ss : List Step) (k : ℕ) (ts : List Term) → take k (cross_all ss ts) ≡ cross_all ss (take k ts)
unfolding cross_all
all_take [] k ts = refl
all_take (cn p t ∷ ss) k ts = all_take ss k (cross_terms p t ts) ∙ ap (cross_all ss) (cross-take p t k ts)
all_take (rot q j ∷ ss) k ts = all_take ss k ts

all_drop : (ss : List Step) (k : ℕ) (ts : List Term) → drop k (cross_all ss ts) ≡ cross_all ss (drop k ts)
unfolding cross_all
all_drop [] k ts = refl
all_drop (cn p t ∷ ss) k ts = all_drop ss k (cross_terms p t ts) ∙ ap (cross_all ss) (cross-drop p t k ts)
all_drop (rot q j ∷ ss) k ts = all_drop ss k ts

pub stack-cross : (n : ℕ) (ss : List Step) (sl : List Slot) (d : ℕ) (ts us : List Term) (end : ℕ) → Laid n sl d end → take end us ≡ cross_all ss (take end ts)
    → stack_of sl d us end ≡ cross_stack ss (stack_of sl d ts end)
unfolding stack_of Laid
stack-cross n ss sl zero ts us end k h = sym (cross-empty ss)
stack-cross n ss sl (suc d) ts us end k h =
    let s = get_or sl d no_slot in
    let down : take s.start us ≡ cross_all ss (take s.start ts) =
    sym (take-take s.start end us k.0) ∙ ap (take s.start) h ∙ all_take ss s.start (take end ts) ∙ ap (cross_all ss) (take-take s.start end ts k.0) in
    ap₂ (λ (set : List Term) (st : List Node). node (val s.cands) (aim_of s) set ∷ st) (ap (drop s.start) h ∙ all_drop ss s.start (take end ts))
    (stack-cross n ss sl d ts us s.start k.1.1 down)
    ∙ sym (cross-cons ss (val s.cands) (aim_of s) (slice s.start end ts) (stack_of sl d ts s.start))
