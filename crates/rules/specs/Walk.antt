-- The phase walk: a stack of nodes, newest first; each visit takes the newest.
use Rattle.std.specs.Prelude.{◌≡◌, Bool, true, false, ◌&&◌, cond, List, [], ◌∷◌, ◌++◌, ℕ, zero, suc, ◌+◌, ◌-◌, ◌*◌, ◌%◌, ◌^◌, max, length, get_or, set, leb}
use Rattle.rules.specs.Bit.{◌⊕◌, bit, xor}
use Rattle.rules.specs.Fold.{Term}

-- what is emitted, on local indices: a CNOT from control to target, or a rotation of a wire
pub data Step : Type 0 where
  cn : ℕ → ℕ → Step
  rot : ℕ → ℕ → Step

-- no target yet; a target; a target and a control owed to it
pub data Aim : Type 0 where
  free : Aim
  on : ℕ → Aim
  owes : ℕ → ℕ → Aim

-- candidate columns, perhaps a target, perhaps an owed control, and a set of parities with their turns
pub record Node : Type 0 where
  pub cands : ℕ
  pub aim : Aim
  pub set : List Term

abbrev pub node : ℕ → Aim → List Term → Node
node cs a ts = record { cands = cs; aim = a; set = ts }

-- the terms with, and without, the bit c
unfoldable pub side : Bool → ℕ → List Term → List Term
unfolding bit
side b c [] = []
side b c (t ∷ ts) = let r = side b c ts in cond (b ⊕ bit t.parity c) r (t ∷ r)

-- the size of the larger side
unfoldable pub score : ℕ → List Term → ℕ
unfolding side
score c ts = max (length (side true c ts)) (length (side false c ts))

-- a column takes the place of the best so far, on a tie too
abbrev pub beats : ℕ → ℕ → Bool
beats old new = leb old new

-- among the columns below n: the candidate of largest score, on a tie the highest, with its score
unfoldable pub best : ℕ → ℕ → List Term → ℕ × ℕ
unfolding bit score
best zero cs ts = (zero, zero)
best (suc c) cs ts =
    let b = best c cs ts in
    let s = score c ts in
    cond (bit cs c && beats b.1 s) (c, s) b

-- a CNOT from p to t: each waiting parity with bit t has bit p flipped
unfoldable pub crossed : ℕ → ℕ → ℕ → ℕ
unfolding bit
crossed p t v = cond (bit v t) (xor v (2 ^ p)) v

unfoldable pub cross_terms : ℕ → ℕ → List Term → List Term
unfolding crossed
cross_terms p t [] = []
cross_terms p t (e ∷ es) = record { parity = crossed p t e.parity; turn = e.turn } ∷ cross_terms p t es

unfoldable pub cross_nodes : ℕ → ℕ → List Node → List Node
unfolding cross_terms
cross_nodes p t [] = []
cross_nodes p t (d ∷ ds) = record { cands = d.cands; aim = d.aim; set = cross_terms p t d.set } ∷ cross_nodes p t ds

-- the turn of a leaf's one term, written as the sum over its set; that the set holds exactly one is proved (`leaf-one`)
unfoldable pub turns : List Term → ℕ
turns [] = zero
turns (t ∷ ts) = t.turn + turns ts

-- no candidates left: the rotation on the target
abbrev pub leaf : Aim → List Term → List Step
leaf free ts = []
leaf (on t) ts = rot t (turns ts) ∷ []
leaf (owes p t) ts = []

-- the side with the bit c owes it to the target or, with no target yet, takes the column as target
abbrev pub aim_with : Aim → ℕ → Aim
aim_with free c = on c
aim_with (on t) c = owes c t
aim_with (owes p t) c = owes p t

-- the node owes nothing
abbrev pub Settled : Aim → Type 0
Settled free = Unit {0}
Settled (on t) = Unit {0}
Settled (owes p t) = ⊥

-- ---- the rules 1 to 4: what a visit of the newest node emits, and the nodes that then wait

pub record Visit : Type 0 where
  pub steps : List Step
  pub stack : List Node

abbrev pub visited : List Step → List Node → Visit
visited steps stack = record { steps = steps; stack = stack }

abbrev pub is_none : ℕ → Bool
is_none zero = true
is_none (suc m) = false

-- split by the best column: the side without runs first, target as before; the side with owes the column or takes it as target
unfoldable pub split_node : ℕ → ℕ → Aim → List Term → List Node → Visit
unfolding best side
split_node n cs a ts st =
    let c = (best n cs ts).0 in
    let rest = xor cs (2 ^ c) in
    visited [] (node rest a (side false c ts) ∷ node rest (aim_with a c) (side true c ts) ∷ st)

-- over n columns, at a node with some nodes waiting below
pub data Rule (n : ℕ) : Node → List Node → Visit → Type 0 where
  -- 1: an empty set is dropped, with any CNOT that it owes
  empty : {cs : ℕ} {a : Aim} {st : List Node} → Rule n (node cs a []) st (visited [] st)
  -- 2: an owed control is emitted, every waiting node takes note, and the node returns owing nothing
  owed : {cs p t : ℕ} {e : Term} {es : List Term} {st : List Node}
      → Rule n (node cs (owes p t) (e ∷ es)) st (visited (cn p t ∷ []) (node cs (on t) (e ∷ es) ∷ cross_nodes p t st))
  -- 3: no candidates left: the rotation on the target
  last : {cs : ℕ} {a : Aim} {e : Term} {es : List Term} {st : List Node} → Settled a → is_none cs ≡ true
      → Rule n (node cs a (e ∷ es)) st (visited (leaf a (e ∷ es)) st)
  -- 4: else split by the best column
  halves : {cs : ℕ} {a : Aim} {e : Term} {es : List Term} {st : List Node} → Settled a → is_none cs ≡ false
      → Rule n (node cs a (e ∷ es)) st (split_node n cs a (e ∷ es) st)

-- visit by visit until no node waits: the steps that a stack makes
pub data Walks (n : ℕ) : List Node → List Step → Type 0 where
  done : Walks n [] []
  next : {d : Node} {st : List Node} {v : Visit} {ss : List Step} → Rule n d st v → Walks n v.stack ss → Walks n (d ∷ st) (v.steps ++ ss)

-- ---- the same as functions, which compute: there is one visit and one walk by the rules (`ruled`, `ruled-only`, `walked`, `walked-only`)

-- rules 3 and 4
unfoldable pub open_node : ℕ → ℕ → Aim → List Term → List Node → Visit
unfolding split_node turns
open_node n cs a ts st =
    let r = split_node n cs a ts st in
    cond (is_none cs) (visited (leaf a ts) st) r

unfoldable pub visit_at : ℕ → List Term → Aim → ℕ → List Node → Visit
unfolding open_node cross_nodes
visit_at n [] a cs st = visited [] st
visit_at n (e ∷ es) (owes p t) cs st = visited (cn p t ∷ []) (node cs (on t) (e ∷ es) ∷ cross_nodes p t st)
visit_at n (e ∷ es) free cs st = open_node n cs free (e ∷ es) st
visit_at n (e ∷ es) (on t) cs st = open_node n cs (on t) (e ∷ es) st

unfoldable pub visit : ℕ → Node → List Node → Visit
unfolding visit_at
visit n d st = visit_at n d.set d.aim d.cands st

-- the walk, for at most `fuel` visits
unfoldable pub walk : ℕ → ℕ → List Node → List Step
unfolding visit
walk n zero st = []
walk n (suc f) [] = []
walk n (suc f) (d ∷ st) = let r = visit n d st in r.steps ++ walk n f r.stack

-- the terms other than 0 modulo 8
unfoldable pub nonzero : List Term → List Term
nonzero [] = []
nonzero (t ∷ ts) = cond (is_none (t.turn % 8)) (nonzero ts) (t ∷ nonzero ts)

-- enough visits for n columns and k terms
abbrev pub enough : ℕ → ℕ → ℕ
enough n k = 3 * n * k + 2

-- only terms other than 0 enter; the first node has all the block's columns
unfoldable pub phase_walk : ℕ → List Term → List Step
unfolding walk nonzero
phase_walk n ts =
    let start = nonzero ts in
    walk n (enough n (length start)) (node (2 ^ n - 1) free start ∷ [])

-- the rows that the wires hold after some steps
unfoldable pub held : List Step → List ℕ → List ℕ
held [] rows = rows
held (cn p t ∷ ss) rows = held ss (set rows t (xor (get_or rows t zero) (get_or rows p zero)))
held (rot q k ∷ ss) rows = held ss rows
