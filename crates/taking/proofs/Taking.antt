-- What the entries of the join table say of a gate that would join.
--     fits_one, fits-two     the rows once its wires have joined
--     parity-is              the parity of its wire then
--     takes-is               whether it is taken, as one test; takes-other
--     ask-ready              callers cite it: what the test asks
use mathlib.Core.Path.{◌≡◌, refl, sym, ap, ap₂, ◌∙◌}
use mathlib.Core.Logic.{◌≢◌}
use mathlib.Core.Bool.{Bool, true, false, not, ◌&&◌, ◌||◌, cond, and-true, true≢false}
use mathlib.Core.List.{List, [], ◌∷◌, ◌++◌}
use Prim.Native.Nat.{ℕ, zero, suc, ◌+◌, ◌-◌, ◌^◌, ◌≤◌, ◌<◌}
use native.Mathlib.Omega.{arith}
use native.Mathlib.Nat.{add-zero}
use lib.ListN.{length, get_or, take}
use lib.Seq.{length-take-le}
use lib.Dec.{eqb, leb, ltb}
use borrow.Author.Tests.{eq-eqb, ne_eqb, leb-true, leb-false, le-ltb, lt-ltb}
use Rattle.std.specs.Prelude.{Option, Some, None, SomeIff, is_some}
use Rattle.rules.specs.Limits.{max_columns}
use Rattle.rules.specs.Gate.{second}
use Rattle.rules.specs.Meaning.{flip, phase, cnot, cz, other, op}
use Rattle.rules.specs.Fold.{Row, Term, Block, joined, row_of, join, fresh, entered}
use Rattle.rules.specs.Plan.{Plan}
use Rattle.rules.specs.Scan.{has_term, roomy, takes}
use Rattle.rules.proofs.Bits.{split, same}
use Rattle.parity.specs.declared.Parity.{Parity}
use Rattle.rows.specs.Rows.{rows_of}
use Rattle.terms.specs.Terms.{terms_of, place, Indexed}
use Rattle.terms.proofs.Places.{not-lt, place-has}
use Rattle.gate.specs.Writing.{gate_of}
use Rattle.gate.specs.declared.Gate.{Gate}
use Rattle.block.specs.View.{rows_at, terms_at, block_at, Folded, Rowed, Holds}
use Rattle.block.specs.Steps.{Wired}
use Rattle.block.specs.declared.Block as State
use Rattle.block.proofs.Entering.{wires-are, row_is, joined_is, join-old, join-new, join-size}
use Rattle.block.proofs.Codes.{op-x, op-turn, op-cnot, op-cz, two-wires}
use Rattle.block.proofs.Folding.{terms-length}
use Rattle.taking.specs.Asking.{new, parity_at, last_wire, Askable}

joined_snoc : (q : ℕ) (rs : List Row) (r : Row) → (r.wire ≢ q) → joined q (rs ++ (r ∷ [])) ≡ joined q rs
unfolding joined
joined_snoc q [] r n = ap (λ (t : Bool). t || false) (ne_eqb r.wire q n)
joined_snoc q (a ∷ rs) r n = ap (λ (t : Bool). eqb a.wire q || t) (joined_snoc q rs r n)

-- another wire that joins changes nothing
joined-other : (c t : ℕ) (rs : List Row) → c ≢ t → joined t (join c rs) ≡ joined t rs
joined-other c t rs n =
    split (joined c rs)
    (λ e. ap (joined t) (join-old c rs e))
    (λ e. ap (joined t) (join-new c rs e) ∙ joined_snoc t rs (fresh c (length rs)) n)

row_last : (q : ℕ) (rs : List Row) (r : Row) → joined q rs ≡ false → r.wire ≡ q → row_of q (rs ++ (r ∷ [])) ≡ r
unfolding joined row_of
row_last q [] r j e = rw (eq-eqb r.wire q e)
row_last q (a ∷ rs) r j e =
    split (eqb a.wire q)
    (λ t. absurd (true≢false (rw t at j)))
    (λ t. rw t (row_last q rs r (rw t at j) e))

-- an entry that names an index, and one that names none
pub parity-old : (n v i x : ℕ) (held : List ℕ) → v ≡ suc i → x ≡ get_or held i 0 → x ≡ parity_at n held v
unfolding parity_at
parity-old n v i x held e f =
    let s : eqb (suc i) 0 ≡ false = ne_eqb (suc i) 0 (λ z. omega arith) in
    let m : suc i - 1 ≡ i = omega arith in
    rw (e, s, m) f

pub parity-new : (n v x : ℕ) (held : List ℕ) → v ≡ 0 → x ≡ 2 ^ n → x ≡ parity_at n held v
unfolding parity_at
parity-new n v x held e f = rw e f

flipped : (v : ℕ) → cond (not (eqb v 0)) 0 1 ≡ new v
flipped v = split (eqb v 0) (λ e. rw e) (λ e. rw e)

module _ {b : State.Block} {table : List ℕ} (h : Rowed b table) where
  pub fits_one : (q : ℕ) → length (join q (rows_at b)) ≡ b.wires + new (get_or table q 0)
  fits_one q =
      join-size q (rows_at b)
      ∙ ap₂ ◌+◌ (wires-are h) (ap (λ (t : Bool). cond t 0 1) (joined_is h q) ∙ flipped (get_or table q 0))

  pub fits-two : (c t : ℕ) → c ≢ t → length (join t (join c (rows_at b))) ≡ b.wires + new (get_or table c 0) + new (get_or table t 0)
  fits-two c t n =
      join-size t (join c (rows_at b))
      ∙ ap₂ ◌+◌ (fits_one c) (ap (λ (s : Bool). cond s 0 1) (joined-other c t (rows_at b) n ∙ joined_is h t) ∙ flipped (get_or table t 0))

  pub parity-is : (q : ℕ) → (row_of q (join q (rows_at b))).parity ≡ parity_at b.wires (rows_of b.rows) (get_or table q 0)
  parity-is q = go (get_or table q 0) refl
    where
      go : (v : ℕ) → get_or table q 0 ≡ v → (row_of q (join q (rows_at b))).parity ≡ parity_at b.wires (rows_of b.rows) v
      go zero e =
          let j : joined q (rows_at b) ≡ false = joined_is h q ∙ ap (λ (v : ℕ). not (eqb v 0)) e in
          ap (λ (rs : List Row). (row_of q rs).parity) (join-new q (rows_at b) j)
          ∙ ap (λ (r : Row). r.parity) (row_last q (rows_at b) (fresh q (length (rows_at b))) j refl)
          ∙ parity-new b.wires 0 (2 ^ length (rows_at b)) (rows_of b.rows) refl (ap (λ (k : ℕ). 2 ^ k) (wires-are h))
      go (suc i) e =
          let j : joined q (rows_at b) ≡ true = joined_is h q ∙ ap (λ (v : ℕ). not (eqb v 0)) e ∙ ap not (ne_eqb (suc i) 0 (λ z. omega arith)) in
          let k = h.joins.back q i e in
          ap (λ (rs : List Row). (row_of q rs).parity) (join-old q (rows_at b) j) ∙ ap (λ (r : Row). r.parity) (row_is h i q k.0 k.1)
          ∙ parity-old b.wires (suc i) i (get_or (rows_of b.rows) i 0) (rows_of b.rows) refl refl

  module _ (room : List ℕ) (p : Plan) where
    takes-x : (q : ℕ) → leb (b.wires + new (get_or table q 0)) p.qubits ≡ takes p (flip q) (block_at b room)
    unfolding takes entered roomy
    takes-x q = rw (fits_one q) (sym (and-true (leb (b.wires + new (get_or table q 0)) p.qubits)))

    takes-cnot : (c t : ℕ) → c ≢ t → leb (b.wires + new (get_or table c 0) + new (get_or table t 0)) p.qubits ≡ takes p (cnot c t) (block_at b room)
    unfolding takes entered roomy
    takes-cnot c t n = rw (fits-two c t n) (sym (and-true (leb (b.wires + new (get_or table c 0) + new (get_or table t 0)) p.qubits)))

    takes-cz : (c t : ℕ) → c ≢ t → leb (b.wires + new (get_or table c 0) + new (get_or table t 0)) p.qubits ≡ takes p (cz c t) (block_at b room)
    unfolding takes entered roomy
    takes-cz c t n = rw (fits-two c t n) (sym (and-true (leb (b.wires + new (get_or table c 0) + new (get_or table t 0)) p.qubits)))

    pub takes-other : false ≡ takes p other (block_at b room)
    unfolding takes
    takes-other = refl

    takes-phase : (k q : ℕ) → Folded (terms_at b room) b room
        → takes p (phase k q) (block_at b room)
        ≡ (leb (b.wires + new (get_or table q 0)) p.qubits && (has_term (parity_at b.wires (rows_of b.rows) (get_or table q 0)) (terms_at b room) || ltb b.terms p.terms))
    unfolding takes entered roomy
    takes-phase k q f = rw (fits_one q, parity-is q, terms-length f)

    takes_two : (g : Gate) → 8 ≤ g.code → g.code ≤ 9 → g.first ≢ g.second
        → leb (b.wires + new (get_or table g.first 0) + new (get_or table g.second 0)) p.qubits ≡ takes p (op (gate_of g)) (block_at b room)
    takes_two g l m n =
        same g.code 8
        (λ e t. rw (op-cnot g e) (takes-cnot g.first g.second n))
        (λ e t. let k : g.code ≡ 9 = omega arith in rw (op-cz g k) (takes-cz g.first g.second n))

    -- the one test of a gate of the fragment, by the entries of its wires
    pub takes-is : (g : Gate) → 1 ≤ g.code → g.code ≤ 9 → (second g.code ≡ true → g.first ≢ g.second) → Folded (terms_at b room) b room
        → takes p (op (gate_of g)) (block_at b room)
        ≡ (leb (b.wires + new (get_or table g.first 0) + cond (leb 8 g.code) (new (get_or table (last_wire g) 0)) 0) p.qubits
        && (leb 8 g.code || (eqb g.code 1 || (has_term (parity_at b.wires (rows_of b.rows) (get_or table g.first 0)) (terms_at b room) || ltb b.terms p.terms))))
    takes-is g l m n f =
        split (leb 8 g.code)
        (λ e. let k : 8 ≤ g.code = leb-true 8 g.code e in
        rw e (sym (takes_two g k m (n (two-wires g.code k m))) ∙ sym (and-true _)))
        (λ e. let k : g.code ≤ 7 = omega (arith, leb-false 8 g.code e) in
        same g.code 1
        (λ q t. rw (e, t, op-x g q, add-zero (b.wires + new (get_or table g.first 0))) (sym (takes-x g.first) ∙ sym (and-true _)))
        (λ q t. rw (e, t, op-turn g (omega arith) k, add-zero (b.wires + new (get_or table g.first 0))) (takes-phase _ g.first f)))

-- a wire that would join has an index
pub fits_fresh : (n v e cap : ℕ) → leb (n + new v + e) cap ≡ true → v ≡ 0 → n < cap
fits_fresh n v e cap h z =
    let k : leb (n + 1 + e) cap ≡ true = rw z at h in
    omega (arith, leb-true (n + 1 + e) cap k)

-- a full table is searched
pub searched : (n p q : ℕ) (found : Option ℕ) (room : List ℕ) → n ≤ length (terms_of room)
    → SomeIff found (place p (take n (terms_of room)) < n) (place p (take n (terms_of room))) → p ≡ q → is_some found ≡ has_term q (take n (terms_of room))
searched n p q found room m f g =
    let ts : List Term = take n (terms_of room) in
    told found f ∙ ap (ltb (place p ts)) (sym (length-take-le n (terms_of room) m)) ∙ place-has p ts ∙ ap (λ (k : ℕ). has_term k ts) g
  where
    told : (o : Option ℕ) → SomeIff o (place p (take n (terms_of room)) < n) (place p (take n (terms_of room))) → is_some o ≡ ltb (place p (take n (terms_of room))) n
    told None f = sym (le-ltb _ _ (not-lt f))
    told (Some i) f = sym (lt-ltb _ _ f.0)

-- what the test asks, of a state that stands for a block
pub ask-ready : {p : Block} {b : State.Block} {table room heads : List ℕ} → Holds p b table room
    → (g : Gate) (cap : ℕ) → Wired g table → cap ≤ max_columns → Indexed heads room b.terms → Askable b g table room cap heads
ask-ready h g cap w l x = record {
  wired = w;
  few = h.rows_are.joins.few;
  low = l;
  held = λ q i e. omega (arith, (h.rows_are.joins.back q i e).0, h.rows_are.joins.few, h.rows_are.wide);
  terms = h.terms-are.few;
  indexed = x;
}
