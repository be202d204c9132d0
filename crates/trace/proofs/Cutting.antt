-- Where a piece ends: the first piece of a list is one piece by itself.
use mathlib.Core.Path.{◌≡◌, refl, sym, ap, subst, ◌∙◌}
use mathlib.Core.Bool.{true, false, cond}
use mathlib.Core.List.{List, [], ◌∷◌, ◌++◌, append-nil, append_assoc}
use Prim.Native.Nat.{ℕ, ◌+◌, ◌-◌, ◌≤◌, ◌<◌}
use native.Mathlib.Omega.{arith}
use borrow.Author.Tests.{ltb-true, ltb-false}
use lib.Dec.{ltb}
use lib.IntN.{ℤ}
use lib.ListN.{length}
use Rattle.rules.specs.Gate.{Gate}
use Rattle.rules.specs.Numbers.{gate_at}
use Rattle.rules.specs.Meaning.{op}
use Rattle.rules.specs.Fold.{empty}
use Rattle.rules.specs.Synth.{block_of}
use Rattle.rules.specs.Plan.{Plan}
use Rattle.rules.specs.Scan.{takes, Piece, copied, block, closed, cut, pieces_of}
use Rattle.rules.proofs.Bits.{split}
use Rattle.rules.proofs.Reading.{from-length}
use Rattle.block.specs.declared.Block as State
use Rattle.scan.specs.Scanning.{gates_in, run, rest, Stops}
use Rattle.scan.proofs.Folding.{run_none, run-next, rest-next, rest-none, block_none}
use Rattle.trace.specs.Clauses.{Cuts}

-- ---- one gate

module _ (p : Plan) (r : List Gate) (g : Gate) (gs : List Gate) where
  cut-taken : takes p (op g) (block_of r) ≡ true → cut p r (g ∷ gs) ≡ cut p (r ++ (g ∷ [])) gs
  unfolding cut
  cut-taken e = rw e

  cut-shut : takes p (op g) (block_of r) ≡ false → cut p r (g ∷ gs) ≡ cond (takes p (op g) empty) (closed r (cut p (g ∷ []) gs)) (closed r (copied g ∷ cut p [] gs))
  unfolding cut
  cut-shut e = rw e

cut-end : (p : Plan) (r : List Gate) → cut p r [] ≡ closed r []
unfolding cut
cut-end p r = refl

-- the block ends, and the gate is tried again
cut_again : (p : Plan) (r : List Gate) (g : Gate) (gs : List Gate) → takes p (op g) (block_of r) ≡ false → cut p r (g ∷ gs) ≡ closed r (cut p [] (g ∷ gs))
cut_again p r g gs e =
    split (takes p (op g) empty)
    (λ f. cut-shut p r g gs e ∙ rw f (ap (closed r) (sym (cut-taken p [] g gs (ap (takes p (op g)) block_none ∙ f)))))
    (λ f. cut-shut p r g gs e ∙ rw f (ap (closed r) (sym (cut-shut p [] g gs (ap (takes p (op g)) block_none ∙ f) ∙ rw f))))

-- no block begins with it
cut-lone : (p : Plan) (g : Gate) (gs : List Gate) → takes p (op g) (block_of []) ≡ false → cut p [] (g ∷ gs) ≡ copied g ∷ cut p [] gs
cut-lone p g gs e = cut-shut p [] g gs e ∙ rw (sym (ap (takes p (op g)) block_none) ∙ e)

-- ---- the first piece

abbrev block_in : List Gate → Piece → List Gate
block_in d (copied g) = d
block_in d (block gs) = gs

abbrev head_in : Piece → List Piece → Piece
head_in d [] = d
head_in d (q ∷ qs) = q

same_block : (a b : List Gate) (ps qs : List Piece) → block a ∷ ps ≡ block b ∷ qs → a ≡ b
same_block a b ps qs e = ap (λ (l : List Piece). block_in a (head_in (block a) l)) e

-- a block that is closed with gates behind it is closed with none
cut-front : (p : Plan) (x : Gate) (r gs b : List Gate) (ps : List Piece) → cut p (x ∷ r) gs ≡ block b ∷ ps
    → (front : List Gate) × ((b ≡ (x ∷ r) ++ front) × (cut p (x ∷ r) front ≡ block b ∷ []))
cut-front p x r [] b ps e =
    let f : x ∷ r ≡ b = same_block (x ∷ r) b [] ps (sym (cut-end p (x ∷ r)) ∙ e) in
    ([], (sym f ∙ sym (append-nil (x ∷ r)), cut-end p (x ∷ r) ∙ ap (λ (l : List Gate). block l ∷ []) f))
cut-front p x r (g ∷ gs) b ps e =
    split (takes p (op g) (block_of (x ∷ r)))
    (λ t.
    let more = cut-front p x (r ++ (g ∷ [])) gs b ps (sym (cut-taken p (x ∷ r) g gs t) ∙ e) in
    (g ∷ more.0, (more.1.0 ∙ ap (λ (l : List Gate). x ∷ l) (append_assoc r (g ∷ []) more.0), cut-taken p (x ∷ r) g more.0 t ∙ more.1.1)))
    (λ t.
    let f : x ∷ r ≡ b = same_block (x ∷ r) b _ ps (sym (cut_again p (x ∷ r) g gs t) ∙ e) in
    ([], (sym f ∙ sym (append-nil (x ∷ r)), cut-end p (x ∷ r) ∙ ap (λ (l : List Gate). block l ∷ []) f)))

abbrev is_block : Piece → ℕ
is_block (copied g) = 0
is_block (block gs) = 1

-- the run of the first block is one piece by itself
block-alone : (p : Plan) (g : Gate) (gs b : List Gate) (ps : List Piece) → cut p [] (g ∷ gs) ≡ block b ∷ ps → cut p [] b ≡ block b ∷ []
block-alone p g gs b ps e =
    split (takes p (op g) (block_of []))
    (λ t.
    let f = cut-front p g [] gs b ps (sym (cut-taken p [] g gs t) ∙ e) in
    ap (cut p []) f.1.0 ∙ cut-taken p [] g f.0 t ∙ f.1.1)
    (λ t.
    let z : 0 ≡ 1 = ap (λ (l : List Piece). is_block (head_in (block b) l)) (sym (cut-lone p g gs t) ∙ e) in
    absurd (omega arith))

closed_some : (r : List Gate) (ps : List Piece) → 1 ≤ length r → closed r ps ≡ block r ∷ ps
closed_some [] ps h = absurd (omega arith)
closed_some (x ∷ r) ps h = refl

-- ---- by places

module _ (p : Plan) (l : List ℤ) (i : ℕ) (h : i < gates_in l) where
  pub lone-cuts : takes p (op (gate_at l i)) (block_of (run l i i)) ≡ false → Cuts p l i (i + 1)
  unfolding pieces_of
  lone-cuts t =
      let g : Gate = gate_at l i in
      let no : takes p (op g) (block_of []) ≡ false = ap (λ (r : List Gate). takes p (op g) (block_of r)) (sym (run_none l i)) ∙ t in
      let one : run l i (i + 1) ≡ g ∷ [] = run-next l i i (omega arith) ∙ ap (λ (r : List Gate). r ++ (g ∷ [])) (run_none l i) in
      record {
        onward = omega arith;
        inside = omega arith;
        piece = copied g;
        splits = ap (cut p []) (rest-next l i h) ∙ cut-lone p g (rest l (i + 1)) no;
        alone = ap (cut p []) one ∙ cut-lone p g [] no ∙ ap (λ (ps : List Piece). copied g ∷ ps) (cut-end p []);
      }

  module _ (j : ℕ) (k : i < j) (inside : j ≤ gates_in l) (cuts : cut p [] (rest l i) ≡ cut p (run l i j) (rest l j))
      (full : j < gates_in l → takes p (op (gate_at l j)) (block_of (run l i j)) ≡ false) where
    run-closed : cut p (run l i j) (rest l j) ≡ closed (run l i j) (cut p [] (rest l j))
    run-closed =
        split (ltb j (gates_in l))
        (λ e.
        let m : j < gates_in l = ltb-true j (gates_in l) e in
        rw (rest-next l j m) (cut_again p (run l i j) (gate_at l j) (rest l (j + 1)) (full m)))
        (λ e. rw (rest-none l j (ltb-false j (gates_in l) e), cut-end p (run l i j), cut-end p []))

    pub block-cuts : Cuts p l i j
    unfolding pieces_of
    block-cuts =
        let r : List Gate = run l i j in
        let first : cut p [] (rest l i) ≡ block r ∷ cut p [] (rest l j) = cuts ∙ run-closed ∙ closed_some r _ (omega (arith, from-length l (j - i) i)) in
        record {
          onward = k;
          inside = inside;
          piece = block r;
          splits = first;
          alone = block-alone p (gate_at l i) (rest l (i + 1)) r _ (sym (ap (cut p []) (rest-next l i h)) ∙ first);
        }

-- ---- by where the fold of a run stops

module _ (p : Plan) (l : List ℤ) (i : ℕ) (b : State.Block) (j : ℕ) (table room : List ℕ) (s : Stops p l i b j table room) (h : i < gates_in l) where
  pub stop-lone : j ≡ i → Cuts p l i (i + 1)
  stop-lone e = lone-cuts p l i h (subst (λ (j : ℕ). takes p (op (gate_at l j)) (block_of (run l i j)) ≡ false) e (s.full (omega arith)))

  pub stop-block : (j ≡ i → ⊥) → Cuts p l i j
  stop-block f = block-cuts p l i h j (omega (arith, s.onward, f)) s.inside s.cuts s.full
