-- The scan one gate at a time, as a loop makes it: what is done so far, with what the rest gives, is what the whole gives.
use mathlib.Core.Path.{◌≡◌, ap, ◌∙◌}
use mathlib.Core.Bool.{Bool, true, false, not, ◌&&◌, cond}
use mathlib.Core.List.{List, [], ◌∷◌, ◌++◌, append-nil}
use Prim.Native.Nat.{zero, suc, ◌+◌, ◌≤◌}
use native.Mathlib.Omega.{arith}
use lib.ListN.{length}
use lib.Dec.{leb}
use borrow.Author.Tests.{leb-true}
use Rattle.rules.specs.Gate.{Gate}
use Rattle.rules.specs.Meaning.{Op, op, opaque}
use Rattle.rules.specs.Fold.{Block, empty, entered, absorb}
use Rattle.rules.specs.Synth.{block_of}
use Rattle.rules.specs.Plan.{Plan}
use Rattle.rules.specs.Scan.{roomy, takes, Piece, copied, closed, cut, Writer, chosen, replaces, Result, finish}
use Rattle.rules.proofs.Bits.{and_left, and_right}
use Rattle.rules.proofs.Folding.{absorb-rows}

-- a block that takes a gate stays within the qubit cap
pub takes-narrow : (p : Plan) (o : Op) (b : Block) → takes p o b ≡ true → length (absorb o b).rows ≤ p.qubits
unfolding takes
takes-narrow p o b e =
    let few : Bool = leb (length (entered o b.rows)) p.qubits in
    let h = and_left few (roomy p.terms o b) (and_right (not (opaque o)) (few && roomy p.terms o b) e) in
    omega (arith, absorb-rows o b, leb-true (length (entered o b.rows)) p.qubits h)

-- nothing yet
abbrev pub nothing : Result
nothing = record { gates = []; blocks = zero; replaced = zero }

-- a gate copied outside any block
abbrev pub alone : Gate → Result
alone g = record { gates = g ∷ []; blocks = zero; replaced = zero }

-- one result after another
abbrev pub onto : Result → Result → Result
onto d r = record { gates = d.gates ++ r.gates; blocks = d.blocks + r.blocks; replaced = d.replaced + r.replaced }

-- a block that ends: none where it holds no gate
unfoldable pub shut : Writer → List Gate → Result
unfolding chosen replaces
shut write [] = nothing
shut write (g ∷ gs) = record { gates = chosen write (g ∷ gs); blocks = 1; replaced = cond (replaces write (g ∷ gs)) 1 0 }

pub onto-none : (a : Result) → onto a nothing ≡ a
onto-none a =
    let m : a.blocks + zero ≡ a.blocks = omega arith in
    let n : a.replaced + zero ≡ a.replaced = omega arith in
    rw (append-nil a.gates, m, n)

pub none-onto : (a : Result) → onto nothing a ≡ a
none-onto a =
    let m : zero + a.blocks ≡ a.blocks = omega arith in
    let n : zero + a.replaced ≡ a.replaced = omega arith in
    rw (m, n)

finish-closed : (write : Writer) (run : List Gate) (ps : List Piece) → finish write (closed run ps) ≡ onto (shut write run) (finish write ps)
unfolding finish shut
finish-closed write [] ps =
    let m : zero + (finish write ps).blocks ≡ (finish write ps).blocks = omega arith in
    let n : zero + (finish write ps).replaced ≡ (finish write ps).replaced = omega arith in
    rw (m, n)
finish-closed write (g ∷ gs) ps =
    let m : 1 + (finish write ps).blocks ≡ suc (finish write ps).blocks = omega arith in
    rw m

module _ (write : Writer) (p : Plan) (run : List Gate) where
  pub scan-end : finish write (cut p run []) ≡ shut write run
  unfolding cut finish
  scan-end = finish-closed write run [] ∙ onto-none (shut write run)

  module _ (g : Gate) (gs : List Gate) where
    -- the block takes the gate
    pub scan-on : takes p (op g) (block_of run) ≡ true → finish write (cut p run (g ∷ gs)) ≡ finish write (cut p (run ++ (g ∷ [])) gs)
    unfolding cut
    scan-on e = rw e

    -- the block ends, and the gate starts the next
    pub scan-anew : takes p (op g) (block_of run) ≡ false → takes p (op g) empty ≡ true
        → finish write (cut p run (g ∷ gs)) ≡ onto (shut write run) (finish write (cut p (g ∷ []) gs))
    unfolding cut
    scan-anew e f = rw (e, f) (finish-closed write run (cut p (g ∷ []) gs))

    -- the block ends, and the gate is copied
    pub scan-alone : takes p (op g) (block_of run) ≡ false → takes p (op g) empty ≡ false
        → finish write (cut p run (g ∷ gs)) ≡ onto (shut write run) (onto (alone g) (finish write (cut p [] gs)))
    unfolding cut finish
    scan-alone e f = rw (e, f) (finish-closed write run (copied g ∷ cut p [] gs) ∙ ap (onto (shut write run)) one)
      where
        rest : Result
        rest = finish write (cut p [] gs)

        one : finish write (copied g ∷ cut p [] gs) ≡ onto (alone g) rest
        one =
            let m : zero + rest.blocks ≡ rest.blocks = omega arith in
            let n : zero + rest.replaced ≡ rest.replaced = omega arith in
            rw (m, n)
