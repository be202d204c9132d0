-- The scan: a list cut into blocks and copied gates, and each block written again where that is cheaper.
-- What a closed block is rewritten to is a parameter.
use Rattle.std.specs.Prelude.{◌≡◌, Bool, true, false, not, ◌&&◌, ◌||◌, cond, List, [], ◌∷◌, ◌++◌, map, ℕ, zero, suc, ◌+◌, length, eqb, leb, ltb}
use Rattle.rules.specs.Plan.{Plan}
use Rattle.rules.specs.Gate.{Gate}
use Rattle.rules.specs.Meaning.{Op, flip, phase, cnot, cz, other, op, opaque, Alike}
use Rattle.rules.specs.Counts.{cheaper, NoMoreT}
use Rattle.rules.specs.Fold.{Term, Block, empty, row_of, entered}
use Rattle.rules.specs.Synth.{block_of}

-- ---- where a block ends

-- the table has a term on the parity p
unfoldable pub has_term : ℕ → List Term → Bool
has_term p [] = false
has_term p (t ∷ ts) = eqb t.parity p || has_term p ts

-- a rotation on a parity that is not in the table passes the term cap if the table holds that many; cz and cnot never test it
unfoldable pub roomy : ℕ → Op → Block → Bool
unfolding has_term row_of entered
roomy cap (flip q) b = true
roomy cap (phase k q) b = has_term (row_of q (entered (phase k q) b.rows)).parity b.terms || ltb (length b.terms) cap
roomy cap (cnot c t) b = true
roomy cap (cz c t) b = true
roomy cap other b = true

-- the gate can go on the block: of the fragment, within the qubit cap, within the term cap
unfoldable pub takes : Plan → Op → Block → Bool
unfolding entered roomy
takes p o b = not (opaque o) && (leb (length (entered o b.rows)) p.qubits && roomy p.terms o b)

-- ---- the pieces

-- a gate that is copied outside any block, or the run of a block
pub data Piece : Type 0 where
  copied : Gate → Piece
  block : List Gate → Piece

-- a block is closed when it ends holding at least one gate
abbrev pub closed : List Gate → List Piece → List Piece
closed [] ps = ps
closed (g ∷ gs) ps = block (g ∷ gs) ∷ ps

-- the list after a block's run so far. A gate that the block can't take closes it and is tried again on the empty block;
-- what that can't take, an opaque gate or one wider than the cap, is copied and no block starts
unfoldable pub cut : Plan → List Gate → List Gate → List Piece
unfolding takes op block_of
cut p run [] = closed run []
cut p run (g ∷ gs) =
    let on = cut p (run ++ (g ∷ [])) gs in
    let anew = closed run (cut p (g ∷ []) gs) in
    let alone = closed run (copied g ∷ cut p [] gs) in
    let shut = cond (takes p (op g) empty) anew alone in
    cond (takes p (op g) (block_of run)) on shut

-- the pieces of a list
unfoldable pub pieces_of : Plan → List Gate → List Piece
unfolding cut
pieces_of p gs = cut p [] gs

-- the list that was cut up
unfoldable pub text_of : List Piece → List Gate
text_of [] = []
text_of (copied g ∷ ps) = g ∷ text_of ps
text_of (block gs ∷ ps) = gs ++ text_of ps

-- ---- the choice

-- what a closed block's run is rewritten to, before it is known whether that is cheaper
abbrev pub Writer : Type 0
Writer = List Gate → List Gate

-- gates of the fragment only
unfoldable pub Plain : List Gate → Type 0
unfolding op
Plain [] = Unit {0}
Plain (g ∷ gs) = (opaque (op g) ≡ false) × Plain gs

-- the law that demand 3 asks of a writer: a run of the fragment becomes a run of the fragment that acts alike
pub record Lawful (write : Writer) : Type 0 where
  pub alike : (gs : List Gate) → Plain gs → Alike (map op (write gs)) (map op gs)
  pub plain : (gs : List Gate) → Plain gs → Plain (write gs)

-- and the one that "T never rises" asks: no more T than the run
pub record Sparing (write : Writer) : Type 0 where
  pub spares : (gs : List Gate) → Plain gs → NoMoreT (write gs) gs

-- the block is replaced: its new writing is cheaper
unfoldable pub replaces : Writer → List Gate → Bool
unfolding cheaper
replaces write gs = cheaper (write gs) gs

-- the new writing where it is cheaper, else the block itself
unfoldable pub chosen : Writer → List Gate → List Gate
unfolding replaces
chosen write gs = cond (replaces write gs) (write gs) gs

-- ---- the pass, over any writer

pub record Result : Type 0 where
  pub gates : List Gate
  pub blocks : ℕ
  pub replaced : ℕ

-- piece by piece, with the blocks closed and replaced counted
unfoldable pub finish : Writer → List Piece → Result
unfolding chosen replaces
finish write [] = record { gates = []; blocks = zero; replaced = zero }
finish write (copied g ∷ ps) = let r = finish write ps in record { gates = g ∷ r.gates; blocks = r.blocks; replaced = r.replaced }
finish write (block gs ∷ ps) =
    let r = finish write ps in
    record { gates = chosen write gs ++ r.gates; blocks = suc r.blocks; replaced = cond (replaces write gs) 1 0 + r.replaced }

unfoldable pub pass_by : Writer → Plan → List Gate → Result
unfolding pieces_of finish
pass_by write p gs = finish write (pieces_of p gs)
