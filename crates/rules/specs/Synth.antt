-- The resynthesis of a block: phase walk, closing map, flips, as gates on the circuit's wires.
use Rattle.std.specs.Prelude.{cond, List, [], ◌∷◌, ◌++◌, map, ℕ, zero, ◌%◌, length, get_or}
use Rattle.std.proofs.Math.Option.{Option, none, some}
use Rattle.rules.specs.Gate.{Gate, gate1, gate2, code_x, code_t, code_tdg, code_s, code_sdg, code_z, code_cnot}
use Rattle.rules.specs.Meaning.{op}
use Rattle.rules.specs.Fold.{Row, Block, empty, fold}
use Rattle.rules.specs.Walk.{Step, cn, rot, phase_walk, held}
use Rattle.rules.specs.Close.{units, and_then, closing}

-- turns 1 to 7: t; s; s then t; z; z then t; sdg; tdg
unfoldable pub rotation : ℕ → ℕ → List Gate
rotation k q =
    let one : ℕ → List Gate = λ c. gate1 c q ∷ [] in
    let two : ℕ → List Gate = λ c. gate1 c q ∷ gate1 code_t q ∷ [] in
    get_or ([] ∷ one code_t ∷ one code_s ∷ two code_s ∷ one code_z ∷ two code_z ∷ one code_sdg ∷ one code_tdg ∷ []) k []

-- steps on local indices as gates; ws has the circuit's wire of each index
unfoldable pub emit : List ℕ → List Step → List Gate
unfolding rotation
emit ws [] = []
emit ws (cn p t ∷ ss) = gate2 code_cnot (get_or ws p zero) (get_or ws t zero) ∷ emit ws ss
emit ws (rot q k ∷ ss) = rotation (k % 8) (get_or ws q zero) ++ emit ws ss

-- an x on each local index whose constant is true, ascending
unfoldable pub flips_of : List Row → List Gate
flips_of [] = []
flips_of (r ∷ rs) = cond r.flips (gate1 code_x r.wire ∷ flips_of rs) (flips_of rs)

abbrev pub with_steps : Option (List Step) → (List Step → List Gate) → Option (List Gate)
with_steps o f = and_then o (λ c. some (f c))

-- walk, then closing map from the rows that the walk leaves to the block's own, then flips
unfoldable pub synth : Block → Option (List Gate)
unfolding phase_walk held closing units emit flips_of
synth b =
    let n = length b.rows in
    let ws = map (λ r. r.wire) b.rows in
    let w = phase_walk n b.terms in
    with_steps (closing (held w (units n zero)) (map (λ r. r.parity) b.rows)) (λ c. emit ws (w ++ c) ++ flips_of b.rows)

-- the block of a run of gates
unfoldable pub block_of : List Gate → Block
unfolding fold op
block_of gs = fold (map op gs) empty

abbrev pub or_else : {A : Type 0} → Option A → A → A
or_else none a = a
or_else (some b) a = b

-- a closed block, written again. That every accepted block has a resynthesis is proved (`synth-total`); without one it would be the run itself
unfoldable pub resynthesis : List Gate → List Gate
unfolding synth block_of
resynthesis gs = or_else (synth (block_of gs)) gs
