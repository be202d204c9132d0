-- What the pass promises of every list and any plan, as a reader would say it.
use Rattle.std.specs.Prelude.{◌≡◌, ◌≢◌, true, false, List, [], ◌∷◌, ◌++◌, ℕ, zero, suc}
use Rattle.rules.specs.Gate.{Gate}
use Rattle.rules.specs.Stretch.{Stretchwise, AlikeGates}
use Rattle.rules.specs.Counts.{cheaper, Thrifty, NoMoreT}
use Rattle.rules.specs.Plan.{Plan}
use Rattle.rules.specs.Scan.{Writer, Piece, copied, block, pieces_of, text_of, Plain, Result}
use Rattle.rules.specs.Lines as Lines
use Rattle.rules.specs.Lines.{lines_after, LinesFrom}

-- each block holds at least one gate, and gates of the fragment only
unfoldable pub Held : List Piece → Type 0
unfolding Plain
Held [] = Unit {0}
Held (copied g ∷ ps) = Held ps
Held (block gs ∷ ps) = ((gs ≢ []) × Plain gs) × Held ps

-- what becomes of the pieces: the gates put out, the number of blocks closed, and of blocks replaced
pub data Changes (write : Writer) : List Piece → List Gate → ℕ → ℕ → Type 0 where
  end : Changes write [] [] zero zero
  -- a gate outside any block is copied
  copy : {ps : List Piece} {out : List Gate} {m n : ℕ} (g : Gate) → Changes write ps out m n → Changes write (copied g ∷ ps) (g ∷ out) m n
  -- a block is kept: its new writing is not cheaper
  keep : {ps : List Piece} {out : List Gate} {m n : ℕ} (gs : List Gate) → cheaper (write gs) gs ≡ false → Changes write ps out m n
      → Changes write (block gs ∷ ps) (gs ++ out) (suc m) n
  -- a block is replaced: its new writing is cheaper
  replace : {ps : List Piece} {out : List Gate} {m n : ℕ} (gs : List Gate) → cheaper (write gs) gs ≡ true → Changes write ps out m n
      → Changes write (block gs ∷ ps) (write gs ++ out) (suc m) (suc n)

-- the pieces are the list cut up; a block changes exactly when its new writing is cheaper; blocks closed and replaced are counted
pub record Exactly (write : Writer) (p : Plan) (gs : List Gate) (r : Result) : Type 0 where
  pub whole : text_of (pieces_of p gs) ≡ gs
  pub held : Held (pieces_of p gs)
  pub changes : Changes write (pieces_of p gs) r.gates r.blocks r.replaced

-- demand 3: the opaque gates are the same and each stretch acts alike; each stretch is unchanged or strictly cheaper;
-- each block is replaced exactly when its new writing is cheaper. And T never rises, in no stretch and not over the list;
-- the lines are, gate by gate, those that the rule says, and each is the line of some gate of the same stretch
pub record Promised (write : Writer) (p : Plan) (gs : List Gate) (r : Result) : Type 0 where
  pub alike : Stretchwise AlikeGates r.gates gs
  pub thrifty : Stretchwise Thrifty r.gates gs
  pub exactly : Exactly write p gs r
  pub sparing : Stretchwise NoMoreT r.gates gs
  pub spent : NoMoreT r.gates gs
  pub lines : Lines.lines r.gates ≡ lines_after write (pieces_of p gs)
  pub traced : Stretchwise LinesFrom r.gates gs
