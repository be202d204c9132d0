-- The lines of gates by their numbers are those of their origins; and the origins are of the gates that the pass makes.
use mathlib.Core.Path.{◌≡◌, refl, sym, ap, ◌∙◌}
use mathlib.Core.List.{List, [], ◌∷◌, ◌++◌, map, append_assoc}
use Prim.Native.Nat.{ℕ}
use lib.ListN.{length}
use lib.Seq.{take_at, drop_at}
use Rattle.rules.specs.Limits.{width}
use Rattle.rules.specs.Gate.{Gate}
use Rattle.rules.specs.Numbers.{numbers, numbers_of}
use Rattle.rules.specs.Scan.{Piece, copied, block, Writer, replaces, chosen, finish}
use Rattle.rules.specs.Lines.{line_of}
use Rattle.rules.proofs.Bits.{split}
use Rattle.origin.specs.Origins.{Origin, kept, made, last_from, last_line, origins, origin_text, origins_text}
use Rattle.origin.specs.declared.Source.TheVariants.{Copied, Again}
use Rattle.origin.specs.Clauses.{row_text, rows_text}

-- ---- their text

pub text-append : (os us : List Origin) → origins_text (os ++ us) ≡ origins_text os ++ origins_text us
unfolding origins_text
text-append [] us = refl
text-append (o ∷ os) us = ap (λ (l : List ℕ). origin_text o ++ l) (text-append os us) ∙ sym (append_assoc (origin_text o) (origins_text os) (origins_text us))

pub made-rows : (a b : ℕ) (gs : List Gate) → rows_text (Again a b) (length gs) (numbers_of gs) ≡ origins_text (map (made a b) gs)
unfolding rows_text row_text origins_text origin_text numbers_of
made-rows a b [] = refl
made-rows a b (g ∷ gs) = rw (take_at (numbers g) (numbers_of gs) width refl, drop_at (numbers g) (numbers_of gs) width refl, made-rows a b gs)

pub kept-rows : (gs : List Gate) → rows_text Copied (length gs) (numbers_of gs) ≡ origins_text (map kept gs)
unfolding rows_text row_text origins_text origin_text numbers_of
kept-rows [] = refl
kept-rows (g ∷ gs) = rw (take_at (numbers g) (numbers_of gs) width refl, drop_at (numbers g) (numbers_of gs) width refl, kept-rows gs)

-- ---- the gates

abbrev gate_of : Origin → Gate
gate_of (kept g) = g
gate_of (made a b g) = g

-- the last of some gates
pub last_snoc : (n : ℕ) (gs : List Gate) (g : Gate) → last_from n (gs ++ (g ∷ [])) ≡ g.line
unfolding last_from
last_snoc n [] g = refl
last_snoc n (x ∷ gs) g = last_snoc x.line gs g

map-made : (a b : ℕ) (gs : List Gate) → map gate_of (map (made a b) gs) ≡ gs
map-made a b [] = refl
map-made a b (g ∷ gs) = ap (λ (l : List Gate). g ∷ l) (map-made a b gs)

map-kept : (gs : List Gate) → map gate_of (map kept gs) ≡ gs
map-kept [] = refl
map-kept (g ∷ gs) = ap (λ (l : List Gate). g ∷ l) (map-kept gs)

map-append : (os us : List Origin) → map gate_of (os ++ us) ≡ map gate_of os ++ map gate_of us
map-append [] us = refl
map-append (o ∷ os) us = ap (λ (l : List Gate). gate_of o ∷ l) (map-append os us)

-- nothing is told of another gate, and of none too little: they are those of the pass, in order
pub origins-are : (write : Writer) (ps : List Piece) → map gate_of (origins write ps) ≡ (finish write ps).gates
unfolding origins finish chosen
origins-are write [] = refl
origins-are write (copied g ∷ ps) = ap (λ (l : List Gate). g ∷ l) (origins-are write ps)
origins-are write (block gs ∷ ps) =
    split (replaces write gs)
    (λ e. rw e (map-append (map (made (line_of gs) (last_line gs)) (write gs)) (origins write ps) ∙ rw (map-made (line_of gs) (last_line gs) (write gs), origins-are write ps)))
    (λ e. rw e (map-append (map kept gs) (origins write ps) ∙ rw (map-kept gs, origins-are write ps)))
