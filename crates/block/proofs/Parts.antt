-- A part of the row room that is lent from its beginning and comes back; and what lies behind a place.
--     row-take                          the rows of a part
--     part-many                         how many rows a part has
--     rows_cut                          the rows of a block, by the parts of its names and parities that have joined
--     part-add, part-rest               in the part a row is added to another: so it is in the room, and the rest stays
--     behind_more, behind-same, behind-on    what is as it was behind a place is so further back, for a state with as many wires, and step by step
use Rattle.std.proofs.Common.{◌≡◌, refl, sym, ap, ap₂, ◌∙◌, List, ◌++◌, ℕ, ◌+◌, ◌-◌, ◌≤◌, ◌<◌, length, get_or, set, take, drop, arith}
use Rattle.std.proofs.lemmas.List.{take-map, drop-map, map-append}
use lib.ListN.{take-append-drop}
use lib.Seq.{drop-drop, drop_at, get_or-take, take-set-lt, drop-set-lt, length-take-le}
use Rattle.rules.specs.Bit.{xor}
use Rattle.rules.specs.Close.{add_to}
use Rattle.parity.specs.View.{val}
use Rattle.parity.specs.declared.Parity.{Parity}
use Rattle.rows.specs.Rows.{rows_of}
use Rattle.rows.proofs.Room.{row_count}
use Rattle.block.specs.View.{names_of, held_of, rows_from, row_at, rows_at}
use Rattle.block.specs.Steps.{Behind}
use Rattle.block.specs.declared.Block.{Block}
use Rattle.block.proofs.Rowing.{row-eq, rows_ext}

-- ---- rows of a part

pub row-take : (n : ℕ) (xs : List Parity) → rows_of (take n xs) ≡ take n (rows_of xs)
row-take n xs = sym (take-map val n xs)

pub part-many : (n : ℕ) (xs : List Parity) → n ≤ length (rows_of xs) → length (rows_of (take n xs)) ≡ n
part-many n xs l = ap length (row-take n xs) ∙ length-take-le n (rows_of xs) l

pub rows_cut : (b : Block) → rows_at b ≡ rows_from (row_at (names_of b) (rows_of (held_of b)) (val b.flips)) b.wires 0
unfolding rows_at
rows_cut b =
    let n = b.wires in
    sym (rows_ext (row_at (names_of b) (rows_of (held_of b)) (val b.flips)) (row_at b.names (rows_of b.rows) (val b.flips)) n 0
    (λ j l h. row-eq (get_or-take n b.names j 0 (omega arith)) (ap (λ (hs : List ℕ). get_or hs j 0) (row-take n b.rows) ∙ get_or-take n (rows_of b.rows) j 0 (omega arith)) refl))

-- the first n rows come back as `part`
module _ (n : ℕ) (rows part : List Parity) (many : n ≤ length (rows_of rows)) (kept : length part ≡ length (take n rows)) where
  part_length : length part ≡ n
  part_length = kept ∙ length-take-le n rows (omega (arith, row_count rows))

  part-rows : rows_of (part ++ drop n rows) ≡ rows_of part ++ drop n (rows_of rows)
  part-rows = map-append val part (drop n rows) ∙ ap (λ (l : List ℕ). rows_of part ++ l) (sym (drop-map val n rows))

  pub part-rest : drop n (part ++ drop n rows) ≡ drop n rows
  part-rest = drop_at part (drop n rows) n part_length

  pub part-add : (c t : ℕ) → c < n → t < n → rows_of part ≡ add_to c t (rows_of (take n rows)) → rows_of (part ++ drop n rows) ≡ add_to c t (rows_of rows)
  unfolding add_to
  part-add c t lc lt e =
      let v : ℕ = xor (get_or (rows_of rows) t 0) (get_or (rows_of rows) c 0) in
      let at : (i : ℕ) → i < n → get_or (rows_of (take n rows)) i 0 ≡ get_or (rows_of rows) i 0 = λ i l. ap (λ (rs : List ℕ). get_or rs i 0) (row-take n rows) ∙ get_or-take n (rows_of rows) i 0 l in
      let f : rows_of part ≡ take n (set (rows_of rows) t v) =
      e ∙ ap₂ (λ (a b : ℕ). set (rows_of (take n rows)) t (xor a b)) (at t lt) (at c lc) ∙ ap (λ (rs : List ℕ). set rs t v) (row-take n rows) ∙ sym (take-set-lt n (rows_of rows) t v lt) in
      part-rows ∙ ap₂ (λ (a b : List ℕ). a ++ b) f (sym (drop-set-lt n (rows_of rows) t v lt)) ∙ take-append-drop n (set (rows_of rows) t v)

-- ---- behind a place

pub behind_more : {A : Type 0} (n m : ℕ) (xs ys : List A) → n ≤ m → drop n xs ≡ drop n ys → drop m xs ≡ drop m ys
behind_more {A} n m xs ys l e =
    let s : n + (m - n) ≡ m = omega arith in
    let go : (zs : List A) → drop (m - n) (drop n zs) ≡ drop m zs = λ zs. drop-drop (m - n) n zs ∙ ap (λ (k : ℕ). drop k zs) s in
    sym (go xs) ∙ ap (drop (m - n)) e ∙ go ys

pub behind-same : (b e r : Block) → r.wires ≡ e.wires → r.names ≡ e.names → drop e.wires r.rows ≡ drop e.wires e.rows → Behind b e → Behind b r
behind-same b e r w n m h = record { names-rest = rw (w, n) h.names-rest; rows-rest = rw w (m ∙ h.rows-rest) }

pub behind-on : (b e r : Block) → e.wires ≤ r.wires → Behind b e → Behind e r → Behind b r
behind-on b e r l h k = record {
  names-rest = k.names-rest ∙ behind_more e.wires r.wires e.names b.names l h.names-rest;
  rows-rest = k.rows-rest ∙ behind_more e.wires r.wires e.rows b.rows l h.rows-rest;
}
