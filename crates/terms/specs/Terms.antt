-- Terms side by side in a room of numbers, three to a term: a parity's low word, its high word, and a word that is its turn and 8 times a link.
use Rattle.std.specs.Prelude.{◌≡◌, ◌≢◌, Bool, true, false, not, cond, Option, Some, None, List, [], ◌∷◌, ◌++◌, ℕ, zero, suc, ◌+◌, ◌-◌, ◌*◌, ◌/◌, ◌%◌, ◌^◌, ◌≤◌, ◌<◌, set, get_or, take, drop, length, eqb}
use Rattle.std.specs.List.{filter}
use Rattle.rules.specs.Limits.{term_width}
use Rattle.rules.specs.Bit.{xor}
use Rattle.rules.specs.Fold.{Term}
use Rattle.rules.specs.Walk.{side}
use Rattle.rules.specs.Order.{Shuffled}
use Rattle.parity.specs.View.{val}
use Rattle.terms.specs.declared.Entry.{Entry}

-- the whole terms of a room; a turn is its word modulo 8
unfoldable pub terms_of : List ℕ → List Term
terms_of [] = []
terms_of (lo ∷ []) = []
terms_of (lo ∷ hi ∷ []) = []
terms_of (lo ∷ hi ∷ k ∷ xs) = record { parity = hi * 2 ^ 64 + lo; turn = k % 8 } ∷ terms_of xs

-- their third words
unfoldable pub words_of : List ℕ → List ℕ
words_of [] = []
words_of (lo ∷ []) = []
words_of (lo ∷ hi ∷ []) = []
words_of (lo ∷ hi ∷ k ∷ xs) = k ∷ words_of xs

-- an entry's term
abbrev pub term_of : Entry → Term
term_of e = record { parity = val e.parity; turn = e.turn % 8 }

-- what stands past the end
abbrev pub no_term : Term
no_term = record { parity = 0; turn = 0 }

-- the list with its terms at i and j exchanged
abbrev pub exchanged : List Term → ℕ → ℕ → List Term
exchanged ts i j = set (set ts i (get_or ts j no_term)) j (get_or ts i no_term)

-- the place of the first term on the parity p, or the number of terms
unfoldable pub place : ℕ → List Term → ℕ
place p [] = zero
place p (t ∷ ts) = cond (eqb t.parity p) zero (suc (place p ts))

-- a room now begins with `new`, which is r terms, and is as it was from the place `end` on
pub record Begins (new : List Term) (r end : ℕ) (before after : List Term) : Type 0 where
  pub many : length new ≡ r
  pub front : take r after ≡ new
  pub rest : drop end after ≡ drop end before

-- term i is stored, with the word w; the numbers of the room behind it are as they were
pub record Stores (i : ℕ) (t : Term) (w : ℕ) (room room' : List ℕ) : Type 0 where
  pub terms : terms_of room' ≡ set (terms_of room) i t
  pub words : words_of room' ≡ set (words_of room) i w
  pub rest : (n : ℕ) → i < n → drop (term_width * n) room' ≡ drop (term_width * n) room

-- ---- the index: for each hash, the places of the terms with it, from the last down

-- a parity's hash by four products, below 2 ^ 32
abbrev pub mix_of : ℕ → ℕ → ℕ
mix_of lo hi =
    xor (xor (lo % 2 ^ 32 * 2654435769) (lo / 2 ^ 32 * 2246822519)) (xor (hi % 2 ^ 32 * 3266489917) (hi / 2 ^ 32 * 668265263)) % 2 ^ 32

-- the same below n, the number of heads
unfoldable pub slot_of : ℕ → ℕ → ℕ
slot_of n v = mix_of (v % 2 ^ 64) (v / 2 ^ 64) * n / 2 ^ 32

-- 1 + the last place before m that f takes to h, or 0
unfoldable pub last_of : (ℕ → ℕ) → ℕ → ℕ → ℕ
last_of f h zero = zero
last_of f h (suc m) = cond (eqb (f m) h) (suc m) (last_of f h m)

-- a place that may be missing as a link has it: 1 + the place, or 0
abbrev pub link_of : Option ℕ → ℕ
link_of (Some i) = suc i
link_of None = zero

-- the n parities are apart; each place's link is the last one before it with its hash, each hash's head the last of all. A head that no parity has
-- may be any number
pub record Linked (f parity link head : ℕ → ℕ) (n : ℕ) : Type 0 where
  pub apart : (i j : ℕ) → i < j → j < n → parity i ≢ parity j
  pub links : (i : ℕ) → i < n → link i ≡ last_of (λ j. f (parity j)) (f (parity i)) i
  pub heads : (i : ℕ) → i < n → suc (head (f (parity i))) ≡ last_of (λ j. f (parity j)) (f (parity i)) n

-- the parity at a place of the room, and its link
abbrev pub parity_at : List ℕ → ℕ → ℕ
parity_at room i = (get_or (terms_of room) i no_term).parity

abbrev pub link_at : List ℕ → ℕ → ℕ
link_at room i = get_or (words_of room) i 0 / 8

-- the heads and the links are an index of the room's first n terms
pub record Indexed (heads room : List ℕ) (n : ℕ) : Type 0 where
  pub some : 0 < length heads
  pub few : length heads ≤ 2 ^ 32
  pub linked : Linked (slot_of (length heads)) (parity_at room) (link_at room) (λ h. get_or heads h 0) n

-- a room now begins with `new`, which is r terms, and has their index; the numbers behind them are as they were
pub record Adds (new : List Term) (r : ℕ) (room room' heads' : List ℕ) : Type 0 where
  pub begins : Begins new r r (terms_of room) (terms_of room')
  pub rest : drop (term_width * r) room' ≡ drop (term_width * r) room
  pub indexed : Indexed heads' room' r

-- what a test of the code says is what `keeps` says
abbrev pub Tells : (Entry → Bool → Type 0) → (Term → Bool) → Type 0
Tells says keeps = (e : Entry) (r : Bool) → says e r → r ≡ keeps (term_of e)

-- of the first `count` terms the r that `keeps` takes come first, in order, then the others, in some order
pub record Gathers (keeps : Term → Bool) (count : ℕ) (before : List Term) (r : ℕ) (after : List Term) : Type 0 where
  pub begins : Begins (filter keeps (take count before)) r count before after
  pub others : Shuffled (drop r (take count after)) (filter (λ t. not (keeps t)) (take count before))

-- terms split by a column: the r terms with it first, in order, then those without, in some order
pub record Sides (column : ℕ) (before after : List Term) (r : ℕ) : Type 0 where
  pub many : length (side true column before) ≡ r
  pub ones : take r after ≡ side true column before
  pub zeros : Shuffled (drop r after) (side false column before)

-- only the terms from `from` up to `to` are split
pub record SplitAt (column from to : ℕ) (before after : List Term) (r : ℕ) : Type 0 where
  pub part : List Term
  pub list : after ≡ take from before ++ (part ++ drop to before)
  pub sides : Sides column (take (to - from) (drop from before)) part r
