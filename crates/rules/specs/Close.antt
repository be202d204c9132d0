-- The closing map: the CNOTs that take the wires from the parities they hold to those wanted.
use Rattle.std.specs.Prelude.{◌≡◌, Bool, true, false, not, ◌&&◌, cond, List, [], ◌∷◌, ◌++◌, map, reverse, ℕ, zero, suc, ◌-◌, ◌^◌, ◌<◌, length, get_or, set, eqb}
use Rattle.std.proofs.Math.Option.{Option, none, some}
use Rattle.rules.specs.Bit.{bit, xor, dot}
use Rattle.rules.specs.Walk.{Step, cn}

-- row a is added to row b
unfoldable pub add_to : ℕ → ℕ → List ℕ → List ℕ
add_to a b m = set m b (xor (get_or m b zero) (get_or m a zero))

-- rows a and b change places
unfoldable pub swap : ℕ → ℕ → List ℕ → List ℕ
swap a b m = set (set m a (get_or m b zero)) b (get_or m a zero)

-- the first of the k rows from r on that has the bit c
unfoldable pub first_with : ℕ → ℕ → ℕ → List ℕ → Option ℕ
unfolding bit
first_with c zero r m = none
first_with c (suc k) r m = let rest = first_with c k (suc r) m in cond (bit (get_or m r zero) c) (some r) rest

-- the unit rows from r on
unfoldable pub units : ℕ → ℕ → List ℕ
units zero r = []
units (suc k) r = 2 ^ r ∷ units k (suc r)

-- the sum of the rows of m that v selects: v times m; r is the index of m's first row
unfoldable pub times : ℕ → ℕ → List ℕ → ℕ
unfolding bit
times v r [] = zero
times v r (x ∷ xs) = let rest = times v (suc r) xs in cond (bit v r) (xor x rest) rest

-- what an inverse is: where the rows m make the values y of x, its rows make x again of y
pub record Inverts (m inv : List ℕ) : Type 0 where
  pub size : length inv ≡ length m
  pub undoes : (x y : ℕ → Bool) → ((i : ℕ) → i < length m → y i ≡ dot (length m) (get_or m i zero) x)
      → (i : ℕ) → i < length m → dot (length m) (get_or inv i zero) y ≡ x i

-- ---- the inverse: rows with, beside each, the row that becomes the inverse's

pub record Pairs : Type 0 where
  pub left : List ℕ
  pub right : List ℕ

-- the row c is added to the k rows from r on that have the bit c, c itself left out
unfoldable pub clear_both : ℕ → ℕ → ℕ → Pairs → Pairs
unfolding bit add_to
clear_both c zero r m = m
clear_both c (suc k) r m =
    clear_both c k (suc r) (cond (not (eqb r c) && bit (get_or m.left r zero) c) (record { left = add_to c r m.left; right = add_to c r m.right }) m)

-- go on with what was found
abbrev pub and_then : {A B : Type 0} → Option A → (A → Option B) → Option B
and_then none f = none
and_then (some a) f = f a

-- columns c .. c + k - 1 of n; none where a column has no pivot
unfoldable pub invert_from : ℕ → ℕ → ℕ → Pairs → Option (List ℕ)
unfolding first_with swap clear_both
invert_from n zero c m = some m.right
invert_from n (suc k) c m =
    and_then (first_with c (n - c) c m.left)
    (λ r. invert_from n k (suc c) (clear_both c n zero (record { left = swap c r m.left; right = swap c r m.right })))

-- the rows taken to the identity; what that makes of the identity is the inverse (`inverse-is`: it inverts)
unfoldable pub inverse : List ℕ → Option (List ℕ)
unfolding invert_from units
inverse rows = let n = length rows in invert_from n n zero (record { left = rows; right = units n zero })

-- ---- the row additions that take a map to the identity, in the order made

pub record Adds : Type 0 where
  pub rows : List ℕ
  pub adds : List Step

-- row a is added to row b, and that is noted
abbrev pub note : ℕ → ℕ → Adds → Adds
note a b m = record { rows = add_to a b m.rows; adds = m.adds ++ (cn a b ∷ []) }

-- row c is added to every other of the k rows from r on that has the bit c
unfoldable pub clear : ℕ → ℕ → ℕ → Adds → Adds
unfolding bit add_to
clear c zero r m = m
clear c (suc k) r m = clear c k (suc r) (cond (not (eqb r c) && bit (get_or m.rows r zero) c) (note c r m) m)

-- if the diagonal bit c is 0, the first lower row that has it is added
unfoldable pub diagonal : ℕ → ℕ → Adds → Option Adds
unfolding first_with add_to bit
diagonal n c m =
    let donor = and_then (first_with c (n - suc c) (suc c) m.rows) (λ r. some (note r c m)) in
    cond (bit (get_or m.rows c zero) c) (some m) donor

-- columns c .. c + k - 1 of n, ascending
unfoldable pub reduce_from : ℕ → ℕ → ℕ → Adds → Option Adds
unfolding diagonal clear
reduce_from n zero c m = some m
reduce_from n (suc k) c m = and_then (diagonal n c m) (λ d. reduce_from n k (suc c) (clear c n zero d))

unfoldable pub eq_rows : List ℕ → List ℕ → Bool
eq_rows [] [] = true
eq_rows [] (y ∷ ys) = false
eq_rows (x ∷ xs) [] = false
eq_rows (x ∷ xs) (y ∷ ys) = eqb x y && eq_rows xs ys

-- the map still needed: the wanted rows times the inverse of the rows held
abbrev pub needed : Option (List ℕ) → List ℕ → Option Adds
needed inv wanted = and_then inv (λ m. some (record { rows = map (λ v. times v zero m) wanted; adds = [] }))

-- nothing if the wires hold what is wanted; else the additions in reverse, each a CNOT from the added row to the changed one
unfoldable pub closing : List ℕ → List ℕ → Option (List Step)
unfolding eq_rows inverse times reduce_from
closing from wanted =
    let n = length wanted in
    let r = and_then (and_then (needed (inverse from) wanted) (λ m. reduce_from n n zero m)) (λ m. some (reverse m.adds)) in
    cond (eq_rows from wanted) (some []) r
