-- A node of one term is run down: the column that is chosen, the CNOTs from the highest column down, and where they lead.
use mathlib.Core.Path.{◌≡◌, refl, sym, ◌∙◌, subst}
use mathlib.Core.Logic.{◌≢◌}
use mathlib.Core.Bool.{Bool, true, false, true≢false}
use mathlib.Core.List.{List, [], ◌∷◌, ◌++◌}
use Prim.Native.Nat.{ℕ, ◌^◌, ◌<◌}
use native.Mathlib.Nat.{lt_of_not-le}
use native.Mathlib.Omega.{arith}
use lib.IntN.{ℤ}
use lib.ListN.{length, get_or}
use lib.Pow.{pow-lt}
use Rattle.std.specs.Prelude.{Option, Some, None}
use Rattle.rules.specs.Bit.{bit}
use Rattle.rules.specs.Fold.{Term}
use Rattle.rules.specs.Gate.{gate2, code_cnot}
use Rattle.rules.specs.Budget.{Budget}
use Rattle.rules.specs.Close.{add_to}
use Rattle.rules.specs.Walk.{cn, on, Node, leaf, held, node}
use Rattle.rules.specs.Synth.{emit}
use Rattle.rules.specs.Left.{tally, Leads, Stairs}
use Rattle.rules.specs.Shortcuts.{downs, run, any}
use Rattle.rules.proofs.Bits.{xor_lt}
use Rattle.rules.proofs.Walking.{rest-off, tally-rest}
use Rattle.rules.proofs.Machine.{cross_stack}
use Rattle.rules.proofs.Chain.{downs-next, leads-down, leads-taken}
use Rattle.parity.specs.declared.Parity.{Parity}
use Rattle.parity.specs.Columns.{Highest}
use Rattle.parity.proofs.Laws.{bit_high}
use Rattle.rows.specs.Rows.{rows_of}
use Rattle.rows.proofs.Room.{row_count}
use Rattle.emit.specs.Emitted.{Emits}
use Rattle.walk.specs.Stack.{aim_to, Peeled, Chosen}
use Rattle.walk.specs.Place.{Synthesized}
use Rattle.walk.proofs.Aims.{emit-cn}
use Rattle.walk.proofs.Making.{made_then, made-stop}

-- the row of the CNOT's target
pub added : (p t : ℕ) (m : List ℕ) → add_to p t m ≡ held (cn p t ∷ []) m
unfolding add_to held
added p t m = refl

-- rooms of one length have as many rows
pub rows_same : (xs ys : List Parity) → length xs ≡ length ys → length (rows_of xs) ≡ length (rows_of ys)
rows_same xs ys e = omega (arith, row_count xs, row_count ys)

-- a column of a number of n digits is below n
column-lt : (n v c : ℕ) → v < 2 ^ n → bit v c ≡ true → c < n
column-lt n v c l e = lt_of_not-le (λ h. true≢false (sym e ∙ bit_high v n c l h))

-- ---- the CNOT from the highest column of what is left of the mask

module _ (n mask c rest : ℕ) (l : mask < 2 ^ n) (s : mask ≢ 0) (h : Peeled mask c rest) where
  top : Highest mask c
  top = h.high.high (omega (arith, s))

  pub high_lt : c < n
  high_lt = column-lt n mask c l top.set

  pub rest_lt : rest < 2 ^ n
  rest_lt = rw h.rest (xor_lt n mask (2 ^ c) l (pow-lt high_lt))

  pub rest-fewer : tally n (bit rest) < tally n (bit mask)
  rest-fewer = rw h.rest (omega (arith, tally-rest n mask c high_lt top.set))

  pub rest-next : (t : ℕ) → downs n t mask ≡ (cn c t ∷ []) ++ downs n t rest
  rest-next t = rw h.rest (downs-next n t mask c high_lt top.set (λ j a _. top.above j a))

pub made-cn : (names : List ℕ) (p t x y : ℕ) (o : List ℤ) (b : Budget) (m : List ℕ) (o' : List ℤ) (b' : Budget) (m' : List ℕ) (w : Bool)
    → x ≡ get_or names p 0 → y ≡ get_or names t 0 → Emits (gate2 code_cnot x y ∷ []) o b o' b' w → m' ≡ add_to p t m → Synthesized names (cn p t ∷ []) o b m o' b' m' w
made-cn names p t x y o b m o' b' m' w e f k r = record { emits = rw (emit-cn names p t x y e f) k; rows = λ _. r ∙ added p t m }

-- ---- the column that is chosen

module _ (n live t mask : ℕ) (l : live < 2 ^ n) (s : live ≢ 0) where
  pub chosen-lt : (target : Option ℕ) → Chosen target live t mask → ((u : ℕ) → target ≡ Some u → u < n) → (t < n) × (mask < 2 ^ n)
  chosen-lt None c a = let k = c.taken refl in (high_lt n live t mask l s k, rest_lt n live t mask l s k)
  chosen-lt (Some u) c a = let k = c.given u refl in (rw k.0 (a u refl), rw k.1 l)

  -- it is not in the mask
  pub chosen-apart : (target : Option ℕ) → Chosen target live t mask → ((u : ℕ) → target ≡ Some u → bit live u ≡ false) → bit mask t ≡ false
  chosen-apart None c a = let k = c.taken refl in rw k.rest (rest-off live t (top n live t mask l s k).set)
  chosen-apart (Some u) c a = let k = c.given u refl in rw (k.0, k.1) (a u refl)

  -- where the node's steps lead
  pub chosen-leads : (target : Option ℕ) → Chosen target live t mask → (us : List Term) (st : List Node) → length us ≡ 1 → ((i : ℕ) → bit live i ≡ true → any i us ≡ true)
      → Stairs n (node live (aim_to target) us ∷ st) → Leads n (node live (aim_to target) us ∷ st) (run n t mask us) (cross_stack (run n t mask us) st)
  chosen-leads target c [] st one has h = absurd (omega arith)
  chosen-leads None c (e ∷ []) st one has h =
      let k = c.taken refl in
      let x = top n live t mask l s k in
      rw k.rest (leads-taken n e live st has t (high_lt n live t mask l s k) x.set (λ j a _. x.above j a) h)
  chosen-leads (Some u) c (e ∷ []) st one has h = let k = c.given u refl in rw (k.0, k.1) (leads-down n e live st has u h)
  chosen-leads target c (e ∷ f ∷ us) st one has h = absurd (omega arith)

-- ---- the CNOTs, and then the rotation

module _ (names : List ℕ) (t mask : ℕ) (us : List Term) (o : List ℤ) (b : Budget) (m : List ℕ) (o₁ : List ℤ) (b₁ : Budget) (m₁ : List ℕ) (w : Bool)
    (h : Synthesized names (downs (length names) t mask) o b m o₁ b₁ m₁ w) where
  pub run-spent : w ≡ false → Synthesized names (run (length names) t mask us) o b m o₁ b₁ m₁ w
  unfolding run
  run-spent e =
      subst (Synthesized names (run (length names) t mask us) o b m o₁ b₁ m₁) (sym e)
      (made-stop names (leaf (on t) us) (subst (Synthesized names (downs (length names) t mask) o b m o₁ b₁ m₁) e h))

  pub run-made : w ≡ true → (o₂ : List ℤ) (b₂ : Budget) (v : Bool) → Emits (emit names (leaf (on t) us)) o₁ b₁ o₂ b₂ v
      → Synthesized names (run (length names) t mask us) o b m o₂ b₂ m₁ v
  unfolding run held
  run-made e o₂ b₂ v k =
      made_then names (subst (Synthesized names (downs (length names) t mask) o b m o₁ b₁ m₁) e h)
      (record { emits = k; rows = λ _. refl })
