-- The answer from the two tables and the test of the turns.
use mathlib.Core.Path.{◌≡◌, ap, ◌∙◌}
use mathlib.Core.Bool.{true, false}
use mathlib.Core.List.{List, map}
use Prim.Native.Nat.{ℕ, zero, suc, ◌+◌, ◌/◌, ◌<◌, suc-le-suc, zero-le}
use native.Mathlib.Omega.{arith}
use lib.IntN.{ℤ}
use lib.ListN.{length}
use lib.Dec.{eqb}
use Rattle.rules.specs.Limits.{width}
use Rattle.rules.specs.Meaning.{op}
use Rattle.rules.specs.Close.{eq_rows}
use Rattle.rules.specs.Numbers.{gate_at, gates_from, gates_of}
use Rattle.rules.specs.Refusal.{fault_at}
use Rattle.rules.proofs.Accepting.{fit_at}
use Rattle.acting.specs.Alike.{AllBelow, first, alike, map_differs, flips_differ, phase_differs, verdict}
use Rattle.acting.specs.Table.{Table, begin, table_of, map_of, flips_of, apart, quiet, computed}
use Rattle.acting.proofs.Gates.{code_below}
use Rattle.acting.proofs.Computing.{computed-verdict}
use Rattle.compare.specs.View.{ops_of, Fine}
use Rattle.compare.proofs.Acting.{table}

below-from : (l : List ℤ) (w n i : ℕ) → ((j : ℕ) → j < n → (fault_at l w zero (i + j)).number ≡ 0) → AllBelow w (map op (gates_from l n i))
unfolding AllBelow gates_from op
below-from l w zero i h = tt
below-from l w (suc n) i h =
    let z : i + zero ≡ i = omega arith in
    let f = fit_at l w zero i (rw z at (h zero (suc-le-suc zero-le))) in (
      code_below w (gate_at l i).code (gate_at l i).first (gate_at l i).second (gate_at l i).turn f.first-in f.second-in,
      below-from l w n (suc i) (λ j hj. let e : i + suc j ≡ suc i + j = omega arith in rw e at (h (suc j) (suc-le-suc hj))),
    )

pub fine-below : (l : List ℤ) (w : ℕ) → Fine l w → AllBelow w (ops_of l)
unfolding ops_of gates_of
fine-below l w f = below-from l w (length l / width) zero (λ j hj. let z : zero + j ≡ j = omega arith in rw z (f.sound j hj))

module _ (w : ℕ) (us vs : List ℤ) (fu : Fine us w) (fv : Fine vs w) (ha hb : List ℕ) (fa fb : ℕ)
    (ta : table ha fa ≡ table_of (ops_of us) (begin w)) (tb : table hb fb ≡ table_of (ops_of vs) (begin w)) where
  told_is : first (eq_rows ha hb) (eqb fa fb) (quiet w (apart w (ops_of us) (ops_of vs))) ≡ verdict w (ops_of us) (ops_of vs)
  unfolding computed map_of flips_of
  told_is =
      ap (λ (t : Table). first (eq_rows t.held hb) (eqb t.flips fb) (quiet w (apart w (ops_of us) (ops_of vs)))) ta
      ∙ ap (λ (t : Table). first (eq_rows (map_of w (ops_of us)) t.held) (eqb (flips_of w (ops_of us)) t.flips) (quiet w (apart w (ops_of us) (ops_of vs)))) tb
      ∙ computed-verdict w (ops_of us) (ops_of vs) (fine-below us w fu) (fine-below vs w fv)

  pub say-map : eq_rows ha hb ≡ false → map_differs ≡ verdict w (ops_of us) (ops_of vs)
  say-map e = rw e at told_is

  pub say-flips : eq_rows ha hb ≡ true → eqb fa fb ≡ false → flips_differ ≡ verdict w (ops_of us) (ops_of vs)
  say-flips e f = rw (e, f) at told_is

  pub say-alike : eq_rows ha hb ≡ true → eqb fa fb ≡ true → quiet w (apart w (ops_of us) (ops_of vs)) ≡ true → alike ≡ verdict w (ops_of us) (ops_of vs)
  say-alike e f g = rw (e, f, g) at told_is

  pub say-phase : eq_rows ha hb ≡ true → eqb fa fb ≡ true → quiet w (apart w (ops_of us) (ops_of vs)) ≡ false → phase_differs ≡ verdict w (ops_of us) (ops_of vs)
  say-phase e f g = rw (e, f, g) at told_is
