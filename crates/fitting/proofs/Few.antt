-- No count of a list passes its gates.
use mathlib.Core.Path.{◌≡◌, ap}
use mathlib.Core.List.{List, [], ◌∷◌}
use Prim.Native.Nat.{ℕ, ◌≤◌}
use native.Mathlib.Omega.{arith}
use lib.ListN.{length}
use Rattle.rules.specs.Gate.{Gate}
use Rattle.rules.specs.Plan.{plan_of}
use Rattle.rules.specs.Counts.{is_two, twos, spends, ts}
use Rattle.rules.specs.Pass.{writer_of, pass, counts}
use Rattle.rules.proofs.Bits.{split}
use Rattle.rules.proofs.Passing.{changes-few}
use Rattle.rules.proofs.Output.{output-length}
use Rattle.rules.proofs.Resynthesis.{promised}
use Rattle.cnot_min.specs.Minimizing.{counted}
use Rattle.cnot_min.specs.declared.Counts.{Counts}
use Rattle.spelling.specs.Sizes.{list_gates}
use Rattle.fitting.specs.Clauses.{Small}

twos-few : (gs : List Gate) → twos gs ≤ length gs
unfolding twos
twos-few [] = omega arith
twos-few (g ∷ gs) = split (is_two g.code) (λ e. rw e (omega (arith, twos-few gs))) (λ e. rw e (omega (arith, twos-few gs)))

ts-few : (gs : List Gate) → ts gs ≤ length gs
unfolding ts
ts-few [] = omega arith
ts-few (g ∷ gs) = split (spends g.code g.turn) (λ e. rw e (omega (arith, ts-few gs))) (λ e. rw e (omega (arith, ts-few gs)))

made-few : (q t : ℕ) (gs : List Gate) → length (pass q t gs).gates ≤ length gs
unfolding pass
made-few q t gs = let p = plan_of q t in output-length (writer_of p) p gs

pub counts-small : (c : Counts) (q t : ℕ) (gs : List Gate) → counted c ≡ counts gs (pass q t gs) → length gs ≤ list_gates → Small c
unfolding counts
counts-small c q t gs e h =
    let new : List Gate = (pass q t gs).gates in
    let m = made-few q t gs in
    let x = (promised q t gs).exactly in
    let few = changes-few x.held x.changes in
    record {
      gatesin = omega (arith, ap (λ k. k.gates_in) e);
      gatesout = omega (arith, ap (λ k. k.gates_out) e);
      twosin = omega (arith, ap (λ k. k.twos_in) e, twos-few gs);
      twosout = omega (arith, ap (λ k. k.twos_out) e, twos-few new);
      tin = omega (arith, ap (λ k. k.t_in) e, ts-few gs);
      tout = omega (arith, ap (λ k. k.t_out) e, ts-few new);
      blocks = omega (arith, ap (λ k. k.blocks) e, ap length x.whole);
      replaced = omega (arith, ap (λ k. k.replaced) e, ap length x.whole);
    }
