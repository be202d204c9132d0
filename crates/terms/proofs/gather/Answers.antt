-- `terms::gather` meets its contract, by a round of the sieve.
use Rattle.std.proofs.Common.{◌≡◌, ◌≤◌, ◌∙◌, Bool, true, false, cond, refl, arith}
use Rattle.terms.proofs.Sieve.{sieve-none, sieve-round, sieve-all}
use Rattle.terms.proofs.gather.Goals as goal

-- a test as a number
digit : (b : Bool) → (mir.Val.bool_byte b ≡ cond b 1 0) × (mir.Val.bool_byte b ≤ 1)
digit true = (refl, omega arith)
digit false = (refl, omega arith)

pub loop-k-init : goal.loop-k-init
loop-k-init g c = record { behind = omega arith; size = refl; sieved = λ keeps tells. sieve-none keeps _ }

pub loop-k-preserved : goal.loop-k-preserved
loop-k-preserved g c =
    let d = digit c.keep.result in record {
      behind = omega arith;
      size = c.exchange.auto.room ∙ c.loop-k.invariant.size;
      sieved = λ keeps tells.
          rw (d.0, c.exchange.ensures) (sieve-round keeps _ _ _ _ (c.loop-k.invariant.sieved keeps tells) _ c.keep.result (omega arith) c.get-e.ensures (tells _ _ c.keep.ensures));
    }

pub returns : goal.returns
returns g c =
    let e : c.loop-k.k ≡ c.args.count = omega arith in
    λ keeps tells. rw e at (sieve-all keeps _ _ _ _ (c.loop-k.invariant.sieved keeps tells))
