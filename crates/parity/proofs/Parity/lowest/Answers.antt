-- `parity::Parity::lowest` meets its contract.
use mathlib.Core.Path.{◌≡◌, sym, ap, ◌∙◌, subst}
use Prim.Native.Nat.{ℕ, ◌+◌, ◌*◌, ◌^◌, ◌<◌}
use native.Mathlib.Omega.{arith}
use borrow.Author.Rules.{rules}
use lib.Count.{count_trailing_zeros}
use Rattle.parity.specs.declared.Parity.{Parity}
use Rattle.parity.specs.Columns.{Lowest, LowestIs}
use Rattle.parity.specs.View.{val}
use Rattle.parity.proofs.Laws as Laws
use Rattle.parity.proofs.Words.{low-trailing, high-trailing}
use Rattle.parity.proofs.Parity.lowest.Goals as goal

-- the record, from the exact number
lowest-is : (p : Parity) (r : ℕ) → p.hi < 2 ^ 64 → p.lo < 2 ^ 64 → r ≡ count_trailing_zeros 128 (val p) → LowestIs (val p) r
lowest-is p r h l e =
    let at : (0 < val p → (count_trailing_zeros 128 (val p) < 128) × Lowest (val p) (count_trailing_zeros 128 (val p))) = λ q. Laws.lowest 128 (val p) q (Laws.val-lt p h l) in
    record { exact = e; low = λ q. subst (Lowest (val p)) (sym e) (at q).1; small = λ q. subst (λ (x : ℕ). x < 128) (sym e) (at q).0 }

pub returns-then-self-eq0 : goal.returns-then-self-eq0
returns-then-self-eq0 c =
    let s = c.args.self in
    let e : s.hi * 2 ^ 64 ≡ s.hi * 2 ^ 64 + s.lo = omega arith in
    lowest-is s _ (search rules) (search rules) (sym (high-trailing 64 64 s.hi) ∙ ap (count_trailing_zeros 128) e)

pub returns-else-self-eq0 : goal.returns-else-self-eq0
returns-else-self-eq0 c =
    let s = c.args.self in
    lowest-is s _ (search rules) (search rules) (sym (low-trailing 64 64 s.hi s.lo (omega arith) (search rules)))
