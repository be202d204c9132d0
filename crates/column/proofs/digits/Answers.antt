use mathlib.Core.Path.{◌≡◌, subst}
use Prim.Native.Nat.{ℕ, ◌-◌, ◌^◌, ◌<◌}
use native.Mathlib.Omega.{arith}
use borrow.Author.Rules.{rules}
use lib.Count.{count_leading_zeros, leading_le, leading_length}
use Rattle.column.proofs.digits.Goals as goal

room : (n : ℕ) → n < 2 ^ 64 → n < 2 ^ (64 - count_leading_zeros 64 n)
room n h =
    let m = leading_length 64 n h in
    let e : m.0 ≡ 64 - count_leading_zeros 64 n = omega (arith, m.1) in
    subst (λ (z : ℕ). n < 2 ^ z) e m.2

pub returns : goal.returns
returns c = (room c.args.n (search rules), omega (arith, leading_le 64 c.args.n))
