-- `parity::Parity::highest` meets its contract.
use mathlib.Core.Path.{◌≡◌, sym, ap, ◌∙◌, subst}
use Prim.Native.Nat.{ℕ, ◌+◌, ◌-◌, ◌^◌, ◌<◌}
use native.Mathlib.Omega.{arith}
use borrow.Author.Rules.{rules}
use lib.Count.{count_leading_zeros, leading_of_zero}
use Rattle.parity.specs.declared.Parity.{Parity}
use Rattle.parity.specs.Columns.{Highest, HighestIs}
use Rattle.parity.specs.View.{val}
use Rattle.parity.proofs.Laws as Laws
use Rattle.parity.proofs.Words.{no-high, low-leading, high-leading}
use Rattle.parity.proofs.Parity.highest.Goals as goal

-- the record, from the exact number
highest-is : (p : Parity) (r : ℕ) → p.hi < 2 ^ 64 → p.lo < 2 ^ 64 → r ≡ 127 - count_leading_zeros 128 (val p) → HighestIs (val p) r
highest-is p r h l e =
    record {
      exact = e;
      high = λ q. subst (Highest (val p)) (sym e) (Laws.highest 128 (val p) q (Laws.val-lt p h l));
      small = omega arith;
    }

low-place : (a b : ℕ) → 64 + a ≡ b → 63 - a ≡ 127 - b
low-place a b e = omega arith

pub returns-then-self-ne0 : goal.returns-then-self-ne0
returns-then-self-ne0 c =
    let s = c.args.self in
    highest-is s _ (search rules) (search rules) (ap (λ (z : ℕ). 127 - z) (high-leading 64 64 s.hi s.lo (omega arith) (search rules) (search rules)))

pub returns-then-self-ne0-2 : goal.returns-then-self-ne0-2
returns-then-self-ne0-2 c =
    let s = c.args.self in
    let e : 64 + count_leading_zeros 64 s.lo ≡ count_leading_zeros 128 (val s) = low-leading 64 64 s.lo (search rules) ∙ sym (ap (count_leading_zeros 128) (no-high 64 s.hi s.lo (omega arith))) in
    highest-is s _ (search rules) (search rules) (low-place (count_leading_zeros 64 s.lo) (count_leading_zeros 128 (val s)) e)

pub returns-else-self-ne0-2 : goal.returns-else-self-ne0-2
returns-else-self-ne0-2 c =
    let s = c.args.self in
    let e : val s ≡ 0 = no-high 64 s.hi s.lo (omega arith) ∙ omega arith in
    highest-is s _ (search rules) (search rules) (sym (ap (λ (n : ℕ). 127 - count_leading_zeros 128 n) e ∙ ap (λ (z : ℕ). 127 - z) (leading_of_zero 128)))
