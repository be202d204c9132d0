-- How long printed numbers are, and things printed one behind another.
use mathlib.Core.List.{List, [], ◌∷◌, ◌++◌}
use Prim.Native.Nat.{ℕ, suc, ◌+◌, ◌^◌, ◌≤◌, ◌<◌}
use native.Mathlib.Omega.{arith}
use lib.IntN.{ℤ, pos, negsuc}
use lib.ListN.{length, length-append}
use mir.Syntax.{w32}
use mir.Val.{SFits}
use Rattle.text.specs.Bytes.{lf}
use Rattle.text.specs.Printing.{decimal, printed, ended_text, line_text, spaced_text}
use Rattle.text.specs.Clauses.{Prints, line_size, number_size}
use Rattle.text.proofs.Decimals.{decimal-long}
use Rattle.text.proofs.Pasting.{writes-size, writes-both}

-- ---- sizes

pub decimal-short : (n : ℕ) → n < 2 ^ 32 → length (decimal n) ≤ 10
decimal-short n h = decimal-long 9 n (omega arith)

pub line-short : (n : ℕ) → n < 2 ^ 32 → length (line_text n) ≤ line_size
unfolding line_text
line-short n h = omega (arith, length-append (decimal n) (lf ∷ []), decimal-short n h)

pub spaced-short : (n : ℕ) → n < 2 ^ 32 → length (spaced_text n) ≤ line_size
unfolding spaced_text
spaced-short n h = omega (arith, decimal-short n h)

-- a number of 32 signed bits
printed-short : (v : ℤ) → SFits w32 v → length (printed v) ≤ 11
unfolding printed
printed-short (pos n) h = omega (arith, decimal-short n (omega (arith, h.sfits)))
printed-short (negsuc n) h = omega (arith, decimal-short (suc n) (omega (arith, h.sfits)))

pub ended-short : (end : ℕ) (v : ℤ) → SFits w32 v → length (ended_text end v) ≤ number_size
unfolding ended_text
ended-short end v h = omega (arith, length-append (printed v) (end ∷ []), printed-short v h)

-- ---- one behind another

module _ (m n : ℕ) (a room : List ℕ) (at : ℕ) (room' : List ℕ) (next : ℕ) (h : at + (m + n) ≤ length room) (p : Prints m a room at room' next) where
  pub prints-next : next + n ≤ length room'
  prints-next = omega (arith, p.writes.behind, p.short, writes-size a room at room' next (omega (arith, p.short)) p.writes)

  pub prints-both : (b room'' : List ℕ) (last : ℕ) → Prints n b room' next room'' last → Prints (m + n) (a ++ b) room at room'' last
  prints-both b room'' last q = record {
    writes = writes-both a b room at room' next room'' last (omega (arith, length-append a b, p.short, q.short)) p.writes q.writes;
    short = omega (arith, length-append a b, p.short, q.short);
  }
