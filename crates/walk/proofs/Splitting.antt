-- A part of the terms split in place: the two sides, and what stands before them.
use mathlib.Core.Path.{◌≡◌, sym, ap, ◌∙◌, subst}
use mathlib.Core.Bool.{true, false}
use mathlib.Core.List.{List, ◌++◌, append_assoc}
use Prim.Native.Nat.{ℕ, ◌+◌, ◌-◌, ◌*◌, ◌≤◌, ◌<◌}
use native.Mathlib.Omega.{arith}
use lib.ListN.{length, take, drop, length-append, length-drop, length-take}
use lib.Seq.{slice, length-take-le, length-slice, take-append-le, take-append-add, drop-append-add, take_at, drop_at}
use Rattle.rules.specs.Fold.{Term}
use Rattle.rules.specs.Walk.{side}
use Rattle.rules.specs.Order.{Shuffled}
use Rattle.rules.proofs.Machine.{length-sides}
use Rattle.rules.proofs.Shuffling.{shuffled-length}
use Rattle.terms.specs.Terms.{terms_of, Sides, SplitAt}
use Rattle.terms.proofs.Parts.{part-terms}
use Rattle.walk.proofs.Stacks.{slice-part}

-- a lent part of the room, as a part of its terms
pub room-slice : (a e : ℕ) (xs : List ℕ) → a ≤ e → e ≤ length (terms_of xs) → terms_of (take (3 * e - 3 * a) (drop (3 * a) xs)) ≡ slice a e (terms_of xs)
room-slice a e xs l m = part-terms a e xs l m ∙ slice-part a e (terms_of xs)

pub room-some : (a e : ℕ) (xs : List ℕ) → a < e → e ≤ length (terms_of xs) → 0 < length (terms_of (take (3 * e - 3 * a) (drop (3 * a) xs)))
room-some a e xs l m = rw (room-slice a e xs (omega arith) m) (omega (arith, length-slice a e (terms_of xs) m))

module _ (c a e : ℕ) (ts us : List Term) (r : ℕ) (l : a ≤ e) (m : e ≤ length ts) (s : SplitAt c a e ts us r) where
  sides : Sides c (slice a e ts) s.part r
  sides = rw (slice-part a e ts) at s.sides

  ones_in : r ≤ length s.part
  ones_in = omega (arith, length-take r s.part, ap length sides.ones, sides.many)

  long : length s.part ≡ e - a
  long = omega (arith, ones_in, length-drop r s.part, shuffled-length sides.zeros, length-sides c (slice a e ts), sides.many, length-slice a e ts m)

  head : length (take a ts) ≡ a
  head = length-take-le a ts (omega arith)

  -- the ones are within the part
  pub split-fits : a + r ≤ e
  split-fits = omega (arith, ones_in, long)

  pub split-front : take a us ≡ take a ts
  split-front = ap (take a) s.list ∙ take_at (take a ts) _ a head

  whole : take e us ≡ take a ts ++ s.part
  whole =
      ap (take e) (s.list ∙ sym (append_assoc (take a ts) s.part (drop e ts)))
      ∙ take_at (take a ts ++ s.part) (drop e ts) e (length-append (take a ts) s.part ∙ omega (arith, head, long))

  -- behind them, those without, in some order
  pub split-zeros : Shuffled (slice (a + r) e us) (side false c (slice a e ts))
  split-zeros =
      let f : slice (a + r) e us ≡ drop r s.part =
      ap (drop (a + r)) whole ∙ ap (λ (k : ℕ). drop (k + r) (take a ts ++ s.part)) (sym head) ∙ drop-append-add (take a ts) s.part r in
      subst (λ (x : List Term). Shuffled x (side false c (slice a e ts))) (sym f) sides.zeros

  -- first those with the column, in order
  pub split-ones : slice a (a + r) us ≡ side true c (slice a e ts)
  split-ones =
      let f : take (a + r) us ≡ take a ts ++ take r (s.part ++ drop e ts) =
      ap (take (a + r)) s.list ∙ ap (λ (k : ℕ). take (k + r) (take a ts ++ (s.part ++ drop e ts))) (sym head) ∙ take-append-add (take a ts) (s.part ++ drop e ts) r in
      ap (drop a) f ∙ drop_at (take a ts) (take r (s.part ++ drop e ts)) a head ∙ take-append-le r s.part (drop e ts) ones_in ∙ sides.ones
