-- A part of a room that is lent from one term to another and comes back.
--     part-terms    the terms of the part
--     part-back     the terms of the room when it is back
--     part-split    where it comes back split
use mathlib.Core.Path.{◌≡◌, ap, ap₂, ◌∙◌}
use mathlib.Core.List.{List, ◌++◌}
use Prim.Native.Nat.{ℕ, ◌+◌, ◌-◌, ◌*◌, ◌≤◌}
use native.Mathlib.Omega.{arith}
use lib.ListN.{length, take, drop, length-drop}
use lib.Seq.{drop-drop, length-take-le}
use borrow.Rule.Slice.PartMut.{put_mid}
use Rattle.rules.specs.Fold.{Term}
use Rattle.terms.specs.Terms.{terms_of, Sides, SplitAt}
use Rattle.terms.proofs.Room.{room-length, room_take, room_drop, room-append}

module _ (from to : ℕ) (xs : List ℕ) (l : from ≤ to) (m : to ≤ length (terms_of xs)) where
  gap : 3 * to - 3 * from ≡ 3 * (to - from)
  gap = omega arith

  pub part-terms : terms_of (take (3 * to - 3 * from) (drop (3 * from) xs)) ≡ take (to - from) (drop from (terms_of xs))
  part-terms =
      let d : terms_of (drop (3 * from) xs) ≡ drop from (terms_of xs) = room_drop from xs (omega arith) in
      let n : length (terms_of (drop (3 * from) xs)) ≡ length (terms_of xs) - from = ap length d ∙ length-drop from (terms_of xs) in
      rw gap (room_take (to - from) (drop (3 * from) xs) (omega arith) ∙ ap (take (to - from)) d)

  pub part-back : (ys : List ℕ) → length ys ≡ length (take (3 * to - 3 * from) (drop (3 * from) xs))
      → terms_of (put_mid (3 * from) (3 * to - 3 * from) xs ys) ≡ take from (terms_of xs) ++ (terms_of ys ++ drop to (terms_of xs))
  part-back ys e =
      let c = room-length xs in
      let h : length (take (3 * from) xs) ≡ 3 * from = length-take-le (3 * from) xs (omega arith) in
      let g : length ys ≡ 3 * (to - from) = e ∙ length-take-le (3 * to - 3 * from) (drop (3 * from) xs) (simp length-drop (omega arith)) ∙ gap in
      let k : 3 * from + (3 * to - 3 * from) ≡ 3 * to = omega arith in
      let z : drop (3 * to - 3 * from) (drop (3 * from) xs) ≡ drop (3 * to) xs = drop-drop (3 * to - 3 * from) (3 * from) xs ∙ ap (λ (j : ℕ). drop j xs) k in
      room-append from (take (3 * from) xs) _ h
      ∙ ap₂ (λ (a b : List Term). a ++ b) (room_take from xs (omega arith))
      (room-append (to - from) ys _ g ∙ ap (λ (a : List Term). terms_of ys ++ a) (ap terms_of z ∙ room_drop to xs m))

  pub part-split : (column r : ℕ) (ys : List ℕ) → length ys ≡ length (take (3 * to - 3 * from) (drop (3 * from) xs))
      → Sides column (terms_of (take (3 * to - 3 * from) (drop (3 * from) xs))) (terms_of ys) r
      → SplitAt column from to (terms_of xs) (terms_of (put_mid (3 * from) (3 * to - 3 * from) xs ys)) r
  part-split column r ys e s = record { part = terms_of ys; list = part-back ys e; sides = rw part-terms at s }
