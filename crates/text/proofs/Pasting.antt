-- What is written into a room, one by one and one after another.
use mathlib.Core.Path.{◌≡◌, refl, sym, ap, ◌∙◌}
use mathlib.Core.Bool.{true, false, true≢false}
use mathlib.Core.List.{List, [], ◌∷◌, ◌++◌, append_assoc, append-nil}
use Prim.Native.Nat.{ℕ, suc, ◌+◌, ◌-◌, ◌≤◌, ◌<◌}
use native.Mathlib.Nat.{add-zero}
use native.Mathlib.Numerals.{add-one}
use native.Mathlib.Omega.{arith}
use borrow.Author.Tests.{ltb-true}
use lib.ListN.{length, get_or, take, drop, set, length-append, length-take, length-drop, take-append-drop}
use Rattle.std.proofs.lemmas.List.{set-append_left}
use lib.Seq.{take-set-lt, drop-cons, take_at, drop_at, drop-drop, set_split, take-suc-set, take-set-le, drop-set-lt}
use lib.IntN.{ℤ, pos, negsuc}
use Rattle.text.specs.Bytes.{minus, pasted}
use Rattle.std.specs.Prelude.{unsigned_abs}
use Rattle.std.specs.Int.{is_negative}
use Rattle.text.specs.Printing.{decimal, printed}
use Rattle.text.specs.Clauses.{Writes}

module _ {A : Type 0} (room : List A) (at : ℕ) where
  pub length-pasted : (new : List A) → at + length new ≤ length room → length (pasted room at new) ≡ length room
  length-pasted new h = simp (length-append, length-take, length-drop) (omega arith)

  pub pasted-none : pasted room at [] ≡ room
  pasted-none = rw (add-zero, append-nil) (take-append-drop at room)

  -- one in front of the others
  pub pasted-front : (b : A) (new : List A) → at < length room → pasted (set room at b) (at + 1) new ≡ pasted room at (b ∷ new)
  pasted-front b new h =
      let k : at + 1 + length new ≡ at + suc (length new) = omega arith in
      rw (k, drop-set-lt (at + suc (length new)) room at b (omega arith), add-one at, take-suc-set room at b h) (simp append_assoc)

  pub pasted-one : (b : A) → at < length room → set room at b ≡ pasted room at (b ∷ [])
  pasted-one b h = set_split room at b h ∙ rw (add-one at) (simp append_assoc)

  -- what is written over doesn't show
  pub pasted-over : (b : A) (new : List A) → 1 ≤ length new → pasted (set room at b) at new ≡ pasted room at new
  pasted-over b new h = rw (take-set-le at room at b (omega arith), drop-set-lt (at + length new) room at b (omega arith))

  -- one thing behind another
  pub pasted-both : (a b : List A) → at + length a + length b ≤ length room → pasted (pasted room at a) (at + length a) b ≡ pasted room at (a ++ b)
  pasted-both a b h =
      let j : ℕ = at + length a in
      let l : length (take at room ++ a) ≡ j = simp (length-append, length-take) (omega arith) in
      let t : take j (pasted room at a) ≡ take at room ++ a = take_at (take at room ++ a) (drop j room) j l in
      let d : drop (j + length b) (pasted room at a) ≡ drop (j + length b) room =
      sym (drop-drop (length b) j (pasted room at a)) ∙ rw (drop_at (take at room ++ a) (drop j room) j l) (drop-drop (length b) j room) in
      let k : at + length (a ++ b) ≡ j + length b = simp length-append (omega arith) in
      rw (t, d, k) (simp append_assoc)

pub writes-size : (new room : List ℕ) (at : ℕ) (room' : List ℕ) (next : ℕ) → at + length new ≤ length room → Writes new room at room' next → length room' ≡ length room
writes-size new room at room' next h w = ap length w.text ∙ length-pasted room at new h

-- where there is room for both, there is room for the first, and then for the second
pub room-first : (a b : List ℕ) (at room : ℕ) → at + length (a ++ b) ≤ room → at + length a ≤ room
room-first a b at room h = omega (arith, length-append a b)

pub room-second : (a b room : List ℕ) (at : ℕ) (room' : List ℕ) (next : ℕ) → at + length (a ++ b) ≤ length room → Writes a room at room' next → next + length b ≤ length room'
room-second a b room at room' next h w =
    omega (arith, length-append a b, w.behind, writes-size a room at room' next (room-first a b at (length room) h) w)

pub writes-both : (a b room : List ℕ) (at : ℕ) (room' : List ℕ) (next : ℕ) (room'' : List ℕ) (last : ℕ) → at + length (a ++ b) ≤ length room
    → Writes a room at room' next → Writes b room' next room'' last → Writes (a ++ b) room at room'' last
writes-both a b room at room' next room'' last h p q = record {
  text = q.text ∙ rw (p.text, p.behind) (pasted-both room at a b (omega (arith, length-append a b)));
  behind = rw (q.behind, p.behind) (simp length-append (omega arith));
}

-- ---- digits from the last on

pub set_pasted : (room new : List ℕ) (j b : ℕ) → j + 1 + length new ≤ length room → set (pasted room (j + 1) new) j b ≡ pasted room j (b ∷ new)
set_pasted room new j b h =
    let front : List ℕ = take (j + 1) room in
    let behind : List ℕ = drop (j + 1 + length new) room in
    let in_front : j < length front = omega (arith, length-take (j + 1) room) in
    let within : j < length (front ++ new) = omega (arith, length-append front new) in
    set-append_left (front ++ new) behind j b within
    ∙ ap (λ (l : List ℕ). l ++ behind) (set-append_left front new j b in_front)
    ∙ rw (← take-set-lt (j + 1) room j b (omega arith), ← drop-set-lt (j + 1 + length new) room j b (omega arith)) (pasted-front room j b new (omega arith))

-- the last of some bytes, in front of those that stand
pub last_before : (room bs : List ℕ) (at i m b : ℕ) → i ≡ at + suc m → m < length bs → at + length bs ≤ length room → b ≡ get_or bs m 0
    → set (pasted room i (drop (i - at) bs)) (i - 1) b ≡ pasted room (i - 1) (drop m bs)
last_before room bs at i m b is h fits e =
    let j : ℕ = i - 1 in
    let more : i - at ≡ suc m = omega arith in
    let next : i ≡ j + 1 = omega arith in
    rw (more, drop-cons bs m 0 h, ← e)
    (ap (λ (k : ℕ). set (pasted room k (drop (suc m) bs)) j b) next ∙ set_pasted room (drop (suc m) bs) j b (omega (arith, length-drop (suc m) bs)))

-- ---- the sign

pub printed-below : (v : ℤ) → is_negative v ≡ true → printed v ≡ minus ∷ decimal (unsigned_abs v)
unfolding printed
printed-below (pos n) h = absurd (omega (arith, ltb-true n 0 h))
printed-below (negsuc n) h = refl

pub printed-above : (v : ℤ) → is_negative v ≡ false → printed v ≡ decimal (unsigned_abs v)
unfolding printed
printed-above (pos n) h = refl
printed-above (negsuc n) h = absurd (true≢false h)
