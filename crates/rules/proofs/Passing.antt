-- The pass over any writer: what it copies, what it replaces, and what that means stretch by stretch.
use mathlib.Core.Path.{◌≡◌, refl, sym, ap, ◌∙◌, subst, fun_ext}
use mathlib.Core.Logic.{◌≢◌, ◌⊎◌, inl, inr}
use mathlib.Core.Bool.{Bool, true, false, ◌&&◌, ◌||◌, cond, false≢true}
use mathlib.Core.List.{List, [], ◌∷◌, ◌++◌, map, append_assoc}
use Prim.Native.Nat.{ℕ, zero, suc, ◌+◌, ◌%◌, ◌≤◌, ◌<◌, zero-le}
use native.Mathlib.Nat.{le_refl}
use native.Mathlib.Omega.{arith}
use lib.ListN.{length, length-append}
use lib.Dec.{eqb, leb, ltb}
use borrow.Author.Tests.{eqb-true, leb-true, ltb-true}
use Rattle.rules.specs.Plan.{Plan}
use Rattle.rules.specs.Gate.{Gate}
use Rattle.rules.specs.Meaning.{Op, op, opaque, wires, phases, Alike}
use Rattle.rules.specs.Stretch.{Later, parts, Paired, Stretchwise, AlikeGates}
use Rattle.rules.specs.Counts.{twos, spends, ts, cheaper, Thrifty, unchanged, fewer, NoMoreT}
use Rattle.rules.specs.Fold.{Block, empty}
use Rattle.rules.specs.Synth.{block_of}
use Rattle.rules.specs.Scan.{takes, Piece, copied, block, closed, cut, pieces_of, text_of, Writer, Plain, Lawful, Sparing, chosen, replaces, finish, pass_by}
use Rattle.rules.specs.Promise.{Held, Changes, end, copy, keep, replace, Exactly}
use Rattle.rules.proofs.Bits.{split, and_left, and_right}
use Rattle.rules.proofs.Emitting.{wires-app, phases-app, map_app}

-- ---- the pieces are the list, cut up

pub plain-append : (us vs : List Gate) → Plain us → Plain vs → Plain (us ++ vs)
unfolding Plain
plain-append [] vs h k = k
plain-append (u ∷ us) vs h k = (h.0, plain-append us vs h.1 k)

-- the blocks hold gates of the fragment, at least one each
pub record Cuts (gs : List Gate) (ps : List Piece) : Type 0 where
  pub whole : text_of ps ≡ gs
  pub held : Held ps

closed-cuts : (run gs : List Gate) (ps : List Piece) → Plain run → Cuts gs ps → Cuts (run ++ gs) (closed run ps)
unfolding text_of Held
closed-cuts [] gs ps h k = k
closed-cuts (r ∷ run) gs ps h k = record { whole = ap (λ (l : List Gate). (r ∷ run) ++ l) k.whole; held = (((λ e. full e), h), k.held) }
  where
    full : (r ∷ run) ≡ [] → ⊥
    full e = let z : ◌≡◌ {A = ℕ} 0 1 = cc in omega arith

takes-plain : (p : Plan) (o : Op) (b : Block) → takes p o b ≡ true → opaque o ≡ false
unfolding takes
takes-plain p o b e = split (opaque o) (λ f. absurd (false≢true (rw f at e))) (λ f. f)

pub cut-cuts : (p : Plan) (run gs : List Gate) → Plain run → Cuts (run ++ gs) (cut p run gs)
unfolding cut text_of Held Plain
cut-cuts p run [] h = closed-cuts run [] [] h (record { whole = refl; held = tt })
cut-cuts p run (g ∷ gs) h =
    split (takes p (op g) (block_of run))
    (λ e. rw e (subst (λ (l : List Gate). Cuts l (cut p (run ++ (g ∷ [])) gs)) (append_assoc run (g ∷ []) gs)
    (cut-cuts p (run ++ (g ∷ [])) gs (plain-append run (g ∷ []) h (takes-plain p (op g) (block_of run) e, tt)))))
    (λ e. split (takes p (op g) empty)
    (λ f. rw (e, f) (closed-cuts run (g ∷ gs) (cut p (g ∷ []) gs) h (cut-cuts p (g ∷ []) gs (takes-plain p (op g) empty f, tt))))
    (λ f. rw (e, f) (closed-cuts run (g ∷ gs) (copied g ∷ cut p [] gs) h
    (let r = cut-cuts p [] gs tt in record { whole = ap (λ (l : List Gate). g ∷ l) r.whole; held = r.held }))))

pub pieces-cut : (p : Plan) (gs : List Gate) → Cuts gs (pieces_of p gs)
unfolding pieces_of Plain
pieces-cut p gs = cut-cuts p [] gs tt

-- ---- exactly

-- what is made of the pieces is what the rules say
finish-changes : (write : Writer) (ps : List Piece) → let r = finish write ps in Changes write ps r.gates r.blocks r.replaced
unfolding finish chosen replaces
finish-changes write [] = end
finish-changes write (copied g ∷ ps) = copy g (finish-changes write ps)
finish-changes write (block gs ∷ ps) =
    let more : 1 + (finish write ps).replaced ≡ suc (finish write ps).replaced = omega arith in
    let none : 0 + (finish write ps).replaced ≡ (finish write ps).replaced = omega arith in
    split (cheaper (write gs) gs)
    (λ e. rw (e, more) (replace gs e (finish-changes write ps)))
    (λ e. rw (e, none) (keep gs e (finish-changes write ps)))

-- and the rules allow nothing else
pub changes-finish : {write : Writer} {ps : List Piece} {out : List Gate} {m n : ℕ} → Changes write ps out m n
    → finish write ps ≡ record { gates = out; blocks = m; replaced = n }
unfolding finish chosen replaces
changes-finish end = refl
changes-finish (copy g c) = rw (changes-finish c)
changes-finish {n = n} (keep gs e c) = let none : 0 + n ≡ n = omega arith in rw (e, changes-finish c, none)
changes-finish (replace {n = n} gs e c) = let more : 1 + n ≡ suc n = omega arith in rw (e, changes-finish c, more)

full : {m : ℕ} (gs rest : List Gate) → gs ≢ [] → m ≤ length rest → suc m ≤ length (gs ++ rest)
full [] rest n l = absurd (n refl)
full (g ∷ gs) rest n l = omega (arith, length-append gs rest)

-- no more blocks are replaced than closed, and no more closed than there are gates
pub changes-few : {write : Writer} {ps : List Piece} {out : List Gate} {m n : ℕ} → Held ps → Changes write ps out m n → (n ≤ m) × (m ≤ length (text_of ps))
unfolding text_of Held
changes-few h end = (omega arith, omega arith)
changes-few h (copy g c) = let k = changes-few h c in (k.0, omega arith)
changes-few h (keep {ps} gs e c) = let k = changes-few h.1 c in (omega arith, full gs (text_of ps) h.0.0 k.1)
changes-few h (replace {ps} gs e c) = let k = changes-few h.1 c in (omega arith, full gs (text_of ps) h.0.0 k.1)

pub exactly : (write : Writer) (p : Plan) (gs : List Gate) → Exactly write p gs (pass_by write p gs)
unfolding pass_by
exactly write p gs = record { whole = (pieces-cut p gs).whole; held = (pieces-cut p gs).held; changes = finish-changes write (pieces_of p gs) }

-- ---- stretch by stretch, for any relation that holds of each block and goes through appending

pub record Joins (R : List Gate → List Gate → Type 0) : Type 0 where
  pub same : (us : List Gate) → R us us
  pub append : (us us' vs vs' : List Gate) → R us us' → R vs vs' → R (us ++ vs) (us' ++ vs')

pub chosen_plain : (write : Writer) (gs : List Gate) → (Plain gs → Plain (write gs)) → Plain gs → Plain (chosen write gs)
unfolding chosen
chosen_plain write gs w h = split (replaces write gs) (λ e. rw e (w h)) (λ e. rw e h)

parts-plain : (us vs : List Gate) → Plain us → parts (us ++ vs) ≡ record { first = us ++ (parts vs).first; rest = (parts vs).rest }
unfolding parts Plain
parts-plain [] vs h = refl
parts-plain (u ∷ us) vs h = rw (h.0, parts-plain us vs h.1)

module _ (write : Writer) (plain : (gs : List Gate) → Plain gs → Plain (write gs)) (R : List Gate → List Gate → Type 0) (joins : Joins R)
    (each : (gs : List Gate) → Plain gs → R (chosen write gs) gs) where
  finish-stretches : (ps : List Piece) → Held ps → Stretchwise R (finish write ps).gates (text_of ps)
  unfolding finish text_of Held parts
  finish-stretches [] h = record { first = joins.same []; rest = tt }
  finish-stretches (copied g ∷ ps) h =
      let ih = finish-stretches ps h in
      split (opaque (op g))
      (λ e. record { first = rw e (joins.same []); rest = rw e (refl, ih.first, ih.rest) })
      (λ e. record {
        first = rw e (joins.append (g ∷ []) (g ∷ []) (parts (finish write ps).gates).first (parts (text_of ps)).first (joins.same (g ∷ [])) ih.first);
        rest = rw e ih.rest;
      })
  finish-stretches (block gs ∷ ps) h =
      let ih = finish-stretches ps h.1 in
      let new : List Gate = chosen write gs in
      let rest : List Gate = (finish write ps).gates in
      let a = parts-plain new rest (chosen_plain write gs (plain gs) h.0.1) in
      let b = parts-plain gs (text_of ps) h.0.1 in
      record {
        first = rw (a, b) (joins.append new gs (parts rest).first (parts (text_of ps)).first (each gs h.0.1) ih.first);
        rest = rw (a, b) ih.rest;
      }

  pub pass-stretches : (p : Plan) (gs : List Gate) → Stretchwise R (pass_by write p gs).gates gs
  unfolding pass_by
  pass-stretches p gs =
      let c = pieces-cut p gs in
      subst (λ (l : List Gate). Stretchwise R (finish write (pieces_of p gs)).gates l) c.whole (finish-stretches (pieces_of p gs) c.held)

-- ---- acting alike

pub alike_refl : (us : List Op) → Alike us us
alike_refl us = record { same = λ s q. refl; constant = zero; phase = λ s. plus (phases us s) }
  where
    plus : (z : ℕ) → (zero + z) % 8 ≡ z % 8
    plus z = omega arith

alike-append : (us us' vs vs' : List Op) → Alike us us' → Alike vs vs' → Alike (us ++ vs) (us' ++ vs')
alike-append us us' vs vs' h k =
    record {
      same = λ s q.
          ap (λ (w : ℕ → Bool). w q) (wires-app us vs s) ∙ k.same (wires us s) q ∙ ap (λ (w : ℕ → Bool). wires vs' w q) (fun_ext (h.same s))
          ∙ ap (λ (w : ℕ → Bool). w q) (sym (wires-app us' vs' s));
      constant = h.constant + k.constant;
      phase = λ s.
          ap (λ (z : ℕ). (h.constant + k.constant + z) % 8) (phases-app us vs s)
          ∙ both h.constant k.constant (phases us s) (phases vs (wires us s)) (phases us' s) (phases vs' (wires us s)) (h.phase s) (k.phase (wires us s))
          ∙ ap (λ (w : ℕ → Bool). (phases us' s + phases vs' w) % 8) (fun_ext (h.same s))
          ∙ ap (λ (z : ℕ). z % 8) (sym (phases-app us' vs' s));
    }
  where
    both : (c d p q p' q' : ℕ) → (c + p) % 8 ≡ p' % 8 → (d + q) % 8 ≡ q' % 8 → (c + d + (p + q)) % 8 ≡ (p' + q') % 8
    both c d p q p' q' e f = omega arith

alike-joins : Joins AlikeGates
alike-joins =
    record {
      same = λ us. alike_refl (map op us);
      append = λ us us' vs vs' h k. rw (map_app op us vs, map_app op us' vs') (alike-append (map op us) (map op us') (map op vs) (map op vs') h k);
    }

-- every setting goes to the same setting, and the phases of a stretch differ by one number modulo 8
pub stretches : (write : Writer) → Lawful write → (p : Plan) (gs : List Gate) → Stretchwise AlikeGates (pass_by write p gs).gates gs
unfolding chosen
stretches write law p gs = pass-stretches write law.plain AlikeGates alike-joins each p gs
  where
    each : (gs : List Gate) → Plain gs → AlikeGates (chosen write gs) gs
    each gs h = split (replaces write gs) (λ e. rw e (law.alike gs h)) (λ e. rw e (alike_refl (map op gs)))

-- ---- cost

pub twos-append : (us vs : List Gate) → twos (us ++ vs) ≡ twos us + twos vs
unfolding twos
twos-append [] vs = omega arith
twos-append (u ∷ us) vs = omega (arith, twos-append us vs)

-- what `cheaper` says
pub cheaper-is : (new old : List Gate) → cheaper new old ≡ true → (length new ≤ length old) × (twos new ≤ twos old) × ((length new < length old) ⊎ (twos new < twos old))
unfolding cheaper
cheaper-is new old e =
    let total : leb (length new) (length old) ≡ true = and_left (leb (length new) (length old)) pair e in
    let h = two (and_right (leb (length new) (length old)) pair e) in
    (leb-true (length new) (length old) total, h.0, h.1)
  where
    pair : Bool
    pair = ltb (twos new) (twos old) || (eqb (twos new) (twos old) && ltb (length new) (length old))

    two : (ltb (twos new) (twos old) || (eqb (twos new) (twos old) && ltb (length new) (length old))) ≡ true
        → (twos new ≤ twos old) × ((length new < length old) ⊎ (twos new < twos old))
    two e =
        split (ltb (twos new) (twos old))
        (λ g. let l = ltb-true (twos new) (twos old) g in (omega arith, inr l))
        (λ g. split (eqb (twos new) (twos old))
        (λ h. let q = eqb-true (twos new) (twos old) h in (omega arith, inl (ltb-true (length new) (length old) (rw (g, h) at e))))
        (λ h. absurd (false≢true (rw (g, h) at e))))

-- no more gates, no more CNOT and CZ
pub thrifty-le : {new old : List Gate} → Thrifty new old → (length new ≤ length old) × (twos new ≤ twos old)
thrifty-le (unchanged e) = (omega (arith, ap length e), omega (arith, ap twos e))
thrifty-le (fewer l t s) = (l, t)

pub chosen-thrifty : (write : Writer) (gs : List Gate) → Thrifty (chosen write gs) gs
unfolding chosen replaces
chosen-thrifty write gs =
    split (cheaper (write gs) gs)
    (λ e. let c = cheaper-is (write gs) gs e in rw e (fewer c.0 c.1 c.2))
    (λ e. rw e (unchanged refl))

fewer-append : (us us' vs vs' : List Gate) → Thrifty us us' → Thrifty vs vs'
    → ((length us + length vs < length us' + length vs') ⊎ (twos us + twos vs < twos us' + twos vs')) → Thrifty (us ++ vs) (us' ++ vs')
fewer-append us us' vs vs' h k s =
    let a = thrifty-le h in
    let b = thrifty-le k in
    let e = length-append us vs in
    let e' = length-append us' vs' in
    let f = twos-append us vs in
    let f' = twos-append us' vs' in
    fewer (omega arith) (omega arith) (strict s)
  where
    strict : ((length us + length vs < length us' + length vs') ⊎ (twos us + twos vs < twos us' + twos vs'))
        → (length (us ++ vs) < length (us' ++ vs')) ⊎ (twos (us ++ vs) < twos (us' ++ vs'))
    strict (inl l) = inl (omega (arith, length-append us vs, length-append us' vs'))
    strict (inr l) = inr (omega (arith, twos-append us vs, twos-append us' vs'))

thrifty-append : (us us' vs vs' : List Gate) → Thrifty us us' → Thrifty vs vs' → Thrifty (us ++ vs) (us' ++ vs')
thrifty-append us us' vs vs' (unchanged e) (unchanged f) = unchanged (cc)
thrifty-append us us' vs vs' (unchanged e) (fewer l t (inl s)) =
    fewer-append us us' vs vs' (unchanged e) (fewer l t (inl s)) (inl (omega (arith, ap length e)))
thrifty-append us us' vs vs' (unchanged e) (fewer l t (inr s)) =
    fewer-append us us' vs vs' (unchanged e) (fewer l t (inr s)) (inr (omega (arith, ap twos e)))
thrifty-append us us' vs vs' (fewer l t (inl s)) k =
    let b = thrifty-le k in fewer-append us us' vs vs' (fewer l t (inl s)) k (inl (omega arith))
thrifty-append us us' vs vs' (fewer l t (inr s)) k =
    let b = thrifty-le k in fewer-append us us' vs vs' (fewer l t (inr s)) k (inr (omega arith))

-- each stretch is unchanged, or has no more gates, no more CNOT and CZ together, and fewer of one of these
pub stretch-by-stretch : (write : Writer) → ((gs : List Gate) → Plain gs → Plain (write gs)) → (p : Plan) (gs : List Gate) → Stretchwise Thrifty (pass_by write p gs).gates gs
stretch-by-stretch write plain p gs = pass-stretches write plain Thrifty (record { same = λ us. unchanged refl; append = thrifty-append }) each p gs
  where
    each : (gs : List Gate) → Plain gs → Thrifty (chosen write gs) gs
    each gs h = chosen-thrifty write gs

-- ---- T

pub ts-append : (us vs : List Gate) → ts (us ++ vs) ≡ ts us + ts vs
unfolding ts
ts-append [] vs = omega arith
ts-append (u ∷ us) vs = omega (arith, ts-append us vs)

-- no stretch spends more T than it did
pub spared : (write : Writer) → ((gs : List Gate) → Plain gs → Plain (write gs)) → Sparing write → (p : Plan) (gs : List Gate) → Stretchwise NoMoreT (pass_by write p gs).gates gs
unfolding chosen
spared write plain law p gs = pass-stretches write plain NoMoreT (record { same = λ us. le_refl (ts us); append = append }) each p gs
  where
    append : (us us' vs vs' : List Gate) → NoMoreT us us' → NoMoreT vs vs' → NoMoreT (us ++ vs) (us' ++ vs')
    append us us' vs vs' h k = omega (arith, ts-append us vs, ts-append us' vs')

    each : (gs : List Gate) → Plain gs → NoMoreT (chosen write gs) gs
    each gs h = split (replaces write gs) (λ e. rw e (law.spares gs h)) (λ e. rw e (le_refl (ts gs)))

-- the opaque gates and the stretches after them
unfoldable ts_later : List Later → ℕ
ts_later [] = zero
ts_later (a ∷ as') = cond (spends a.gate.code a.gate.turn) 1 0 + (ts a.stretch + ts_later as')

ts-parts : (gs : List Gate) → ts gs ≡ ts (parts gs).first + ts_later (parts gs).rest
unfolding ts ts_later parts
ts-parts [] = refl
ts-parts (g ∷ gs) = split (opaque (op g)) (λ e. rw e (omega (arith, ts-parts gs))) (λ e. rw e (omega (arith, ts-parts gs)))

ts-paired : (as' bs : List Later) → Paired NoMoreT as' bs → ts_later as' ≤ ts_later bs
unfolding ts_later
ts-paired [] [] h = zero-le
ts-paired [] (b ∷ bs) h = absurd h
ts-paired (a ∷ as') [] h = absurd h
ts-paired (a ∷ as') (b ∷ bs) h =
    omega (arith, ap {B = ℕ} (λ (g : Gate). cond (spends g.code g.turn) 1 0) h.0, h.1, ts-paired as' bs h.2)

-- so neither does the list: the gates between the stretches are the same
pub no_more : (new old : List Gate) → Stretchwise NoMoreT new old → NoMoreT new old
no_more new old h = omega (arith, ts-parts new, ts-parts old, h.first, ts-paired (parts new).rest (parts old).rest h.rest)
