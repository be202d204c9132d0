-- A slot's target and what it owes as document 01's aim, and the turn of a node by its aim.
use mathlib.Core.Path.{◌≡◌, refl, sym, ap, ◌∙◌}
use mathlib.Core.Logic.{◌≢◌}
use mathlib.Core.Bool.{true, false, true≢false}
use mathlib.Core.List.{List, [], ◌∷◌, append-nil}
use Prim.Native.Nat.{ℕ, ◌%◌, ◌^◌, ◌<◌}
use native.Mathlib.Nat.{not-suc-le-zero}
use native.Mathlib.Omega.{arith}
use lib.ListN.{length, get_or}
use Rattle.std.specs.Prelude.{Option, Some, None}
use Rattle.rules.specs.Bit.{bit, xor}
use Rattle.rules.specs.Fold.{Term}
use Rattle.rules.specs.Gate.{gate2, code_cnot}
use Rattle.rules.specs.Walk.{free, on, owes, Node, side, best, turns, leaf, is_none, cross_nodes, visit, Settled, node}
use Rattle.rules.specs.Walk as Walk
use Rattle.rules.specs.Synth.{rotation, emit}
use Rattle.rules.proofs.Walking.{rest-off, rest-other}
use Rattle.parity.specs.declared.Parity.{Parity}
use Rattle.parity.specs.View.{val}
use Rattle.walk.specs.declared.Slot.{Slot}
use Rattle.walk.specs.declared.Aim.{Aim}
use Rattle.walk.specs.declared.Aim.TheVariants.{Free, On, Owes}
use Rattle.walk.specs.Stack.{aim_to, aim_of, view, target_of, aim_with, Aimed, takes, leaves}

-- ---- aims

-- nothing is owed
pub record NoneOwed (a : Aim) : Type 0 where
  pub none : (p t : ℕ) → a ≢ Owes p t

pub aim-settled : (a : Aim) → NoneOwed a → view a ≡ aim_to (target_of a)
aim-settled Free h = refl
aim-settled (On t) h = refl
aim-settled (Owes p t) h = absurd (h.none p t refl)

pub target-owed : (a : Aim) (p t : ℕ) → a ≡ Owes p t → target_of a ≡ Some t
target-owed a p t e = rw e

taken-aim : (o : Option ℕ) (c : ℕ) → view (aim_with o c) ≡ Walk.aim_with (aim_to o) c
taken-aim None c = refl
taken-aim (Some t) c = refl

-- the column is none of the candidates that are left, and the target none of them
taken-aimed : (o : Option ℕ) (n c start : ℕ) (rest : Parity) → c < n → bit (val rest) c ≡ false → ((t : ℕ) → o ≡ Some t → t < n) → ((t : ℕ) → o ≡ Some t → bit (val rest) t ≡ false)
    → ((t : ℕ) → o ≡ Some t → c ≢ t) → Aimed n (record { cands = rest; aim = aim_with o c; start = start })
taken-aimed None n c start rest l off lt apart other =
    record {
      target = λ t e. let q : c ≡ t = cc in omega arith;
      owed = λ p t e. cc;
      apart = λ t e. let q : c ≡ t = cc in rw (← q) off;
      differ = λ p t e. cc;
    }
taken-aimed (Some u) n c start rest l off lt apart other =
    record {
      target = lt;
      owed = λ p t e. let q : c ≡ p = cc in omega arith;
      apart = apart;
      differ = λ p t e r. other u refl (cc);
    }

module _ (s : Slot) (rest : Parity) (c : ℕ) where
  pub takes-aim : aim_of (takes s rest c) ≡ Walk.aim_with (aim_to (target_of s.aim)) c
  takes-aim = taken-aim (target_of s.aim) c

  module _ (is : val rest ≡ xor (val s.cands) (2 ^ c)) (b : bit (val s.cands) c ≡ true) (n : ℕ) (a : Aimed n s) where
    -- the target is none of the candidates that are left
    still-apart : (t : ℕ) → target_of s.aim ≡ Some t → bit (val rest) t ≡ false
    still-apart t q = ap (λ (v : ℕ). bit v t) is ∙ rest-other (val s.cands) c t b (a.apart t q)

    pub takes-aimed : c < n → Aimed n (takes s rest c)
    takes-aimed l =
        taken-aimed (target_of s.aim) n c s.start rest l (ap (λ (v : ℕ). bit v c) is ∙ rest-off (val s.cands) c b) a.target still-apart
        (λ t q r. true≢false (sym b ∙ ap (bit (val s.cands)) r ∙ a.apart t q))

    pub leaves-aimed : (ones : ℕ) → Aimed n (leaves s rest ones)
    leaves-aimed ones = record { target = a.target; owed = a.owed; apart = still-apart; differ = a.differ }

pub settled-to : (o : Option ℕ) → Settled (aim_to o)
settled-to None = tt
settled-to (Some t) = tt

-- ---- the turn of a node

module _ (n : ℕ) (st : List Node) where
  pub visit-none : (cs : ℕ) (a : Walk.Aim) → visit n (node cs a []) st ≡ record { steps = []; stack = st }
  unfolding visit
  visit-none cs a = refl

  pub visit-pay : (cs p t : ℕ) (ts : List Term) → 0 < length ts
      → visit n (node cs (owes p t) ts) st ≡ record { steps = Walk.cn p t ∷ []; stack = node cs (on t) ts ∷ cross_nodes p t st }
  unfolding visit
  visit-pay cs p t [] h = absurd (not-suc-le-zero h)
  visit-pay cs p t (e ∷ es) h = refl

  open-as : (cs : ℕ) (a : Walk.Aim) (ts : List Term) → Settled a → 0 < length ts → visit n (node cs a ts) st ≡ Walk.open_node n cs a ts st
  unfolding visit
  open-as cs a [] s h = absurd (not-suc-le-zero h)
  open-as cs free (e ∷ es) s h = refl
  open-as cs (on t) (e ∷ es) s h = refl
  open-as cs (owes p t) (e ∷ es) s h = absurd s

  pub visit-leaf : (cs : ℕ) (a : Walk.Aim) (ts : List Term) → Settled a → 0 < length ts → is_none cs ≡ true → visit n (node cs a ts) st ≡ record { steps = leaf a ts; stack = st }
  unfolding visit
  visit-leaf cs a ts s h e = open-as cs a ts s h ∙ rw e

  pub visit-split : (cs : ℕ) (a : Walk.Aim) (ts : List Term) (c rest : ℕ) → Settled a → 0 < length ts → is_none cs ≡ false → c ≡ (best n cs ts).0 → rest ≡ xor cs (2 ^ c)
      → visit n (node cs a ts) st ≡ record { steps = []; stack = node rest a (side false c ts) ∷ node rest (Walk.aim_with a c) (side true c ts) ∷ st }
  unfolding visit
  visit-split cs a ts c rest s h e f g = open-as cs a ts s h ∙ rw (e, g, f)

-- ---- what a leaf emits

module _ (names : List ℕ) (ts : List Term) where
  pub leaf-free : emit names (leaf (aim_to None) ts) ≡ []
  unfolding emit
  leaf-free = refl

  pub leaf-on : (t q k : ℕ) → q ≡ get_or names t 0 → k ≡ turns ts % 8 → emit names (leaf (aim_to (Some t)) ts) ≡ rotation k q
  unfolding emit
  leaf-on t q k e f = rw (e, f) (append-nil _)

-- ---- what a CNOT emits

pub emit-cn : (names : List ℕ) (p t x y : ℕ) → x ≡ get_or names p 0 → y ≡ get_or names t 0 → emit names (Walk.cn p t ∷ []) ≡ gate2 code_cnot x y ∷ []
unfolding emit
emit-cn names p t x y e f = rw (e, f)
