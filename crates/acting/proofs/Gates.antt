-- Lists of gates that are not refused: their wires are below the list's, so the theorems hold of them.
use mathlib.Core.Path.{◌≡◌, refl}
use mathlib.Core.Logic.{◌↔◌}
use mathlib.Core.Bool.{true}
use mathlib.Core.List.{List, [], ◌∷◌, map}
use Prim.Native.Nat.{ℕ, zero, suc, ◌<◌}
use lib.IntN.{ℤ, pos}
use Rattle.rules.specs.Gate.{Gate, second}
use Rattle.rules.specs.Meaning.{op, op_of}
use Rattle.rules.specs.Stretch.{AlikeGates}
use Rattle.rules.proofs.Accepting.{SoundAll, Fit, fit}
use Rattle.acting.specs.Alike.{Below, AllBelow, alike, verdict}
use Rattle.acting.proofs.Deciding.{verdict-alike}

pub code_below : (n c x y : ℕ) (t : ℤ) → x < n → (second c ≡ true → y < n) → Below n (op_of c x y t)
unfolding op_of
code_below n zero x y t h k = tt
code_below n (suc zero) x y t h k = h
code_below n (suc (suc zero)) x y t h k = h
code_below n (suc (suc (suc zero))) x y t h k = h
code_below n (suc (suc (suc (suc zero)))) x y t h k = h
code_below n (suc (suc (suc (suc (suc zero))))) x y t h k = h
code_below n (suc (suc (suc (suc (suc (suc zero)))))) x y t h k = h
code_below n (suc (suc (suc (suc (suc (suc (suc zero))))))) x y t h k = h
code_below n (suc (suc (suc (suc (suc (suc (suc (suc zero)))))))) x y t h k = (h, k refl)
code_below n (suc (suc (suc (suc (suc (suc (suc (suc (suc zero))))))))) x y t h k = (h, k refl)
code_below n (suc (suc (suc (suc (suc (suc (suc (suc (suc (suc c)))))))))) x y t h k = tt

pub sound-below : (n b : ℕ) (gs : List Gate) → SoundAll n b gs → AllBelow n (map op gs)
unfolding SoundAll AllBelow op
sound-below n b [] h = tt
sound-below n b (g ∷ gs) h =
    let f : Fit n b g.code g.first g.second g.third g.turn =
    fit n b (pos g.code) (pos g.first) (pos g.second) (pos g.third) g.turn (pos g.line) h.0 in
    (code_below n g.code g.first g.second g.turn f.first-in f.second-in, sound-below n b gs h.1)

-- the answer, of two lists of gates over the same wires
pub gates-alike : (n : ℕ) (gs hs : List Gate) → SoundAll n zero gs → SoundAll n zero hs → (verdict n (map op gs) (map op hs) ≡ alike) ↔ AlikeGates gs hs
gates-alike n gs hs p q = verdict-alike n (map op gs) (map op hs) (sound-below n zero gs p) (sound-below n zero hs q)
