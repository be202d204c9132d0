-- `scan::scan_by` meets its contract: what stands in the output, with what is made of the rest, is what is made of the list.
use mathlib.Core.Path.{refl, ◌∙◌}
use native.Mathlib.Omega.{arith}
use Rattle.terms.proofs.Room.{room-same}
use Rattle.scan.proofs.Pieces.{begins, ends}
use Rattle.scan.proofs.scan_by.Goals as goal

pub loop-s-init : goal.loop-s-init
loop-s-init g c =
    record {
      stands = begins _ _ _ _ _ c.new-s.ensures;
      clear = c.requires.scannable.clear.clear;
      table_is = refl;
      out-is = refl;
      room-is = refl;
      steps-is = refl;
      whole_is = refl;
    }

pub piece-s-requires : goal.piece-s-requires
piece-s-requires g c =
    let p = c.requires.scannable in
    let l = c.loop-s in
    let i = l.invariant in
    record {
      ready = record {
        checked = rw i.table_is p.checked;
        capped = p.capped;
        clear = record { clear = i.clear; terms = omega (arith, p.clear.terms, room-same l.room c.args.room.now i.room-is) };
        spared = record { long = omega (arith, i.steps-is, p.long) };
        stands = i.stands;
        more = omega (arith, c.loop-s-test.true);
        fits = i.out-is ∙ p.fits;
      };
      suits = record { few = c.requires.suits.few; narrow = c.requires.suits.narrow; long = omega (arith, i.whole_is, c.requires.suits.long) };
    }

pub returns : goal.returns
returns g c = let i = c.loop-s.invariant in ends _ _ _ _ _ _ i.stands i.clear (omega (arith, c.loop-s-test.false))
