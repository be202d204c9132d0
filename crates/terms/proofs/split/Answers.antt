-- `terms::split` meets its contract.
use Rattle.std.proofs.Common.{◌≡◌, rules, arith, length, ◌/◌}
use Rattle.terms.specs.Terms.{terms_of}
use Rattle.terms.proofs.Room.{room-length, room-same}
use Rattle.terms.proofs.Sieve.{owns, sides_filter}
use Rattle.terms.proofs.split.Goals as goal

pub returns : goal.returns
returns c =
    let size : length (terms_of c.args.room.now) ≡ length c.args.room.now / 3 = room-length c.args.room.now in
    let same = room-same c.gather.new.room c.args.room.now c.gather.auto.room in
    sides_filter _ _ _ _ _ size (omega arith) (c.gather.ensures (owns c.args.column) (λ e r says. search rules))
