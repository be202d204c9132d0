-- `text::write_named` meets its contract: the word, the numbers, LF.
use mathlib.Core.List.{[], ◌∷◌}
use Prim.Native.Nat.{◌+◌, ◌*◌, ◌≤◌}
use native.Mathlib.Omega.{arith}
use lib.ListN.{length}
use Rattle.text.specs.Bytes.{lf}
use Rattle.text.specs.Printing.{named_text}
use Rattle.text.specs.Clauses.{Prints, line_size}
use Rattle.text.proofs.Sizes.{prints-next, prints-both}
use Rattle.text.proofs.write_named.Goals as goal
use Rattle.text.proofs.write_named.Goals.{After-write_word-first}

-- the word stands, and there is room for the rest
word : (c : After-write_word-first) →
    Prints (length c.args.w.now) c.args.w.now c.args.out.now c.args.at c.write_word-first.new.out c.write_word-first.result
word c = record { writes = c.write_word-first.ensures; short = omega arith }

behind-word : (c : After-write_word-first) → c.write_word-first.result + (line_size * length c.args.numbers.now + 1) ≤ length c.write_word-first.new.out
behind-word c =
    prints-next (length c.args.w.now) (line_size * length c.args.numbers.now + 1) _ _ c.args.at _ _ c.requires (word c)

pub returns : goal.returns
unfolding named_text
returns c =
    prints-both (length c.args.w.now) (line_size * length c.args.numbers.now + 1) _ _ c.args.at _ _ c.requires (word (goal.at.returns c).After-write_word-first) _ _ _
    (prints-both (line_size * length c.args.numbers.now) 1 _ _ _ _ _ (behind-word (goal.at.returns c).After-write_word-first) c.write_all_spaced-last.ensures (lf ∷ []) _ _ (record { writes = c.write_byte.ensures; short = omega arith }))
