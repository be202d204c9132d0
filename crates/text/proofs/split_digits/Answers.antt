-- `text::split_digits` meets its contract: the digits end before the first byte that is none.
use Rattle.std.proofs.Common.{◌≡◌, ℕ, List, true, false, length, refl, sym, ◌∙◌, rules}
use Rattle.std.proofs.lemmas.Iterator.{YieldsList-from_slice, IsFirst-from_position, index_from_first}
use borrow.Author.Tests.{tests}
use Rattle.text.specs.Bytes.{is_digit}
use Rattle.text.specs.Reading.{digits}
use Rattle.text.proofs.Scanning.{digits-taken, count-none, count-hit, count-miss}
use Rattle.text.proofs.split_digits.Goals as goal
use Rattle.text.proofs.split_digits.Goals.{After-unwrap_or-n}

ends : (c : After-unwrap_or-n) → length (digits c.args.text.now) ≡ c.unwrap_or-n.result
ends c =
    let first = IsFirst-from_position _ _ c.position.result (λ b. is_digit b ≡ false) (λ b. is_digit b ≡ true) c.position.ensures.ran (YieldsList-from_slice c.args.text.now c.iter.ensures.rest) (λ x q k. search (rules, tests)) (λ x q k. search (rules, tests)) in
    index_from_first (λ (bs : List ℕ). length (digits bs)) (λ b. is_digit b ≡ false) (λ b. is_digit b ≡ true) count-none count-hit count-miss c.args.text.now c.position.result first ∙ sym c.unwrap_or-n.ensures

pub returns-clause-digits : goal.returns-clause-digits
returns-clause-digits c = c.split_at.ensures.front ∙ rw (sym (ends (goal.at.returns-clause-digits c).After-unwrap_or-n)) (digits-taken c.args.text.now)

pub returns-clause-rest : goal.returns-clause-rest
returns-clause-rest c = c.split_at.ensures.back ∙ rw (sym (ends (goal.at.returns-clause-rest c).After-unwrap_or-n)) refl
