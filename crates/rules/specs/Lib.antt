-- Document 01 as definitions, in its order. No lemma stands here.
--
-- How to read them:
--     f : A → B → C        f takes an A and a B and gives a C; `f a b` calls it. Clauses are tried by the shape of their arguments
--     abbrev, unfoldable   two kinds of definition. For a reader they are the same: what stands right of `=`. (The checker sees through the
--                          first by itself, through the second where a line `unfolding ..` names it.) `pub` lets other files cite it
--     cond test a b        a where the test is true, else b. An else that calls the function again stands in a `let` before it,
--                          so that it is computed only when it is needed
--     ℕ, ℤ                 0, 1, 2 ..; and signed numbers: `pos n` is n, `negsuc n` is -(n + 1). `zero`, `suc n` are 0 and n + 1; 3 - 5 is 0
--     [], x ∷ xs, xs ++ ys the empty list, one with x in front, two joined; `get_or xs i d` is the entry at place i from 0, d where there is none;
--                          `set xs i x` puts x there; `take`, `drop` by a count; `replicate n x` is x n times; `map f xs` is f of each
--     record, data         fields by name, `r.field`, made by `record { field = value; .. }`; and a choice of cases, each with its values
--     (a, b), p.0, p.1   a pair and its two parts; `A × B` both, `A ⊎ B` one of the two, `Unit` nothing to show, `⊥` impossible
--     λ x. e               the function that takes x to e
--     a ≡ b                a and b are the same: a statement, and its proof a value of that type. A record or data of type `Type 0` is a statement
--     eqb, ltb, leb, not, && , ||     tests that compute: equal, less, at most, and how they are joined
--
-- numbers, gates, lists and their refusals
pub mod Limits
pub mod Gate
pub mod Numbers
pub mod Refusal
-- what a stretch means, and what is counted
pub mod Bit
pub mod Meaning
pub mod Stretch
pub mod Counts
-- a block: the scan's fold, the phase walk, the closing map, its resynthesis
pub mod Fold
pub mod Walk
pub mod Close
pub mod Synth
-- the list cut into blocks, each written again where that is cheaper; lines; the promise; answer and rooms; the budget
pub mod Plan
pub mod Scan
pub mod Lines
pub mod Promise
pub mod Pass
pub mod Budget
-- beside the document: words that contracts of the code cite
pub mod Order
pub mod Left
pub mod Shortcuts
pub mod Tallies
