-- Worked numbers, by computing: what is printed, and what is read at the front of some bytes.
use mathlib.Core.Path.{◌≡◌, refl}
use mathlib.Core.List.{[], ◌∷◌, map}
use lib.IntN.{pos, negsuc}
use Rattle.text.specs.Bytes.{bytes}
use Rattle.text.specs.Printing.{printed, named_text}
use Rattle.text.specs.Reading.{none, found, natural, integer, count_line}

-- both ends of the range
pub prints : map printed (pos 0 ∷ pos 7 ∷ pos 10 ∷ pos 2147483647 ∷ negsuc 0 ∷ negsuc 2147483647 ∷ [])
    ≡ bytes "0" ∷ bytes "7" ∷ bytes "10" ∷ bytes "2147483647" ∷ bytes "-1" ∷ bytes "-2147483648" ∷ []
unfolding printed
prints = refl

-- a number is ended by any byte. One past each end; a leading zero, a plus, -0, a blank in front, nothing at all
pub integers : map integer (
    bytes "12 3" ∷ bytes "0\n" ∷ bytes "2147483647" ∷ bytes "-2147483648-" ∷ bytes "7x"
    ∷ bytes "2147483648" ∷ bytes "-2147483649" ∷ bytes "00" ∷ bytes "-01" ∷ bytes "+1" ∷ bytes "-0" ∷ bytes "-" ∷ bytes " 1" ∷ bytes "" ∷ [])
    ≡ found (pos 12) (bytes " 3") ∷ found (pos 0) (bytes "\n") ∷ found (pos 2147483647) [] ∷ found (negsuc 2147483647) (bytes "-") ∷ found (pos 7) (bytes "x")
    ∷ none ∷ none ∷ none ∷ none ∷ none ∷ none ∷ none ∷ none ∷ none ∷ []
unfolding integer
integers = refl

-- the top, one past it, far past it, and a minus
pub naturals : map natural (bytes "2147483647\n" ∷ bytes "2147483648\n" ∷ bytes "99999999999999999999999999\n" ∷ bytes "-1\n" ∷ [])
    ≡ found 2147483647 (bytes "\n") ∷ none ∷ none ∷ none ∷ []
unfolding natural
naturals = refl

-- a word, a blank, a number, LF
pub counted : map (count_line (bytes "gates")) (bytes "gates 513\n2 0" ∷ bytes "gates 2" ∷ bytes "gates  2\n" ∷ bytes "gates 2 \n" ∷ bytes "gates 2\r\n" ∷ bytes "gate 2\n" ∷ [])
    ≡ found 513 (bytes "2 0") ∷ none ∷ none ∷ none ∷ none ∷ none ∷ []
unfolding count_line
counted = refl

-- none, one, two, four numbers behind a word
pub named : named_text (bytes "x") [] ∷ map (named_text (bytes "refused")) ((7 ∷ []) ∷ (12 ∷ 6 ∷ []) ∷ (0 ∷ 4294967295 ∷ 10 ∷ 3 ∷ []) ∷ [])
    ≡ bytes "x\n" ∷ bytes "refused 7\n" ∷ bytes "refused 12 6\n" ∷ bytes "refused 0 4294967295 10 3\n" ∷ []
unfolding named_text
named = refl
