-- The text of a list, line by line: `head 4` or `head 5` and its numbers, `gates` and its count, a line for each gate, and the end.
use Rattle.std.specs.Prelude.{Bool, ◌||◌, cond, List, [], ◌∷◌, ◌++◌, ℕ, zero, suc, ◌+◌, ◌-◌, eqb, ltb, ℤ}
use Rattle.text.specs.Bytes.{lf, blank}
use Rattle.text.specs.Reading.{Found, none, found, onward, ended, natural_line, count_line}
use Rattle.spelling.specs.Lines.{Lines, bad, good, line}
use Rattle.spelling.specs.Texts.{per_gate, unsaid, form_of, Form, Head, head_word, gates_word}

-- ---- the head

-- a value that is one of these
abbrev pub such : (ℕ → Bool) → Found ℕ → Found ℕ
such ok none = none
such ok (found n left) = cond (ok n) (found n left) none

-- `head 4` or `head 5`, its first line: how many numbers it has
unfoldable pub head_line : List ℕ → Found ℕ
unfolding count_line
head_line bs = such (λ n. eqb n 4 || eqb n 5) (count_line head_word bs)

-- the form's number: 4 after `head 4`, with no line of its own; after `head 5` its fifth number, 5 or 6
unfoldable pub form_line : ℕ → List ℕ → Found ℕ
unfolding natural_line
form_line n bs = cond (eqb n 4) (found n bs) (such (λ m. eqb m 5 || eqb m 6) (natural_line bs))

-- wires, bits, qubit cap, term cap, one to a line, and the form
unfoldable pub head_at : ℕ → List ℕ → Lines Head
unfolding head_line form_line
head_at k bs =
    line k (head_line bs) (λ n k bs.
    line k (natural_line bs) (λ wires k bs.
    line k (natural_line bs) (λ bits k bs.
    line k (natural_line bs) (λ qubits k bs.
    line k (natural_line bs) (λ terms k bs.
    onward (form_line n bs) (bad k) (λ form left.
    good (record { wires = wires; bits = bits; qubits = qubits; terms = terms; form = form_of form }) (k + (n - 4)) left))))))

-- ---- the gates

-- the numbers read, up to the first that is not right, and what is left behind the line
pub record Row : Type 0 where
  pub numbers : List ℤ
  pub behind : Found Unit

-- a line of k numbers: a blank behind each, LF behind the last
unfoldable pub row : ℕ → List ℕ → Row
row zero bs = record { numbers = []; behind = found tt bs }
row (suc k) bs =
    onward (ended (cond (eqb k 0) lf blank) bs) (record { numbers = []; behind = none }) (λ v left.
    let others = row k left in
    record { numbers = v ∷ others.numbers; behind = others.behind })

-- a gate's line, of exactly as many numbers as the head says; those that it doesn't show stand behind them
unfoldable pub gate_row : Form → List ℕ → Row
unfolding row
gate_row f bs =
    let shown = row (per_gate f) bs in
    onward shown.behind shown (λ u left. record { numbers = shown.numbers ++ unsaid f; behind = found u left })

pub record Rows : Type 0 where
  pub numbers : List ℤ
  pub behind : Lines Unit

-- n lines from line k on, a gate each
unfoldable pub rows : Form → ℕ → ℕ → List ℕ → Rows
unfolding gate_row
rows f zero k bs = record { numbers = []; behind = good tt k bs }
rows f (suc n) k bs =
    let gate = gate_row f bs in
    onward gate.behind (record { numbers = gate.numbers; behind = bad k }) (λ u left.
    let others = rows f n (suc k) left in
    record { numbers = gate.numbers ++ others.numbers; behind = others.behind })

-- ---- a list

-- what some lines come to where a list should stand
pub data Front : Type 0 where
  -- a malformed or missing line
  wrong : ℕ → Front
  -- more gates than may be; the line of `gates`
  large : ℕ → Front
  -- the head, the gates' numbers, the next line's number, and what is left
  list : Head → List ℤ → ℕ → List ℕ → Front

abbrev pub gathered : Head → List ℤ → Lines Unit → Front
gathered h numbers (bad k) = wrong k
gathered h numbers (good u k left) = list h numbers k left

-- the count is looked at before the gates' lines
abbrev pub counted : ℕ → Head → ℕ → Found ℕ → Front
counted most h k none = wrong k
counted most h k (found n left) =
    let gates = rows h.form n (suc k) left in
    cond (ltb most n) (large k) (gathered h gates.numbers gates.behind)

abbrev pub headed : ℕ → Lines Head → Front
headed most (bad k) = wrong k
headed most (good h k left) = counted most h k (count_line gates_word left)

-- a list of at most so many gates, from line k on
unfoldable pub list_at : ℕ → ℕ → List ℕ → Front
list_at most k bs = headed most (head_at k bs)

-- ---- the whole text

pub data Read : Type 0 where
  -- 11: a malformed, missing or surplus line
  malformed : ℕ → Read
  -- 12: more gates than may be; the line of `gates`
  many : ℕ → Read
  -- the head, and the gates' numbers
  read : Head → List ℤ → Read

-- nothing follows the last gate: any byte more is a surplus line
abbrev pub ending : Front → Read
ending (wrong k) = malformed k
ending (large k) = many k
ending (list h numbers k []) = read h numbers
ending (list h numbers k (b ∷ bs)) = malformed k

-- a text of a list of at most so many gates
unfoldable pub read_text : ℕ → List ℕ → Read
unfolding list_at
read_text most bs = ending (list_at most 1 bs)
