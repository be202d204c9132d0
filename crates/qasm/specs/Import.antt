-- Import: a laboratory's text, line by line, as wires, bits and gates, or its refusal.
use Rattle.std.specs.Prelude.{◌||◌, cond, List, [], ◌∷◌, ◌++◌, ℕ, zero, suc, ◌/◌, eqb, ltb, ℤ, pos, length, get_or}
use Rattle.rules.specs.Limits.{width, max_wires, max_bits}
use Rattle.rules.specs.Numbers.{nat_of}
use Rattle.text.specs.Bytes.{bytes}
use Rattle.text.specs.Reading.{Found, none, found, onward, word}
use Rattle.spelling.specs.Lines.{Lines, bad, good, line}
use Rattle.spelling.specs.Reading.{Rows}
use Rattle.qasm.specs.Statement.{bare, on_line, read_by, statement}

-- ---- the lines before the gates

-- the version and include lines
abbrev pub version_line : List ℕ
version_line = bytes "OPENQASM 2.0;\n"

abbrev pub include_line : List ℕ
include_line = bytes "include \"qelib1.inc\";\n"

-- the registers are q and c: templates, with their size for the first number
abbrev pub wires_line : List ℕ
wires_line = bytes "qreg q[F];\n"

abbrev pub bits_line : List ℕ
bits_line = bytes "creg c[F];\n"

-- a register of size 0 is never accepted
unfoldable pub register : List ℕ → List ℕ → Found ℕ
unfolding read_by
register t bs =
    onward (read_by t bs (bare 0)) none (λ row left.
    let n = nat_of (get_or row 1 (pos 0)) in
    cond (eqb n 0) none (found n left))

-- a register that may be left out: then its size is 0, and the line is read as what comes next
abbrev pub perhaps : {B : Type 0} → ℕ → Found ℕ → List ℕ → (ℕ → ℕ → List ℕ → B) → B
perhaps k none bs next = next 0 k bs
perhaps k (found n left) bs next = next n (suc k) left

pub record Registers : Type 0 where
  pub wires : ℕ
  pub bits : ℕ

-- q before c
unfoldable pub opening : List ℕ → Lines Registers
unfolding register
opening bs =
    line 1 (word version_line bs) (λ u k bs.
    line k (word include_line bs) (λ u k bs.
    perhaps k (register wires_line bs) bs (λ wires k bs.
    perhaps k (register bits_line bs) bs (λ bits k bs.
    good (record { wires = wires; bits = bits }) k bs))))

-- ---- the gates

-- at the end of the text, or before it
abbrev pub at_end : {A : Type 0} → List ℕ → A → A → A
at_end [] done more = done
at_end (b ∷ bs) done more = more

-- a statement a line up to the end of the text, from line k on: the gates' numbers up to the first line that is wrong, each gate with its statement's
-- line. A statement has a byte at least, so that as many lines as there are bytes are enough
unfoldable pub body : ℕ → ℕ → ℕ → ℕ → List ℕ → Rows
unfolding statement
body zero w b k bs = at_end bs (record { numbers = []; behind = good tt k [] }) (record { numbers = []; behind = bad k })
body (suc n) w b k bs =
    let more = onward {B = Rows} (statement w b bs) (record { numbers = []; behind = bad k }) (λ row left.
    let others = body n w b (suc k) left in
    record { numbers = on_line k row ++ others.numbers; behind = others.behind }) in
    at_end bs (record { numbers = []; behind = good tt k [] }) more

-- ---- the whole text

pub data Import : Type 0 where
  -- 13: the first line that is wrong or missing
  wrong : ℕ → Import
  -- 12: more gates than may be
  many : Import
  -- 3: more wires or bits than may be
  large : Import
  -- wires, bits, and the gates' numbers
  list : ℕ → ℕ → List ℤ → Import

-- 12, then 3
abbrev pub judged : ℕ → Registers → List ℤ → Import
judged most r ns = cond (ltb most (length ns / width)) many (cond (ltb max_wires r.wires || ltb max_bits r.bits) large (list r.wires r.bits ns))

-- every line before either, also beyond the most gates
abbrev pub gathered : ℕ → Registers → List ℤ → Lines Unit → Import
gathered most r ns (bad k) = wrong k
gathered most r ns (good u k left) = judged most r ns

abbrev pub opened : ℕ → Lines Registers → Import
opened most (bad k) = wrong k
opened most (good r k left) =
    let rows = body (length left) r.wires r.bits k left in
    gathered most r rows.numbers rows.behind

-- a text of at most so many gates
unfoldable pub read_qasm : ℕ → List ℕ → Import
unfolding opening body
read_qasm most bs = opened most (opening bs)
