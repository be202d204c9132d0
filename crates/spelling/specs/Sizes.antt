-- The sizes of the programs that take a text, each by name and once.
use Rattle.std.specs.Prelude.{ℕ, ◌+◌, ◌*◌}
use Rattle.rules.specs.Limits.{width}
use Rattle.text.specs.Clauses.{number_size}

-- bytes of a text
abbrev pub list_bytes : ℕ
list_bytes = 32768

-- gates of its list
abbrev pub list_gates : ℕ
list_gates = 896

-- bytes of the room for an answer: of the numbers of the most gates, and of all other lines. Every answer fits (`Says` of `list`)
abbrev pub answer_bytes : ℕ
answer_bytes = number_size * (width * list_gates) + 256
