-- A gate as the code holds it: unsigned numbers, its turn reduced.
use Rattle.std.specs.Prelude.{◌≡◌, ◌^◌, ◌<◌}
use Rattle.rules.specs.Gate as Paper
use Rattle.rules.specs.Meaning.{turn8}
use Rattle.gate.specs.declared.Gate.{Gate}

-- r is the gate g
pub record Reads (g : Paper.Gate) (r : Gate) : Type 0 where
  pub code : r.code ≡ g.code
  pub first : r.first ≡ g.first
  pub second : r.second ≡ g.second
  pub third : r.third ≡ g.third
  pub turn : r.turn ≡ turn8 g.turn
  pub code_lt : r.code < 2 ^ 31
  pub first-lt : r.first < 2 ^ 31
  pub second_lt : r.second < 2 ^ 31
  pub third-lt : r.third < 2 ^ 31
  pub turn-lt : r.turn < 8
