-- What a writer holds, however much of it waits in a room.
use Rattle.std.specs.Prelude.{ℕ, List, take, Option}
use Rattle.std.specs.Io.KnownBytes.{append_known}

-- the bytes that the writer holds, then the first `used` of the room
abbrev pub gone : Option (List ℕ) → List ℕ → ℕ → Option (List ℕ)
gone held bytes used = append_known held (take used bytes)
