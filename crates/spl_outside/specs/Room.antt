-- What a sink with a stated room still takes.
use Rattle.std.specs.Prelude.{ℕ, ◌<◌, List, length, Option, None, Some}

-- what is written and the room are both told, and the first is shorter than the second
abbrev pub HasRoom : Option (List ℕ) → Option ℕ → Type 0
HasRoom (Some bytes) (Some room) = length bytes < room
HasRoom (Some bytes) None = ⊥
HasRoom None room = ⊥
