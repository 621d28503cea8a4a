-- Counts that stand still at the last value of a 64-bit counter, and what it is for one to rise.
use Rattle.std.specs.Prelude.{◌≡◌, ◌⊎◌, ℕ, ◌+◌, ◌-◌, ◌^◌, ◌<◌, min}

-- the last value of a counter
abbrev pub last_count : ℕ
last_count = 2 ^ 64 - 1

-- one more, unless the count stands at its last value
abbrev pub next_count : ℕ → ℕ
next_count n = min (n + 1) last_count

-- a count of faults rose in a call: it is greater at the end than at the beginning, or stands at its last value
abbrev pub Rose : ℕ → ℕ → Type 0
Rose before after = (before < after) ⊎ (after ≡ last_count)
