-- Counts of faults. They never fall, and stand still at the greatest u64.
use Rattle.std.specs.Prelude.{ℕ, ◌+◌, ◌-◌, ◌^◌, max, min}

-- the greatest u64, the last value of a count
abbrev pub last_count : ℕ
last_count = 2 ^ 64 - 1

-- one more, up to the last value
abbrev pub next_count : ℕ → ℕ
next_count n = max n (min (n + 1) last_count)
