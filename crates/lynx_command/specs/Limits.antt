-- The most bytes of a file that a command reads.
use Rattle.std.specs.Prelude.{ℕ}

-- of a script, a plan or a module
abbrev pub most_bytes : ℕ
most_bytes = 1048576

abbrev pub most_transcript_bytes : ℕ
most_transcript_bytes = 67108864
