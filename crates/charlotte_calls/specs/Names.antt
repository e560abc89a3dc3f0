-- Names of ends.
use Rattle.std.specs.Prelude.{ℕ, ◌+◌, ◌*◌, ◌^◌}
use Rattle.charlotte_calls.specs.declared.names.Side.{Side}
use Rattle.charlotte_calls.specs.declared.names.Side.TheVariants.{A, B}
use Rattle.charlotte_calls.specs.declared.names.EndId.{EndId}

-- the other side of a link
abbrev pub other_side : Side → Side
other_side A = B
other_side B = A

-- the other end of the same link
abbrev pub opposite : EndId → EndId
opposite e = record { link = e.link; side = other_side e.side }

abbrev pub side_number : Side → ℕ
side_number A = 0
side_number B = 1

-- an end as one number, which no other end has: ends that lie close to one another have numbers that do
abbrev pub end_number : EndId → ℕ
end_number e = e.link.maker * 2 ^ 33 + e.link.count * 2 + side_number e.side
