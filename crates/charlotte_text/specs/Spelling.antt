-- How scripts and transcripts spell names, bytes and calls. Each value has one spelling.
use Rattle.std.specs.Prelude.{ℕ, List, [], ◌∷◌, ◌++◌, Bool, ◌&&◌, ◌||◌, nat_le, ◌==◌}
use Rattle.std.specs.Prelude.{◌+◌, ◌≤◌, length, ◌/◌, ◌%◌, if◌then◌else◌, codes, decimal}
use Rattle.std.specs.List.{flat_map, AllByRecursion}
pub use Rattle.charlotte_calls.specs.Ranges.{IsEnd, AreBytes}
use Rattle.charlotte_calls.specs.declared.names.Side.{Side}
use Rattle.charlotte_calls.specs.declared.names.Side.TheVariants.{A, B}
use Rattle.charlotte_calls.specs.declared.names.Way.{Way}
use Rattle.charlotte_calls.specs.declared.names.Way.TheVariants.{Inward, Outward}
use Rattle.charlotte_calls.specs.declared.names.EndId.{EndId}
use Rattle.charlotte_calls.specs.declared.names.Pid.{Pid}
use Rattle.charlotte_calls.specs.declared.calls.Call.{Call}
use Rattle.charlotte_calls.specs.declared.calls.Call.TheVariants.{Make, Destroy, Send, Receive, Cancel, Wait, Print, Exit}

-- what stands between the words of a line, between the numbers of a value, and at the end of a line
abbrev pub blank : ℕ
blank = 32

abbrev pub colon : ℕ
colon = 58

abbrev pub line_feed : ℕ
line_feed = 10

-- a decimal number without leading zeros
abbrev pub number_text : ℕ → List ℕ
number_text n = decimal n

-- the letter of a side
abbrev pub side_text : Side → List ℕ
side_text A = codes "a"
side_text B = codes "b"

-- the maker, a dot, the count and the side, as `0.1b`
abbrev pub end_text : EndId → List ℕ
end_text e = number_text e.link.maker ++ codes "." ++ number_text e.link.count ++ side_text e.side

-- an end that a message encloses, as `+0.1b`
abbrev pub plus_text : EndId → List ℕ
plus_text e = codes "+" ++ end_text e

-- the ends of a message, each behind a blank
abbrev pub ends_text : List EndId → List ℕ
ends_text ends = flat_map (λ e. codes " " ++ plus_text e) ends

-- a process, as `p7`
abbrev pub process_text : Pid → List ℕ
process_text p = codes "p" ++ number_text p.0

-- a letter, a digit, `_` or `.`
abbrev pub is_plain : ℕ → Bool
is_plain b = (nat_le 48 b && nat_le b 57) || (nat_le 65 b && nat_le b 90) || (nat_le 97 b && nat_le b 122) || (b == 95) || (b == 46)

-- an upper-case hexadecimal digit
abbrev pub hex_digit : ℕ → ℕ
hex_digit d = if nat_le d 9 then 48 + d else 55 + d

-- a plain byte is itself, every other one `%` and two digits
abbrev pub byte_text : ℕ → List ℕ
byte_text b = if is_plain b then b ∷ [] else 37 ∷ hex_digit (b / 16) ∷ hex_digit (b % 16) ∷ []

-- a string of bytes, and `-` where there are none
abbrev pub bytes_text : List ℕ → List ℕ
bytes_text [] = codes "-"
bytes_text (b ∷ bs) = flat_map byte_text (b ∷ bs)

-- the direction of an activity
abbrev pub way_text : Way → List ℕ
way_text Inward = codes "in"
way_text Outward = codes "out"

-- a call of a process
abbrev pub call_text : Call → List ℕ
call_text Make = codes "make"
call_text (Destroy on) = codes "destroy " ++ end_text on
call_text (Send on bytes enclose) = codes "send " ++ end_text on ++ codes " " ++ bytes_text bytes ++ ends_text enclose
call_text (Receive on) = codes "receive " ++ end_text on
call_text (Cancel on way) = codes "cancel " ++ end_text on ++ codes " " ++ way_text way
call_text Wait = codes "wait"
call_text (Print bytes) = codes "print " ++ bytes_text bytes
call_text Exit = codes "exit"

-- how many ends a message may enclose: one in version 1, else eight
abbrev pub most_ends : ℕ → ℕ
most_ends version = if version == 1 then 1 else 8

-- a call that a line of a version can spell
abbrev pub IsCall : ℕ → Call → Type 0
IsCall version Make = Unit {0}
IsCall version (Destroy on) = IsEnd on
IsCall version (Send on bytes enclose) =
    IsEnd on × AreBytes bytes × (length bytes ≤ 256) × AllByRecursion IsEnd enclose × (length enclose ≤ most_ends version)
IsCall version (Receive on) = IsEnd on
IsCall version (Cancel on way) = IsEnd on
IsCall version Wait = Unit {0}
IsCall version (Print bytes) = AreBytes bytes × (length bytes ≤ 256)
IsCall version Exit = Unit {0}
