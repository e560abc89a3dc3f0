-- The ends of a process: their numbers, and how it gets and loses them.
use Rattle.std.specs.Prelude.{ℕ, zero, suc, ◌+◌, ◌-◌, nat_lt, cond, Bool, false, if◌then◌else◌, List, [], ◌∷◌, ◌++◌, length, map, take, sum_by, flat_map, Option, None, Some, slice_get, slice_set}
use Rattle.charlotte_calls.specs.declared.names.EndId.{EndId}
use Rattle.charlotte_calls.specs.EndEq.{end_eq}
use Rattle.lynx_packets.specs.declared.value.RtValue.{RtValue}
use Rattle.lynx_packets.specs.declared.value.RtValue.TheVariants as packed
use Rattle.lynx_meaning.specs.Values.{Value, Int, Truth, Text, Row, Link}
use Rattle.machine_turns.specs.Turns.{most_threads}
use Rattle.lynx_interp.specs.Machines.{how_many}
use Rattle.end_protocol.specs.declared.kept.Kept.{Kept}
use Rattle.end_protocol.specs.Asking.{later}
use Rattle.end_protocol.specs.Kept.{fresh}
use Rattle.end_protocol.specs.Wanting.{counts}
use Rattle.process_run.specs.States.{Holding, Keeps, Gone, Place, Held, State}

-- ---- by number

-- the place of a number; 0 is none
abbrev pub place_at : ℕ → List Place → Option Place
place_at zero places = None
place_at (suc i) places = slice_get places i

abbrev pub held_in : ℕ → EndId → Holding → Option Held
held_in n x (Keeps k) = Some (record { number = n; end = x; kept = k })
held_in n x (Gone own) = None

abbrev pub held_of : ℕ → Option Place → Option Held
held_of n None = None
held_of n (Some p) = held_in n p.end p.holding

-- the end of a number, if the process holds it
abbrev pub held_at : ℕ → State → Option Held
held_at n s = held_of n (place_at n s.places)

abbrev pub set_holding : ℕ → Holding → Option Place → List Place → List Place
set_holding i h None places = places
set_holding i h (Some p) places = slice_set places i (record p { holding = h })

abbrev pub with_holding : ℕ → Holding → List Place → List Place
with_holding zero h places = places
with_holding (suc i) h places = set_holding i h (slice_get places i) places

abbrev pub puts : ℕ → Holding → State → State
puts n h s = record s { places = with_holding n h s.places }

-- this is kept for the end
abbrev pub keeps : Held → Kept → State → State
keeps h k s = puts h.number (Keeps k) s

-- ---- by name

abbrev pub or_number : ℕ → ℕ → ℕ
or_number zero n = n
or_number (suc m) n = suc m

-- the number of an end among those from this number on: the last one that it has there, or 0
abbrev pub number_from : ℕ → EndId → List Place → ℕ
number_from n x [] = 0
number_from n x (p ∷ ps) = or_number (number_from (n + 1) x ps) (if end_eq p.end x then n else 0)

-- the number of an end. Where the process got it again, it is the later one
abbrev pub number_of : EndId → List Place → ℕ
number_of x places = number_from 1 x places

-- ---- getting

-- The process gets an end, under the next number. The greatest number, once it is there, stays
abbrev pub gets_one : EndId → List Place → List Place
gets_one x places = take (later (length places) - 1) places ++ record { end = x; holding = Keeps fresh } ∷ []

abbrev pub get_all : List EndId → List Place → List Place
get_all [] places = places
get_all (x ∷ xs) places = get_all xs (gets_one x places)

abbrev pub gets : List EndId → State → State
gets xs s = record s { places = get_all xs s.places }

-- it holds ends again, which keep their numbers
abbrev pub hold_all : List EndId → List Place → List Place
hold_all [] places = places
hold_all (x ∷ xs) places = hold_all xs (with_holding (number_of x places) (Keeps fresh) places)

abbrev pub holds_again : List EndId → State → State
holds_again xs s = record s { places = hold_all xs s.places }

-- ---- losing

-- ends that go with a message are not held any more
abbrev pub let_go : List ℕ → List Place → List Place
let_go [] places = places
let_go (n ∷ ns) places = let_go ns (with_holding n (Gone false) places)

abbrev pub lets_go : List ℕ → State → State
lets_go ns s = record s { places = let_go ns s.places }

-- these are to be destroyed
abbrev pub dooms : List EndId → State → State
dooms xs s = record s { doomed = s.doomed ++ xs }

-- ---- values

-- the number of a link; 0 is none
abbrev pub link_of : Value → ℕ
link_of (Link n) = n
link_of _ = 0

-- the links among values
abbrev pub links_in : List Value → List ℕ
links_in [] = []
links_in (Link n ∷ vs) = n ∷ links_in vs
links_in (v ∷ vs) = links_in vs

abbrev pub end_of : Option Held → List EndId
end_of None = []
end_of (Some h) = h.end ∷ []

-- the ends that these numbers name
abbrev pub ends_at : List ℕ → State → List EndId
ends_at ns s = flat_map (λ n. end_of (held_at n s)) ns

-- a value as it travels
abbrev pub packed_of : Value → RtValue
packed_of (Int n) = packed.Int n
packed_of (Truth b) = packed.Bool b
packed_of (Text bytes) = packed.Text bytes
packed_of (Row numbers) = packed.Row numbers
packed_of (Link n) = packed.Link

abbrev pub values_of : List Value → List RtValue
values_of vs = map packed_of vs

-- values that came, while so many ends were got before them: the links have the next numbers, in order
abbrev pub unpacked : ℕ → List RtValue → List Value
unpacked n [] = []
unpacked n (packed.Int i ∷ vs) = Int i ∷ unpacked n vs
unpacked n (packed.Bool b ∷ vs) = Truth b ∷ unpacked n vs
unpacked n (packed.Text bytes ∷ vs) = Text bytes ∷ unpacked n vs
unpacked n (packed.Row numbers ∷ vs) = Row numbers ∷ unpacked n vs
unpacked n (packed.Link ∷ vs) = Link (later n) ∷ unpacked (later n) vs

-- ---- room

abbrev pub coming_to : Holding → ℕ
coming_to (Keeps k) = cond (counts k.request) 1 0
coming_to (Gone own) = 0

-- fewer threads stand than may, where a request in part for an entry counts as one (rules 2 and 4)
abbrev pub room : State → Bool
room s = nat_lt (how_many s.turns.threads + sum_by (λ p. coming_to p.holding) s.places) most_threads
