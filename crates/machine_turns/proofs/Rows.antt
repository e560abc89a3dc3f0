-- Small runs of threads that take turns.
use Rattle.std.specs.Prelude.{◌≡◌, ℕ, List, [], ◌∷◌, true, false, Option, None, Some, Ok, Err, slice_get, refl}
use Rattle.typing_rules.specs.declared.exception.Exception.TheVariants as exceptions
use Rattle.lynx_code.specs.declared.instruction.Instruction.{Instruction}
use Rattle.lynx_code.specs.declared.instruction.Instruction.TheVariants as code
use Rattle.lynx_code.specs.declared.instruction.Literal.TheVariants as literal
use Rattle.lynx_meaning.specs.Code.{Program}
use Rattle.lynx_meaning.specs.Courses.{Connect, Accept, Close}
use Rattle.lynx_meaning.specs.Values.{Link, Truth}
use Rattle.machine_turns.specs.Threads.{Standing}
use Rattle.machine_turns.specs.Turns.{Turns, Beat, Stop, RunsOn, Stops, Broken, Spent, Act, AllBlocked, Finished, at_start, spawned, given_to, run}

-- code with one operation, which has no arguments
abbrev program : List Instruction → Program
program is = record { instructions = is; arguments = 0 ∷ [] }

-- a link, and a truth
abbrev start : Turns
start = at_start (Link 1 ∷ Truth false ∷ [])

-- a run of this code, with this fuel
abbrev runs : List Instruction → ℕ → Turns → Beat
runs is fuel t = run (program is) fuel t

abbrev stopped : Beat → Option (Stop × ℕ)
stopped (Stops stop left t) = Some (stop, left)
stopped _ = None

abbrev turns : Beat → Turns
turns (RunsOn left t) = t
turns (Stops stop left t) = t
turns Broken = start

-- the operations of the requests that were open before the instruction of a thread
abbrev requests_of : Option (Option Standing) → List ℕ
requests_of (Some (Some s)) = s.requests
requests_of _ = []

abbrev requests : ℕ → Beat → List ℕ
requests n b = requests_of (slice_get (turns b).threads n)

-- ---- fuel

pub a_loop_spends_its_fuel : stopped (runs (code.Jump 0 ∷ []) 5 start) ≡ Some (Spent, 0)
a_loop_spends_its_fuel = refl

pub a_body_ends : stopped (runs (code.End ∷ []) 1 start) ≡ Some (Finished, 0)
a_body_ends = refl

pub a_body_does_not_begin : stopped (runs (code.End ∷ []) 0 start) ≡ Some (Spent, 0)
a_body_does_not_begin = refl

-- ---- a thread that connects

abbrev connecting : List Instruction
connecting = code.LoadG 0 ∷ code.Connect 0 ∷ code.End ∷ []

abbrev connected : Beat
connected = runs connecting 9 start

pub it_asks : stopped connected ≡ Some (Act 0 (Connect (Link 1) 0 []), 7)
it_asks = refl

pub it_is_blocked : stopped (runs connecting 7 (turns connected)) ≡ Some (AllBlocked, 7)
it_is_blocked = refl

-- with an outcome it is ready, and what it does with it takes no fuel
pub it_goes_on : stopped (runs connecting 7 (given_to 0 (Ok []) (turns connected))) ≡ Some (Finished, 6)
it_goes_on = refl

pub it_does_not_go_on_without_fuel : stopped (runs connecting 0 (given_to 0 (Ok []) (turns connected))) ≡ Some (Spent, 0)
it_does_not_go_on_without_fuel = refl

-- an exception that nothing handles ends it, after the instruction's fuel
pub it_is_refused : stopped (runs connecting 7 (given_to 0 (Err exceptions.DeadLink) (turns connected))) ≡ Some (Finished, 7)
it_is_refused = refl

-- ---- an entry that makes the body's condition true

-- await b; end. The entry: b := true; end.
abbrev waiting : List Instruction
waiting = code.LoadG 1 ∷ code.Await 0 ∷ code.End ∷ code.Push (literal.Bool true) ∷ code.StoreG 1 ∷ code.End ∷ []

abbrev closing : Beat
closing = runs waiting 20 (spawned 1 (0 ∷ []) 3 [] start)

-- the body waits, and the entry closes its request at its end
pub the_entry_closes : stopped closing ≡ Some (Act 1 Close, 15)
the_entry_closes = refl

-- where it has ended the body tries again
pub the_body_goes_on : stopped (runs waiting 15 (given_to 1 (Ok []) (turns closing))) ≡ Some (Finished, 12)
the_body_goes_on = refl

-- ---- awaits that stay false

-- accept o on l; end. The entry: await b; end.
abbrev blocking : List Instruction
blocking = code.LoadG 0 ∷ code.Accept 0 ∷ code.End ∷ code.LoadG 1 ∷ code.Await 3 ∷ code.End ∷ []

abbrev accepting : Beat
accepting = runs blocking 30 (spawned 2 (0 ∷ []) 3 [] (spawned 1 (0 ∷ []) 3 [] start))

abbrev vain : Beat
vain = runs blocking 28 (turns accepting)

-- the first tries again after the second has blocked, and wakes nobody
pub all_are_blocked : stopped vain ≡ Some (AllBlocked, 22)
all_are_blocked = refl

-- they stand in the order of their last turns
pub in_the_order_of_turns : (turns vain).awaiting ≡ 2 ∷ 1 ∷ []
in_the_order_of_turns = refl

-- a thread that accepts goes behind what is ready
pub behind_the_ready : (given_to 0 (Ok []) (turns accepting)).ready ≡ 1 ∷ 2 ∷ 0 ∷ []
behind_the_ready = refl

-- ---- an accept that an exception leaves

-- try accept o on l do raise FAILED; end; when FAILED do end; end
abbrev leaving : List Instruction
leaving = code.Try 4 ∷ code.LoadG 0 ∷ code.Accept 0 ∷ code.Raise exceptions.Failed ∷ code.Case exceptions.Failed 6 ∷ code.End ∷ code.Again ∷ []

abbrev accepted : Beat
accepted = runs leaving 9 start

abbrev left : Beat
left = runs leaving 6 (given_to 0 (Ok []) (turns accepted))

pub it_is_closed : stopped left ≡ Some (Act 0 Close, 5)
it_is_closed = refl

-- the thread keeps its turn, and goes on at the handlers
pub it_is_handled : stopped (runs leaving 5 (given_to 0 (Ok []) (turns left))) ≡ Some (Finished, 3)
it_is_handled = refl

-- ---- an exception that leaves two requests

-- the entry: accept o on l do raise FAILED; end; the body ends
abbrev through : List Instruction
through = code.End ∷ code.LoadG 0 ∷ code.Accept 0 ∷ code.Raise exceptions.Failed ∷ []

abbrev entered : Beat
entered = runs through 9 (spawned 1 (0 ∷ []) 1 [] start)

abbrev inner : Beat
inner = runs through 6 (given_to 1 (Ok []) (turns entered))

pub the_inner_one_is_closed : stopped inner ≡ Some (Act 1 Close, 5)
the_inner_one_is_closed = refl

-- the instruction goes on, without fuel
abbrev outer : Beat
outer = runs through 5 (given_to 1 (Ok []) (turns inner))

pub the_outer_one_is_closed : stopped outer ≡ Some (Act 1 Close, 5)
the_outer_one_is_closed = refl

pub it_has_left_both : stopped (runs through 5 (given_to 1 (Ok []) (turns outer))) ≡ Some (Finished, 5)
it_has_left_both = refl

-- ---- a close that raises in place of the exception that leaves its request

-- an entry of operation 1: try accept o on l do raise FAILED; end; when NOLINK do end; end; the body ends
abbrev replacing : List Instruction
replacing =
    code.End ∷ code.Try 5 ∷ code.LoadG 0 ∷ code.Accept 0 ∷ code.Raise exceptions.Failed ∷ code.Case exceptions.NoLink 7 ∷ code.End ∷ code.Again ∷ []

abbrev opening : Beat
opening = runs replacing 9 (spawned 1 (1 ∷ []) 1 [] start)

pub it_accepts : stopped opening ≡ Some (Act 1 (Accept (Link 1) 0), 5)
it_accepts = refl

abbrev raising : Beat
raising = runs replacing 5 (given_to 1 (Ok []) (turns opening))

pub it_leaves_the_inner_one : stopped raising ≡ Some (Act 1 Close, 4)
it_leaves_the_inner_one = refl

pub both_were_open : requests 1 raising ≡ 0 ∷ 1 ∷ []
both_were_open = refl

-- the handler of what the close raised is found, and the end closes the entry's own
abbrev ending : Beat
ending = runs replacing 4 (given_to 1 (Err exceptions.NoLink) (turns raising))

pub it_closes_its_own : stopped ending ≡ Some (Act 1 Close, 2)
it_closes_its_own = refl

pub its_own_was_open : requests 1 ending ≡ 1 ∷ []
its_own_was_open = refl

-- what the last close is given changes nothing
pub it_has_ended : stopped (runs replacing 2 (given_to 1 (Err exceptions.Failed) (turns ending))) ≡ Some (Finished, 2)
it_has_ended = refl
