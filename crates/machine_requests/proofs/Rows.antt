-- Which requests are open at each stop of two small runs.
use Rattle.std.specs.Prelude.{◌≡◌, ℕ, List, [], ◌∷◌, Option, None, Some, Ok, Err, refl}
use Rattle.typing_rules.specs.declared.exception.Exception.TheVariants as exceptions
use Rattle.lynx_code.specs.declared.instruction.Instruction.{Instruction}
use Rattle.lynx_code.specs.declared.instruction.Instruction.TheVariants as code
use Rattle.lynx_meaning.specs.Code.{Program}
use Rattle.lynx_meaning.specs.Courses.{Outcome, Accept, Close}
use Rattle.lynx_meaning.specs.Values.{Link}
use Rattle.machine_turns.specs.Turns.{Turns, Beat, Stop, RunsOn, Stops, Broken, Act, Finished, at_start, spawned, given_to, beats}
use Rattle.machine_requests.specs.Open.{open_of}

-- code with an operation 0
abbrev program : List Instruction → Program
program is = record { instructions = is; arguments = 0 ∷ [] }

-- the body ends at once, and the entry of the operation 1 begins behind it
abbrev begin : Turns
begin = spawned 1 (1 ∷ []) 1 [] (at_start (Link 1 ∷ []))

-- how a run of at most eight beats stops, and the requests that are open then in the entry's thread
abbrev seen : List Instruction → Beat → Option (Stop × List ℕ)
seen is (Stops stop left t) = Some (stop, open_of is 1 t)
seen is _ = None

abbrev turns : Beat → Turns
turns (RunsOn left t) = t
turns (Stops stop left t) = t
turns Broken = begin

abbrev runs : List Instruction → Turns → Beat
runs is t = beats (program is) 8 (RunsOn 9 t)

abbrev given : Outcome → Beat → Turns
given o b = given_to 1 o (turns b)

abbrev first : List Instruction → Beat
first is = runs is begin

abbrev next : List Instruction → Outcome → Beat → Beat
next is o b = runs is (given o b)

-- ---- an exception that leaves two requests

-- accept o on l do raise FAILED; end
abbrev through : List Instruction
through = code.End ∷ code.LoadG 0 ∷ code.Accept 0 ∷ code.Raise exceptions.Failed ∷ []

pub it_accepts : seen through (first through) ≡ Some (Act 1 (Accept (Link 1) 0), 1 ∷ [])
it_accepts = refl

pub two_are_open : open_of through 1 (given (Ok []) (first through)) ≡ 0 ∷ 1 ∷ []
two_are_open = refl

abbrev inner : Beat
inner = next through (Ok []) (first through)

pub the_inner_one_is_open_until_it_is_closed : seen through inner ≡ Some (Act 1 Close, 0 ∷ 1 ∷ [])
the_inner_one_is_open_until_it_is_closed = refl

-- whatever the close is given
pub one_is_left : open_of through 1 (given (Err exceptions.DeadLink) inner) ≡ 1 ∷ []
one_is_left = refl

abbrev outer : Beat
outer = next through (Err exceptions.DeadLink) inner

-- amid the same instruction
pub the_outer_one_is_open_still : seen through outer ≡ Some (Act 1 Close, 1 ∷ [])
the_outer_one_is_open_still = refl

pub none_is_left : open_of through 1 (given (Ok []) outer) ≡ []
none_is_left = refl

pub the_thread_ends : seen through (next through (Ok []) outer) ≡ Some (Finished, [])
the_thread_ends = refl

-- ---- the same in a try

-- try accept o on l do raise FAILED; end; when FAILED do end
abbrev within : List Instruction
within = code.End ∷ code.Try 5 ∷ code.LoadG 0 ∷ code.Accept 0 ∷ code.Raise exceptions.Failed ∷ code.Case exceptions.Failed 7 ∷ code.End ∷ code.Again ∷ []

abbrev left : Beat
left = next within (Ok []) (first within)

pub it_leaves_the_inner_one : seen within left ≡ Some (Act 1 Close, 0 ∷ 1 ∷ [])
it_leaves_the_inner_one = refl

-- the handler ends the entry, whose own request is closed
pub it_is_handled : seen within (next within (Ok []) left) ≡ Some (Act 1 Close, 1 ∷ [])
it_is_handled = refl

-- ---- an accept that raises

abbrev refused : Beat
refused = next through (Err exceptions.DeadLink) (first through)

pub it_opens_none : open_of through 1 (given (Err exceptions.DeadLink) (first through)) ≡ 1 ∷ []
it_opens_none = refl

pub its_own_is_closed : seen through refused ≡ Some (Act 1 Close, 1 ∷ [])
its_own_is_closed = refl

pub then_none_is_open : open_of through 1 (given (Ok []) refused) ≡ []
then_none_is_open = refl
