-- Which requests are open in a thread that stands, amid its instruction too.
use Rattle.std.specs.Prelude.{ℕ, List, [], ◌∷◌, drop, Option, Some, Ok, slice_get}
use Rattle.lynx_code.specs.declared.instruction.Instruction.{Instruction}
use Rattle.lynx_code.specs.declared.instruction.Instruction.TheVariants as code
use Rattle.lynx_meaning.specs.Courses.{Outcome}
use Rattle.lynx_meaning.specs.Needs.{Wanted, NoValue, Closing, TwoLinks, Results, Arguments}
use Rattle.machine_turns.specs.Threads.{Standing}
use Rattle.machine_turns.specs.Turns.{Turns}

-- what the first action of an instruction needs; one that acts only where it raises an exception, or ends, begins with a close
abbrev pub first_wanted : Option Instruction → Wanted
first_wanted (Some code.New) = TwoLinks
first_wanted (Some (code.Connect op)) = Results op
first_wanted (Some (code.Accept op)) = Arguments op
first_wanted (Some code.Destroy) = NoValue
first_wanted (Some (code.Bind entry)) = NoValue
first_wanted (Some (code.Unbind entry)) = NoValue
first_wanted (Some (code.Reply k)) = NoValue
first_wanted (Some code.Write) = NoValue
first_wanted (Some (code.Await address)) = NoValue
first_wanted (Some code.Stop) = NoValue
first_wanted _ = Closing

-- and each later one: it is a close, but a stop is only asked for again
abbrev pub later_wanted : Option Instruction → Wanted
later_wanted (Some code.Stop) = NoValue
later_wanted _ = Closing

-- the action that needs this has this outcome: values for an accept open a request, and any outcome of a close ends the innermost one
abbrev pub opens : Wanted → Outcome → List ℕ → List ℕ
opens (Arguments op) (Ok values) requests = op ∷ requests
opens Closing outcome requests = drop 1 requests
opens _ outcome requests = requests

-- behind these outcomes, where the first action needs the one and each later action the other
abbrev pub open_given : Wanted → Wanted → List Outcome → List ℕ → List ℕ
open_given first later [] requests = requests
open_given first later (o ∷ os) requests = open_given later later os (opens first o requests)

-- amid this instruction, which was given so much
abbrev pub open_amid : Option Instruction → List Outcome → List ℕ → List ℕ
open_amid i given requests = open_given (first_wanted i) (later_wanted i) given requests

abbrev pub open_in : List Instruction → Option (Option Standing) → List ℕ
open_in instructions (Some (Some s)) = open_amid (slice_get instructions s.address) s.given s.requests
open_in instructions _ = []

-- The operations of the requests that are open in the thread of this number, the innermost one first; where none stands, none is open.
abbrev pub open_of : List Instruction → ℕ → Turns → List ℕ
open_of instructions n t = open_in instructions (slice_get t.threads n)
