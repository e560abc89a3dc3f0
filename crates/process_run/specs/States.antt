-- A process between two steps: its threads, what it keeps for its ends, and what it asked.
use Rattle.std.specs.Prelude.{ℕ, ◌+◌, false, Bool, List, [], ◌∷◌, map, replicate}
use Rattle.charlotte_calls.specs.declared.names.EndId.{EndId}
use Rattle.lynx_code.specs.declared.code.Code.{Code}
use Rattle.lynx_code.specs.declared.instruction.Instruction.{Instruction}
use Rattle.code_shapes.specs.Shapes.{ModuleTypes, PartTypes, code_types, code_parts}
use Rattle.machine_turns.specs.Turns.{Turns, at_start, most_threads}
use Rattle.machine_values.specs.declared.value.LinkRef.{LinkRef}
use Rattle.lynx_interp.specs.Machines.{start_globals}
use Rattle.end_protocol.specs.declared.kept.Kept.{Kept}
use Rattle.end_protocol.specs.Kept.{fresh}
use Rattle.end_protocol.specs.Deeds.{Deed}

-- ---- ends

pub data Holding : Type 0 where
  -- the process holds the end, and keeps this for it
  Keeps : Kept → Holding
  -- It does not hold it, since it was sent away or destroyed. Whether a send was started then whose ends were the process's own
  Gone : Bool → Holding

-- an end that the process got
pub record Place : Type 0 where
  pub end : EndId
  pub holding : Holding

-- an end that the process holds, with its number and with what is kept for it
pub record Held : Type 0 where
  pub number : ℕ
  pub end : EndId
  pub kept : Kept

-- ---- requests

-- a request that is open in a thread: the number of the end on which it was accepted, its own, and whether it was answered
pub record Open : Type 0 where
  pub on : ℕ
  pub number : ℕ
  pub answered : Bool

-- ---- calls

-- What a process asked in its last step, and for what. Threads and ends are named by their numbers
pub data Asked : Type 0 where
  -- nothing: it is at its start, or after a pause
  Nothing : Asked
  Make : ℕ → Asked
  Print : ℕ → Asked
  Destroy : Asked
  Send : ℕ → Asked
  Receive : ℕ → Asked
  Cancel : ℕ → Asked
  Wait : Asked
  Exit : Asked

-- ---- processes

-- the code of a module
pub record Module : Type 0 where
  pub instructions : List Instruction
  pub types : ModuleTypes
  -- the body, and then the entries
  pub parts : List PartTypes
  -- those of the operations
  pub signatures : List (List ℕ)

pub record State : Type 0 where
  pub version : ℕ
  pub code : Module
  pub turns : Turns
  -- the ends that it got, in the order of their numbers, which begin at 1
  pub places : List Place
  -- the requests that are open in each thread, the innermost one first
  pub opened : List (List Open)
  -- the ends that it destroys before it does anything else
  pub doomed : List EndId
  pub asked : Asked
  -- a thread asked for `stop`, or nothing is left to be reported
  pub over : Bool

-- ---- the start

abbrev pub module_of : Code → Module
module_of code =
    record {
      instructions = code.instructions.items;
      types = code_types code;
      parts = code_parts code;
      signatures = map (λ op. op.signature.items) code.ops.items;
    }

-- the numbers of these ends, from this one on
abbrev pub links_from : ℕ → List EndId → List LinkRef
links_from n [] = []
links_from n (x ∷ xs) = record { 0 = n } ∷ links_from (n + 1) xs

-- the params of the module hold these ends
abbrev pub start_of : ℕ → Module → List EndId → State
start_of version m xs =
    record {
      version = version;
      code = m;
      turns = at_start (start_globals m.types.globals (links_from 1 xs));
      places = map (λ x. record { end = x; holding = Keeps fresh }) xs;
      opened = replicate most_threads [];
      doomed = [];
      asked = Nothing;
      over = false;
    }

abbrev pub start : ℕ → Code → List EndId → State
start version code xs = start_of version (module_of code) xs

-- ---- what is done

-- a deed on an end
pub record DeedOn : Type 0 where
  pub on : EndId
  pub deed : Deed

-- the state that something leaves, and the deeds of it
pub record Done : Type 0 where
  pub state : State
  pub deeds : List DeedOn

abbrev pub quietly : State → Done
quietly s = record { state = s; deeds = [] }

abbrev pub deeds_on : EndId → List Deed → List DeedOn
deeds_on x ds = map (λ d. record { on = x; deed = d }) ds
