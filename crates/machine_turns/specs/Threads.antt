-- A thread that stands, and what comes of its instruction in its turn.
use Rattle.std.specs.Prelude.{ℕ, zero, suc, ◌-◌, List, [], ◌∷◌, ◌++◌, length, map, nat_eq, Bool, true}
use Rattle.std.specs.Prelude.{false, not, ◌&&◌, if◌then◌else◌, Option, None, Some, Ok, slice_get}
use Rattle.lynx_code.specs.declared.instruction.Instruction.{Instruction}
use Rattle.lynx_code.specs.declared.instruction.Instruction.TheVariants as code
use Rattle.typing_rules.specs.declared.exception.Exception.{Exception}
use Rattle.lynx_meaning.specs.Code.{Comes, Stuck, Next, Goes, Over, Opened, Program, Thread, next_of}
use Rattle.lynx_meaning.specs.Courses.{Action, Answer, Outcome, Await, Ended, Waits, Out}
use Rattle.lynx_meaning.specs.Needs.{Wanted, wanted_by}
use Rattle.lynx_meaning.specs.Values.{Value}

-- ---- threads that stand

-- a thread that stands before the instruction at its address
pub record Standing : Type 0 where
  pub address : ℕ
  -- the variables of its part
  pub locals : List Value
  -- the operands, the last one first
  pub stack : List Value
  -- the open tries, the innermost one first
  pub tries : List Opened
  -- the operations of the requests that were open before the instruction, the innermost one first
  pub requests : List ℕ
  -- the exception that handlers look at
  pub pending : Option Exception
  -- what the instruction has been given so far
  pub given : List Outcome
  -- what its action needs that has no outcome yet
  pub wanted : Option Wanted
  -- it evaluates once more the condition of an await that found false
  pub again : Bool

-- a thread on the part that begins at this address, with these open requests and these variables
abbrev pub begun : List ℕ → ℕ → List Value → Standing
begun requests start locals =
    record {
      address = start;
      locals = locals;
      stack = [];
      tries = [];
      requests = requests;
      pending = None;
      given = [];
      wanted = None;
      again = false;
    }

-- ---- a thread in its turn

-- what the instruction was given, with the variables of the module as they stand
abbrev pub answers : List Value → List Outcome → List Answer
answers globals given = map (λ g. record { given = g; globals = globals }) given

-- the thread in its turn: it sees the variables of the module, and its instruction what it was given
abbrev pub in_turn : List Value → Standing → Thread
in_turn globals s =
    record {
      address = s.address;
      stack = s.stack;
      tries = s.tries;
      requests = s.requests;
      pending = s.pending;
      moment = record { store = record { globals = globals; locals = s.locals }; answers = answers globals s.given; actions = [] };
    }

-- its instruction, by the meaning of code
abbrev pub goes_on : Program → List Value → Standing → Next
goes_on p globals s = next_of p (in_turn globals s)

-- ---- what comes of an instruction

abbrev pub last_action : List Action → Option Action
last_action [] = None
last_action (a ∷ []) = Some a
last_action (a ∷ b ∷ rest) = last_action (b ∷ rest)

abbrev pub is_empty : List Outcome → Bool
is_empty [] = true
is_empty (o ∷ os) = false

-- the instruction begins
abbrev pub is_fresh : Standing → Bool
is_fresh s = is_empty s.given

abbrev pub is_await : Option Instruction → Bool
is_await (Some (code.Await address)) = true
is_await _ = false

-- a try again begins with an await that went on after it found false, and is over at the next await, or where a `try` is opened or closed
abbrev pub tries_again : Bool → Standing → Thread → Bool
tries_again awaits s now = (if awaits then not (is_fresh s) else s.again) && nat_eq (length s.tries) (length now.tries)

-- before its next instruction
abbrev pub stands_at : Thread → Bool → Standing → Standing
stands_at now again s =
    record s {
      address = now.address;
      locals = now.moment.store.locals;
      stack = now.stack;
      tries = now.tries;
      requests = now.requests;
      pending = now.pending;
      given = [];
      wanted = None;
      again = again;
    }

-- what comes of an instruction, which leaves these variables of the module
pub data Made : Type 0 where
  -- the thread goes on
  Went : List Value → Standing → Made
  -- it asks for this
  Acts : Action → List Value → Standing → Made
  -- an await found false
  Awaits : List Value → Standing → Made
  Ends : List Value → Made
  -- no code of a module comes to this
  Broken : Made

-- an await is given no value; any other action has no outcome yet
abbrev pub acted : Option Action → List Value → Standing → Made
acted None globals s = Broken
acted (Some Await) globals s = Awaits globals (record s { given = s.given ++ Ok [] ∷ [] })
acted (Some a) globals s = Acts a globals (record s { wanted = Some (wanted_by a) })

abbrev pub made : Bool → Standing → Next → Made
made awaits s (Goes now) = Went now.moment.store.globals (stands_at now (tries_again awaits s now) s)
made awaits s (Over (Comes (Waits actions store))) = acted (last_action actions) store.globals s
made awaits s (Over (Comes (Ended actions store))) = Ends store.globals
made awaits s (Over (Comes (Out actions))) = Broken
made awaits s (Over Stuck) = Broken

-- of the instruction of a thread, with these variables of the module
abbrev pub comes_of : Program → List Value → Standing → Made
comes_of p globals s = made (is_await (slice_get p.instructions s.address)) s (goes_on p globals s)

-- an instruction that begins takes one unit of fuel, and what it does after an action none
abbrev pub fuel_after : ℕ → Standing → ℕ
fuel_after fuel s = if is_fresh s then fuel - 1 else fuel

-- ---- one thread alone

-- what comes next where the thread goes on
abbrev pub if_went : {X : Type 0} → Made → (List Value → Standing → X) → (Made → X) → X
if_went (Went globals s) next over = next globals s
if_went (Acts a globals s) next over = over (Acts a globals s)
if_went (Awaits globals s) next over = over (Awaits globals s)
if_went (Ends globals) next over = over (Ends globals)
if_went Broken next over = over Broken

-- at most so many instructions one after the other: the fuel that is left, and what comes of the last one
abbrev pub course : Program → ℕ → ℕ → List Value → Standing → ℕ × Made
course p zero fuel globals s = (fuel, Went globals s)
course p (suc k) zero globals s = (zero, Went globals s)
course p (suc k) (suc fuel) globals s =
    if_went (comes_of p globals s) (λ now t. course p k (fuel_after (suc fuel) s) now t) (λ last. (fuel_after (suc fuel) s, last))
