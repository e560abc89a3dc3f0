-- What a thread does, by its code: at most m instructions.
use Rattle.std.specs.Prelude.{ℕ, ℤ, zero, suc, ◌+◌, ◌-◌, List, [], ◌∷◌, ◌++◌, length, map, reverse, take, drop, Bool, true, false, not}
use Rattle.std.specs.Prelude.{nat_lt, nat_le, int_le, int_lt, if◌then◌else◌, Option, None, Some, Result, Ok, Err, slice_get, slice_set}
use Rattle.std.specs.Str.{bytes_eq}
use Rattle.lynx_tree.specs.Trees.{ModuleTree}
use Rattle.lynx_code.specs.Modules.{module_code}
use Rattle.lynx_code.specs.declared.instruction.Instruction.{Instruction}
use Rattle.lynx_code.specs.declared.instruction.Instruction.TheVariants as code
use Rattle.lynx_code.specs.declared.instruction.Literal.{Literal}
use Rattle.lynx_code.specs.declared.instruction.Literal.TheVariants as literal
use Rattle.typing_rules.specs.Exceptions.{exception_text}
use Rattle.typing_rules.specs.declared.exception.Exception.{Exception}
use Rattle.lynx_meaning.specs.Courses.{Action, Answer, Moment, Behaviour, Store, New, Destroy, Bind, Unbind, Connect, Outcome}
use Rattle.lynx_meaning.specs.Courses.{Accept, Close, Reply, Write, Await, Stop, Ended, Waits, Out, after}
use Rattle.lynx_meaning.specs.Values.{Value, Int, Truth, Text, Row, Link, Given, add, subtract, multiply}
use Rattle.lynx_meaning.specs.Values.{divide, reduce, negate, truth_eq, value_eq, member, with_member, written}

-- ---- threads

-- an open try: where its handlers begin, and how high the stack stood and how many requests were open as it was opened
pub record Opened : Type 0 where
  pub handlers : ℕ
  pub height : ℕ
  pub depth : ℕ

-- a thread before an instruction
pub record Thread : Type 0 where
  pub address : ℕ
  -- the operands, the last one first
  pub stack : List Value
  -- the open tries, the innermost one first
  pub tries : List Opened
  -- the operations of the open requests, the innermost one first
  pub requests : List ℕ
  -- the exception that handlers look at
  pub pending : Option Exception
  pub moment : Moment

-- the code that threads run
pub record Program : Type 0 where
  pub instructions : List Instruction
  -- how many arguments each operation has
  pub arguments : List ℕ

abbrev pub program_of : ModuleTree → Program
program_of m = record { instructions = module_code m; arguments = map (λ op. length op.arguments) m.ops }

-- what code comes to: a behaviour, or an instruction finds no operand, one of a wrong kind, or an address that is not there
pub data CodeBehaviour : Type 0 where
  Comes : Behaviour → CodeBehaviour
  Stuck : CodeBehaviour

-- what comes after an instruction
pub data Next : Type 0 where
  Goes : Thread → Next
  Over : CodeBehaviour → Next

abbrev pub stuck : Next
stuck = Over Stuck

-- ---- actions

-- an action, and what comes with what it is given
abbrev pub takes_outcome : Moment → Action → List Answer → (Outcome → Moment → Next) → Next
takes_outcome m action [] next = Over (Comes (Waits (m.actions ++ action ∷ []) m.store))
takes_outcome m action (a ∷ rest) next = next a.given (after m action a rest)

abbrev pub with_outcome : Moment → Action → (Outcome → Moment → Next) → Next
with_outcome m action next = takes_outcome m action m.answers next

-- ---- the end, and exceptions

-- each open request is closed, the innermost one first, and then the thread ends; what the closes are given changes nothing
abbrev pub ends : List ℕ → Moment → Next
ends [] m = Over (Comes (Ended m.actions m.store))
ends (op ∷ requests) m = with_outcome m Close (λ given now. ends requests now)

-- one that an action raises takes the place of one that is under way
abbrev pub instead : Outcome → Exception → Exception
instead (Ok vs) exception = exception
instead (Err other) exception = other

-- so many requests are closed, while an exception is under way
abbrev pub closes : ℕ → Exception → Moment → (Exception → Moment → Next) → Next
closes zero exception m next = next exception m
closes (suc k) exception m next = with_outcome m Close (λ given now. closes k (instead given exception) now next)

-- the lowest ones of a stack
abbrev pub cut : {X : Type 0} → ℕ → List X → List X
cut height stack = drop (length stack - height) stack

-- an exception goes to the handlers of the innermost open try, which is then closed; where none is open, the thread ends
abbrev pub raises_in : Exception → Thread → List Opened → Next
raises_in exception t [] = ends t.requests t.moment
raises_in exception t (o ∷ os) =
    closes (length t.requests - o.depth) exception t.moment
    (λ other now. Goes (record {
      address = o.handlers;
      stack = cut o.height t.stack;
      tries = os;
      requests = cut o.depth t.requests;
      pending = Some other;
      moment = now;
    }))

abbrev pub raises : Exception → Thread → Next
raises exception t = raises_in exception t t.tries

-- ---- going on

abbrev pub jumps : ℕ → List Value → Thread → Next
jumps address stack t = Goes (record t { address = address; stack = stack })

-- to the next instruction, with this stack
abbrev pub goes : List Value → Thread → Next
goes stack t = jumps (t.address + 1) stack t

-- with what an operator gives on this stack, or the exception that it raises
abbrev pub gives : Given → List Value → Thread → Next
gives (Ok v) stack t = goes (v ∷ stack) t
gives (Err exception) stack t = raises exception t

-- the values that an action is given come on the stack in their order; the thread may change besides
abbrev pub answered : Outcome → (Thread → Thread) → Thread → Next
answered (Ok vs) change t = goes (reverse vs ++ t.stack) (change t)
answered (Err exception) change t = raises exception t

-- an action, for which operands were taken from the stack
abbrev pub asks : Action → List Value → Thread → (Thread → Thread) → Next
asks action stack t change = with_outcome t.moment action (λ given now. answered given change (record t { moment = now; stack = stack }))

-- ---- variables

-- the variables of the module, or of the entry
pub data Kind : Type 0 where
  Global : Kind
  Local : Kind

abbrev pub variables : Kind → Thread → List Value
variables Global t = t.moment.store.globals
variables Local t = t.moment.store.locals

abbrev pub with_variables : Kind → List Value → Thread → Thread
with_variables Global vs t = record t { moment = record t.moment { store = record t.moment.store { globals = vs } } }
with_variables Local vs t = record t { moment = record t.moment { store = record t.moment.store { locals = vs } } }

abbrev pub loads : Option Value → Thread → Next
loads None t = stuck
loads (Some v) t = goes (v ∷ t.stack) t

abbrev pub stores : Kind → ℕ → List Value → Thread → Next
stores kind slot [] t = stuck
stores kind slot (v ∷ stack) t =
    if nat_lt slot (length (variables kind t)) then goes stack (with_variables kind (slice_set (variables kind t) slot v) t) else stuck

-- a member of a row
abbrev pub loads_member : Option Value → List Value → Thread → Next
loads_member (Some (Row row)) (Int index ∷ stack) t = gives (member row index) stack t
loads_member _ _ t = stuck

abbrev pub puts : Kind → ℕ → Result (List ℤ) Exception → List Value → Thread → Next
puts kind slot (Ok row) stack t = goes stack (with_variables kind (slice_set (variables kind t) slot (Row row)) t)
puts kind slot (Err exception) stack t = raises exception t

abbrev pub stores_member : Kind → ℕ → Option Value → List Value → Thread → Next
stores_member kind slot (Some (Row row)) (Int v ∷ Int index ∷ stack) t = puts kind slot (with_member row index v) stack t
stores_member kind slot _ _ t = stuck

-- ---- operators

abbrev pub two_ints : (ℤ → ℤ → Given) → Thread → List Value → Next
two_ints operator t (Int b ∷ Int a ∷ stack) = gives (operator a b) stack t
two_ints operator t _ = stuck

-- numbers, truths or texts
abbrev pub two_alike : (Value → Value → Bool) → Thread → List Value → Next
two_alike test t (Int b ∷ Int a ∷ stack) = goes (Truth (test (Int a) (Int b)) ∷ stack) t
two_alike test t (Truth b ∷ Truth a ∷ stack) = goes (Truth (test (Truth a) (Truth b)) ∷ stack) t
two_alike test t (Text b ∷ Text a ∷ stack) = goes (Truth (test (Text a) (Text b)) ∷ stack) t
two_alike test t _ = stuck

abbrev pub compares : (ℤ → ℤ → Bool) → Thread → List Value → Next
compares test t (Int b ∷ Int a ∷ stack) = goes (Truth (test a b) ∷ stack) t
compares test t _ = stuck

abbrev pub one_int : (ℤ → Given) → Thread → List Value → Next
one_int operator t (Int a ∷ stack) = gives (operator a) stack t
one_int operator t _ = stuck

-- by the truth that stands on the stack
abbrev pub by_truth : (Bool → List Value → Next) → List Value → Next
by_truth next (Truth b ∷ stack) = next b stack
by_truth next _ = stuck

-- a number, truth or text is written
abbrev pub writes : (List ℕ → List Value → Next) → List Value → Next
writes next (Int n ∷ stack) = next (written (Int n)) stack
writes next (Truth b ∷ stack) = next (written (Truth b)) stack
writes next (Text bytes ∷ stack) = next (written (Text bytes)) stack
writes next _ = stuck

-- so many values, in the order in which they came on the stack
abbrev pub by_values : ℕ → (List Value → List Value → Next) → List Value → Next
by_values k next stack = if nat_le k (length stack) then next (reverse (take k stack)) (drop k stack) else stuck

abbrev pub by_link : (Value → List Value → Next) → List Value → Next
by_link next (Link n ∷ stack) = next (Link n) stack
by_link next _ = stuck

-- a chain is decided by this truth, which stays
abbrev pub decides : Bool → ℕ → Thread → Next
decides truth address t = by_truth (λ b stack. if truth_eq truth b then jumps address t.stack t else goes stack t) t.stack

abbrev pub value_of_literal : Literal → Value
value_of_literal (literal.Int n) = Int n
value_of_literal (literal.Bool b) = Truth b
value_of_literal (literal.Text bytes) = Text bytes

-- ---- instructions

abbrev pub untries : List Opened → Thread → Next
untries [] t = stuck
untries (o ∷ os) t = goes t.stack (record t { tries = os })

-- a handler of this exception; where another one is pending, the next handler begins at this address
abbrev pub handles : Exception → ℕ → Option Exception → Thread → Next
handles exception address None t = stuck
handles exception address (Some pending) t =
    if bytes_eq (exception_text pending) (exception_text exception) then goes t.stack t else jumps address t.stack t

abbrev pub again : Option Exception → Thread → Next
again None t = stuck
again (Some exception) t = raises exception t

abbrev pub connects : ℕ → Option ℕ → Thread → Next
connects op None t = stuck
connects op (Some arguments) t =
    by_link (λ link below. by_values arguments (λ vs stack. asks (Connect link op vs) stack t (λ now. now)) below) t.stack

-- the innermost open request is closed
abbrev pub closes_request : List ℕ → Thread → Next
closes_request [] t = stuck
closes_request (op ∷ requests) t = asks Close t.stack (record t { requests = requests }) (λ now. now)

-- after an await with false
abbrev pub tries_again : ℕ → Outcome → Thread → Next
tries_again address (Ok vs) t = jumps address t.stack t
tries_again address (Err exception) t = raises exception t

abbrev pub step : Program → Thread → Instruction → Next
step p t (code.Push l) = goes (value_of_literal l ∷ t.stack) t
step p t (code.LoadG slot) = loads (slice_get (variables Global t) slot) t
step p t (code.LoadL slot) = loads (slice_get (variables Local t) slot) t
step p t (code.AtG slot) = loads_member (slice_get (variables Global t) slot) t.stack t
step p t (code.AtL slot) = loads_member (slice_get (variables Local t) slot) t.stack t
step p t (code.StoreG slot) = stores Global slot t.stack t
step p t (code.StoreL slot) = stores Local slot t.stack t
step p t (code.PutG slot) = stores_member Global slot (slice_get (variables Global t) slot) t.stack t
step p t (code.PutL slot) = stores_member Local slot (slice_get (variables Local t) slot) t.stack t
step p t code.Add = two_ints add t t.stack
step p t code.Sub = two_ints subtract t t.stack
step p t code.Mul = two_ints multiply t t.stack
step p t code.Div = two_ints divide t t.stack
step p t code.Mod = two_ints reduce t t.stack
step p t code.Neg = one_int negate t t.stack
step p t code.Eq = two_alike value_eq t t.stack
step p t code.Ne = two_alike (λ a b. not (value_eq a b)) t t.stack
step p t code.Lt = compares int_lt t t.stack
step p t code.Le = compares int_le t t.stack
step p t code.Gt = compares (λ a b. int_lt b a) t t.stack
step p t code.Ge = compares (λ a b. int_le b a) t t.stack
step p t code.Not = by_truth (λ b stack. goes (Truth (not b) ∷ stack) t) t.stack
step p t (code.AndJ address) = decides false address t
step p t (code.OrJ address) = decides true address t
step p t (code.JumpF address) = by_truth (λ b stack. if b then goes stack t else jumps address stack t) t.stack
step p t (code.Jump address) = jumps address t.stack t
step p t (code.Await address) =
    by_truth (λ b stack. if b then goes stack t
    else with_outcome t.moment Await (λ given now. tries_again address given (record t { moment = now; stack = stack }))) t.stack
step p t (code.Try address) =
    goes t.stack (record t { tries = record { handlers = address; height = length t.stack; depth = length t.requests } ∷ t.tries })
step p t code.Untry = untries t.tries t
step p t (code.Case exception address) = handles exception address t.pending t
step p t code.Again = again t.pending t
step p t (code.Raise exception) = raises exception t
step p t code.Write = writes (λ text stack. asks (Write text) stack t (λ now. now)) t.stack
step p t code.New = asks New t.stack t (λ now. now)
step p t code.Destroy = by_link (λ link stack. asks (Destroy link) stack t (λ now. now)) t.stack
step p t (code.Bind entry) = by_link (λ link stack. asks (Bind link entry) stack t (λ now. now)) t.stack
step p t (code.Unbind entry) = by_link (λ link stack. asks (Unbind link entry) stack t (λ now. now)) t.stack
step p t (code.Connect op) = connects op (slice_get p.arguments op) t
step p t (code.Accept op) =
    by_link (λ link stack. asks (Accept link op) stack t (λ now. record now { requests = op ∷ now.requests })) t.stack
step p t code.Close = closes_request t.requests t
step p t (code.Reply k) = by_values k (λ vs stack. asks (Reply vs) stack t (λ now. now)) t.stack
step p t code.Stop = Over (Comes (Waits (t.moment.actions ++ Stop ∷ []) t.moment.store))
step p t code.End = ends t.requests t.moment

-- ---- open requests

-- those that are open behind an action with this outcome: values for an accept open one, and a close is of the innermost one
abbrev pub open_after : Action → Outcome → List ℕ → List ℕ
open_after (Accept link op) (Ok values) requests = op ∷ requests
open_after Close outcome requests = drop 1 requests
open_after action outcome requests = requests

-- behind actions with these outcomes; one that has no outcome yet changes nothing
abbrev pub open_behind : List Action → List (Outcome) → List ℕ → List ℕ
open_behind (action ∷ actions) (outcome ∷ outcomes) requests = open_behind actions outcomes (open_after action outcome requests)
open_behind _ _ requests = requests

-- ---- runs

-- what comes after the instruction at the thread's address
abbrev pub fetched : Program → Thread → Option Instruction → Next
fetched p t None = stuck
fetched p t (Some i) = step p t i

abbrev pub next_of : Program → Thread → Next
next_of p t = fetched p t (slice_get p.instructions t.address)

abbrev pub go_on : Next → (Thread → CodeBehaviour) → CodeBehaviour
go_on (Goes t) next = next t
go_on (Over behaviour) next = behaviour

-- at most so many instructions
abbrev pub exec : Program → ℕ → Thread → CodeBehaviour
exec p zero t = Comes (Out t.moment.actions)
exec p (suc m) t = go_on (next_of p t) (λ now. exec p m now)

-- a thread before the first instruction of its part, with these requests open
abbrev pub begins : List ℕ → ℕ → Store → List Answer → Thread
begins requests start store answers =
    record {
      address = start;
      stack = [];
      tries = [];
      requests = requests;
      pending = None;
      moment = record { store = store; answers = answers; actions = [] };
    }

-- The meaning of a part that starts at this address with these requests open, with at most m instructions.
abbrev pub code_meaning : Program → List ℕ → ℕ → ℕ → Store → List Answer → CodeBehaviour
code_meaning p requests start m store answers = exec p m (begins requests start store answers)
