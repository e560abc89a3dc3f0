-- A thread that was given something never finds false at an await: so it takes fuel, or comes behind its instruction.
use Rattle.std.proofs.Common.{◌≡◌, ℕ, ℤ, zero, suc, ◌-◌, List, [], ◌∷◌, ◌++◌, Bool, true, false, not, nat_lt, nat_le, int_le, int_lt, if◌then◌else◌, Option, Some, None, Result, Ok, Err, length, reverse, take, drop, slice_get, slice_set, bytes_eq, refl, sym, ◌∙◌, subst}
use Rattle.lynx_code.specs.declared.instruction.Instruction.{Instruction}
use Rattle.lynx_code.specs.declared.instruction.Instruction.TheVariants as code
use Rattle.typing_rules.specs.Exceptions.{exception_text}
use Rattle.typing_rules.specs.declared.exception.Exception.{Exception}
use Rattle.lynx_meaning.specs.Code.{Next, Goes, Over, Comes, Stuck, Opened, Program, Kind, Global, Local, Thread, with_outcome, takes_outcome, again, answered, asks, by_link, by_truth, by_values, closes, compares, connects, cut, decides, ends, gives, goes}
use Rattle.lynx_meaning.specs.Code.{handles, instead, jumps, loads, loads_member, one_int, puts, raises, raises_in, stores, stores_member, step, stuck, fetched, tries_again, two_alike, two_ints, untries, variables, with_variables, writes, closes_request}
use Rattle.lynx_meaning.specs.Courses.{Action, Answer, Moment, New, Destroy, Bind, Unbind, Connect, Accept, Close, Reply, Write, Await, Stop, Ended, Waits, Out, Outcome, after, Store}
use Rattle.lynx_meaning.specs.Values.{Value, Given, Int, Truth, Text, Row, Link, add, divide, member, multiply, negate, reduce, subtract, truth_eq, value_eq, with_member, written}
use Rattle.machine_turns.specs.Threads.{Standing, Made, Went, Acts, Awaits, Ends, Broken, acted, answers, comes_of, goes_on, in_turn, is_await, is_empty, is_fresh, last_action, made}
use Rattle.machine_sound.proofs.Keeping.{last_of}

-- ---- an instruction that finds no await with false

-- where it waits: it asks for no try again if something was given, and leaves these variables of the module
abbrev Asks : Type 0 → List Value → Next → Type 0
Asks Some_given globals (Goes t) = Unit {0}
Asks Some_given globals (Over (Comes (Waits actions store))) = (Some_given → last_action actions ≡ Some Await → ⊥) × (store.globals ≡ globals)
Asks Some_given globals (Over (Comes (Ended actions store))) = Unit {0}
Asks Some_given globals (Over (Comes (Out actions))) = Unit {0}
Asks Some_given globals (Over Stuck) = Unit {0}

abbrev AllTell : List Value → List Answer → Type 0
AllTell globals [] = Unit {0}
AllTell globals (a ∷ rest) = (a.globals ≡ globals) × AllTell globals rest

-- the moment has these variables of the module, and all its answers tell them
record Tells (globals : List Value) (m : Moment) : Type 0 where
  now : m.store.globals ≡ globals
  later : AllTell globals m.answers

another : (actions : List Action) (a : Action) → (a ≡ Await → ⊥) → last_action (actions ++ a ∷ []) ≡ Some Await → ⊥
another actions a other e =
    let same : Some a ≡ Some Await = sym (last_of actions a) ∙ e in
    other cc

module _ (G : Type 0) (globals : List Value) where
  asked_with : (m : Moment) (a : Action) (given : List Answer) (next : Result (List Value) Exception → Moment → Next) → (a ≡ Await → ⊥) → m.store.globals ≡ globals → AllTell globals given → ((g : Result (List Value) Exception) (now : Moment) → Tells globals now → Asks G globals (next g now))
      → Asks G globals (takes_outcome m a given next)
  asked_with m a [] next other now later onward = ((λ some. another m.actions a other), now)
  asked_with m a (g ∷ rest) next other now later onward = onward g.given (after m a g rest) (record { now = later.0; later = later.1 })

  asked : (m : Moment) (a : Action) (next : Result (List Value) Exception → Moment → Next) → (a ≡ Await → ⊥) → Tells globals m → ((g : Result (List Value) Exception) (now : Moment) → Tells globals now → Asks G globals (next g now)) → Asks G globals (with_outcome m a next)
  asked m a next other tells onward = asked_with m a m.answers next other tells.now tells.later onward

  closing : (k : ℕ) (exception : Exception) (m : Moment) (next : Exception → Moment → Next) → Tells globals m → ((x : Exception) (now : Moment) → Tells globals now → Asks G globals (next x now)) → Asks G globals (closes k exception m next)
  closing zero exception m next tells onward = onward exception m tells
  closing (suc k) exception m next tells onward = asked m Close (λ given now. closes k (instead given exception) now next) (λ e. cc) tells (λ g now later. closing k (instead g exception) now next later onward)

  ending : (requests : List ℕ) (m : Moment) → Tells globals m → Asks G globals (ends requests m)
  ending [] m tells = tt
  ending (op ∷ requests) m tells = asked m Close (λ given now. ends requests now) (λ e. cc) tells (λ g now later. ending requests now later)

  raising_in : (exception : Exception) (t : Thread) (os : List Opened) → Tells globals t.moment → Asks G globals (raises_in exception t os)
  raising_in exception t [] tells = ending t.requests t.moment tells
  raising_in exception t (o ∷ os) tells = closing (length t.requests - o.depth) exception t.moment
      (λ other now. Goes (record { address = o.handlers; stack = cut o.height t.stack; tries = os; requests = cut o.depth t.requests; pending = Some other; moment = now })) tells (λ x now later. tt)

  raising : (exception : Exception) (t : Thread) → Tells globals t.moment → Asks G globals (raises exception t)
  raising exception t tells = raising_in exception t t.tries tells

  giving : (g : Given) (stack : List Value) (t : Thread) → Tells globals t.moment → Asks G globals (gives g stack t)
  giving (Ok v) stack t tells = tt
  giving (Err exception) stack t tells = raising exception t tells

  answering : (g : Result (List Value) Exception) (change : Thread → Thread) (t : Thread) → Tells globals t.moment → Asks G globals (answered g change t)
  answering (Ok vs) change t tells = tt
  answering (Err exception) change t tells = raising exception t tells

  asking : (a : Action) (stack : List Value) (t : Thread) (change : Thread → Thread) → (a ≡ Await → ⊥) → Tells globals t.moment → Asks G globals (asks a stack t change)
  asking a stack t change other tells =
      asked t.moment a (λ given now. answered given change (record t { moment = now; stack = stack })) other tells (λ g now later. answering g change (record t { moment = now; stack = stack }) later)

  -- ---- operands

  loading : (o : Option Value) (t : Thread) → Asks G globals (loads o t)
  loading None t = tt
  loading (Some v) t = tt

  by_choice : (b : Bool) (first second : Next) → Asks G globals first → Asks G globals second → Asks G globals (if b then first else second)
  by_choice true first second f s = f
  by_choice false first second f s = s

  storing : (kind : Kind) (slot : ℕ) (stack : List Value) (t : Thread) → Asks G globals (stores kind slot stack t)
  storing kind slot [] t = tt
  storing kind slot (v ∷ stack) t =
      by_choice (nat_lt slot (length (variables kind t))) (goes stack (with_variables kind (slice_set (variables kind t) slot v) t)) stuck tt tt

  loading_member : (o : Option Value) (stack : List Value) (t : Thread) → Tells globals t.moment → Asks G globals (loads_member o stack t)
  loading_member (Some (Row row)) (Int index ∷ stack) t tells = giving (member row index) stack t tells
  loading_member _ _ t tells = tt

  putting : (kind : Kind) (slot : ℕ) (r : Result (List ℤ) Exception) (stack : List Value) (t : Thread) → Tells globals t.moment → Asks G globals (puts kind slot r stack t)
  putting kind slot (Ok row) stack t tells = tt
  putting kind slot (Err exception) stack t tells = raising exception t tells

  storing_member : (kind : Kind) (slot : ℕ) (o : Option Value) (stack : List Value) (t : Thread) → Tells globals t.moment → Asks G globals (stores_member kind slot o stack t)
  storing_member kind slot (Some (Row row)) (Int v ∷ Int index ∷ stack) t tells = putting kind slot (with_member row index v) stack t tells
  storing_member kind slot _ _ t tells = tt

  with_two_ints : (operator : ℤ → ℤ → Given) (t : Thread) (stack : List Value) → Tells globals t.moment → Asks G globals (two_ints operator t stack)
  with_two_ints operator t (Int b ∷ Int a ∷ stack) tells = giving (operator a b) stack t tells
  with_two_ints operator t _ tells = tt

  with_one_int : (operator : ℤ → Given) (t : Thread) (stack : List Value) → Tells globals t.moment → Asks G globals (one_int operator t stack)
  with_one_int operator t (Int a ∷ stack) tells = giving (operator a) stack t tells
  with_one_int operator t _ tells = tt

  with_two_alike : (test : Value → Value → Bool) (t : Thread) (stack : List Value) → Asks G globals (two_alike test t stack)
  with_two_alike test t (Int b ∷ Int a ∷ stack) = tt
  with_two_alike test t (Truth b ∷ Truth a ∷ stack) = tt
  with_two_alike test t (Text b ∷ Text a ∷ stack) = tt
  with_two_alike test t _ = tt

  comparing : (test : ℤ → ℤ → Bool) (t : Thread) (stack : List Value) → Asks G globals (compares test t stack)
  comparing test t (Int b ∷ Int a ∷ stack) = tt
  comparing test t _ = tt

  with_truth : (next : Bool → List Value → Next) (stack : List Value) → ((b : Bool) (rest : List Value) → Asks G globals (next b rest)) → Asks G globals (by_truth next stack)
  with_truth next (Truth b ∷ stack) onward = onward b stack
  with_truth next _ onward = tt

  deciding : (truth : Bool) (address : ℕ) (t : Thread) → Asks G globals (decides truth address t)
  deciding truth address t =
      with_truth (λ b stack. if truth_eq truth b then jumps address t.stack t else goes stack t) t.stack (λ b rest. by_choice (truth_eq truth b) (jumps address t.stack t) (goes rest t) tt tt)

  with_link : (next : Value → List Value → Next) (stack : List Value) → ((l : Value) (rest : List Value) → Asks G globals (next l rest)) → Asks G globals (by_link next stack)
  with_link next (Link n ∷ stack) onward = onward (Link n) stack
  with_link next _ onward = tt

  with_values : (k : ℕ) (next : List Value → List Value → Next) (stack : List Value) → ((vs rest : List Value) → Asks G globals (next vs rest)) → Asks G globals (by_values k next stack)
  with_values k next stack onward =
      by_choice (nat_le k (length stack)) (next (reverse (take k stack)) (drop k stack)) stuck (onward (reverse (take k stack)) (drop k stack)) tt

  writing : (next : List ℕ → List Value → Next) (stack : List Value) → ((text : List ℕ) (rest : List Value) → Asks G globals (next text rest)) → Asks G globals (writes next stack)
  writing next (Int n ∷ stack) onward = onward (written (Int n)) stack
  writing next (Truth b ∷ stack) onward = onward (written (Truth b)) stack
  writing next (Text bytes ∷ stack) onward = onward (written (Text bytes)) stack
  writing next _ onward = tt

  untrying : (os : List Opened) (t : Thread) → Asks G globals (untries os t)
  untrying [] t = tt
  untrying (o ∷ os) t = tt

  handling : (exception : Exception) (address : ℕ) (o : Option Exception) (t : Thread) → Asks G globals (handles exception address o t)
  handling exception address None t = tt
  handling exception address (Some pending) t =
      by_choice (bytes_eq (exception_text pending) (exception_text exception)) (goes t.stack t) (jumps address t.stack t) tt tt

  raising_again : (o : Option Exception) (t : Thread) → Tells globals t.moment → Asks G globals (again o t)
  raising_again None t tells = tt
  raising_again (Some exception) t tells = raising exception t tells

  connecting : (op : ℕ) (o : Option ℕ) (t : Thread) → Tells globals t.moment → Asks G globals (connects op o t)
  connecting op None t tells = tt
  connecting op (Some arguments) t tells =
      with_link (λ link below. by_values arguments (λ vs stack. asks (Connect link op vs) stack t (λ now. now)) below) t.stack
      (λ link below. with_values arguments (λ vs stack. asks (Connect link op vs) stack t (λ now. now)) below (λ vs stack. asking (Connect link op vs) stack t (λ now. now) (λ e. cc) tells))

  closing_request : (requests : List ℕ) (t : Thread) → Tells globals t.moment → Asks G globals (closes_request requests t)
  closing_request [] t tells = tt
  closing_request (op ∷ requests) t tells = asking Close t.stack (record t { requests = requests }) (λ now. now) (λ e. cc) tells

  trying_again : (address : ℕ) (g : Result (List Value) Exception) (t : Thread) → Tells globals t.moment → Asks G globals (tries_again address g t)
  trying_again address (Ok vs) t tells = tt
  trying_again address (Err exception) t tells = raising exception t tells

  -- an await that found false was given its outcome
  waiting : (address : ℕ) (m : Moment) (given : List Answer) (t : Thread) (stack : List Value) → (G → given ≡ [] → ⊥) → m.store.globals ≡ globals → AllTell globals given →
      Asks G globals (takes_outcome m Await given (λ g now. tries_again address g (record t { moment = now; stack = stack })))
  waiting address m [] t stack some now later = ((λ given e. some given refl), now)
  waiting address m (a ∷ rest) t stack some now later = trying_again address a.given (record t { moment = after m Await a rest; stack = stack }) (record { now = later.0; later = later.1 })

  -- ---- all instructions

  module _ (p : Program) (t : Thread) (some : G → t.moment.answers ≡ [] → ⊥) (tells : Tells globals t.moment) where
    stepped : (i : Instruction) → Asks G globals (step p t i)
    stepped (code.Push l) = tt
    stepped (code.LoadG slot) = loading (slice_get (variables Global t) slot) t
    stepped (code.LoadL slot) = loading (slice_get (variables Local t) slot) t
    stepped (code.AtG slot) = loading_member (slice_get (variables Global t) slot) t.stack t tells
    stepped (code.AtL slot) = loading_member (slice_get (variables Local t) slot) t.stack t tells
    stepped (code.StoreG slot) = storing Global slot t.stack t
    stepped (code.StoreL slot) = storing Local slot t.stack t
    stepped (code.PutG slot) = storing_member Global slot (slice_get (variables Global t) slot) t.stack t tells
    stepped (code.PutL slot) = storing_member Local slot (slice_get (variables Local t) slot) t.stack t tells
    stepped code.Add = with_two_ints add t t.stack tells
    stepped code.Sub = with_two_ints subtract t t.stack tells
    stepped code.Mul = with_two_ints multiply t t.stack tells
    stepped code.Div = with_two_ints divide t t.stack tells
    stepped code.Mod = with_two_ints reduce t t.stack tells
    stepped code.Neg = with_one_int negate t t.stack tells
    stepped code.Eq = with_two_alike value_eq t t.stack
    stepped code.Ne = with_two_alike (λ a b. not (value_eq a b)) t t.stack
    stepped code.Lt = comparing int_lt t t.stack
    stepped code.Le = comparing int_le t t.stack
    stepped code.Gt = comparing (λ a b. int_lt b a) t t.stack
    stepped code.Ge = comparing (λ a b. int_le b a) t t.stack
    stepped code.Not = with_truth (λ b stack. goes (Truth (not b) ∷ stack) t) t.stack (λ b rest. tt)
    stepped (code.AndJ address) = deciding false address t
    stepped (code.OrJ address) = deciding true address t
    stepped (code.JumpF address) = with_truth (λ b stack. if b then goes stack t else jumps address stack t) t.stack (λ b rest. by_choice b (goes rest t) (jumps address rest t) tt tt)
    stepped (code.Jump address) = tt
    stepped (code.Await address) =
        with_truth (λ b stack. if b then goes stack t else with_outcome t.moment Await (λ given now. tries_again address given (record t { moment = now; stack = stack }))) t.stack
        (λ b rest.
        by_choice b (goes rest t) (with_outcome t.moment Await (λ given now. tries_again address given (record t { moment = now; stack = rest }))) tt
        (waiting address t.moment t.moment.answers t rest some tells.now tells.later))
    stepped (code.Try address) = tt
    stepped code.Untry = untrying t.tries t
    stepped (code.Case exception address) = handling exception address t.pending t
    stepped code.Again = raising_again t.pending t tells
    stepped (code.Raise exception) = raising exception t tells
    stepped code.Write = writing (λ text stack. asks (Write text) stack t (λ now. now)) t.stack (λ text rest. asking (Write text) rest t (λ now. now) (λ e. cc) tells)
    stepped code.New = asking New t.stack t (λ now. now) (λ e. cc) tells
    stepped code.Destroy = with_link (λ link stack. asks (Destroy link) stack t (λ now. now)) t.stack (λ link rest. asking (Destroy link) rest t (λ now. now) (λ e. cc) tells)
    stepped (code.Bind entry) = with_link (λ link stack. asks (Bind link entry) stack t (λ now. now)) t.stack (λ link rest. asking (Bind link entry) rest t (λ now. now) (λ e. cc) tells)
    stepped (code.Unbind entry) = with_link (λ link stack. asks (Unbind link entry) stack t (λ now. now)) t.stack (λ link rest. asking (Unbind link entry) rest t (λ now. now) (λ e. cc) tells)
    stepped (code.Connect op) = connecting op (slice_get p.arguments op) t tells
    stepped (code.Accept op) =
        with_link (λ link stack. asks (Accept link op) stack t (λ now. record now { requests = op ∷ now.requests })) t.stack
        (λ link rest. asking (Accept link op) rest t (λ now. record now { requests = op ∷ now.requests }) (λ e. cc) tells)
    stepped code.Close = closing_request t.requests t tells
    stepped (code.Reply k) = with_values k (λ vs stack. asks (Reply vs) stack t (λ now. now)) t.stack (λ vs rest. asking (Reply vs) rest t (λ now. now) (λ e. cc) tells)
    stepped code.Stop = ((λ some. another t.moment.actions Stop (λ e. cc)), tells.now)
    stepped code.End = ending t.requests t.moment tells

    fetching : (o : Option Instruction) → Asks G globals (fetched p t o)
    fetching None = tt
    fetching (Some i) = stepped i

-- ---- what comes of an instruction

-- not a try of an await
abbrev pub IsNoTry : Made → Type 0
IsNoTry (Went globals s) = Unit {0}
IsNoTry (Acts a globals s) = Unit {0}
IsNoTry (Awaits globals s) = ⊥
IsNoTry (Ends globals) = Unit {0}
IsNoTry Broken = Unit {0}

acted_is_no_try : (o : Option Action) (globals : List Value) (s : Standing) → (o ≡ Some Await → ⊥) → IsNoTry (acted o globals s)
acted_is_no_try None globals s other = tt
acted_is_no_try (Some New) globals s other = tt
acted_is_no_try (Some (Destroy link)) globals s other = tt
acted_is_no_try (Some (Bind link entry)) globals s other = tt
acted_is_no_try (Some (Unbind link entry)) globals s other = tt
acted_is_no_try (Some (Connect link op values)) globals s other = tt
acted_is_no_try (Some (Accept link op)) globals s other = tt
acted_is_no_try (Some Close) globals s other = tt
acted_is_no_try (Some (Reply values)) globals s other = tt
acted_is_no_try (Some (Write text)) globals s other = tt
acted_is_no_try (Some Await) globals s other = absurd (other refl)
acted_is_no_try (Some Stop) globals s other = tt

made_is_no_try : (G : Type 0) (globals : List Value) (awaits : Bool) (s : Standing) (next : Next) → G → Asks G globals next → IsNoTry (made awaits s next)
made_is_no_try G globals awaits s (Goes now) some asks = tt
made_is_no_try G globals awaits s (Over (Comes (Waits actions store))) some asks = acted_is_no_try (last_action actions) store.globals s (asks.0 some)
made_is_no_try G globals awaits s (Over (Comes (Ended actions store))) some asks = tt
made_is_no_try G globals awaits s (Over (Comes (Out actions))) some asks = tt
made_is_no_try G globals awaits s (Over Stuck) some asks = tt

some_answers : (globals : List Value) (given : List Outcome) → is_empty given ≡ false → answers globals given ≡ [] → ⊥
some_answers globals [] some e = cc
some_answers globals (o ∷ os) some e = cc

-- all that an instruction was given tells the variables as they stand
all_tell : (globals : List Value) (given : List Outcome) → AllTell globals (answers globals given)
all_tell globals [] = tt
all_tell globals (o ∷ os) = (refl, all_tell globals os)

asks_there : (G : Type 0) (p : Program) (globals : List Value) (s : Standing) → (G → answers globals s.given ≡ [] → ⊥) → Asks G globals (goes_on p globals s)
asks_there G p globals s some =
    fetching G globals p (in_turn globals s) some (record { now = refl; later = all_tell globals s.given }) (slice_get p.instructions s.address)

-- where its instruction waits, the variables of the module are as before
pub waits_with : (p : Program) (globals : List Value) (s : Standing) (actions : List Action) (store : Store) → goes_on p globals s ≡ Over (Comes (Waits actions store)) → store.globals ≡ globals
waits_with p globals s actions store is = (subst (λ (next : Next). Asks ⊥ globals next) is (asks_there ⊥ p globals s (λ given. absurd given))).1

pub given_is_no_try : (p : Program) (globals : List Value) (s : Standing) → is_fresh s ≡ false → IsNoTry (comes_of p globals s)
given_is_no_try p globals s some =
    made_is_no_try (Unit {0}) globals (is_await (slice_get p.instructions s.address)) s (goes_on p globals s) tt
    (asks_there (Unit {0}) p globals s (λ given. some_answers globals s.given some))
