-- What an instruction comes to, as a tree: it goes on, ends, or asks for an action and then comes to what the answer leads to.
use Rattle.std.proofs.Common.{◌≡◌, ℕ, ℤ, zero, suc, ◌+◌, ◌-◌, List, [], ◌∷◌, ◌++◌, Bool, true, false, not, nat_lt, nat_le, int_le, int_lt, if◌then◌else◌, Option, Some, None, Result, Ok, Err, length, reverse, take, drop, slice_get, slice_set, bytes_eq, refl}
use Rattle.lynx_code.specs.declared.instruction.Instruction.{Instruction}
use Rattle.lynx_code.specs.declared.instruction.Instruction.TheVariants as code
use Rattle.typing_rules.specs.Exceptions.{exception_text}
use Rattle.typing_rules.specs.declared.exception.Exception.{Exception}
use Rattle.lynx_meaning.specs.Code.{Next, Goes, Over, Comes, Opened, Program, Kind, Global, Local, Thread, with_outcome, again, answered, asks, by_link, by_truth, by_values, closes, closes_request, compares, connects, cut, decides, ends, fetched}
use Rattle.lynx_meaning.specs.Code.{gives, goes, handles, instead, jumps, loads, loads_member, one_int, puts, raises, raises_in, stores, stores_member, step, stuck, tries_again, two_alike, two_ints, untries, value_of_literal, variables, with_variables, writes}
use Rattle.lynx_meaning.specs.Courses.{Action, Answer, Moment, Outcome, Store, New, Destroy, Bind, Unbind, Connect, Accept, Close, Reply, Write, Await, Stop, Ended, Waits}
use Rattle.lynx_meaning.specs.Values.{Value, Given, Int, Truth, Text, Row, Link, add, divide, member, multiply, negate, reduce, subtract, truth_eq, value_eq, with_member, written}

pub data Tree : Type 0 where
  Leads : Thread → Tree
  -- it ends with these variables
  Closed : Store → Tree
  -- it asks for this action, with these variables
  Asks : Action → Store → (Answer → Tree) → Tree
  -- it asks for a stop, with these variables, whatever it is given
  Halts : Store → Tree
  Broken : Tree

abbrev pub moment : Store → List Answer → List Action → Moment
moment store L X = record { store = store; answers = L; actions = X }

-- the thread with these answers left, behind these actions
abbrev pub at : Thread → List Answer → List Action → Thread
at t L X = record t { moment = moment t.moment.store L X }

-- what comes of a tree with these answers, behind these actions
abbrev pub run : Tree → List Answer → List Action → Next
run (Leads t) L X = Goes (at t L X)
run (Closed store) L X = Over (Comes (Ended X store))
run (Asks a store onward) [] X = Over (Comes (Waits (X ++ a ∷ []) store))
run (Asks a store onward) (b ∷ L) X = run (onward b) L (X ++ a ∷ [])
run (Halts store) L X = Over (Comes (Waits (X ++ Stop ∷ []) store))
run Broken L X = stuck

-- ---- the actions of an instruction

-- it only closes requests
abbrev pub OnlyCloses : Tree → Type 0
OnlyCloses (Asks a store onward) = (a ≡ Close) × ((b : Answer) → OnlyCloses (onward b))
OnlyCloses (Halts store) = ⊥
OnlyCloses _ = Unit {0}

-- an action that ends a thread's turn
abbrev pub IsBlocking : Action → Type 0
IsBlocking (Connect link op values) = Unit {0}
IsBlocking (Accept link op) = Unit {0}
IsBlocking Await = Unit {0}
IsBlocking _ = ⊥

-- a connect, an accept or an await
abbrev pub Blocks : Option Instruction → Type 0
Blocks (Some (code.Connect op)) = Unit {0}
Blocks (Some (code.Accept op)) = Unit {0}
Blocks (Some (code.Await address)) = Unit {0}
Blocks _ = ⊥

-- it acts once, as its instruction does, and then only closes requests
abbrev pub IsOf : Option Instruction → Tree → Type 0
IsOf o (Asks a store onward) = (IsBlocking a → Blocks o) × ((b : Answer) → OnlyCloses (onward b))
IsOf o (Halts store) = o ≡ Some code.Stop
IsOf o _ = Unit {0}

pub closes_of : (o : Option Instruction) (tree : Tree) → OnlyCloses tree → IsOf o tree
closes_of o (Leads t) only = tt
closes_of o (Closed store) only = tt
closes_of o (Asks Close store onward) only = (λ h. absurd h, only.1)
closes_of o (Asks New store onward) only = cc
closes_of o (Asks (Destroy link) store onward) only = cc
closes_of o (Asks (Bind link entry) store onward) only = cc
closes_of o (Asks (Unbind link entry) store onward) only = cc
closes_of o (Asks (Connect link op values) store onward) only = cc
closes_of o (Asks (Accept link op) store onward) only = cc
closes_of o (Asks (Reply values) store onward) only = cc
closes_of o (Asks (Write text) store onward) only = cc
closes_of o (Asks Await store onward) only = cc
closes_of o (Asks Stop store onward) only = cc
closes_of o (Halts store) only = absurd only
closes_of o Broken only = tt

-- what comes is that of a tree of which this holds
pub record IsTree (Holds : Tree → Type 0) (f : List Answer → List Action → Next) : Type 0 where
  pub tree : Tree
  pub same : (L : List Answer) (X : List Action) → f L X ≡ run tree L X
  pub holds : Holds tree

-- ---- closes

abbrev IsClosing : (List Answer → List Action → Next) → Type 0
IsClosing f = IsTree OnlyCloses f

going : (t : Thread) → IsClosing (λ L X. Goes (at t L X))
going t = record { tree = Leads t; same = λ L X. refl; holds = tt }

sticking : IsClosing (λ L X. stuck)
sticking = record { tree = Broken; same = λ L X. refl; holds = tt }

closing_once : (store : Store) (next : Outcome → Moment → Next) → ((b : Answer) → IsClosing (λ L X. next b.given (moment (record store { globals = b.globals }) L X))) → IsClosing (λ L X. with_outcome (moment store L X) Close next)
closing_once store next onward = record { tree = Asks Close store (λ b. (onward b).tree); same = same; holds = (refl, λ b. (onward b).holds) }
  where
    same : (L : List Answer) (X : List Action) → with_outcome (moment store L X) Close next ≡ run (Asks Close store (λ b. (onward b).tree)) L X
    same [] X = refl
    same (b ∷ L) X = (onward b).same L (X ++ Close ∷ [])

closing : (k : ℕ) (x : Exception) (store : Store) (next : Exception → Moment → Next) → ((y : Exception) (now : Store) → IsClosing (λ L X. next y (moment now L X))) → IsClosing (λ L X. closes k x (moment store L X) next)
closing zero x store next onward = onward x store
closing (suc k) x store next onward =
    closing_once store (λ given now. closes k (instead given x) now next) (λ b. closing k (instead b.given x) (record store { globals = b.globals }) next onward)

ending : (requests : List ℕ) (store : Store) → IsClosing (λ L X. ends requests (moment store L X))
ending [] store = record { tree = Closed store; same = λ L X. refl; holds = tt }
ending (op ∷ requests) store = closing_once store (λ given now. ends requests now) (λ b. ending requests (record store { globals = b.globals }))

raising_in : (x : Exception) (t : Thread) (os : List Opened) → IsClosing (λ L X. raises_in x (at t L X) os)
raising_in x t [] = ending t.requests t.moment.store
raising_in x t (o ∷ os) =
    closing (length t.requests - o.depth) x t.moment.store
    (λ other now. Goes (record { address = o.handlers; stack = cut o.height t.stack; tries = os; requests = cut o.depth t.requests; pending = Some other; moment = now }))
    (λ y now. going (record { address = o.handlers; stack = cut o.height t.stack; tries = os; requests = cut o.depth t.requests; pending = Some y; moment = moment now [] [] }))

raising : (x : Exception) (t : Thread) → IsClosing (λ L X. raises x (at t L X))
raising x t = raising_in x t t.tries

-- ---- going on

jumping : (address : ℕ) (stack : List Value) (t : Thread) → IsClosing (λ L X. jumps address stack (at t L X))
jumping address stack t = going (record t { address = address; stack = stack })

giving : (g : Given) (stack : List Value) (t : Thread) → IsClosing (λ L X. gives g stack (at t L X))
giving (Ok v) stack t = jumping (t.address + 1) (v ∷ stack) t
giving (Err x) stack t = raising x t

-- ---- operands

module _ (Holds : Tree → Type 0) (broken : Holds Broken) where
  by_choice : (b : Bool) (f g : List Answer → List Action → Next) → IsTree Holds f → IsTree Holds g → IsTree Holds (λ L X. if b then f L X else g L X)
  by_choice true f g is other = is
  by_choice false f g is other = other

  never : IsTree Holds (λ L X. stuck)
  never = record { tree = Broken; same = λ L X. refl; holds = broken }

  with_truth : (next : List Answer → List Action → Bool → List Value → Next) (stack : List Value) → ((b : Bool) (rest : List Value) → IsTree Holds (λ L X. next L X b rest)) → IsTree Holds (λ L X. by_truth (next L X) stack)
  with_truth next (Truth b ∷ stack) onward = onward b stack
  with_truth next _ onward = never

  with_link : (next : List Answer → List Action → Value → List Value → Next) (stack : List Value) → ((l : Value) (rest : List Value) → IsTree Holds (λ L X. next L X l rest)) → IsTree Holds (λ L X. by_link (next L X) stack)
  with_link next (Link n ∷ stack) onward = onward (Link n) stack
  with_link next _ onward = never

  with_values : (k : ℕ) (next : List Answer → List Action → List Value → List Value → Next) (stack : List Value) → ((vs rest : List Value) → IsTree Holds (λ L X. next L X vs rest)) → IsTree Holds (λ L X. by_values k (next L X) stack)
  with_values k next stack onward =
      by_choice (nat_le k (length stack)) (λ L X. next L X (reverse (take k stack)) (drop k stack)) (λ L X. stuck) (onward (reverse (take k stack)) (drop k stack)) never

  writing : (next : List Answer → List Action → List ℕ → List Value → Next) (stack : List Value) → ((text : List ℕ) (rest : List Value) → IsTree Holds (λ L X. next L X text rest)) → IsTree Holds (λ L X. writes (next L X) stack)
  writing next (Int n ∷ stack) onward = onward (written (Int n)) stack
  writing next (Truth b ∷ stack) onward = onward (written (Truth b)) stack
  writing next (Text bytes ∷ stack) onward = onward (written (Text bytes)) stack
  writing next _ onward = never

-- ---- instructions that act only where they raise or end

choosing : (b : Bool) (f g : List Answer → List Action → Next) → IsClosing f → IsClosing g → IsClosing (λ L X. if b then f L X else g L X)
choosing b f g is other = by_choice OnlyCloses tt b f g is other

module _ (t : Thread) where
  loading : (o : Option Value) → IsClosing (λ L X. loads o (at t L X))
  loading None = sticking
  loading (Some v) = jumping (t.address + 1) (v ∷ t.stack) t

  storing : (kind : Kind) (slot : ℕ) (stack : List Value) → IsClosing (λ L X. stores kind slot stack (at t L X))
  storing kind slot [] = sticking
  storing Global slot (v ∷ stack) =
      choosing (nat_lt slot (length (variables Global t))) (λ L X. goes stack (with_variables Global (slice_set (variables Global t) slot v) (at t L X))) (λ L X. stuck)
      (jumping (t.address + 1) stack (with_variables Global (slice_set (variables Global t) slot v) t)) sticking
  storing Local slot (v ∷ stack) =
      choosing (nat_lt slot (length (variables Local t))) (λ L X. goes stack (with_variables Local (slice_set (variables Local t) slot v) (at t L X))) (λ L X. stuck)
      (jumping (t.address + 1) stack (with_variables Local (slice_set (variables Local t) slot v) t)) sticking

  loading_member : (o : Option Value) (stack : List Value) → IsClosing (λ L X. loads_member o stack (at t L X))
  loading_member (Some (Row row)) (Int index ∷ stack) = giving (member row index) stack t
  loading_member _ _ = sticking

  putting : (kind : Kind) (slot : ℕ) (r : Result (List ℤ) Exception) (stack : List Value) → IsClosing (λ L X. puts kind slot r stack (at t L X))
  putting Global slot (Ok row) stack = jumping (t.address + 1) stack (with_variables Global (slice_set (variables Global t) slot (Row row)) t)
  putting Local slot (Ok row) stack = jumping (t.address + 1) stack (with_variables Local (slice_set (variables Local t) slot (Row row)) t)
  putting kind slot (Err x) stack = raising x t

  storing_member : (kind : Kind) (slot : ℕ) (o : Option Value) (stack : List Value) → IsClosing (λ L X. stores_member kind slot o stack (at t L X))
  storing_member kind slot (Some (Row row)) (Int v ∷ Int index ∷ stack) = putting kind slot (with_member row index v) stack
  storing_member kind slot _ _ = sticking

  with_two_ints : (operator : ℤ → ℤ → Given) (stack : List Value) → IsClosing (λ L X. two_ints operator (at t L X) stack)
  with_two_ints operator (Int b ∷ Int a ∷ stack) = giving (operator a b) stack t
  with_two_ints operator _ = sticking

  with_one_int : (operator : ℤ → Given) (stack : List Value) → IsClosing (λ L X. one_int operator (at t L X) stack)
  with_one_int operator (Int a ∷ stack) = giving (operator a) stack t
  with_one_int operator _ = sticking

  with_two_alike : (test : Value → Value → Bool) (stack : List Value) → IsClosing (λ L X. two_alike test (at t L X) stack)
  with_two_alike test (Int b ∷ Int a ∷ stack) = jumping (t.address + 1) (Truth (test (Int a) (Int b)) ∷ stack) t
  with_two_alike test (Truth b ∷ Truth a ∷ stack) = jumping (t.address + 1) (Truth (test (Truth a) (Truth b)) ∷ stack) t
  with_two_alike test (Text b ∷ Text a ∷ stack) = jumping (t.address + 1) (Truth (test (Text a) (Text b)) ∷ stack) t
  with_two_alike test _ = sticking

  comparing : (test : ℤ → ℤ → Bool) (stack : List Value) → IsClosing (λ L X. compares test (at t L X) stack)
  comparing test (Int b ∷ Int a ∷ stack) = jumping (t.address + 1) (Truth (test a b) ∷ stack) t
  comparing test _ = sticking

  jumping_or : (b : Bool) (address other : ℕ) (stack rest : List Value) → IsClosing (λ L X. if b then jumps address stack (at t L X) else jumps other rest (at t L X))
  jumping_or b address other stack rest = choosing b (λ L X. jumps address stack (at t L X)) (λ L X. jumps other rest (at t L X)) (jumping address stack t) (jumping other rest t)

  deciding : (truth : Bool) (address : ℕ) → IsClosing (λ L X. decides truth address (at t L X))
  deciding truth address =
      with_truth OnlyCloses tt (λ L X b stack. if truth_eq truth b then jumps address t.stack (at t L X) else goes stack (at t L X)) t.stack (λ b rest. jumping_or (truth_eq truth b) address (t.address + 1) t.stack rest)

  untrying : (os : List Opened) → IsClosing (λ L X. untries os (at t L X))
  untrying [] = sticking
  untrying (o ∷ os) = jumping (t.address + 1) t.stack (record t { tries = os })

  handling : (x : Exception) (address : ℕ) (o : Option Exception) → IsClosing (λ L X. handles x address o (at t L X))
  handling x address None = sticking
  handling x address (Some pending) = jumping_or (bytes_eq (exception_text pending) (exception_text x)) (t.address + 1) address t.stack t.stack

  raising_again : (o : Option Exception) → IsClosing (λ L X. again o (at t L X))
  raising_again None = sticking
  raising_again (Some x) = raising x t

-- ---- actions

module _ (i : Option Instruction) where
  abbrev IsStep : (List Answer → List Action → Next) → Type 0
  IsStep f = IsTree (IsOf i) f

  only : (f : List Answer → List Action → Next) → IsClosing f → IsStep f
  only f is = record { tree = is.tree; same = is.same; holds = closes_of i is.tree is.holds }

  acting : (store : Store) (a : Action) (next : Outcome → Moment → Next) → (IsBlocking a → Blocks i) → ((b : Answer) → IsClosing (λ L X. next b.given (moment (record store { globals = b.globals }) L X))) → IsStep (λ L X. with_outcome (moment store L X) a next)
  acting store a next blocks onward = record { tree = Asks a store (λ b. (onward b).tree); same = same; holds = (blocks, λ b. (onward b).holds) }
    where
      same : (L : List Answer) (X : List Action) → with_outcome (moment store L X) a next ≡ run (Asks a store (λ b. (onward b).tree)) L X
      same [] X = refl
      same (b ∷ L) X = (onward b).same L (X ++ a ∷ [])

  -- how a thread may change as values come
  abbrev Changes : (Thread → Thread) → Type 0
  Changes change = (t : Thread) (stack : List Value) → IsClosing (λ L X. goes stack (change (at t L X)))

  answering : (o : Outcome) (change : Thread → Thread) (t : Thread) → Changes change → IsClosing (λ L X. answered o change (at t L X))
  answering (Ok vs) change t changes = changes t (reverse vs ++ t.stack)
  answering (Err x) change t changes = raising x t

  still : Changes (λ it. it)
  still t stack = jumping (t.address + 1) stack t

  asking : (a : Action) (stack : List Value) (t : Thread) (change : Thread → Thread) → Changes change → (IsBlocking a → Blocks i) → IsStep (λ L X. asks a stack (at t L X) change)
  asking a stack t change changes blocks =
      acting t.moment.store a (λ given now. answered given change (record t { moment = now; stack = stack })) blocks
      (λ b. answering b.given change (record t { moment = moment (record t.moment.store { globals = b.globals }) [] []; stack = stack }) changes)

  on_link : (action : Value → Action) (t : Thread) → ((l : Value) → IsBlocking (action l) → Blocks i) → IsStep (λ L X. by_link (λ link stack. asks (action link) stack (at t L X) (λ now. now)) t.stack)
  on_link action t blocks = with_link (IsOf i) tt (λ L X link stack. asks (action link) stack (at t L X) (λ now. now)) t.stack (λ l rest. asking (action l) rest t (λ now. now) still (blocks l))

  connecting : (op : ℕ) (o : Option ℕ) (t : Thread) → Blocks i → IsStep (λ L X. connects op o (at t L X))
  connecting op None t blocks = never (IsOf i) tt
  connecting op (Some arguments) t blocks =
      with_link (IsOf i) tt (λ L X link below. by_values arguments (λ vs stack. asks (Connect link op vs) stack (at t L X) (λ now. now)) below) t.stack
      (λ link below. with_values (IsOf i) tt arguments (λ L X vs stack. asks (Connect link op vs) stack (at t L X) (λ now. now)) below (λ vs rest. asking (Connect link op vs) rest t (λ now. now) still (λ h. blocks)))

  accepting : (op : ℕ) (t : Thread) → Blocks i → IsStep (λ L X. by_link (λ link stack. asks (Accept link op) stack (at t L X) (λ now. record now { requests = op ∷ now.requests })) t.stack)
  accepting op t blocks =
      with_link (IsOf i) tt (λ L X link stack. asks (Accept link op) stack (at t L X) (λ now. record now { requests = op ∷ now.requests })) t.stack
      (λ link rest. asking (Accept link op) rest t (λ now. record now { requests = op ∷ now.requests }) (λ u stack. jumping (u.address + 1) stack (record u { requests = op ∷ u.requests })) (λ h. blocks))

  closing_request : (requests : List ℕ) (t : Thread) → IsStep (λ L X. closes_request requests (at t L X))
  closing_request [] t = never (IsOf i) tt
  closing_request (op ∷ requests) t = asking Close t.stack (record t { requests = requests }) (λ now. now) still (λ h. absurd h)

  trying_again : (address : ℕ) (g : Outcome) (t : Thread) → IsClosing (λ L X. tries_again address g (at t L X))
  trying_again address (Ok vs) t = jumping address t.stack t
  trying_again address (Err x) t = raising x t

  awaiting : (address : ℕ) (t : Thread) → Blocks i →
      IsStep (λ L X. by_truth (λ b stack. if b then goes stack (at t L X) else with_outcome (moment t.moment.store L X) Await (λ given now. tries_again address given (record (at t L X) { moment = now; stack = stack }))) t.stack)
  awaiting address t blocks =
      with_truth (IsOf i) tt (λ L X b stack. if b then goes stack (at t L X) else with_outcome (moment t.moment.store L X) Await (λ given now. tries_again address given (record (at t L X) { moment = now; stack = stack }))) t.stack
      (λ b rest.
      by_choice (IsOf i) tt b (λ L X. goes rest (at t L X)) (λ L X. with_outcome (moment t.moment.store L X) Await (λ given now. tries_again address given (record (at t L X) { moment = now; stack = rest })))
      (only (λ L X. goes rest (at t L X)) (jumping (t.address + 1) rest t))
      (acting t.moment.store Await (λ given now. tries_again address given (record t { moment = now; stack = rest })) (λ h. blocks)
      (λ b. trying_again address b.given (record t { moment = moment (record t.moment.store { globals = b.globals }) [] []; stack = rest }))))

-- ---- instructions

module _ (p : Program) (t : Thread) where
  abbrev Stepped : Instruction → Type 0
  Stepped i = IsTree (IsOf (Some i)) (λ L X. step p (at t L X) i)

  abbrev by_itself : (i : Instruction) → IsClosing (λ L X. step p (at t L X) i) → Stepped i
  by_itself i is = only (Some i) (λ L X. step p (at t L X) i) is

  stepped : (i : Instruction) → Stepped i
  stepped (code.Push l) = by_itself (code.Push l) (jumping (t.address + 1) (value_of_literal l ∷ t.stack) t)
  stepped (code.LoadG slot) = by_itself (code.LoadG slot) (loading t (slice_get (variables Global t) slot))
  stepped (code.LoadL slot) = by_itself (code.LoadL slot) (loading t (slice_get (variables Local t) slot))
  stepped (code.AtG slot) = by_itself (code.AtG slot) (loading_member t (slice_get (variables Global t) slot) t.stack)
  stepped (code.AtL slot) = by_itself (code.AtL slot) (loading_member t (slice_get (variables Local t) slot) t.stack)
  stepped (code.StoreG slot) = by_itself (code.StoreG slot) (storing t Global slot t.stack)
  stepped (code.StoreL slot) = by_itself (code.StoreL slot) (storing t Local slot t.stack)
  stepped (code.PutG slot) = by_itself (code.PutG slot) (storing_member t Global slot (slice_get (variables Global t) slot) t.stack)
  stepped (code.PutL slot) = by_itself (code.PutL slot) (storing_member t Local slot (slice_get (variables Local t) slot) t.stack)
  stepped code.Add = by_itself code.Add (with_two_ints t add t.stack)
  stepped code.Sub = by_itself code.Sub (with_two_ints t subtract t.stack)
  stepped code.Mul = by_itself code.Mul (with_two_ints t multiply t.stack)
  stepped code.Div = by_itself code.Div (with_two_ints t divide t.stack)
  stepped code.Mod = by_itself code.Mod (with_two_ints t reduce t.stack)
  stepped code.Neg = by_itself code.Neg (with_one_int t negate t.stack)
  stepped code.Eq = by_itself code.Eq (with_two_alike t value_eq t.stack)
  stepped code.Ne = by_itself code.Ne (with_two_alike t (λ a b. not (value_eq a b)) t.stack)
  stepped code.Lt = by_itself code.Lt (comparing t int_lt t.stack)
  stepped code.Le = by_itself code.Le (comparing t int_le t.stack)
  stepped code.Gt = by_itself code.Gt (comparing t (λ a b. int_lt b a) t.stack)
  stepped code.Ge = by_itself code.Ge (comparing t (λ a b. int_le b a) t.stack)
  stepped code.Not = by_itself code.Not (with_truth OnlyCloses tt (λ L X b stack. goes (Truth (not b) ∷ stack) (at t L X)) t.stack (λ b rest. jumping (t.address + 1) (Truth (not b) ∷ rest) t))
  stepped (code.AndJ address) = by_itself (code.AndJ address) (deciding t false address)
  stepped (code.OrJ address) = by_itself (code.OrJ address) (deciding t true address)
  stepped (code.JumpF address) =
      by_itself (code.JumpF address) (with_truth OnlyCloses tt (λ L X b stack. if b then goes stack (at t L X) else jumps address stack (at t L X)) t.stack (λ b rest. jumping_or t b (t.address + 1) address rest rest))
  stepped (code.Jump address) = by_itself (code.Jump address) (jumping address t.stack t)
  stepped (code.Await address) = awaiting (Some (code.Await address)) address t tt
  stepped (code.Try address) =
      by_itself (code.Try address) (jumping (t.address + 1) t.stack (record t { tries = record { handlers = address; height = length t.stack; depth = length t.requests } ∷ t.tries }))
  stepped code.Untry = by_itself code.Untry (untrying t t.tries)
  stepped (code.Case x address) = by_itself (code.Case x address) (handling t x address t.pending)
  stepped code.Again = by_itself code.Again (raising_again t t.pending)
  stepped (code.Raise x) = by_itself (code.Raise x) (raising x t)
  stepped code.Write =
      writing (IsOf (Some code.Write)) tt (λ L X text stack. asks (Write text) stack (at t L X) (λ now. now)) t.stack (λ text rest. asking (Some code.Write) (Write text) rest t (λ now. now) (still (Some code.Write)) (λ h. absurd h))
  stepped code.New = asking (Some code.New) New t.stack t (λ now. now) (still (Some code.New)) (λ h. absurd h)
  stepped code.Destroy = on_link (Some code.Destroy) (λ link. Destroy link) t (λ l h. absurd h)
  stepped (code.Bind entry) = on_link (Some (code.Bind entry)) (λ link. Bind link entry) t (λ l h. absurd h)
  stepped (code.Unbind entry) = on_link (Some (code.Unbind entry)) (λ link. Unbind link entry) t (λ l h. absurd h)
  stepped (code.Connect op) = connecting (Some (code.Connect op)) op (slice_get p.arguments op) t tt
  stepped (code.Accept op) = accepting (Some (code.Accept op)) op t tt
  stepped code.Close = closing_request (Some code.Close) t.requests t
  stepped (code.Reply k) =
      with_values (IsOf (Some (code.Reply k))) tt k (λ L X vs stack. asks (Reply vs) stack (at t L X) (λ now. now)) t.stack (λ vs rest. asking (Some (code.Reply k)) (Reply vs) rest t (λ now. now) (still (Some (code.Reply k))) (λ h. absurd h))
  stepped code.Stop = record { tree = Halts t.moment.store; same = λ L X. refl; holds = refl }
  stepped code.End = by_itself code.End (ending t.requests t.moment.store)

  -- whatever it is given, an instruction comes to what a tree says
  pub tree_of : (o : Option Instruction) → IsTree (IsOf o) (λ L X. fetched p (at t L X) o)
  tree_of None = never (IsOf None) tt
  tree_of (Some i) = stepped i

-- ---- whatever the variables of the module were

abbrev pub with_globals : List Value → Thread → Thread
with_globals globals t = record t { moment = record t.moment { store = record t.moment.store { globals = globals } } }

-- an instruction waits
abbrev pub WaitsHere : Next → Type 0
WaitsHere (Over (Comes (Waits actions store))) = Unit {0}
WaitsHere _ = ⊥

module _ (p : Program) (t : Thread) (globals : List Value) (b : Answer) (L : List Answer) (X : List Action) where
  abbrev one : Thread
  one = at t (b ∷ L) X

  abbrev other : Thread
  other = at (with_globals globals t) (b ∷ L) X

  same_if : (c : Bool) (f g : Next) → f ≡ g → (if c then f else stuck) ≡ (if c then g else stuck)
  same_if true f g e = e
  same_if false f g e = refl

  same_link : (f g : Value → List Value → Next) (stack : List Value) → ((l : Value) (rest : List Value) → f l rest ≡ g l rest) → by_link f stack ≡ by_link g stack
  same_link f g (Link n ∷ stack) same = same (Link n) stack
  same_link f g _ same = refl

  same_connect : (op : ℕ) (o : Option ℕ) → connects op o one ≡ connects op o other
  same_connect op None = refl
  same_connect op (Some arguments) =
      same_link (λ link below. by_values arguments (λ vs stack. asks (Connect link op vs) stack one (λ now. now)) below) (λ link below. by_values arguments (λ vs stack. asks (Connect link op vs) stack other (λ now. now)) below) t.stack
      (λ l below.
      same_if (nat_le arguments (length below)) (asks (Connect l op (reverse (take arguments below))) (drop arguments below) one (λ now. now)) (asks (Connect l op (reverse (take arguments below))) (drop arguments below) other (λ now. now)) refl)

  same_await : (address : ℕ) (stack : List Value) → WaitsHere (fetched p (at (record t { stack = stack }) [] X) (Some (code.Await address))) →
      fetched p (record one { stack = stack }) (Some (code.Await address)) ≡ fetched p (record other { stack = stack }) (Some (code.Await address))
  same_await address (Truth true ∷ stack) waits = absurd waits
  same_await address (Truth false ∷ stack) waits = refl
  same_await address _ waits = refl

  -- an instruction that blocks sees them only as they stand when it goes on
  pub same_then : (o : Option Instruction) → Blocks o → WaitsHere (fetched p (at t [] X) o) → fetched p one o ≡ fetched p other o
  same_then (Some (code.Connect op)) blocks waits = same_connect op (slice_get p.arguments op)
  same_then (Some (code.Accept op)) blocks waits =
      same_link (λ link stack. asks (Accept link op) stack one (λ now. record now { requests = op ∷ now.requests })) (λ link stack. asks (Accept link op) stack other (λ now. record now { requests = op ∷ now.requests })) t.stack (λ l rest. refl)
  same_then (Some (code.Await address)) blocks waits = same_await address t.stack waits
  same_then _ blocks waits = absurd blocks
