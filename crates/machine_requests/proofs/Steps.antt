-- An instruction acts in order: its own action first, and then it only closes. It hears each answer that it waits for.
use Rattle.std.proofs.Common.{◌≡◌, ℕ, ℤ, zero, suc, ◌+◌, ◌-◌, List, [], ◌∷◌, ◌++◌, Bool, true, false, not, nat_lt, nat_le, int_le, int_lt, if◌then◌else◌, Option, Some, None, Result, Ok, Err, length, reverse, take, drop, slice_get, slice_set, bytes_eq, refl}
use Rattle.lynx_code.specs.declared.instruction.Instruction.{Instruction}
use Rattle.lynx_code.specs.declared.instruction.Instruction.TheVariants as code
use Rattle.typing_rules.specs.Exceptions.{exception_text}
use Rattle.typing_rules.specs.declared.exception.Exception.{Exception}
use Rattle.lynx_meaning.specs.Code.{Next, Goes, Over, Comes, Stuck, Opened, Program, Kind, Global, Local, Thread, with_outcome, again, answered, asks, by_link, by_truth, by_values, closes, closes_request, compares, connects, cut, decides, ends, fetched}
use Rattle.lynx_meaning.specs.Code.{gives, goes, handles, instead, jumps, loads, loads_member, one_int, puts, raises, raises_in, stores, stores_member, step, stuck, tries_again, two_alike, two_ints, untries, value_of_literal, variables, with_variables, writes}
use Rattle.lynx_meaning.specs.Courses.{Action, Answer, Moment, Outcome, New, Destroy, Bind, Unbind, Connect, Accept, Close, Reply, Write, Await, Stop, Ended, Waits, Out, after}
use Rattle.lynx_meaning.specs.Needs.{NoValue, wanted_by}
use Rattle.lynx_meaning.specs.Values.{Value, Given, Int, Truth, Text, Row, Link, add, divide, member, multiply, negate, reduce, subtract, truth_eq, value_eq, with_member, written}
use Rattle.machine_requests.specs.Open.{first_wanted, later_wanted}
use Rattle.machine_requests.specs.Heard.{HearsAll}

-- ---- actions in order

-- the first one is such, and all later ones are so
abbrev pub AreInOrder : (Action → Type 0) → (Action → Type 0) → List Action → Type 0
AreInOrder First Later [] = Unit {0}
AreInOrder First Later (a ∷ xs) = First a × AreInOrder Later Later xs

in_order : (First Later : Action → Type 0) (xs : List Action) (a : Action) → AreInOrder First Later xs → (xs ≡ [] → First a) → Later a → AreInOrder First Later (xs ++ a ∷ [])
in_order First Later [] a order first later = (first refl, tt)
in_order First Later (b ∷ xs) a order first later = (order.0, in_order Later Later xs a order.1 (λ e. later) later)

some_more : (xs : List Action) (a : Action) → xs ++ a ∷ [] ≡ [] → ⊥
some_more [] a e = cc
some_more (b ∷ xs) a e = cc

-- an instruction waits
abbrev pub WaitsHere : Next → Type 0
WaitsHere (Over (Comes (Waits actions store))) = Unit {0}
WaitsHere _ = ⊥

-- with these answers
abbrev pub at : Moment → List Answer → Moment
at m L = record m { answers = L }

abbrev pub with_answers : Thread → List Answer → Thread
with_answers t L = record t { moment = at t.moment L }

module _ (First Later : Action → Type 0) where
  -- behind these actions come closes alone
  pub record Closes (actions : List Action) : Type 0 where
    pub order : AreInOrder First Later actions
    pub first : actions ≡ [] → First Close
    pub later : Later Close

  closed : (actions : List Action) → Closes actions → Closes (actions ++ Close ∷ [])
  closed actions c = record { order = in_order First Later actions Close c.order c.first c.later; first = λ e. absurd (some_more actions Close e); later = c.later }

  -- behind the first action
  acted : (actions : List Action) (a : Action) → actions ≡ [] → First a → Later Close → Closes (actions ++ a ∷ [])
  acted [] a none is later = record { order = (is, tt); first = λ e. absurd (some_more [] a e); later = later }
  acted (b ∷ xs) a none is later = cc

  abbrev pub Told : Next → Type 0
  Told (Goes t) = AreInOrder First Later t.moment.actions
  Told (Over (Comes (Waits actions store))) = AreInOrder First Later actions
  Told (Over (Comes (Ended actions store))) = Closes actions
  Told (Over (Comes (Out actions))) = Unit {0}
  Told (Over Stuck) = Unit {0}

  -- what comes of an instruction with these answers or those
  pub record IsOrderly (f : List Answer → Next) : Type 0 where
    pub none : HearsAll (f [])
    pub more : (L : List Answer) (a : Answer) → WaitsHere (f L) → HearsAll (f (L ++ a ∷ []))
    pub told : (L : List Answer) → Told (f L)

  going : (t : Thread) → AreInOrder First Later t.moment.actions → IsOrderly (λ L. Goes (with_answers t L))
  going t order = record { none = refl; more = λ L a w. absurd w; told = λ L. order }

  sticking : IsOrderly (λ L. stuck)
  sticking = record { none = tt; more = λ L a w. absurd w; told = λ L. tt }

  acting : (m : Moment) (a : Action) (next : Outcome → Moment → Next) → AreInOrder First Later (m.actions ++ a ∷ []) → ((b : Answer) → IsOrderly (λ L. next b.given (at (after m a b []) L))) → IsOrderly (λ L. with_outcome (at m L) a next)
  acting m a next order onward = record { none = tt; more = more; told = told }
    where
      more : (L : List Answer) (b : Answer) → WaitsHere (with_outcome (at m L) a next) → HearsAll (with_outcome (at m (L ++ b ∷ [])) a next)
      more [] b w = (onward b).none
      more (c ∷ L) b w = (onward c).more L b w

      told : (L : List Answer) → Told (with_outcome (at m L) a next)
      told [] = order
      told (c ∷ L) = (onward c).told L

  -- ---- exceptions

  closing : (k : ℕ) (x : Exception) (m : Moment) (next : Exception → Moment → Next) → Closes m.actions → ((y : Exception) (now : Moment) → Closes now.actions → IsOrderly (λ L. next y (at now L))) → IsOrderly (λ L. closes k x (at m L) next)
  closing zero x m next c onward = onward x m c
  closing (suc k) x m next c onward =
      acting m Close (λ given now. closes k (instead given x) now next) (closed m.actions c).order (λ b. closing k (instead b.given x) (after m Close b []) next (closed m.actions c) onward)

  ending : (requests : List ℕ) (m : Moment) → Closes m.actions → IsOrderly (λ L. ends requests (at m L))
  ending [] m c = record { none = tt; more = λ L a w. absurd w; told = λ L. c }
  ending (op ∷ requests) m c = acting m Close (λ given now. ends requests now) (closed m.actions c).order (λ b. ending requests (after m Close b []) (closed m.actions c))

  raising_in : (x : Exception) (t : Thread) (os : List Opened) → Closes t.moment.actions → IsOrderly (λ L. raises_in x (with_answers t L) os)
  raising_in x t [] c = ending t.requests t.moment c
  raising_in x t (o ∷ os) c =
      closing (length t.requests - o.depth) x t.moment
      (λ other now. Goes (record { address = o.handlers; stack = cut o.height t.stack; tries = os; requests = cut o.depth t.requests; pending = Some other; moment = now })) c
      (λ y now d. going (record { address = o.handlers; stack = cut o.height t.stack; tries = os; requests = cut o.depth t.requests; pending = Some y; moment = now }) d.order)

  raising : (x : Exception) (t : Thread) → Closes t.moment.actions → IsOrderly (λ L. raises x (with_answers t L))
  raising x t c = raising_in x t t.tries c

  -- ---- going on

  jumping : (address : ℕ) (stack : List Value) (t : Thread) → AreInOrder First Later t.moment.actions → IsOrderly (λ L. jumps address stack (with_answers t L))
  jumping address stack t order = going (record t { address = address; stack = stack }) order

  giving : (g : Given) (stack : List Value) (t : Thread) → Closes t.moment.actions → IsOrderly (λ L. gives g stack (with_answers t L))
  giving (Ok v) stack t c = jumping (t.address + 1) (v ∷ stack) t c.order
  giving (Err x) stack t c = raising x t c

  -- how a thread may change xs values come
  abbrev Changes : (Thread → Thread) → Type 0
  Changes change = (t : Thread) (stack : List Value) → AreInOrder First Later t.moment.actions → IsOrderly (λ L. goes stack (change (with_answers t L)))

  answering : (o : Outcome) (change : Thread → Thread) (t : Thread) → Changes change → Closes t.moment.actions → IsOrderly (λ L. answered o change (with_answers t L))
  answering (Ok vs) change t changes c = changes t (reverse vs ++ t.stack) c.order
  answering (Err x) change t changes c = raising x t c

  still : Changes (λ it. it)
  still t stack order = jumping (t.address + 1) stack t order

  asking : (a : Action) (stack : List Value) (t : Thread) (change : Thread → Thread) → Changes change → t.moment.actions ≡ [] → First a → Later Close → IsOrderly (λ L. asks a stack (with_answers t L) change)
  asking a stack t change changes none is later =
      let c = acted t.moment.actions a none is later in
      acting t.moment a (λ given now. answered given change (record t { moment = now; stack = stack })) c.order
      (λ b. answering b.given change (record t { moment = after t.moment a b []; stack = stack }) changes c)

  -- ---- operands

  by_choice : (b : Bool) (f g : List Answer → Next) → IsOrderly f → IsOrderly g → IsOrderly (λ L. if b then f L else g L)
  by_choice true f g is other = is
  by_choice false f g is other = other

  with_truth : (next : List Answer → Bool → List Value → Next) (stack : List Value) → ((b : Bool) (rest : List Value) → IsOrderly (λ L. next L b rest)) → IsOrderly (λ L. by_truth (next L) stack)
  with_truth next (Truth b ∷ stack) onward = onward b stack
  with_truth next _ onward = sticking

  with_link : (next : List Answer → Value → List Value → Next) (stack : List Value) → ((l : Value) (rest : List Value) → IsOrderly (λ L. next L l rest)) → IsOrderly (λ L. by_link (next L) stack)
  with_link next (Link n ∷ stack) onward = onward (Link n) stack
  with_link next _ onward = sticking

  with_values : (k : ℕ) (next : List Answer → List Value → List Value → Next) (stack : List Value) → ((vs rest : List Value) → IsOrderly (λ L. next L vs rest)) → IsOrderly (λ L. by_values k (next L) stack)
  with_values k next stack onward =
      by_choice (nat_le k (length stack)) (λ L. next L (reverse (take k stack)) (drop k stack)) (λ L. stuck) (onward (reverse (take k stack)) (drop k stack)) sticking

  writing : (next : List Answer → List ℕ → List Value → Next) (stack : List Value) → ((text : List ℕ) (rest : List Value) → IsOrderly (λ L. next L text rest)) → IsOrderly (λ L. writes (next L) stack)
  writing next (Int n ∷ stack) onward = onward (written (Int n)) stack
  writing next (Truth b ∷ stack) onward = onward (written (Truth b)) stack
  writing next (Text bytes ∷ stack) onward = onward (written (Text bytes)) stack
  writing next _ onward = sticking

  -- a thread before its instruction has not acted; where the instruction raises, closes come first
  module _ (t : Thread) (begun : Closes t.moment.actions) where
    loading : (o : Option Value) → IsOrderly (λ L. loads o (with_answers t L))
    loading None = sticking
    loading (Some v) = jumping (t.address + 1) (v ∷ t.stack) t begun.order

    storing : (kind : Kind) (slot : ℕ) (stack : List Value) → IsOrderly (λ L. stores kind slot stack (with_answers t L))
    storing kind slot [] = sticking
    storing Global slot (v ∷ stack) =
        by_choice (nat_lt slot (length (variables Global t))) (λ L. goes stack (with_variables Global (slice_set (variables Global t) slot v) (with_answers t L))) (λ L. stuck)
        (jumping (t.address + 1) stack (with_variables Global (slice_set (variables Global t) slot v) t) begun.order) sticking
    storing Local slot (v ∷ stack) =
        by_choice (nat_lt slot (length (variables Local t))) (λ L. goes stack (with_variables Local (slice_set (variables Local t) slot v) (with_answers t L))) (λ L. stuck)
        (jumping (t.address + 1) stack (with_variables Local (slice_set (variables Local t) slot v) t) begun.order) sticking

    loading_member : (o : Option Value) (stack : List Value) → IsOrderly (λ L. loads_member o stack (with_answers t L))
    loading_member (Some (Row row)) (Int index ∷ stack) = giving (member row index) stack t begun
    loading_member _ _ = sticking

    putting : (kind : Kind) (slot : ℕ) (r : Result (List ℤ) Exception) (stack : List Value) → IsOrderly (λ L. puts kind slot r stack (with_answers t L))
    putting Global slot (Ok row) stack = jumping (t.address + 1) stack (with_variables Global (slice_set (variables Global t) slot (Row row)) t) begun.order
    putting Local slot (Ok row) stack = jumping (t.address + 1) stack (with_variables Local (slice_set (variables Local t) slot (Row row)) t) begun.order
    putting kind slot (Err x) stack = raising x t begun

    storing_member : (kind : Kind) (slot : ℕ) (o : Option Value) (stack : List Value) → IsOrderly (λ L. stores_member kind slot o stack (with_answers t L))
    storing_member kind slot (Some (Row row)) (Int v ∷ Int index ∷ stack) = putting kind slot (with_member row index v) stack
    storing_member kind slot _ _ = sticking

    with_two_ints : (operator : ℤ → ℤ → Given) (stack : List Value) → IsOrderly (λ L. two_ints operator (with_answers t L) stack)
    with_two_ints operator (Int b ∷ Int a ∷ stack) = giving (operator a b) stack t begun
    with_two_ints operator _ = sticking

    with_one_int : (operator : ℤ → Given) (stack : List Value) → IsOrderly (λ L. one_int operator (with_answers t L) stack)
    with_one_int operator (Int a ∷ stack) = giving (operator a) stack t begun
    with_one_int operator _ = sticking

    with_two_alike : (test : Value → Value → Bool) (stack : List Value) → IsOrderly (λ L. two_alike test (with_answers t L) stack)
    with_two_alike test (Int b ∷ Int a ∷ stack) = jumping (t.address + 1) (Truth (test (Int a) (Int b)) ∷ stack) t begun.order
    with_two_alike test (Truth b ∷ Truth a ∷ stack) = jumping (t.address + 1) (Truth (test (Truth a) (Truth b)) ∷ stack) t begun.order
    with_two_alike test (Text b ∷ Text a ∷ stack) = jumping (t.address + 1) (Truth (test (Text a) (Text b)) ∷ stack) t begun.order
    with_two_alike test _ = sticking

    comparing : (test : ℤ → ℤ → Bool) (stack : List Value) → IsOrderly (λ L. compares test (with_answers t L) stack)
    comparing test (Int b ∷ Int a ∷ stack) = jumping (t.address + 1) (Truth (test a b) ∷ stack) t begun.order
    comparing test _ = sticking

    choosing : (b : Bool) (address other : ℕ) (stack rest : List Value) → IsOrderly (λ L. if b then jumps address stack (with_answers t L) else jumps other rest (with_answers t L))
    choosing true address other stack rest = jumping address stack t begun.order
    choosing false address other stack rest = jumping other rest t begun.order

    deciding : (truth : Bool) (address : ℕ) → IsOrderly (λ L. decides truth address (with_answers t L))
    deciding truth address =
        with_truth (λ L b stack. if truth_eq truth b then jumps address t.stack (with_answers t L) else goes stack (with_answers t L)) t.stack (λ b rest. choosing (truth_eq truth b) address (t.address + 1) t.stack rest)

    untrying : (os : List Opened) → IsOrderly (λ L. untries os (with_answers t L))
    untrying [] = sticking
    untrying (o ∷ os) = jumping (t.address + 1) t.stack (record t { tries = os }) begun.order

    handling : (x : Exception) (address : ℕ) (o : Option Exception) → IsOrderly (λ L. handles x address o (with_answers t L))
    handling x address None = sticking
    handling x address (Some pending) = choosing (bytes_eq (exception_text pending) (exception_text x)) (t.address + 1) address t.stack t.stack

    raising_again : (o : Option Exception) → IsOrderly (λ L. again o (with_answers t L))
    raising_again None = sticking
    raising_again (Some x) = raising x t begun

  -- ---- actions of their own

  module _ (t : Thread) (none : t.moment.actions ≡ []) (later : Later Close) where
    abbrev acts : Action → List Value → List Answer → Next
    acts a stack L = asks a stack (with_answers t L) (λ it. it)

    acting_on_link : (action : Value → Action) → ((l : Value) → First (action l)) → IsOrderly (λ L. by_link (λ link stack. acts (action link) stack L) t.stack)
    acting_on_link action is = with_link (λ L link stack. acts (action link) stack L) t.stack (λ link rest. asking (action link) rest t (λ it. it) still none (is link) later)

    connecting : (op : ℕ) (o : Option ℕ) → ((l : Value) (vs : List Value) → First (Connect l op vs)) → IsOrderly (λ L. connects op o (with_answers t L))
    connecting op None is = sticking
    connecting op (Some arguments) is =
        with_link (λ L link below. by_values arguments (λ vs stack. acts (Connect link op vs) stack L) below) t.stack
        (λ link below. with_values arguments (λ L vs stack. acts (Connect link op vs) stack L) below (λ vs rest. asking (Connect link op vs) rest t (λ it. it) still none (is link vs) later))

    accepting : (op : ℕ) → ((l : Value) → First (Accept l op)) → IsOrderly (λ L. by_link (λ link stack. asks (Accept link op) stack (with_answers t L) (λ now. record now { requests = op ∷ now.requests })) t.stack)
    accepting op is =
        with_link (λ L link stack. asks (Accept link op) stack (with_answers t L) (λ now. record now { requests = op ∷ now.requests })) t.stack
        (λ link rest.
        asking (Accept link op) rest t (λ now. record now { requests = op ∷ now.requests }) (λ u stack order. jumping (u.address + 1) stack (record u { requests = op ∷ u.requests }) order) none (is link) later)

    closing_request : (requests : List ℕ) → First Close → IsOrderly (λ L. closes_request requests (with_answers t L))
    closing_request [] is = sticking
    closing_request (op ∷ requests) is = asking Close t.stack (record t { requests = requests }) (λ it. it) still none is later

    trying_again : (address : ℕ) (g : Outcome) (u : Thread) → Closes u.moment.actions → IsOrderly (λ L. tries_again address g (with_answers u L))
    trying_again address (Ok vs) u c = jumping address u.stack u c.order
    trying_again address (Err x) u c = raising x u c

    awaiting : (address : ℕ) (stack : List Value) → First Await → IsOrderly (λ L. with_outcome (at t.moment L) Await (λ given now. tries_again address given (record t { moment = now; stack = stack })))
    awaiting address stack is =
        let c = acted t.moment.actions Await none is later in
        acting t.moment Await (λ given now. tries_again address given (record t { moment = now; stack = stack })) c.order
        (λ b. trying_again address b.given (record t { moment = after t.moment Await b []; stack = stack }) c)

-- ---- instructions

-- a connect, an accept or an await
abbrev pub Blocks : Option Instruction → Type 0
Blocks (Some (code.Connect op)) = Unit {0}
Blocks (Some (code.Accept op)) = Unit {0}
Blocks (Some (code.Await address)) = Unit {0}
Blocks _ = ⊥

-- what an action tells of its instruction
abbrev pub Tells : Option Instruction → Action → Type 0
Tells i (Connect link op values) = Blocks i
Tells i (Accept link op) = Blocks i
Tells i Await = Blocks i
Tells i Stop = (first_wanted i ≡ NoValue) × (later_wanted i ≡ NoValue)
Tells i _ = Unit {0}

abbrev pub IsFirst : Option Instruction → Action → Type 0
IsFirst i a = (wanted_by a ≡ first_wanted i) × Tells i a

abbrev pub IsLater : Option Instruction → Action → Type 0
IsLater i a = (wanted_by a ≡ later_wanted i) × Tells i a

-- a thread before its instruction, with these answers
abbrev pub before : Thread → List Answer → Thread
before t L = record t { moment = record { store = t.moment.store; answers = L; actions = [] } }

module _ (p : Program) (it : Thread) where
  abbrev t : Thread
  t = before it []

  abbrev Orderly : Instruction → (List Answer → Next) → Type 0
  Orderly i f = IsOrderly (IsFirst (Some i)) (IsLater (Some i)) f

  -- where it acts only xs it raises or ends
  begun : (i : Instruction) → IsFirst (Some i) Close → IsLater (Some i) Close → Closes (IsFirst (Some i)) (IsLater (Some i)) []
  begun i first later = record { order = tt; first = λ e. first; later = later }

  computing : (i : Instruction) (operator : ℤ → ℤ → Given) → IsFirst (Some i) Close → IsLater (Some i) Close → Orderly i (λ L. two_ints operator (before it L) it.stack)
  computing i operator first later = with_two_ints (IsFirst (Some i)) (IsLater (Some i)) t (begun i first later) operator it.stack

  comparing_two : (i : Instruction) (test : ℤ → ℤ → Bool) → IsFirst (Some i) Close → IsLater (Some i) Close → Orderly i (λ L. compares test (before it L) it.stack)
  comparing_two i test first later = comparing (IsFirst (Some i)) (IsLater (Some i)) t (begun i first later) test it.stack

  -- where it acts by itself, and raises behind that
  abbrev does : (i : Instruction) (a : Action) (stack : List Value) → IsFirst (Some i) a → IsLater (Some i) Close → Orderly i (λ L. asks a stack (before it L) (λ now. now))
  does i a stack first later = asking (IsFirst (Some i)) (IsLater (Some i)) a stack t (λ now. now) (still (IsFirst (Some i)) (IsLater (Some i))) refl first later

  on_link : (i : Instruction) (action : Value → Action) → ((l : Value) → IsFirst (Some i) (action l)) → IsLater (Some i) Close → Orderly i (λ L. by_link (λ link stack. asks (action link) stack (before it L) (λ now. now)) it.stack)
  on_link i action first later = acting_on_link (IsFirst (Some i)) (IsLater (Some i)) t refl later action first

  stepped : (i : Instruction) → Orderly i (λ L. step p (before it L) i)
  stepped (code.Push l) = jumping (IsFirst (Some (code.Push l))) (IsLater (Some (code.Push l))) (it.address + 1) (value_of_literal l ∷ it.stack) t tt
  stepped (code.LoadG slot) = loading (IsFirst (Some (code.LoadG slot))) (IsLater (Some (code.LoadG slot))) t (begun (code.LoadG slot) (refl, tt) (refl, tt)) (slice_get (variables Global t) slot)
  stepped (code.LoadL slot) = loading (IsFirst (Some (code.LoadL slot))) (IsLater (Some (code.LoadL slot))) t (begun (code.LoadL slot) (refl, tt) (refl, tt)) (slice_get (variables Local t) slot)
  stepped (code.AtG slot) = loading_member (IsFirst (Some (code.AtG slot))) (IsLater (Some (code.AtG slot))) t (begun (code.AtG slot) (refl, tt) (refl, tt)) (slice_get (variables Global t) slot) it.stack
  stepped (code.AtL slot) = loading_member (IsFirst (Some (code.AtL slot))) (IsLater (Some (code.AtL slot))) t (begun (code.AtL slot) (refl, tt) (refl, tt)) (slice_get (variables Local t) slot) it.stack
  stepped (code.StoreG slot) = storing (IsFirst (Some (code.StoreG slot))) (IsLater (Some (code.StoreG slot))) t (begun (code.StoreG slot) (refl, tt) (refl, tt)) Global slot it.stack
  stepped (code.StoreL slot) = storing (IsFirst (Some (code.StoreL slot))) (IsLater (Some (code.StoreL slot))) t (begun (code.StoreL slot) (refl, tt) (refl, tt)) Local slot it.stack
  stepped (code.PutG slot) = storing_member (IsFirst (Some (code.PutG slot))) (IsLater (Some (code.PutG slot))) t (begun (code.PutG slot) (refl, tt) (refl, tt)) Global slot (slice_get (variables Global t) slot) it.stack
  stepped (code.PutL slot) = storing_member (IsFirst (Some (code.PutL slot))) (IsLater (Some (code.PutL slot))) t (begun (code.PutL slot) (refl, tt) (refl, tt)) Local slot (slice_get (variables Local t) slot) it.stack
  stepped code.Add = computing code.Add add (refl, tt) (refl, tt)
  stepped code.Sub = computing code.Sub subtract (refl, tt) (refl, tt)
  stepped code.Mul = computing code.Mul multiply (refl, tt) (refl, tt)
  stepped code.Div = computing code.Div divide (refl, tt) (refl, tt)
  stepped code.Mod = computing code.Mod reduce (refl, tt) (refl, tt)
  stepped code.Neg = with_one_int (IsFirst (Some code.Neg)) (IsLater (Some code.Neg)) t (begun code.Neg (refl, tt) (refl, tt)) negate it.stack
  stepped code.Eq = with_two_alike (IsFirst (Some code.Eq)) (IsLater (Some code.Eq)) t (begun code.Eq (refl, tt) (refl, tt)) value_eq it.stack
  stepped code.Ne = with_two_alike (IsFirst (Some code.Ne)) (IsLater (Some code.Ne)) t (begun code.Ne (refl, tt) (refl, tt)) (λ a b. not (value_eq a b)) it.stack
  stepped code.Lt = comparing_two code.Lt int_lt (refl, tt) (refl, tt)
  stepped code.Le = comparing_two code.Le int_le (refl, tt) (refl, tt)
  stepped code.Gt = comparing_two code.Gt (λ a b. int_lt b a) (refl, tt) (refl, tt)
  stepped code.Ge = comparing_two code.Ge (λ a b. int_le b a) (refl, tt) (refl, tt)
  stepped code.Not = with_truth (IsFirst (Some code.Not)) (IsLater (Some code.Not)) (λ L b stack. goes (Truth (not b) ∷ stack) (before it L)) it.stack (λ b rest. jumping (IsFirst (Some code.Not)) (IsLater (Some code.Not)) (it.address + 1) (Truth (not b) ∷ rest) t tt)
  stepped (code.AndJ address) = deciding (IsFirst (Some (code.AndJ address))) (IsLater (Some (code.AndJ address))) t (begun (code.AndJ address) (refl, tt) (refl, tt)) false address
  stepped (code.OrJ address) = deciding (IsFirst (Some (code.OrJ address))) (IsLater (Some (code.OrJ address))) t (begun (code.OrJ address) (refl, tt) (refl, tt)) true address
  stepped (code.JumpF address) =
      with_truth (IsFirst (Some (code.JumpF address))) (IsLater (Some (code.JumpF address))) (λ L b stack. if b then goes stack (before it L) else jumps address stack (before it L)) it.stack
      (λ b rest. choosing (IsFirst (Some (code.JumpF address))) (IsLater (Some (code.JumpF address))) t (begun (code.JumpF address) (refl, tt) (refl, tt)) b (it.address + 1) address rest rest)
  stepped (code.Jump address) = jumping (IsFirst (Some (code.Jump address))) (IsLater (Some (code.Jump address))) address it.stack t tt
  stepped (code.Await address) =
      with_truth (IsFirst (Some (code.Await address))) (IsLater (Some (code.Await address)))
      (λ L b stack. if b then goes stack (before it L) else with_outcome (before it L).moment Await (λ given now. tries_again address given (record (before it L) { moment = now; stack = stack }))) it.stack
      (λ b rest.
      by_choice (IsFirst (Some (code.Await address))) (IsLater (Some (code.Await address))) b (λ L. goes rest (before it L)) (λ L. with_outcome (before it L).moment Await (λ given now. tries_again address given (record (before it L) { moment = now; stack = rest })))
      (jumping (IsFirst (Some (code.Await address))) (IsLater (Some (code.Await address))) (it.address + 1) rest t tt)
      (awaiting (IsFirst (Some (code.Await address))) (IsLater (Some (code.Await address))) t refl (refl, tt) address rest (refl, tt)))
  stepped (code.Try address) = jumping (IsFirst (Some (code.Try address))) (IsLater (Some (code.Try address))) (it.address + 1) it.stack (record t { tries = record { handlers = address; height = length it.stack; depth = length it.requests } ∷ it.tries }) tt
  stepped code.Untry = untrying (IsFirst (Some code.Untry)) (IsLater (Some code.Untry)) t (begun code.Untry (refl, tt) (refl, tt)) it.tries
  stepped (code.Case x address) = handling (IsFirst (Some (code.Case x address))) (IsLater (Some (code.Case x address))) t (begun (code.Case x address) (refl, tt) (refl, tt)) x address it.pending
  stepped code.Again = raising_again (IsFirst (Some code.Again)) (IsLater (Some code.Again)) t (begun code.Again (refl, tt) (refl, tt)) it.pending
  stepped (code.Raise x) = raising (IsFirst (Some (code.Raise x))) (IsLater (Some (code.Raise x))) x t (begun (code.Raise x) (refl, tt) (refl, tt))
  stepped code.Write = writing (IsFirst (Some code.Write)) (IsLater (Some code.Write)) (λ L text stack. asks (Write text) stack (before it L) (λ now. now)) it.stack (λ text rest. does code.Write (Write text) rest (refl, tt) (refl, tt))
  stepped code.New = does code.New New it.stack (refl, tt) (refl, tt)
  stepped code.Destroy = on_link code.Destroy (λ link. Destroy link) (λ l. (refl, tt)) (refl, tt)
  stepped (code.Bind entry) = on_link (code.Bind entry) (λ link. Bind link entry) (λ l. (refl, tt)) (refl, tt)
  stepped (code.Unbind entry) = on_link (code.Unbind entry) (λ link. Unbind link entry) (λ l. (refl, tt)) (refl, tt)
  stepped (code.Connect op) = connecting (IsFirst (Some (code.Connect op))) (IsLater (Some (code.Connect op))) t refl (refl, tt) op (slice_get p.arguments op) (λ l vs. (refl, tt))
  stepped (code.Accept op) = accepting (IsFirst (Some (code.Accept op))) (IsLater (Some (code.Accept op))) t refl (refl, tt) op (λ l. (refl, tt))
  stepped code.Close = closing_request (IsFirst (Some code.Close)) (IsLater (Some code.Close)) t refl (refl, tt) it.requests (refl, tt)
  stepped (code.Reply k) = with_values (IsFirst (Some (code.Reply k))) (IsLater (Some (code.Reply k))) k (λ L vs stack. asks (Reply vs) stack (before it L) (λ now. now)) it.stack (λ vs rest. does (code.Reply k) (Reply vs) rest (refl, tt) (refl, tt))
  stepped code.Stop = record { none = tt; more = λ L a w. tt; told = λ L. ((refl, (refl, refl)), tt) }
  stepped code.End = ending (IsFirst (Some code.End)) (IsLater (Some code.End)) it.requests t.moment (begun code.End (refl, tt) (refl, tt))

  pub fetching : (o : Option Instruction) → IsOrderly (IsFirst o) (IsLater o) (λ L. fetched p (before it L) o)
  fetching None = sticking (IsFirst None) (IsLater None)
  fetching (Some i) = stepped i
