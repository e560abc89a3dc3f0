-- An instruction that goes on with the outcome of its action.
use Rattle.std.proofs.Common.{arith, ◌≡◌, ℕ, suc, ◌+◌, ◌<◌, ◌≤◌, List, [], ◌∷◌, ◌++◌, length, take, drop, reverse, Bool, true, false, nat_le, Some, Result, Ok, Err, IfOk, refl, ap, sym, subst, if◌then◌else◌, ◌∙◌, not-suc-le-zero, None}
use Rattle.std.proofs.lemmas.Bool.Decides.{nat_tests}
use Rattle.typing_rules.specs.declared.exception.Exception.{Exception}
use Rattle.lynx_meaning.specs.Code.{Next, Over, Stuck, Thread, with_outcome, answered, asks, by_link, by_truth, by_values, goes, raises, tries_again, writes, closes_request}
use Rattle.lynx_meaning.specs.Courses.{Action, Await, Close, Outcome, Accept}
use Rattle.lynx_meaning.specs.Values.{Value, Int, Truth, Text, Row, Link, written}
use Rattle.machine_turns.specs.Threads.{Standing, in_turn, is_empty, made, Made}
use Rattle.machine_stack.specs.Stacks.{TopIsLink}
use Rattle.machine_steps.specs.Operands.{HasValues, TopIsPlain}
use Rattle.machine_thread.specs.Closes.{raising}
use Rattle.machine_thread.specs.Outcomes.{first_given, raised_by}

-- what is known of an answer leads to something else
pub where_ok : {X E : Type 0} {P Q : X → Type 0} (r : Result X E) → ((x : X) → P x → Q x) → IfOk r P → IfOk r Q
where_ok (Ok x) leads is = leads x is
where_ok (Err e) leads is = is

-- an instruction that was given something
pub has_outcome : (os : List Outcome) → is_empty os ≡ false → 0 < length os
has_outcome [] is = cc
has_outcome (o ∷ os) is = omega arith

-- ---- by the action

-- that changes nothing but the stack
by_plain : (globals : List Value) (action : Action) (taken : ℕ) (s : Standing) (o : Outcome) (os : List Outcome) →
    let given = record s { given = o ∷ os } in
    made false given (asks action (drop taken s.stack) (in_turn globals given) (λ now. now)) ≡ made false given (answered o (λ now. now) (raising globals ([] ++ action ∷ []) taken 1 0 given))
by_plain globals action taken s (Ok vs) os = refl
by_plain globals action taken s (Err x) os = refl

with_plain : (globals : List Value) (action : Action) (taken : ℕ) (s : Standing) (os : List Outcome) → 0 < length os →
    let given = record s { given = os } in
    made false given (asks action (drop taken s.stack) (in_turn globals given) (λ now. now)) ≡ made false given (answered (first_given os) (λ now. now) (raising globals ([] ++ action ∷ []) taken 1 0 given))
with_plain globals action taken s [] some = absurd (not-suc-le-zero some)
with_plain globals action taken s (o ∷ os) some = by_plain globals action taken s o os

pub plain : (globals : List Value) (action : Action) (taken : ℕ) (s : Standing) → 0 < length s.given →
    made false s (asks action (drop taken s.stack) (in_turn globals s) (λ now. now)) ≡ made false s (answered (first_given s.given) (λ now. now) (raising globals ([] ++ action ∷ []) taken 1 0 s))
plain globals action taken s some = with_plain globals action taken s s.given some

-- an accept, after whose values a request more is open
abbrev accepts : List Value → ℕ → Value → Standing → Made
accepts globals op link s = made false s (asks (Accept link op) (drop 1 s.stack) (in_turn globals s) (λ now. record now { requests = op ∷ now.requests }))

accepted_by : (globals : List Value) (op : ℕ) (link : Value) (s : Standing) (os : List Outcome) → 0 < length os → raised_by (first_given os) ≡ None →
    let given = record s { given = os } in
    let opened = record given { requests = op ∷ s.requests } in
    accepts globals op link given ≡ made false opened (answered (first_given os) (λ now. now) (raising globals ([] ++ Accept link op ∷ []) 1 1 0 opened))
accepted_by globals op link s [] some none = absurd (not-suc-le-zero some)
accepted_by globals op link s (Ok vs ∷ os) some none = refl
accepted_by globals op link s (Err x ∷ os) some none = cc

pub accepted : (globals : List Value) (op : ℕ) (link : Value) (s opened : Standing) → opened ≡ record s { requests = op ∷ s.requests } → 0 < length s.given → raised_by (first_given s.given) ≡ None →
    accepts globals op link s ≡ made false opened (answered (first_given opened.given) (λ now. now) (raising globals ([] ++ Accept link op ∷ []) 1 1 0 opened))
accepted globals op link s opened is some none =
    accepted_by globals op link s s.given some none
    ∙ ap (λ (u : Standing). made false u (answered (first_given u.given) (λ now. now) (raising globals ([] ++ Accept link op ∷ []) 1 1 0 u))) (sym is)

refused_by : (globals : List Value) (op : ℕ) (link : Value) (x : Exception) (s : Standing) (os : List Outcome) → raised_by (first_given os) ≡ Some x →
    let given = record s { given = os } in
    accepts globals op link given ≡ made false given (raises x (raising globals ([] ++ Accept link op ∷ []) 1 1 0 given))
refused_by globals op link x s [] is = cc
refused_by globals op link x s (Ok vs ∷ os) is = cc
refused_by globals op link x s (Err y ∷ os) is =
    let same : y ≡ x = cc in
    let given = record s { given = Err y ∷ os } in
    ap (λ (z : Exception). made false given (raises z (raising globals ([] ++ Accept link op ∷ []) 1 1 0 given))) same

-- it opened none
pub refused : (globals : List Value) (op : ℕ) (link : Value) (x : Exception) (s : Standing) → raised_by (first_given s.given) ≡ Some x →
    accepts globals op link s ≡ made false s (raises x (raising globals ([] ++ Accept link op ∷ []) 1 1 0 s))
refused globals op link x s is = refused_by globals op link x s s.given is

-- the innermost request is closed
by_close : (globals : List Value) (op : ℕ) (requests : List ℕ) (s : Standing) (o : Outcome) (os : List Outcome) →
    let given = record s { requests = op ∷ requests; given = o ∷ os } in
    made false given (closes_request (op ∷ requests) (in_turn globals given)) ≡ made false given (answered o (λ now. now) (raising globals ([] ++ Close ∷ []) 0 1 1 given))
by_close globals op requests s (Ok vs) os = refl
by_close globals op requests s (Err x) os = refl

with_close : (globals : List Value) (s : Standing) (requests : List ℕ) (os : List Outcome) → 0 < length os → 0 < length requests →
    let given = record s { requests = requests; given = os } in
    made false given (closes_request requests (in_turn globals given)) ≡ made false given (answered (first_given os) (λ now. now) (raising globals ([] ++ Close ∷ []) 0 1 1 given))
with_close globals s requests [] some opened = absurd (not-suc-le-zero some)
with_close globals s [] (o ∷ os) some opened = absurd (not-suc-le-zero opened)
with_close globals s (op ∷ requests) (o ∷ os) some opened = by_close globals op requests s o os

pub closing : (globals : List Value) (s : Standing) → 0 < length s.given → 0 < length s.requests →
    made false s (closes_request s.requests (in_turn globals s)) ≡ made false s (answered (first_given s.given) (λ now. now) (raising globals ([] ++ Close ∷ []) 0 1 1 s))
closing globals s some opened = with_close globals s s.requests s.given some opened

-- what an await does
abbrev awaits : ℕ → Thread → Next
awaits address t =
    by_truth (λ b stack. if b then goes stack t else with_outcome t.moment Await (λ given now. tries_again address given (record t { moment = now; stack = stack }))) t.stack

-- it was given an exception
by_await : (globals : List Value) (address : ℕ) (x : Exception) (s : Standing) (below : List Value) (os : List Outcome) → raised_by (first_given os) ≡ Some x →
    let given = record s { stack = Truth false ∷ below; given = os } in
    made true given (awaits address (in_turn globals given)) ≡ made true given (raises x (raising globals ([] ++ Await ∷ []) 1 1 0 given))
by_await globals address x s below [] is = cc
by_await globals address x s below (Ok vs ∷ os) is = cc
by_await globals address x s below (Err y ∷ os) is =
    let same : y ≡ x = cc in
    let given = record s { stack = Truth false ∷ below; given = Err y ∷ os } in
    ap (λ (z : Exception). made true given (raises z (raising globals ([] ++ Await ∷ []) 1 1 0 given))) same

pub awaiting : (globals : List Value) (address : ℕ) (x : Exception) (s : Standing) (below : List Value) → s.stack ≡ Truth false ∷ below → raised_by (first_given s.given) ≡ Some x →
    made true s (awaits address (in_turn globals s)) ≡ made true s (raises x (raising globals ([] ++ Await ∷ []) 1 1 0 s))
awaiting globals address x s below top is =
    subst
    (λ (stack : List Value). let now = record s { stack = stack } in
    made true now (awaits address (in_turn globals now)) ≡ made true now (raises x (raising globals ([] ++ Await ∷ []) 1 1 0 now)))
    (sym top)
    (by_await globals address x s below s.given is)

-- ---- by the operands that it takes

pub linked : (next : Value → List Value → Next) (stack : List Value) → TopIsLink stack → (l : ℕ) × (by_link next stack ≡ next (Link l) (drop 1 stack))
linked next [] top = absurd top
linked next (Int n ∷ below) top = absurd top
linked next (Truth b ∷ below) top = absurd top
linked next (Text bytes ∷ below) top = absurd top
linked next (Row numbers ∷ below) top = absurd top
linked next (Link l ∷ below) top = (l, refl)

pub plain_top : (next : List ℕ → List Value → Next) (stack : List Value) → TopIsPlain stack → (text : List ℕ) × (writes next stack ≡ next text (drop 1 stack))
plain_top next [] top = absurd top
plain_top next (Int n ∷ below) top = (written (Int n), refl)
plain_top next (Truth b ∷ below) top = (written (Truth b), refl)
plain_top next (Text bytes ∷ below) top = (written (Text bytes), refl)
plain_top next (Row numbers ∷ below) top = absurd top
plain_top next (Link l ∷ below) top = absurd top

-- so many values
valued : (k : ℕ) (next : List Value → List Value → Next) (stack : List Value) → k ≤ length stack → by_values k next stack ≡ next (reverse (take k stack)) (drop k stack)
valued k next stack has =
    let yes : nat_le k (length stack) ≡ true = grind (arith, nat_tests) in
    ap (λ (b : Bool). if b then next (reverse (take k stack)) (drop k stack) else Over Stuck) yes

-- and a link above them
pub link_and_values : (k taken : ℕ) (next : Value → List Value → List Value → Next) (stack : List Value) → HasValues (Some k) stack → taken ≡ k + 1 →
    (l : Value) × (vs : List Value) × (by_link (λ link below. by_values k (λ vs rest. next link vs rest) below) stack ≡ next l vs (drop taken stack))
link_and_values k taken next [] has size = absurd has
link_and_values k taken next (Int n ∷ below) has size = absurd has
link_and_values k taken next (Truth b ∷ below) has size = absurd has
link_and_values k taken next (Text bytes ∷ below) has size = absurd has
link_and_values k taken next (Row numbers ∷ below) has size = absurd has
link_and_values k taken next (Link l ∷ below) has size =
    let one : suc k ≡ taken = omega arith in (
      Link l,
      reverse (take k below),
      valued k (λ vs rest. next (Link l) vs rest) below has ∙ ap (λ (n : ℕ). next (Link l) (reverse (take k below)) (drop n (Link l ∷ below))) one,
    )
