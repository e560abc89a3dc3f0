-- How far a thread comes with the answers that it is given.
use Rattle.std.specs.Prelude.{ℕ, List, [], ◌∷◌, ◌++◌, Result, Ok, Err}
use Rattle.typing_rules.specs.declared.exception.Exception.{Exception}
use Rattle.lynx_meaning.specs.Values.{Value}

-- what a thread asks of its process; links are named by their values, operations and entries by their numbers
pub data Action : Type 0 where
  New : Action
  Destroy : Value → Action
  Bind : Value → ℕ → Action
  Unbind : Value → ℕ → Action
  Connect : Value → ℕ → List Value → Action
  Accept : Value → ℕ → Action
  Close : Action
  Reply : List Value → Action
  -- the text that is printed
  Write : List ℕ → Action
  -- an await that finds false
  Await : Action
  Stop : Action

-- the variables that a thread sees
pub record Store : Type 0 where
  pub globals : List Value
  pub locals : List Value

-- what an action is given: values, or an exception
abbrev pub Outcome : Type 0
Outcome = Result (List Value) Exception

-- the outcome of an action, and the variables of the module as they stand when the thread goes on
pub record Answer : Type 0 where
  pub given : Outcome
  pub globals : List Value

-- a thread between two steps: its variables, the answers that are left, and its actions so far
pub record Moment : Type 0 where
  pub store : Store
  pub answers : List Answer
  pub actions : List Action

-- what a thread comes to, after these actions: it ends with these variables, waits for an answer, or goes on beyond the bound
pub data Behaviour : Type 0 where
  Ended : List Action → Store → Behaviour
  Waits : List Action → Store → Behaviour
  Out : List Action → Behaviour

-- what a part of a thread comes to: the thread goes on behind it, an exception is raised, or the thread waits or is out
pub data Course : Type 0 where
  Proceeds : Moment → Course
  Raises : Exception → Moment → Course
  Over : Behaviour → Course

-- ---- one after the other

abbrev pub and_then : Course → (Moment → Course) → Course
and_then (Proceeds m) next = next m
and_then (Raises exception m) next = Raises exception m
and_then (Over behaviour) next = Over behaviour

-- what is given, or the exception that is raised in its place
abbrev pub with_value : {X : Type 0} → Result X Exception → Moment → (X → Course) → Course
with_value (Ok x) m next = next x
with_value (Err exception) m next = Raises exception m

-- ---- actions

-- the moment after an action that got this answer, with these left
abbrev pub after : Moment → Action → Answer → List Answer → Moment
after m action a rest = record { store = record m.store { globals = a.globals }; answers = rest; actions = m.actions ++ action ∷ [] }

abbrev pub answered : Moment → Action → List Answer → (List Value → Moment → Course) → Course
answered m action [] next = Over (Waits (m.actions ++ action ∷ []) m.store)
answered m action (a ∷ rest) next = with_value a.given (after m action a rest) (λ vs. next vs (after m action a rest))

-- an action, and what comes with the values that it is given
abbrev pub acts : Moment → Action → (List Value → Moment → Course) → Course
acts m action next = answered m action m.answers next

-- one that is given no values
abbrev pub does : Moment → Action → Course
does m action = acts m action (λ vs now. Proceeds now)
