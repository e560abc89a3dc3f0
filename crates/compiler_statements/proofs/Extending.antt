-- A statement adds actions to those that were there.
use Rattle.std.proofs.Common.{◌≡◌, ℕ, zero, suc, List, [], ◌∷◌, ◌++◌, reverse, Bool, true, false, if◌then◌else◌, Result, Ok, Err, refl, subst}
use Rattle.std.specs.Str.{bytes_eq}
use Rattle.lynx_tree.specs.Trees.{ExprTree, HandlerTrees, StmtTree, StmtTrees}
use Rattle.lynx_tree.specs.Trees as trees
use Rattle.lynx_code.specs.Generation.{Names}
use Rattle.typing_rules.specs.Exceptions.{exception_text}
use Rattle.typing_rules.specs.declared.exception.Exception.{Exception}
use Rattle.lynx_meaning.specs.Agree.{actions_of}
use Rattle.lynx_meaning.specs.Courses.{Action, Answer, Course, Moment, New, Destroy, Bind, Unbind, Connect, Accept, Close, Reply, Write, Await, Stop, Proceeds, Raises, Over, Out, acts, after, and_then, answered, does, with_value}
use Rattle.lynx_meaning.specs.Expressions.{looked_up, value_of, values_of}
use Rattle.lynx_meaning.specs.Source.{assigns, assigns_all, assigns_from_last, assigns_member, awaits, catches, closes, handles, loops, runs, runs_all}
use Rattle.lynx_meaning.specs.Values.{Value, Row, Given, int_of, row_of, truth_of, with_member, written}
use Rattle.compiler_statements.specs.Running.{IsFront, trace}
use Rattle.compiler_statements.proofs.Fronts.{front-on, front-one, front-same}

-- ---- one after the other

pub then-front : (c : Course) (next : Moment → Course) → ((m : Moment) → IsFront m.actions (trace (next m))) → IsFront (trace c) (trace (and_then c next))
then-front (Proceeds m) next on = on m
then-front (Raises exception m) next on = front-same m.actions
then-front (Over outcome) next on = front-same (actions_of outcome)

then-extends : (xs : List Action) (c : Course) (next : Moment → Course) → IsFront xs (trace c) → ((m : Moment) → IsFront m.actions (trace (next m))) → IsFront xs (trace (and_then c next))
then-extends xs c next first on = front-on xs (trace c) (trace (and_then c next)) first (then-front c next on)

pub value-extends : {X : Type 0} (o : Result X Exception) (m : Moment) (next : X → Course) → ((x : X) → IsFront m.actions (trace (next x))) → IsFront m.actions (trace (with_value o m next))
value-extends (Ok x) m next on = on x
value-extends (Err exception) m next on = front-same m.actions

pub if-extends : (xs : List Action) (b : Bool) (c d : Course) → IsFront xs (trace c) → IsFront xs (trace d) → IsFront xs (trace (if b then c else d))
if-extends xs true c d first second = first
if-extends xs false c d first second = second

-- ---- actions

pub answered-extends : (m : Moment) (action : Action) (left : List Answer) (next : List Value → Moment → Course) → ((vs : List Value) (now : Moment) → IsFront now.actions (trace (next vs now))) → IsFront m.actions (trace (answered m action left next))
answered-extends m action [] next on = front-one m.actions action
answered-extends m action (a ∷ rest) next on =
    front-on m.actions (m.actions ++ action ∷ []) (trace (with_value a.given (after m action a rest) (λ vs. next vs (after m action a rest)))) (front-one m.actions action)
    (value-extends a.given (after m action a rest) (λ vs. next vs (after m action a rest)) (λ vs. on vs (after m action a rest)))

acts-extends : (m : Moment) (action : Action) (next : List Value → Moment → Course) → ((vs : List Value) (now : Moment) → IsFront now.actions (trace (next vs now))) → IsFront m.actions (trace (acts m action next))
acts-extends m action next on = answered-extends m action m.answers next on

pub does-extends : (m : Moment) (action : Action) → IsFront m.actions (trace (does m action))
does-extends m action = acts-extends m action (λ vs now. Proceeds now) (λ vs now. front-same now.actions)

-- ---- variables

from-last-actions : (names : Names) (xs : List (List ℕ)) (vs : List Value) (m : Moment) → (assigns_from_last names xs vs m).actions ≡ m.actions
from-last-actions names [] vs m = refl
from-last-actions names (x ∷ xs) [] m = refl
from-last-actions names (x ∷ xs) (v ∷ vs) m = from-last-actions names xs vs (assigns names x v m)

-- what comes with some variables assigned
assigned-extends : (names : Names) (xs : List (List ℕ)) (vs : List Value) (m : Moment) (ys : List Action) → IsFront (assigns_all names xs vs m).actions ys → IsFront m.actions ys
assigned-extends names xs vs m ys front = subst (λ (l : List Action). IsFront l ys) (from-last-actions names (reverse xs) (reverse vs) m) front

pub all-assigned-extends : (names : Names) (xs : List (List ℕ)) (vs : List Value) (m : Moment) → IsFront m.actions (assigns_all names xs vs m).actions
all-assigned-extends names xs vs m = assigned-extends names xs vs m (assigns_all names xs vs m).actions (front-same (assigns_all names xs vs m).actions)

-- ---- loops, requests and tries

pub loops-extends : (n : ℕ) (condition : Moment → Given) (body : Moment → Course) → ((m : Moment) → IsFront m.actions (trace (body m))) → (m : Moment) → IsFront m.actions (trace (loops n condition body m))
loops-extends zero condition body on m =
    value-extends (condition m) m (λ v. if truth_of v then Over (Out m.actions) else Proceeds m) (λ v. if-extends m.actions (truth_of v) (Over (Out m.actions)) (Proceeds m) (front-same m.actions) (front-same m.actions))
loops-extends (suc n) condition body on m =
    value-extends (condition m) m (λ v. if truth_of v then and_then (body m) (loops n condition body) else Proceeds m) (λ v. if-extends m.actions (truth_of v) (and_then (body m) (loops n condition body)) (Proceeds m)
    (then-extends m.actions (body m) (loops n condition body) (on m) (loops-extends n condition body on)) (front-same m.actions))

pub awaits-extends : (condition : Moment → Given) (left : List Answer) (m : Moment) → IsFront m.actions (trace (awaits condition left m))
awaits-extends condition [] m =
    value-extends (condition m) m (λ v. if truth_of v then Proceeds m else does m Await) (λ v. if-extends m.actions (truth_of v) (Proceeds m) (does m Await) (front-same m.actions) (does-extends m Await))
awaits-extends condition (a ∷ rest) m =
    value-extends (condition m) m (λ v. if truth_of v then Proceeds m else and_then (does m Await) (awaits condition rest)) (λ v. if-extends m.actions (truth_of v) (Proceeds m) (and_then (does m Await) (awaits condition rest)) (front-same m.actions)
    (then-extends m.actions (does m Await) (awaits condition rest) (does-extends m Await) (awaits-extends condition rest)))

pub closes-front : (c : Course) → IsFront (trace c) (trace (closes c))
closes-front (Proceeds m) = does-extends m Close
closes-front (Raises exception m) = then-extends m.actions (does m Close) (λ now. Raises exception now) (does-extends m Close) (λ now. front-same now.actions)
closes-front (Over outcome) = front-same (actions_of outcome)

pub catches-front : (c : Course) (handlers : Exception → Moment → Course) → ((exception : Exception) (m : Moment) → IsFront m.actions (trace (handlers exception m))) → IsFront (trace c) (trace (catches c handlers))
catches-front (Proceeds m) handlers on = front-same m.actions
catches-front (Raises exception m) handlers on = on exception m
catches-front (Over outcome) handlers on = front-same (actions_of outcome)

-- ---- all statements

member-extends : (names : Names) (name : List ℕ) (i v : Value) (m : Moment) → IsFront m.actions (trace (assigns_member names name i v m))
member-extends names name i v m = value-extends (with_member (row_of (looked_up names m.store name)) (int_of i) (int_of v)) m (λ row. Proceeds (assigns names name (Row row) m)) (λ row. front-same m.actions)

mutual
  pub stmt-extends : (names : Names) (n : ℕ) (s : StmtTree) (m : Moment) → IsFront m.actions (trace (runs names n s m))
  stmt-extends names n (trees.Assign name value) m = value-extends (value_of names m.store value) m (λ v. Proceeds (assigns names name v m)) (λ v. front-same m.actions)
  stmt-extends names n (trees.AssignMember name index value) m =
      value-extends (value_of names m.store index) m (λ i. with_value (value_of names m.store value) m (λ v. assigns_member names name i v m)) (λ i. value-extends (value_of names m.store value) m (λ v. assigns_member names name i v m) (λ v. member-extends names name i v m))
  stmt-extends names n (trees.If condition then_part) m =
      value-extends (value_of names m.store condition) m (λ v. if truth_of v then runs_all names n then_part m else Proceeds m) (λ v. if-extends m.actions (truth_of v) (runs_all names n then_part m) (Proceeds m) (stmts-extend names n then_part m) (front-same m.actions))
  stmt-extends names n (trees.IfElse condition then_part else_part) m =
      value-extends (value_of names m.store condition) m (λ v. if truth_of v then runs_all names n then_part m else runs_all names n else_part m)
      (λ v. if-extends m.actions (truth_of v) (runs_all names n then_part m) (runs_all names n else_part m) (stmts-extend names n then_part m) (stmts-extend names n else_part m))
  stmt-extends names n (trees.While condition body) m = loops-extends n (λ now. value_of names now.store condition) (runs_all names n body) (λ now. stmts-extend names n body now) m
  stmt-extends names n (trees.Write value) m = value-extends (value_of names m.store value) m (λ v. does m (Write (written v))) (λ v. does-extends m (Write (written v)))
  stmt-extends names n (trees.Await condition) m = awaits-extends (λ now. value_of names now.store condition) m.answers m
  stmt-extends names n trees.Stop m = front-one m.actions Stop
  stmt-extends names n (trees.Raise name) m = front-same m.actions
  stmt-extends names n (trees.New first second) m = acts-extends m New (λ vs now. Proceeds (assigns_all names (first ∷ second ∷ []) vs now)) (λ vs now. all-assigned-extends names (first ∷ second ∷ []) vs now)
  stmt-extends names n (trees.Destroy name) m = does-extends m (Destroy (looked_up names m.store name))
  stmt-extends names n (trees.Bind link entry) m = does-extends m (Bind (looked_up names m.store link) (names.entry entry))
  stmt-extends names n (trees.Unbind link entry) m = does-extends m (Unbind (looked_up names m.store link) (names.entry entry))
  stmt-extends names n (trees.Connect op link values results) m =
      value-extends (values_of names m.store values) m (λ vs. acts m (Connect (looked_up names m.store link) (names.op op) vs) (λ given now. Proceeds (assigns_all names results given now)))
      (λ vs. acts-extends m (Connect (looked_up names m.store link) (names.op op) vs) (λ given now. Proceeds (assigns_all names results given now)) (λ given now. all-assigned-extends names results given now))
  stmt-extends names n (trees.Accept op link arguments body) m =
      acts-extends m (Accept (looked_up names m.store link) (names.op op)) (λ given now. closes (runs_all names n body (assigns_all names arguments given now))) (λ given now.
      front-on now.actions (assigns_all names arguments given now).actions (trace (closes (runs_all names n body (assigns_all names arguments given now)))) (all-assigned-extends names arguments given now)
      (front-on (assigns_all names arguments given now).actions (trace (runs_all names n body (assigns_all names arguments given now))) (trace (closes (runs_all names n body (assigns_all names arguments given now)))) (stmts-extend names n body (assigns_all names arguments given now))
      (closes-front (runs_all names n body (assigns_all names arguments given now)))))
  stmt-extends names n (trees.Reply values) m = value-extends (values_of names m.store values) m (λ vs. does m (Reply vs)) (λ vs. does-extends m (Reply vs))
  stmt-extends names n (trees.Try body handlers) m =
      front-on m.actions (trace (runs_all names n body m)) (trace (catches (runs_all names n body m) (λ exception now. handles names n exception handlers now))) (stmts-extend names n body m)
      (catches-front (runs_all names n body m) (λ exception now. handles names n exception handlers now) (λ exception now. handlers-extend names n handlers exception now))

  pub stmts-extend : (names : Names) (n : ℕ) (ss : StmtTrees) (m : Moment) → IsFront m.actions (trace (runs_all names n ss m))
  stmts-extend names n trees.no_stmts m = front-same m.actions
  stmts-extend names n (trees.more_stmts s ss) m = then-extends m.actions (runs names n s m) (runs_all names n ss) (stmt-extends names n s m) (λ now. stmts-extend names n ss now)

  pub handlers-extend : (names : Names) (n : ℕ) (hs : HandlerTrees) (exception : Exception) (m : Moment) → IsFront m.actions (trace (handles names n exception hs m))
  handlers-extend names n trees.no_handlers exception m = front-same m.actions
  handlers-extend names n (trees.more_handlers name body others) exception m =
      if-extends m.actions (bytes_eq name (exception_text exception)) (runs_all names n body m) (handles names n exception others m) (stmts-extend names n body m) (handlers-extend names n others exception m)
