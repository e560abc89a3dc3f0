-- What a thread does, by the source: each loop makes at most n turns.
use Rattle.std.specs.Prelude.{ℕ, zero, suc, List, [], ◌∷◌, ◌++◌, map, reverse, if◌then◌else◌}
use Rattle.std.specs.Str.{bytes_eq}
use Rattle.lynx_code.specs.Generation.{Names, exception_named}
use Rattle.lynx_code.specs.Modules.{names_of, local_names}
use Rattle.lynx_tree.specs.Trees.{StmtTree, StmtTrees, HandlerTrees, EntryTree, ModuleTree}
use Rattle.lynx_tree.specs.Trees as trees
use Rattle.lynx_tree.specs.declared.declaration.TypeName.{TypeName}
use Rattle.typing_rules.specs.Exceptions.{exception_of, exception_text}
use Rattle.typing_rules.specs.Names.{arguments_of, known, module_scope}
use Rattle.typing_rules.specs.declared.exception.Exception.{Exception}
use Rattle.lynx_meaning.specs.Courses.{Answer, Course, Moment, Behaviour, Store, New, Destroy, Bind, Unbind, Connect, Accept, Close, Reply}
use Rattle.lynx_meaning.specs.Courses.{Write, Await, Stop, Proceeds, Raises, Over, Ended, Waits, Out, acts, and_then, does, with_value}
use Rattle.lynx_meaning.specs.Expressions.{assigned, looked_up, value_of, values_of}
use Rattle.lynx_meaning.specs.Values.{Value, Row, Given, int_of, row_of, truth_of, with_member, start_value, written}

-- ---- variables

abbrev pub assigns : Names → List ℕ → Value → Moment → Moment
assigns names name v m = record m { store = assigned names name v m.store }

-- the last of these names gets the last value, first of all
abbrev pub assigns_from_last : Names → List (List ℕ) → List Value → Moment → Moment
assigns_from_last names (x ∷ xs) (v ∷ vs) m = assigns_from_last names xs vs (assigns names x v m)
assigns_from_last names _ _ m = m

abbrev pub assigns_all : Names → List (List ℕ) → List Value → Moment → Moment
assigns_all names xs vs m = assigns_from_last names (reverse xs) (reverse vs) m

-- a member of a row gets a value
abbrev pub assigns_member : Names → List ℕ → Value → Value → Moment → Course
assigns_member names name index v m =
    with_value (with_member (row_of (looked_up names m.store name)) (int_of index) (int_of v)) m
    (λ row. Proceeds (assigns names name (Row row) m))

-- ---- loops

-- at most so many turns; the condition is tested before each, and once more
abbrev pub loops : ℕ → (Moment → Given) → (Moment → Course) → Moment → Course
loops zero condition body m = with_value (condition m) m (λ v. if truth_of v then Over (Out m.actions) else Proceeds m)
loops (suc n) condition body m =
    with_value (condition m) m (λ v. if truth_of v then and_then (body m) (loops n condition body) else Proceeds m)

-- An await goes on where its condition is true. Else that is an action, and with its answer it tries again.
abbrev pub awaits : (Moment → Given) → List Answer → Moment → Course
awaits condition [] m = with_value (condition m) m (λ v. if truth_of v then Proceeds m else does m Await)
awaits condition (a ∷ rest) m =
    with_value (condition m) m (λ v. if truth_of v then Proceeds m else and_then (does m Await) (awaits condition rest))

-- ---- requests

-- A request is closed however its body ends. An exception that the close raises takes the place of one that is under way.
abbrev pub closes : Course → Course
closes (Proceeds m) = does m Close
closes (Raises exception m) = and_then (does m Close) (λ now. Raises exception now)
closes (Over behaviour) = Over behaviour

-- an exception in the body of a `try` meets its handlers; none of them catches what is raised in another
abbrev pub catches : Course → (Exception → Moment → Course) → Course
catches (Proceeds m) handlers = Proceeds m
catches (Raises exception m) handlers = handlers exception m
catches (Over behaviour) handlers = Over behaviour

-- ---- statements

abbrev mutual
  pub runs : Names → ℕ → StmtTree → Moment → Course
  runs names n (trees.Assign name value) m = with_value (value_of names m.store value) m (λ v. Proceeds (assigns names name v m))
  runs names n (trees.AssignMember name index value) m =
      with_value (value_of names m.store index) m (λ i. with_value (value_of names m.store value) m (λ v. assigns_member names name i v m))
  runs names n (trees.If condition then_part) m =
      with_value (value_of names m.store condition) m (λ v. if truth_of v then runs_all names n then_part m else Proceeds m)
  runs names n (trees.IfElse condition then_part else_part) m =
      with_value (value_of names m.store condition) m
      (λ v. if truth_of v then runs_all names n then_part m else runs_all names n else_part m)
  runs names n (trees.While condition body) m = loops n (λ now. value_of names now.store condition) (runs_all names n body) m
  runs names n (trees.Write value) m = with_value (value_of names m.store value) m (λ v. does m (Write (written v)))
  runs names n (trees.Await condition) m = awaits (λ now. value_of names now.store condition) m.answers m
  runs names n trees.Stop m = Over (Waits (m.actions ++ Stop ∷ []) m.store)
  runs names n (trees.Raise name) m = Raises (exception_named (exception_of name)) m
  runs names n (trees.New first second) m = acts m New (λ vs now. Proceeds (assigns_all names (first ∷ second ∷ []) vs now))
  runs names n (trees.Destroy name) m = does m (Destroy (looked_up names m.store name))
  runs names n (trees.Bind link entry) m = does m (Bind (looked_up names m.store link) (names.entry entry))
  runs names n (trees.Unbind link entry) m = does m (Unbind (looked_up names m.store link) (names.entry entry))
  runs names n (trees.Connect op link values results) m =
      with_value (values_of names m.store values) m
      (λ vs. acts m (Connect (looked_up names m.store link) (names.op op) vs) (λ given now. Proceeds (assigns_all names results given now)))
  runs names n (trees.Accept op link arguments body) m =
      acts m (Accept (looked_up names m.store link) (names.op op))
      (λ given now. closes (runs_all names n body (assigns_all names arguments given now)))
  runs names n (trees.Reply values) m = with_value (values_of names m.store values) m (λ vs. does m (Reply vs))
  runs names n (trees.Try body handlers) m = catches (runs_all names n body m) (λ exception now. handles names n exception handlers now)

  -- one statement after the other
  pub runs_all : Names → ℕ → StmtTrees → Moment → Course
  runs_all names n trees.no_stmts m = Proceeds m
  runs_all names n (trees.more_stmts s ss) m = and_then (runs names n s m) (runs_all names n ss)

  -- the first handler of the exception; where there is none it is raised further
  pub handles : Names → ℕ → Exception → HandlerTrees → Moment → Course
  handles names n exception trees.no_handlers m = Raises exception m
  handles names n exception (trees.more_handlers name body others) m =
      if bytes_eq name (exception_text exception) then runs_all names n body m else handles names n exception others m

-- ---- threads

-- a part of a module: its body, or an entry with its parameters
pub record PartTree : Type 0 where
  -- the operations of the requests that are open at its start
  pub requests : List ℕ
  pub names : Names
  pub parameters : List TypeName
  pub vars : List TypeName
  pub body : StmtTrees

abbrev pub main_tree : ModuleTree → PartTree
main_tree m = record { requests = []; names = names_of m []; parameters = []; vars = []; body = m.body }

abbrev pub entry_part_tree : ModuleTree → EntryTree → PartTree
entry_part_tree m e =
    record {
      requests = (names_of m (local_names e)).op e.op ∷ [];
      names = names_of m (local_names e);
      parameters = known (arguments_of (module_scope m e.op));
      vars = map (λ v. v.kind) e.vars;
      body = e.body;
    }

-- the variables of a thread at its start: an entry's parameters have the values of its request
abbrev pub start_store : PartTree → List Value → List Value → Store
start_store part globals arguments = record { globals = globals; locals = arguments ++ map start_value part.vars }

-- what is open at the start is closed at the end: an entry closes its own request
abbrev pub whole_course : List ℕ → Course → Course
whole_course [] course = course
whole_course (op ∷ requests) course = whole_course requests (closes course)

-- an exception that no handler catches ends the thread
abbrev pub behaviour_of : Course → Behaviour
behaviour_of (Proceeds m) = Ended m.actions m.store
behaviour_of (Raises exception m) = Ended m.actions m.store
behaviour_of (Over behaviour) = behaviour

-- The meaning of a part with loops of at most n turns: what its thread does from these variables, with these answers.
abbrev pub source_meaning : PartTree → ℕ → Store → List Answer → Behaviour
source_meaning part n store answers =
    behaviour_of (whole_course part.requests (runs_all part.names n part.body (record { store = store; answers = answers; actions = [] })))
