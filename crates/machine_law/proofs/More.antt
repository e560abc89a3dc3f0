-- With one answer more a source does the same, and goes on where it waited.
use Rattle.std.proofs.Common.{◌≡◌, ℕ, zero, suc, List, [], ◌∷◌, ◌++◌, reverse, Bool, true, false, if◌then◌else◌, Result, Ok, Err, refl, sym, ap, subst, ◌∙◌}
use Rattle.std.specs.Str.{bytes_eq}
use Rattle.lynx_tree.specs.Trees.{ExprTree, HandlerTrees, StmtTree, StmtTrees}
use Rattle.lynx_tree.specs.Trees as trees
use Rattle.lynx_code.specs.Generation.{Names}
use Rattle.typing_rules.specs.Exceptions.{exception_text}
use Rattle.typing_rules.specs.declared.exception.Exception.{Exception}
use Rattle.lynx_meaning.specs.Agree.{Start, actions_of, source}
use Rattle.lynx_meaning.specs.Courses.{Action, Answer, Behaviour, Course, Moment, Store, New, Destroy, Bind, Unbind, Connect, Accept, Close, Reply, Write, Await, Stop, Proceeds, Raises, Over, Ended, Out, Waits, acts, after, and_then, answered, does, with_value}
use Rattle.lynx_meaning.specs.Expressions.{looked_up, value_of, values_of}
use Rattle.lynx_meaning.specs.Source.{PartTree, assigns, assigns_all, assigns_from_last, assigns_member, awaits, behaviour_of, catches, closes, handles, loops, runs, runs_all, start_store, whole_course}
use Rattle.lynx_meaning.specs.Values.{Value, Row, Given, int_of, row_of, truth_of, with_member, written}
use Rattle.compiler_statements.specs.Running.{IsFront, trace}
use Rattle.compiler_statements.proofs.Extending.{all-assigned-extends, awaits-extends, catches-front, closes-front, handlers-extend, stmt-extends, stmts-extend, then-front, value-extends, loops-extends}
use Rattle.compiler_statements.proofs.Fronts.{front-on, front-same}
use Rattle.machine_law.proofs.Trees.{moment}

module _ (b : Answer) where
  -- with this answer behind those that are left
  abbrev pub plus : Moment → Moment
  plus m = record m { answers = m.answers ++ b ∷ [] }

  -- the second course is the first one with one answer more
  abbrev pub More : Course → Course → Type 0
  More (Proceeds m) c = c ≡ Proceeds (plus m)
  More (Raises x m) c = c ≡ Raises x (plus m)
  More (Over (Waits actions store)) c = IsFront actions (trace c)
  More (Over (Ended actions store)) c = c ≡ Over (Ended actions store)
  More (Over (Out actions)) c = c ≡ Over (Out actions)

  -- ---- one after the other

  then_more : (c d : Course) (next : Moment → Course) → More c d → ((m : Moment) → More (next m) (next (plus m))) → ((m : Moment) → IsFront m.actions (trace (next m))) → More (and_then c next) (and_then d next)
  then_more (Proceeds m) d next is on front = subst (λ (e : Course). More (next m) (and_then e next)) (sym is) (on m)
  then_more (Raises x m) d next is on front = ap (λ (e : Course). and_then e next) is
  then_more (Over (Waits actions store)) d next is on front = front-on actions (trace d) (trace (and_then d next)) is (then-front d next front)
  then_more (Over (Ended actions store)) d next is on front = ap (λ (e : Course). and_then e next) is
  then_more (Over (Out actions)) d next is on front = ap (λ (e : Course). and_then e next) is

  value_more : {X : Type 0} (o : Result X Exception) (m : Moment) (next other : X → Course) → ((x : X) → More (next x) (other x)) → More (with_value o m next) (with_value o (plus m) other)
  value_more (Ok x) m next other on = on x
  value_more (Err x) m next other on = refl

  if_more : (t : Bool) (c d e f : Course) → More c e → More d f → More (if t then c else d) (if t then e else f)
  if_more true c d e f one two = one
  if_more false c d e f one two = two

  -- ---- actions

  answered_more : (m : Moment) (a : Action) (left : List Answer) (next : List Value → Moment → Course) → ((vs : List Value) (now : Moment) → More (next vs now) (next vs (plus now))) → ((vs : List Value) (now : Moment) → IsFront now.actions (trace (next vs now))) →
      More (answered m a left next) (answered (plus m) a (left ++ b ∷ []) next)
  answered_more m a [] next on front = value-extends b.given (after (plus m) a b []) (λ vs. next vs (after (plus m) a b [])) (λ vs. front vs (after (plus m) a b []))
  answered_more m a (l ∷ rest) next on front = value_more l.given (after m a l rest) (λ vs. next vs (after m a l rest)) (λ vs. next vs (after (plus m) a l (rest ++ b ∷ []))) (λ vs. on vs (after m a l rest))

  acts_more : (m : Moment) (a : Action) (next : List Value → Moment → Course) → ((vs : List Value) (now : Moment) → More (next vs now) (next vs (plus now))) → ((vs : List Value) (now : Moment) → IsFront now.actions (trace (next vs now))) → More (acts m a next) (acts (plus m) a next)
  acts_more m a next on front = answered_more m a m.answers next on front

  does_more : (m : Moment) (a : Action) → More (does m a) (does (plus m) a)
  does_more m a = acts_more m a (λ vs now. Proceeds now) (λ vs now. refl) (λ vs now. front-same now.actions)

  -- ---- variables

  from_last_more : (names : Names) (xs : List (List ℕ)) (vs : List Value) (m : Moment) → assigns_from_last names xs vs (plus m) ≡ plus (assigns_from_last names xs vs m)
  from_last_more names [] vs m = refl
  from_last_more names (x ∷ xs) [] m = refl
  from_last_more names (x ∷ xs) (v ∷ vs) m = from_last_more names xs vs (assigns names x v m)

  all_more : (names : Names) (xs : List (List ℕ)) (vs : List Value) (m : Moment) → More (Proceeds (assigns_all names xs vs m)) (Proceeds (assigns_all names xs vs (plus m)))
  all_more names xs vs m = ap (λ (q : Moment). Proceeds q) (from_last_more names (reverse xs) (reverse vs) m)

  -- ---- loops, requests and tries

  loops_more : (n : ℕ) (f : Store → Given) (body : Moment → Course) → ((m : Moment) → More (body m) (body (plus m))) → ((m : Moment) → IsFront m.actions (trace (body m))) → (m : Moment) → More (loops n (λ now. f now.store) body m) (loops n (λ now. f now.store) body (plus m))
  loops_more zero f body on front m =
      value_more (f m.store) m (λ v. if truth_of v then Over (Out m.actions) else Proceeds m) (λ v. if truth_of v then Over (Out m.actions) else Proceeds (plus m))
      (λ v. if_more (truth_of v) (Over (Out m.actions)) (Proceeds m) (Over (Out m.actions)) (Proceeds (plus m)) refl refl)
  loops_more (suc n) f body on front m =
      value_more (f m.store) m (λ v. if truth_of v then and_then (body m) (loops n (λ now. f now.store) body) else Proceeds m) (λ v. if truth_of v then and_then (body (plus m)) (loops n (λ now. f now.store) body) else Proceeds (plus m))
      (λ v.
      if_more (truth_of v) (and_then (body m) (loops n (λ now. f now.store) body)) (Proceeds m) (and_then (body (plus m)) (loops n (λ now. f now.store) body)) (Proceeds (plus m))
      (then_more (body m) (body (plus m)) (loops n (λ now. f now.store) body) (on m) (loops_more n f body on front) (loops-extends n (λ now. f now.store) body front)) refl)

  -- an await that found false, with its answer
  awaits_given : (f : Store → Given) (o : Result (List Value) Exception) (rest : List Answer) (now : Moment) → More (awaits (λ it. f it.store) rest now) (awaits (λ it. f it.store) (rest ++ b ∷ []) (plus now)) →
      More (and_then (with_value o now (λ vs. Proceeds now)) (awaits (λ it. f it.store) rest)) (and_then (with_value o (plus now) (λ vs. Proceeds (plus now))) (awaits (λ it. f it.store) (rest ++ b ∷ [])))
  awaits_given f (Ok vs) rest now on = on
  awaits_given f (Err x) rest now on = refl

  awaits_more : (f : Store → Given) (left : List Answer) (store : Store) (actions : List Action) → More (awaits (λ it. f it.store) left (moment store left actions)) (awaits (λ it. f it.store) (left ++ b ∷ []) (plus (moment store left actions)))
  awaits_more f [] store actions =
      let m = moment store [] actions in
      let now = after (plus m) Await b [] in
      let tried = with_value b.given now (λ vs. Proceeds now) in
      value_more (f store) m (λ v. if truth_of v then Proceeds m else does m Await) (λ v. if truth_of v then Proceeds (plus m) else and_then (does (plus m) Await) (awaits (λ it. f it.store) []))
      (λ v.
      if_more (truth_of v) (Proceeds m) (does m Await) (Proceeds (plus m)) (and_then tried (awaits (λ it. f it.store) [])) refl
      (front-on now.actions (trace tried) (trace (and_then tried (awaits (λ it. f it.store) []))) (value-extends b.given now (λ vs. Proceeds now) (λ vs. front-same now.actions))
      (then-front tried (awaits (λ it. f it.store) []) (λ later. awaits-extends (λ it. f it.store) [] later))))
  awaits_more f (l ∷ rest) store actions =
      let m = moment store (l ∷ rest) actions in
      let now = after m Await l rest in
      value_more (f store) m (λ v. if truth_of v then Proceeds m else and_then (does m Await) (awaits (λ it. f it.store) rest)) (λ v. if truth_of v then Proceeds (plus m) else and_then (does (plus m) Await) (awaits (λ it. f it.store) (rest ++ b ∷ [])))
      (λ v.
      if_more (truth_of v) (Proceeds m) (and_then (does m Await) (awaits (λ it. f it.store) rest)) (Proceeds (plus m)) (and_then (does (plus m) Await) (awaits (λ it. f it.store) (rest ++ b ∷ []))) refl
      (awaits_given f l.given rest now (awaits_more f rest now.store now.actions)))

  closes_more : (c d : Course) → More c d → More (closes c) (closes d)
  closes_more (Proceeds m) d is = subst (λ (e : Course). More (does m Close) (closes e)) (sym is) (does_more m Close)
  closes_more (Raises x m) d is =
      subst (λ (e : Course). More (and_then (does m Close) (λ now. Raises x now)) (closes e)) (sym is)
      (then_more (does m Close) (does (plus m) Close) (λ now. Raises x now) (does_more m Close) (λ now. refl) (λ now. front-same now.actions))
  closes_more (Over (Waits actions store)) d is = front-on actions (trace d) (trace (closes d)) is (closes-front d)
  closes_more (Over (Ended actions store)) d is = ap closes is
  closes_more (Over (Out actions)) d is = ap closes is

  catches_more : (c d : Course) (handlers : Exception → Moment → Course) → More c d → ((x : Exception) (m : Moment) → More (handlers x m) (handlers x (plus m))) → ((x : Exception) (m : Moment) → IsFront m.actions (trace (handlers x m))) → More (catches c handlers) (catches d handlers)
  catches_more (Proceeds m) d handlers is on front = ap (λ (e : Course). catches e handlers) is
  catches_more (Raises x m) d handlers is on front = subst (λ (e : Course). More (handlers x m) (catches e handlers)) (sym is) (on x m)
  catches_more (Over (Waits actions store)) d handlers is on front = front-on actions (trace d) (trace (catches d handlers)) is (catches-front d handlers front)
  catches_more (Over (Ended actions store)) d handlers is on front = ap (λ (e : Course). catches e handlers) is
  catches_more (Over (Out actions)) d handlers is on front = ap (λ (e : Course). catches e handlers) is

  -- ---- all statements

  member_more : (names : Names) (name : List ℕ) (i v : Value) (m : Moment) → More (assigns_member names name i v m) (assigns_member names name i v (plus m))
  member_more names name i v m =
      value_more (with_member (row_of (looked_up names m.store name)) (int_of i) (int_of v)) m (λ row. Proceeds (assigns names name (Row row) m)) (λ row. Proceeds (assigns names name (Row row) (plus m))) (λ row. refl)

  -- the body of an accept
  accept_more : (names : Names) (arguments : List (List ℕ)) (given : List Value) (body : Moment → Course) (now : Moment) → More (body (assigns_all names arguments given now)) (body (plus (assigns_all names arguments given now))) →
      More (closes (body (assigns_all names arguments given now))) (closes (body (assigns_all names arguments given (plus now))))
  accept_more names arguments given body now on =
      subst (λ (q : Moment). More (closes (body (assigns_all names arguments given now))) (closes (body q))) (sym (from_last_more names (reverse arguments) (reverse given) now))
      (closes_more (body (assigns_all names arguments given now)) (body (plus (assigns_all names arguments given now))) on)

  accept_front : (names : Names) (n : ℕ) (arguments : List (List ℕ)) (given : List Value) (body : StmtTrees) (now : Moment) → IsFront now.actions (trace (closes (runs_all names n body (assigns_all names arguments given now))))
  accept_front names n arguments given body now =
      let first = assigns_all names arguments given now in
      let course = runs_all names n body first in
      front-on now.actions first.actions (trace (closes course)) (all-assigned-extends names arguments given now) (front-on first.actions (trace course) (trace (closes course)) (stmts-extend names n body first) (closes-front course))

  mutual
    stmt_more : (names : Names) (n : ℕ) (s : StmtTree) (m : Moment) → More (runs names n s m) (runs names n s (plus m))
    stmt_more names n (trees.Assign name value) m = value_more (value_of names m.store value) m (λ v. Proceeds (assigns names name v m)) (λ v. Proceeds (assigns names name v (plus m))) (λ v. refl)
    stmt_more names n (trees.AssignMember name index value) m =
        value_more (value_of names m.store index) m (λ i. with_value (value_of names m.store value) m (λ v. assigns_member names name i v m)) (λ i. with_value (value_of names m.store value) (plus m) (λ v. assigns_member names name i v (plus m)))
        (λ i. value_more (value_of names m.store value) m (λ v. assigns_member names name i v m) (λ v. assigns_member names name i v (plus m)) (λ v. member_more names name i v m))
    stmt_more names n (trees.If condition then_part) m =
        value_more (value_of names m.store condition) m (λ v. if truth_of v then runs_all names n then_part m else Proceeds m) (λ v. if truth_of v then runs_all names n then_part (plus m) else Proceeds (plus m))
        (λ v. if_more (truth_of v) (runs_all names n then_part m) (Proceeds m) (runs_all names n then_part (plus m)) (Proceeds (plus m)) (stmts_more names n then_part m) refl)
    stmt_more names n (trees.IfElse condition then_part else_part) m =
        value_more (value_of names m.store condition) m (λ v. if truth_of v then runs_all names n then_part m else runs_all names n else_part m) (λ v. if truth_of v then runs_all names n then_part (plus m) else runs_all names n else_part (plus m))
        (λ v. if_more (truth_of v) (runs_all names n then_part m) (runs_all names n else_part m) (runs_all names n then_part (plus m)) (runs_all names n else_part (plus m)) (stmts_more names n then_part m) (stmts_more names n else_part m))
    stmt_more names n (trees.While condition body) m = loops_more n (λ store. value_of names store condition) (runs_all names n body) (λ now. stmts_more names n body now) (λ now. stmts-extend names n body now) m
    stmt_more names n (trees.Write value) m = value_more (value_of names m.store value) m (λ v. does m (Write (written v))) (λ v. does (plus m) (Write (written v))) (λ v. does_more m (Write (written v)))
    stmt_more names n (trees.Await condition) m = awaits_more (λ store. value_of names store condition) m.answers m.store m.actions
    stmt_more names n trees.Stop m = front-same (m.actions ++ Stop ∷ [])
    stmt_more names n (trees.Raise name) m = refl
    stmt_more names n (trees.New first second) m =
        acts_more m New (λ vs now. Proceeds (assigns_all names (first ∷ second ∷ []) vs now)) (λ vs now. all_more names (first ∷ second ∷ []) vs now) (λ vs now. all-assigned-extends names (first ∷ second ∷ []) vs now)
    stmt_more names n (trees.Destroy name) m = does_more m (Destroy (looked_up names m.store name))
    stmt_more names n (trees.Bind link entry) m = does_more m (Bind (looked_up names m.store link) (names.entry entry))
    stmt_more names n (trees.Unbind link entry) m = does_more m (Unbind (looked_up names m.store link) (names.entry entry))
    stmt_more names n (trees.Connect op link values results) m =
        value_more (values_of names m.store values) m (λ vs. acts m (Connect (looked_up names m.store link) (names.op op) vs) (λ given now. Proceeds (assigns_all names results given now)))
        (λ vs. acts (plus m) (Connect (looked_up names m.store link) (names.op op) vs) (λ given now. Proceeds (assigns_all names results given now)))
        (λ vs.
        acts_more m (Connect (looked_up names m.store link) (names.op op) vs) (λ given now. Proceeds (assigns_all names results given now)) (λ given now. all_more names results given now) (λ given now. all-assigned-extends names results given now))
    stmt_more names n (trees.Accept op link arguments body) m =
        acts_more m (Accept (looked_up names m.store link) (names.op op)) (λ given now. closes (runs_all names n body (assigns_all names arguments given now)))
        (λ given now. accept_more names arguments given (runs_all names n body) now (stmts_more names n body (assigns_all names arguments given now))) (λ given now. accept_front names n arguments given body now)
    stmt_more names n (trees.Reply values) m = value_more (values_of names m.store values) m (λ vs. does m (Reply vs)) (λ vs. does (plus m) (Reply vs)) (λ vs. does_more m (Reply vs))
    stmt_more names n (trees.Try body handlers) m =
        catches_more (runs_all names n body m) (runs_all names n body (plus m)) (λ x now. handles names n x handlers now) (stmts_more names n body m) (λ x now. handlers_more names n handlers x now) (λ x now. handlers-extend names n handlers x now)

    stmts_more : (names : Names) (n : ℕ) (ss : StmtTrees) (m : Moment) → More (runs_all names n ss m) (runs_all names n ss (plus m))
    stmts_more names n trees.no_stmts m = refl
    stmts_more names n (trees.more_stmts s ss) m = then_more (runs names n s m) (runs names n s (plus m)) (runs_all names n ss) (stmt_more names n s m) (λ now. stmts_more names n ss now) (λ now. stmts-extend names n ss now)

    handlers_more : (names : Names) (n : ℕ) (hs : HandlerTrees) (x : Exception) (m : Moment) → More (handles names n x hs m) (handles names n x hs (plus m))
    handlers_more names n trees.no_handlers x m = refl
    handlers_more names n (trees.more_handlers name body others) x m =
        if_more (bytes_eq name (exception_text x)) (runs_all names n body m) (handles names n x others m) (runs_all names n body (plus m)) (handles names n x others (plus m)) (stmts_more names n body m) (handlers_more names n others x m)

  -- ---- threads

  whole_more : (requests : List ℕ) (c d : Course) → More c d → More (whole_course requests c) (whole_course requests d)
  whole_more [] c d is = is
  whole_more (op ∷ requests) c d is = whole_more requests (closes c) (closes d) (closes_more c d is)

-- the second behaviour is the first one with one answer more
abbrev pub DoesMore : Behaviour → Behaviour → Type 0
DoesMore (Waits actions store) o = IsFront actions (actions_of o)
DoesMore (Ended actions store) o = o ≡ Ended actions store
DoesMore (Out actions) o = o ≡ Out actions

same_trace : (c : Course) → trace c ≡ actions_of (behaviour_of c)
same_trace (Proceeds m) = refl
same_trace (Raises x m) = refl
same_trace (Over o) = refl

behaves_more : (b : Answer) (c d : Course) → More b c d → DoesMore (behaviour_of c) (behaviour_of d)
behaves_more b (Proceeds m) d is = ap behaviour_of is
behaves_more b (Raises x m) d is = ap behaviour_of is
behaves_more b (Over (Waits actions store)) d is = subst (IsFront actions) (same_trace d) is
behaves_more b (Over (Ended actions store)) d is = ap behaviour_of is
behaves_more b (Over (Out actions)) d is = ap behaviour_of is

pub source_more : (part : PartTree) (n : ℕ) (globals arguments : List Value) (L : List Answer) (b : Answer) →
    DoesMore (source part (record { globals = globals; arguments = arguments; answers = L }) n) (source part (record { globals = globals; arguments = arguments; answers = L ++ b ∷ [] }) n)
source_more part n globals arguments L b =
    let m = moment (start_store part globals arguments) L [] in
    let c = runs_all part.names n part.body m in
    let d = runs_all part.names n part.body (plus b m) in
    behaves_more b (whole_course part.requests c) (whole_course part.requests d) (whole_more b part.requests c d (stmts_more b part.names n part.body m))
