-- Statements without others inside.
use Rattle.std.proofs.Common.{◌≡◌, ℕ, ◌+◌, ◌≤◌, ℤ, List, [], ◌∷◌, ◌++◌, length, reverse, take, drop, Bool, true, not, Option, Some, None, Result, Ok, Err, if◌then◌else◌, slice_get, refl, sym, ap, ◌∙◌, subst, length-append, drop_of_length-le, append-nil, le-leb, true≢false, arith}
use Rattle.std.proofs.lemmas.List.{length-reverse, reverse-reverse, take_all}
use Rattle.lynx_tree.specs.Trees.{ExprTree, ExprTrees}
use Rattle.lynx_tree.specs.Trees as trees
use Rattle.lynx_tree.specs.Grammar.{IsExpr}
use Rattle.lynx_tree.specs.declared.declaration.TypeName.{TypeName}
use Rattle.lynx_tree.specs.declared.declaration.TypeName.TheVariants as types
use Rattle.typing_rules.specs.Expressions.{expr_faults, expr_size, number_of, shown_type, value_faults}
use Rattle.typing_rules.specs.Names.{type_of_variable}
use Rattle.typing_rules.specs.Rules.{Request, index_is_int, indexed_is_row, is_variable, new_names_differ, value_is_of_target, value_is_written, variable_is_link}
use Rattle.typing_rules.specs.Statements.{link_faults, stmt_faults}
use Rattle.typing_rules.specs.Types.{Held, agree, is_row_or_link, may_be_row}
use Rattle.typing_rules.specs.declared.exception.Exception.{Exception}
use Rattle.lynx_code.specs.Generation.{expr_code, how_many, load, stmt_code, store, store_member, stores}
use Rattle.lynx_code.specs.Modules.{ArePairs}
use Rattle.lynx_code.specs.declared.instruction.Instruction.{Instruction}
use Rattle.lynx_code.specs.declared.instruction.Instruction.TheVariants as code
use Rattle.lynx_meaning.specs.Agree.{Fit, needed}
use Rattle.lynx_meaning.specs.Code.{Goes, Next, Opened, Thread, answered, asks, by_link, by_values, step, stuck, writes}
use Rattle.lynx_meaning.specs.Courses.{Action, Moment, New, Stop, Waits, Write, does, with_value}
use Rattle.lynx_meaning.specs.Courses as course
use Rattle.lynx_meaning.specs.Expressions.{looked_up, value_of}
use Rattle.lynx_meaning.specs.Source.{assigns, assigns_all, assigns_member, runs}
use Rattle.lynx_meaning.specs.Values.{Value, Row, int_of, row_of, with_member, written}
use Rattle.compiler_steps.specs.Steps.{AreNested, Reaches, StandAt, thread}
use Rattle.compiler_steps.proofs.Raising.{raises-thrown}
use Rattle.compiler_steps.proofs.Reaching.{reaches-as, reaches-on, reaches-step}
use Rattle.compiler_steps.proofs.Standing.{back-stands, front-stands, next-stands}
use Rattle.compiler_expressions.specs.Kinds.{IsHeld, IsOf}
use Rattle.compiler_expressions.specs.Setting.{IsReady}
use Rattle.compiler_expressions.proofs.Clean.{both-clean, demand-met, held-fits, judged-clean}
use Rattle.compiler_expressions.proofs.Expressions.{expr-gives, name-gives}
use Rattle.compiler_expressions.proofs.Operators.{link-on-top}
use Rattle.compiler_expressions.proofs.Values.{int-is, text-is, truth-is}
use Rattle.compiler_expressions.proofs.Variables.{row-type, some-of}
use Rattle.compiler_statements.specs.Running.{Body, IsAnswered, IsSound, Runs, trace}
use Rattle.compiler_statements.proofs.Acting.{runs-acts, runs-does}
use Rattle.compiler_statements.proofs.Answers.{pairs-reverse}
use Rattle.compiler_statements.proofs.Branches.{around}
use Rattle.compiler_statements.proofs.Extending.{all-assigned-extends}
use Rattle.compiler_statements.proofs.Following.{runs-from, runs-to, runs-value}
use Rattle.compiler_statements.proofs.Stores.{IsVariableOf, MayStore, assigned-sound, link-variable, may-store, put, put-goes, put-raises, put-steps, store-steps, stores-run}

-- a value is written where it is no row and no link
written-on-top : (next : List ℕ → List Value → Next) (held : Held) (v : Value) (stack : List Value) → not (is_row_or_link held) ≡ true → IsHeld held v → writes next (v ∷ stack) ≡ next (written v) stack
written-on-top next None v stack plain h = absurd h
written-on-top next (Some types.Int) v stack plain h = subst (λ (x : Value). writes next (x ∷ stack) ≡ next (written x) stack) (sym (int-is v h)) refl
written-on-top next (Some types.Bool) v stack plain h = subst (λ (x : Value). writes next (x ∷ stack) ≡ next (written x) stack) (sym (truth-is v h)) refl
written-on-top next (Some types.Text) v stack plain h = subst (λ (x : Value). writes next (x ∷ stack) ≡ next (written x) stack) (sym (text-is v h).1) refl
written-on-top next (Some types.Link) v stack plain h = absurd (true≢false (sym plain))
written-on-top next (Some (types.Row n)) v stack plain h = absurd (true≢false (sym plain))

-- values that came on the stack one after the other
pub values-on-top : (k : ℕ) (next : List Value → List Value → Next) (vs : List Value) → length vs ≡ k → by_values k next (reverse vs) ≡ next vs []
values-on-top k next vs long =
    let size : length (reverse vs) ≡ k = length-reverse vs ∙ long in
    let within : k ≤ length (reverse vs) = omega (arith, size) in
    let most : length (reverse vs) ≤ k = omega (arith, size) in
    ap (λ (b : Bool). if b then next (reverse (take k (reverse vs))) (drop k (reverse vs)) else stuck) (le-leb k (length (reverse vs)) within)
    ∙ ap (λ (l : List Value). next (reverse l) (drop k (reverse vs))) (take_all k (reverse vs) most)
    ∙ ap (λ (l : List Value). next l (drop k (reverse vs))) (reverse-reverse vs)
    ∙ ap (λ (l : List Value). next vs l) (drop_of_length-le (reverse vs) most)

pub counted : (es : ExprTrees) → number_of es ≡ how_many es
counted trees.no_exprs = refl
counted (trees.more_exprs e es) = let rest = counted es in omega (arith, rest)

-- the value has the type of its target
target-kind : (target shown : Held) (t : TypeName) (v : Value) → target ≡ Some t → agree target shown ≡ true → IsHeld shown v → IsOf t v
target-kind target shown t v is same h = held-fits t shown v (subst (λ (x : Held). agree x shown ≡ true) is same) h

module _ (b : Body) (tries : List Opened) (requests : List ℕ) (n : ℕ) (nested : AreNested (length requests) tries) where
  abbrev pub starts : ℕ → Option Exception → Moment → Thread
  starts at pending m = thread at [] tries requests pending m

  pub ready : (pending : Option Exception) (m : Moment) → IsSound b m → IsReady b.setting (around tries requests pending m)
  ready pending m sound = record { kinds = sound.kinds; nested = nested }

  pub assign-runs : (name : List ℕ) (value : ExprTree) (request : Request) (at place : ℕ) (pending : Option Exception) (m : Moment) → IsExpr value → StandAt b.setting.program.instructions at (stmt_code b.setting.names at (trees.Assign name value))
      → stmt_faults b.setting.scope request place (trees.Assign name value) ≡ [] → IsSound b m
      → Fit b.tree (trace (runs b.setting.names n (trees.Assign name value) m)) b.answers → Runs b tries requests n (starts at pending m) (at + length (stmt_code b.setting.names at (trees.Assign name value))) (runs b.setting.names n (trees.Assign name value) m)
  assign-runs name value request at place pending m is has clean sound fit =
      let c = b.setting in
      let x = expr_code c.names at value in
      let held = shown_type c.scope value in
      let parts = both-clean (is_variable place (c.scope name)) (value_faults (value_is_of_target (type_of_variable (c.scope name))) c.scope (place + 2) value) clean in
      let met = judged-clean (value_is_of_target (type_of_variable (c.scope name))) (place + 2) (expr_faults c.scope (place + 2) value) held parts.1 in
      let found = some-of (type_of_variable (c.scope name)) (demand-met _ _ _ parts.0) in
      let long : at + length x + 1 ≡ at + length (x ++ store c.names name ∷ []) = omega (arith, length-append x (store c.names name ∷ [])) in
      runs-to b tries requests n (starts at pending m) (at + length x + 1) (at + length (x ++ store c.names name ∷ [])) (runs c.names n (trees.Assign name value) m) long
      (runs-value b tries requests n pending m (starts at pending m) (at + length x) (at + length x + 1) [] held (value_of c.names m.store value) (λ v. course.Proceeds (assigns c.names name v m)) sound
      (expr-gives c (around tries requests pending m) (ready pending m sound) value at (place + 2) [] is (front-stands c.program.instructions at x (store c.names name ∷ []) has) met.0)
      (λ v of fit_v.
      let kind = target-kind (type_of_variable (c.scope name)) held found.0 v found.1 (demand-met _ _ _ met.1) of in (
        assigned-sound b name found.0 v m found.1 kind sound,
        pending,
        reaches-step c.program (thread (at + length x) (v ∷ []) tries requests pending m) (store c.names name) _ (next-stands c.program.instructions at x (store c.names name) [] has)
            (store-steps c (around tries requests pending m) (c.names.slot name) found.0 (at + length x) [] v sound.kinds (c.variable name found.0 found.1)),
      ))
      fit)

  -- what is put into a member of a row
  put-runs : (name : List ℕ) (t : TypeName) (at : ℕ) (on : List Value) (pending : Option Exception) (m : Moment) (o : Result (List ℤ) Exception) → type_of_variable (b.setting.scope name) ≡ Some t → ((row : List ℤ) → IsOf t (Row row)) → IsSound b m → (u : Thread)
      → Reaches b.setting.program u (put (b.setting.names.slot name) o [] (thread at on tries requests pending m))
      → Runs b tries requests n u (at + 1) (with_value o m (λ row. course.Proceeds (assigns b.setting.names name (Row row) m)))
  put-runs name t at on pending m (Ok row) is kind sound u reached =
      (assigned-sound b name t (Row row) m is (kind row) sound, pending, reaches-as b.setting.program u _ _ (put-goes b.setting (around tries requests pending m) (b.setting.names.slot name) at on [] row) reached)
  put-runs name t at on pending m (Err exception) is kind sound u reached =
      (sound, reaches-as b.setting.program u _ _ (put-raises b.setting (around tries requests pending m) (b.setting.names.slot name) at on [] exception ∙ raises-thrown exception at on tries requests pending m nested) reached)

  pub member-runs : (name : List ℕ) (index value : ExprTree) (request : Request) (at place : ℕ) (pending : Option Exception) (m : Moment) → IsExpr index → IsExpr value → StandAt b.setting.program.instructions at (stmt_code b.setting.names at (trees.AssignMember name index value))
      → stmt_faults b.setting.scope request place (trees.AssignMember name index value) ≡ [] → IsSound b m
      → Fit b.tree (trace (runs b.setting.names n (trees.AssignMember name index value) m)) b.answers → Runs b tries requests n (starts at pending m) (at + length (stmt_code b.setting.names at (trees.AssignMember name index value))) (runs b.setting.names n (trees.AssignMember name index value) m)
  member-runs name index value request at place pending m is_index is_value has clean sound fit =
      let c = b.setting in
      let a = around tries requests pending m in
      let x = expr_code c.names at index in
      let y = expr_code c.names (at + length x) value in
      let i = store_member c.names name in
      let end = at + length x + length y in
      let of_index = shown_type c.scope index in
      let of_value = shown_type c.scope value in
      let f1 = is_variable place (c.scope name) in
      let f2 = indexed_is_row place (type_of_variable (c.scope name)) in
      let f3 = value_faults index_is_int c.scope (place + 2) index in
      let f4 = value_faults (value_is_of_target (Some types.Int)) c.scope (place + expr_size index + 4) value in
      let p3 = both-clean (f1 ++ f2 ++ f3) f4 clean in
      let p2 = both-clean (f1 ++ f2) f3 p3.0 in
      let p1 = both-clean f1 f2 p2.0 in
      let met_index = judged-clean index_is_int (place + 2) (expr_faults c.scope (place + 2) index) of_index p2.1 in
      let met_value = judged-clean (value_is_of_target (Some types.Int)) (place + expr_size index + 4) (expr_faults c.scope (place + expr_size index + 4) value) of_value p3.1 in
      let found = some-of (type_of_variable (c.scope name)) (demand-met _ _ _ p1.0) in
      let row = row-type found.0 (subst (λ (h : Held). may_be_row h ≡ true) found.1 (demand-met _ _ _ p1.1)) in
      let known_row : type_of_variable (c.scope name) ≡ Some (types.Row row.0) = found.1 ∙ ap Some row.1 in
      let codes_front = front-stands c.program.instructions at (x ++ y) (i ∷ []) has in
      let join : at + length (x ++ y) ≡ end = omega (arith, length-append x y) in
      let here = subst (λ (k : ℕ). slice_get c.program.instructions k ≡ Some i) join (next-stands c.program.instructions at (x ++ y) i [] has) in
      let long : end + 1 ≡ at + length ((x ++ y) ++ i ∷ []) = omega (arith, length-append (x ++ y) (i ∷ []), length-append x y) in
      runs-to b tries requests n (starts at pending m) (end + 1) (at + length ((x ++ y) ++ i ∷ [])) (runs c.names n (trees.AssignMember name index value) m) long
      (runs-value b tries requests n pending m (starts at pending m) (at + length x) (end + 1) [] of_index (value_of c.names m.store index) (λ v. with_value (value_of c.names m.store value) m (λ w. assigns_member c.names name v w m)) sound
      (expr-gives c a (ready pending m sound) index at (place + 2) [] is_index (front-stands c.program.instructions at x y codes_front) met_index.0)
      (λ v of_v fit_v.
      runs-value b tries requests n pending m (thread (at + length x) (v ∷ []) tries requests pending m) end (end + 1) (v ∷ []) of_value (value_of c.names m.store value) (λ w. assigns_member c.names name v w m) sound
      (expr-gives c a (ready pending m sound) value (at + length x) (place + expr_size index + 4) (v ∷ []) is_value (back-stands c.program.instructions at x y codes_front) met_value.0)
      (λ w of_w fit_w.
      let u = thread end (w ∷ v ∷ []) tries requests pending m in
      put-runs name (types.Row row.0) end (w ∷ v ∷ []) pending m (with_member (row_of (looked_up c.names m.store name)) (int_of v) (int_of w)) known_row (λ ns. tt) sound u
      (reaches-step c.program u i _ here
      (put-steps c a (c.names.slot name) row.0 end [] v w sound.kinds (c.variable name (types.Row row.0) known_row) (held-fits types.Int of_index v (demand-met _ _ _ met_index.1) of_v) (held-fits types.Int of_value w (demand-met _ _ _ met_value.1) of_w))))
      fit_v)
      fit)

  pub write-runs : (value : ExprTree) (request : Request) (at place : ℕ) (pending : Option Exception) (m : Moment) → IsExpr value → StandAt b.setting.program.instructions at (stmt_code b.setting.names at (trees.Write value))
      → stmt_faults b.setting.scope request place (trees.Write value) ≡ [] → IsSound b m
      → Fit b.tree (trace (runs b.setting.names n (trees.Write value) m)) b.answers → Runs b tries requests n (starts at pending m) (at + length (stmt_code b.setting.names at (trees.Write value))) (runs b.setting.names n (trees.Write value) m)
  write-runs value request at place pending m is has clean sound fit =
      let c = b.setting in
      let x = expr_code c.names at value in
      let held = shown_type c.scope value in
      let met = judged-clean value_is_written (place + 1) (expr_faults c.scope (place + 1) value) held clean in
      let long : at + length x + 1 ≡ at + length (x ++ code.Write ∷ []) = omega (arith, length-append x (code.Write ∷ [])) in
      runs-to b tries requests n (starts at pending m) (at + length x + 1) (at + length (x ++ code.Write ∷ [])) (runs c.names n (trees.Write value) m) long
      (runs-value b tries requests n pending m (starts at pending m) (at + length x) (at + length x + 1) [] held (value_of c.names m.store value) (λ v. does m (Write (written v))) sound
      (expr-gives c (around tries requests pending m) (ready pending m sound) value at (place + 1) [] is (front-stands c.program.instructions at x (code.Write ∷ []) has) met.0)
      (λ v of fit_v.
      runs-does b tries requests nested n (at + length x) (v ∷ []) pending m code.Write (Write (written v)) tt refl sound (next-stands c.program.instructions at x code.Write [] has)
      (written-on-top (λ text stack. asks (Write text) stack (thread (at + length x) (v ∷ []) tries requests pending m) (λ now. now)) held v [] (demand-met _ _ _ met.1) of)
      fit_v)
      fit)

  pub stop-runs : (at : ℕ) (pending : Option Exception) (m : Moment) → slice_get b.setting.program.instructions at ≡ Some code.Stop → Runs b tries requests n (starts at pending m) (at + 1) (course.Over (Waits (m.actions ++ Stop ∷ []) m.store))
  stop-runs at pending m here = reaches-step b.setting.program (starts at pending m) code.Stop _ here refl

  pub raise-runs : (at : ℕ) (pending : Option Exception) (m : Moment) (exception : Exception) → IsSound b m → slice_get b.setting.program.instructions at ≡ Some (code.Raise exception) → Runs b tries requests n (starts at pending m) (at + 1) (course.Raises exception m)
  raise-runs at pending m exception sound here = (sound, reaches-step b.setting.program (starts at pending m) (code.Raise exception) _ here (raises-thrown exception at [] tries requests pending m nested))

  -- ---- links

  -- a link comes on the stack
  pub link-loads : (name : List ℕ) (at place : ℕ) (stack : List Value) (pending : Option Exception) (m : Moment) → slice_get b.setting.program.instructions at ≡ Some (load b.setting.names name) → link_faults b.setting.scope place name ≡ [] → IsSound b m
      → IsOf types.Link (looked_up b.setting.names m.store name) × Reaches b.setting.program (thread at stack tries requests pending m) (Goes (thread (at + 1) (looked_up b.setting.names m.store name ∷ stack) tries requests pending m))
  link-loads name at place stack pending m here clean sound =
      let c = b.setting in
      let parts = both-clean (is_variable place (c.scope name)) (variable_is_link place (type_of_variable (c.scope name))) clean in
      let given = name-gives c (around tries requests pending m) (ready pending m sound) at stack name here (demand-met _ _ _ parts.0) in
      (held-fits types.Link (type_of_variable (c.scope name)) (looked_up c.names m.store name) (demand-met _ _ _ parts.1) given.0, given.1)

  -- an action on a link, which is given no values
  pub on-link-runs : (name : List ℕ) (i : Instruction) (action : Value → Action) (at place : ℕ) (pending : Option Exception) (m : Moment)
      → ((t : Thread) → step b.setting.program t i ≡ by_link (λ link stack. asks (action link) stack t (λ now. now)) t.stack)
      → ((link : Value) → IsAnswered (action link)) → ((link : Value) → needed b.tree (action link) ≡ [])
      → StandAt b.setting.program.instructions at (load b.setting.names name ∷ i ∷ []) → link_faults b.setting.scope place name ≡ [] → IsSound b m
      → Fit b.tree (trace (does m (action (looked_up b.setting.names m.store name)))) b.answers → Runs b tries requests n (starts at pending m) (at + 2) (does m (action (looked_up b.setting.names m.store name)))
  on-link-runs name i action at place pending m steps is none has clean sound fit =
      let c = b.setting in
      let link = looked_up c.names m.store name in
      let loaded = link-loads name at place [] pending m has.0 clean sound in
      let u = thread (at + 1) (link ∷ []) tries requests pending m in
      let long : at + 1 + 1 ≡ at + 2 = omega arith in
      runs-to b tries requests n (starts at pending m) (at + 1 + 1) (at + 2) (does m (action link)) long
      (runs-from b tries requests n (starts at pending m) u (at + 1 + 1) (does m (action link)) loaded.1
      (runs-does b tries requests nested n (at + 1) (link ∷ []) pending m i (action link) (is link) (none link) sound has.1.0
      (steps u ∙ link-on-top (λ l stack. asks (action l) stack u (λ now. now)) link [] loaded.0) fit))

  -- ---- values that actions are given

  -- given values are on the stack, and variables get them
  pub given-stored : (xs : List (List ℕ)) (vs : List Value) (at : ℕ) (pending : Option Exception) (now : Moment) (u : Thread) → ArePairs (MayStore b.setting) xs vs → StandAt b.setting.program.instructions at (stores b.setting.names xs) → IsSound b now
      → Reaches b.setting.program u (Goes (thread at (reverse vs ++ []) tries requests pending now))
      → IsSound b (assigns_all b.setting.names xs vs now) × Reaches b.setting.program u (Goes (thread (at + length (stores b.setting.names xs)) [] tries requests pending (assigns_all b.setting.names xs vs now)))
  given-stored xs vs at pending now u may has sound reached =
      let stored = stores-run b tries requests at pending (reverse xs) (reverse vs) now (pairs-reverse (MayStore b.setting) xs vs may) has sound in
      let there = reaches-as b.setting.program u _ _ (ap (λ (l : List Value). Goes (thread at l tries requests pending now)) (append-nil (reverse vs))) reached in
      (stored.0, reaches-on b.setting.program u (thread at (reverse vs) tries requests pending now) _ there stored.1)

  pub new-runs : (first second : List ℕ) (request : Request) (at place : ℕ) (pending : Option Exception) (m : Moment) → StandAt b.setting.program.instructions at (stmt_code b.setting.names at (trees.New first second))
      → stmt_faults b.setting.scope request place (trees.New first second) ≡ [] → IsSound b m
      → Fit b.tree (trace (runs b.setting.names n (trees.New first second) m)) b.answers → Runs b tries requests n (starts at pending m) (at + 3) (runs b.setting.names n (trees.New first second) m)
  new-runs first second request at place pending m has clean sound fit =
      let c = b.setting in
      let p2 = both-clean (link_faults c.scope (place + 1) first ++ link_faults c.scope (place + 3) second) (new_names_differ (place + 3) first second) clean in
      let p1 = both-clean (link_faults c.scope (place + 1) first) (link_faults c.scope (place + 3) second) p2.0 in
      let of_two : ArePairs (IsVariableOf c) (first ∷ second ∷ []) (types.Link ∷ types.Link ∷ []) = (link-variable c (place + 1) first p1.0, (link-variable c (place + 3) second p1.1, tt)) in
      let long : at + 1 + 2 ≡ at + 3 = omega arith in
      runs-to b tries requests n (starts at pending m) (at + 1 + 2) (at + 3) (runs c.names n (trees.New first second) m) long
      (runs-acts b tries requests n (starts at pending m) (at + 1 + 2) New m (λ given now. answered given (λ t. t) (thread at [] tries requests pending now)) (λ vs now. course.Proceeds (assigns_all c.names (first ∷ second ∷ []) vs now)) tt sound
      (λ vs now. all-assigned-extends c.names (first ∷ second ∷ []) vs now)
      (λ vs now sound_now kinds fit_now reached.
      let done = given-stored (first ∷ second ∷ []) vs (at + 1) pending now (starts at pending m) (may-store c (first ∷ second ∷ []) (types.Link ∷ types.Link ∷ []) vs of_two kinds) has.1 sound_now reached in
      (done.0, pending, done.1))
      (λ exception now. raises-thrown exception at [] tries requests pending now nested)
      fit (reaches-step c.program (starts at pending m) code.New _ has.0 refl))
