-- Statements that make requests, take them and answer them.
use Rattle.std.proofs.Common.{◌≡◌, ℕ, suc, ◌+◌, ◌≤◌, List, [], ◌∷◌, ◌++◌, length, reverse, true, Option, Some, Result, Ok, Err, slice_get, option_map, refl, sym, ap, ◌∙◌, subst, length-append, eqb-true, arith}
use Rattle.std.proofs.lemmas.Option.{slice_get-map}
use Rattle.lynx_tree.specs.Trees.{ExprTrees, OpTree}
use Rattle.lynx_tree.specs.Trees as trees
use Rattle.lynx_tree.specs.Grammar.{AreExprs, exprs_marks}
use Rattle.lynx_tree.specs.declared.declaration.TypeName.{TypeName}
use Rattle.lynx_tree.specs.declared.declaration.TypeName.TheVariants as types
use Rattle.typing_rules.specs.Expressions.{number_of, values_faults}
use Rattle.typing_rules.specs.Names.{arguments_of, known, results_of}
use Rattle.typing_rules.specs.Rules.{Request, accept_has_names, accept_name_fits, connect_has_names, connect_has_values, connect_name_fits, connect_value_fits, is_number_of, is_op, reply_has_request, reply_has_values, reply_value_fits, results_needed}
use Rattle.typing_rules.specs.Statements.{link_faults, names_faults, stmt_faults}
use Rattle.typing_rules.specs.declared.exception.Exception.{Exception}
use Rattle.lynx_code.specs.Generation.{exprs_code, how_many, load, stmt_code, stores}
use Rattle.lynx_code.specs.declared.instruction.Instruction.TheVariants as code
use Rattle.lynx_meaning.specs.Agree.{Fit, needed}
use Rattle.lynx_meaning.specs.Needs.{op_types, types_of}
use Rattle.lynx_meaning.specs.Code.{Goes, Opened, Thread, answered, asks, by_values, connects, instead, step}
use Rattle.lynx_meaning.specs.Courses.{Accept, Close, Connect, Course, Moment, Ended, Out, Reply, Waits, does, with_value}
use Rattle.lynx_meaning.specs.Courses as course
use Rattle.lynx_meaning.specs.Expressions.{looked_up, values_of}
use Rattle.lynx_meaning.specs.Source.{assigns_all, closes, runs}
use Rattle.lynx_meaning.specs.Values.{Value}
use Rattle.compiler_steps.specs.Steps.{AreNested, Reaches, StandAt, thread, thrown}
use Rattle.compiler_steps.proofs.Raising.{raises-thrown, thrown-closes}
use Rattle.compiler_steps.proofs.Reaching.{reaches-as, reaches-on, reaches-step}
use Rattle.compiler_steps.proofs.Standing.{back-stands, front-stands, next-stands}
use Rattle.compiler_expressions.specs.Giving.{GivesAll}
use Rattle.compiler_expressions.specs.Kinds.{HaveKinds, IsOf}
use Rattle.compiler_expressions.proofs.Clean.{both-clean, demand-met}
use Rattle.compiler_expressions.proofs.Expressions.{exprs-give}
use Rattle.compiler_expressions.proofs.Operators.{link-on-top}
use Rattle.compiler_expressions.proofs.Variables.{some-of}
use Rattle.compiler_statements.specs.Running.{Body, IsFront, IsSound, Runs, trace}
use Rattle.compiler_statements.proofs.Acting.{none-given, runs-acts, runs-does}
use Rattle.compiler_statements.proofs.Branches.{around, then-acts}
use Rattle.compiler_statements.proofs.Extending.{all-assigned-extends}
use Rattle.compiler_statements.proofs.Following.{runs-from, runs-to}
use Rattle.compiler_statements.proofs.Fronts.{front-on, front-same}
use Rattle.compiler_statements.proofs.Simple.{counted, given-stored, link-loads, ready, starts, values-on-top}
use Rattle.compiler_statements.proofs.Stores.{may-store, variables-of}

-- as many as the rule asks for
pub number-met : (n : ℕ) (known_types : Option (List TypeName)) (ts : List TypeName) → known_types ≡ Some ts → is_number_of n known_types ≡ true → n ≡ length ts
number-met n known_types ts is met = eqb-true n (length ts) (subst (λ (o : Option (List TypeName)). is_number_of n o ≡ true) is met)

-- a request more is open
pub nested-more : (depth : ℕ) (tries : List Opened) → AreNested depth tries → AreNested (suc depth) tries
nested-more depth [] h = tt
nested-more depth (o ∷ os) h = let inner : o.depth ≤ suc depth = omega (arith, h.1) in (h.0, inner, h.2)

module _ (b : Body) (tries : List Opened) (requests : List ℕ) (n : ℕ) (nested : AreNested (length requests) tries) where
  -- values, and what comes with them
  runs-values : (pending : Option Exception) (m : Moment) (t : Thread) (middle end number : ℕ) (o : Result (List Value) Exception) (next : List Value → Course) → IsSound b m
      → GivesAll b.setting (around tries requests pending m) t middle [] number o
      → ((vs : List Value) → length vs ≡ number → Fit b.tree (trace (next vs)) b.answers → Runs b tries requests n (thread middle (reverse vs) tries requests pending m) end (next vs))
      → Fit b.tree (trace (with_value o m next)) b.answers → Runs b tries requests n t end (with_value o m next)
  runs-values pending m t middle end number (Ok vs) next sound given on fit = runs-from b tries requests n t (thread middle (reverse vs) tries requests pending m) end (next vs) given.1 (on vs given.0 fit)
  runs-values pending m t middle end number (Err exception) next sound given on fit = (sound, given)

  pub reply-runs : (values : ExprTrees) (request : Request) (at place : ℕ) (pending : Option Exception) (m : Moment) → AreExprs 6 values → StandAt b.setting.program.instructions at (stmt_code b.setting.names at (trees.Reply values))
      → stmt_faults b.setting.scope request place (trees.Reply values) ≡ [] → IsSound b m
      → Fit b.tree (trace (runs b.setting.names n (trees.Reply values) m)) b.answers → Runs b tries requests n (starts b tries requests n nested at pending m) (at + length (stmt_code b.setting.names at (trees.Reply values))) (runs b.setting.names n (trees.Reply values) m)
  reply-runs values request at place pending m is has clean sound fit =
      let c = b.setting in
      let x = exprs_code c.names at values in
      let k = how_many values in
      let t = thread at [] tries requests pending m in
      let parts = both-clean (reply_has_request place request ++ reply_has_values place (number_of values) request) (values_faults reply_value_fits c.scope (place + 2) values (known (results_needed request))) clean in
      let long : at + length x + 1 ≡ at + length (x ++ code.Reply k ∷ []) = omega (arith, length-append x (code.Reply k ∷ [])) in
      runs-to b tries requests n t (at + length x + 1) (at + length (x ++ code.Reply k ∷ [])) (runs c.names n (trees.Reply values) m) long
      (runs-values pending m t (at + length x) (at + length x + 1) k (values_of c.names m.store values) (λ vs. does m (Reply vs)) sound
      (exprs-give c (around tries requests pending m) (ready b tries requests n nested pending m sound) values reply_value_fits (known (results_needed request)) 6 at (place + 2) [] is (front-stands c.program.instructions at x (code.Reply k ∷ []) has) parts.1)
      (λ vs size fit_vs.
      runs-does b tries requests nested n (at + length x) (reverse vs) pending m (code.Reply k) (Reply vs) tt refl sound (next-stands c.program.instructions at x (code.Reply k) [] has)
      (values-on-top k (λ us stack. asks (Reply us) stack (thread (at + length x) (reverse vs) tries requests pending m) (λ now. now)) vs size)
      fit_vs)
      fit)

  -- the instruction that connects takes the link and the values
  connect-steps : (op : OpTree) (k at : ℕ) (link : Value) (vs : List Value) (pending : Option Exception) (m : Moment) → slice_get b.tree.ops k ≡ Some op → length vs ≡ length op.arguments → IsOf types.Link link
      → step b.setting.program (thread at (link ∷ reverse vs) tries requests pending m) (code.Connect k) ≡ asks (Connect link k vs) [] (thread at (link ∷ reverse vs) tries requests pending m) (λ now. now)
  connect-steps op k at link vs pending m is size kind =
      let c = b.setting in
      let u = thread at (link ∷ reverse vs) tries requests pending m in
      let number : slice_get c.program.arguments k ≡ Some (length op.arguments) =
      ap (λ (l : List ℕ). slice_get l k) b.counts ∙ slice_get-map (λ (o : OpTree). length o.arguments) b.tree.ops k ∙ ap (λ (o : Option OpTree). option_map (λ (q : OpTree). length q.arguments) o) is in
      ap (λ (o : Option ℕ). connects k o u) number
      ∙ link-on-top (λ l below. by_values (length op.arguments) (λ us stack. asks (Connect l k us) stack u (λ now. now)) below) link (reverse vs) kind
      ∙ values-on-top (length op.arguments) (λ us stack. asks (Connect link k us) stack u (λ now. now)) vs size

  pub connect-runs : (op link : List ℕ) (values : ExprTrees) (results : List (List ℕ)) (request : Request) (at place : ℕ) (pending : Option Exception) (m : Moment) → AreExprs 6 values → StandAt b.setting.program.instructions at (stmt_code b.setting.names at (trees.Connect op link values results))
      → stmt_faults b.setting.scope request place (trees.Connect op link values results) ≡ [] → IsSound b m
      → Fit b.tree (trace (runs b.setting.names n (trees.Connect op link values results) m)) b.answers
      → Runs b tries requests n (starts b tries requests n nested at pending m) (at + length (stmt_code b.setting.names at (trees.Connect op link values results))) (runs b.setting.names n (trees.Connect op link values results) m)
  connect-runs op link values results request at place pending m is has clean sound fit =
      let c = b.setting in
      let x = exprs_code c.names at values in
      let k = c.names.op op in
      let s = stores c.names results in
      let t = thread at [] tries requests pending m in
      let middle = at + length x in
      let end = middle + 2 + length s in
      let named = looked_up c.names m.store link in
      let f1 = is_op (place + 1) (c.scope op) in
      let f2 = connect_has_values (place + 1) (number_of values) (arguments_of (c.scope op)) in
      let f3 = connect_has_names (place + 1) (length results) (results_of (c.scope op)) in
      let f4 = link_faults c.scope (place + 3) link in
      let f5 = values_faults connect_value_fits c.scope (place + 5) values (known (arguments_of (c.scope op))) in
      let f6 = names_faults connect_name_fits c.scope (place + length (exprs_marks 0 values) + 6) results (known (results_of (c.scope op))) in
      let p5 = both-clean (f1 ++ f2 ++ f3 ++ f4 ++ f5) f6 clean in
      let p4 = both-clean (f1 ++ f2 ++ f3 ++ f4) f5 p5.0 in
      let p3 = both-clean (f1 ++ f2 ++ f3) f4 p4.0 in
      let p2 = both-clean (f1 ++ f2) f3 p3.0 in
      let p1 = both-clean f1 f2 p2.0 in
      let arguments = some-of (arguments_of (c.scope op)) (demand-met _ _ _ p1.0) in
      let found = b.operation op arguments.0 arguments.1 in
      let o = found.0 in
      let number : number_of values ≡ length arguments.0 = number-met (number_of values) (arguments_of (c.scope op)) arguments.0 arguments.1 (demand-met _ _ _ p1.1) in
      let declared : length o.arguments ≡ length arguments.0 = ap length found.2 in
      let count = counted values in
      let names_number : length results ≡ length o.results = number-met (length results) (results_of (c.scope op)) o.results found.3 (demand-met _ _ _ p2.1) in
      let of_names = variables-of c connect_name_fits (λ ty there held met. demand-met _ _ _ met) (place + length (exprs_marks 0 values) + 6) results o.results names_number
      (subst (λ (q : Option (List TypeName)). names_faults connect_name_fits c.scope (place + length (exprs_marks 0 values) + 6) results (known q) ≡ []) found.3 p5.1) in
      let rest = back-stands c.program.instructions at x (load c.names link ∷ code.Connect k ∷ s) has in
      let long : end ≡ at + length (x ++ load c.names link ∷ code.Connect k ∷ s) = omega (arith, length-append x (load c.names link ∷ code.Connect k ∷ s)) in
      let here : middle + 1 + 1 + length s ≡ end = omega arith in
      let needs : needed b.tree (Connect named k []) ≡ o.results = ap (types_of (λ r. r.results)) (slice_get-map op_types b.tree.ops k ∙ ap (λ (q : Option OpTree). option_map op_types q) found.1) in
      runs-to b tries requests n t end (at + length (x ++ load c.names link ∷ code.Connect k ∷ s)) (runs c.names n (trees.Connect op link values results) m) long
      (runs-values pending m t middle end (how_many values) (values_of c.names m.store values) (λ vs. course.acts m (Connect named k vs) (λ given now. course.Proceeds (assigns_all c.names results given now))) sound
      (exprs-give c (around tries requests pending m) (ready b tries requests n nested pending m sound) values connect_value_fits (known (arguments_of (c.scope op))) 6 at (place + 5) [] is (front-stands c.program.instructions at x (load c.names link ∷ code.Connect k ∷ s) has) p4.1)
      (λ vs size fit_vs.
      let loaded = link-loads b tries requests n nested link middle (place + 3) (reverse vs) pending m rest.0 p3.1 sound in
      let u = thread (middle + 1) (named ∷ reverse vs) tries requests pending m in
      let all : length vs ≡ length o.arguments = omega (arith, size, count, number, declared) in
      runs-acts b tries requests n (thread middle (reverse vs) tries requests pending m) end (Connect named k vs) m (λ given now. answered given (λ w. w) (thread (middle + 1) [] tries requests pending now)) (λ given now. course.Proceeds (assigns_all c.names results given now)) tt sound
      (λ given now. all-assigned-extends c.names results given now)
      (λ given now sound_now kinds fit_now reached.
      let may = may-store c results o.results given of_names (subst (λ (ts : List TypeName). HaveKinds ts given) needs kinds) in
      let done = given-stored b tries requests n nested results given (middle + 1 + 1) pending now (thread middle (reverse vs) tries requests pending m) may rest.1.1 sound_now reached in
      (done.0, pending, subst (λ (q : ℕ). Reaches c.program (thread middle (reverse vs) tries requests pending m) (Goes (thread q [] tries requests pending (assigns_all c.names results given now)))) here done.1))
      (λ exception now. raises-thrown exception (middle + 1) [] tries requests pending now nested)
      fit_vs
      (reaches-on c.program (thread middle (reverse vs) tries requests pending m) u _ loaded.1
      (reaches-step c.program u (code.Connect k) _ rest.1.0 (connect-steps o k (middle + 1) named vs pending m found.1 all loaded.0))))
      fit)

  -- ---- requests

  -- a request is closed, however its body ended
  pub close-runs : (op : ℕ) (t : Thread) (at : ℕ) (c : Course) → slice_get b.setting.program.instructions at ≡ Some code.Close → Runs b tries (op ∷ requests) n t at c → Fit b.tree (trace (closes c)) b.answers → Runs b tries requests n t (at + 1) (closes c)
  close-runs op t at (course.Proceeds m) here r fit =
      let u = thread at [] tries (op ∷ requests) r.1 m in
      runs-acts b tries requests n t (at + 1) Close m (λ given now. answered given (λ w. w) (thread at [] tries requests r.1 now)) (λ vs now. course.Proceeds now) tt r.0 (λ vs now. front-same now.actions)
      (λ vs now sound_now kinds fit_now reached. (sound_now, r.1, reaches-as b.setting.program t _ _ (ap (λ (us : List Value). Goes (thread (at + 1) (reverse us ++ []) tries requests r.1 now)) (none-given vs kinds)) reached))
      (λ exception now. raises-thrown exception at [] tries requests r.1 now nested)
      fit (reaches-on b.setting.program t u _ r.2 (reaches-step b.setting.program u code.Close _ here refl))
  close-runs op t at (course.Raises exception m) here r fit =
      let equal = then-acts m Close (λ now. course.Raises exception now) in
      subst (λ (c : Course). Runs b tries requests n t (at + 1) c) (sym equal)
      (runs-acts b tries requests n t (at + 1) Close m (λ given now. thrown tries requests (instead given exception) now) (λ vs now. course.Raises exception now) tt r.0 (λ vs now. front-same now.actions)
      (λ vs now sound_now kinds fit_now reached. (sound_now, reached))
      (λ other now. refl)
      (subst (λ (c : Course). Fit b.tree (trace c) b.answers) equal fit)
      (reaches-as b.setting.program t _ _ (thrown-closes exception tries op requests m nested) r.1))
  close-runs op t at (course.Over (Ended actions store)) here r fit = r
  close-runs op t at (course.Over (Waits actions store)) here r fit = r
  close-runs op t at (course.Over (Out actions)) here r fit = r

  pub accept-runs : (op link : List ℕ) (arguments : List (List ℕ)) (body : Moment → Course) (at behind place : ℕ) (pending : Option Exception) (m : Moment)
      → StandAt b.setting.program.instructions at (load b.setting.names link ∷ code.Accept (b.setting.names.op op) ∷ stores b.setting.names arguments) → slice_get b.setting.program.instructions behind ≡ Some code.Close
      → is_op (place + 1) (b.setting.scope op) ≡ [] → accept_has_names (place + 1) (length arguments) (arguments_of (b.setting.scope op)) ≡ [] → link_faults b.setting.scope (place + 3) link ≡ []
      → names_faults accept_name_fits b.setting.scope (place + 5) arguments (known (arguments_of (b.setting.scope op))) ≡ [] → IsSound b m
      → ((now : Moment) → IsFront now.actions (trace (closes (body now))))
      → ((now : Moment) → IsSound b now → Fit b.tree (trace (closes (body now))) b.answers → Runs b tries (b.setting.names.op op ∷ requests) n (thread (at + 2 + length (stores b.setting.names arguments)) [] tries (b.setting.names.op op ∷ requests) pending now) behind (body now))
      → Fit b.tree (trace (course.acts m (Accept (looked_up b.setting.names m.store link) (b.setting.names.op op)) (λ given now. closes (body (assigns_all b.setting.names arguments given now))))) b.answers
      → Runs b tries requests n (starts b tries requests n nested at pending m) (behind + 1) (course.acts m (Accept (looked_up b.setting.names m.store link) (b.setting.names.op op)) (λ given now. closes (body (assigns_all b.setting.names arguments given now))))
  accept-runs op link arguments body at behind place pending m has here clean_op clean_number clean_link clean_names sound extends runs_body fit =
      let c = b.setting in
      let k = c.names.op op in
      let s = stores c.names arguments in
      let t = thread at [] tries requests pending m in
      let named = looked_up c.names m.store link in
      let types_known = some-of (arguments_of (c.scope op)) (demand-met _ _ _ clean_op) in
      let found = b.operation op types_known.0 types_known.1 in
      let o = found.0 in
      let declared : arguments_of (c.scope op) ≡ Some o.arguments = types_known.1 ∙ ap Some (sym found.2) in
      let number : length arguments ≡ length o.arguments = number-met (length arguments) (arguments_of (c.scope op)) o.arguments declared (demand-met _ _ _ clean_number) in
      let of_names = variables-of c accept_name_fits (λ ty there held met. demand-met _ _ _ met) (place + 5) arguments o.arguments number
      (subst (λ (q : Option (List TypeName)). names_faults accept_name_fits c.scope (place + 5) arguments (known q) ≡ []) declared clean_names) in
      let needs : needed b.tree (Accept named k) ≡ o.arguments = ap (types_of (λ r. r.arguments)) (slice_get-map op_types b.tree.ops k ∙ ap (λ (q : Option OpTree). option_map op_types q) found.1) in
      let loaded = link-loads b tries requests n nested link at (place + 3) [] pending m has.0 clean_link sound in
      let u = thread (at + 1) (named ∷ []) tries requests pending m in
      let same : at + 1 + 1 + length s ≡ at + 2 + length s = omega arith in
      runs-acts b tries requests n t (behind + 1) (Accept named k) m (λ given now. answered given (λ w. record w { requests = k ∷ w.requests }) (thread (at + 1) [] tries requests pending now)) (λ given now. closes (body (assigns_all c.names arguments given now))) tt sound
      (λ given now. front-on now.actions (assigns_all c.names arguments given now).actions (trace (closes (body (assigns_all c.names arguments given now)))) (all-assigned-extends c.names arguments given now) (extends (assigns_all c.names arguments given now)))
      (λ given now sound_now kinds fit_now reached.
      let may = may-store c arguments o.arguments given of_names (subst (λ (ts : List TypeName). HaveKinds ts given) needs kinds) in
      let done = given-stored b tries (k ∷ requests) n (nested-more (length requests) tries nested) arguments given (at + 1 + 1) pending now t may has.1.1 sound_now reached in
      let later = assigns_all c.names arguments given now in
      let begun = subst (λ (q : ℕ). Reaches c.program t (Goes (thread q [] tries (k ∷ requests) pending later))) same done.1 in
      close-runs k t behind (body later) here
      (runs-from b tries (k ∷ requests) n t (thread (at + 2 + length s) [] tries (k ∷ requests) pending later) behind (body later) begun (runs_body later done.0 fit_now))
      fit_now)
      (λ exception now. raises-thrown exception (at + 1) [] tries requests pending now nested)
      fit
      (reaches-on c.program t u _ loaded.1
      (reaches-step c.program u (code.Accept k) _ has.1.0 (link-on-top (λ l stack. asks (Accept l k) stack u (λ w. record w { requests = k ∷ w.requests })) named [] loaded.0)))
