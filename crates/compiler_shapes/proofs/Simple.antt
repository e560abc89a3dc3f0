-- The shapes of the code of statements without others inside.
use Rattle.std.proofs.Common.{◌≡◌, ℕ, ◌+◌, List, [], ◌∷◌, ◌++◌, length, true, false, Option, Some, slice_get, refl, sym, ap, ◌∙◌, subst}
use Rattle.lynx_tree.specs.Trees.{ExprTree, ExprTrees}
use Rattle.lynx_tree.specs.Trees as trees
use Rattle.lynx_tree.specs.Grammar.{AreExprs, IsExpr, exprs_marks}
use Rattle.lynx_tree.specs.declared.declaration.TypeName.{TypeName}
use Rattle.lynx_tree.specs.declared.declaration.TypeName.TheVariants as types
use Rattle.typing_rules.specs.Expressions.{expr_faults, expr_size, number_of, shown_type, value_faults, values_faults}
use Rattle.typing_rules.specs.Names.{arguments_of, known, results_of, type_of_variable}
use Rattle.typing_rules.specs.Rules.{Request, condition_is_bool, connect_has_names, connect_has_values, connect_name_fits, connect_value_fits, index_is_int, indexed_is_row, is_op}
use Rattle.typing_rules.specs.Rules.{is_variable, new_names_differ, reply_has_request, reply_has_values, reply_value_fits, value_is_of_target, value_is_written, Outside, Asks}
use Rattle.typing_rules.specs.Statements.{link_faults, names_faults, stmt_faults}
use Rattle.typing_rules.specs.Types.{Held, agree, may_be_row}
use Rattle.lynx_code.specs.Generation.{expr_code, exprs_code, how_many, load, stmt_code, store, store_member, stores}
use Rattle.lynx_code.specs.declared.instruction.Instruction.{Instruction}
use Rattle.lynx_code.specs.declared.instruction.Instruction.TheVariants as code
use Rattle.typing_rules.specs.declared.exception.Exception.{Exception}
use Rattle.compiler_expressions.proofs.Clean.{both-clean, demand-met, judged-clean, no-false}
use Rattle.compiler_expressions.proofs.Variables.{row-type, some-of}
use Rattle.compiler_statements.proofs.Requests.{number-met}
use Rattle.compiler_statements.proofs.Simple.{counted}
use Rattle.code_shapes.specs.Shapes.{Shape, Shapes, AsksOnLink, Connects, Leads, Obeys, pushed, Replies}
use Rattle.lynx_meaning.specs.Needs.{OpTypes}
use Rattle.compiler_shapes.proofs.Expressions.{as_wanted, expr_shows, pass_on}
use Rattle.compiler_shapes.proofs.Operands.{load_passes, plain_type, put_passes, store_passes}
use Rattle.compiler_shapes.proofs.Parts.{Caught, Open, Part, Passes, may_raise, on, Asked, IsFor}
use Rattle.compiler_shapes.proofs.Stores.{as_many_wanted, exprs_show, link_variable, stores_pass, variables_of}
use Rattle.compiler_shapes.proofs.Walks.{one}

module _ (c : Part) (o : Open) where
  -- what a condition leaves
  pub condition_passes : (condition : ExprTree) (at place : ℕ) → IsExpr condition → value_faults condition_is_bool c.scope place condition ≡ [] → Passes c o at (expr_code c.names at condition) [] (types.Bool ∷ [])
  condition_passes condition at place is clean =
      let met = judged-clean condition_is_bool place (expr_faults c.scope place condition) (shown_type c.scope condition) clean in
      as_wanted c o at (expr_code c.names at condition) [] (shown_type c.scope condition) types.Bool (demand-met _ _ _ met.1) (expr_shows c o condition at place [] is met.0)

  -- ---- assignments

  -- the value of a target
  target_passes : (target : Held) (t : TypeName) (value : ExprTree) (at place : ℕ) (ts : List TypeName) → target ≡ Some t → IsExpr value → value_faults (value_is_of_target target) c.scope place value ≡ [] → Passes c o at (expr_code c.names at value) ts (t ∷ ts)
  target_passes target t value at place ts is written clean =
      let met = judged-clean (value_is_of_target target) place (expr_faults c.scope place value) (shown_type c.scope value) clean in
      as_wanted c o at (expr_code c.names at value) ts (shown_type c.scope value) t (subst (λ (h : Held). agree h (shown_type c.scope value) ≡ true) is (demand-met _ _ _ met.1)) (expr_shows c o value at place ts written met.0)

  pub assign_passes : (name : List ℕ) (value : ExprTree) (request : Request) (at place : ℕ) → IsExpr value → stmt_faults c.scope request place (trees.Assign name value) ≡ [] → Passes c o at (stmt_code c.names at (trees.Assign name value)) [] []
  assign_passes name value request at place is clean =
      let x = expr_code c.names at value in
      let parts = both-clean (is_variable place (c.scope name)) (value_faults (value_is_of_target (type_of_variable (c.scope name))) c.scope (place + 2) value) clean in
      let found = some-of (type_of_variable (c.scope name)) (demand-met _ _ _ parts.0) in
      pass_on c o at x (store c.names name ∷ []) [] (found.0 ∷ []) [] (target_passes (type_of_variable (c.scope name)) found.0 value at (place + 2) [] found.1 is parts.1) (store_passes c o (at + length x) name found.0 [] found.1)

  pub assign_member_passes : (name : List ℕ) (index value : ExprTree) (request : Request) (at place : ℕ) → IsExpr index → IsExpr value → stmt_faults c.scope request place (trees.AssignMember name index value) ≡ [] →
      Passes c o at (stmt_code c.names at (trees.AssignMember name index value)) [] []
  assign_member_passes name index value request at place is_index is_value clean =
      let x = expr_code c.names at index in
      let y = expr_code c.names (at + length x) value in
      let f1 = is_variable place (c.scope name) in
      let f2 = indexed_is_row place (type_of_variable (c.scope name)) in
      let f3 = value_faults index_is_int c.scope (place + 2) index in
      let f4 = value_faults (value_is_of_target (Some types.Int)) c.scope (place + expr_size index + 4) value in
      let p3 = both-clean (f1 ++ f2 ++ f3) f4 clean in
      let p2 = both-clean (f1 ++ f2) f3 p3.0 in
      let p1 = both-clean f1 f2 p2.0 in
      let met = judged-clean index_is_int (place + 2) (expr_faults c.scope (place + 2) index) (shown_type c.scope index) p2.1 in
      let found = some-of (type_of_variable (c.scope name)) (demand-met _ _ _ p1.0) in
      let row = row-type found.0 (subst (λ (h : Held). may_be_row h ≡ true) found.1 (demand-met _ _ _ p1.1)) in
      pass_on c o at (x ++ y) (store_member c.names name ∷ []) [] (types.Int ∷ types.Int ∷ []) []
      (pass_on c o at x y [] (types.Int ∷ []) (types.Int ∷ types.Int ∷ [])
      (as_wanted c o at x [] (shown_type c.scope index) types.Int (demand-met _ _ _ met.1) (expr_shows c o index at (place + 2) [] is_index met.0))
      (target_passes (Some types.Int) types.Int value (at + length x) (place + expr_size index + 4) (types.Int ∷ []) refl is_value p3.1))
      (put_passes c o (at + length (x ++ y)) name row.0 [] (found.1 ∙ ap Some row.1))

  -- ---- single actions

  pub write_passes : (value : ExprTree) (request : Request) (at place : ℕ) → IsExpr value → stmt_faults c.scope request place (trees.Write value) ≡ [] → Passes c o at (stmt_code c.names at (trees.Write value)) [] []
  write_passes value request at place is clean =
      let x = expr_code c.names at value in
      let met = judged-clean value_is_written (place + 1) (expr_faults c.scope (place + 1) value) (shown_type c.scope value) clean in
      let shows = expr_shows c o value at (place + 1) [] is met.0 in
      let met_shown = subst (λ (h : Held). value_is_written (place + 1) h ≡ []) shows.shown met.1 in
      let plain = plain_type shows.kind (demand-met _ _ _ met_shown) in
      pass_on c o at x (code.Write ∷ []) [] (shows.kind ∷ []) [] shows.passes
      (one c.whole (Caught c o) (at + length x) code.Write (on c o (shows.kind ∷ [])) (on c o [])
      (λ shapes leads needs fits. (shows.kind, plain, ([], refl, (leads, may_raise shapes (on c o (shows.kind ∷ [])) [] needs)))))

  pub stop_passes : (at : ℕ) → Passes c o at (code.Stop ∷ []) [] []
  stop_passes at = one c.whole (Caught c o) at code.Stop (on c o []) (on c o []) (λ shapes leads needs fits. tt)

  pub raise_passes : (at : ℕ) (exception : Exception) → Passes c o at (code.Raise exception ∷ []) [] []
  raise_passes at exception = one c.whole (Caught c o) at (code.Raise exception) (on c o []) (on c o []) (λ shapes leads needs fits. may_raise shapes (on c o []) [] needs)

  pub new_passes : (first second : List ℕ) (request : Request) (at place : ℕ) → stmt_faults c.scope request place (trees.New first second) ≡ [] → Passes c o at (stmt_code c.names at (trees.New first second)) [] []
  new_passes first second request at place clean =
      let parts = both-clean (link_faults c.scope (place + 1) first ++ link_faults c.scope (place + 3) second) (new_names_differ (place + 3) first second) clean in
      let links = both-clean (link_faults c.scope (place + 1) first) (link_faults c.scope (place + 3) second) parts.0 in
      pass_on c o at (code.New ∷ []) (store c.names second ∷ store c.names first ∷ []) [] (types.Link ∷ types.Link ∷ []) []
      (one c.whole (Caught c o) at code.New (on c o []) (on c o (types.Link ∷ types.Link ∷ [])) (λ shapes leads needs fits. (leads, may_raise shapes (on c o []) [] needs)))
      (pass_on c o (at + 1) (store c.names second ∷ []) (store c.names first ∷ []) (types.Link ∷ types.Link ∷ []) (types.Link ∷ []) []
      (store_passes c o (at + 1) second types.Link (types.Link ∷ []) (link_variable c (place + 3) second links.1))
      (store_passes c o (at + 1 + 1) first types.Link [] (link_variable c (place + 1) first links.0)))

  -- an action on a link
  pub on_link_passes : (name : List ℕ) (i : Instruction) (at place : ℕ) → ((shapes : Shapes) (there : ℕ) (s : Shape) → AsksOnLink shapes there s → Obeys c.whole shapes there s i) → link_faults c.scope place name ≡ [] →
      Passes c o at (load c.names name ∷ i ∷ []) [] []
  on_link_passes name i at place obeys clean =
      let s = on c o (types.Link ∷ []) in
      pass_on c o at (load c.names name ∷ []) (i ∷ []) [] (types.Link ∷ []) [] (load_passes c o at name types.Link [] (link_variable c place name clean))
      (one c.whole (Caught c o) (at + 1) i s (on c o []) (λ shapes leads needs fits. obeys shapes (at + 1) s ([], refl, (leads, may_raise shapes s [] needs))))

  reply_by : (values : ExprTrees) (request : Request) (at place : ℕ) → IsFor c.whole o.requests request → AreExprs 6 values → stmt_faults c.scope request place (trees.Reply values) ≡ [] → Passes c o at (stmt_code c.names at (trees.Reply values)) [] []
  reply_by values Outside at place meant is clean =
      let parts = both-clean (reply_has_request place Outside ++ reply_has_values place (number_of values) Outside) (values_faults reply_value_fits c.scope (place + 2) values []) clean in
      no-false (demand-met 20 place false (both-clean (reply_has_request place Outside) (reply_has_values place (number_of values) Outside) parts.0).0)
  reply_by values (Asks results) at place meant is clean =
      let x = exprs_code c.names at values in
      let ts = meant.2.results in
      let met = subst (λ (r : Option (List TypeName)). stmt_faults c.scope (Asks r) place (trees.Reply values) ≡ []) meant.5 clean in
      let parts = both-clean (reply_has_request place (Asks (Some ts)) ++ reply_has_values place (number_of values) (Asks (Some ts))) (values_faults reply_value_fits c.scope (place + 2) values ts) met in
      let count = number-met (number_of values) (Some ts) ts refl (demand-met _ _ _ (both-clean (reply_has_request place (Asks (Some ts))) (reply_has_values place (number_of values) (Asks (Some ts))) parts.0).1) in
      let shows = exprs_show c o values reply_value_fits (λ t there held met. demand-met _ _ _ met) ts 6 at (place + 2) [] is parts.1 in
      let s = on c o (pushed ts []) in
      pass_on c o at x (code.Reply (how_many values) ∷ []) [] (pushed ts []) [] (as_many_wanted c o at (how_many values) values [] ts shows (sym count ∙ counted values))
      (one c.whole (Caught c o) (at + length x) (code.Reply (how_many values)) s (on c o [])
      (λ shapes leads needs fits.
      subst (λ (rs : List ℕ). Replies c.whole shapes (at + length x) s (how_many values) rs) (sym meant.3)
      (meant.2, meant.4, sym count ∙ counted values, ([], refl, (leads, may_raise shapes s [] needs)))))

  pub reply_passes : (values : ExprTrees) (asked : Asked c.whole o.requests) (at place : ℕ) → AreExprs 6 values → stmt_faults c.scope asked.request place (trees.Reply values) ≡ [] → Passes c o at (stmt_code c.names at (trees.Reply values)) [] []
  reply_passes values asked at place is clean = reply_by values asked.request at place asked.meant is clean

  connect_obeys : (shapes : Shapes) (at number : ℕ) (op : OpTypes) → slice_get c.whole.ops number ≡ Some op → Leads shapes (at + 1) (on c o (pushed op.results [])) → Caught c o shapes →
      Obeys c.whole shapes at (on c o (types.Link ∷ pushed op.arguments [])) (code.Connect number)
  connect_obeys shapes at number op is leads needs =
      let s = on c o (types.Link ∷ pushed op.arguments []) in
      subst (λ (q : Option OpTypes). Connects shapes at s q) (sym is) ([], refl, (leads, may_raise shapes s [] needs))

  pub connect_passes : (op link : List ℕ) (values : ExprTrees) (results : List (List ℕ)) (request : Request) (at place : ℕ) → AreExprs 6 values → stmt_faults c.scope request place (trees.Connect op link values results) ≡ [] →
      Passes c o at (stmt_code c.names at (trees.Connect op link values results)) [] []
  connect_passes op link values results request at place is clean =
      let x = exprs_code c.names at values in
      let number = c.names.op op in
      let f1 = is_op (place + 1) (c.scope op) in
      let f2 = connect_has_values (place + 1) (number_of values) (arguments_of (c.scope op)) in
      let f3 = connect_has_names (place + 1) (length results) (results_of (c.scope op)) in
      let f4 = link_faults c.scope (place + 3) link in
      let f5 = values_faults connect_value_fits c.scope (place + 5) values (known (arguments_of (c.scope op))) in
      let f6 = names_faults connect_name_fits c.scope (place + length (exprs_marks 0 values) + 6) results (known (results_of (c.scope op))) in
      let p5 = both-clean (f1 ++ f2 ++ f3 ++ f4 ++ f5) f6 clean in
      let p4 = both-clean (f1 ++ f2 ++ f3 ++ f4) f5 p5.0 in
      let p3 = both-clean (f1 ++ f2 ++ f3) f4 p4.0 in
      let p2 = both-clean (f1 ++ f2) f3 p3.0 in
      let p1 = both-clean f1 f2 p2.0 in
      let arguments = some-of (arguments_of (c.scope op)) (demand-met _ _ _ p1.0) in
      let found = c.operation op arguments.0 arguments.1 in
      let q = found.0 in
      let declared : arguments_of (c.scope op) ≡ Some q.arguments = arguments.1 ∙ ap Some (sym found.2) in
      let shows = exprs_show c o values connect_value_fits (λ t there held met. demand-met _ _ _ met) q.arguments 6 at (place + 5) [] is
      (subst (λ (w : Option (List TypeName)). values_faults connect_value_fits c.scope (place + 5) values (known w) ≡ []) declared p4.1) in
      let count = number-met (number_of values) (arguments_of (c.scope op)) q.arguments declared (demand-met _ _ _ p1.1) in
      let names_number = number-met (length results) (results_of (c.scope op)) q.results found.3 (demand-met _ _ _ p2.1) in
      let of_names = variables_of c connect_name_fits (λ t there held met. demand-met _ _ _ met) (place + length (exprs_marks 0 values) + 6) results q.results names_number
      (subst (λ (w : Option (List TypeName)). names_faults connect_name_fits c.scope (place + length (exprs_marks 0 values) + 6) results (known w) ≡ []) found.3 p5.1) in
      let all = pushed q.arguments [] in
      let middle = at + length x in
      pass_on c o at x (load c.names link ∷ code.Connect number ∷ stores c.names results) [] all []
      (as_many_wanted c o at (how_many values) values [] q.arguments shows (sym count ∙ counted values))
      (pass_on c o middle (load c.names link ∷ []) (code.Connect number ∷ stores c.names results) all (types.Link ∷ all) [] (load_passes c o middle link types.Link all (link_variable c (place + 3) link p3.1))
      (pass_on c o (middle + 1) (code.Connect number ∷ []) (stores c.names results) (types.Link ∷ all) (pushed q.results []) []
      (one c.whole (Caught c o) (middle + 1) (code.Connect number) (on c o (types.Link ∷ all)) (on c o (pushed q.results [])) (λ shapes leads needs fits. connect_obeys shapes (middle + 1) number q found.1 leads needs))
      (stores_pass c o (middle + 1 + 1) results q.results [] of_names)))
