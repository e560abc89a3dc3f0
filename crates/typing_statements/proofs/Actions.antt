-- What a walk over the parts of a statement with no others inside says of it.
use Rattle.std.proofs.Common.{◌≡◌, ℕ, ◌+◌, List, [], ◌∷◌, ◌++◌, Bool, not, Option, Some, None, is_some, length, refl, ap, ◌∙◌, arith}
use Rattle.std.specs.Str.{bytes_eq}
use denote.Ref.{Bor}
use Rattle.lynx_tree.specs.declared.declaration.TypeName.{TypeName}
use Rattle.lynx_tree.specs.declared.declaration.TypeName.TheVariants as types
use Rattle.lynx_tree.specs.declared.expression.Expr as expr
use Rattle.lynx_tree.specs.Grammar.{exprs_marks}
use Rattle.lynx_tree.specs.Trees.{ExprTree, ExprTrees, expr_list}
use Rattle.lynx_tree.specs.Trees as trees
use Rattle.typing_rules.specs.Expressions.{expr_size, expr_faults, value_faults, values_faults, number_of}
use Rattle.typing_rules.specs.Meanings.{types_known}
use Rattle.typing_rules.specs.Names.{Scope, arguments_of, results_of, known}
use Rattle.typing_rules.specs.Progress.{first_with}
use Rattle.typing_rules.specs.Rules.{Fault, Request, Outside, demand, wants, is_number_of, is_op, accept_has_names, connect_has_values, connect_has_names, new_names_differ, has_request, results_needed, reply_has_request, reply_has_values, value_is_of_target}
use Rattle.typing_rules.specs.Statements.{link_faults, names_faults, stmt_faults}
use Rattle.typing_rules.proofs.Progress.{joined}
use Rattle.typing_statements.specs.Parts.{accept_faults}

-- faults found behind others, where they are those of the definition
pub found_then : (o o1 o2 : Option Fault) (xs ys zs : List Fault) → o1 ≡ first_with o xs → o2 ≡ first_with o1 zs → zs ≡ ys → o2 ≡ first_with o (xs ++ ys)
found_then o o1 o2 xs ys zs e1 e2 is = joined o o1 o2 xs ys e1 (e2 ∙ ap (first_with o1) is)

pub known_some : (ts : Option (Bor (List TypeName))) → is_some ts ≡ is_some (types_known ts)
known_some None = refl
known_some (Some ts) = refl

pub number_list : (es : List expr.Expr) → length es ≡ number_of (expr_list es)
number_list [] = refl
number_list (e ∷ es) = omega (arith, number_list es)

module _ (s : Scope) (a : ℕ) where
  pub member_first : (n : List ℕ) (index value : ExprTree) (b : ℕ) (o o1 o2 : Option Fault) → b ≡ a + expr_size index + 4
      → o1 ≡ first_with o (expr_faults s a (trees.Member n index)) → o2 ≡ first_with o1 (value_faults (value_is_of_target (Some types.Int)) s b value)
      → o2 ≡ first_with o (stmt_faults s Outside a (trees.AssignMember n index value))
  member_first n index value b o o1 o2 at_b e1 e2 =
      found_then o o1 o2 (expr_faults s a (trees.Member n index)) (value_faults (value_is_of_target (Some types.Int)) s (a + expr_size index + 4) value) (value_faults (value_is_of_target (Some types.Int)) s b value)
      e1 e2 (ap (λ i. value_faults (value_is_of_target (Some types.Int)) s i value) at_b)

  pub new_first : (f g : List ℕ) (b c : ℕ) (differ : Bool) (o o1 o2 o3 : Option Fault) → b ≡ a + 1 → c ≡ a + 3 → differ ≡ not (bytes_eq f g)
      → o1 ≡ first_with o (link_faults s b f) → o2 ≡ first_with o1 (link_faults s c g) → o3 ≡ first_with o2 (demand 15 c differ)
      → o3 ≡ first_with o (stmt_faults s Outside a (trees.New f g))
  new_first f g b c differ o o1 o2 o3 at_b at_c is e1 e2 e3 =
      found_then o o2 o3 (link_faults s (a + 1) f ++ link_faults s (a + 3) g) (new_names_differ (a + 3) f g) (demand 15 c differ)
      (found_then o o1 o2 (link_faults s (a + 1) f) (link_faults s (a + 3) g) (link_faults s c g) (e1 ∙ ap (λ i. first_with o (link_faults s i f)) at_b) e2 (ap (λ i. link_faults s i g) at_c))
      e3 (λ i. demand 15 (at_c i) (is i))

  pub reply_first : (r : Request) (values : ExprTrees) (ts : List TypeName) (b : ℕ) (is_asked is_number : Bool) (o o1 o2 o3 : Option Fault) → b ≡ a + 1
      → is_asked ≡ has_request r → is_number ≡ is_number_of (number_of values) (results_needed r) → ts ≡ known (results_needed r)
      → o1 ≡ first_with o (demand 20 a is_asked) → o2 ≡ first_with o1 (demand 21 a is_number) → o3 ≡ first_with o2 (values_faults (wants 21) s (b + 1) values ts)
      → o3 ≡ first_with o (stmt_faults s r a (trees.Reply values))
  reply_first r values ts b is_asked is_number o o1 o2 o3 at_b asked number are e1 e2 e3 =
      let at_values : b + 1 ≡ a + 2 = omega (arith, at_b) in
      found_then o o2 o3 (reply_has_request a r ++ reply_has_values a (number_of values) r) (values_faults (wants 21) s (a + 2) values (known (results_needed r))) (values_faults (wants 21) s (b + 1) values ts)
      (found_then o o1 o2 (reply_has_request a r) (reply_has_values a (number_of values) r) (demand 21 a is_number) (e1 ∙ ap (λ x. first_with o (demand 20 a x)) asked) e2 (ap (demand 21 a) number))
      e3 (λ i. values_faults (wants 21) s (at_values i) values (are i))

  -- an op that a request is sent to or taken from: its arguments and its results, where they are known
  module _ (op link : List ℕ) (names : List (List ℕ)) (arguments results : Option (List TypeName)) (are : arguments ≡ arguments_of (s op)) (gives : results ≡ results_of (s op)) (b c d : ℕ) (at_b : b ≡ a + 1) (at_c : c ≡ a + 3) (at_d : d ≡ a + 4) where
    op_first : (is_known : Bool) (o o1 : Option Fault) → is_known ≡ is_some arguments → o1 ≡ first_with o (demand 8 b is_known) → o1 ≡ first_with o (is_op (a + 1) (s op))
    op_first is_known o o1 is e1 = e1 ∙ (λ i. first_with o (demand 8 (at_b i) ((is ∙ ap is_some are) i)))

    pub accept_first : (ts : List TypeName) (is_known is_number : Bool) (o o1 o2 o3 o4 : Option Fault) → is_known ≡ is_some arguments → is_number ≡ is_number_of (length names) arguments → ts ≡ known arguments
        → o1 ≡ first_with o (demand 8 b is_known) → o2 ≡ first_with o1 (demand 19 b is_number) → o3 ≡ first_with o2 (link_faults s c link) → o4 ≡ first_with o3 (names_faults (wants 19) s (d + 1) names ts)
        → o4 ≡ first_with o (accept_faults s a op link names)
    accept_first ts is_known is_number o o1 o2 o3 o4 is number of e1 e2 e3 e4 =
        let at_names : d + 1 ≡ a + 5 = omega (arith, at_d) in
        let types = arguments_of (s op) in
        found_then o o3 o4 (is_op (a + 1) (s op) ++ accept_has_names (a + 1) (length names) types ++ link_faults s (a + 3) link) (names_faults (wants 19) s (a + 5) names (known types)) (names_faults (wants 19) s (d + 1) names ts)
        (found_then o o2 o3 (is_op (a + 1) (s op) ++ accept_has_names (a + 1) (length names) types) (link_faults s (a + 3) link) (link_faults s c link)
        (found_then o o1 o2 (is_op (a + 1) (s op)) (accept_has_names (a + 1) (length names) types) (demand 19 b is_number)
        (op_first is_known o o1 is e1) e2 (λ i. demand 19 (at_b i) ((number ∙ ap (is_number_of (length names)) are) i)))
        e3 (ap (λ i. link_faults s i link) at_c))
        e4 (λ i. names_faults (wants 19) s (at_names i) names ((of ∙ ap known are) i))

    pub connect_first : (values : ExprTrees) (e : ℕ) (ts us : List TypeName) (is_known has_values has_names : Bool) (o o1 o2 o3 o4 o5 o6 : Option Fault) → e ≡ a + length (exprs_marks 0 values) + 5
        → is_known ≡ is_some arguments → has_values ≡ is_number_of (number_of values) arguments → has_names ≡ is_number_of (length names) results → ts ≡ known arguments → us ≡ known results
        → o1 ≡ first_with o (demand 8 b is_known) → o2 ≡ first_with o1 (demand 17 b has_values) → o3 ≡ first_with o2 (demand 18 b has_names) → o4 ≡ first_with o3 (link_faults s c link)
        → o5 ≡ first_with o4 (values_faults (wants 17) s (d + 1) values ts) → o6 ≡ first_with o5 (names_faults (wants 18) s (e + 1) names us)
        → o6 ≡ first_with o (stmt_faults s Outside a (trees.Connect op link values names))
    connect_first values e ts us is_known has_values has_names o o1 o2 o3 o4 o5 o6 at_e is number taken of taken_of e1 e2 e3 e4 e5 e6 =
        let at_values : d + 1 ≡ a + 5 = omega (arith, at_d) in
        let at_names : e + 1 ≡ a + length (exprs_marks 0 values) + 6 = omega (arith, at_e) in
        let types = arguments_of (s op) in
        let back = results_of (s op) in
        let f1 = is_op (a + 1) (s op) in
        let f2 = connect_has_values (a + 1) (number_of values) types in
        let f3 = connect_has_names (a + 1) (length names) back in
        let f4 = link_faults s (a + 3) link in
        let f5 = values_faults (wants 17) s (a + 5) values (known types) in
        let f6 = names_faults (wants 18) s (a + length (exprs_marks 0 values) + 6) names (known back) in
        found_then o o5 o6 (f1 ++ f2 ++ f3 ++ f4 ++ f5) f6 (names_faults (wants 18) s (e + 1) names us)
        (found_then o o4 o5 (f1 ++ f2 ++ f3 ++ f4) f5 (values_faults (wants 17) s (d + 1) values ts)
        (found_then o o3 o4 (f1 ++ f2 ++ f3) f4 (link_faults s c link)
        (found_then o o2 o3 (f1 ++ f2) f3 (demand 18 b has_names)
        (found_then o o1 o2 f1 f2 (demand 17 b has_values)
        (op_first is_known o o1 is e1) e2 (λ i. demand 17 (at_b i) ((number ∙ ap (is_number_of (number_of values)) are) i)))
        e3 (λ i. demand 18 (at_b i) ((taken ∙ ap (is_number_of (length names)) gives) i)))
        e4 (ap (λ i. link_faults s i link) at_c))
        e5 (λ i. values_faults (wants 17) s (at_values i) values ((of ∙ ap known are) i)))
        e6 (λ i. names_faults (wants 18) s (at_names i) names ((taken_of ∙ ap known gives) i))
