-- Small modules: for each rule what breaks it, with its place and its rule, and what comes near and breaks none.
use Rattle.std.proofs.Common.{◌≡◌, ℕ, List, [], ◌∷◌, refl, Some}
use Rattle.std.specs.Prelude.{codes, pos}
use Rattle.std.specs.Fmt.{digits}
use Rattle.lynx_lexer.specs.declared.sign.Sign.TheVariants as signs
use Rattle.lynx_tree.specs.declared.expression.TermSign.TheVariants as term_signs
use Rattle.lynx_tree.specs.declared.declaration.TypeName.{TypeName}
use Rattle.lynx_tree.specs.declared.declaration.TypeName.TheVariants.{Int, Bool, Text, Link, Row}
use Rattle.lynx_tree.specs.Trees as trees
use Rattle.lynx_tree.specs.Trees.{ExprTree, ExprTrees, StmtTree, StmtTrees, OpTree, VarTree, EntryTree, ModuleTree}
use Rattle.typing_rules.specs.Exceptions.{exception_of}
use Rattle.typing_rules.specs.Modules.{module_faults, first_fault}

abbrev exprs : List ExprTree → ExprTrees
exprs [] = trees.no_exprs
exprs (e ∷ es) = trees.more_exprs e (exprs es)

abbrev stmts : List StmtTree → StmtTrees
stmts [] = trees.no_stmts
stmts (s ∷ ss) = trees.more_stmts s (stmts ss)

abbrev op : List ℕ → List TypeName → List TypeName → OpTree
op name arguments results = record { name = name; arguments = arguments; results = results }

abbrev var : List ℕ → TypeName → VarTree
var name kind = record { name = name; kind = kind }

abbrev entry : List ℕ → List ℕ → List (List ℕ) → List VarTree → List StmtTree → EntryTree
entry name op parameters vars body = record { name = name; op = op; parameters = parameters; vars = vars; body = stmts body }

abbrev module_of : List OpTree → List VarTree → List VarTree → List EntryTree → List StmtTree → ModuleTree
module_of ops params vars entries body = record { name = codes "m"; ops = ops; params = params; vars = vars; entries = entries; body = stmts body }

-- var n : int; var n : bool; begin end.
pub a_name_is_declared_twice : first_fault (module_faults (module_of [] [] (var (codes "n") Int ∷ var (codes "n") Bool ∷ []) [] [])) ≡ Some (record { place = 9; rule = 1 })
a_name_is_declared_twice = refl

-- var n : int; var N : bool; begin end.
pub names_differ : module_faults (module_of [] [] (var (codes "n") Int ∷ var (codes "N") Bool ∷ []) [] []) ≡ []
names_differ = refl

-- op n () : (); var n : bool; begin end.
pub kinds_share_one_space : first_fault (module_faults (module_of (op (codes "n") [] [] ∷ []) [] (var (codes "n") Bool ∷ []) [] [])) ≡ Some (record { place = 12; rule = 1 })
kinds_share_one_space = refl

-- var m : int; begin end.
pub the_module_has_a_name_of_its_own : module_faults (module_of [] [] (var (codes "m") Int ∷ []) [] []) ≡ []
the_module_has_a_name_of_its_own = refl

-- param l : link; var x : int; entry x of o () begin end; begin bind l to x; end.
pub the_first_declaration_is_meant : first_fault (module_faults (module_of [] (var (codes "l") Link ∷ []) (var (codes "x") Int ∷ []) (entry (codes "x") (codes "o") [] [] [] ∷ []) (trees.Bind (codes "l") (codes "x") ∷ []))) ≡ Some (record { place = 14; rule = 1 })
the_first_declaration_is_meant = refl

-- op add (int, int) : (int); entry sum of add (a, a) begin end; begin end.
pub a_parameter_is_declared_twice : first_fault (module_faults (module_of (op (codes "add") (Int ∷ Int ∷ []) (Int ∷ []) ∷ []) [] [] (entry (codes "sum") (codes "add") (codes "a" ∷ codes "a" ∷ []) [] [] ∷ []) [])) ≡ Some (record { place = 22; rule = 2 })
a_parameter_is_declared_twice = refl

-- op add (int, int) : (int); entry sum of add (a, b) var b : bool; begin end; begin end.
pub a_var_is_named_as_a_parameter : first_fault (module_faults (module_of (op (codes "add") (Int ∷ Int ∷ []) (Int ∷ []) ∷ []) [] [] (entry (codes "sum") (codes "add") (codes "a" ∷ codes "b" ∷ []) (var (codes "b") Bool ∷ []) [] ∷ []) [])) ≡ Some (record { place = 25; rule = 2 })
a_var_is_named_as_a_parameter = refl

-- op add (int, int) : (int); var a : text; entry sum of add (a, b) begin reply (a); end; begin write a; end.
pub a_local_with_a_module_variables_name : module_faults
    (module_of (op (codes "add") (Int ∷ Int ∷ []) (Int ∷ []) ∷ []) [] (var (codes "a") Text ∷ []) (entry (codes "sum") (codes "add") (codes "a" ∷ codes "b" ∷ []) [] (trees.Reply (exprs ((trees.Name (codes "a")) ∷ [])) ∷ []) ∷ []) (trees.Write (trees.Name (codes "a")) ∷ [])) ≡ []
a_local_with_a_module_variables_name = refl

-- param n : int; begin end.
pub a_param_is_no_link : first_fault (module_faults (module_of [] (var (codes "n") Int ∷ []) [] [] [])) ≡ Some (record { place = 6; rule = 3 })
a_param_is_no_link = refl

-- param n : link; begin n := n; end.
pub a_param_is_a_link : module_faults (module_of [] (var (codes "n") Link ∷ []) [] [] (trees.Assign (codes "n") (trees.Name (codes "n")) ∷ [])) ≡ []
a_param_is_a_link = refl

-- var r : row 17; begin end.
pub a_row_of_17 : first_fault (module_faults (module_of [] [] (var (codes "r") (Row (pos 17)) ∷ []) [] [])) ≡ Some (record { place = 7; rule = 4 })
a_row_of_17 = refl

-- var r : row 16; begin end.
pub a_row_of_16 : module_faults (module_of [] [] (var (codes "r") (Row (pos 16)) ∷ []) [] []) ≡ []
a_row_of_16 = refl

-- var r : row 0; begin end.
pub a_row_of_none : first_fault (module_faults (module_of [] [] (var (codes "r") (Row (pos 0)) ∷ []) [] [])) ≡ Some (record { place = 7; rule = 4 })
a_row_of_none = refl

-- op give (link,link,link,link,link,link,link,link,link) : (); begin end.
pub nine_links : first_fault (module_faults (module_of (op (codes "give") (Link ∷ Link ∷ Link ∷ Link ∷ Link ∷ Link ∷ Link ∷ Link ∷ Link ∷ []) [] ∷ []) [] [] [] [])) ≡ Some (record { place = 4; rule = 5 })
nine_links = refl

-- op give (link,link,link,link,link,link,link,link) : (link,link,link,link,link,link,link,link); begin end.
pub eight_links_each_way : module_faults (module_of (op (codes "give") (Link ∷ Link ∷ Link ∷ Link ∷ Link ∷ Link ∷ Link ∷ Link ∷ []) (Link ∷ Link ∷ Link ∷ Link ∷ Link ∷ Link ∷ Link ∷ Link ∷ []) ∷ []) [] [] [] []) ≡ []
eight_links_each_way = refl

-- op o (row 16, row 13) : (); begin end.
pub a_request_of_259_bytes : first_fault (module_faults (module_of (op (codes "o") ((Row (pos 16)) ∷ (Row (pos 13)) ∷ []) [] ∷ []) [] [] [] [])) ≡ Some (record { place = 4; rule = 24 })
unfolding digits
a_request_of_259_bytes = refl

-- op o (row 16, row 12) : (); begin end.
pub a_request_of_251_bytes : module_faults (module_of (op (codes "o") ((Row (pos 16)) ∷ (Row (pos 12)) ∷ []) [] ∷ []) [] [] [] []) ≡ []
unfolding digits
a_request_of_251_bytes = refl

-- op abcdefg (row 16, row 12) : (); begin end.
pub a_request_of_257_bytes : first_fault (module_faults (module_of (op (codes "abcdefg") ((Row (pos 16)) ∷ (Row (pos 12)) ∷ []) [] ∷ []) [] [] [] [])) ≡ Some (record { place = 4; rule = 24 })
unfolding digits
a_request_of_257_bytes = refl

-- op abcdef (row 16, row 12) : (); begin end.
pub a_request_of_256_bytes : module_faults (module_of (op (codes "abcdef") ((Row (pos 16)) ∷ (Row (pos 12)) ∷ []) [] ∷ []) [] [] [] []) ≡ []
unfolding digits
a_request_of_256_bytes = refl

-- op o () : (text, text, text, row 6, bool, bool, link); begin end.
pub a_reply_of_261_bytes : first_fault (module_faults (module_of (op (codes "o") [] (Text ∷ Text ∷ Text ∷ (Row (pos 6)) ∷ Bool ∷ Bool ∷ Link ∷ []) ∷ []) [] [] [] [])) ≡ Some (record { place = 4; rule = 24 })
unfolding digits
a_reply_of_261_bytes = refl

-- op o () : (text, text, text, row 6, bool); begin end.
pub a_reply_of_256_bytes : module_faults (module_of (op (codes "o") [] (Text ∷ Text ∷ Text ∷ (Row (pos 6)) ∷ Bool ∷ []) ∷ []) [] [] [] []) ≡ []
unfolding digits
a_reply_of_256_bytes = refl

-- entry e of o () begin reply (1); end; begin end.
pub an_entry_of_no_op : first_fault (module_faults (module_of [] [] [] (entry (codes "e") (codes "o") [] [] (trees.Reply (exprs ((trees.Number (pos 1)) ∷ [])) ∷ []) ∷ []) [])) ≡ Some (record { place = 6; rule = 6 })
an_entry_of_no_op = refl

-- var o : int; entry e of o () begin end; begin end.
pub an_entry_of_a_variable : first_fault (module_faults (module_of [] [] (var (codes "o") Int ∷ []) (entry (codes "e") (codes "o") [] [] [] ∷ []) [])) ≡ Some (record { place = 11; rule = 6 })
an_entry_of_a_variable = refl

-- op add (int, int) : (int); entry sum of add (a) begin end; begin end.
pub too_few_parameters : first_fault (module_faults (module_of (op (codes "add") (Int ∷ Int ∷ []) (Int ∷ []) ∷ []) [] [] (entry (codes "sum") (codes "add") (codes "a" ∷ []) [] [] ∷ []) [])) ≡ Some (record { place = 16; rule = 7 })
too_few_parameters = refl

-- op add (int, int) : (int); entry sum of add (a, b) begin reply (a + b); end; begin end.
pub as_many_parameters_as_arguments : module_faults
    (module_of (op (codes "add") (Int ∷ Int ∷ []) (Int ∷ []) ∷ []) [] [] (entry (codes "sum") (codes "add") (codes "a" ∷ codes "b" ∷ []) [] (trees.Reply (exprs ((trees.Sum (trees.Name (codes "a")) (trees.more_sums signs.Plus (trees.Name (codes "b")) trees.no_sums)) ∷ [])) ∷ []) ∷ []) []) ≡ []
as_many_parameters_as_arguments = refl

-- begin k := 1; end.
pub an_undeclared_name : first_fault (module_faults (module_of [] [] [] [] (trees.Assign (codes "k") (trees.Number (pos 1)) ∷ []))) ≡ Some (record { place = 4; rule = 8 })
an_undeclared_name = refl

-- op k () : (); begin write k; end.
pub an_op_in_an_expression : first_fault (module_faults (module_of (op (codes "k") [] [] ∷ []) [] [] [] (trees.Write (trees.Name (codes "k")) ∷ []))) ≡ Some (record { place = 13; rule = 8 })
an_op_in_an_expression = refl

-- op add (int, int) : (int); entry sum of add (a, b) begin end; begin write a; end.
pub a_local_in_the_modules_body : first_fault (module_faults (module_of (op (codes "add") (Int ∷ Int ∷ []) (Int ∷ []) ∷ []) [] [] (entry (codes "sum") (codes "add") (codes "a" ∷ codes "b" ∷ []) [] [] ∷ []) (trees.Write (trees.Name (codes "a")) ∷ []))) ≡ Some (record { place = 29; rule = 8 })
a_local_in_the_modules_body = refl

-- op o () : (); param l : link; entry e of o () begin bind l to f; end; entry f of o () begin end; begin end.
pub an_entry_names_a_later_one : module_faults (module_of (op (codes "o") [] [] ∷ []) (var (codes "l") Link ∷ []) [] (entry (codes "e") (codes "o") [] [] (trees.Bind (codes "l") (codes "f") ∷ []) ∷ entry (codes "f") (codes "o") [] [] [] ∷ []) []) ≡ []
an_entry_names_a_later_one = refl

-- op o (link) : (); entry e of o (e) begin bind e to e; end; begin end.
pub a_local_hides_an_entry : first_fault (module_faults (module_of (op (codes "o") (Link ∷ []) [] ∷ []) [] [] (entry (codes "e") (codes "o") (codes "e" ∷ []) [] (trees.Bind (codes "e") (codes "e") ∷ []) ∷ []) [])) ≡ Some (record { place = 23; rule = 8 })
a_local_hides_an_entry = refl

-- var n : int; begin n := 1 + 'a'; end.
pub a_text_in_a_sum : first_fault (module_faults (module_of [] [] (var (codes "n") Int ∷ []) [] (trees.Assign (codes "n") (trees.Sum (trees.Number (pos 1)) (trees.more_sums signs.Plus (trees.Text (codes "a")) trees.no_sums)) ∷ []))) ≡ Some (record { place = 13; rule = 9 })
a_text_in_a_sum = refl

-- begin write - true; end.
pub a_bool_behind_a_minus : first_fault (module_faults (module_of [] [] [] [] (trees.Write (trees.Minus trees.True) ∷ []))) ≡ Some (record { place = 6; rule = 9 })
a_bool_behind_a_minus = refl

-- begin write 'a' < 'b'; end.
pub texts_in_an_order : first_fault (module_faults (module_of [] [] [] [] (trees.Write (trees.Relation (trees.Text (codes "a")) signs.Less (trees.Text (codes "b"))) ∷ []))) ≡ Some (record { place = 5; rule = 9 })
texts_in_an_order = refl

-- begin write 1 < 2 * 3 - - 4; end.
pub numbers_in_an_order : module_faults (module_of [] [] [] []
    (trees.Write (trees.Relation (trees.Number (pos 1)) signs.Less (trees.Sum (trees.Term (trees.Number (pos 2)) (trees.more_terms term_signs.Times (trees.Number (pos 3)) trees.no_terms)) (trees.more_sums signs.Minus (trees.Minus (trees.Number (pos 4))) trees.no_sums))) ∷ [])) ≡ []
numbers_in_an_order = refl

-- begin write 1 = true; end.
pub operands_of_two_types : first_fault (module_faults (module_of [] [] [] [] (trees.Write (trees.Relation (trees.Number (pos 1)) signs.Equal trees.True) ∷ []))) ≡ Some (record { place = 7; rule = 10 })
operands_of_two_types = refl

-- begin write 'a' <> ('b'); end.
pub operands_of_one_type : module_faults (module_of [] [] [] [] (trees.Write (trees.Relation (trees.Text (codes "a")) signs.NotEqual (trees.Bracket (trees.Text (codes "b")))) ∷ [])) ≡ []
operands_of_one_type = refl

-- var r : row 2; begin write r = r; end.
pub rows_are_not_compared : first_fault (module_faults (module_of [] [] (var (codes "r") (Row (pos 2)) ∷ []) [] (trees.Write (trees.Relation (trees.Name (codes "r")) signs.Equal (trees.Name (codes "r"))) ∷ []))) ≡ Some (record { place = 13; rule = 10 })
rows_are_not_compared = refl

-- var l : link; begin write q = l; end.
pub a_link_and_a_fault_inside : first_fault (module_faults (module_of [] [] (var (codes "l") Link ∷ []) [] (trees.Write (trees.Relation (trees.Name (codes "q")) signs.Equal (trees.Name (codes "l"))) ∷ []))) ≡ Some (record { place = 10; rule = 8 })
a_link_and_a_fault_inside = refl

-- begin write 'a' = q; end.
pub a_fault_inside_takes_the_place_of_any_type : first_fault (module_faults (module_of [] [] [] [] (trees.Write (trees.Relation (trees.Text (codes "a")) signs.Equal (trees.Name (codes "q"))) ∷ []))) ≡ Some (record { place = 7; rule = 8 })
a_fault_inside_takes_the_place_of_any_type = refl

-- begin write true and 1; end.
pub a_number_in_an_and : first_fault (module_faults (module_of [] [] [] [] (trees.Write (trees.And (exprs (trees.True ∷ (trees.Number (pos 1)) ∷ []))) ∷ []))) ≡ Some (record { place = 7; rule = 11 })
a_number_in_an_and = refl

-- begin write true and not false or 1 = 1; end.
pub bools_in_an_and : module_faults (module_of [] [] [] [] (trees.Write (trees.Or (exprs ((trees.And (exprs (trees.True ∷ (trees.Not trees.False) ∷ []))) ∷ (trees.Relation (trees.Number (pos 1)) signs.Equal (trees.Number (pos 1))) ∷ []))) ∷ [])) ≡ []
bools_in_an_and = refl

-- begin while 1 do stop; end; end.
pub a_number_as_a_condition : first_fault (module_faults (module_of [] [] [] [] (trees.While (trees.Number (pos 1)) (stmts (trees.Stop ∷ [])) ∷ []))) ≡ Some (record { place = 5; rule = 12 })
a_number_as_a_condition = refl

-- begin while true do stop; end; end.
pub a_bool_as_a_condition : module_faults (module_of [] [] [] [] (trees.While trees.True (stmts (trees.Stop ∷ [])) ∷ [])) ≡ []
a_bool_as_a_condition = refl

-- var n : int; begin n := true; end.
pub another_type_is_assigned : first_fault (module_faults (module_of [] [] (var (codes "n") Int ∷ []) [] (trees.Assign (codes "n") trees.True ∷ []))) ≡ Some (record { place = 11; rule = 13 })
another_type_is_assigned = refl

-- var r : row 2; var s : row 3; begin r := s; end.
pub rows_of_two_lengths : first_fault (module_faults (module_of [] [] (var (codes "r") (Row (pos 2)) ∷ var (codes "s") (Row (pos 3)) ∷ []) [] (trees.Assign (codes "r") (trees.Name (codes "s")) ∷ []))) ≡ Some (record { place = 18; rule = 13 })
rows_of_two_lengths = refl

-- var r : row 2; var s : row 2; begin r := s; end.
pub rows_of_one_length : module_faults (module_of [] [] (var (codes "r") (Row (pos 2)) ∷ var (codes "s") (Row (pos 2)) ∷ []) [] (trees.Assign (codes "r") (trees.Name (codes "s")) ∷ [])) ≡ []
rows_of_one_length = refl

-- var r : row 2; begin r[0] := r; end.
pub a_member_is_a_number : first_fault (module_faults (module_of [] [] (var (codes "r") (Row (pos 2)) ∷ []) [] (trees.AssignMember (codes "r") (trees.Number (pos 0)) (trees.Name (codes "r")) ∷ []))) ≡ Some (record { place = 15; rule = 13 })
a_member_is_a_number = refl

-- var n : int; begin write n[0]; end.
pub a_number_is_indexed : first_fault (module_faults (module_of [] [] (var (codes "n") Int ∷ []) [] (trees.Write (trees.Member (codes "n") (trees.Number (pos 0))) ∷ []))) ≡ Some (record { place = 10; rule = 14 })
a_number_is_indexed = refl

-- var r : row 2; begin write r[true]; end.
pub an_index_of_type_bool : first_fault (module_faults (module_of [] [] (var (codes "r") (Row (pos 2)) ∷ []) [] (trees.Write (trees.Member (codes "r") trees.True) ∷ []))) ≡ Some (record { place = 13; rule = 14 })
an_index_of_type_bool = refl

-- var r : row 2; begin r[r[1]] := r[0]; end.
pub an_index_within_an_index : module_faults (module_of [] [] (var (codes "r") (Row (pos 2)) ∷ []) [] (trees.AssignMember (codes "r") (trees.Member (codes "r") (trees.Number (pos 1))) (trees.Member (codes "r") (trees.Number (pos 0))) ∷ [])) ≡ []
an_index_within_an_index = refl

-- var l : link; begin new l, l; end.
pub both_ends_in_one_variable : first_fault (module_faults (module_of [] [] (var (codes "l") Link ∷ []) [] (trees.New (codes "l") (codes "l") ∷ []))) ≡ Some (record { place = 12; rule = 15 })
both_ends_in_one_variable = refl

-- var l : link; var k : link; begin new l, k; end.
pub each_end_in_its_own : module_faults (module_of [] [] (var (codes "l") Link ∷ var (codes "k") Link ∷ []) [] (trees.New (codes "l") (codes "k") ∷ [])) ≡ []
each_end_in_its_own = refl

-- op add (int, int) : (int); var e : int; entry e of add (a) begin end; begin end.
pub two_rules_at_one_place : first_fault (module_faults (module_of (op (codes "add") (Int ∷ Int ∷ []) (Int ∷ []) ∷ []) [] (var (codes "e") Int ∷ []) (entry (codes "e") (codes "add") (codes "a" ∷ []) [] [] ∷ []) [])) ≡ Some (record { place = 21; rule = 1 })
two_rules_at_one_place = refl

-- op add (int, int) : (int); param l : link; begin connect add on l () : (); end.
pub two_rules_at_an_ops_name : first_fault (module_faults (module_of (op (codes "add") (Int ∷ Int ∷ []) (Int ∷ []) ∷ []) (var (codes "l") Link ∷ []) [] [] (trees.Connect (codes "add") (codes "l") (exprs []) [] ∷ []))) ≡ Some (record { place = 22; rule = 17 })
two_rules_at_an_ops_name = refl

-- var n : int; begin destroy n; end.
pub a_number_is_destroyed : first_fault (module_faults (module_of [] [] (var (codes "n") Int ∷ []) [] (trees.Destroy (codes "n") ∷ []))) ≡ Some (record { place = 10; rule = 16 })
a_number_is_destroyed = refl

-- var n : link; begin destroy n; end.
pub a_link_is_destroyed : module_faults (module_of [] [] (var (codes "n") Link ∷ []) [] (trees.Destroy (codes "n") ∷ [])) ≡ []
a_link_is_destroyed = refl

-- op add (int, int) : (int); param l : link; var n : int; begin connect add on l (1) : (n); end.
pub too_few_values : first_fault (module_faults (module_of (op (codes "add") (Int ∷ Int ∷ []) (Int ∷ []) ∷ []) (var (codes "l") Link ∷ []) (var (codes "n") Int ∷ []) [] (trees.Connect (codes "add") (codes "l") (exprs ((trees.Number (pos 1)) ∷ [])) (codes "n" ∷ []) ∷ [])))
    ≡ Some (record { place = 27; rule = 17 })
too_few_values = refl

-- op add (int, int) : (int); param l : link; var n : int; begin connect add on l (1, true) : (n); end.
pub a_value_of_another_type : first_fault (module_faults (module_of (op (codes "add") (Int ∷ Int ∷ []) (Int ∷ []) ∷ []) (var (codes "l") Link ∷ []) (var (codes "n") Int ∷ []) [] (trees.Connect (codes "add") (codes "l") (exprs ((trees.Number (pos 1)) ∷ trees.True ∷ [])) (codes "n" ∷ []) ∷ [])))
    ≡ Some (record { place = 33; rule = 17 })
a_value_of_another_type = refl

-- op add (int, int) : (int); param l : link; var n : int; begin connect add on l (1, 2) : (n); end.
pub the_values_and_names_of_the_op : module_faults
    (module_of (op (codes "add") (Int ∷ Int ∷ []) (Int ∷ []) ∷ []) (var (codes "l") Link ∷ []) (var (codes "n") Int ∷ []) [] (trees.Connect (codes "add") (codes "l") (exprs ((trees.Number (pos 1)) ∷ (trees.Number (pos 2)) ∷ [])) (codes "n" ∷ []) ∷ [])) ≡ []
the_values_and_names_of_the_op = refl

-- op add (int, int) : (int); param l : link; begin connect add on l (1, 2) : (); end.
pub too_few_result_names : first_fault (module_faults (module_of (op (codes "add") (Int ∷ Int ∷ []) (Int ∷ []) ∷ []) (var (codes "l") Link ∷ []) [] [] (trees.Connect (codes "add") (codes "l") (exprs ((trees.Number (pos 1)) ∷ (trees.Number (pos 2)) ∷ [])) [] ∷ [])))
    ≡ Some (record { place = 22; rule = 18 })
too_few_result_names = refl

-- op add (int, int) : (int); param l : link; begin connect add on l (1, 2) : (l); end.
pub a_result_name_of_another_type : first_fault (module_faults (module_of (op (codes "add") (Int ∷ Int ∷ []) (Int ∷ []) ∷ []) (var (codes "l") Link ∷ []) [] [] (trees.Connect (codes "add") (codes "l") (exprs ((trees.Number (pos 1)) ∷ (trees.Number (pos 2)) ∷ [])) (codes "l" ∷ []) ∷ [])))
    ≡ Some (record { place = 32; rule = 18 })
a_result_name_of_another_type = refl

-- op add (int, int) : (int); param l : link; var n : int; begin accept add on l (n) do end; end.
pub too_few_names_of_accept : first_fault (module_faults (module_of (op (codes "add") (Int ∷ Int ∷ []) (Int ∷ []) ∷ []) (var (codes "l") Link ∷ []) (var (codes "n") Int ∷ []) [] (trees.Accept (codes "add") (codes "l") (codes "n" ∷ []) (stmts []) ∷ []))) ≡ Some (record { place = 27; rule = 19 })
too_few_names_of_accept = refl

-- op add (int, int) : (int); param l : link; var n : int; begin accept add on l (n, l) do end; end.
pub a_name_of_accept_of_another_type : first_fault (module_faults (module_of (op (codes "add") (Int ∷ Int ∷ []) (Int ∷ []) ∷ []) (var (codes "l") Link ∷ []) (var (codes "n") Int ∷ []) [] (trees.Accept (codes "add") (codes "l") (codes "n" ∷ codes "l" ∷ []) (stmts []) ∷ [])))
    ≡ Some (record { place = 33; rule = 19 })
a_name_of_accept_of_another_type = refl

-- op add (int, int) : (int); param l : link; var n : int; begin accept add on l (n, n) do reply (n); end; end.
pub the_names_of_accept : module_faults
    (module_of (op (codes "add") (Int ∷ Int ∷ []) (Int ∷ []) ∷ []) (var (codes "l") Link ∷ []) (var (codes "n") Int ∷ []) [] (trees.Accept (codes "add") (codes "l") (codes "n" ∷ codes "n" ∷ []) (stmts (trees.Reply (exprs ((trees.Name (codes "n")) ∷ [])) ∷ [])) ∷ [])) ≡ []
the_names_of_accept = refl

-- begin reply (); end.
pub a_reply_to_nothing : first_fault (module_faults (module_of [] [] [] [] (trees.Reply (exprs []) ∷ []))) ≡ Some (record { place = 4; rule = 20 })
a_reply_to_nothing = refl

-- op add (int, int) : (int); entry sum of add (a, b) begin reply (); end; begin end.
pub a_reply_without_its_value : first_fault (module_faults (module_of (op (codes "add") (Int ∷ Int ∷ []) (Int ∷ []) ∷ []) [] [] (entry (codes "sum") (codes "add") (codes "a" ∷ codes "b" ∷ []) [] (trees.Reply (exprs []) ∷ []) ∷ []) [])) ≡ Some (record { place = 25; rule = 21 })
a_reply_without_its_value = refl

-- op add (int, int) : (int); entry sum of add (a, b) begin reply (a < b); end; begin end.
pub a_reply_of_another_type : first_fault (module_faults (module_of (op (codes "add") (Int ∷ Int ∷ []) (Int ∷ []) ∷ []) [] []
    (entry (codes "sum") (codes "add") (codes "a" ∷ codes "b" ∷ []) [] (trees.Reply (exprs ((trees.Relation (trees.Name (codes "a")) signs.Less (trees.Name (codes "b"))) ∷ [])) ∷ []) ∷ []) [])) ≡ Some (record { place = 27; rule = 21 })
a_reply_of_another_type = refl

-- op add (int, int) : (int); op o () : (); param l : link; entry sum of add (a, b) begin accept o on l () do reply (a); end; end; begin end.
pub a_reply_belongs_to_the_inner_accept : first_fault (module_faults (module_of (op (codes "add") (Int ∷ Int ∷ []) (Int ∷ []) ∷ op (codes "o") [] [] ∷ []) (var (codes "l") Link ∷ []) []
    (entry (codes "sum") (codes "add") (codes "a" ∷ codes "b" ∷ []) [] (trees.Accept (codes "o") (codes "l") [] (stmts (trees.Reply (exprs ((trees.Name (codes "a")) ∷ [])) ∷ [])) ∷ []) ∷ []) [])) ≡ Some (record { place = 45; rule = 21 })
a_reply_belongs_to_the_inner_accept = refl

-- op add (int, int) : (int); op o () : (); param l : link; entry sum of add (a, b) begin accept o on l () do reply (); end; reply (a); end; begin end.
pub a_reply_behind_the_inner_accept : module_faults (module_of (op (codes "add") (Int ∷ Int ∷ []) (Int ∷ []) ∷ op (codes "o") [] [] ∷ []) (var (codes "l") Link ∷ []) []
    (entry (codes "sum") (codes "add") (codes "a" ∷ codes "b" ∷ []) [] (trees.Accept (codes "o") (codes "l") [] (stmts (trees.Reply (exprs []) ∷ [])) ∷ trees.Reply (exprs ((trees.Name (codes "a")) ∷ [])) ∷ []) ∷ []) []) ≡ []
a_reply_behind_the_inner_accept = refl

-- var r : row 2; begin write r; end.
pub a_row_is_written : first_fault (module_faults (module_of [] [] (var (codes "r") (Row (pos 2)) ∷ []) [] (trees.Write (trees.Name (codes "r")) ∷ []))) ≡ Some (record { place = 11; rule = 22 })
a_row_is_written = refl

-- var r : row 2; begin write r[0]; end.
pub a_member_is_written : module_faults (module_of [] [] (var (codes "r") (Row (pos 2)) ∷ []) [] (trees.Write (trees.Member (codes "r") (trees.Number (pos 0))) ∷ [])) ≡ []
a_member_is_written = refl

-- begin raise ERROR; end.
pub no_exception_is_raised : first_fault (module_faults (module_of [] [] [] [] (trees.Raise (codes "ERROR") ∷ []))) ≡ Some (record { place = 5; rule = 23 })
unfolding exception_of
no_exception_is_raised = refl

-- begin try stop; when FAILED do stop; when range do end; end.
pub no_exception_is_handled : first_fault (module_faults (module_of [] [] [] [] (trees.Try (stmts (trees.Stop ∷ [])) (trees.more_handlers (codes "FAILED") (stmts (trees.Stop ∷ [])) (trees.more_handlers (codes "range") (stmts []) trees.no_handlers)) ∷ []))) ≡ Some (record { place = 13; rule = 23 })
unfolding exception_of
no_exception_is_handled = refl

-- begin try raise DIVIDE; when DIVIDE do stop; when LINKSFULL do end; end.
pub exceptions : module_faults (module_of [] [] [] [] (trees.Try (stmts (trees.Raise (codes "DIVIDE") ∷ [])) (trees.more_handlers (codes "DIVIDE") (stmts (trees.Stop ∷ [])) (trees.more_handlers (codes "LINKSFULL") (stmts []) trees.no_handlers)) ∷ [])) ≡ []
unfolding exception_of
exceptions = refl

-- var n : int; var b : bool; begin b := n + 'a'; end.
pub a_fault_deep_inside_comes_first : first_fault (module_faults (module_of [] [] (var (codes "n") Int ∷ var (codes "b") Bool ∷ []) [] (trees.Assign (codes "b") (trees.Sum (trees.Name (codes "n")) (trees.more_sums signs.Plus (trees.Text (codes "a")) trees.no_sums)) ∷ [])))
    ≡ Some (record { place = 18; rule = 9 })
a_fault_deep_inside_comes_first = refl
