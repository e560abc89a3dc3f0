-- The 24 rules of typing, each with its number: what it demands of a place.
use Rattle.std.specs.Prelude.{ℕ, List, [], ◌∷◌, length, Bool, true, false, not, ◌&&◌, nat_le, ◌==◌, Option, None, Some, is_some}
use Rattle.std.specs.List.{list_any}
use Rattle.std.specs.Str.{bytes_eq}
use Rattle.lynx_tree.specs.declared.declaration.TypeName.{TypeName}
use Rattle.lynx_tree.specs.declared.declaration.TypeName.TheVariants as types
use Rattle.lynx_tree.specs.Trees.{OpTree}
use Rattle.typing_rules.specs.Types.{Held, is_link, has_length, agree, fits, is_row_or_link, may_be_row}
use Rattle.typing_rules.specs.Names.{Meaning, type_of_variable, arguments_of, is_entry}
use Rattle.typing_rules.specs.Signatures.{widest_request, widest_reply, links_among}
use Rattle.typing_rules.specs.Exceptions.{exception_of}

-- a rule that fails, and the number of the token at which it does
pub record Fault : Type 0 where
  pub place : ℕ
  pub rule : ℕ

-- the rule fails at the place unless what it demands holds
abbrev pub demand : ℕ → ℕ → Bool → List Fault
demand rule at true = []
demand rule at false = record { place = at; rule = rule } ∷ []

-- there are as many as there are types, where these are known
abbrev pub is_number_of : ℕ → Option (List TypeName) → Bool
is_number_of n None = true
is_number_of n (Some ts) = n == length ts

-- the rule demands that a value is of this type
abbrev pub wants : ℕ → TypeName → ℕ → Held → List Fault
wants rule t at value = demand rule at (fits t value)

-- ---- declarations

-- 1: a module-level name is declared once; it is none of those before it
abbrev pub module_name_is_new : List (List ℕ) → ℕ → List ℕ → List Fault
module_name_is_new before at name = demand 1 at (not (list_any (bytes_eq name) before))

-- 2: a local name of one entry is declared once
abbrev pub local_name_is_new : List (List ℕ) → ℕ → List ℕ → List Fault
local_name_is_new before at name = demand 2 at (not (list_any (bytes_eq name) before))

-- 3: a param is a link
abbrev pub param_is_link : ℕ → TypeName → List Fault
param_is_link at t = demand 3 at (is_link t)

-- 4: a row has 1 to 16 numbers
abbrev pub row_has_length : ℕ → TypeName → List Fault
row_has_length at t = demand 4 at (has_length t)

-- 5: at most 8 links are among an op's arguments, and at most 8 among its results
abbrev pub op_has_few_links : ℕ → OpTree → List Fault
op_has_few_links at op = demand 5 at (nat_le (links_among op.arguments) 8 && nat_le (links_among op.results) 8)

-- 6: an entry's operation is a declared op
abbrev pub entry_is_of_op : ℕ → Option Meaning → List Fault
entry_is_of_op at meaning = demand 6 at (is_some (arguments_of meaning))

-- 7: an entry has as many parameters as its op has arguments
abbrev pub entry_has_parameters : ℕ → Option Meaning → ℕ → List Fault
entry_has_parameters at op parameters = demand 7 at (is_number_of parameters (arguments_of op))

-- 24: the widest request and the widest reply of an op have at most 256 bytes
abbrev pub op_fits_packets : ℕ → OpTree → List Fault
op_fits_packets at op = demand 24 at (nat_le (widest_request op) 256 && nat_le (widest_reply op) 256)

-- ---- names

-- 8: a name is declared, and of the kind that its place needs
abbrev pub is_variable : ℕ → Option Meaning → List Fault
is_variable at meaning = demand 8 at (is_some (type_of_variable meaning))

abbrev pub is_op : ℕ → Option Meaning → List Fault
is_op at meaning = demand 8 at (is_some (arguments_of meaning))

abbrev pub is_an_entry : ℕ → Option Meaning → List Fault
is_an_entry at meaning = demand 8 at (is_entry meaning)

-- 15: the two names of `new` differ
abbrev pub new_names_differ : ℕ → List ℕ → List ℕ → List Fault
new_names_differ at first second = demand 15 at (not (bytes_eq first second))

-- 16: a variable that stands for a link is one
abbrev pub variable_is_link : ℕ → Held → List Fault
variable_is_link at held = demand 16 at (fits types.Link held)

-- 23: a name after `raise` or `when` is an exception
abbrev pub names_exception : ℕ → List ℕ → List Fault
names_exception at name = demand 23 at (is_some (exception_of name))

-- ---- expressions

-- 9: an operand of `+ - * / mod < <= > >=` is an int, that of a unary `-` too
abbrev pub operand_is_int : ℕ → Held → List Fault
operand_is_int at operand = demand 9 at (fits types.Int operand)

-- 10: the operands of `=` and `<>` are of one type, which is no row and no link
abbrev pub operands_compare : ℕ → Held → Held → List Fault
operands_compare at first second = demand 10 at (agree first second && not (is_row_or_link first) && not (is_row_or_link second))

-- 11: an operand of `and`, `or` and `not` is a bool
abbrev pub operand_is_bool : ℕ → Held → List Fault
operand_is_bool at operand = demand 11 at (fits types.Bool operand)

-- 14: an indexed name is a row, and its index an int
abbrev pub indexed_is_row : ℕ → Held → List Fault
indexed_is_row at indexed = demand 14 at (may_be_row indexed)

abbrev pub index_is_int : ℕ → Held → List Fault
index_is_int at index = demand 14 at (fits types.Int index)

-- ---- statements

-- 12: the condition of `if`, `while` and `await` is a bool
abbrev pub condition_is_bool : ℕ → Held → List Fault
condition_is_bool at condition = demand 12 at (fits types.Bool condition)

-- 13: an assigned value has the type of its target
abbrev pub value_is_of_target : Held → ℕ → Held → List Fault
value_is_of_target target at value = demand 13 at (agree target value)

-- 17: the values of `connect` are as many as the op's arguments, and of their types
abbrev pub connect_has_values : ℕ → ℕ → Option (List TypeName) → List Fault
connect_has_values at values arguments = demand 17 at (is_number_of values arguments)

abbrev pub connect_value_fits : TypeName → ℕ → Held → List Fault
connect_value_fits argument at value = demand 17 at (fits argument value)

-- 18: the result names of `connect` are as many as the op's results, and of their types
abbrev pub connect_has_names : ℕ → ℕ → Option (List TypeName) → List Fault
connect_has_names at names results = demand 18 at (is_number_of names results)

abbrev pub connect_name_fits : TypeName → ℕ → Held → List Fault
connect_name_fits result at name = demand 18 at (fits result name)

-- 19: the names of `accept` are as many as the op's arguments, and of their types
abbrev pub accept_has_names : ℕ → ℕ → Option (List TypeName) → List Fault
accept_has_names at names arguments = demand 19 at (is_number_of names arguments)

abbrev pub accept_name_fits : TypeName → ℕ → Held → List Fault
accept_name_fits argument at name = demand 19 at (fits argument name)

-- the request that a `reply` belongs to: that of the innermost accept around it, else of its entry; the results are
-- None where its op is not known
pub data Request : Type 0 where
  Outside : Request
  Asks : Option (List TypeName) → Request

abbrev pub has_request : Request → Bool
has_request Outside = false
has_request (Asks results) = true

abbrev pub results_needed : Request → Option (List TypeName)
results_needed Outside = None
results_needed (Asks results) = results

-- 20: `reply` stands in an entry or in an accept
abbrev pub reply_has_request : ℕ → Request → List Fault
reply_has_request at request = demand 20 at (has_request request)

-- 21: the values of `reply` are as many as the results of its op, and of their types
abbrev pub reply_has_values : ℕ → ℕ → Request → List Fault
reply_has_values at values request = demand 21 at (is_number_of values (results_needed request))

abbrev pub reply_value_fits : TypeName → ℕ → Held → List Fault
reply_value_fits result at value = demand 21 at (fits result value)

-- 22: what is written is no row and no link
abbrev pub value_is_written : ℕ → Held → List Fault
value_is_written at value = demand 22 at (not (is_row_or_link value))
