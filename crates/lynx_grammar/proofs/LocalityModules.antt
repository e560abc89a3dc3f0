-- Reading modules asks nothing of the tokens behind where it ends.
use Rattle.std.proofs.Common.{ℕ, List, [], ◌∷◌, ◌++◌, length, Err, ap, arith, length-append}
use Rattle.lynx_lexer.specs.declared.keyword.Keyword.{Keyword}
use Rattle.lynx_lexer.specs.declared.keyword.Keyword.TheVariants as keywords
use Rattle.lynx_lexer.specs.declared.sign.Sign.TheVariants as signs
use Rattle.lynx_lexer.specs.declared.token.Kind.{Kind}
use Rattle.lynx_descent.specs.declared.refusal.Refusal.TheVariants as refusals
use Rattle.lynx_tree.specs.Trees.{ModuleTree}
use Rattle.lynx_descent.specs.ReadingModules.{op, ops, var, vars, body, entry, entries, one_module, at_end, whole}
use Rattle.lynx_grammar.proofs.Locality.{Leaves, Agree, near, Local, bind, done, local_many}
use Rattle.lynx_grammar.proofs.LocalityTokens.{looks_keyword, local_keyword, local_sign, local_name}
use Rattle.lynx_grammar.proofs.LocalityLists.{local_names, local_type_name, local_type_names}
use Rattle.lynx_grammar.proofs.LocalityStatements.{Word, headed, local_stmts}

word_op : (room : ℕ) → Word (op room)
unfolding op
word_op room =
    headed (bind local_name (λ n. bind (local_type_names room) (λ given. bind (local_sign signs.Colon) (λ _. bind (local_type_names room) (λ answered. bind (local_sign signs.Semicolon) (λ _. done (record { name = n; arguments = given; results = answered })))))))

local_ops : (room : ℕ) → Local (ops room)
local_ops room = local_many [] (looks_keyword keywords.Op) (word_op room).is_local (word_op room).eats

word_var : Word var
unfolding var
word_var = headed (bind local_name (λ n. bind (local_sign signs.Colon) (λ _. bind local_type_name (λ t. bind (local_sign signs.Semicolon) (λ _. done (record { name = n; kind = t }))))))

local_vars : (w : Keyword) → Local (vars w)
local_vars w = local_many [] (looks_keyword w) word_var.is_local word_var.eats

local_body : (room : ℕ) → Local (body room)
unfolding body
local_body room = bind (local_keyword keywords.Begin) (λ _. bind (local_stmts room) (λ inner. bind (local_keyword keywords.End) (λ _. done inner)))

word_entry : (room : ℕ) → Word (entry room)
unfolding entry
word_entry room =
    headed (bind local_name (λ n. bind (local_keyword keywords.Of) (λ _. bind local_name (λ o. bind (local_names room) (λ given. bind (local_vars keywords.Var) (λ locals. bind (local_body room) (λ inner.
    bind (local_sign signs.Semicolon) (λ _. done (record { name = n; op = o; parameters = given; vars = locals; body = inner })))))))))

local_entries : (room : ℕ) → Local (entries room)
local_entries room = local_many [] (looks_keyword keywords.Entry) (word_entry room).is_local (word_entry room).eats

pub local_module : (room : ℕ) → Local (one_module room)
unfolding one_module
local_module room =
    bind (local_keyword keywords.Module) (λ _. bind local_name (λ n. bind (local_sign signs.Semicolon) (λ _. bind (local_ops room) (λ declared. bind (local_vars keywords.Param) (λ given. bind (local_vars keywords.Var) (λ globals.
    bind (local_entries room) (λ served. bind (local_body room) (λ inner. bind (local_sign signs.Dot) (λ _. done (record { name = n; ops = declared; params = given; vars = globals; entries = served; body = inner }))))))))))

local_end : (m : ModuleTree) → Local (at_end m)
local_end m = record { leaves = less; agrees = both }
  where
    less : (ts : List Kind) → Leaves (length ts) (at_end m ts)
    less [] = omega arith
    less (k ∷ ts) = omega arith

    both : (c : Kind) (x y z : List Kind) → Agree c y z (at_end m (x ++ c ∷ y)) (at_end m (x ++ c ∷ z))
    both c [] y z = near (Err (refusals.At 0)) (ap (λ n. Err (refusals.At n)) (length-append [] (c ∷ y))) (ap (λ n. Err (refusals.At n)) (length-append [] (c ∷ z)))
    both c (k ∷ x) y z = near (Err (refusals.At (length (k ∷ x)))) (ap (λ n. Err (refusals.At n)) (length-append (k ∷ x) (c ∷ y))) (ap (λ n. Err (refusals.At n)) (length-append (k ∷ x) (c ∷ z)))

pub local_whole : (room : ℕ) → Local (whole room)
unfolding whole
local_whole room = bind (local_module room) local_end
