-- Reading lists in brackets asks nothing of the tokens behind them.
use Rattle.std.proofs.Common.{ℕ, List, [], ◌∷◌}
use Rattle.lynx_lexer.specs.declared.keyword.Keyword.TheVariants as keywords
use Rattle.lynx_lexer.specs.declared.sign.Sign.TheVariants as signs
use Rattle.lynx_tree.specs.declared.declaration.TypeName.TheVariants as types
use Rattle.lynx_descent.specs.declared.ahead.Ahead.{Ahead}
use Rattle.lynx_descent.specs.declared.ahead.Ahead.TheVariants as next
use Rattle.lynx_descent.specs.Reading.{Parser, sees_sign, name}
use Rattle.lynx_descent.specs.ReadingExpressions.{inside, expr}
use Rattle.lynx_descent.specs.ReadingLists.{commas, listed, names, values, type_by, type_name, type_names}
use Rattle.lynx_grammar.proofs.Locality.{Local, bind, done, local_if, local_asks, local_peek, local_refuse, local_advance, eats_then, eats_advance, local_many}
use Rattle.lynx_grammar.proofs.LocalityTokens.{looks_sign, local_sign, local_name, local_number, local_bracket}
use Rattle.lynx_grammar.proofs.LocalityExpressions.{local_value}

local_commas : {A : Type 0} (item : Parser A) (found : List A) → Local item → Local (commas item found)
local_commas item found h = local_many found (looks_sign signs.Comma) (bind local_advance (λ _. h)) (eats_then eats_advance (λ _. h))

local_listed : {A : Type 0} (item : Parser A) → Local item → Local (listed item)
local_listed item h = bind (local_asks (sees_sign signs.Close) (looks_sign signs.Close)) (λ b. local_if b (done []) (bind h (λ first. local_commas item (first ∷ []) h)))

pub local_names : (room : ℕ) → Local (names room)
unfolding names
local_names room = bind (local_bracket room) (λ within. bind (local_listed name local_name) (λ all. bind (local_sign signs.Close) (λ _. done all)))

pub local_values : (room : ℕ) → Local (values room)
unfolding values
local_values room = bind (local_bracket room) (λ within. bind (local_listed (expr (inside within)) (local_value within)) (λ all. bind (local_sign signs.Close) (λ _. done all)))

local_type_by : (a : Ahead) → Local (type_by a)
local_type_by (next.Keyword keywords.Int) = bind local_advance (λ _. done types.Int)
local_type_by (next.Keyword keywords.Bool) = bind local_advance (λ _. done types.Bool)
local_type_by (next.Keyword keywords.Text) = bind local_advance (λ _. done types.Text)
local_type_by (next.Keyword keywords.Link) = bind local_advance (λ _. done types.Link)
local_type_by (next.Keyword keywords.Row) = bind local_advance (λ _. bind local_number (λ n. done (types.Row n)))
local_type_by _ = local_refuse

pub local_type_name : Local type_name
unfolding type_name
local_type_name = bind local_peek local_type_by

pub local_type_names : (room : ℕ) → Local (type_names room)
unfolding type_names
local_type_names room = bind (local_bracket room) (λ within. bind (local_listed type_name local_type_name) (λ all. bind (local_sign signs.Close) (λ _. done all)))
