-- Reading statements asks nothing of the tokens behind where it ends.
use Rattle.std.proofs.Common.{ℕ, zero, suc, List, [], Some, None}
use Rattle.lynx_lexer.specs.declared.keyword.Keyword.{Keyword}
use Rattle.lynx_lexer.specs.declared.keyword.Keyword.TheVariants as keywords
use Rattle.lynx_lexer.specs.declared.sign.Sign.TheVariants as signs
use Rattle.lynx_descent.specs.declared.ahead.Ahead.{Ahead}
use Rattle.lynx_descent.specs.declared.ahead.Ahead.TheVariants as next
use Rattle.lynx_tree.specs.Trees as trees
use Rattle.lynx_tree.specs.Trees.{ExprTree, StmtTree, StmtTrees}
use Rattle.lynx_descent.specs.Reading.{Parser, ◌>>=◌, ◌>>◌, pure, refuse, advance, sign, kind_ahead, sees_keyword}
use Rattle.lynx_descent.specs.ReadingExpressions.{exprs_of, inside, expr, index}
use Rattle.lynx_descent.specs.ReadingStatements.{stmts_of, handlers_of, assign_of, choice_of, assign, pair, new, connect, reply, otherwise, choice, repetition, accept, handler, handlers, attempt, stmt_by, within, begins, begins_stmt, stmts_by, stmt, stmts}
use Rattle.lynx_grammar.proofs.Locality.{Local, Looks, Eats, bind, done, local_if, looks_ahead, local_asks, local_peek, local_refuse, local_too_deep, local_advance, eats_then, eats_advance, local_many}
use Rattle.lynx_grammar.proofs.LocalityTokens.{looks_keyword, local_keyword, local_sign, local_name, eats_name}
use Rattle.lynx_grammar.proofs.LocalityExpressions.{local_index, local_inside, local_value}
use Rattle.lynx_grammar.proofs.LocalityLists.{local_names, local_values}

-- a word that takes a token where it gives a value
pub record Word {A : Type 0} (p : Parser A) : Type 0 where
  pub is_local : Local p
  pub eats : Eats p

-- a token, and then a word
pub headed : {A : Type 0} {p : Parser A} → Local p → Word (advance >> p)
headed h = record { is_local = bind local_advance (λ _. h); eats = eats_then eats_advance (λ _. h) }

refused : {A : Type 0} → Word {A = A} refuse
refused = record { is_local = local_refuse; eats = record { short = λ k ts. tt } }

-- ---- statements with no statements in them

word_assign : (room : ℕ) → Word (assign room)
unfolding assign
word_assign room =
    let rest : (n : List ℕ) → Local (index (inside room) >>= (λ i. sign signs.Becomes >>= (λ _. expr (inside room) >>= (λ value. pure (assign_of n i value))))) = λ n.
    bind (local_index (inside room) (local_inside room)) (λ i. bind (local_sign signs.Becomes) (λ _. bind (local_value room) (λ value. done (assign_of n i value)))) in
    record { is_local = bind local_name rest; eats = eats_then eats_name rest }

local_pair : (between : Keyword) → Local (pair between)
unfolding pair
local_pair between = bind local_name (λ first. bind (local_keyword between) (λ _. bind local_name (λ second. done (first, second))))

local_new : Local new
unfolding new
local_new = bind local_name (λ first. bind (local_sign signs.Comma) (λ _. bind local_name (λ second. done (trees.New first second))))

local_connect : (room : ℕ) → Local (connect room)
unfolding connect
local_connect room = bind (local_pair keywords.On) (λ heads. bind (local_values room) (λ given. bind (local_sign signs.Colon) (λ _. bind (local_names room) (λ results. done (trees.Connect heads.0 heads.1 (exprs_of given) results)))))

local_reply : (room : ℕ) → Local (reply room)
unfolding reply
local_reply room = bind (local_values room) (λ given. done (trees.Reply (exprs_of given)))

-- ---- statements with statements in them

local_otherwise : (body : Parser StmtTrees) → Local body → Local (otherwise body)
unfolding otherwise
local_otherwise body h = bind (local_asks (sees_keyword keywords.Else) (looks_keyword keywords.Else)) (λ b. local_if b (bind local_advance (λ _. bind h (λ inner. done (Some inner)))) (done None))

local_choice_of : (room : ℕ) (body : Parser StmtTrees) → Local body → Local (choice room body)
unfolding choice
local_choice_of room body h =
    bind (local_value room) (λ condition. bind (local_keyword keywords.Then) (λ _. bind h (λ first. bind (local_otherwise body h) (λ other. bind (local_keyword keywords.End) (λ _. done (choice_of condition first other))))))

local_repetition : (room : ℕ) (body : Parser StmtTrees) → Local body → Local (repetition room body)
unfolding repetition
local_repetition room body h = bind (local_value room) (λ condition. bind (local_keyword keywords.Do) (λ _. bind h (λ inner. bind (local_keyword keywords.End) (λ _. done (trees.While condition inner)))))

local_accept : (room : ℕ) (body : Parser StmtTrees) → Local body → Local (accept room body)
unfolding accept
local_accept room body h =
    bind (local_pair keywords.On) (λ heads. bind (local_names room) (λ arguments. bind (local_keyword keywords.Do) (λ _. bind h (λ inner. bind (local_keyword keywords.End) (λ _. done (trees.Accept heads.0 heads.1 arguments inner))))))

word_handler : (body : Parser StmtTrees) → Local body → Word (handler body)
unfolding handler
word_handler body h = headed (bind local_name (λ n. bind (local_keyword keywords.Do) (λ _. bind h (λ inner. done (n, inner)))))

local_handlers : (body : Parser StmtTrees) → Local body → Local (handlers body)
local_handlers body h = local_many [] (looks_keyword keywords.When) (word_handler body h).is_local (word_handler body h).eats

local_attempt : (body : Parser StmtTrees) → Local body → Local (attempt body)
unfolding attempt
local_attempt body h = bind h (λ inner. bind (local_handlers body h) (λ others. bind (local_keyword keywords.End) (λ _. done (trees.Try inner (handlers_of others)))))

-- ---- any statement

word_stmt_by : (room : ℕ) (body : Parser StmtTrees) → Local body → (a : Ahead) → Word (stmt_by room body a)
word_stmt_by room body h next.Name = word_assign room
word_stmt_by room body h (next.Keyword keywords.If) = headed (local_choice_of room body h)
word_stmt_by room body h (next.Keyword keywords.While) = headed (local_repetition room body h)
word_stmt_by room body h (next.Keyword keywords.Write) = headed (bind (local_value room) (λ e. done (trees.Write e)))
word_stmt_by room body h (next.Keyword keywords.Await) = headed (bind (local_value room) (λ e. done (trees.Await e)))
word_stmt_by room body h (next.Keyword keywords.Stop) = headed (done trees.Stop)
word_stmt_by room body h (next.Keyword keywords.Raise) = headed (bind local_name (λ n. done (trees.Raise n)))
word_stmt_by room body h (next.Keyword keywords.New) = headed local_new
word_stmt_by room body h (next.Keyword keywords.Destroy) = headed (bind local_name (λ n. done (trees.Destroy n)))
word_stmt_by room body h (next.Keyword keywords.Bind) = headed (bind (local_pair keywords.To) (λ p. done (trees.Bind p.0 p.1)))
word_stmt_by room body h (next.Keyword keywords.Unbind) = headed (bind (local_pair keywords.From) (λ p. done (trees.Unbind p.0 p.1)))
word_stmt_by room body h (next.Keyword keywords.Connect) = headed (local_connect room)
word_stmt_by room body h (next.Keyword keywords.Accept) = headed (local_accept room body h)
word_stmt_by room body h (next.Keyword keywords.Reply) = headed (local_reply room)
word_stmt_by room body h (next.Keyword keywords.Try) = headed (local_attempt body h)
word_stmt_by room body h _ = refused

word_within : (room : ℕ) (body : Parser StmtTrees) → Local body → Word (within room body)
unfolding within
word_within room body h = record {
  is_local = bind local_peek (λ a. (word_stmt_by room body h a).is_local);
  eats = record { short = λ k ts. (word_stmt_by room body h (kind_ahead k)).eats.short k ts };
}

looks_begins : Looks begins_stmt
unfolding begins_stmt
looks_begins = looks_ahead begins

-- ---- lists of statements

local_stmts_by : (one : Parser StmtTree) → Word one → Local (stmts_by one)
local_stmts_by one h =
    let rest : (s : StmtTree) → Local (sign signs.Semicolon >>= (λ _. pure s)) = λ s. bind (local_sign signs.Semicolon) (λ _. done s) in
    bind (local_many [] looks_begins (bind h.is_local rest) (eats_then h.eats rest)) (λ all. done (stmts_of all))

word_stmt : (room : ℕ) → Word (stmt room)
unfolding stmt
word_stmt zero = record { is_local = local_too_deep; eats = record { short = λ k ts. tt } }
word_stmt (suc room) = word_within room (stmts_by (stmt room)) (local_stmts_by (stmt room) (word_stmt room))

pub local_stmts : (room : ℕ) → Local (stmts room)
unfolding stmts
local_stmts room = local_stmts_by (stmt room) (word_stmt room)
