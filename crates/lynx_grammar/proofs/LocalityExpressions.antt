-- Reading expressions asks nothing of the tokens behind where it ends.
use Rattle.std.proofs.Common.{ℕ, zero, suc, List, [], ◌∷◌, length, Option, Some, None, ap}
use Rattle.std.specs.Prelude.{is_some}
use Rattle.lynx_lexer.specs.declared.keyword.Keyword.{Keyword}
use Rattle.lynx_lexer.specs.declared.keyword.Keyword.TheVariants as keywords
use Rattle.lynx_lexer.specs.declared.sign.Sign.{Sign}
use Rattle.lynx_lexer.specs.declared.sign.Sign.TheVariants as signs
use Rattle.lynx_lexer.specs.declared.token.Kind.{Kind}
use Rattle.lynx_descent.specs.declared.ahead.Ahead.{Ahead}
use Rattle.lynx_descent.specs.declared.ahead.Ahead.TheVariants as next
use Rattle.lynx_tree.specs.Trees as trees
use Rattle.lynx_tree.specs.Trees.{ExprTree}
use Rattle.lynx_descent.specs.Reading.{Parser, ◌>>◌, advance, sees_keyword, sees_sign, many}
use Rattle.lynx_descent.specs.ReadingExpressions.{exprs_of, named_of, sum_of, term_of, sign_of_relation, sign_of_sum, sign_of_term, relation_sign, sum_sign, term_sign, behind_sign, index, named, prim_by, prim, unary_by, unary, term, sum, rel_by, rel, conj, expr, inside}
use Rattle.lynx_grammar.proofs.Locality.{Local, Looks, Short, Eats, bind, done, local_if, looks_ahead, local_asks, local_peek, local_refuse, local_too_deep, local_advance, eats_then, eats_advance, local_many}
use Rattle.lynx_grammar.proofs.LocalityTokens.{looks_keyword, looks_sign, local_sign, local_name, local_number, local_text}

pub local_index : (inner : Parser ExprTree) → Local inner → Local (index inner)
unfolding index
local_index inner h = bind (local_asks (sees_sign signs.OpenRow) (looks_sign signs.OpenRow)) (λ b. local_if b (bind h (λ e. bind (local_sign signs.CloseRow) (λ _. done (Some e)))) (done None))

local_named : (inner : Parser ExprTree) → Local inner → Local (named inner)
unfolding named
local_named inner h = bind local_name (λ n. bind (local_index inner h) (λ i. done (named_of n i)))

local_prim_by : (inner : Parser ExprTree) → Local inner → (a : Ahead) → Local (prim_by inner a)
local_prim_by inner h (next.Keyword keywords.True) = bind local_advance (λ _. done trees.True)
local_prim_by inner h (next.Keyword keywords.False) = bind local_advance (λ _. done trees.False)
local_prim_by inner h (next.Sign signs.Open) = bind h (λ e. bind (local_sign signs.Close) (λ _. done (trees.Bracket e)))
local_prim_by inner h next.Name = local_named inner h
local_prim_by inner h next.Number = bind local_number (λ n. done (trees.Number n))
local_prim_by inner h next.Text = bind local_text (λ n. done (trees.Text n))
local_prim_by inner h _ = local_refuse

local_prim : (inner : Parser ExprTree) → Local inner → Local (prim inner)
unfolding prim
local_prim inner h = bind local_peek (local_prim_by inner h)

local_unary_by : (inner : Parser ExprTree) → Local inner → (a : Ahead) → Local (unary_by inner a)
local_unary_by inner h (next.Sign signs.Minus) = bind local_advance (λ _. bind (local_prim inner h) (λ e. done (trees.Minus e)))
local_unary_by inner h (next.Keyword keywords.Not) = bind local_advance (λ _. bind (local_prim inner h) (λ e. done (trees.Not e)))
local_unary_by inner h _ = local_prim inner h

local_unary : (inner : Parser ExprTree) → Local inner → Local (unary inner)
unfolding unary
local_unary inner h = bind local_peek (local_unary_by inner h)

-- ---- operators and what they join

looks_relation_sign : Looks relation_sign
unfolding relation_sign
looks_relation_sign = looks_ahead sign_of_relation

looks_sum_sign : Looks sum_sign
unfolding sum_sign
looks_sum_sign = looks_ahead sign_of_sum

looks_term_sign : Looks term_sign
unfolding term_sign
looks_term_sign = looks_ahead sign_of_term

looks_some : {S : Type 0} (g : List Kind → Option S) → Looks g → Looks (λ ts. is_some (g ts))
looks_some g h = record { same = λ c x y z. ap is_some (h.same c x y z) }

local_behind : {S A : Type 0} (p : Parser A) → Local p → (s : Option S) → Local (behind_sign s p)
local_behind p h None = local_refuse
local_behind p h (Some s) = bind local_advance (λ _. bind h (λ a. done (s, a)))

eats_behind : {S A : Type 0} (g : List Kind → Option S) (p : Parser A) → Local p → Eats (λ ts. behind_sign (g ts) p ts)
eats_behind {S = S} g p h = record { short = λ k ts. at k ts (g (k ∷ ts)) }
  where
    at : (k : Kind) (ts : List Kind) (s : Option S) → Short (length ts) (behind_sign s p (k ∷ ts))
    at k ts None = tt
    at k ts (Some s) = (eats_then eats_advance (λ _. bind h (λ a. done (s, a)))).short k ts

-- operators that join, each with what stands behind it
local_joined : {S A : Type 0} (g : List Kind → Option S) (p : Parser A) → Looks g → Local p → Local (many (λ ts. is_some (g ts)) (λ ts. behind_sign (g ts) p ts) [])
local_joined g p looks h = local_many [] (looks_some g looks) (bind (local_asks g looks) (local_behind p h)) (eats_behind g p h)

local_term : (inner : Parser ExprTree) → Local inner → Local (term inner)
unfolding term
local_term inner h = bind (local_unary inner h) (λ first. bind (local_joined term_sign (unary inner) looks_term_sign (local_unary inner h)) (λ rest. done (term_of first rest)))

local_sum : (inner : Parser ExprTree) → Local inner → Local (sum inner)
unfolding sum
local_sum inner h = bind (local_term inner h) (λ first. bind (local_joined sum_sign (term inner) looks_sum_sign (local_term inner h)) (λ rest. done (sum_of first rest)))

local_rel_by : (inner : Parser ExprTree) → Local inner → (first : ExprTree) (s : Option Sign) → Local (rel_by inner first s)
local_rel_by inner h first None = done first
local_rel_by inner h first (Some s) = bind local_advance (λ _. bind (local_sum inner h) (λ e. done (trees.Relation first s e)))

local_rel : (inner : Parser ExprTree) → Local inner → Local (rel inner)
unfolding rel
local_rel inner h = bind (local_sum inner h) (λ first. bind (local_asks relation_sign looks_relation_sign) (local_rel_by inner h first))

-- what follows each further keyword
local_chain : (w : Keyword) (p : Parser ExprTree) (found : List ExprTree) → Local p → Local (many (sees_keyword w) (advance >> p) found)
local_chain w p found h = local_many found (looks_keyword w) (bind local_advance (λ _. h)) (eats_then eats_advance (λ _. h))

local_conj : (inner : Parser ExprTree) → Local inner → Local (conj inner)
unfolding conj
local_conj inner h =
    let one : Local (rel inner) = local_rel inner h in
    bind one (λ first. bind (local_asks (sees_keyword keywords.And) (looks_keyword keywords.And)) (λ b.
    local_if b (bind local_advance (λ _. bind one (λ second. bind (local_chain keywords.And (rel inner) (first ∷ second ∷ []) one) (λ all. done (trees.And (exprs_of all)))))) (done first)))

pub local_expr : (inner : Parser ExprTree) → Local inner → Local (expr inner)
unfolding expr
local_expr inner h =
    let one : Local (conj inner) = local_conj inner h in
    bind one (λ first. bind (local_asks (sees_keyword keywords.Or) (looks_keyword keywords.Or)) (λ b.
    local_if b (bind local_advance (λ _. bind one (λ second. bind (local_chain keywords.Or (conj inner) (first ∷ second ∷ []) one) (λ all. done (trees.Or (exprs_of all)))))) (done first)))

pub local_inside : (room : ℕ) → Local (inside room)
unfolding inside
local_inside zero = local_too_deep
local_inside (suc room) = bind local_advance (λ _. local_expr (inside room) (local_inside room))

pub local_value : (room : ℕ) → Local (expr (inside room))
local_value room = local_expr (inside room) (local_inside room)
