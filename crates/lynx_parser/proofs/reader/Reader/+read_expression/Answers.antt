use Rattle.std.proofs.Common.{rules, arith}
use Rattle.std.specs.Prelude.{is_some}
use Rattle.lynx_lexer.specs.declared.keyword.Keyword.TheVariants as keywords
use Rattle.lynx_tree.specs.Trees.{expr_tree}
use Rattle.lynx_descent.specs.Reading.{◌>>◌, advance, sees_keyword}
use Rattle.lynx_descent.specs.ReadingExpressions.{inside, conj, rel, term, unary, sum_sign, term_sign, behind_sign}
use Rattle.lynx_descent.proofs.Turns.{turn_more, some_room}
use Rattle.lynx_parser.proofs.reader.Reader.+read_expression.Goals as goal

pub disjuncts-loop-turn-preserved : goal.disjuncts-loop-turn-preserved
disjuncts-loop-turn-preserved t c =
    turn_more expr_tree (sees_keyword keywords.Or) (advance >> conj (inside c.args.room)) _ _ c.loop-turn.members.items _ c.in_ok-conj.field-0 c.loop-turn.self _ _ (omega arith) c.loop-turn.invariant
    (search rules) (search rules) (search rules)

pub conjuncts-loop-turn-preserved : goal.conjuncts-loop-turn-preserved
conjuncts-loop-turn-preserved t c =
    turn_more expr_tree (sees_keyword keywords.And) (advance >> rel (inside c.args.room)) _ _ c.loop-turn.members.items _ c.in_ok-rel.field-0 c.loop-turn.self _ _ (omega arith) c.loop-turn.invariant
    (search rules) (search rules) (search rules)

pub summands-loop-turn-preserved : goal.summands-loop-turn-preserved
summands-loop-turn-preserved t c =
    turn_more (λ m. (m.0, expr_tree m.1)) (λ ts. is_some (sum_sign ts)) (λ ts. behind_sign (sum_sign ts) (term (inside c.args.room)) ts) _ _ c.loop-turn.rest.items _ (c.in-Some.sign, c.in_ok-term.field-0) c.loop-turn.self _ _ (omega arith) c.loop-turn.invariant
    (search rules) (search rules) (search rules)

pub factors-loop-turn-preserved : goal.factors-loop-turn-preserved
factors-loop-turn-preserved t c =
    turn_more (λ m. (m.0, expr_tree m.1)) (λ ts. is_some (term_sign ts)) (λ ts. behind_sign (term_sign ts) (unary (inside c.args.room)) ts) _ _ c.loop-turn.rest.items _ (c.in-Some.sign, c.in_ok-unary.field-0) c.loop-turn.self _ _ (omega arith) c.loop-turn.invariant
    (search rules) (search rules) (search rules)

pub inside-returns : goal.inside-returns
unfolding inside
inside-returns t c = rw (some_room (λ n. inside n c.args.self.now) c.args.room (omega arith)) (search rules)
