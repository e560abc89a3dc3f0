use Rattle.std.proofs.Common.{◌≡◌, ◌+◌, ◌*◌, ◌-◌, map}
use Rattle.std.specs.Prelude.{is_some}
use Rattle.lynx_lexer.specs.declared.keyword.Keyword.TheVariants as keywords
use Rattle.lynx_tree.specs.Trees.{expr_tree}
use Rattle.lynx_descent.specs.Reading.{◌>>◌, advance, sees_keyword, many, many_from}
use Rattle.lynx_descent.specs.ReadingExpressions.{inside, conj, rel, term, unary, sum_sign, term_sign, behind_sign}
use Rattle.lynx_parser.proofs.reader.Reader.+read_expression.Given as goal

-- each word reads a tighter one, until a bracket opens

abbrev pub decreases-expr : goal.decreases-expr
decreases-expr l = l.room * 16 + 13

abbrev pub decreases-conj : goal.decreases-conj
decreases-conj l = l.room * 16 + 11

abbrev pub decreases-rel : goal.decreases-rel
decreases-rel l = l.room * 16 + 9

abbrev pub decreases-sum : goal.decreases-sum
decreases-sum l = l.room * 16 + 8

abbrev pub decreases-term : goal.decreases-term
decreases-term l = l.room * 16 + 6

abbrev pub decreases-unary : goal.decreases-unary
decreases-unary l = l.room * 16 + 4

abbrev pub decreases-prim : goal.decreases-prim
decreases-prim l = l.room * 16 + 3

abbrev pub decreases-named : goal.decreases-named
decreases-named l = l.room * 16 + 2

abbrev pub decreases-index : goal.decreases-index
decreases-index l = l.room * 16 + 1

abbrev pub decreases-disjuncts : goal.decreases-disjuncts
decreases-disjuncts l = l.room * 16 + 12

abbrev pub decreases-conjuncts : goal.decreases-conjuncts
decreases-conjuncts l = l.room * 16 + 10

abbrev pub decreases-summands : goal.decreases-summands
decreases-summands l = l.room * 16 + 7

abbrev pub decreases-factors : goal.decreases-factors
decreases-factors l = l.room * 16 + 5

abbrev pub decreases-inside : goal.decreases-inside
decreases-inside l = l.room * 16 + 0

-- what is left to read, with what was read, is the whole list

abbrev pub invariant-disjuncts-loop-turn : goal.invariant-disjuncts-loop-turn
invariant-disjuncts-loop-turn l =
    many (sees_keyword keywords.Or) (advance >> conj (inside l.room)) (map expr_tree l.initial.members.items) l.initial.self
    ≡ many_from (sees_keyword keywords.Or) (advance >> conj (inside l.room)) (l._turn-end - l._turn) (map expr_tree l.members.items) l.self

abbrev pub invariant-conjuncts-loop-turn : goal.invariant-conjuncts-loop-turn
invariant-conjuncts-loop-turn l =
    many (sees_keyword keywords.And) (advance >> rel (inside l.room)) (map expr_tree l.initial.members.items) l.initial.self
    ≡ many_from (sees_keyword keywords.And) (advance >> rel (inside l.room)) (l._turn-end - l._turn) (map expr_tree l.members.items) l.self

abbrev pub invariant-summands-loop-turn : goal.invariant-summands-loop-turn
invariant-summands-loop-turn l =
    many (λ ts. is_some (sum_sign ts)) (λ ts. behind_sign (sum_sign ts) (term (inside l.room)) ts) (map (λ m. (m.0, expr_tree m.1)) l.initial.rest.items) l.initial.self
    ≡ many_from (λ ts. is_some (sum_sign ts)) (λ ts. behind_sign (sum_sign ts) (term (inside l.room)) ts) (l._turn-end - l._turn) (map (λ m. (m.0, expr_tree m.1)) l.rest.items) l.self

abbrev pub invariant-factors-loop-turn : goal.invariant-factors-loop-turn
invariant-factors-loop-turn l =
    many (λ ts. is_some (term_sign ts)) (λ ts. behind_sign (term_sign ts) (unary (inside l.room)) ts) (map (λ m. (m.0, expr_tree m.1)) l.initial.rest.items) l.initial.self
    ≡ many_from (λ ts. is_some (term_sign ts)) (λ ts. behind_sign (term_sign ts) (unary (inside l.room)) ts) (l._turn-end - l._turn) (map (λ m. (m.0, expr_tree m.1)) l.rest.items) l.self
