use Rattle.std.proofs.Common.{◌≡◌, ◌+◌, ◌*◌, ◌-◌, map}
use Rattle.lynx_lexer.specs.declared.keyword.Keyword.TheVariants as keywords
use Rattle.lynx_tree.specs.Trees.{stmt_tree}
use Rattle.lynx_descent.specs.Reading.{sees_keyword, many, many_from}
use Rattle.lynx_descent.specs.ReadingStatements.{stmt, stmts, ended, begins_stmt, handler, handler_of}
use Rattle.lynx_parser.proofs.reader.Reader.+read_statement.Given as goal

-- a statement opens one more, and what stands in it is read with less room

abbrev pub decreases-within : goal.decreases-within
decreases-within l = l.room * 16 + 10

abbrev pub decreases-attempt : goal.decreases-attempt
decreases-attempt l = l.room * 16 + 9

abbrev pub decreases-handlers : goal.decreases-handlers
decreases-handlers l = l.room * 16 + 8

abbrev pub decreases-handler : goal.decreases-handler
decreases-handler l = l.room * 16 + 7

abbrev pub decreases-choice : goal.decreases-choice
decreases-choice l = l.room * 16 + 6

abbrev pub decreases-otherwise : goal.decreases-otherwise
decreases-otherwise l = l.room * 16 + 5

abbrev pub decreases-repetition : goal.decreases-repetition
decreases-repetition l = l.room * 16 + 4

abbrev pub decreases-accept : goal.decreases-accept
decreases-accept l = l.room * 16 + 3

abbrev pub decreases-stmts : goal.decreases-stmts
decreases-stmts l = l.room * 16 + 1

abbrev pub decreases-stmt : goal.decreases-stmt
decreases-stmt l = l.room * 16 + 0

-- what is left to read, with what was read, is the whole list

abbrev pub invariant-stmts-loop-turn : goal.invariant-stmts-loop-turn
invariant-stmts-loop-turn l =
    many begins_stmt (ended (stmt l.room)) (map stmt_tree l.initial.all.items) l.initial.self
    ≡ many_from begins_stmt (ended (stmt l.room)) (l._turn-end - l._turn) (map stmt_tree l.all.items) l.self

abbrev pub invariant-handlers-loop-turn : goal.invariant-handlers-loop-turn
invariant-handlers-loop-turn l =
    many (sees_keyword keywords.When) (handler (stmts l.room)) (map handler_of l.initial.all.items) l.initial.self
    ≡ many_from (sees_keyword keywords.When) (handler (stmts l.room)) (l._turn-end - l._turn) (map handler_of l.all.items) l.self
