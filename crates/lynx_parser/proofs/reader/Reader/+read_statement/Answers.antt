use Rattle.std.proofs.Common.{◌≡◌, ◌≢◌, ℕ, List, [], map, Ok, Err, sym, ap, ◌∙◌, rules, arith}
use Rattle.lynx_lexer.specs.declared.sign.Sign.TheVariants as signs
use Rattle.lynx_lexer.specs.declared.token.Kind.{Kind}
use Rattle.lynx_descent.specs.declared.refusal.Refusal.{Refusal}
use Rattle.lynx_descent.specs.declared.refusal.Refusal.TheVariants as refusals
use Rattle.lynx_tree.specs.declared.statement.Stmt as statement
use Rattle.lynx_lexer.specs.declared.keyword.Keyword.TheVariants as keywords
use Rattle.lynx_tree.specs.Trees.{StmtTree, stmt_tree}
use Rattle.lynx_descent.specs.Reading.{Parser, sees_keyword, sign, many}
use Rattle.lynx_descent.specs.ReadingStatements.{stmt, stmts, ended, begins_stmt, handler, handler_of}
use Rattle.lynx_descent.proofs.Turns.{turn_more, turn_breaks, some_room}
use Rattle.lynx_parser.proofs.reader.Reader.+read_statement.Goals as goal

pub stmts-loop-turn-preserved : goal.stmts-loop-turn-preserved
stmts-loop-turn-preserved t c =
    turn_more stmt_tree begins_stmt (ended (stmt c.args.room)) _ _ c.loop-turn.all.items _ c.in_ok-stmt.field-0 c.loop-turn.self _ _ (omega arith) c.loop-turn.invariant
    (search rules) (search rules) (search rules)

pub handlers-loop-turn-preserved : goal.handlers-loop-turn-preserved
handlers-loop-turn-preserved t c =
    turn_more handler_of (sees_keyword keywords.When) (handler (stmts c.args.room)) _ _ c.loop-turn.all.items _ c.in_ok-handler.field-0 c.loop-turn.self _ _ (omega arith) c.loop-turn.invariant
    (search rules) (search rules) (search rules)

pub stmt-returns : goal.stmt-returns
unfolding stmt stmts
stmt-returns t c = rw (some_room (λ n. stmt n c.args.self.now) c.args.room (omega arith)) (search rules)

body_fails : (room : ℕ) (items : List statement.Stmt) (ts : List Kind) (e : Refusal) → items ≡ [] → many begins_stmt (ended (stmt room)) (map stmt_tree items) ts ≡ Err e → stmts room ts ≡ Err e
unfolding stmts
body_fails room items ts e none h =
    let plain : many begins_stmt (ended (stmt room)) [] ts ≡ Err e = ap (λ (ss : List statement.Stmt). many begins_stmt (ended (stmt room)) (map stmt_tree ss) ts) (sym none) ∙ h in
    rw plain

ended_fails : (one : Parser StmtTree) (ts : List Kind) (e : Refusal) → one ts ≡ Err e → ended one ts ≡ Err e
ended_fails one ts e h = rw h

not_ended : (one : Parser StmtTree) (ts mid : List Kind) (s : StmtTree) (e : Refusal) → one ts ≡ Ok (s, mid) → sign signs.Semicolon mid ≡ Err e → ended one ts ≡ Err e
not_ended one ts mid s e h g = rw (h, g)

pub stmts-returns-in_err-stmt : goal.stmts-returns-in_err-stmt
stmts-returns-in_err-stmt t c =
    let e : Refusal = c.in_err-stmt.field-0.0 in
    let fails : e ≢ refusals.NoMemory → stmts c.args.room c.args.self.now ≡ Err e =
    λ some. body_fails c.args.room c.new-all.result.items c.args.self.now e c.new-all.ensures.items
    (turn_breaks begins_stmt (ended (stmt c.args.room)) _ _ _ c.loop-turn.self e _ (omega arith) c.loop-turn.invariant (search rules) (ended_fails (stmt c.args.room) c.loop-turn.self e (c.in_err-stmt.ensures some))) in
    search rules

pub stmts-returns-in_err-sign : goal.stmts-returns-in_err-sign
stmts-returns-in_err-sign t c =
    let e : Refusal = c.in_err-sign.field-0.0 in
    let fails : e ≢ refusals.NoMemory → stmts c.args.room c.args.self.now ≡ Err e =
    λ some. body_fails c.args.room c.new-all.result.items c.args.self.now e c.new-all.ensures.items
    (turn_breaks begins_stmt (ended (stmt c.args.room)) _ _ _ c.loop-turn.self e _ (omega arith) c.loop-turn.invariant (search rules)
    (not_ended (stmt c.args.room) c.loop-turn.self _ _ e c.in_ok-stmt.ensures (c.in_err-sign.ensures some))) in
    search rules
