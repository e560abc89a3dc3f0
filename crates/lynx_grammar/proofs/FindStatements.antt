-- What reading the tokens of a statement gives.
use Rattle.std.proofs.Common.{◌≡◌, ℕ, zero, suc, ◌+◌, ◌≤◌, Bool, true, false, List, [], ◌∷◌, ◌++◌, length, Option, Some, None, Ok, Err, refl, sym, ap, subst, ◌∙◌, append_assoc, arith}
use Rattle.std.specs.Prelude.{if◌then◌else◌}
use Rattle.std.specs.List.{flat_map, AllByRecursion}
use Rattle.lynx_lexer.specs.declared.keyword.Keyword.{Keyword}
use Rattle.lynx_lexer.specs.declared.keyword.Keyword.TheVariants as keywords
use Rattle.lynx_lexer.specs.declared.sign.Sign.TheVariants as signs
use Rattle.lynx_lexer.specs.declared.token.Kind.{Kind}
use Rattle.lynx_lexer.specs.declared.token.Kind.TheVariants as kinds
use Rattle.lynx_descent.specs.declared.refusal.Refusal.TheVariants as refusals
use Rattle.lynx_tree.specs.Trees as trees
use Rattle.lynx_tree.specs.Trees.{ExprTree, ExprTrees, StmtTree, StmtTrees, HandlerTrees}
use Rattle.lynx_tree.specs.Grammar as grammar
use Rattle.lynx_tree.specs.Grammar.{Mark, word, mark, names_marks, exprs_marks, expr_marks, stmt_marks, stmts_marks, handlers_marks, index_marks, IsExpr, IsStmt, AreStmts, AreHandlers, AreExprs}
use Rattle.lynx_descent.specs.Reading.{Parser, Parsed, then_parse, ◌>>=◌, pure, advance, same_keyword, same_sign, sees_keyword, sign, keyword, name}
use Rattle.lynx_descent.specs.ReadingExpressions.{exprs_of, inside, expr, index}
use Rattle.lynx_descent.specs.ReadingLists.{names, values}
use Rattle.lynx_descent.specs.ReadingStatements.{stmts_of, handlers_of, assign_of, choice_of, assign, pair, new, connect, reply, otherwise, choice, repetition, accept, handler, handlers, attempt, within, begins_stmt, ended, stmts_by, stmt, stmts}
use Rattle.lynx_descent.proofs.Told.{kinds_in, kinds_append}
use Rattle.lynx_descent.proofs.ToldExpressions.{IsIndex, index_in}
use Rattle.lynx_descent.proofs.ToldLists.{Anything, AreValues, values_marks}
use Rattle.lynx_descent.proofs.ToldStatements.{pair_marks, IsOther, other_in, IsHandler, handler_marks, ended_marks}
use Rattle.lynx_grammar.proofs.Guard.{guard, guard_then, guard_append, Finds, find_next, find_token, find_deep, find_keyword, find_sign, find_name, same_keyword_refl}
use Rattle.lynx_grammar.proofs.FindExpressions.{NoRow, NoOr, then_ends, do_ends, semicolon_ends, Begins, item_quiet, find_many, find_last, find_index, find_inside, find_value, exprs_in, exprs_again}
use Rattle.lynx_grammar.proofs.FindLists.{Free, find_names, find_values}

-- no statement begins
abbrev pub Calm : List Kind → Type 0
Calm ts = begins_stmt ts ≡ false

pub end_calm : (ts : List Kind) → Calm (kinds.Keyword keywords.End ∷ ts)
unfolding begins_stmt
end_calm ts = refl

else_calm : (ts : List Kind) → Calm (kinds.Keyword keywords.Else ∷ ts)
unfolding begins_stmt
else_calm ts = refl

when_calm : (ts : List Kind) → Calm (kinds.Keyword keywords.When ∷ ts)
unfolding begins_stmt
when_calm ts = refl

end_no_else : (ts : List Kind) → sees_keyword keywords.Else (kinds.Keyword keywords.End ∷ ts) ≡ false
unfolding same_keyword
end_no_else ts = refl

end_no_when : (ts : List Kind) → sees_keyword keywords.When (kinds.Keyword keywords.End ∷ ts) ≡ false
unfolding same_keyword
end_no_when ts = refl

becomes_no_row : (ts : List Kind) → NoRow (kinds.Sign signs.Becomes ∷ ts)
unfolding same_sign
becomes_no_row ts = refl

-- ---- statements with no statements in them

find_assign : (n room d : ℕ) → room + d ≡ n → (m : List ℕ) (e : ExprTree) → IsExpr e → (rest : List Kind) → NoOr rest → assign room (kinds_in (stmt_marks d (trees.Assign m e)) ++ rest) ≡ guard n (stmt_marks d (trees.Assign m e)) rest (Ok (trees.Assign m e, rest))
unfolding assign
find_assign n room d sum m e v rest quiet =
    let goal : Parsed StmtTree = Ok (trees.Assign m e, rest) in
    find_name n d m (λ m'. index (inside room) >>= (λ i. sign signs.Becomes >>= (λ _. expr (inside room) >>= (λ x. pure (assign_of m' i x))))) (mark d signs.Becomes ∷ expr_marks d e) rest goal (omega arith)
    (find_next n IsIndex (index_in d) NoRow (index (inside room)) (λ i. sign signs.Becomes >>= (λ _. expr (inside room) >>= (λ x. pure (assign_of m i x)))) (find_index n d (inside room) (find_inside n room d sum)) None tt (mark d signs.Becomes ∷ expr_marks d e) rest goal
    (becomes_no_row (kinds_in (expr_marks d e) ++ rest))
    (λ within'. find_sign n d signs.Becomes (λ _. expr (inside room) >>= (λ x. pure (assign_of m None x))) (expr_marks d e) rest goal (omega arith) (find_last n IsExpr (expr_marks d) NoOr (expr (inside room)) (λ x. pure (assign_of m None x)) (find_value n room d sum) e v rest quiet)))

member_marks : (d : ℕ) (m : List ℕ) (i e : ExprTree) → grammar.name d m ∷ (index_marks d i ++ mark d signs.Becomes ∷ expr_marks d e) ≡ stmt_marks d (trees.AssignMember m i e)
member_marks d m i e = ap (λ (ms : List Mark). grammar.name d m ∷ mark (suc d) signs.OpenRow ∷ ms) (append_assoc (expr_marks (suc d) i) (mark (suc d) signs.CloseRow ∷ []) (mark d signs.Becomes ∷ expr_marks d e))

find_member : (n room d : ℕ) → room + d ≡ n → (m : List ℕ) (i e : ExprTree) → IsExpr i → IsExpr e → (rest : List Kind) → NoOr rest → assign room (kinds_in (stmt_marks d (trees.AssignMember m i e)) ++ rest) ≡ guard n (stmt_marks d (trees.AssignMember m i e)) rest (Ok (trees.AssignMember m i e, rest))
unfolding assign
find_member n room d sum m i e vi v rest quiet =
    let goal : Parsed StmtTree = Ok (trees.AssignMember m i e, rest) in
    subst (λ (ms : List Mark). assign room (kinds_in ms ++ rest) ≡ guard n ms rest goal) (member_marks d m i e)
    (find_name n d m (λ m'. index (inside room) >>= (λ j. sign signs.Becomes >>= (λ _. expr (inside room) >>= (λ x. pure (assign_of m' j x))))) (index_marks d i ++ mark d signs.Becomes ∷ expr_marks d e) rest goal (omega arith)
    (find_next n IsIndex (index_in d) NoRow (index (inside room)) (λ j. sign signs.Becomes >>= (λ _. expr (inside room) >>= (λ x. pure (assign_of m j x)))) (find_index n d (inside room) (find_inside n room d sum)) (Some i) vi (mark d signs.Becomes ∷ expr_marks d e) rest goal
    (becomes_no_row (kinds_in (expr_marks d e) ++ rest))
    (λ within'. find_sign n d signs.Becomes (λ _. expr (inside room) >>= (λ x. pure (assign_of m (Some i) x))) (expr_marks d e) rest goal (omega arith) (find_last n IsExpr (expr_marks d) NoOr (expr (inside room)) (λ x. pure (assign_of m (Some i) x)) (find_value n room d sum) e v rest quiet))))

find_pair : (n d : ℕ) (w : Keyword) → d ≤ n → Finds n Anything (pair_marks d w) Free (pair w)
unfolding pair
find_pair n d w fits p v rest quiet =
    find_name n d p.0 (λ a. keyword w >>= (λ _. name >>= (λ b. pure (a, b)))) (word d w ∷ grammar.name d p.1 ∷ []) rest (Ok (p, rest)) fits
    (find_keyword n d w (λ _. name >>= (λ b. pure (p.0, b))) (grammar.name d p.1 ∷ []) rest (Ok (p, rest)) fits (find_name n d p.1 (λ b. pure (p.0, b)) [] rest (Ok (p, rest)) fits refl))

find_new : (n d : ℕ) (a b : List ℕ) → d ≤ n → (rest : List Kind) → new (kinds_in (grammar.name d a ∷ mark d signs.Comma ∷ grammar.name d b ∷ []) ++ rest) ≡ guard n (grammar.name d a ∷ mark d signs.Comma ∷ grammar.name d b ∷ []) rest (Ok (trees.New a b, rest))
unfolding new
find_new n d a b fits rest =
    find_name n d a (λ x. sign signs.Comma >>= (λ _. name >>= (λ y. pure (trees.New x y)))) (mark d signs.Comma ∷ grammar.name d b ∷ []) rest (Ok (trees.New a b, rest)) fits
    (find_sign n d signs.Comma (λ _. name >>= (λ y. pure (trees.New a y))) (grammar.name d b ∷ []) rest (Ok (trees.New a b, rest)) fits (find_name n d b (λ y. pure (trees.New a y)) [] rest (Ok (trees.New a b, rest)) fits refl))

find_connect : (n room d : ℕ) → room + d ≡ n → (a b : List ℕ) (xs : List ExprTree) (rs : List (List ℕ)) → AreValues xs → (rest : List Kind)
    → connect room (kinds_in (pair_marks d keywords.On (a, b) ++ (values_marks d xs ++ mark d signs.Colon ∷ names_marks d rs)) ++ rest) ≡ guard n (pair_marks d keywords.On (a, b) ++ (values_marks d xs ++ mark d signs.Colon ∷ names_marks d rs)) rest (Ok (trees.Connect a b (exprs_of xs) rs, rest))
unfolding connect
find_connect n room d sum a b xs rs v rest =
    let goal : Parsed StmtTree = Ok (trees.Connect a b (exprs_of xs) rs, rest) in
    find_next n Anything (pair_marks d keywords.On) Free (pair keywords.On) (λ p. values room >>= (λ ys. sign signs.Colon >>= (λ _. names room >>= (λ qs. pure (trees.Connect p.0 p.1 (exprs_of ys) qs))))) (find_pair n d keywords.On (omega arith)) (a, b) tt
    (values_marks d xs ++ mark d signs.Colon ∷ names_marks d rs) rest goal tt
    (λ w1. find_next n AreValues (values_marks d) Free (values room) (λ ys. sign signs.Colon >>= (λ _. names room >>= (λ qs. pure (trees.Connect a b (exprs_of ys) qs)))) (find_values n room d sum) xs v (mark d signs.Colon ∷ names_marks d rs) rest goal tt
    (λ w2. find_sign n d signs.Colon (λ _. names room >>= (λ qs. pure (trees.Connect a b (exprs_of xs) qs))) (names_marks d rs) rest goal (omega arith)
    (find_last n Anything (names_marks d) Free (names room) (λ qs. pure (trees.Connect a b (exprs_of xs) qs)) (find_names n room d sum) rs tt rest tt)))

find_reply : (n room d : ℕ) → room + d ≡ n → (xs : List ExprTree) → AreValues xs → (rest : List Kind) → reply room (kinds_in (values_marks d xs) ++ rest) ≡ guard n (values_marks d xs) rest (Ok (trees.Reply (exprs_of xs), rest))
unfolding reply
find_reply n room d sum xs v rest = find_last n AreValues (values_marks d) Free (values room) (λ ys. pure (trees.Reply (exprs_of ys))) (find_values n room d sum) xs v rest tt

-- ---- statements with statements in them

abbrev pub BodyFinds : ℕ → ℕ → Parser StmtTrees → Type 0
BodyFinds n d body = Finds n AreStmts (stmts_marks d) Calm body

abbrev NoElse : List Kind → Type 0
NoElse ts = sees_keyword keywords.Else ts ≡ false

abbrev NoElseCalm : List Kind → Type 0
NoElseCalm ts = NoElse ts × Calm ts

find_otherwise : (n d : ℕ) (body : Parser StmtTrees) → d ≤ n → BodyFinds n d body → Finds n IsOther (other_in d) NoElseCalm (otherwise body)
unfolding otherwise
find_otherwise n d body fits h None v rest quiet = ap (λ (t : Bool). (if t then (advance >>= (λ _. body >>= (λ b. pure (Some b)))) else pure None) rest) quiet.0
find_otherwise n d body fits h (Some o) v rest quiet =
    ap (λ (t : Bool). (if t then (advance >>= (λ _. body >>= (λ b. pure (Some b)))) else pure None) (kinds.Keyword keywords.Else ∷ (kinds_in (stmts_marks d o) ++ rest))) (same_keyword_refl keywords.Else)
    ∙ find_token n (word d keywords.Else) (stmts_marks d o) rest (Ok (Some o, rest)) _ fits (find_last n AreStmts (stmts_marks d) Calm body (λ b. pure (Some b)) h o v rest quiet.1)

find_choice : (n room d : ℕ) (body : Parser StmtTrees) → room + d ≡ n → BodyFinds n d body → (c : ExprTree) (b : StmtTrees) (o : Option StmtTrees) → IsExpr c → AreStmts b → IsOther o → (rest : List Kind)
    → ((ts : List Kind) → Calm (kinds_in (other_in d o ++ word d keywords.End ∷ []) ++ ts))
    → choice room body (kinds_in (expr_marks d c ++ word d keywords.Then ∷ (stmts_marks d b ++ (other_in d o ++ word d keywords.End ∷ []))) ++ rest) ≡ guard n (expr_marks d c ++ word d keywords.Then ∷ (stmts_marks d b ++ (other_in d o ++ word d keywords.End ∷ []))) rest (Ok (choice_of c b o, rest))
unfolding choice
find_choice n room d body sum h c b o vc vb vo rest calm =
    let goal : Parsed StmtTree = Ok (choice_of c b o, rest) in
    let fits : d ≤ n = omega arith in
    let last : List Mark = word d keywords.End ∷ [] in
    find_next n IsExpr (expr_marks d) NoOr (expr (inside room)) (λ e. keyword keywords.Then >>= (λ _. body >>= (λ x. otherwise body >>= (λ y. keyword keywords.End >>= (λ _. pure (choice_of e x y)))))) (find_value n room d sum) c vc
    (word d keywords.Then ∷ (stmts_marks d b ++ (other_in d o ++ last))) rest goal (then_ends (kinds_in (stmts_marks d b ++ (other_in d o ++ last)) ++ rest))
    (λ w1. find_keyword n d keywords.Then (λ _. body >>= (λ x. otherwise body >>= (λ y. keyword keywords.End >>= (λ _. pure (choice_of c x y))))) (stmts_marks d b ++ (other_in d o ++ last)) rest goal fits
    (find_next n AreStmts (stmts_marks d) Calm body (λ x. otherwise body >>= (λ y. keyword keywords.End >>= (λ _. pure (choice_of c x y)))) h b vb (other_in d o ++ last) rest goal (calm rest)
    (λ w2. find_next n IsOther (other_in d) NoElseCalm (otherwise body) (λ y. keyword keywords.End >>= (λ _. pure (choice_of c b y))) (find_otherwise n d body fits h) o vo last rest goal (end_no_else rest, end_calm rest)
    (λ w3. find_keyword n d keywords.End (λ _. pure (choice_of c b o)) [] rest goal fits refl))))

find_repetition : (n room d : ℕ) (body : Parser StmtTrees) → room + d ≡ n → BodyFinds n d body → (c : ExprTree) (b : StmtTrees) → IsExpr c → AreStmts b → (rest : List Kind)
    → repetition room body (kinds_in (expr_marks d c ++ word d keywords.Do ∷ (stmts_marks d b ++ word d keywords.End ∷ [])) ++ rest) ≡ guard n (expr_marks d c ++ word d keywords.Do ∷ (stmts_marks d b ++ word d keywords.End ∷ [])) rest (Ok (trees.While c b, rest))
unfolding repetition
find_repetition n room d body sum h c b vc vb rest =
    let goal : Parsed StmtTree = Ok (trees.While c b, rest) in
    let fits : d ≤ n = omega arith in
    let last : List Mark = word d keywords.End ∷ [] in
    find_next n IsExpr (expr_marks d) NoOr (expr (inside room)) (λ e. keyword keywords.Do >>= (λ _. body >>= (λ x. keyword keywords.End >>= (λ _. pure (trees.While e x))))) (find_value n room d sum) c vc (word d keywords.Do ∷ (stmts_marks d b ++ last)) rest goal
    (do_ends (kinds_in (stmts_marks d b ++ last) ++ rest))
    (λ w1. find_keyword n d keywords.Do (λ _. body >>= (λ x. keyword keywords.End >>= (λ _. pure (trees.While c x)))) (stmts_marks d b ++ last) rest goal fits
    (find_next n AreStmts (stmts_marks d) Calm body (λ x. keyword keywords.End >>= (λ _. pure (trees.While c x))) h b vb last rest goal (end_calm rest) (λ w2. find_keyword n d keywords.End (λ _. pure (trees.While c b)) [] rest goal fits refl)))

find_accept : (n room d : ℕ) (body : Parser StmtTrees) → room + d ≡ n → BodyFinds n d body → (a l : List ℕ) (ns : List (List ℕ)) (b : StmtTrees) → AreStmts b → (rest : List Kind)
    → accept room body (kinds_in (pair_marks d keywords.On (a, l) ++ (names_marks d ns ++ word d keywords.Do ∷ (stmts_marks d b ++ word d keywords.End ∷ []))) ++ rest)
    ≡ guard n (pair_marks d keywords.On (a, l) ++ (names_marks d ns ++ word d keywords.Do ∷ (stmts_marks d b ++ word d keywords.End ∷ []))) rest (Ok (trees.Accept a l ns b, rest))
unfolding accept
find_accept n room d body sum h a l ns b vb rest =
    let goal : Parsed StmtTree = Ok (trees.Accept a l ns b, rest) in
    let fits : d ≤ n = omega arith in
    let last : List Mark = word d keywords.End ∷ [] in
    find_next n Anything (pair_marks d keywords.On) Free (pair keywords.On) (λ p. names room >>= (λ ms. keyword keywords.Do >>= (λ _. body >>= (λ x. keyword keywords.End >>= (λ _. pure (trees.Accept p.0 p.1 ms x)))))) (find_pair n d keywords.On fits) (a, l) tt
    (names_marks d ns ++ word d keywords.Do ∷ (stmts_marks d b ++ last)) rest goal tt
    (λ w1. find_next n Anything (names_marks d) Free (names room) (λ ms. keyword keywords.Do >>= (λ _. body >>= (λ x. keyword keywords.End >>= (λ _. pure (trees.Accept a l ms x))))) (find_names n room d sum) ns tt (word d keywords.Do ∷ (stmts_marks d b ++ last)) rest goal tt
    (λ w2. find_keyword n d keywords.Do (λ _. body >>= (λ x. keyword keywords.End >>= (λ _. pure (trees.Accept a l ns x)))) (stmts_marks d b ++ last) rest goal fits
    (find_next n AreStmts (stmts_marks d) Calm body (λ x. keyword keywords.End >>= (λ _. pure (trees.Accept a l ns x))) h b vb last rest goal (end_calm rest) (λ w3. find_keyword n d keywords.End (λ _. pure (trees.Accept a l ns b)) [] rest goal fits refl))))

find_handler : (n d : ℕ) (body : Parser StmtTrees) → d ≤ n → BodyFinds n d body → Finds n IsHandler (handler_marks d) Calm (handler body)
unfolding handler
find_handler n d body fits h x v rest quiet =
    find_token n (word d keywords.When) (grammar.name d x.0 ∷ word d keywords.Do ∷ stmts_marks d x.1) rest (Ok (x, rest)) _ fits
    (find_name n d x.0 (λ m. keyword keywords.Do >>= (λ _. body >>= (λ b. pure (m, b)))) (word d keywords.Do ∷ stmts_marks d x.1) rest (Ok (x, rest)) fits
    (find_keyword n d keywords.Do (λ _. body >>= (λ b. pure (x.0, b))) (stmts_marks d x.1) rest (Ok (x, rest)) fits (find_last n AreStmts (stmts_marks d) Calm body (λ b. pure (x.0, b)) h x.1 v rest quiet)))

handlers_in : HandlerTrees → List (List ℕ × StmtTrees)
handlers_in trees.no_handlers = []
handlers_in (trees.more_handlers m b hs) = (m, b) ∷ handlers_in hs

handlers_again : (hs : HandlerTrees) → handlers_of (handlers_in hs) ≡ hs
unfolding handlers_in
handlers_again trees.no_handlers = refl
handlers_again (trees.more_handlers m b hs) = ap (trees.more_handlers m b) (handlers_again hs)

handlers_flat : (d : ℕ) (hs : HandlerTrees) → handlers_marks d hs ≡ flat_map (handler_marks d) (handlers_in hs)
unfolding handlers_in
handlers_flat d trees.no_handlers = refl
handlers_flat d (trees.more_handlers m b hs) = ap (λ (ms : List Mark). word d keywords.When ∷ grammar.name d m ∷ word d keywords.Do ∷ (stmts_marks d b ++ ms)) (handlers_flat d hs)

are_handlers : (hs : HandlerTrees) → AreHandlers hs → AllByRecursion IsHandler (handlers_in hs)
unfolding handlers_in
are_handlers trees.no_handlers h = tt
are_handlers (trees.more_handlers m b hs) h = (h.0, are_handlers hs h.1)

handler_begins : (d : ℕ) → Begins IsHandler (handler_marks d) Calm (sees_keyword keywords.When)
handler_begins d x v ts = (same_keyword_refl keywords.When, when_calm (kinds_in (grammar.name d x.0 ∷ word d keywords.Do ∷ stmts_marks d x.1) ++ ts), omega arith)

find_attempt : (n d : ℕ) (body : Parser StmtTrees) → d ≤ n → BodyFinds n d body → (b : StmtTrees) (hs : HandlerTrees) → AreStmts b → AreHandlers hs → (rest : List Kind)
    → attempt body (kinds_in (stmts_marks d b ++ (handlers_marks d hs ++ word d keywords.End ∷ [])) ++ rest) ≡ guard n (stmts_marks d b ++ (handlers_marks d hs ++ word d keywords.End ∷ [])) rest (Ok (trees.Try b hs, rest))
unfolding attempt
find_attempt n d body fits h b hs vb vh rest =
    let goal : Parsed StmtTree = Ok (trees.Try b hs, rest) in
    let last : List Mark = word d keywords.End ∷ [] in
    let ending : List Kind = kinds_in last ++ rest in
    let xs = handlers_in hs in
    let marks : List Mark = flat_map (handler_marks d) xs in
    let f : List (List ℕ × StmtTrees) → Parser StmtTree = λ ys. keyword keywords.End >>= (λ _. pure (trees.Try b (handlers_of ys))) in
    let done : f xs ending ≡ guard n last rest goal =
    find_keyword n d keywords.End (λ _. pure (trees.Try b (handlers_of xs))) [] rest (Ok (trees.Try b (handlers_of xs), rest)) fits refl ∙ ap (λ (ys : HandlerTrees). guard n last rest (Ok (trees.Try b ys, rest))) (handlers_again hs) in
    let others : (handlers body >>= f) (kinds_in (marks ++ last) ++ rest) ≡ guard n (marks ++ last) rest goal =
    ap (λ (ks : List Kind). then_parse (handlers body ks) f) (sym (kinds_append marks last rest))
    ∙ ap (λ (o : Parsed (List (List ℕ × StmtTrees))). then_parse o f) (find_many n IsHandler (handler_marks d) Calm (sees_keyword keywords.When) (handler body) (find_handler n d body fits h) (handler_begins d) xs [] ending (are_handlers hs vh) (end_calm rest) (end_no_when rest))
    ∙ guard_then n marks ending (Ok (xs, ending)) f ∙ ap (guard n marks ending) done ∙ sym (guard_append n marks last rest goal) in
    let calm : Calm (kinds_in (marks ++ last) ++ rest) = subst Calm (kinds_append marks last rest) (item_quiet IsHandler (handler_marks d) Calm (sees_keyword keywords.When) xs ending (handler_begins d) (are_handlers hs vh) (end_calm rest)) in
    subst (λ (ms : List Mark). attempt body (kinds_in (stmts_marks d b ++ (ms ++ last)) ++ rest) ≡ guard n (stmts_marks d b ++ (ms ++ last)) rest goal) (sym (handlers_flat d hs))
    (find_next n AreStmts (stmts_marks d) Calm body (λ x. handlers body >>= (λ ys. keyword keywords.End >>= (λ _. pure (trees.Try x (handlers_of ys))))) h b vb (marks ++ last) rest goal calm (λ w1. others))

-- ---- any statement

others_calm : (d : ℕ) (o : Option StmtTrees) (ts : List Kind) → Calm (kinds_in (other_in d o ++ word d keywords.End ∷ []) ++ ts)
others_calm d None ts = end_calm ts
others_calm d (Some b) ts = else_calm (kinds_in (stmts_marks d b ++ word d keywords.End ∷ []) ++ ts)

values_again : (d : ℕ) (es : ExprTrees) → values_marks d (exprs_in es) ≡ exprs_marks d es
values_again d es = ap (exprs_marks d) (exprs_again es)

are_values : (es : ExprTrees) → AreExprs 6 es → AreValues (exprs_in es)
are_values es h = subst (AreExprs 6) (sym (exprs_again es)) h

find_within : (n room d : ℕ) (body : Parser StmtTrees) → room + d ≡ n → BodyFinds n d body → Finds n IsStmt (stmt_marks d) NoOr (within room body)
unfolding within
find_within n room d body sum h (trees.Assign m e) v rest quiet = find_assign n room d sum m e v rest quiet
find_within n room d body sum h (trees.AssignMember m i e) v rest quiet = find_member n room d sum m i e v.0 v.1 rest quiet
find_within n room d body sum h (trees.If c b) v rest quiet =
    find_token n (word d keywords.If) _ rest (Ok (trees.If c b, rest)) _ (omega arith) (find_choice n room d body sum h c b None v.0 v.1 tt rest (others_calm d None))
find_within n room d body sum h (trees.IfElse c b o) v rest quiet =
    find_token n (word d keywords.If) _ rest (Ok (trees.IfElse c b o, rest)) _ (omega arith) (find_choice n room d body sum h c b (Some o) v.0 v.1 v.2 rest (others_calm d (Some o)))
find_within n room d body sum h (trees.While c b) v rest quiet = find_token n (word d keywords.While) _ rest (Ok (trees.While c b, rest)) _ (omega arith) (find_repetition n room d body sum h c b v.0 v.1 rest)
find_within n room d body sum h (trees.Write e) v rest quiet = find_token n (word d keywords.Write) (expr_marks d e) rest (Ok (trees.Write e, rest)) _ (omega arith) (find_last n IsExpr (expr_marks d) NoOr (expr (inside room)) (λ x. pure (trees.Write x)) (find_value n room d sum) e v rest quiet)
find_within n room d body sum h (trees.Await e) v rest quiet = find_token n (word d keywords.Await) (expr_marks d e) rest (Ok (trees.Await e, rest)) _ (omega arith) (find_last n IsExpr (expr_marks d) NoOr (expr (inside room)) (λ x. pure (trees.Await x)) (find_value n room d sum) e v rest quiet)
find_within n room d body sum h trees.Stop v rest quiet = find_token n (word d keywords.Stop) [] rest (Ok (trees.Stop, rest)) _ (omega arith) refl
find_within n room d body sum h (trees.Raise m) v rest quiet = find_token n (word d keywords.Raise) (grammar.name d m ∷ []) rest (Ok (trees.Raise m, rest)) _ (omega arith) (find_name n d m (λ x. pure (trees.Raise x)) [] rest (Ok (trees.Raise m, rest)) (omega arith) refl)
find_within n room d body sum h (trees.New a b) v rest quiet = find_token n (word d keywords.New) (grammar.name d a ∷ mark d signs.Comma ∷ grammar.name d b ∷ []) rest (Ok (trees.New a b, rest)) _ (omega arith) (find_new n d a b (omega arith) rest)
find_within n room d body sum h (trees.Destroy m) v rest quiet = find_token n (word d keywords.Destroy) (grammar.name d m ∷ []) rest (Ok (trees.Destroy m, rest)) _ (omega arith) (find_name n d m (λ x. pure (trees.Destroy x)) [] rest (Ok (trees.Destroy m, rest)) (omega arith) refl)
find_within n room d body sum h (trees.Bind a b) v rest quiet =
    find_token n (word d keywords.Bind) (pair_marks d keywords.To (a, b)) rest (Ok (trees.Bind a b, rest)) _ (omega arith) (find_last n Anything (pair_marks d keywords.To) Free (pair keywords.To) (λ p. pure (trees.Bind p.0 p.1)) (find_pair n d keywords.To (omega arith)) (a, b) tt rest tt)
find_within n room d body sum h (trees.Unbind a b) v rest quiet =
    find_token n (word d keywords.Unbind) (pair_marks d keywords.From (a, b)) rest (Ok (trees.Unbind a b, rest)) _ (omega arith)
    (find_last n Anything (pair_marks d keywords.From) Free (pair keywords.From) (λ p. pure (trees.Unbind p.0 p.1)) (find_pair n d keywords.From (omega arith)) (a, b) tt rest tt)
find_within n room d body sum h (trees.Connect a b vs rs) v rest quiet =
    find_token n (word d keywords.Connect) (pair_marks d keywords.On (a, b) ++ (exprs_marks d vs ++ mark d signs.Colon ∷ names_marks d rs)) rest (Ok (trees.Connect a b vs rs, rest)) _ (omega arith)
    (subst (λ (es : ExprTrees). connect room (kinds_in (pair_marks d keywords.On (a, b) ++ (exprs_marks d es ++ mark d signs.Colon ∷ names_marks d rs)) ++ rest)
    ≡ guard n (pair_marks d keywords.On (a, b) ++ (exprs_marks d es ++ mark d signs.Colon ∷ names_marks d rs)) rest (Ok (trees.Connect a b es rs, rest))) (exprs_again vs)
    (find_connect n room d sum a b (exprs_in vs) rs (are_values vs v) rest))
find_within n room d body sum h (trees.Accept a b ns body') v rest quiet =
    find_token n (word d keywords.Accept) (pair_marks d keywords.On (a, b) ++ (names_marks d ns ++ word d keywords.Do ∷ (stmts_marks d body' ++ word d keywords.End ∷ []))) rest (Ok (trees.Accept a b ns body', rest)) _ (omega arith) (find_accept n room d body sum h a b ns body' v rest)
find_within n room d body sum h (trees.Reply vs) v rest quiet =
    find_token n (word d keywords.Reply) (exprs_marks d vs) rest (Ok (trees.Reply vs, rest)) _ (omega arith)
    (subst (λ (es : ExprTrees). reply room (kinds_in (exprs_marks d es) ++ rest) ≡ guard n (exprs_marks d es) rest (Ok (trees.Reply es, rest))) (exprs_again vs) (find_reply n room d sum (exprs_in vs) (are_values vs v) rest))
find_within n room d body sum h (trees.Try b hs) v rest quiet = find_token n (word d keywords.Try) _ rest (Ok (trees.Try b hs, rest)) _ (omega arith) (find_attempt n d body (omega arith) h b hs v.0 v.1 rest)

-- the first token of a statement
record Head (d : ℕ) (s : StmtTree) : Type 0 where
  pub one : Mark
  pub more : List Mark
  pub is : stmt_marks d s ≡ one ∷ more
  pub at : one.depth ≡ d
  pub begins : (ts : List Kind) → begins_stmt (one.kind ∷ ts) ≡ true

head : (d : ℕ) (s : StmtTree) → Head d s
unfolding begins_stmt
head d (trees.Assign m e) = record { one = grammar.name d m; more = _; is = refl; at = refl; begins = λ ts. refl }
head d (trees.AssignMember m i e) = record { one = grammar.name d m; more = _; is = refl; at = refl; begins = λ ts. refl }
head d (trees.If c b) = record { one = word d keywords.If; more = _; is = refl; at = refl; begins = λ ts. refl }
head d (trees.IfElse c b o) = record { one = word d keywords.If; more = _; is = refl; at = refl; begins = λ ts. refl }
head d (trees.While c b) = record { one = word d keywords.While; more = _; is = refl; at = refl; begins = λ ts. refl }
head d (trees.Write e) = record { one = word d keywords.Write; more = _; is = refl; at = refl; begins = λ ts. refl }
head d (trees.Await e) = record { one = word d keywords.Await; more = _; is = refl; at = refl; begins = λ ts. refl }
head d trees.Stop = record { one = word d keywords.Stop; more = _; is = refl; at = refl; begins = λ ts. refl }
head d (trees.Raise m) = record { one = word d keywords.Raise; more = _; is = refl; at = refl; begins = λ ts. refl }
head d (trees.New a b) = record { one = word d keywords.New; more = _; is = refl; at = refl; begins = λ ts. refl }
head d (trees.Destroy m) = record { one = word d keywords.Destroy; more = _; is = refl; at = refl; begins = λ ts. refl }
head d (trees.Bind a b) = record { one = word d keywords.Bind; more = _; is = refl; at = refl; begins = λ ts. refl }
head d (trees.Unbind a b) = record { one = word d keywords.Unbind; more = _; is = refl; at = refl; begins = λ ts. refl }
head d (trees.Connect a b vs rs) = record { one = word d keywords.Connect; more = _; is = refl; at = refl; begins = λ ts. refl }
head d (trees.Accept a b ns b') = record { one = word d keywords.Accept; more = _; is = refl; at = refl; begins = λ ts. refl }
head d (trees.Reply vs) = record { one = word d keywords.Reply; more = _; is = refl; at = refl; begins = λ ts. refl }
head d (trees.Try b hs) = record { one = word d keywords.Try; more = _; is = refl; at = refl; begins = λ ts. refl }

-- ---- lists of statements

stmts_in : StmtTrees → List StmtTree
stmts_in trees.no_stmts = []
stmts_in (trees.more_stmts s ss) = s ∷ stmts_in ss

stmts_again : (ss : StmtTrees) → stmts_of (stmts_in ss) ≡ ss
unfolding stmts_in
stmts_again trees.no_stmts = refl
stmts_again (trees.more_stmts s ss) = ap (trees.more_stmts s) (stmts_again ss)

stmts_flat : (d : ℕ) (ss : StmtTrees) → stmts_marks d ss ≡ flat_map (ended_marks d) (stmts_in ss)
unfolding stmts_in
stmts_flat d trees.no_stmts = refl
stmts_flat d (trees.more_stmts s ss) = ap (λ (ms : List Mark). stmt_marks (suc d) s ++ mark d signs.Semicolon ∷ ms) (stmts_flat d ss) ∙ sym (append_assoc (stmt_marks (suc d) s) (mark d signs.Semicolon ∷ []) (flat_map (ended_marks d) (stmts_in ss)))

are_stmts : (ss : StmtTrees) → AreStmts ss → AllByRecursion IsStmt (stmts_in ss)
unfolding stmts_in
are_stmts trees.no_stmts h = tt
are_stmts (trees.more_stmts s ss) h = (h.0, are_stmts ss h.1)

find_ended : (n d : ℕ) (one : Parser StmtTree) → d ≤ n → Finds n IsStmt (stmt_marks (suc d)) NoOr one → Finds n IsStmt (ended_marks d) Free (ended one)
find_ended n d one fits h s v rest quiet =
    find_next n IsStmt (stmt_marks (suc d)) NoOr one (λ x. sign signs.Semicolon >>= (λ _. pure x)) h s v (mark d signs.Semicolon ∷ []) rest (Ok (s, rest)) (semicolon_ends rest) (λ w1. find_sign n d signs.Semicolon (λ _. pure s) [] rest (Ok (s, rest)) fits refl)

stmt_begins : (d : ℕ) → Begins IsStmt (ended_marks d) Free begins_stmt
stmt_begins d s v ts =
    let one = head (suc d) s in
    let is : ended_marks d s ≡ one.one ∷ (one.more ++ mark d signs.Semicolon ∷ []) = ap (λ (ms : List Mark). ms ++ mark d signs.Semicolon ∷ []) one.is in
    (ap (λ (ms : List Mark). begins_stmt (kinds_in ms ++ ts)) is ∙ one.begins (kinds_in (one.more ++ mark d signs.Semicolon ∷ []) ++ ts), tt, omega (arith, ap length is))

find_body : (n d : ℕ) (one : Parser StmtTree) → d ≤ n → Finds n IsStmt (stmt_marks (suc d)) NoOr one → BodyFinds n d (stmts_by one)
find_body n d one fits h ss v rest calm =
    let xs = stmts_in ss in
    let marks : List Mark = flat_map (ended_marks d) xs in
    subst (λ (ms : List Mark). stmts_by one (kinds_in ms ++ rest) ≡ guard n ms rest (Ok (ss, rest))) (sym (stmts_flat d ss))
    (ap (λ (o : Parsed (List StmtTree)). then_parse o (λ all. pure (stmts_of all))) (find_many n IsStmt (ended_marks d) Free begins_stmt (ended one) (find_ended n d one fits h) (stmt_begins d) xs [] rest (are_stmts ss v) tt calm)
    ∙ guard_then n marks rest (Ok (xs, rest)) (λ all. pure (stmts_of all)) ∙ ap (λ (ys : StmtTrees). guard n marks rest (Ok (ys, rest))) (stmts_again ss))

-- where so many more may be open
find_stmt : (n room d : ℕ) → room + d ≡ n → Finds n IsStmt (stmt_marks (suc d)) NoOr (stmt room)
unfolding stmt
find_stmt n zero d sum s v rest quiet =
    let one = head (suc d) s in
    subst (λ (ms : List Mark). Err (refusals.TooDeep (length (kinds_in ms ++ rest))) ≡ guard n ms rest (Ok (s, rest))) (sym one.is) (find_deep n one.one one.more rest (Ok (s, rest)) (omega (arith, one.at)))
find_stmt n (suc room) d sum s v rest quiet =
    let less : room + suc d ≡ n = omega arith in
    find_within n room (suc d) (stmts_by (stmt room)) less (find_body n (suc d) (stmt room) (omega arith) (find_stmt n room (suc d) less)) s v rest quiet

pub find_stmts : (n room d : ℕ) → room + d ≡ n → BodyFinds n d (stmts room)
unfolding stmts
find_stmts n room d sum = find_body n d (stmt room) (omega arith) (find_stmt n room d sum)
