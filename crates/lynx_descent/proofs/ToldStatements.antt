-- What reading statements tells.
use Rattle.std.proofs.Common.{◌≡◌, ℕ, zero, suc, ◌+◌, ◌≤◌, true, List, [], ◌∷◌, ◌++◌, length, drop, Option, Some, None, Err, refl, sym, ap, subst, ◌∙◌, append_assoc, arith}
use Rattle.std.specs.Prelude.{⊤}
use Rattle.std.proofs.lemmas.Bool.{false≢true}
use Rattle.std.proofs.lemmas.List.{append-nil}
use Rattle.lynx_lexer.specs.declared.keyword.Keyword.{Keyword}
use Rattle.lynx_lexer.specs.declared.keyword.Keyword.TheVariants as keywords
use Rattle.lynx_lexer.specs.declared.sign.Sign.TheVariants as signs
use Rattle.lynx_lexer.specs.declared.token.Kind.{Kind}
use Rattle.lynx_lexer.specs.declared.token.Kind.TheVariants as kinds
use Rattle.lynx_descent.specs.declared.refusal.Refusal.TheVariants as refusals
use Rattle.lynx_tree.specs.Trees as trees
use Rattle.lynx_tree.specs.Trees.{ExprTree, StmtTree, StmtTrees, HandlerTrees}
use Rattle.lynx_tree.specs.Grammar as grammar
use Rattle.lynx_tree.specs.Grammar.{Mark, word, mark, names_marks, exprs_marks, expr_marks, stmt_marks, stmts_marks, handlers_marks, IsExpr, IsStmt, AreStmts, AreHandlers, index_marks}
use Rattle.lynx_descent.specs.Reading.{Parser, then_parse, ◌>>=◌, pure, advance, sees_keyword, sign, keyword, name}
use Rattle.lynx_descent.specs.ReadingExpressions.{exprs_of, inside, expr, index}
use Rattle.lynx_descent.specs.ReadingLists.{names, values}
use Rattle.lynx_descent.specs.ReadingStatements.{stmts_of, handlers_of, assign_of, choice_of, assign, pair, new, connect, reply, otherwise, choice, repetition, accept, handler, attempt, within, begins_stmt, ended, stmts_by, stmt, stmts}
use Rattle.lynx_descent.proofs.Told.{Told, Tells, Goes, Spells, bind_told, next, done, refused, opens, token}
use Rattle.lynx_descent.proofs.ToldTokens.{keyword_seen, either, at_token, then_keyword, then_sign, then_name, then_many}
use Rattle.lynx_descent.proofs.ToldExpressions.{Ranked, IsIndex, index_in, told_index, told_inside, told_value}
use Rattle.lynx_descent.proofs.ToldLists.{Anything, AreValues, values_marks, told_names, told_values}

-- a statement whose own tokens stand at depth d, and statements inside d
abbrev pub S : ℕ → StmtTree → List Mark → Type 0
S d = Spells IsStmt (stmt_marks d)

abbrev pub B : ℕ → StmtTrees → List Mark → Type 0
B d = Spells AreStmts (stmts_marks d)

-- ---- joined lists of tokens

joined_three : (h c b e : List Mark) (t : Mark) → (((h ++ c) ++ t ∷ []) ++ b) ++ e ≡ h ++ (c ++ t ∷ (b ++ e))
joined_three h c b e t = simp append_assoc

joined_two : (h c b : List Mark) (t : Mark) → ((h ++ c) ++ t ∷ []) ++ b ≡ h ++ (c ++ t ∷ b)
joined_two h c b t = simp append_assoc

joined_choice : (a : Mark) (c b o e : List Mark) (t : Mark) → (((((a ∷ []) ++ c) ++ t ∷ []) ++ b) ++ o) ++ e ≡ a ∷ (c ++ t ∷ (b ++ (o ++ e)))
joined_choice a c b o e t = simp append_assoc

joined_index : (a b : Mark) (i v : List Mark) (c t : Mark) → ((a ∷ b ∷ (i ++ c ∷ [])) ++ t ∷ []) ++ v ≡ a ∷ b ∷ (i ++ c ∷ t ∷ v)
joined_index a b i v c t = simp append_assoc

joined_attempt : (a : Mark) (b h e : List Mark) → ((a ∷ b) ++ h) ++ e ≡ a ∷ (b ++ (h ++ e))
joined_attempt a b h e = simp append_assoc

-- ---- statements with no statements in them

assign_is : (d : ℕ) (m : List ℕ) (i : Option ExprTree) (e : ExprTree) → IsIndex i → IsExpr e → S d (assign_of m i e) ((((grammar.name d m ∷ []) ++ index_in d i) ++ mark d signs.Becomes ∷ []) ++ expr_marks d e)
assign_is d m None e vi ve = (ve, refl)
assign_is d m (Some i) e vi ve = ((vi, ve), joined_index (grammar.name d m) (mark (suc d) signs.OpenRow) (expr_marks (suc d) i) (expr_marks d e) (mark (suc d) signs.CloseRow) (mark d signs.Becomes))

told_assign : (n room d : ℕ) → room + d ≡ n → Tells n (S d) [] (assign room)
unfolding assign
told_assign n room d sum =
    let fits : d ≤ n = omega arith in
    then_name n (S d) [] d _ fits (λ m.
    next n (S d) (grammar.name d m ∷ []) IsIndex (index_in d) (index (inside room)) _ (told_index n d (inside room) (told_inside n room d sum)) (λ i vi.
    then_sign n (S d) ((grammar.name d m ∷ []) ++ index_in d i) d signs.Becomes _ fits (
    next n (S d) (((grammar.name d m ∷ []) ++ index_in d i) ++ mark d signs.Becomes ∷ []) (Ranked 6) (expr_marks d) (expr (inside room)) _ (told_value n room d sum) (λ e v.
    done n (S d) _ (assign_of m i e) (assign_is d m i e vi v.1)))))

abbrev pub pair_marks : ℕ → Keyword → List ℕ × List ℕ → List Mark
pair_marks d w p = grammar.name d p.0 ∷ word d w ∷ grammar.name d p.1 ∷ []

told_pair : (n d : ℕ) (w : Keyword) → d ≤ n → Tells n (Spells Anything (pair_marks d w)) [] (pair w)
unfolding pair
told_pair n d w fits =
    then_name n (Spells Anything (pair_marks d w)) [] d _ fits (λ first.
    then_keyword n (Spells Anything (pair_marks d w)) (grammar.name d first ∷ []) d w _ fits (
    then_name n (Spells Anything (pair_marks d w)) (grammar.name d first ∷ word d w ∷ []) d _ fits (λ second. done n (Spells Anything (pair_marks d w)) (grammar.name d first ∷ word d w ∷ grammar.name d second ∷ []) (first, second) (tt, refl))))

told_new : (n d : ℕ) → d ≤ n → Tells n (S d) (word d keywords.New ∷ []) new
unfolding new
told_new n d fits =
    then_name n (S d) (word d keywords.New ∷ []) d _ fits (λ first.
    then_sign n (S d) (word d keywords.New ∷ grammar.name d first ∷ []) d signs.Comma _ fits (
    then_name n (S d) (word d keywords.New ∷ grammar.name d first ∷ mark d signs.Comma ∷ []) d _ fits (λ second.
    done n (S d) (word d keywords.New ∷ grammar.name d first ∷ mark d signs.Comma ∷ grammar.name d second ∷ []) (trees.New first second) (tt, refl))))

told_connect : (n room d : ℕ) → room + d ≡ n → Tells n (S d) (word d keywords.Connect ∷ []) (connect room)
unfolding connect
told_connect n room d sum =
    let fits : d ≤ n = omega arith in
    next n (S d) (word d keywords.Connect ∷ []) Anything (pair_marks d keywords.On) (pair keywords.On) _ (told_pair n d keywords.On fits) (λ p any.
    next n (S d) (word d keywords.Connect ∷ pair_marks d keywords.On p) AreValues (values_marks d) (values room) _ (told_values n room d sum) (λ given vg.
    then_sign n (S d) ((word d keywords.Connect ∷ pair_marks d keywords.On p) ++ values_marks d given) d signs.Colon _ fits (
    next n (S d) (((word d keywords.Connect ∷ pair_marks d keywords.On p) ++ values_marks d given) ++ mark d signs.Colon ∷ []) Anything (names_marks d) (names room) _ (told_names n room d sum) (λ results any'.
    done n (S d) _ (trees.Connect p.0 p.1 (exprs_of given) results) (vg, joined_two (word d keywords.Connect ∷ pair_marks d keywords.On p) (values_marks d given) (names_marks d results) (mark d signs.Colon))))))

told_reply : (n room d : ℕ) → room + d ≡ n → Tells n (S d) (word d keywords.Reply ∷ []) (reply room)
unfolding reply
told_reply n room d sum =
    next n (S d) (word d keywords.Reply ∷ []) AreValues (values_marks d) (values room) _ (told_values n room d sum) (λ given vg. done n (S d) (word d keywords.Reply ∷ values_marks d given) (trees.Reply (exprs_of given)) (vg, refl))

-- ---- statements with statements in them

abbrev pub IsOther : Option StmtTrees → Type 0
IsOther None = ⊤
IsOther (Some body) = AreStmts body

abbrev pub other_in : ℕ → Option StmtTrees → List Mark
other_in d None = []
other_in d (Some body) = word d keywords.Else ∷ stmts_marks d body

told_otherwise : (n d : ℕ) (body : Parser StmtTrees) → d ≤ n → Tells n (B d) [] body → Tells n (Spells IsOther (other_in d)) [] (otherwise body)
unfolding otherwise
told_otherwise n d body fits h =
    let L : Option StmtTrees → List Mark → Type 0 = Spells IsOther (other_in d) in
    record {
      told = λ ts. either n L [] ts (sees_keyword keywords.Else ts) (advance >>= (λ _. body >>= (λ b. pure (Some b)))) (pure None)
          (λ seen. at_token n L [] (word d keywords.Else) ts (drop 1 ts) (advance >>= (λ _. body >>= (λ b. pure (Some b)))) (keyword_seen keywords.Else ts seen) fits
          ((next n L (word d keywords.Else ∷ []) AreStmts (stmts_marks d) body (λ b. pure (Some b)) h (λ b v. done n L (word d keywords.Else ∷ stmts_marks d b) (Some b) (v, refl))).told (drop 1 ts)))
          (λ none. (done n L [] None (tt, refl)).told ts);
      goes = record { value = None; marks = []; is = (tt, refl) };
    }

choice_is : (d : ℕ) (c : ExprTree) (b : StmtTrees) (o : Option StmtTrees) → IsExpr c → AreStmts b → IsOther o
    → S d (choice_of c b o) ((((((word d keywords.If ∷ []) ++ expr_marks d c) ++ word d keywords.Then ∷ []) ++ stmts_marks d b) ++ other_in d o) ++ word d keywords.End ∷ [])
choice_is d c b None vc vb vo = ((vc, vb), joined_choice (word d keywords.If) (expr_marks d c) (stmts_marks d b) [] (word d keywords.End ∷ []) (word d keywords.Then))
choice_is d c b (Some o) vc vb vo = ((vc, vb, vo), joined_choice (word d keywords.If) (expr_marks d c) (stmts_marks d b) (word d keywords.Else ∷ stmts_marks d o) (word d keywords.End ∷ []) (word d keywords.Then))

told_choice : (n room d : ℕ) (body : Parser StmtTrees) → room + d ≡ n → Tells n (B d) [] body → Tells n (S d) (word d keywords.If ∷ []) (choice room body)
unfolding choice
told_choice n room d body sum h =
    let fits : d ≤ n = omega arith in
    next n (S d) (word d keywords.If ∷ []) (Ranked 6) (expr_marks d) (expr (inside room)) _ (told_value n room d sum) (λ c vc.
    then_keyword n (S d) ((word d keywords.If ∷ []) ++ expr_marks d c) d keywords.Then _ fits (
    next n (S d) (((word d keywords.If ∷ []) ++ expr_marks d c) ++ word d keywords.Then ∷ []) AreStmts (stmts_marks d) body _ h (λ b vb.
    next n (S d) ((((word d keywords.If ∷ []) ++ expr_marks d c) ++ word d keywords.Then ∷ []) ++ stmts_marks d b) IsOther (other_in d) (otherwise body) _ (told_otherwise n d body fits h) (λ o vo.
    then_keyword n (S d) (((((word d keywords.If ∷ []) ++ expr_marks d c) ++ word d keywords.Then ∷ []) ++ stmts_marks d b) ++ other_in d o) d keywords.End _ fits (
    done n (S d) _ (choice_of c b o) (choice_is d c b o vc.1 vb vo))))))

told_repetition : (n room d : ℕ) (body : Parser StmtTrees) → room + d ≡ n → Tells n (B d) [] body → Tells n (S d) (word d keywords.While ∷ []) (repetition room body)
unfolding repetition
told_repetition n room d body sum h =
    let fits : d ≤ n = omega arith in
    next n (S d) (word d keywords.While ∷ []) (Ranked 6) (expr_marks d) (expr (inside room)) _ (told_value n room d sum) (λ c vc.
    then_keyword n (S d) ((word d keywords.While ∷ []) ++ expr_marks d c) d keywords.Do _ fits (
    next n (S d) (((word d keywords.While ∷ []) ++ expr_marks d c) ++ word d keywords.Do ∷ []) AreStmts (stmts_marks d) body _ h (λ b vb.
    then_keyword n (S d) ((((word d keywords.While ∷ []) ++ expr_marks d c) ++ word d keywords.Do ∷ []) ++ stmts_marks d b) d keywords.End _ fits (
    done n (S d) _ (trees.While c b) ((vc.1, vb), joined_three (word d keywords.While ∷ []) (expr_marks d c) (stmts_marks d b) (word d keywords.End ∷ []) (word d keywords.Do))))))

told_accept : (n room d : ℕ) (body : Parser StmtTrees) → room + d ≡ n → Tells n (B d) [] body → Tells n (S d) (word d keywords.Accept ∷ []) (accept room body)
unfolding accept
told_accept n room d body sum h =
    let fits : d ≤ n = omega arith in
    next n (S d) (word d keywords.Accept ∷ []) Anything (pair_marks d keywords.On) (pair keywords.On) _ (told_pair n d keywords.On fits) (λ p any.
    next n (S d) (word d keywords.Accept ∷ pair_marks d keywords.On p) Anything (names_marks d) (names room) _ (told_names n room d sum) (λ ns any'.
    then_keyword n (S d) ((word d keywords.Accept ∷ pair_marks d keywords.On p) ++ names_marks d ns) d keywords.Do _ fits (
    next n (S d) (((word d keywords.Accept ∷ pair_marks d keywords.On p) ++ names_marks d ns) ++ word d keywords.Do ∷ []) AreStmts (stmts_marks d) body _ h (λ b vb.
    then_keyword n (S d) ((((word d keywords.Accept ∷ pair_marks d keywords.On p) ++ names_marks d ns) ++ word d keywords.Do ∷ []) ++ stmts_marks d b) d keywords.End _ fits (
    done n (S d) _ (trees.Accept p.0 p.1 ns b) (vb, joined_three (word d keywords.Accept ∷ pair_marks d keywords.On p) (names_marks d ns) (stmts_marks d b) (word d keywords.End ∷ []) (word d keywords.Do)))))))

abbrev pub IsHandler : List ℕ × StmtTrees → Type 0
IsHandler h = AreStmts h.1

abbrev pub handler_marks : ℕ → List ℕ × StmtTrees → List Mark
handler_marks d h = word d keywords.When ∷ grammar.name d h.0 ∷ word d keywords.Do ∷ stmts_marks d h.1

told_handler : (n d : ℕ) (body : Parser StmtTrees) → d ≤ n → Tells n (B d) [] body → (ts : List Kind) → sees_keyword keywords.When ts ≡ true → Told n (Spells IsHandler (handler_marks d)) [] ts (handler body ts)
unfolding handler
told_handler n d body fits h ts seen =
    let L : List ℕ × StmtTrees → List Mark → Type 0 = Spells IsHandler (handler_marks d) in
    at_token n L [] (word d keywords.When) ts (drop 1 ts) (advance >>= (λ _. name >>= (λ m. keyword keywords.Do >>= (λ _. body >>= (λ b. pure (m, b)))))) (keyword_seen keywords.When ts seen) fits
    ((then_name n L (word d keywords.When ∷ []) d (λ m. keyword keywords.Do >>= (λ _. body >>= (λ b. pure (m, b)))) fits (λ m.
    then_keyword n L (word d keywords.When ∷ grammar.name d m ∷ []) d keywords.Do _ fits (
    next n L (word d keywords.When ∷ grammar.name d m ∷ word d keywords.Do ∷ []) AreStmts (stmts_marks d) body _ h (λ b vb. done n L (handler_marks d (m, b)) (m, b) (vb, refl))))).told (drop 1 ts))

handlers_more : (d : ℕ) (found : List (List ℕ × StmtTrees)) (x : List ℕ × StmtTrees) → handlers_marks d (handlers_of (found ++ x ∷ [])) ≡ handlers_marks d (handlers_of found) ++ handler_marks d x
handlers_more d [] x = ap (λ (ms : List Mark). word d keywords.When ∷ grammar.name d x.0 ∷ word d keywords.Do ∷ ms) (append-nil (stmts_marks d x.1))
handlers_more d (h ∷ hs) x =
    ap (λ (ms : List Mark). word d keywords.When ∷ grammar.name d h.0 ∷ word d keywords.Do ∷ (stmts_marks d h.1 ++ ms)) (handlers_more d hs x)
    ∙ ap (λ (ms : List Mark). word d keywords.When ∷ grammar.name d h.0 ∷ word d keywords.Do ∷ ms) (sym (append_assoc (stmts_marks d h.1) (handlers_marks d (handlers_of hs)) (handler_marks d x)))

are_handlers_more : (found : List (List ℕ × StmtTrees)) (x : List ℕ × StmtTrees) → AreHandlers (handlers_of found) → IsHandler x → AreHandlers (handlers_of (found ++ x ∷ []))
are_handlers_more [] x are is = (is, tt)
are_handlers_more (h ∷ hs) x are is = (are.0, are_handlers_more hs x are.1 is)

told_attempt : (n d : ℕ) (body : Parser StmtTrees) → d ≤ n → Tells n (B d) [] body → Tells n (S d) (word d keywords.Try ∷ []) (attempt body)
unfolding attempt
told_attempt n d body fits h =
    next n (S d) (word d keywords.Try ∷ []) AreStmts (stmts_marks d) body _ h (λ b vb.
    then_many n (S d) IsHandler (handler_marks d) (sees_keyword keywords.When) (handler body) (λ others. keyword keywords.End >>= (λ _. pure (trees.Try b (handlers_of others))))
    (λ found ms. AreHandlers (handlers_of found) × (ms ≡ (word d keywords.Try ∷ stmts_marks d b) ++ handlers_marks d (handlers_of found))) (told_handler n d body fits h)
    (λ found ms x known v. (
      are_handlers_more found x known.0 v,
      ap (λ (ys : List Mark). ys ++ handler_marks d x) known.1 ∙ append_assoc (word d keywords.Try ∷ stmts_marks d b) (handlers_marks d (handlers_of found)) (handler_marks d x) ∙ ap (λ (ys : List Mark). (word d keywords.Try ∷ stmts_marks d b) ++ ys) (sym (handlers_more d found x)),
    ))
    (λ found ms known. then_keyword n (S d) ms d keywords.End _ fits (done n (S d) (ms ++ word d keywords.End ∷ []) (trees.Try b (handlers_of found))
    ((vb, known.0), ap (λ (ys : List Mark). ys ++ word d keywords.End ∷ []) known.1 ∙ joined_attempt (word d keywords.Try) (stmts_marks d b) (handlers_marks d (handlers_of found)) (word d keywords.End ∷ []))))
    [] (word d keywords.Try ∷ stmts_marks d b) (tt, sym (append-nil (word d keywords.Try ∷ stmts_marks d b))))

-- ---- any statement

any_stmt : (d : ℕ) → Goes (S d) []
any_stmt d = record { value = trees.Stop; marks = word d keywords.Stop ∷ []; is = (tt, refl) }

told_within : (n room d : ℕ) (body : Parser StmtTrees) → room + d ≡ n → Tells n (B d) [] body → Tells n (S d) [] (within room body)
unfolding within
told_within n room d body sum h = record { told = λ ts. read ts; goes = any_stmt d }
  where
    fits : d ≤ n
    fits = omega (arith, sum)

    value : (w : Keyword) (made : ExprTree → StmtTree) → ((e : ExprTree) → IsExpr e → S d (made e) (word d w ∷ expr_marks d e)) → (ts : List Kind) → Told n (S d) [] (kinds.Keyword w ∷ ts) (then_parse (expr (inside room) ts) (λ e. pure (made e)))
    value w made is ts = token n (S d) [] (word d w) ts (then_parse (expr (inside room) ts) (λ e. pure (made e))) fits
        ((next n (S d) (word d w ∷ []) (Ranked 6) (expr_marks d) (expr (inside room)) (λ e. pure (made e)) (told_value n room d sum) (λ e v. done n (S d) (word d w ∷ expr_marks d e) (made e) (is e v.1))).told ts)

    named : (w : Keyword) (made : List ℕ → StmtTree) → ((m : List ℕ) → S d (made m) (word d w ∷ grammar.name d m ∷ [])) → (ts : List Kind) → Told n (S d) [] (kinds.Keyword w ∷ ts) (then_parse (name ts) (λ m. pure (made m)))
    named w made is ts = token n (S d) [] (word d w) ts (then_parse (name ts) (λ m. pure (made m))) fits
        ((then_name n (S d) (word d w ∷ []) d (λ m. pure (made m)) fits (λ m. done n (S d) (word d w ∷ grammar.name d m ∷ []) (made m) (is m))).told ts)

    paired : (w b : Keyword) (made : List ℕ × List ℕ → StmtTree) → ((p : List ℕ × List ℕ) → S d (made p) (word d w ∷ pair_marks d b p)) → (ts : List Kind) → Told n (S d) [] (kinds.Keyword w ∷ ts) (then_parse (pair b ts) (λ p. pure (made p)))
    paired w b made is ts = token n (S d) [] (word d w) ts (then_parse (pair b ts) (λ p. pure (made p))) fits
        ((next n (S d) (word d w ∷ []) Anything (pair_marks d b) (pair b) (λ p. pure (made p)) (told_pair n d b fits) (λ p any. done n (S d) (word d w ∷ pair_marks d b p) (made p) (is p))).told ts)

    headed : (w : Keyword) (p : Parser StmtTree) → Tells n (S d) (word d w ∷ []) p → (ts : List Kind) → Told n (S d) [] (kinds.Keyword w ∷ ts) (p ts)
    headed w p g ts = token n (S d) [] (word d w) ts (p ts) fits (g.told ts)

    read : (ts : List Kind) → Told n (S d) [] ts (within room body ts)
    read (kinds.Name m ∷ ts) = (told_assign n room d sum).told (kinds.Name m ∷ ts)
    read (kinds.Keyword keywords.If ∷ ts) = headed keywords.If (choice room body) (told_choice n room d body sum h) ts
    read (kinds.Keyword keywords.While ∷ ts) = headed keywords.While (repetition room body) (told_repetition n room d body sum h) ts
    read (kinds.Keyword keywords.Write ∷ ts) = value keywords.Write trees.Write (λ e v. (v, refl)) ts
    read (kinds.Keyword keywords.Await ∷ ts) = value keywords.Await trees.Await (λ e v. (v, refl)) ts
    read (kinds.Keyword keywords.Stop ∷ ts) = headed keywords.Stop (pure trees.Stop) (done n (S d) (word d keywords.Stop ∷ []) trees.Stop (tt, refl)) ts
    read (kinds.Keyword keywords.Raise ∷ ts) = named keywords.Raise trees.Raise (λ m. (tt, refl)) ts
    read (kinds.Keyword keywords.New ∷ ts) = headed keywords.New new (told_new n d fits) ts
    read (kinds.Keyword keywords.Destroy ∷ ts) = named keywords.Destroy trees.Destroy (λ m. (tt, refl)) ts
    read (kinds.Keyword keywords.Bind ∷ ts) = paired keywords.Bind keywords.To (λ p. trees.Bind p.0 p.1) (λ p. (tt, refl)) ts
    read (kinds.Keyword keywords.Unbind ∷ ts) = paired keywords.Unbind keywords.From (λ p. trees.Unbind p.0 p.1) (λ p. (tt, refl)) ts
    read (kinds.Keyword keywords.Connect ∷ ts) = headed keywords.Connect (connect room) (told_connect n room d sum) ts
    read (kinds.Keyword keywords.Accept ∷ ts) = headed keywords.Accept (accept room body) (told_accept n room d body sum h) ts
    read (kinds.Keyword keywords.Reply ∷ ts) = headed keywords.Reply (reply room) (told_reply n room d sum) ts
    read (kinds.Keyword keywords.Try ∷ ts) = headed keywords.Try (attempt body) (told_attempt n d body fits h) ts
    read [] = refused n (S d) [] [] (any_stmt d)
    read (kinds.Keyword k ∷ ts) = refused n (S d) [] (kinds.Keyword k ∷ ts) (any_stmt d)
    read (kinds.Sign k ∷ ts) = refused n (S d) [] (kinds.Sign k ∷ ts) (any_stmt d)
    read (kinds.Number k ∷ ts) = refused n (S d) [] (kinds.Number k ∷ ts) (any_stmt d)
    read (kinds.Text k ∷ ts) = refused n (S d) [] (kinds.Text k ∷ ts) (any_stmt d)

-- the tokens begin a statement
record Begun (d : ℕ) (ts : List Kind) : Type 0 where
  pub one : Mark
  pub rest : List Kind
  pub is : ts ≡ one.kind ∷ rest
  pub at : one.depth ≡ d
  pub goes : Goes (S d) (one ∷ [])

begun : (d : ℕ) (ts : List Kind) → begins_stmt ts ≡ true → Begun d ts
unfolding begins_stmt
begun d (kinds.Name m ∷ ts) h = record { one = grammar.name d m; rest = ts; is = refl; at = refl; goes = record { value = trees.Assign m trees.True; marks = mark d signs.Becomes ∷ word d keywords.True ∷ []; is = (tt, refl) } }
begun d (kinds.Keyword keywords.If ∷ ts) h = record { one = word d keywords.If; rest = ts; is = refl; at = refl; goes = record { value = trees.If trees.True trees.no_stmts; marks = word d keywords.True ∷ word d keywords.Then ∷ word d keywords.End ∷ []; is = ((tt, tt), refl) } }
begun d (kinds.Keyword keywords.While ∷ ts) h = record { one = word d keywords.While; rest = ts; is = refl; at = refl; goes = record { value = trees.While trees.True trees.no_stmts; marks = word d keywords.True ∷ word d keywords.Do ∷ word d keywords.End ∷ []; is = ((tt, tt), refl) } }
begun d (kinds.Keyword keywords.Write ∷ ts) h = record { one = word d keywords.Write; rest = ts; is = refl; at = refl; goes = record { value = trees.Write trees.True; marks = word d keywords.True ∷ []; is = (tt, refl) } }
begun d (kinds.Keyword keywords.Await ∷ ts) h = record { one = word d keywords.Await; rest = ts; is = refl; at = refl; goes = record { value = trees.Await trees.True; marks = word d keywords.True ∷ []; is = (tt, refl) } }
begun d (kinds.Keyword keywords.Stop ∷ ts) h = record { one = word d keywords.Stop; rest = ts; is = refl; at = refl; goes = record { value = trees.Stop; marks = []; is = (tt, refl) } }
begun d (kinds.Keyword keywords.Raise ∷ ts) h = record { one = word d keywords.Raise; rest = ts; is = refl; at = refl; goes = record { value = trees.Raise []; marks = grammar.name d [] ∷ []; is = (tt, refl) } }
begun d (kinds.Keyword keywords.New ∷ ts) h = record { one = word d keywords.New; rest = ts; is = refl; at = refl; goes = record { value = trees.New [] []; marks = grammar.name d [] ∷ mark d signs.Comma ∷ grammar.name d [] ∷ []; is = (tt, refl) } }
begun d (kinds.Keyword keywords.Destroy ∷ ts) h = record { one = word d keywords.Destroy; rest = ts; is = refl; at = refl; goes = record { value = trees.Destroy []; marks = grammar.name d [] ∷ []; is = (tt, refl) } }
begun d (kinds.Keyword keywords.Bind ∷ ts) h = record { one = word d keywords.Bind; rest = ts; is = refl; at = refl; goes = record { value = trees.Bind [] []; marks = grammar.name d [] ∷ word d keywords.To ∷ grammar.name d [] ∷ []; is = (tt, refl) } }
begun d (kinds.Keyword keywords.Unbind ∷ ts) h = record { one = word d keywords.Unbind; rest = ts; is = refl; at = refl; goes = record { value = trees.Unbind [] []; marks = grammar.name d [] ∷ word d keywords.From ∷ grammar.name d [] ∷ []; is = (tt, refl) } }
begun d (kinds.Keyword keywords.Connect ∷ ts) h =
    record {
      one = word d keywords.Connect;
      rest = ts;
      is = refl;
      at = refl;
      goes = record { value = trees.Connect [] [] trees.no_exprs []; marks = grammar.name d [] ∷ word d keywords.On ∷ grammar.name d [] ∷ mark (suc d) signs.Open ∷ mark (suc d) signs.Close ∷ mark d signs.Colon ∷ mark (suc d) signs.Open ∷ mark (suc d) signs.Close ∷ []; is = (tt, refl) };
    }
begun d (kinds.Keyword keywords.Accept ∷ ts) h =
    record {
      one = word d keywords.Accept;
      rest = ts;
      is = refl;
      at = refl;
      goes = record { value = trees.Accept [] [] [] trees.no_stmts; marks = grammar.name d [] ∷ word d keywords.On ∷ grammar.name d [] ∷ mark (suc d) signs.Open ∷ mark (suc d) signs.Close ∷ word d keywords.Do ∷ word d keywords.End ∷ []; is = (tt, refl) };
    }
begun d (kinds.Keyword keywords.Reply ∷ ts) h = record { one = word d keywords.Reply; rest = ts; is = refl; at = refl; goes = record { value = trees.Reply trees.no_exprs; marks = mark (suc d) signs.Open ∷ mark (suc d) signs.Close ∷ []; is = (tt, refl) } }
begun d (kinds.Keyword keywords.Try ∷ ts) h = record { one = word d keywords.Try; rest = ts; is = refl; at = refl; goes = record { value = trees.Try trees.no_stmts trees.no_handlers; marks = word d keywords.End ∷ []; is = ((tt, tt), refl) } }
begun d [] h = absurd (false≢true h)
begun d (kinds.Keyword k ∷ ts) h = absurd (false≢true h)
begun d (kinds.Sign k ∷ ts) h = absurd (false≢true h)
begun d (kinds.Number k ∷ ts) h = absurd (false≢true h)
begun d (kinds.Text k ∷ ts) h = absurd (false≢true h)

-- ---- lists of statements

abbrev pub OnStart : ℕ → ℕ → Parser StmtTree → Type 0
OnStart n d one = (ts : List Kind) → begins_stmt ts ≡ true → Told n (S d) [] ts (one ts)

abbrev pub ended_marks : ℕ → StmtTree → List Mark
ended_marks d s = stmt_marks (suc d) s ++ mark d signs.Semicolon ∷ []

told_ended : (n d : ℕ) (one : Parser StmtTree) → d ≤ n → OnStart n (suc d) one → (ts : List Kind) → begins_stmt ts ≡ true → Told n (Spells IsStmt (ended_marks d)) [] ts (ended one ts)
told_ended n d one fits h ts begins =
    let L : StmtTree → List Mark → Type 0 = Spells IsStmt (ended_marks d) in
    let last : (s : StmtTree) → IsStmt s → Tells n L (stmt_marks (suc d) s) (sign signs.Semicolon >>= (λ _. pure s)) =
    λ s v. then_sign n L (stmt_marks (suc d) s) d signs.Semicolon (λ _. pure s) fits (done n L (ended_marks d s) s (v, refl)) in
    bind_told n L [] IsStmt (stmt_marks (suc d)) (λ s. sign signs.Semicolon >>= (λ _. pure s)) ts (one ts) (h ts begins) (λ s v. (last s v).goes) (λ s v within mid. (last s v).told mid)

stmts_more : (d : ℕ) (found : List StmtTree) (s : StmtTree) → stmts_marks d (stmts_of (found ++ s ∷ [])) ≡ stmts_marks d (stmts_of found) ++ ended_marks d s
stmts_more d [] s = refl
stmts_more d (x ∷ xs) s =
    ap (λ (ms : List Mark). stmt_marks (suc d) x ++ mark d signs.Semicolon ∷ ms) (stmts_more d xs s)
    ∙ sym (append_assoc (stmt_marks (suc d) x) (mark d signs.Semicolon ∷ stmts_marks d (stmts_of xs)) (ended_marks d s))

are_stmts_more : (found : List StmtTree) (s : StmtTree) → AreStmts (stmts_of found) → IsStmt s → AreStmts (stmts_of (found ++ s ∷ []))
are_stmts_more [] s are is = (is, tt)
are_stmts_more (x ∷ xs) s are is = (are.0, are_stmts_more xs s are.1 is)

told_body : (n d : ℕ) (one : Parser StmtTree) → d ≤ n → OnStart n (suc d) one → Tells n (B d) [] (stmts_by one)
told_body n d one fits h =
    then_many n (B d) IsStmt (ended_marks d) begins_stmt (ended one) (λ all. pure (stmts_of all))
    (λ found ms. AreStmts (stmts_of found) × (ms ≡ stmts_marks d (stmts_of found))) (told_ended n d one fits h)
    (λ found ms s known v. (are_stmts_more found s known.0 v, ap (λ (ys : List Mark). ys ++ ended_marks d s) known.1 ∙ sym (stmts_more d found s)))
    (λ found ms known. done n (B d) ms (stmts_of found) known) [] [] (tt, refl)

-- where so many more may be open
told_stmt : (n room d : ℕ) → room + d ≡ n → OnStart n (suc d) (stmt room)
unfolding stmt
told_stmt n zero d sum ts begins =
    let b : Begun (suc d) ts = begun (suc d) ts begins in
    subst (λ (us : List Kind). Told n (S (suc d)) [] us (Err (refusals.TooDeep (length us)))) (sym b.is) (opens n (S (suc d)) [] b.one b.rest b.goes (omega (arith, b.at)))
told_stmt n (suc room) d sum ts begins =
    let less : room + suc d ≡ n = omega arith in
    (told_within n room (suc d) (stmts_by (stmt room)) less (told_body n (suc d) (stmt room) (omega arith) (told_stmt n room (suc d) less))).told ts

pub told_stmts : (n room d : ℕ) → room + d ≡ n → Tells n (B d) [] (stmts room)
unfolding stmts
told_stmts n room d sum = told_body n d (stmt room) (omega arith) (told_stmt n room d sum)
