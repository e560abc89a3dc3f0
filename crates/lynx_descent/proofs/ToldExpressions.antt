-- What reading expressions tells.
use Rattle.std.proofs.Common.{◌≡◌, ℕ, zero, suc, ◌+◌, ◌<◌, ◌≤◌, true, List, [], ◌∷◌, ◌++◌, length, drop, Option, Some, None, Ok, refl, sym, ap, subst, ◌∙◌, append_assoc, arith}
use Rattle.std.specs.Prelude.{⊤, is_some, if◌then◌else◌}
use Rattle.std.proofs.lemmas.Bool.{false≢true}
use Rattle.std.proofs.lemmas.List.{append-nil}
use Rattle.lynx_lexer.specs.declared.keyword.Keyword.{Keyword}
use Rattle.lynx_lexer.specs.declared.keyword.Keyword.TheVariants as keywords
use Rattle.lynx_lexer.specs.declared.sign.Sign.{Sign}
use Rattle.lynx_lexer.specs.declared.sign.Sign.TheVariants as signs
use Rattle.lynx_lexer.specs.declared.token.Kind.{Kind}
use Rattle.lynx_lexer.specs.declared.token.Kind.TheVariants as kinds
use Rattle.lynx_tree.specs.declared.expression.TermSign.{TermSign}
use Rattle.lynx_tree.specs.declared.expression.TermSign.TheVariants as term_signs
use Rattle.lynx_tree.specs.Trees as trees
use Rattle.lynx_tree.specs.Trees.{ExprTree, ExprTrees}
use Rattle.lynx_tree.specs.Grammar as grammar
use Rattle.lynx_tree.specs.Grammar.{Mark, word, mark, expr_marks, index_marks, chain_marks, behind_marks, sum_marks, term_marks, rank, IsExpr, AreExprs, AreSums, AreTerms, HasTwo, HasSums, HasTerms, IsSumSign, IsRelationSign}
use Rattle.lynx_descent.specs.Reading.{Parser, then_parse, ◌>>=◌, pure, sign, advance, sees_keyword, sees_sign, number, text, many}
use Rattle.lynx_descent.specs.ReadingExpressions.{exprs_of, sums_of, terms_of, sum_of, term_of, named_of, relation_sign, sum_sign, term_sign, behind_sign, index, named, prim, unary, term, sum, rel_by, rel, conj, expr, inside}
use Rattle.lynx_descent.proofs.Told.{Told, Tells, Goes, Spells, bind_told, next, done, refused, opens, token, respelled}
use Rattle.lynx_descent.proofs.ToldTokens.{keyword_seen, sign_seen, either, at_token, then_sign, then_name, then_many}

-- an expression that binds so tightly
abbrev pub Ranked : ℕ → ExprTree → Type 0
Ranked r e = (rank e ≤ r) × IsExpr e

abbrev pub E : ℕ → ℕ → ExprTree → List Mark → Type 0
E d r = Spells (Ranked r) (expr_marks d)

-- an expression behind an opening bracket
abbrev pub Behind : Mark → ℕ → ExprTree → List Mark → Type 0
Behind t d = Spells (Ranked 6) (λ e. t ∷ expr_marks d e)

abbrev pub Inner : ℕ → ℕ → Parser ExprTree → Type 0
Inner n d inner = (t : Mark) → t.depth ≡ suc d → (ts : List Kind) → Told n (Behind t (suc d)) [] (t.kind ∷ ts) (inner (t.kind ∷ ts))

any_expr : (L : ExprTree → List Mark → Type 0) (acc : List Mark) → (ms : List Mark) → L trees.True (acc ++ ms) → Goes L acc
any_expr L acc ms h = record { value = trees.True; marks = ms; is = h }

pub any_ranked : (d r : ℕ) → Goes (E d r) []
any_ranked d r = any_expr (E d r) [] (word d keywords.True ∷ []) ((omega arith, tt), refl)

any_behind : (t : Mark) (d : ℕ) → Goes (Behind t d) []
any_behind t d = any_expr (Behind t d) [] (t ∷ word d keywords.True ∷ []) ((omega arith, tt), refl)

-- what binds more tightly binds loosely enough
pub widened : (n d r q : ℕ) (p : Parser ExprTree) → r ≤ q → Tells n (E d r) [] p → Tells n (E d q) [] p
widened n d r q p le h = record {
  told = λ ts. respelled n (E d r) (E d q) [] [] ts (p ts) (λ e ms is. ((omega (arith, is.0.0), is.0.1), is.1)) (h.told ts);
  goes = record { value = h.goes.value; marks = h.goes.marks; is = ((omega (arith, h.goes.is.0.0), h.goes.is.0.1), h.goes.is.1) };
}

-- ---- indices and names

abbrev pub IsIndex : Option ExprTree → Type 0
IsIndex None = ⊤
IsIndex (Some e) = IsExpr e

abbrev pub index_in : ℕ → Option ExprTree → List Mark
index_in d None = []
index_in d (Some e) = index_marks d e

pub told_index : (n d : ℕ) (inner : Parser ExprTree) → Inner n d inner → Tells n (Spells IsIndex (index_in d)) [] (index inner)
unfolding index
told_index n d inner h =
    let open_row : Mark = mark (suc d) signs.OpenRow in
    let L : Option ExprTree → List Mark → Type 0 = Spells IsIndex (index_in d) in
    record {
      told = λ ts. either n L [] ts (sees_sign signs.OpenRow ts) _ _
          (λ seen. subst (λ (us : List Kind). Told n L [] us (then_parse (inner us) (λ e. sign signs.CloseRow >>= (λ _. pure (Some e))))) (sym (sign_seen signs.OpenRow ts seen))
          (bind_told n L [] (Ranked 6) (λ e. open_row ∷ expr_marks (suc d) e) _ _ _ (h open_row refl (drop 1 ts))
          (λ e v. record { value = Some e; marks = mark (suc d) signs.CloseRow ∷ []; is = (v.1, refl) })
          (λ e v within. (then_sign n L _ (suc d) signs.CloseRow _ within.0 (done n L _ (Some e) (v.1, refl))).told)))
          (λ none. (done n L [] None (tt, refl)).told ts);
      goes = record { value = None; marks = []; is = (tt, refl) };
    }

pub told_named : (n d : ℕ) (inner : Parser ExprTree) → d ≤ n → Inner n d inner → Tells n (E d 0) [] (named inner)
unfolding named
told_named n d inner fits h =
    then_name n (E d 0) [] d _ fits (λ m. next n (E d 0) _ IsIndex (index_in d) (index inner) _ (told_index n d inner h) (λ i v. done n (E d 0) _ (named_of m i) (is m i v)))
  where
    is : (m : List ℕ) (i : Option ExprTree) → IsIndex i → E d 0 (named_of m i) (([] ++ grammar.name d m ∷ []) ++ index_in d i)
    is m None v = ((omega arith, tt), refl)
    is m (Some e) v = ((omega arith, v), refl)

-- ---- primaries

pub told_prim : (n d : ℕ) (inner : Parser ExprTree) → d ≤ n → Inner n d inner → Tells n (E d 0) [] (prim inner)
unfolding prim number text
told_prim n d inner fits h = record { told = λ ts. read ts; goes = any }
  where
    any : Goes (E d 0) []
    any = any_ranked d 0

    read : (ts : List Kind) → Told n (E d 0) [] ts (prim inner ts)
    read [] = refused n (E d 0) [] [] any
    read (kinds.Keyword keywords.True ∷ ts) = token n (E d 0) [] (word d keywords.True) ts (Ok (trees.True, ts)) fits ((done n (E d 0) (word d keywords.True ∷ []) trees.True ((omega arith, tt), refl)).told ts)
    read (kinds.Keyword keywords.False ∷ ts) = token n (E d 0) [] (word d keywords.False) ts (Ok (trees.False, ts)) fits ((done n (E d 0) (word d keywords.False ∷ []) trees.False ((omega arith, tt), refl)).told ts)
    read (kinds.Keyword k ∷ ts) = refused n (E d 0) [] (kinds.Keyword k ∷ ts) any
    read (kinds.Sign signs.Open ∷ ts) =
        bind_told n (E d 0) [] (Ranked 6) (λ e. mark (suc d) signs.Open ∷ expr_marks (suc d) e) (λ e. sign signs.Close >>= (λ _. pure (trees.Bracket e))) (kinds.Sign signs.Open ∷ ts) (inner (kinds.Sign signs.Open ∷ ts)) (h (mark (suc d) signs.Open) refl ts)
        (λ e v. record { value = trees.Bracket e; marks = mark (suc d) signs.Close ∷ []; is = ((omega arith, v.1), refl) })
        (λ e v within.
        (then_sign n (E d 0) (mark (suc d) signs.Open ∷ expr_marks (suc d) e) (suc d) signs.Close (λ _. pure (trees.Bracket e)) within.0 (done n (E d 0) ((mark (suc d) signs.Open ∷ expr_marks (suc d) e) ++ mark (suc d) signs.Close ∷ []) (trees.Bracket e) ((omega arith, v.1), refl))).told)
    read (kinds.Sign s ∷ ts) = refused n (E d 0) [] (kinds.Sign s ∷ ts) any
    read (kinds.Name m ∷ ts) = (told_named n d inner fits h).told (kinds.Name m ∷ ts)
    read (kinds.Number m ∷ ts) = token n (E d 0) [] (record { kind = kinds.Number m; depth = d }) ts (Ok (trees.Number m, ts)) fits ((done n (E d 0) (record { kind = kinds.Number m; depth = d } ∷ []) (trees.Number m) ((omega arith, tt), refl)).told ts)
    read (kinds.Text m ∷ ts) = token n (E d 0) [] (record { kind = kinds.Text m; depth = d }) ts (Ok (trees.Text m, ts)) fits ((done n (E d 0) (record { kind = kinds.Text m; depth = d } ∷ []) (trees.Text m) ((omega arith, tt), refl)).told ts)

-- ---- signs and chains

abbrev pub IsUnit : Unit {0} → Type 0
IsUnit _ = ⊤

pub told_unary : (n d : ℕ) (inner : Parser ExprTree) → d ≤ n → Inner n d inner → Tells n (E d 1) [] (unary inner)
unfolding unary
told_unary n d inner fits h = record { told = λ ts. read ts; goes = any_ranked d 1 }
  where
    looser : Tells n (E d 1) [] (prim inner)
    looser = widened n d 0 1 (prim inner) (omega arith) (told_prim n d inner fits h)

    behind_it : (t : Mark) (made : ExprTree → ExprTree) → t.depth ≡ d → ((e : ExprTree) → Ranked 0 e → E d 1 (made e) (t ∷ expr_marks d e)) → (ts : List Kind) → Told n (E d 1) [] (t.kind ∷ ts) (then_parse (prim inner ts) (λ e. pure (made e)))
    behind_it t made at is ts =
        token n (E d 1) [] t ts (then_parse (prim inner ts) (λ e. pure (made e))) (omega arith)
        ((next n (E d 1) (t ∷ []) (Ranked 0) (expr_marks d) (prim inner) (λ e. pure (made e)) (told_prim n d inner fits h) (λ e v. done n (E d 1) (t ∷ expr_marks d e) (made e) (is e v))).told ts)

    read : (ts : List Kind) → Told n (E d 1) [] ts (unary inner ts)
    read [] = looser.told []
    read (kinds.Keyword keywords.Not ∷ ts) = behind_it (word d keywords.Not) trees.Not refl (λ e v. ((omega arith, (omega (arith, v.0), v.1)), refl)) ts
    read (kinds.Keyword k ∷ ts) = looser.told (kinds.Keyword k ∷ ts)
    read (kinds.Sign signs.Minus ∷ ts) = behind_it (mark d signs.Minus) trees.Minus refl (λ e v. ((omega arith, (omega (arith, v.0), v.1)), refl)) ts
    read (kinds.Sign s ∷ ts) = looser.told (kinds.Sign s ∷ ts)
    read (kinds.Name m ∷ ts) = looser.told (kinds.Name m ∷ ts)
    read (kinds.Number m ∷ ts) = looser.told (kinds.Number m ∷ ts)
    read (kinds.Text m ∷ ts) = looser.told (kinds.Text m ∷ ts)

-- an operator and what it joins
member_told : {S : Type 0} (n d r : ℕ) (V : S × ExprTree → Type 0) (w : S × ExprTree → List Mark) (p : Parser ExprTree) (t : Mark) (s : S) → t.depth ≤ n → ((e : ExprTree) → Ranked r e → V (s, e)) → ((e : ExprTree) → w (s, e) ≡ t ∷ expr_marks d e)
    → Tells n (E d r) [] p → (ts : List Kind) → Told n (Spells V w) [] (t.kind ∷ ts) (then_parse (p ts) (λ e. pure (s, e)))
member_told n d r V w p t s fits holds is h ts =
    token n (Spells V w) [] t ts (then_parse (p ts) (λ e. pure (s, e))) fits
    ((next n (Spells V w) (t ∷ []) (Ranked r) (expr_marks d) p (λ e. pure (s, e)) h (λ e v. done n (Spells V w) (t ∷ expr_marks d e) (s, e) (holds e v, sym (is e)))).told ts)

abbrev pub IsFactor : TermSign × ExprTree → Type 0
IsFactor x = Ranked 1 x.1

abbrev pub factor_marks : ℕ → TermSign × ExprTree → List Mark
factor_marks d x = grammar.term_sign d x.0 ∷ expr_marks d x.1

factor_told : (n d : ℕ) (inner : Parser ExprTree) → d ≤ n → Inner n d inner → (ts : List Kind) → is_some (term_sign ts) ≡ true → Told n (Spells IsFactor (factor_marks d)) [] ts (behind_sign (term_sign ts) (unary inner) ts)
unfolding term_sign
factor_told n d inner fits h (kinds.Sign signs.Times ∷ ts) some = member_told n d 1 IsFactor (factor_marks d) (unary inner) (mark d signs.Times) term_signs.Times fits (λ e v. v) (λ e. refl) (told_unary n d inner fits h) ts
factor_told n d inner fits h (kinds.Sign signs.Over ∷ ts) some = member_told n d 1 IsFactor (factor_marks d) (unary inner) (mark d signs.Over) term_signs.Over fits (λ e v. v) (λ e. refl) (told_unary n d inner fits h) ts
factor_told n d inner fits h (kinds.Keyword keywords.Mod ∷ ts) some = member_told n d 1 IsFactor (factor_marks d) (unary inner) (word d keywords.Mod) term_signs.Mod fits (λ e v. v) (λ e. refl) (told_unary n d inner fits h) ts
factor_told n d inner fits h [] some = absurd (false≢true some)
factor_told n d inner fits h (kinds.Sign s ∷ ts) some = absurd (false≢true some)
factor_told n d inner fits h (kinds.Keyword k ∷ ts) some = absurd (false≢true some)
factor_told n d inner fits h (kinds.Name m ∷ ts) some = absurd (false≢true some)
factor_told n d inner fits h (kinds.Number m ∷ ts) some = absurd (false≢true some)
factor_told n d inner fits h (kinds.Text m ∷ ts) some = absurd (false≢true some)

terms_more : (d : ℕ) (found : List (TermSign × ExprTree)) (x : TermSign × ExprTree) → term_marks d (terms_of (found ++ x ∷ [])) ≡ term_marks d (terms_of found) ++ factor_marks d x
terms_more d [] x = ap (λ (ms : List Mark). grammar.term_sign d x.0 ∷ ms) (append-nil (expr_marks d x.1))
terms_more d (m ∷ ms) x =
    ap (λ (ys : List Mark). grammar.term_sign d m.0 ∷ (expr_marks d m.1 ++ ys)) (terms_more d ms x)
    ∙ ap (λ (ys : List Mark). grammar.term_sign d m.0 ∷ ys) (sym (append_assoc (expr_marks d m.1) (term_marks d (terms_of ms)) (factor_marks d x)))

are_terms_more : (found : List (TermSign × ExprTree)) (x : TermSign × ExprTree) → AreTerms (terms_of found) → IsFactor x → AreTerms (terms_of (found ++ x ∷ []))
are_terms_more [] x are is = (is.0, is.1, tt)
are_terms_more (m ∷ ms) x are is = (are.0, are.1, are_terms_more ms x are.2 is)

term_is : (d : ℕ) (first : ExprTree) (found : List (TermSign × ExprTree)) (acc : List Mark) → Ranked 1 first → AreTerms (terms_of found) → acc ≡ expr_marks d first ++ term_marks d (terms_of found) → E d 2 (term_of first found) acc
term_is d first [] acc v are is = ((omega (arith, v.0), v.1), is ∙ append-nil (expr_marks d first))
term_is d first (m ∷ ms) acc v are is = ((omega arith, (v.0, v.1, tt, are)), is)

pub told_term : (n d : ℕ) (inner : Parser ExprTree) → d ≤ n → Inner n d inner → Tells n (E d 2) [] (term inner)
unfolding term
told_term n d inner fits h =
    next n (E d 2) [] (Ranked 1) (expr_marks d) (unary inner) _ (told_unary n d inner fits h) (λ first v.
    then_many n (E d 2) IsFactor (factor_marks d) (λ ts. is_some (term_sign ts)) (λ ts. behind_sign (term_sign ts) (unary inner) ts) (λ rest. pure (term_of first rest))
    (λ found acc. AreTerms (terms_of found) × (acc ≡ expr_marks d first ++ term_marks d (terms_of found))) (factor_told n d inner fits h)
    (λ found acc x r is. (are_terms_more found x r.0 is, ap (λ (ms : List Mark). ms ++ factor_marks d x) r.1 ∙ append_assoc (expr_marks d first) (term_marks d (terms_of found)) (factor_marks d x) ∙ ap (λ (ms : List Mark). expr_marks d first ++ ms) (sym (terms_more d found x))))
    (λ found acc r. done n (E d 2) acc (term_of first found) (term_is d first found acc v r.0 r.1)) [] (expr_marks d first) (tt, sym (append-nil (expr_marks d first))))

abbrev pub IsSummand : Sign × ExprTree → Type 0
IsSummand x = IsSumSign x.0 × Ranked 2 x.1

abbrev pub summand_marks : ℕ → Sign × ExprTree → List Mark
summand_marks d x = mark d x.0 ∷ expr_marks d x.1

summand_told : (n d : ℕ) (inner : Parser ExprTree) → d ≤ n → Inner n d inner → (ts : List Kind) → is_some (sum_sign ts) ≡ true → Told n (Spells IsSummand (summand_marks d)) [] ts (behind_sign (sum_sign ts) (term inner) ts)
unfolding sum_sign
summand_told n d inner fits h (kinds.Sign signs.Plus ∷ ts) some = member_told n d 2 IsSummand (summand_marks d) (term inner) (mark d signs.Plus) signs.Plus fits (λ e v. (tt, v)) (λ e. refl) (told_term n d inner fits h) ts
summand_told n d inner fits h (kinds.Sign signs.Minus ∷ ts) some = member_told n d 2 IsSummand (summand_marks d) (term inner) (mark d signs.Minus) signs.Minus fits (λ e v. (tt, v)) (λ e. refl) (told_term n d inner fits h) ts
summand_told n d inner fits h [] some = absurd (false≢true some)
summand_told n d inner fits h (kinds.Sign s ∷ ts) some = absurd (false≢true some)
summand_told n d inner fits h (kinds.Keyword k ∷ ts) some = absurd (false≢true some)
summand_told n d inner fits h (kinds.Name m ∷ ts) some = absurd (false≢true some)
summand_told n d inner fits h (kinds.Number m ∷ ts) some = absurd (false≢true some)
summand_told n d inner fits h (kinds.Text m ∷ ts) some = absurd (false≢true some)

sums_more : (d : ℕ) (found : List (Sign × ExprTree)) (x : Sign × ExprTree) → sum_marks d (sums_of (found ++ x ∷ [])) ≡ sum_marks d (sums_of found) ++ summand_marks d x
sums_more d [] x = ap (λ (ms : List Mark). mark d x.0 ∷ ms) (append-nil (expr_marks d x.1))
sums_more d (m ∷ ms) x =
    ap (λ (ys : List Mark). mark d m.0 ∷ (expr_marks d m.1 ++ ys)) (sums_more d ms x)
    ∙ ap (λ (ys : List Mark). mark d m.0 ∷ ys) (sym (append_assoc (expr_marks d m.1) (sum_marks d (sums_of ms)) (summand_marks d x)))

are_sums_more : (found : List (Sign × ExprTree)) (x : Sign × ExprTree) → AreSums (sums_of found) → IsSummand x → AreSums (sums_of (found ++ x ∷ []))
are_sums_more [] x are is = (is.0, is.1.0, is.1.1, tt)
are_sums_more (m ∷ ms) x are is = (are.0, are.1, are.2, are_sums_more ms x are.3 is)

sum_is : (d : ℕ) (first : ExprTree) (found : List (Sign × ExprTree)) (acc : List Mark) → Ranked 2 first → AreSums (sums_of found) → acc ≡ expr_marks d first ++ sum_marks d (sums_of found) → E d 3 (sum_of first found) acc
sum_is d first [] acc v are is = ((omega (arith, v.0), v.1), is ∙ append-nil (expr_marks d first))
sum_is d first (m ∷ ms) acc v are is = ((omega arith, (v.0, v.1, tt, are)), is)

pub told_sum : (n d : ℕ) (inner : Parser ExprTree) → d ≤ n → Inner n d inner → Tells n (E d 3) [] (sum inner)
unfolding sum
told_sum n d inner fits h =
    next n (E d 3) [] (Ranked 2) (expr_marks d) (term inner) _ (told_term n d inner fits h) (λ first v.
    then_many n (E d 3) IsSummand (summand_marks d) (λ ts. is_some (sum_sign ts)) (λ ts. behind_sign (sum_sign ts) (term inner) ts) (λ rest. pure (sum_of first rest))
    (λ found acc. AreSums (sums_of found) × (acc ≡ expr_marks d first ++ sum_marks d (sums_of found))) (summand_told n d inner fits h)
    (λ found acc x r is. (are_sums_more found x r.0 is, ap (λ (ms : List Mark). ms ++ summand_marks d x) r.1 ∙ append_assoc (expr_marks d first) (sum_marks d (sums_of found)) (summand_marks d x) ∙ ap (λ (ms : List Mark). expr_marks d first ++ ms) (sym (sums_more d found x))))
    (λ found acc r. done n (E d 3) acc (sum_of first found) (sum_is d first found acc v r.0 r.1)) [] (expr_marks d first) (tt, sym (append-nil (expr_marks d first))))

pub told_rel : (n d : ℕ) (inner : Parser ExprTree) → d ≤ n → Inner n d inner → Tells n (E d 4) [] (rel inner)
unfolding rel relation_sign
told_rel n d inner fits h =
    next n (E d 4) [] (Ranked 3) (expr_marks d) (sum inner) _ (told_sum n d inner fits h) (λ first v. record { told = λ ts. read first v ts; goes = (alone first v).goes })
  where
    alone : (first : ExprTree) → Ranked 3 first → Tells n (E d 4) (expr_marks d first) (pure first)
    alone first v = done n (E d 4) (expr_marks d first) first ((omega (arith, v.0), v.1), refl)

    compared : (first : ExprTree) → Ranked 3 first → (s : Sign) → IsRelationSign s → (ts : List Kind) → Told n (E d 4) (expr_marks d first) (kinds.Sign s ∷ ts) (then_parse (sum inner ts) (λ e. pure (trees.Relation first s e)))
    compared first v s is ts =
        token n (E d 4) (expr_marks d first) (mark d s) ts (then_parse (sum inner ts) (λ e. pure (trees.Relation first s e))) fits
        ((next n (E d 4) (expr_marks d first ++ mark d s ∷ []) (Ranked 3) (expr_marks d) (sum inner) (λ e. pure (trees.Relation first s e)) (told_sum n d inner fits h)
        (λ e u. done n (E d 4) ((expr_marks d first ++ mark d s ∷ []) ++ expr_marks d e) (trees.Relation first s e) ((omega arith, (v.0, v.1, is, u.0, u.1)), append_assoc (expr_marks d first) (mark d s ∷ []) (expr_marks d e)))).told ts)

    read : (first : ExprTree) → Ranked 3 first → (ts : List Kind) → Told n (E d 4) (expr_marks d first) ts (rel_by inner first (relation_sign ts) ts)
    read first v [] = (alone first v).told []
    read first v (kinds.Sign signs.Equal ∷ ts) = compared first v signs.Equal tt ts
    read first v (kinds.Sign signs.NotEqual ∷ ts) = compared first v signs.NotEqual tt ts
    read first v (kinds.Sign signs.Less ∷ ts) = compared first v signs.Less tt ts
    read first v (kinds.Sign signs.AtMost ∷ ts) = compared first v signs.AtMost tt ts
    read first v (kinds.Sign signs.Greater ∷ ts) = compared first v signs.Greater tt ts
    read first v (kinds.Sign signs.AtLeast ∷ ts) = compared first v signs.AtLeast tt ts
    read first v (kinds.Sign s ∷ ts) = (alone first v).told (kinds.Sign s ∷ ts)
    read first v (kinds.Keyword k ∷ ts) = (alone first v).told (kinds.Keyword k ∷ ts)
    read first v (kinds.Name m ∷ ts) = (alone first v).told (kinds.Name m ∷ ts)
    read first v (kinds.Number m ∷ ts) = (alone first v).told (kinds.Number m ∷ ts)
    read first v (kinds.Text m ∷ ts) = (alone first v).told (kinds.Text m ∷ ts)

-- ---- chains of `and` and of `or`

behind_more : (d : ℕ) (t : Mark) (found : List ExprTree) (x : ExprTree) → behind_marks d t (exprs_of (found ++ x ∷ [])) ≡ behind_marks d t (exprs_of found) ++ t ∷ expr_marks d x
behind_more d t [] x = ap (λ (ms : List Mark). t ∷ ms) (append-nil (expr_marks d x))
behind_more d t (e ∷ es) x =
    ap (λ (ys : List Mark). t ∷ (expr_marks d e ++ ys)) (behind_more d t es x)
    ∙ ap (λ (ys : List Mark). t ∷ ys) (sym (append_assoc (expr_marks d e) (behind_marks d t (exprs_of es)) (t ∷ expr_marks d x)))

pub are_exprs_more : (r : ℕ) (found : List ExprTree) (x : ExprTree) → AreExprs r (exprs_of found) → Ranked r x → AreExprs r (exprs_of (found ++ x ∷ []))
are_exprs_more r [] x are is = (is.0, is.1, tt)
are_exprs_more r (e ∷ es) x are is = (are.0, are.1, are_exprs_more r es x are.2 is)

-- some expressions, with their tokens
pub record Chain (d r : ℕ) (t : Mark) (found : List ExprTree) (acc before : List Mark) : Type 0 where
  pub some : 0 < length found
  pub are : AreExprs r (exprs_of found)
  pub is : acc ≡ before ++ chain_marks d t (exprs_of found)

pub chain_more : (d r : ℕ) (t : Mark) (found : List ExprTree) (acc before : List Mark) (x : ExprTree) → Chain d r t found acc before → Ranked r x → Chain d r t (found ++ x ∷ []) (acc ++ t ∷ expr_marks d x) before
chain_more d r t [] acc before x h v = absurd (omega (arith, h.some))
chain_more d r t (e ∷ es) acc before x h v = record {
  some = omega arith;
  are = are_exprs_more r (e ∷ es) x h.are v;
  is = ap (λ (ms : List Mark). ms ++ t ∷ expr_marks d x) h.is ∙ append_assoc before (expr_marks d e ++ behind_marks d t (exprs_of es)) (t ∷ expr_marks d x)
      ∙ ap (λ (ms : List Mark). before ++ ms) (append_assoc (expr_marks d e) (behind_marks d t (exprs_of es)) (t ∷ expr_marks d x) ∙ ap (λ (ms : List Mark). expr_marks d e ++ ms) (sym (behind_more d t es x)));
}

two_more : (found : List ExprTree) (x : ExprTree) → HasTwo (exprs_of found) → HasTwo (exprs_of (found ++ x ∷ []))
two_more [] x h = h
two_more (e ∷ []) x h = tt
two_more (e ∷ f ∷ es) x h = tt

-- members behind the first two
abbrev pub chained_rest : Keyword → Parser ExprTree → (ExprTrees → ExprTree) → List ExprTree → Parser ExprTree
chained_rest w member made found = many (sees_keyword w) (advance >>= (λ _. member)) found >>= (λ all. pure (made (exprs_of all)))

abbrev pub chained_second : Keyword → Parser ExprTree → (ExprTrees → ExprTree) → ExprTree → Parser ExprTree
chained_second w member made first = advance >>= (λ _. member >>= (λ second. chained_rest w member made (first ∷ second ∷ [])))

abbrev pub chained : Keyword → Parser ExprTree → (ExprTrees → ExprTree) → Parser ExprTree
chained w member made = member >>= (λ first. (λ ts. Ok (sees_keyword w ts, ts)) >>= (λ b. if b then chained_second w member made first else pure first))

-- the tree of a chain
Made : ℕ → ℕ → ℕ → Keyword → (ExprTrees → ExprTree) → Type 0
Made d r q w made = (es : ExprTrees) (acc : List Mark) → HasTwo es → AreExprs r es → acc ≡ chain_marks d (word d w) es → E d q (made es) acc

member_on : (n d r : ℕ) (w : Keyword) (member : Parser ExprTree) → d ≤ n → Tells n (E d r) [] member → (ts : List Kind) → sees_keyword w ts ≡ true → Told n (Spells (Ranked r) (λ e. word d w ∷ expr_marks d e)) [] ts ((advance >>= (λ _. member)) ts)
member_on n d r w member fits h ts seen =
    at_token n (Spells (Ranked r) (λ e. word d w ∷ expr_marks d e)) [] (word d w) ts (drop 1 ts) (advance >>= (λ _. member)) (keyword_seen w ts seen) fits
    (respelled n (E d r) (Spells (Ranked r) (λ e. word d w ∷ expr_marks d e)) [] (word d w ∷ []) (drop 1 ts) (member (drop 1 ts)) (λ e ms is. (is.0, ap (λ (xs : List Mark). word d w ∷ xs) is.1)) (h.told (drop 1 ts)))

told_rest : (n d r q : ℕ) (w : Keyword) (member : Parser ExprTree) (made : ExprTrees → ExprTree) → d ≤ n → Tells n (E d r) [] member → Made d r q w made
    → (found : List ExprTree) (acc : List Mark) → HasTwo (exprs_of found) → Chain d r (word d w) found acc [] → Tells n (E d q) acc (chained_rest w member made found)
unfolding Made
told_rest n d r q w member made fits h is found acc two chain =
    then_many n (E d q) (Ranked r) (λ e. word d w ∷ expr_marks d e) (sees_keyword w) (advance >>= (λ _. member)) (λ all. pure (made (exprs_of all)))
    (λ all ms. HasTwo (exprs_of all) × Chain d r (word d w) all ms []) (member_on n d r w member fits h)
    (λ all ms x known v. (two_more all x known.0, chain_more d r (word d w) all ms [] x known.1 v))
    (λ all ms known. done n (E d q) ms (made (exprs_of all)) (is (exprs_of all) ms known.0 known.1.are known.1.is)) found acc (two, chain)

two_chain : (d r : ℕ) (t : Mark) (first second : ExprTree) → Ranked r first → Ranked r second → Chain d r t (first ∷ second ∷ []) ((expr_marks d first ++ t ∷ []) ++ expr_marks d second) []
two_chain d r t first second v u = record {
  some = omega arith;
  are = (v.0, v.1, (u.0, u.1, tt));
  is = append_assoc (expr_marks d first) (t ∷ []) (expr_marks d second) ∙ ap (λ (ms : List Mark). expr_marks d first ++ t ∷ ms) (sym (append-nil (expr_marks d second)));
}

told_second : (n d r q : ℕ) (w : Keyword) (member : Parser ExprTree) (made : ExprTrees → ExprTree) → d ≤ n → Tells n (E d r) [] member → Made d r q w made
    → (first : ExprTree) → Ranked r first → (ts : List Kind) → sees_keyword w ts ≡ true → Told n (E d q) (expr_marks d first) ts (chained_second w member made first ts)
told_second n d r q w member made fits h is first v ts seen =
    at_token n (E d q) (expr_marks d first) (word d w) ts (drop 1 ts) (chained_second w member made first) (keyword_seen w ts seen) fits
    ((next n (E d q) (expr_marks d first ++ word d w ∷ []) (Ranked r) (expr_marks d) member (λ second. chained_rest w member made (first ∷ second ∷ [])) h
    (λ second u. told_rest n d r q w member made fits h is (first ∷ second ∷ []) ((expr_marks d first ++ word d w ∷ []) ++ expr_marks d second) tt (two_chain d r (word d w) first second v u))).told (drop 1 ts))

told_chained : (n d r q : ℕ) (w : Keyword) (member : Parser ExprTree) (made : ExprTrees → ExprTree) → d ≤ n → r ≤ q → Tells n (E d r) [] member → Made d r q w made → Tells n (E d q) [] (chained w member made)
told_chained n d r q w member made fits le h is =
    next n (E d q) [] (Ranked r) (expr_marks d) member (λ first. (λ ts. Ok (sees_keyword w ts, ts)) >>= (λ b. if b then chained_second w member made first else pure first)) h
    (λ first v.
    let alone : Tells n (E d q) (expr_marks d first) (pure first) = done n (E d q) (expr_marks d first) first ((omega (arith, v.0), v.1), refl) in
    record {
      told = λ ts. either n (E d q) (expr_marks d first) ts (sees_keyword w ts) (chained_second w member made first) (pure first) (told_second n d r q w member made fits h is first v ts) (λ none. alone.told ts);
      goes = alone.goes;
    })

pub told_conj : (n d : ℕ) (inner : Parser ExprTree) → d ≤ n → Inner n d inner → Tells n (E d 5) [] (conj inner)
unfolding conj Made
told_conj n d inner fits h = told_chained n d 4 5 keywords.And (rel inner) trees.And fits (omega arith) (told_rel n d inner fits h) (λ es acc two are is. ((omega arith, (two, are)), is))

pub told_expr : (n d : ℕ) (inner : Parser ExprTree) → d ≤ n → Inner n d inner → Tells n (E d 6) [] (expr inner)
unfolding expr Made
told_expr n d inner fits h = told_chained n d 5 6 keywords.Or (conj inner) trees.Or fits (omega arith) (told_conj n d inner fits h) (λ es acc two are is. ((omega arith, (two, are)), is))

-- where so many more brackets may be open
pub told_inside : (n room d : ℕ) → room + d ≡ n → Inner n d (inside room)
unfolding inside
told_inside n zero d sum t at ts =
    opens n (Behind t (suc d)) [] t ts (record { value = trees.True; marks = word (suc d) keywords.True ∷ []; is = ((omega arith, tt), refl) }) (omega arith)
told_inside n (suc room) d sum t at ts =
    let fits : suc d ≤ n = omega arith in
    let left : room + suc d ≡ n = omega arith in
    token n (Behind t (suc d)) [] t ts (expr (inside room) ts) (omega arith)
    (respelled n (E (suc d) 6) (Behind t (suc d)) [] (t ∷ []) ts (expr (inside room) ts) (λ e ms is. (is.0, ap (λ (xs : List Mark). t ∷ xs) is.1)) ((told_expr n (suc d) (inside room) fits (told_inside n room (suc d) left)).told ts))

pub told_value : (n room d : ℕ) → room + d ≡ n → Tells n (E d 6) [] (expr (inside room))
told_value n room d sum = told_expr n d (inside room) (omega arith) (told_inside n room d sum)
