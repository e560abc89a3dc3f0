-- What reading the tokens of an expression gives.
use Rattle.std.proofs.Common.{◌≡◌, ℕ, zero, suc, ◌+◌, ◌<◌, ◌≤◌, Bool, true, false, cond, List, [], ◌∷◌, ◌++◌, length, Option, Some, None, Ok, refl, sym, ap, subst, ◌∙◌, append_assoc, arith, length-append}
use Rattle.std.specs.Prelude.{is_some, if◌then◌else◌}
use Rattle.std.specs.List.{flat_map, AllByRecursion}
use Rattle.std.proofs.lemmas.List.{append-nil}
use Rattle.lynx_lexer.specs.declared.keyword.Keyword.{Keyword}
use Rattle.lynx_lexer.specs.declared.keyword.Keyword.TheVariants as keywords
use Rattle.lynx_lexer.specs.declared.sign.Sign.{Sign}
use Rattle.lynx_lexer.specs.declared.sign.Sign.TheVariants as signs
use Rattle.lynx_lexer.specs.declared.token.Kind.{Kind}
use Rattle.lynx_lexer.specs.declared.token.Kind.TheVariants as kinds
use Rattle.lynx_tree.specs.declared.expression.TermSign.{TermSign}
use Rattle.lynx_tree.specs.declared.expression.TermSign.TheVariants as term_signs
use Rattle.lynx_tree.specs.Trees as trees
use Rattle.lynx_tree.specs.Trees.{ExprTree, ExprTrees, SumTail, TermTail}
use Rattle.lynx_tree.specs.Grammar as grammar
use Rattle.lynx_tree.specs.Grammar.{Mark, word, mark, expr_marks, index_marks, chain_marks, behind_marks, sum_marks, term_marks, rank, IsExpr, AreExprs, AreSums, AreTerms, IsSumSign, IsRelationSign}
use Rattle.lynx_descent.specs.Reading.{Parser, Parsed, then_parse, ◌>>=◌, pure, sign, advance, sees_keyword, sees_sign, same_keyword, same_sign, number, text, many, many_from}
use Rattle.lynx_descent.specs.ReadingExpressions.{exprs_of, sums_of, terms_of, sum_of, term_of, named_of, relation_sign, sum_sign, term_sign, behind_sign, index, named, prim, unary, term, sum, rel_by, rel, conj, expr, inside}
use Rattle.lynx_descent.proofs.Told.{kinds_in, kinds_append, kinds_count}
use Rattle.lynx_descent.proofs.ToldExpressions.{chained, chained_rest, chained_second, Ranked, IsIndex, index_in, IsFactor, factor_marks, IsSummand, summand_marks}
use Rattle.lynx_descent.proofs.Turns.{turn_stops}
use Rattle.lynx_grammar.proofs.Guard.{guard, Finds, find_next, find_token, find_deep, find_sign, find_name, same_sign_refl, guard_then, same_keyword_refl}

-- nothing goes on with what stands behind an expression of a rank
abbrev pub NoRow : List Kind → Type 0
NoRow ts = sees_sign signs.OpenRow ts ≡ false

abbrev pub NoTerm : List Kind → Type 0
NoTerm ts = NoRow ts × (term_sign ts ≡ None)

abbrev pub NoSum : List Kind → Type 0
NoSum ts = NoRow ts × (term_sign ts ≡ None) × (sum_sign ts ≡ None)

abbrev pub NoRelation : List Kind → Type 0
NoRelation ts = NoRow ts × (term_sign ts ≡ None) × (sum_sign ts ≡ None) × (relation_sign ts ≡ None)

abbrev pub NoAnd : List Kind → Type 0
NoAnd ts = NoRow ts × (term_sign ts ≡ None) × (sum_sign ts ≡ None) × (relation_sign ts ≡ None) × (sees_keyword keywords.And ts ≡ false)

abbrev pub NoOr : List Kind → Type 0
NoOr ts = NoRow ts × (term_sign ts ≡ None) × (sum_sign ts ≡ None) × (relation_sign ts ≡ None) × (sees_keyword keywords.And ts ≡ false) × (sees_keyword keywords.Or ts ≡ false)

pub close_row_ends : (ts : List Kind) → NoOr (kinds.Sign signs.CloseRow ∷ ts)
unfolding same_sign term_sign sum_sign relation_sign
close_row_ends ts = (refl, refl, refl, refl, refl, refl)

pub close_ends : (ts : List Kind) → NoOr (kinds.Sign signs.Close ∷ ts)
unfolding same_sign term_sign sum_sign relation_sign
close_ends ts = (refl, refl, refl, refl, refl, refl)

pub comma_ends : (ts : List Kind) → NoOr (kinds.Sign signs.Comma ∷ ts)
unfolding same_sign term_sign sum_sign relation_sign
comma_ends ts = (refl, refl, refl, refl, refl, refl)

pub semicolon_ends : (ts : List Kind) → NoOr (kinds.Sign signs.Semicolon ∷ ts)
unfolding same_sign term_sign sum_sign relation_sign
semicolon_ends ts = (refl, refl, refl, refl, refl, refl)

pub then_ends : (ts : List Kind) → NoOr (kinds.Keyword keywords.Then ∷ ts)
unfolding same_keyword term_sign sum_sign relation_sign
then_ends ts = (refl, refl, refl, refl, refl, refl)

pub do_ends : (ts : List Kind) → NoOr (kinds.Keyword keywords.Do ∷ ts)
unfolding same_keyword term_sign sum_sign relation_sign
do_ends ts = (refl, refl, refl, refl, refl, refl)

or_ends : (ts : List Kind) → NoAnd (kinds.Keyword keywords.Or ∷ ts)
unfolding same_keyword term_sign sum_sign relation_sign
or_ends ts = (refl, refl, refl, refl, refl)

and_ends : (ts : List Kind) → NoRelation (kinds.Keyword keywords.And ∷ ts)
unfolding same_keyword term_sign sum_sign relation_sign
and_ends ts = (refl, refl, refl, refl)

abbrev pub InnerFinds : ℕ → ℕ → Parser ExprTree → Type 0
InnerFinds n d inner = (t : Mark) → t.depth ≡ suc d → Finds n IsExpr (λ e. t ∷ expr_marks (suc d) e) NoOr inner

-- a word, and what is made of it
pub find_last : {A B : Type 0} (n : ℕ) (V : A → Type 0) (w : A → List Mark) (halts : List Kind → Type 0) (p : Parser A) (f : A → Parser B) → Finds n V w halts p → (a : A) → V a → (rest : List Kind) → halts rest
    → (p >>= f) (kinds_in (w a) ++ rest) ≡ guard n (w a) rest (f a rest)
find_last {A = A} n V w halts p f h a v rest quiet = ap (λ (x : Parsed A). then_parse x f) (h a v rest quiet) ∙ guard_then n (w a) rest (Ok (a, rest)) f

pub find_index : (n d : ℕ) (inner : Parser ExprTree) → InnerFinds n d inner → Finds n IsIndex (index_in d) NoRow (index inner)
unfolding index
find_index n d inner h None v rest quiet = ap (λ (b : Bool). (if b then (inner >>= (λ e. sign signs.CloseRow >>= (λ _. pure (Some e)))) else pure None) rest) quiet
find_index n d inner h (Some e) v rest quiet =
    let t : Mark = mark (suc d) signs.OpenRow in
    ap (λ (b : Bool). (if b then (inner >>= (λ e. sign signs.CloseRow >>= (λ _. pure (Some e)))) else pure None) (t.kind ∷ (kinds_in (expr_marks (suc d) e ++ mark (suc d) signs.CloseRow ∷ []) ++ rest))) (same_sign_refl signs.OpenRow)
    ∙ find_next n IsExpr (λ x. t ∷ expr_marks (suc d) x) NoOr inner (λ x. sign signs.CloseRow >>= (λ _. pure (Some x))) (h t refl) e v (mark (suc d) signs.CloseRow ∷ []) rest (Ok (Some e, rest)) (close_row_ends rest)
    (λ within. find_sign n (suc d) signs.CloseRow (λ _. pure (Some e)) [] rest (Ok (Some e, rest)) within.0 refl)

find_prim : (n d : ℕ) (inner : Parser ExprTree) → d ≤ n → InnerFinds n d inner → Finds n (Ranked 0) (expr_marks d) NoRow (prim inner)
unfolding prim named number text
find_prim n d inner fits h (trees.Number m) v rest quiet = find_token n (record { kind = kinds.Number m; depth = d }) [] rest (Ok (trees.Number m, rest)) _ fits refl
find_prim n d inner fits h (trees.Text m) v rest quiet = find_token n (record { kind = kinds.Text m; depth = d }) [] rest (Ok (trees.Text m, rest)) _ fits refl
find_prim n d inner fits h trees.True v rest quiet = find_token n (word d keywords.True) [] rest (Ok (trees.True, rest)) _ fits refl
find_prim n d inner fits h trees.False v rest quiet = find_token n (word d keywords.False) [] rest (Ok (trees.False, rest)) _ fits refl
find_prim n d inner fits h (trees.Name m) v rest quiet =
    find_name n d m (λ m'. index inner >>= (λ i. pure (named_of m' i))) [] rest (Ok (trees.Name m, rest)) fits (find_last n IsIndex (index_in d) NoRow (index inner) (λ i. pure (named_of m i)) (find_index n d inner h) None tt rest quiet)
find_prim n d inner fits h (trees.Member m e) v rest quiet =
    find_name n d m (λ m'. index inner >>= (λ i. pure (named_of m' i))) (index_marks d e) rest (Ok (trees.Member m e, rest)) fits (find_last n IsIndex (index_in d) NoRow (index inner) (λ i. pure (named_of m i)) (find_index n d inner h) (Some e) v.1 rest quiet)
find_prim n d inner fits h (trees.Bracket e) v rest quiet =
    find_next n IsExpr (λ x. mark (suc d) signs.Open ∷ expr_marks (suc d) x) NoOr inner (λ x. sign signs.Close >>= (λ _. pure (trees.Bracket x))) (h (mark (suc d) signs.Open) refl) e v.1 (mark (suc d) signs.Close ∷ []) rest (Ok (trees.Bracket e, rest)) (close_ends rest)
    (λ within. find_sign n (suc d) signs.Close (λ _. pure (trees.Bracket e)) [] rest (Ok (trees.Bracket e, rest)) within.0 refl)
find_prim n d inner fits h (trees.Or es) v rest quiet = absurd (omega (arith, v.0))
find_prim n d inner fits h (trees.And es) v rest quiet = absurd (omega (arith, v.0))
find_prim n d inner fits h (trees.Relation a s b) v rest quiet = absurd (omega (arith, v.0))
find_prim n d inner fits h (trees.Sum a s) v rest quiet = absurd (omega (arith, v.0))
find_prim n d inner fits h (trees.Term a s) v rest quiet = absurd (omega (arith, v.0))
find_prim n d inner fits h (trees.Minus a) v rest quiet = absurd (omega (arith, v.0))
find_prim n d inner fits h (trees.Not a) v rest quiet = absurd (omega (arith, v.0))

find_unary : (n d : ℕ) (inner : Parser ExprTree) → d ≤ n → InnerFinds n d inner → Finds n (Ranked 1) (expr_marks d) NoRow (unary inner)
unfolding unary
find_unary n d inner fits h (trees.Minus e) v rest quiet =
    find_token n (mark d signs.Minus) (expr_marks d e) rest (Ok (trees.Minus e, rest)) _ fits (find_last n (Ranked 0) (expr_marks d) NoRow (prim inner) (λ x. pure (trees.Minus x)) (find_prim n d inner fits h) e (omega (arith, v.1.0), v.1.1) rest quiet)
find_unary n d inner fits h (trees.Not e) v rest quiet =
    find_token n (word d keywords.Not) (expr_marks d e) rest (Ok (trees.Not e, rest)) _ fits (find_last n (Ranked 0) (expr_marks d) NoRow (prim inner) (λ x. pure (trees.Not x)) (find_prim n d inner fits h) e (omega (arith, v.1.0), v.1.1) rest quiet)
find_unary n d inner fits h (trees.Number m) v rest quiet = find_prim n d inner fits h (trees.Number m) (omega arith, v.1) rest quiet
find_unary n d inner fits h (trees.Text m) v rest quiet = find_prim n d inner fits h (trees.Text m) (omega arith, v.1) rest quiet
find_unary n d inner fits h trees.True v rest quiet = find_prim n d inner fits h trees.True (omega arith, v.1) rest quiet
find_unary n d inner fits h trees.False v rest quiet = find_prim n d inner fits h trees.False (omega arith, v.1) rest quiet
find_unary n d inner fits h (trees.Name m) v rest quiet = find_prim n d inner fits h (trees.Name m) (omega arith, v.1) rest quiet
find_unary n d inner fits h (trees.Member m e) v rest quiet = find_prim n d inner fits h (trees.Member m e) (omega arith, v.1) rest quiet
find_unary n d inner fits h (trees.Bracket e) v rest quiet = find_prim n d inner fits h (trees.Bracket e) (omega arith, v.1) rest quiet
find_unary n d inner fits h (trees.Or es) v rest quiet = absurd (omega (arith, v.0))
find_unary n d inner fits h (trees.And es) v rest quiet = absurd (omega (arith, v.0))
find_unary n d inner fits h (trees.Relation a s b) v rest quiet = absurd (omega (arith, v.0))
find_unary n d inner fits h (trees.Sum a s) v rest quiet = absurd (omega (arith, v.0))
find_unary n d inner fits h (trees.Term a s) v rest quiet = absurd (omega (arith, v.0))

-- ---- lists of items

-- an item is some tokens, with which the loop goes on, and nothing before goes on with them
abbrev pub Begins : {A : Type 0} → (A → Type 0) → (A → List Mark) → (List Kind → Type 0) → (List Kind → Bool) → Type 0
Begins {A = A} V w halts starts = (a : A) → V a → (ts : List Kind) → (starts (kinds_in (w a) ++ ts) ≡ true) × halts (kinds_in (w a) ++ ts) × (0 < length (w a))

pub item_quiet : {A : Type 0} (V : A → Type 0) (w : A → List Mark) (halts : List Kind → Type 0) (starts : List Kind → Bool) (xs : List A) (rest : List Kind) → Begins V w halts starts → AllByRecursion V xs → halts rest → halts (kinds_in (flat_map w xs) ++ rest)
item_quiet V w halts starts [] rest begins all quiet = quiet
item_quiet V w halts starts (x ∷ xs) rest begins all quiet = subst halts (kinds_append (w x) (flat_map w xs) rest) (begins x all.0 (kinds_in (flat_map w xs) ++ rest)).1

pub find_many_from : {A : Type 0} (n : ℕ) (V : A → Type 0) (w : A → List Mark) (halts : List Kind → Type 0) (starts : List Kind → Bool) (item : Parser A) → Finds n V w halts item → Begins V w halts starts
    → (turns : ℕ) (xs found : List A) (rest : List Kind) → AllByRecursion V xs → halts rest → starts rest ≡ false → length xs ≤ turns → many_from starts item turns found (kinds_in (flat_map w xs) ++ rest) ≡ guard n (flat_map w xs) rest (Ok (found ++ xs, rest))
unfolding many_from
find_many_from {A = A} n V w halts starts item h begins turns [] found rest all quiet off le = turn_stops starts item turns found rest off ∙ ap (λ (ys : List A). Ok (ys, rest)) (sym (append-nil found))
find_many_from n V w halts starts item h begins zero (x ∷ xs) found rest all quiet off le = absurd (omega arith)
find_many_from {A = A} n V w halts starts item h begins (suc turns) (x ∷ xs) found rest all quiet off le =
    let ts : List Kind = kinds_in (flat_map w (x ∷ xs)) ++ rest in
    let on : starts ts ≡ true = ap starts (sym (kinds_append (w x) (flat_map w xs) rest)) ∙ (begins x all.0 (kinds_in (flat_map w xs) ++ rest)).0 in
    ap (λ (b : Bool). cond b ((item >>= (λ y. many_from starts item turns (found ++ y ∷ []))) ts) (Ok (found, ts))) on
    ∙ find_next n V w halts item (λ y. many_from starts item turns (found ++ y ∷ [])) h x all.0 (flat_map w xs) rest (Ok (found ++ x ∷ xs, rest)) (item_quiet V w halts starts xs rest begins all.1 quiet)
    (λ within. find_many_from n V w halts starts item h begins turns xs (found ++ x ∷ []) rest all.1 quiet off (omega arith) ∙ ap (λ (ys : List A). guard n (flat_map w xs) rest (Ok (ys, rest))) (append_assoc found (x ∷ []) xs))

enough : {A : Type 0} (V : A → Type 0) (w : A → List Mark) (halts : List Kind → Type 0) (starts : List Kind → Bool) (xs : List A) (rest : List Kind) → Begins V w halts starts → AllByRecursion V xs → length xs ≤ length (kinds_in (flat_map w xs) ++ rest)
enough V w halts starts [] rest begins all = omega arith
enough V w halts starts (x ∷ xs) rest begins all =
    omega (arith, (begins x all.0 []).2, enough V w halts starts xs rest begins all.1, ap length (kinds_append (w x) (flat_map w xs) rest), length-append (kinds_in (w x)) (kinds_in (flat_map w xs) ++ rest), kinds_count (w x))

pub find_many : {A : Type 0} (n : ℕ) (V : A → Type 0) (w : A → List Mark) (halts : List Kind → Type 0) (starts : List Kind → Bool) (item : Parser A) → Finds n V w halts item → Begins V w halts starts
    → (xs found : List A) (rest : List Kind) → AllByRecursion V xs → halts rest → starts rest ≡ false → many starts item found (kinds_in (flat_map w xs) ++ rest) ≡ guard n (flat_map w xs) rest (Ok (found ++ xs, rest))
unfolding many
find_many n V w halts starts item h begins xs found rest all quiet off = find_many_from n V w halts starts item h begins (length (kinds_in (flat_map w xs) ++ rest)) xs found rest all quiet off (enough V w halts starts xs rest begins all)

-- ---- terms and sums

factors_in : TermTail → List (TermSign × ExprTree)
factors_in trees.no_terms = []
factors_in (trees.more_terms s e rest) = (s, e) ∷ factors_in rest

terms_again : (tail : TermTail) → terms_of (factors_in tail) ≡ tail
unfolding factors_in
terms_again trees.no_terms = refl
terms_again (trees.more_terms s e rest) = ap (trees.more_terms s e) (terms_again rest)

factors_marks : (d : ℕ) (tail : TermTail) → term_marks d tail ≡ flat_map (factor_marks d) (factors_in tail)
unfolding factors_in
factors_marks d trees.no_terms = refl
factors_marks d (trees.more_terms s e rest) = ap (λ (ms : List Mark). grammar.term_sign d s ∷ (expr_marks d e ++ ms)) (factors_marks d rest)

are_factors : (tail : TermTail) → AreTerms tail → AllByRecursion IsFactor (factors_in tail)
unfolding factors_in
are_factors trees.no_terms h = tt
are_factors (trees.more_terms s e rest) h = ((h.0, h.1), are_factors rest h.2)

pub none_is : {A : Type 0} (o : Option A) → o ≡ None → is_some o ≡ false
none_is o h = ap is_some h

factor_begins : (d : ℕ) → Begins IsFactor (factor_marks d) NoRow (λ ts. is_some (term_sign ts))
unfolding term_sign same_sign
factor_begins d (term_signs.Times, e) v ts = (refl, refl, omega arith)
factor_begins d (term_signs.Over, e) v ts = (refl, refl, omega arith)
factor_begins d (term_signs.Mod, e) v ts = (refl, refl, omega arith)

find_factor : (n d : ℕ) (inner : Parser ExprTree) → d ≤ n → InnerFinds n d inner → Finds n IsFactor (factor_marks d) NoRow (λ ts. behind_sign (term_sign ts) (unary inner) ts)
unfolding term_sign
find_factor n d inner fits h (term_signs.Times, e) v rest quiet =
    find_token n (mark d signs.Times) (expr_marks d e) rest (Ok ((term_signs.Times, e), rest)) _ fits (find_last n (Ranked 1) (expr_marks d) NoRow (unary inner) (λ x. pure (term_signs.Times, x)) (find_unary n d inner fits h) e v rest quiet)
find_factor n d inner fits h (term_signs.Over, e) v rest quiet = find_token n (mark d signs.Over) (expr_marks d e) rest (Ok ((term_signs.Over, e), rest)) _ fits (find_last n (Ranked 1) (expr_marks d) NoRow (unary inner) (λ x. pure (term_signs.Over, x)) (find_unary n d inner fits h) e v rest quiet)
find_factor n d inner fits h (term_signs.Mod, e) v rest quiet = find_token n (word d keywords.Mod) (expr_marks d e) rest (Ok ((term_signs.Mod, e), rest)) _ fits (find_last n (Ranked 1) (expr_marks d) NoRow (unary inner) (λ x. pure (term_signs.Mod, x)) (find_unary n d inner fits h) e v rest quiet)

-- a first member, and the others
term_whole : (n d : ℕ) (inner : Parser ExprTree) → d ≤ n → InnerFinds n d inner → (first : ExprTree) → Ranked 1 first → (xs : List (TermSign × ExprTree)) → AllByRecursion IsFactor xs → (rest : List Kind) → NoTerm rest
    → term inner (kinds_in (expr_marks d first ++ flat_map (factor_marks d) xs) ++ rest) ≡ guard n (expr_marks d first ++ flat_map (factor_marks d) xs) rest (Ok (term_of first xs, rest))
unfolding term
term_whole n d inner fits h first v xs all rest quiet =
    let starts : List Kind → Bool = λ ts. is_some (term_sign ts) in
    let item : Parser (TermSign × ExprTree) = λ ts. behind_sign (term_sign ts) (unary inner) ts in
    let marks : List Mark = flat_map (factor_marks d) xs in
    find_next n (Ranked 1) (expr_marks d) NoRow (unary inner) (λ one. many starts item [] >>= (λ others. pure (term_of one others))) (find_unary n d inner fits h) first v marks rest (Ok (term_of first xs, rest))
    (item_quiet IsFactor (factor_marks d) NoRow starts xs rest (factor_begins d) all quiet.0)
    (λ within. ap (λ (o : Parsed (List (TermSign × ExprTree))). then_parse o (λ others. pure (term_of first others))) (find_many n IsFactor (factor_marks d) NoRow starts item (find_factor n d inner fits h) (factor_begins d) xs [] rest all quiet.0 (none_is _ quiet.1))
    ∙ guard_then n marks rest (Ok (xs, rest)) (λ others. pure (term_of first others)))

term_alone : (n d : ℕ) (inner : Parser ExprTree) → d ≤ n → InnerFinds n d inner → (e : ExprTree) → Ranked 1 e → (rest : List Kind) → NoTerm rest → term inner (kinds_in (expr_marks d e) ++ rest) ≡ guard n (expr_marks d e) rest (Ok (e, rest))
term_alone n d inner fits h e v rest quiet =
    subst (λ (ms : List Mark). term inner (kinds_in ms ++ rest) ≡ guard n ms rest (Ok (e, rest))) (append-nil (expr_marks d e)) (term_whole n d inner fits h e v [] tt rest quiet)

term_more : (first : ExprTree) (tail : TermTail) → grammar.HasTerms tail → term_of first (factors_in tail) ≡ trees.Term first tail
unfolding factors_in
term_more first trees.no_terms h = absurd h
term_more first (trees.more_terms s e rest) h = ap (λ (t : TermTail). trees.Term first (trees.more_terms s e t)) (terms_again rest)

term_chain : (n d : ℕ) (inner : Parser ExprTree) → d ≤ n → InnerFinds n d inner → (first : ExprTree) (tail : TermTail) → IsExpr (trees.Term first tail) → (rest : List Kind) → NoTerm rest
    → term inner (kinds_in (expr_marks d (trees.Term first tail)) ++ rest) ≡ guard n (expr_marks d (trees.Term first tail)) rest (Ok (trees.Term first tail, rest))
term_chain n d inner fits h first tail v rest quiet =
    let marks : expr_marks d first ++ flat_map (factor_marks d) (factors_in tail) ≡ expr_marks d (trees.Term first tail) = ap (λ (ms : List Mark). expr_marks d first ++ ms) (sym (factors_marks d tail)) in
    subst (λ (ms : List Mark). term inner (kinds_in ms ++ rest) ≡ guard n ms rest (Ok (trees.Term first tail, rest))) marks
    (term_whole n d inner fits h first (v.0, v.1) (factors_in tail) (are_factors tail v.3) rest quiet
    ∙ ap (λ (e : ExprTree). guard n (expr_marks d first ++ flat_map (factor_marks d) (factors_in tail)) rest (Ok (e, rest))) (term_more first tail v.2))

find_term : (n d : ℕ) (inner : Parser ExprTree) → d ≤ n → InnerFinds n d inner → Finds n (Ranked 2) (expr_marks d) NoTerm (term inner)
find_term n d inner fits h (trees.Term first tail) v rest quiet = term_chain n d inner fits h first tail v.1 rest quiet
find_term n d inner fits h (trees.Minus e) v rest quiet = term_alone n d inner fits h (trees.Minus e) (omega arith, v.1) rest quiet
find_term n d inner fits h (trees.Not e) v rest quiet = term_alone n d inner fits h (trees.Not e) (omega arith, v.1) rest quiet
find_term n d inner fits h (trees.Number m) v rest quiet = term_alone n d inner fits h (trees.Number m) (omega arith, v.1) rest quiet
find_term n d inner fits h (trees.Text m) v rest quiet = term_alone n d inner fits h (trees.Text m) (omega arith, v.1) rest quiet
find_term n d inner fits h trees.True v rest quiet = term_alone n d inner fits h trees.True (omega arith, v.1) rest quiet
find_term n d inner fits h trees.False v rest quiet = term_alone n d inner fits h trees.False (omega arith, v.1) rest quiet
find_term n d inner fits h (trees.Name m) v rest quiet = term_alone n d inner fits h (trees.Name m) (omega arith, v.1) rest quiet
find_term n d inner fits h (trees.Member m e) v rest quiet = term_alone n d inner fits h (trees.Member m e) (omega arith, v.1) rest quiet
find_term n d inner fits h (trees.Bracket e) v rest quiet = term_alone n d inner fits h (trees.Bracket e) (omega arith, v.1) rest quiet
find_term n d inner fits h (trees.Or es) v rest quiet = absurd (omega (arith, v.0))
find_term n d inner fits h (trees.And es) v rest quiet = absurd (omega (arith, v.0))
find_term n d inner fits h (trees.Relation a s b) v rest quiet = absurd (omega (arith, v.0))
find_term n d inner fits h (trees.Sum a s) v rest quiet = absurd (omega (arith, v.0))

summands_in : SumTail → List (Sign × ExprTree)
summands_in trees.no_sums = []
summands_in (trees.more_sums s e rest) = (s, e) ∷ summands_in rest

sums_again : (tail : SumTail) → sums_of (summands_in tail) ≡ tail
unfolding summands_in
sums_again trees.no_sums = refl
sums_again (trees.more_sums s e rest) = ap (trees.more_sums s e) (sums_again rest)

summands_marks : (d : ℕ) (tail : SumTail) → sum_marks d tail ≡ flat_map (summand_marks d) (summands_in tail)
unfolding summands_in
summands_marks d trees.no_sums = refl
summands_marks d (trees.more_sums s e rest) = ap (λ (ms : List Mark). mark d s ∷ (expr_marks d e ++ ms)) (summands_marks d rest)

are_summands : (tail : SumTail) → AreSums tail → AllByRecursion IsSummand (summands_in tail)
unfolding summands_in
are_summands trees.no_sums h = tt
are_summands (trees.more_sums s e rest) h = ((h.0, (h.1, h.2)), are_summands rest h.3)

summand_begins : (d : ℕ) → Begins IsSummand (summand_marks d) NoTerm (λ ts. is_some (sum_sign ts))
unfolding sum_sign term_sign same_sign
summand_begins d (signs.Plus, e) v ts = (refl, (refl, refl), omega arith)
summand_begins d (signs.Minus, e) v ts = (refl, (refl, refl), omega arith)
summand_begins d (s, e) v ts = absurd v.0

find_summand : (n d : ℕ) (inner : Parser ExprTree) → d ≤ n → InnerFinds n d inner → Finds n IsSummand (summand_marks d) NoTerm (λ ts. behind_sign (sum_sign ts) (term inner) ts)
unfolding sum_sign
find_summand n d inner fits h (signs.Plus, e) v rest quiet = find_token n (mark d signs.Plus) (expr_marks d e) rest (Ok ((signs.Plus, e), rest)) _ fits (find_last n (Ranked 2) (expr_marks d) NoTerm (term inner) (λ x. pure (signs.Plus, x)) (find_term n d inner fits h) e v.1 rest quiet)
find_summand n d inner fits h (signs.Minus, e) v rest quiet = find_token n (mark d signs.Minus) (expr_marks d e) rest (Ok ((signs.Minus, e), rest)) _ fits (find_last n (Ranked 2) (expr_marks d) NoTerm (term inner) (λ x. pure (signs.Minus, x)) (find_term n d inner fits h) e v.1 rest quiet)
find_summand n d inner fits h (s, e) v rest quiet = absurd v.0

sum_whole : (n d : ℕ) (inner : Parser ExprTree) → d ≤ n → InnerFinds n d inner → (first : ExprTree) → Ranked 2 first → (xs : List (Sign × ExprTree)) → AllByRecursion IsSummand xs → (rest : List Kind) → NoSum rest
    → sum inner (kinds_in (expr_marks d first ++ flat_map (summand_marks d) xs) ++ rest) ≡ guard n (expr_marks d first ++ flat_map (summand_marks d) xs) rest (Ok (sum_of first xs, rest))
unfolding sum
sum_whole n d inner fits h first v xs all rest quiet =
    let starts : List Kind → Bool = λ ts. is_some (sum_sign ts) in
    let item : Parser (Sign × ExprTree) = λ ts. behind_sign (sum_sign ts) (term inner) ts in
    let marks : List Mark = flat_map (summand_marks d) xs in
    find_next n (Ranked 2) (expr_marks d) NoTerm (term inner) (λ one. many starts item [] >>= (λ others. pure (sum_of one others))) (find_term n d inner fits h) first v marks rest (Ok (sum_of first xs, rest))
    (item_quiet IsSummand (summand_marks d) NoTerm starts xs rest (summand_begins d) all (quiet.0, quiet.1))
    (λ within. ap (λ (o : Parsed (List (Sign × ExprTree))). then_parse o (λ others. pure (sum_of first others))) (find_many n IsSummand (summand_marks d) NoTerm starts item (find_summand n d inner fits h) (summand_begins d) xs [] rest all (quiet.0, quiet.1) (none_is _ quiet.2))
    ∙ guard_then n marks rest (Ok (xs, rest)) (λ others. pure (sum_of first others)))

sum_alone : (n d : ℕ) (inner : Parser ExprTree) → d ≤ n → InnerFinds n d inner → (e : ExprTree) → Ranked 2 e → (rest : List Kind) → NoSum rest → sum inner (kinds_in (expr_marks d e) ++ rest) ≡ guard n (expr_marks d e) rest (Ok (e, rest))
sum_alone n d inner fits h e v rest quiet =
    subst (λ (ms : List Mark). sum inner (kinds_in ms ++ rest) ≡ guard n ms rest (Ok (e, rest))) (append-nil (expr_marks d e)) (sum_whole n d inner fits h e v [] tt rest quiet)

sum_more : (first : ExprTree) (tail : SumTail) → grammar.HasSums tail → sum_of first (summands_in tail) ≡ trees.Sum first tail
unfolding summands_in
sum_more first trees.no_sums h = absurd h
sum_more first (trees.more_sums s e rest) h = ap (λ (t : SumTail). trees.Sum first (trees.more_sums s e t)) (sums_again rest)

sum_chain : (n d : ℕ) (inner : Parser ExprTree) → d ≤ n → InnerFinds n d inner → (first : ExprTree) (tail : SumTail) → IsExpr (trees.Sum first tail) → (rest : List Kind) → NoSum rest
    → sum inner (kinds_in (expr_marks d (trees.Sum first tail)) ++ rest) ≡ guard n (expr_marks d (trees.Sum first tail)) rest (Ok (trees.Sum first tail, rest))
sum_chain n d inner fits h first tail v rest quiet =
    let marks : expr_marks d first ++ flat_map (summand_marks d) (summands_in tail) ≡ expr_marks d (trees.Sum first tail) = ap (λ (ms : List Mark). expr_marks d first ++ ms) (sym (summands_marks d tail)) in
    subst (λ (ms : List Mark). sum inner (kinds_in ms ++ rest) ≡ guard n ms rest (Ok (trees.Sum first tail, rest))) marks
    (sum_whole n d inner fits h first (v.0, v.1) (summands_in tail) (are_summands tail v.3) rest quiet
    ∙ ap (λ (e : ExprTree). guard n (expr_marks d first ++ flat_map (summand_marks d) (summands_in tail)) rest (Ok (e, rest))) (sum_more first tail v.2))

find_sum : (n d : ℕ) (inner : Parser ExprTree) → d ≤ n → InnerFinds n d inner → Finds n (Ranked 3) (expr_marks d) NoSum (sum inner)
find_sum n d inner fits h (trees.Sum first tail) v rest quiet = sum_chain n d inner fits h first tail v.1 rest quiet
find_sum n d inner fits h (trees.Term first tail) v rest quiet = sum_alone n d inner fits h (trees.Term first tail) (omega arith, v.1) rest quiet
find_sum n d inner fits h (trees.Minus e) v rest quiet = sum_alone n d inner fits h (trees.Minus e) (omega arith, v.1) rest quiet
find_sum n d inner fits h (trees.Not e) v rest quiet = sum_alone n d inner fits h (trees.Not e) (omega arith, v.1) rest quiet
find_sum n d inner fits h (trees.Number m) v rest quiet = sum_alone n d inner fits h (trees.Number m) (omega arith, v.1) rest quiet
find_sum n d inner fits h (trees.Text m) v rest quiet = sum_alone n d inner fits h (trees.Text m) (omega arith, v.1) rest quiet
find_sum n d inner fits h trees.True v rest quiet = sum_alone n d inner fits h trees.True (omega arith, v.1) rest quiet
find_sum n d inner fits h trees.False v rest quiet = sum_alone n d inner fits h trees.False (omega arith, v.1) rest quiet
find_sum n d inner fits h (trees.Name m) v rest quiet = sum_alone n d inner fits h (trees.Name m) (omega arith, v.1) rest quiet
find_sum n d inner fits h (trees.Member m e) v rest quiet = sum_alone n d inner fits h (trees.Member m e) (omega arith, v.1) rest quiet
find_sum n d inner fits h (trees.Bracket e) v rest quiet = sum_alone n d inner fits h (trees.Bracket e) (omega arith, v.1) rest quiet
find_sum n d inner fits h (trees.Or es) v rest quiet = absurd (omega (arith, v.0))
find_sum n d inner fits h (trees.And es) v rest quiet = absurd (omega (arith, v.0))
find_sum n d inner fits h (trees.Relation a s b) v rest quiet = absurd (omega (arith, v.0))

-- ---- relations

rel_alone : (n d : ℕ) (inner : Parser ExprTree) → d ≤ n → InnerFinds n d inner → (e : ExprTree) → Ranked 3 e → (rest : List Kind) → NoRelation rest → rel inner (kinds_in (expr_marks d e) ++ rest) ≡ guard n (expr_marks d e) rest (Ok (e, rest))
unfolding rel
rel_alone n d inner fits h e v rest quiet =
    find_last n (Ranked 3) (expr_marks d) NoSum (sum inner) (λ first. (λ ts. Ok (relation_sign ts, ts)) >>= (λ s. rel_by inner first s)) (find_sum n d inner fits h) e v rest (quiet.0, quiet.1, quiet.2)
    ∙ ap (λ (o : Option Sign). guard n (expr_marks d e) rest (rel_by inner e o rest)) quiet.3

-- what follows the first side of a relation
relation_ends : (s : Sign) → IsRelationSign s → (ts : List Kind) → NoSum (kinds.Sign s ∷ ts) × (relation_sign (kinds.Sign s ∷ ts) ≡ Some s)
unfolding same_sign term_sign sum_sign relation_sign
relation_ends signs.Equal h ts = ((refl, refl, refl), refl)
relation_ends signs.NotEqual h ts = ((refl, refl, refl), refl)
relation_ends signs.Less h ts = ((refl, refl, refl), refl)
relation_ends signs.AtMost h ts = ((refl, refl, refl), refl)
relation_ends signs.Greater h ts = ((refl, refl, refl), refl)
relation_ends signs.AtLeast h ts = ((refl, refl, refl), refl)
relation_ends s h ts = absurd h

rel_both : (n d : ℕ) (inner : Parser ExprTree) → d ≤ n → InnerFinds n d inner → (first second : ExprTree) (s : Sign) → IsExpr (trees.Relation first s second) → (rest : List Kind) → NoRelation rest
    → rel inner (kinds_in (expr_marks d (trees.Relation first s second)) ++ rest) ≡ guard n (expr_marks d (trees.Relation first s second)) rest (Ok (trees.Relation first s second, rest))
unfolding rel
rel_both n d inner fits h first second s v rest quiet =
    let mid : List Kind = kinds_in (expr_marks d second) ++ rest in
    let ends = relation_ends s v.2 mid in
    find_next n (Ranked 3) (expr_marks d) NoSum (sum inner) (λ one. (λ ts. Ok (relation_sign ts, ts)) >>= (λ o. rel_by inner one o)) (find_sum n d inner fits h) first (v.0, v.1) (mark d s ∷ expr_marks d second) rest (Ok (trees.Relation first s second, rest)) ends.0
    (λ within. ap (λ (o : Option Sign). rel_by inner first o (kinds.Sign s ∷ mid)) ends.1
    ∙ find_token n (mark d s) (expr_marks d second) rest (Ok (trees.Relation first s second, rest)) _ fits (find_last n (Ranked 3) (expr_marks d) NoSum (sum inner) (λ e. pure (trees.Relation first s e)) (find_sum n d inner fits h) second (v.3, v.4) rest (quiet.0, quiet.1, quiet.2)))

find_rel : (n d : ℕ) (inner : Parser ExprTree) → d ≤ n → InnerFinds n d inner → Finds n (Ranked 4) (expr_marks d) NoRelation (rel inner)
find_rel n d inner fits h (trees.Relation a s b) v rest quiet = rel_both n d inner fits h a b s v.1 rest quiet
find_rel n d inner fits h (trees.Sum a s) v rest quiet = rel_alone n d inner fits h (trees.Sum a s) (omega arith, v.1) rest quiet
find_rel n d inner fits h (trees.Term a s) v rest quiet = rel_alone n d inner fits h (trees.Term a s) (omega arith, v.1) rest quiet
find_rel n d inner fits h (trees.Minus e) v rest quiet = rel_alone n d inner fits h (trees.Minus e) (omega arith, v.1) rest quiet
find_rel n d inner fits h (trees.Not e) v rest quiet = rel_alone n d inner fits h (trees.Not e) (omega arith, v.1) rest quiet
find_rel n d inner fits h (trees.Number m) v rest quiet = rel_alone n d inner fits h (trees.Number m) (omega arith, v.1) rest quiet
find_rel n d inner fits h (trees.Text m) v rest quiet = rel_alone n d inner fits h (trees.Text m) (omega arith, v.1) rest quiet
find_rel n d inner fits h trees.True v rest quiet = rel_alone n d inner fits h trees.True (omega arith, v.1) rest quiet
find_rel n d inner fits h trees.False v rest quiet = rel_alone n d inner fits h trees.False (omega arith, v.1) rest quiet
find_rel n d inner fits h (trees.Name m) v rest quiet = rel_alone n d inner fits h (trees.Name m) (omega arith, v.1) rest quiet
find_rel n d inner fits h (trees.Member m e) v rest quiet = rel_alone n d inner fits h (trees.Member m e) (omega arith, v.1) rest quiet
find_rel n d inner fits h (trees.Bracket e) v rest quiet = rel_alone n d inner fits h (trees.Bracket e) (omega arith, v.1) rest quiet
find_rel n d inner fits h (trees.Or es) v rest quiet = absurd (omega (arith, v.0))
find_rel n d inner fits h (trees.And es) v rest quiet = absurd (omega (arith, v.0))

-- ---- chains of `and` and of `or`

abbrev pub link_marks : ℕ → Keyword → ExprTree → List Mark
link_marks d w e = word d w ∷ expr_marks d e

pub exprs_in : ExprTrees → List ExprTree
exprs_in trees.no_exprs = []
exprs_in (trees.more_exprs e es) = e ∷ exprs_in es

pub exprs_again : (es : ExprTrees) → exprs_of (exprs_in es) ≡ es
unfolding exprs_in
exprs_again trees.no_exprs = refl
exprs_again (trees.more_exprs e es) = ap (trees.more_exprs e) (exprs_again es)

links_marks : (d : ℕ) (w : Keyword) (es : ExprTrees) → behind_marks d (word d w) es ≡ flat_map (link_marks d w) (exprs_in es)
unfolding exprs_in
links_marks d w trees.no_exprs = refl
links_marks d w (trees.more_exprs e es) = ap (λ (ms : List Mark). word d w ∷ (expr_marks d e ++ ms)) (links_marks d w es)

pub are_links : (r : ℕ) (es : ExprTrees) → AreExprs r es → AllByRecursion (Ranked r) (exprs_in es)
unfolding exprs_in
are_links r trees.no_exprs h = tt
are_links r (trees.more_exprs e es) h = ((h.0, h.1), are_links r es h.2)

find_link : (n d r : ℕ) (w : Keyword) (halts : List Kind → Type 0) (member : Parser ExprTree) → d ≤ n → Finds n (Ranked r) (expr_marks d) halts member → Finds n (Ranked r) (link_marks d w) halts (advance >>= (λ _. member))
find_link n d r w halts member fits h e v rest quiet = find_token n (word d w) (expr_marks d e) rest (Ok (e, rest)) _ fits (h e v rest quiet)

chain_alone : (n d r : ℕ) (w : Keyword) (halts : List Kind → Type 0) (member : Parser ExprTree) (made : ExprTrees → ExprTree) → Finds n (Ranked r) (expr_marks d) halts member → (e : ExprTree) → Ranked r e → (rest : List Kind) → halts rest → sees_keyword w rest ≡ false
    → chained w member made (kinds_in (expr_marks d e) ++ rest) ≡ guard n (expr_marks d e) rest (Ok (e, rest))
chain_alone n d r w halts member made h e v rest quiet off =
    find_last n (Ranked r) (expr_marks d) halts member (λ first. (λ ts. Ok (sees_keyword w ts, ts)) >>= (λ b. if b then chained_second w member made first else pure first)) h e v rest quiet
    ∙ ap (λ (b : Bool). guard n (expr_marks d e) rest ((if b then chained_second w member made e else pure e) rest)) off

chain_all : (n d r : ℕ) (w : Keyword) (halts : List Kind → Type 0) (member : Parser ExprTree) (made : ExprTrees → ExprTree) → d ≤ n → ((ts : List Kind) → halts (kinds.Keyword w ∷ ts)) → Finds n (Ranked r) (expr_marks d) halts member
    → (es : ExprTrees) → grammar.HasTwo es → AreExprs r es → (rest : List Kind) → halts rest → sees_keyword w rest ≡ false → chained w member made (kinds_in (chain_marks d (word d w) es) ++ rest) ≡ guard n (chain_marks d (word d w) es) rest (Ok (made es, rest))
chain_all n d r w halts member made fits ends h trees.no_exprs two are rest quiet off = absurd two
chain_all n d r w halts member made fits ends h (trees.more_exprs a trees.no_exprs) two are rest quiet off = absurd two
chain_all n d r w halts member made fits ends h (trees.more_exprs a (trees.more_exprs b es)) two are rest quiet off =
    let goal : Parsed ExprTree = Ok (made (trees.more_exprs a (trees.more_exprs b es)), rest) in
    let others : List Mark = behind_marks d (word d w) es in
    let xs : List ExprTree = exprs_in es in
    let same : others ≡ flat_map (link_marks d w) xs = links_marks d w es in
    let begins : Begins (Ranked r) (link_marks d w) halts (sees_keyword w) = λ e v ts. (same_keyword_refl w, ends (kinds_in (expr_marks d e) ++ ts), omega arith) in
    let last : chained_rest w member made (a ∷ b ∷ []) (kinds_in (flat_map (link_marks d w) xs) ++ rest) ≡ guard n (flat_map (link_marks d w) xs) rest goal =
    ap (λ (o : Parsed (List ExprTree)). then_parse o (λ all. pure (made (exprs_of all)))) (find_many n (Ranked r) (link_marks d w) halts (sees_keyword w) (advance >>= (λ _. member)) (find_link n d r w halts member fits h) begins xs (a ∷ b ∷ []) rest (are_links r es are.2.2) quiet off)
    ∙ guard_then n (flat_map (link_marks d w) xs) rest (Ok (a ∷ b ∷ xs, rest)) (λ all. pure (made (exprs_of all)))
    ∙ ap (λ (ys : ExprTrees). guard n (flat_map (link_marks d w) xs) rest (Ok (made (trees.more_exprs a (trees.more_exprs b ys)), rest))) (exprs_again es) in
    let last' : chained_rest w member made (a ∷ b ∷ []) (kinds_in others ++ rest) ≡ guard n others rest goal = subst (λ (ms : List Mark). chained_rest w member made (a ∷ b ∷ []) (kinds_in ms ++ rest) ≡ guard n ms rest goal) (sym same) last in
    let hushed : halts (kinds_in others ++ rest) = subst (λ (ms : List Mark). halts (kinds_in ms ++ rest)) (sym same) (item_quiet (Ranked r) (link_marks d w) halts (sees_keyword w) xs rest begins (are_links r es are.2.2) quiet) in
    let mid : List Kind = kinds_in (expr_marks d b ++ others) ++ rest in
    find_next n (Ranked r) (expr_marks d) halts member (λ first. (λ ts. Ok (sees_keyword w ts, ts)) >>= (λ t. if t then chained_second w member made first else pure first)) h a (are.0, are.1) (word d w ∷ (expr_marks d b ++ others)) rest goal (ends mid)
    (λ within. ap (λ (t : Bool). (if t then chained_second w member made a else pure a) (kinds.Keyword w ∷ mid)) (same_keyword_refl w)
    ∙ find_token n (word d w) (expr_marks d b ++ others) rest goal _ fits (find_next n (Ranked r) (expr_marks d) halts member (λ second. chained_rest w member made (a ∷ second ∷ [])) h b (are.2.0, are.2.1) others rest goal hushed (λ within'. last')))

find_conj : (n d : ℕ) (inner : Parser ExprTree) → d ≤ n → InnerFinds n d inner → Finds n (Ranked 5) (expr_marks d) NoAnd (conj inner)
unfolding conj
find_conj n d inner fits h (trees.And es) v rest quiet = chain_all n d 4 keywords.And NoRelation (rel inner) trees.And fits and_ends (find_rel n d inner fits h) es v.1.0 v.1.1 rest (quiet.0, quiet.1, quiet.2, quiet.3) quiet.4
find_conj n d inner fits h (trees.Or es) v rest quiet = absurd (omega (arith, v.0))
find_conj n d inner fits h (trees.Relation a s b) v rest quiet = chain_alone n d 4 keywords.And NoRelation (rel inner) trees.And (find_rel n d inner fits h) (trees.Relation a s b) (omega arith, v.1) rest (quiet.0, quiet.1, quiet.2, quiet.3) quiet.4
find_conj n d inner fits h (trees.Sum a s) v rest quiet = chain_alone n d 4 keywords.And NoRelation (rel inner) trees.And (find_rel n d inner fits h) (trees.Sum a s) (omega arith, v.1) rest (quiet.0, quiet.1, quiet.2, quiet.3) quiet.4
find_conj n d inner fits h (trees.Term a s) v rest quiet = chain_alone n d 4 keywords.And NoRelation (rel inner) trees.And (find_rel n d inner fits h) (trees.Term a s) (omega arith, v.1) rest (quiet.0, quiet.1, quiet.2, quiet.3) quiet.4
find_conj n d inner fits h (trees.Minus e) v rest quiet = chain_alone n d 4 keywords.And NoRelation (rel inner) trees.And (find_rel n d inner fits h) (trees.Minus e) (omega arith, v.1) rest (quiet.0, quiet.1, quiet.2, quiet.3) quiet.4
find_conj n d inner fits h (trees.Not e) v rest quiet = chain_alone n d 4 keywords.And NoRelation (rel inner) trees.And (find_rel n d inner fits h) (trees.Not e) (omega arith, v.1) rest (quiet.0, quiet.1, quiet.2, quiet.3) quiet.4
find_conj n d inner fits h (trees.Number m) v rest quiet = chain_alone n d 4 keywords.And NoRelation (rel inner) trees.And (find_rel n d inner fits h) (trees.Number m) (omega arith, v.1) rest (quiet.0, quiet.1, quiet.2, quiet.3) quiet.4
find_conj n d inner fits h (trees.Text m) v rest quiet = chain_alone n d 4 keywords.And NoRelation (rel inner) trees.And (find_rel n d inner fits h) (trees.Text m) (omega arith, v.1) rest (quiet.0, quiet.1, quiet.2, quiet.3) quiet.4
find_conj n d inner fits h trees.True v rest quiet = chain_alone n d 4 keywords.And NoRelation (rel inner) trees.And (find_rel n d inner fits h) trees.True (omega arith, v.1) rest (quiet.0, quiet.1, quiet.2, quiet.3) quiet.4
find_conj n d inner fits h trees.False v rest quiet = chain_alone n d 4 keywords.And NoRelation (rel inner) trees.And (find_rel n d inner fits h) trees.False (omega arith, v.1) rest (quiet.0, quiet.1, quiet.2, quiet.3) quiet.4
find_conj n d inner fits h (trees.Name m) v rest quiet = chain_alone n d 4 keywords.And NoRelation (rel inner) trees.And (find_rel n d inner fits h) (trees.Name m) (omega arith, v.1) rest (quiet.0, quiet.1, quiet.2, quiet.3) quiet.4
find_conj n d inner fits h (trees.Member m e) v rest quiet = chain_alone n d 4 keywords.And NoRelation (rel inner) trees.And (find_rel n d inner fits h) (trees.Member m e) (omega arith, v.1) rest (quiet.0, quiet.1, quiet.2, quiet.3) quiet.4
find_conj n d inner fits h (trees.Bracket e) v rest quiet = chain_alone n d 4 keywords.And NoRelation (rel inner) trees.And (find_rel n d inner fits h) (trees.Bracket e) (omega arith, v.1) rest (quiet.0, quiet.1, quiet.2, quiet.3) quiet.4

not_or : (n d : ℕ) (inner : Parser ExprTree) → d ≤ n → InnerFinds n d inner → (e : ExprTree) → rank e ≤ 5 → IsExpr e → (rest : List Kind) → NoOr rest → expr inner (kinds_in (expr_marks d e) ++ rest) ≡ guard n (expr_marks d e) rest (Ok (e, rest))
unfolding expr
not_or n d inner fits h e le v rest quiet = chain_alone n d 5 keywords.Or NoAnd (conj inner) trees.Or (find_conj n d inner fits h) e (le, v) rest (quiet.0, quiet.1, quiet.2, quiet.3, quiet.4) quiet.5

find_expr : (n d : ℕ) (inner : Parser ExprTree) → d ≤ n → InnerFinds n d inner → Finds n IsExpr (expr_marks d) NoOr (expr inner)
unfolding expr
find_expr n d inner fits h (trees.Or es) v rest quiet = chain_all n d 5 keywords.Or NoAnd (conj inner) trees.Or fits or_ends (find_conj n d inner fits h) es v.0 v.1 rest (quiet.0, quiet.1, quiet.2, quiet.3, quiet.4) quiet.5
find_expr n d inner fits h (trees.And es) v rest quiet = not_or n d inner fits h (trees.And es) (omega arith) v rest quiet
find_expr n d inner fits h (trees.Relation a s b) v rest quiet = not_or n d inner fits h (trees.Relation a s b) (omega arith) v rest quiet
find_expr n d inner fits h (trees.Sum a s) v rest quiet = not_or n d inner fits h (trees.Sum a s) (omega arith) v rest quiet
find_expr n d inner fits h (trees.Term a s) v rest quiet = not_or n d inner fits h (trees.Term a s) (omega arith) v rest quiet
find_expr n d inner fits h (trees.Minus e) v rest quiet = not_or n d inner fits h (trees.Minus e) (omega arith) v rest quiet
find_expr n d inner fits h (trees.Not e) v rest quiet = not_or n d inner fits h (trees.Not e) (omega arith) v rest quiet
find_expr n d inner fits h (trees.Number m) v rest quiet = not_or n d inner fits h (trees.Number m) (omega arith) v rest quiet
find_expr n d inner fits h (trees.Text m) v rest quiet = not_or n d inner fits h (trees.Text m) (omega arith) v rest quiet
find_expr n d inner fits h trees.True v rest quiet = not_or n d inner fits h trees.True (omega arith) v rest quiet
find_expr n d inner fits h trees.False v rest quiet = not_or n d inner fits h trees.False (omega arith) v rest quiet
find_expr n d inner fits h (trees.Name m) v rest quiet = not_or n d inner fits h (trees.Name m) (omega arith) v rest quiet
find_expr n d inner fits h (trees.Member m e) v rest quiet = not_or n d inner fits h (trees.Member m e) (omega arith) v rest quiet
find_expr n d inner fits h (trees.Bracket e) v rest quiet = not_or n d inner fits h (trees.Bracket e) (omega arith) v rest quiet

-- where so many more brackets may be open
pub find_inside : (n room d : ℕ) → room + d ≡ n → InnerFinds n d (inside room)
unfolding inside
find_inside n zero d sum t at e v rest quiet = find_deep n t (expr_marks (suc d) e) rest (Ok (e, rest)) (omega arith)
find_inside n (suc room) d sum t at e v rest quiet =
    find_token n t (expr_marks (suc d) e) rest (Ok (e, rest)) _ (omega arith) (find_expr n (suc d) (inside room) (omega arith) (find_inside n room (suc d) (omega arith)) e v rest quiet)

pub find_value : (n room d : ℕ) → room + d ≡ n → Finds n IsExpr (expr_marks d) NoOr (expr (inside room))
find_value n room d sum = find_expr n d (inside room) (omega arith) (find_inside n room d sum)
