-- What reading the tokens of a list in brackets gives.
use Rattle.std.proofs.Common.{◌≡◌, ℕ, zero, suc, ◌+◌, ◌≤◌, Bool, false, cond, List, [], ◌∷◌, ◌++◌, length, map, Ok, Err, refl, sym, ap, subst, ◌∙◌, arith}
use Rattle.std.specs.Prelude.{⊤, if◌then◌else◌}
use Rattle.std.specs.List.{flat_map, AllByRecursion}
use Rattle.lynx_lexer.specs.declared.keyword.Keyword.TheVariants as keywords
use Rattle.lynx_lexer.specs.declared.sign.Sign.TheVariants as signs
use Rattle.lynx_lexer.specs.declared.token.Kind.{Kind}
use Rattle.lynx_lexer.specs.declared.token.Kind.TheVariants as kinds
use Rattle.lynx_tree.specs.declared.declaration.TypeName.{TypeName}
use Rattle.lynx_tree.specs.declared.declaration.TypeName.TheVariants as types
use Rattle.lynx_descent.specs.declared.refusal.Refusal.TheVariants as refusals
use Rattle.lynx_tree.specs.Trees as trees
use Rattle.lynx_tree.specs.Trees.{ExprTree, ExprTrees}
use Rattle.lynx_tree.specs.Grammar as grammar
use Rattle.lynx_tree.specs.Grammar.{Mark, word, mark, commas, names_marks, exprs_marks, type_marks, types_marks, expr_marks, chain_marks, behind_marks, AreExprs, IsExpr}
use Rattle.lynx_descent.specs.Reading.{Parser, Parsed, then_parse, ◌>>=◌, pure, advance, same_sign, sees_sign, sign, name, number, opened, bracket, many}
use Rattle.lynx_descent.specs.ReadingExpressions.{exprs_of, inside, expr}
use Rattle.lynx_descent.specs.ReadingLists.{listed, names, values, type_name, type_names}
use Rattle.lynx_tree.proofs.Views.{flat_map-map}
use Rattle.lynx_descent.proofs.Told.{kinds_in, kinds_append}
use Rattle.lynx_descent.proofs.ToldLists.{Anything, AreValues, values_marks}
use Rattle.lynx_grammar.proofs.Guard.{guard, guard_then, guard_append, Finds, find_next, find_token, find_deep, find_sign, same_sign_refl}
use Rattle.lynx_grammar.proofs.FindExpressions.{NoOr, comma_ends, close_ends, Begins, item_quiet, find_many, find_value}

-- `(`, where so many more brackets may be open
pub find_bracket : {A : Type 0} (n room d : ℕ) (f : ℕ → Parser A) (ms : List Mark) (rest : List Kind) (o : Parsed A) → room + d ≡ n → ((r : ℕ) → r + suc d ≡ n → f r (kinds_in ms ++ rest) ≡ guard n ms rest o)
    → (bracket room >>= f) (kinds_in (mark (suc d) signs.Open ∷ ms) ++ rest) ≡ guard n (mark (suc d) signs.Open ∷ ms) rest o
unfolding bracket opened
find_bracket n zero d f ms rest o sum on =
    let ts : List Kind = kinds.Sign signs.Open ∷ (kinds_in ms ++ rest) in
    ap (λ (b : Bool). then_parse (cond b (opened zero ts) (Err (refusals.At (length ts)))) f) (same_sign_refl signs.Open) ∙ find_deep n (mark (suc d) signs.Open) ms rest o (omega arith)
find_bracket n (suc r) d f ms rest o sum on =
    let ts : List Kind = kinds.Sign signs.Open ∷ (kinds_in ms ++ rest) in
    ap (λ (b : Bool). then_parse (cond b (opened (suc r) ts) (Err (refusals.At (length ts)))) f) (same_sign_refl signs.Open)
    ∙ find_token n (mark (suc d) signs.Open) ms rest o (f r (kinds_in ms ++ rest)) (omega arith) (on r (omega arith))

-- items with a token between
abbrev pub listed_marks : {A : Type 0} → (A → List Mark) → Mark → List A → List Mark
listed_marks w t [] = []
listed_marks w t (x ∷ xs) = w x ++ flat_map (λ y. t ∷ w y) xs

close_no_comma : (us : List Kind) → sees_sign signs.Comma (kinds.Sign signs.Close ∷ us) ≡ false
unfolding same_sign
close_no_comma us = refl

find_comma : {A : Type 0} (n d : ℕ) (V : A → Type 0) (w : A → List Mark) (halts : List Kind → Type 0) (item : Parser A) → d ≤ n → Finds n V w halts item → Finds n V (λ x. mark d signs.Comma ∷ w x) halts (advance >>= (λ _. item))
find_comma n d V w halts item fits h x v rest quiet = find_token n (mark d signs.Comma) (w x) rest (Ok (x, rest)) _ fits (h x v rest quiet)

find_listed : {A : Type 0} (n d : ℕ) (V : A → Type 0) (w : A → List Mark) (halts : List Kind → Type 0) (item : Parser A) → d ≤ n → Finds n V w halts item → ((ts : List Kind) → halts (kinds.Sign signs.Comma ∷ ts))
    → ((x : A) → V x → (ts : List Kind) → sees_sign signs.Close (kinds_in (w x) ++ ts) ≡ false)
    → (xs : List A) → AllByRecursion V xs → (rest : List Kind) → halts (kinds.Sign signs.Close ∷ rest)
    → listed item (kinds_in (listed_marks w (mark d signs.Comma) xs) ++ kinds.Sign signs.Close ∷ rest) ≡ guard n (listed_marks w (mark d signs.Comma) xs) (kinds.Sign signs.Close ∷ rest) (Ok (xs, kinds.Sign signs.Close ∷ rest))
find_listed {A = A} n d V w halts item fits h comma open_ [] all rest quiet =
    let ts : List Kind = kinds.Sign signs.Close ∷ rest in
    ap (λ (b : Bool). (if b then pure [] else (item >>= (λ x. many (sees_sign signs.Comma) (advance >>= (λ _. item)) (x ∷ [])))) ts) (same_sign_refl signs.Close)
find_listed {A = A} n d V w halts item fits h comma open_ (x ∷ xs) all rest quiet =
    let ending : List Kind = kinds.Sign signs.Close ∷ rest in
    let w' : A → List Mark = λ y. mark d signs.Comma ∷ w y in
    let marks : List Mark = flat_map w' xs in
    let ts : List Kind = kinds_in (w x ++ marks) ++ ending in
    let begins : Begins V w' halts (sees_sign signs.Comma) = λ y v us. (same_sign_refl signs.Comma, comma (kinds_in (w y) ++ us), omega arith) in
    let closed : sees_sign signs.Close ts ≡ false = ap (sees_sign signs.Close) (sym (kinds_append (w x) marks ending)) ∙ open_ x all.0 (kinds_in marks ++ ending) in
    ap (λ (b : Bool). (if b then pure [] else (item >>= (λ y. many (sees_sign signs.Comma) (advance >>= (λ _. item)) (y ∷ [])))) ts) closed
    ∙ find_next n V w halts item (λ y. many (sees_sign signs.Comma) (advance >>= (λ _. item)) (y ∷ [])) h x all.0 marks ending (Ok (x ∷ xs, ending)) (item_quiet V w' halts (sees_sign signs.Comma) xs ending begins all.1 quiet)
    (λ within. find_many n V w' halts (sees_sign signs.Comma) (advance >>= (λ _. item)) (find_comma n d V w halts item fits h) begins xs (x ∷ []) ending all.1 quiet (close_no_comma rest))

-- ---- names, types and values

commas_listed : {A : Type 0} (d : ℕ) (w : A → List Mark) (xs : List A) → commas d (map w xs) ≡ listed_marks w (mark d signs.Comma) xs
commas_listed d w [] = refl
commas_listed d w (x ∷ xs) = ap (λ (ms : List Mark). w x ++ ms) (flat_map-map (λ one. mark d signs.Comma ∷ one) w xs)

all_of_them : {A : Type 0} (xs : List A) → AllByRecursion Anything xs
all_of_them [] = tt
all_of_them (x ∷ xs) = (tt, all_of_them xs)

-- a list in brackets
find_enclosed : {A : Type 0} (n room d : ℕ) (V : A → Type 0) (w : A → List Mark) (halts : List Kind → Type 0) (item : ℕ → Parser A) → room + d ≡ n → ((r : ℕ) → r + suc d ≡ n → Finds n V w halts (item r)) → ((ts : List Kind) → halts (kinds.Sign signs.Comma ∷ ts))
    → ((ts : List Kind) → halts (kinds.Sign signs.Close ∷ ts))
    → ((x : A) → V x → (ts : List Kind) → sees_sign signs.Close (kinds_in (w x) ++ ts) ≡ false) → (xs : List A) → AllByRecursion V xs → (rest : List Kind)
    → (bracket room >>= (λ r. listed (item r) >>= (λ all. sign signs.Close >>= (λ _. pure all)))) (kinds_in (mark (suc d) signs.Open ∷ (listed_marks w (mark (suc d) signs.Comma) xs ++ mark (suc d) signs.Close ∷ [])) ++ rest)
    ≡ guard n (mark (suc d) signs.Open ∷ (listed_marks w (mark (suc d) signs.Comma) xs ++ mark (suc d) signs.Close ∷ [])) rest (Ok (xs, rest))
find_enclosed {A = A} n room d V w halts item sum h comma close open_ xs all rest =
    let marks : List Mark = listed_marks w (mark (suc d) signs.Comma) xs in
    let last : List Mark = mark (suc d) signs.Close ∷ [] in
    find_bracket n room d (λ r. listed (item r) >>= (λ ys. sign signs.Close >>= (λ _. pure ys))) (marks ++ last) rest (Ok (xs, rest)) sum
    (λ r less. ap (λ (ks : List Kind). then_parse (listed (item r) ks) (λ ys. sign signs.Close >>= (λ _. pure ys))) (sym (kinds_append marks last rest))
    ∙ ap (λ (o : Parsed (List A)). then_parse o (λ ys. sign signs.Close >>= (λ _. pure ys))) (find_listed n (suc d) V w halts (item r) (omega arith) (h r less) comma open_ xs all rest (close rest))
    ∙ guard_then n marks (kinds_in last ++ rest) (Ok (xs, kinds_in last ++ rest)) (λ ys. sign signs.Close >>= (λ _. pure ys))
    ∙ ap (guard n marks (kinds_in last ++ rest)) (find_sign n (suc d) signs.Close (λ _. pure xs) [] rest (Ok (xs, rest)) (omega arith) refl)
    ∙ sym (guard_append n marks last rest (Ok (xs, rest))))

-- whatever stands behind
abbrev pub Free : List Kind → Type 0
Free ts = ⊤

find_name_alone : (n d : ℕ) → d ≤ n → Finds n Anything (λ m. grammar.name d m ∷ []) Free name
unfolding name
find_name_alone n d fits m v rest quiet = find_token n (grammar.name d m) [] rest (Ok (m, rest)) _ fits refl

pub find_names : (n room d : ℕ) → room + d ≡ n → Finds n Anything (names_marks d) Free (names room)
unfolding names
find_names n room d sum ns v rest quiet =
    subst (λ (ms : List Mark). names room (kinds_in (mark (suc d) signs.Open ∷ (ms ++ mark (suc d) signs.Close ∷ [])) ++ rest) ≡ guard n (mark (suc d) signs.Open ∷ (ms ++ mark (suc d) signs.Close ∷ [])) rest (Ok (ns, rest))) (sym (commas_listed (suc d) (λ m. grammar.name (suc d) m ∷ []) ns))
    (find_enclosed n room d Anything (λ m. grammar.name (suc d) m ∷ []) Free (λ _. name) sum (λ r less. find_name_alone n (suc d) (omega arith)) (λ ts. tt) (λ ts. tt) (λ m any ts. refl) ns (all_of_them ns) rest)

pub find_type : (n d : ℕ) → d ≤ n → Finds n Anything (type_marks d) Free type_name
unfolding type_name number
find_type n d fits types.Int v rest quiet = find_token n (word d keywords.Int) [] rest (Ok (types.Int, rest)) _ fits refl
find_type n d fits types.Bool v rest quiet = find_token n (word d keywords.Bool) [] rest (Ok (types.Bool, rest)) _ fits refl
find_type n d fits types.Text v rest quiet = find_token n (word d keywords.Text) [] rest (Ok (types.Text, rest)) _ fits refl
find_type n d fits types.Link v rest quiet = find_token n (word d keywords.Link) [] rest (Ok (types.Link, rest)) _ fits refl
find_type n d fits (types.Row m) v rest quiet =
    find_token n (word d keywords.Row) (record { kind = kinds.Number m; depth = d } ∷ []) rest (Ok (types.Row m, rest)) _ fits (find_token n (record { kind = kinds.Number m; depth = d }) [] rest (Ok (types.Row m, rest)) (Ok (types.Row m, rest)) fits refl)

type_open : (d : ℕ) (t : TypeName) (ts : List Kind) → sees_sign signs.Close (kinds_in (type_marks d t) ++ ts) ≡ false
type_open d types.Int ts = refl
type_open d types.Bool ts = refl
type_open d types.Text ts = refl
type_open d types.Link ts = refl
type_open d (types.Row m) ts = refl

pub find_types : (n : ℕ) → Finds n Anything types_marks Free (type_names n)
unfolding type_names
find_types n all v rest quiet =
    subst (λ (ms : List Mark). type_names n (kinds_in (mark 1 signs.Open ∷ (ms ++ mark 1 signs.Close ∷ [])) ++ rest) ≡ guard n (mark 1 signs.Open ∷ (ms ++ mark 1 signs.Close ∷ [])) rest (Ok (all, rest))) (sym (commas_listed 1 (type_marks 1) all))
    (find_enclosed n n 0 Anything (type_marks 1) Free (λ _. type_name) (omega arith) (λ r less. find_type n 1 (omega arith)) (λ ts. tt) (λ ts. tt) (λ t any ts. type_open 1 t ts) all (all_of_them all) rest)

-- no expression begins with `)`
expr_open : (d : ℕ) (e : ExprTree) → IsExpr e → (ts : List Kind) → sees_sign signs.Close (kinds_in (expr_marks d e) ++ ts) ≡ false
unfolding same_sign
expr_open d (trees.Or (trees.more_exprs a es)) v ts = ap (sees_sign signs.Close) (sym (kinds_append (expr_marks d a) (behind_marks d (word d keywords.Or) es) ts)) ∙ expr_open d a v.1.1 (kinds_in (behind_marks d (word d keywords.Or) es) ++ ts)
expr_open d (trees.Or trees.no_exprs) v ts = absurd v.0
expr_open d (trees.And (trees.more_exprs a es)) v ts = ap (sees_sign signs.Close) (sym (kinds_append (expr_marks d a) (behind_marks d (word d keywords.And) es) ts)) ∙ expr_open d a v.1.1 (kinds_in (behind_marks d (word d keywords.And) es) ++ ts)
expr_open d (trees.And trees.no_exprs) v ts = absurd v.0
expr_open d (trees.Relation a s b) v ts = ap (sees_sign signs.Close) (sym (kinds_append (expr_marks d a) (mark d s ∷ expr_marks d b) ts)) ∙ expr_open d a v.1 (kinds_in (mark d s ∷ expr_marks d b) ++ ts)
expr_open d (trees.Sum a s) v ts = ap (sees_sign signs.Close) (sym (kinds_append (expr_marks d a) (grammar.sum_marks d s) ts)) ∙ expr_open d a v.1 (kinds_in (grammar.sum_marks d s) ++ ts)
expr_open d (trees.Term a s) v ts = ap (sees_sign signs.Close) (sym (kinds_append (expr_marks d a) (grammar.term_marks d s) ts)) ∙ expr_open d a v.1 (kinds_in (grammar.term_marks d s) ++ ts)
expr_open d (trees.Minus e) v ts = refl
expr_open d (trees.Not e) v ts = refl
expr_open d (trees.Number m) v ts = refl
expr_open d (trees.Text m) v ts = refl
expr_open d trees.True v ts = refl
expr_open d trees.False v ts = refl
expr_open d (trees.Name m) v ts = refl
expr_open d (trees.Member m e) v ts = refl
expr_open d (trees.Bracket e) v ts = refl

behind_listed : (d : ℕ) (t : Mark) (ys : List ExprTree) → behind_marks d t (exprs_of ys) ≡ flat_map (λ y. t ∷ expr_marks d y) ys
behind_listed d t [] = refl
behind_listed d t (y ∷ ys) = ap (λ (ms : List Mark). t ∷ (expr_marks d y ++ ms)) (behind_listed d t ys)

chain_listed : (d : ℕ) (t : Mark) (xs : List ExprTree) → chain_marks d t (exprs_of xs) ≡ listed_marks (expr_marks d) t xs
chain_listed d t [] = refl
chain_listed d t (x ∷ xs) = ap (λ (ms : List Mark). expr_marks d x ++ ms) (behind_listed d t xs)

are_values : (xs : List ExprTree) → AreValues xs → AllByRecursion IsExpr xs
are_values [] h = tt
are_values (x ∷ xs) h = (h.1, are_values xs h.2)

pub find_values : (n room d : ℕ) → room + d ≡ n → Finds n AreValues (values_marks d) Free (values room)
unfolding values
find_values n room d sum xs v rest quiet =
    subst (λ (ms : List Mark). values room (kinds_in (mark (suc d) signs.Open ∷ (ms ++ mark (suc d) signs.Close ∷ [])) ++ rest) ≡ guard n (mark (suc d) signs.Open ∷ (ms ++ mark (suc d) signs.Close ∷ [])) rest (Ok (xs, rest))) (sym (chain_listed (suc d) (mark (suc d) signs.Comma) xs))
    (find_enclosed n room d IsExpr (expr_marks (suc d)) NoOr (λ r. expr (inside r)) sum (λ r less. find_value n r (suc d) less) comma_ends close_ends (λ e is ts. expr_open (suc d) e is ts) xs (are_values xs v) rest)
