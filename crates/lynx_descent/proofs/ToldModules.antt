-- What reading a module tells.
use Rattle.std.proofs.Common.{◌≡◌, ℕ, ◌≤◌, true, List, [], ◌∷◌, ◌++◌, drop, refl, sym, ap, subst, ◌∙◌, append_assoc, arith}
use Rattle.std.specs.List.{flat_map, AllByRecursion}
use Rattle.std.proofs.lemmas.Grind.{flat_map-append}
use Rattle.std.proofs.lemmas.List.{append-nil}
use Rattle.lynx_lexer.specs.declared.keyword.Keyword.{Keyword}
use Rattle.lynx_lexer.specs.declared.keyword.Keyword.TheVariants as keywords
use Rattle.lynx_lexer.specs.declared.sign.Sign.TheVariants as signs
use Rattle.lynx_lexer.specs.declared.token.Kind.{Kind}
use Rattle.lynx_tree.specs.Trees.{OpTree, VarTree, EntryTree, ModuleTree, StmtTrees}
use Rattle.lynx_tree.specs.Grammar as grammar
use Rattle.lynx_tree.specs.Grammar.{Mark, word, mark, names_marks, type_marks, types_marks, op_marks, var_marks, vars_marks, entry_marks, module_marks, stmts_marks, AreStmts, HasTokens}
use Rattle.lynx_descent.specs.Reading.{Parser, ◌>>=◌, pure, advance, sees_keyword, sign, keyword, name, many}
use Rattle.lynx_descent.specs.ReadingLists.{names, type_name, type_names}
use Rattle.lynx_descent.specs.ReadingStatements.{stmts}
use Rattle.lynx_descent.specs.ReadingModules.{op, var, vars, body, entry, one_module}
use Rattle.lynx_descent.proofs.Told.{Told, Tells, Spells, next, done}
use Rattle.lynx_descent.proofs.ToldTokens.{keyword_seen, at_token, then_keyword, then_sign, then_name, then_many}
use Rattle.lynx_descent.proofs.ToldLists.{Anything, told_names, told_type, told_types}
use Rattle.lynx_descent.proofs.ToldStatements.{told_stmts}

-- items, each with its tokens
flat_more : {A : Type 0} (w : A → List Mark) (found : List A) (x : A) → flat_map w (found ++ x ∷ []) ≡ flat_map w found ++ w x
flat_more w found x = flat_map-append w found (x ∷ []) ∙ ap (λ (ms : List Mark). flat_map w found ++ ms) (append-nil (w x))

all_more : {A : Type 0} (V : A → Type 0) (found : List A) (x : A) → AllByRecursion V found → V x → AllByRecursion V (found ++ x ∷ [])
all_more V [] x all v = (v, tt)
all_more V (y ∷ ys) x all v = (all.0, all_more V ys x all.1 v)

then_items : {A C : Type 0} (n : ℕ) (L : C → List Mark → Type 0) (acc : List Mark) (V : A → Type 0) (w : A → List Mark) (k : Keyword) (item : Parser A) (f : List A → Parser C)
    → ((ts : List Kind) → sees_keyword k ts ≡ true → Told n (Spells V w) [] ts (item ts)) → ((all : List A) → AllByRecursion V all → Tells n L (acc ++ flat_map w all) (f all)) → Tells n L acc (many (sees_keyword k) item [] >>= f)
then_items n L acc V w k item f one last =
    then_many n L V w (sees_keyword k) item f (λ found ms. AllByRecursion V found × (ms ≡ acc ++ flat_map w found)) one
    (λ found ms x known v. (all_more V found x known.0 v, ap (λ (ys : List Mark). ys ++ w x) known.1 ∙ append_assoc acc (flat_map w found) (w x) ∙ ap (λ (ys : List Mark). acc ++ ys) (sym (flat_more w found x))))
    (λ found ms known. subst (λ (ys : List Mark). Tells n L ys (f found)) (sym known.1) (last found known.0)) [] acc (tt, sym (append-nil acc))

-- ---- declarations

op_is : (m : List ℕ) (a r : List Mark) (c s : Mark) → ((((word 0 keywords.Op ∷ grammar.name 0 m ∷ []) ++ a) ++ c ∷ []) ++ r) ++ s ∷ [] ≡ word 0 keywords.Op ∷ grammar.name 0 m ∷ (a ++ c ∷ (r ++ s ∷ []))
op_is m a r c s = simp append_assoc

told_op : (n : ℕ) (ts : List Kind) → sees_keyword keywords.Op ts ≡ true → Told n (Spells Anything op_marks) [] ts (op n ts)
unfolding op
told_op n ts seen =
    let L : OpTree → List Mark → Type 0 = Spells Anything op_marks in
    let fits : 0 ≤ n = omega arith in
    at_token n L [] (word 0 keywords.Op) ts (drop 1 ts)
    (advance >>= (λ _. name >>= (λ m. type_names n >>= (λ a. sign signs.Colon >>= (λ _. type_names n >>= (λ r. sign signs.Semicolon >>= (λ _. pure (record { name = m; arguments = a; results = r }))))))))
    (keyword_seen keywords.Op ts seen) fits
    ((then_name n L (word 0 keywords.Op ∷ []) 0 (λ m. type_names n >>= (λ a. sign signs.Colon >>= (λ _. type_names n >>= (λ r. sign signs.Semicolon >>= (λ _. pure (record { name = m; arguments = a; results = r })))))) fits (λ m.
    next n L (word 0 keywords.Op ∷ grammar.name 0 m ∷ []) Anything types_marks (type_names n) _ (told_types n) (λ a any.
    then_sign n L ((word 0 keywords.Op ∷ grammar.name 0 m ∷ []) ++ types_marks a) 0 signs.Colon _ fits (
    next n L (((word 0 keywords.Op ∷ grammar.name 0 m ∷ []) ++ types_marks a) ++ mark 0 signs.Colon ∷ []) Anything types_marks (type_names n) _ (told_types n) (λ r any'.
    then_sign n L ((((word 0 keywords.Op ∷ grammar.name 0 m ∷ []) ++ types_marks a) ++ mark 0 signs.Colon ∷ []) ++ types_marks r) 0 signs.Semicolon _ fits (
    done n L _ (record { name = m; arguments = a; results = r }) (tt, op_is m (types_marks a) (types_marks r) (mark 0 signs.Colon) (mark 0 signs.Semicolon)))))))).told (drop 1 ts))

var_is : (k : Keyword) (m : List ℕ) (a : List Mark) (s : Mark) → ((word 0 k ∷ grammar.name 0 m ∷ mark 0 signs.Colon ∷ []) ++ a) ++ s ∷ [] ≡ word 0 k ∷ grammar.name 0 m ∷ mark 0 signs.Colon ∷ (a ++ s ∷ [])
var_is k m a s = simp append_assoc

told_var : (n : ℕ) (k : Keyword) (ts : List Kind) → sees_keyword k ts ≡ true → Told n (Spells Anything (var_marks k)) [] ts (var ts)
unfolding var
told_var n k ts seen =
    let L : VarTree → List Mark → Type 0 = Spells Anything (var_marks k) in
    let fits : 0 ≤ n = omega arith in
    at_token n L [] (word 0 k) ts (drop 1 ts) (advance >>= (λ _. name >>= (λ m. sign signs.Colon >>= (λ _. type_name >>= (λ t. sign signs.Semicolon >>= (λ _. pure (record { name = m; kind = t }))))))) (keyword_seen k ts seen) fits
    ((then_name n L (word 0 k ∷ []) 0 (λ m. sign signs.Colon >>= (λ _. type_name >>= (λ t. sign signs.Semicolon >>= (λ _. pure (record { name = m; kind = t }))))) fits (λ m.
    then_sign n L (word 0 k ∷ grammar.name 0 m ∷ []) 0 signs.Colon _ fits (
    next n L (word 0 k ∷ grammar.name 0 m ∷ mark 0 signs.Colon ∷ []) Anything (type_marks 0) type_name _ (told_type n 0 fits) (λ t any.
    then_sign n L ((word 0 k ∷ grammar.name 0 m ∷ mark 0 signs.Colon ∷ []) ++ type_marks 0 t) 0 signs.Semicolon _ fits (
    done n L _ (record { name = m; kind = t }) (tt, var_is k m (type_marks 0 t) (mark 0 signs.Semicolon))))))).told (drop 1 ts))

abbrev pub body_marks : StmtTrees → List Mark
body_marks b = word 0 keywords.Begin ∷ (stmts_marks 0 b ++ word 0 keywords.End ∷ [])

told_body : (n : ℕ) → Tells n (Spells AreStmts body_marks) [] (body n)
unfolding body
told_body n =
    let L : StmtTrees → List Mark → Type 0 = Spells AreStmts body_marks in
    then_keyword n L [] 0 keywords.Begin _ (omega arith) (
    next n L (word 0 keywords.Begin ∷ []) AreStmts (stmts_marks 0) (stmts n) _ (told_stmts n n 0 (omega arith)) (λ b v.
    then_keyword n L (word 0 keywords.Begin ∷ stmts_marks 0 b) 0 keywords.End _ (omega arith) (done n L (body_marks b) b (v, refl))))

abbrev pub IsEntry : EntryTree → Type 0
IsEntry e = AreStmts e.body

four : (h a b c s : List Mark) → (((h ++ a) ++ b) ++ c) ++ s ≡ h ++ (a ++ (b ++ (c ++ s)))
four h a b c s = simp append_assoc

six : (h o p v e c s : List Mark) → (((((h ++ o) ++ p) ++ v) ++ e) ++ c) ++ s ≡ h ++ (o ++ (p ++ (v ++ (e ++ (c ++ s)))))
six h o p v e c s = simp append_assoc

entry_is : (m o : List ℕ) (ns vs b : List Mark) → ((((word 0 keywords.Entry ∷ grammar.name 0 m ∷ word 0 keywords.Of ∷ grammar.name 0 o ∷ []) ++ ns) ++ vs) ++ word 0 keywords.Begin ∷ (b ++ word 0 keywords.End ∷ [])) ++ mark 0 signs.Semicolon ∷ []
    ≡ word 0 keywords.Entry ∷ grammar.name 0 m ∷ word 0 keywords.Of ∷ grammar.name 0 o ∷ (ns ++ (vs ++ word 0 keywords.Begin ∷ (b ++ word 0 keywords.End ∷ mark 0 signs.Semicolon ∷ [])))
entry_is m o ns vs b =
    let head : List Mark = word 0 keywords.Entry ∷ grammar.name 0 m ∷ word 0 keywords.Of ∷ grammar.name 0 o ∷ [] in
    four head ns vs (word 0 keywords.Begin ∷ (b ++ word 0 keywords.End ∷ [])) (mark 0 signs.Semicolon ∷ [])
    ∙ ap (λ (ms : List Mark). head ++ (ns ++ (vs ++ word 0 keywords.Begin ∷ ms))) (append_assoc b (word 0 keywords.End ∷ []) (mark 0 signs.Semicolon ∷ []))

abbrev after_of : ℕ → List ℕ → List ℕ → Parser EntryTree
after_of n m o = names n >>= (λ ns. vars keywords.Var >>= (λ vs. body n >>= (λ b. sign signs.Semicolon >>= (λ _. pure (record { name = m; op = o; parameters = ns; vars = vs; body = b })))))

told_entry : (n : ℕ) (ts : List Kind) → sees_keyword keywords.Entry ts ≡ true → Told n (Spells IsEntry entry_marks) [] ts (entry n ts)
unfolding entry
told_entry n ts seen =
    let L : EntryTree → List Mark → Type 0 = Spells IsEntry entry_marks in
    let fits : 0 ≤ n = omega arith in
    at_token n L [] (word 0 keywords.Entry) ts (drop 1 ts) (advance >>= (λ _. name >>= (λ m. keyword keywords.Of >>= (λ _. name >>= (λ o. after_of n m o))))) (keyword_seen keywords.Entry ts seen) fits
    ((then_name n L (word 0 keywords.Entry ∷ []) 0 (λ m. keyword keywords.Of >>= (λ _. name >>= (λ o. after_of n m o))) fits (λ m.
    then_keyword n L (word 0 keywords.Entry ∷ grammar.name 0 m ∷ []) 0 keywords.Of _ fits (
    then_name n L (word 0 keywords.Entry ∷ grammar.name 0 m ∷ word 0 keywords.Of ∷ []) 0 (λ o. after_of n m o) fits (λ o.
    let head : List Mark = word 0 keywords.Entry ∷ grammar.name 0 m ∷ word 0 keywords.Of ∷ grammar.name 0 o ∷ [] in
    next n L head Anything (names_marks 0) (names n) _ (told_names n n 0 (omega arith)) (λ ns any.
    then_items n L (head ++ names_marks 0 ns) Anything (var_marks keywords.Var) keywords.Var var _ (told_var n keywords.Var) (λ vs any'.
    next n L ((head ++ names_marks 0 ns) ++ vars_marks vs) AreStmts body_marks (body n) _ (told_body n) (λ b v.
    then_sign n L (((head ++ names_marks 0 ns) ++ vars_marks vs) ++ body_marks b) 0 signs.Semicolon _ fits (
    done n L _ (record { name = m; op = o; parameters = ns; vars = vs; body = b }) (v, entry_is m o (names_marks 0 ns) (vars_marks vs) (stmts_marks 0 b)))))))))).told (drop 1 ts))

-- ---- modules

module_is : (m : List ℕ) (o p v e b : List Mark) → ((((((word 0 keywords.Module ∷ grammar.name 0 m ∷ mark 0 signs.Semicolon ∷ []) ++ o) ++ p) ++ v) ++ e) ++ word 0 keywords.Begin ∷ (b ++ word 0 keywords.End ∷ [])) ++ mark 0 signs.Dot ∷ []
    ≡ word 0 keywords.Module ∷ grammar.name 0 m ∷ mark 0 signs.Semicolon ∷ (o ++ (p ++ (v ++ (e ++ word 0 keywords.Begin ∷ (b ++ word 0 keywords.End ∷ mark 0 signs.Dot ∷ [])))))
module_is m o p v e b =
    let head : List Mark = word 0 keywords.Module ∷ grammar.name 0 m ∷ mark 0 signs.Semicolon ∷ [] in
    six head o p v e (word 0 keywords.Begin ∷ (b ++ word 0 keywords.End ∷ [])) (mark 0 signs.Dot ∷ [])
    ∙ ap (λ (ms : List Mark). head ++ (o ++ (p ++ (v ++ (e ++ word 0 keywords.Begin ∷ ms))))) (append_assoc b (word 0 keywords.End ∷ []) (mark 0 signs.Dot ∷ []))

pub told_module : (n : ℕ) → Tells n (Spells HasTokens module_marks) [] (one_module n)
unfolding one_module
told_module n =
    let L : ModuleTree → List Mark → Type 0 = Spells HasTokens module_marks in
    let fits : 0 ≤ n = omega arith in
    then_keyword n L [] 0 keywords.Module _ fits (
    then_name n L (word 0 keywords.Module ∷ []) 0 _ fits (λ m.
    then_sign n L (word 0 keywords.Module ∷ grammar.name 0 m ∷ []) 0 signs.Semicolon _ fits (
    let head : List Mark = word 0 keywords.Module ∷ grammar.name 0 m ∷ mark 0 signs.Semicolon ∷ [] in
    then_items n L head Anything op_marks keywords.Op (op n) _ (told_op n) (λ o any.
    then_items n L (head ++ flat_map op_marks o) Anything (var_marks keywords.Param) keywords.Param var _ (told_var n keywords.Param) (λ p any'.
    then_items n L ((head ++ flat_map op_marks o) ++ flat_map (var_marks keywords.Param) p) Anything (var_marks keywords.Var) keywords.Var var _ (told_var n keywords.Var) (λ v any''.
    then_items n L (((head ++ flat_map op_marks o) ++ flat_map (var_marks keywords.Param) p) ++ vars_marks v) IsEntry entry_marks keywords.Entry (entry n) _ (told_entry n) (λ e are.
    next n L ((((head ++ flat_map op_marks o) ++ flat_map (var_marks keywords.Param) p) ++ vars_marks v) ++ flat_map entry_marks e) AreStmts body_marks (body n) _ (told_body n) (λ b is.
    then_sign n L (((((head ++ flat_map op_marks o) ++ flat_map (var_marks keywords.Param) p) ++ vars_marks v) ++ flat_map entry_marks e) ++ body_marks b) 0 signs.Dot _ fits (
    done n L _ (record { name = m; ops = o; params = p; vars = v; entries = e; body = b }) ((are, is), module_is m (flat_map op_marks o) (flat_map (var_marks keywords.Param) p) (vars_marks v) (flat_map entry_marks e) (stmts_marks 0 b)))))))))))
