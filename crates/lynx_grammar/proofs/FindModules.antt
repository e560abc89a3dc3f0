-- What reading the tokens of a module gives.
use Rattle.std.proofs.Common.{◌≡◌, ℕ, false, List, [], ◌∷◌, ◌++◌, Ok, Err, refl, sym, ap, ◌∙◌, append_assoc, arith}
use Rattle.std.specs.List.{flat_map, AllByRecursion}
use Rattle.std.proofs.lemmas.List.{append-nil}
use Rattle.lynx_lexer.specs.declared.keyword.Keyword.{Keyword}
use Rattle.lynx_lexer.specs.declared.keyword.Keyword.TheVariants as keywords
use Rattle.lynx_lexer.specs.declared.sign.Sign.TheVariants as signs
use Rattle.lynx_lexer.specs.declared.token.Kind.{Kind}
use Rattle.lynx_tree.specs.Trees.{OpTree, VarTree, EntryTree, ModuleTree, StmtTrees}
use Rattle.lynx_tree.specs.Grammar as grammar
use Rattle.lynx_tree.specs.Grammar.{Mark, word, mark, names_marks, type_marks, types_marks, op_marks, var_marks, vars_marks, entry_marks, module_marks, stmts_marks, AreStmts, HasTokens}
use Rattle.lynx_descent.specs.Reading.{Parser, Parsed, then_parse, ◌>>=◌, pure, same_keyword, sees_keyword, sign, keyword, name, many}
use Rattle.lynx_descent.specs.ReadingLists.{names, type_name, type_names}
use Rattle.lynx_descent.specs.ReadingStatements.{stmts}
use Rattle.lynx_descent.specs.ReadingModules.{op, ops, var, vars, body, entry, entries, one_module, at_end, whole}
use Rattle.lynx_descent.proofs.Told.{kinds_in, kinds_append}
use Rattle.lynx_descent.proofs.ToldLists.{Anything}
use Rattle.lynx_grammar.proofs.Guard.{guard, guard_then, guard_append, Finds, find_next, find_token, find_keyword, find_sign, find_name, same_keyword_refl}
use Rattle.lynx_grammar.proofs.FindExpressions.{Begins, find_many}
use Rattle.lynx_grammar.proofs.FindLists.{Free, find_names, find_type, find_types}
use Rattle.lynx_grammar.proofs.FindStatements.{Calm, find_stmts, end_calm}

find_op : (n : ℕ) → Finds n Anything op_marks Free (op n)
unfolding op
find_op n o v rest quiet =
    let goal : Parsed OpTree = Ok (o, rest) in
    find_token n (word 0 keywords.Op) (grammar.name 0 o.name ∷ (types_marks o.arguments ++ mark 0 signs.Colon ∷ (types_marks o.results ++ mark 0 signs.Semicolon ∷ []))) rest goal _ (omega arith)
    (find_name n 0 o.name (λ m. type_names n >>= (λ a. sign signs.Colon >>= (λ _. type_names n >>= (λ r. sign signs.Semicolon >>= (λ _. pure (record { name = m; arguments = a; results = r }))))))
    (types_marks o.arguments ++ mark 0 signs.Colon ∷ (types_marks o.results ++ mark 0 signs.Semicolon ∷ [])) rest goal (omega arith)
    (find_next n Anything types_marks Free (type_names n) (λ a. sign signs.Colon >>= (λ _. type_names n >>= (λ r. sign signs.Semicolon >>= (λ _. pure (record { name = o.name; arguments = a; results = r }))))) (find_types n) o.arguments tt
    (mark 0 signs.Colon ∷ (types_marks o.results ++ mark 0 signs.Semicolon ∷ [])) rest goal tt
    (λ w1. find_sign n 0 signs.Colon (λ _. type_names n >>= (λ r. sign signs.Semicolon >>= (λ _. pure (record { name = o.name; arguments = o.arguments; results = r })))) (types_marks o.results ++ mark 0 signs.Semicolon ∷ []) rest goal (omega arith)
    (find_next n Anything types_marks Free (type_names n) (λ r. sign signs.Semicolon >>= (λ _. pure (record { name = o.name; arguments = o.arguments; results = r }))) (find_types n) o.results tt (mark 0 signs.Semicolon ∷ []) rest goal tt
    (λ w2. find_sign n 0 signs.Semicolon (λ _. pure o) [] rest goal (omega arith) refl)))))

pub find_var : (n : ℕ) (k : Keyword) → Finds n Anything (var_marks k) Free var
unfolding var
find_var n k x v rest quiet =
    let goal : Parsed VarTree = Ok (x, rest) in
    find_token n (word 0 k) (grammar.name 0 x.name ∷ mark 0 signs.Colon ∷ (type_marks 0 x.kind ++ mark 0 signs.Semicolon ∷ [])) rest goal _ (omega arith)
    (find_name n 0 x.name (λ m. sign signs.Colon >>= (λ _. type_name >>= (λ t. sign signs.Semicolon >>= (λ _. pure (record { name = m; kind = t }))))) (mark 0 signs.Colon ∷ (type_marks 0 x.kind ++ mark 0 signs.Semicolon ∷ [])) rest goal (omega arith)
    (find_sign n 0 signs.Colon (λ _. type_name >>= (λ t. sign signs.Semicolon >>= (λ _. pure (record { name = x.name; kind = t })))) (type_marks 0 x.kind ++ mark 0 signs.Semicolon ∷ []) rest goal (omega arith)
    (find_next n Anything (type_marks 0) Free type_name (λ t. sign signs.Semicolon >>= (λ _. pure (record { name = x.name; kind = t }))) (find_type n 0 (omega arith)) x.kind tt (mark 0 signs.Semicolon ∷ []) rest goal tt
    (λ w1. find_sign n 0 signs.Semicolon (λ _. pure x) [] rest goal (omega arith) refl))))

regrouped : {A B C : Type 0} (o : Parsed A) (g : A → Parser B) (f : B → Parser C) → then_parse (then_parse o g) f ≡ then_parse o (λ x ts. then_parse (g x ts) f)
regrouped (Ok p) g f = refl
regrouped (Err e) g f = refl

joined_body : {A C : Type 0} (p : Parser (Unit {0})) (q : Parser A) (r : Parser (Unit {0})) (f : A → Parser C) (ts : List Kind)
    → ((p >>= (λ _. q >>= (λ x. r >>= (λ _. pure x)))) >>= f) ts ≡ (p >>= (λ _. q >>= (λ x. r >>= (λ _. f x)))) ts
joined_body {A = A} {C = C} p q r f ts =
    regrouped (p ts) (λ _. q >>= (λ x. r >>= (λ _. pure x))) f
    ∙ ap (λ (g : Unit {0} → Parser C). then_parse (p ts) g) (λ i. λ u us. (regrouped (q us) (λ x. r >>= (λ _. pure x)) f ∙ ap (λ (g : A → Parser C). then_parse (q us) g) (λ j. λ x vs. regrouped (r vs) (λ _. pure x) f j)) i)

-- a body, and what goes on behind it
find_body : {A : Type 0} (n : ℕ) (b : StmtTrees) → AreStmts b → (f : StmtTrees → Parser A) (ms : List Mark) (rest : List Kind) (o : Parsed A) → f b (kinds_in ms ++ rest) ≡ guard n ms rest o
    → (body n >>= f) (kinds_in (word 0 keywords.Begin ∷ (stmts_marks 0 b ++ word 0 keywords.End ∷ ms)) ++ rest) ≡ guard n (word 0 keywords.Begin ∷ (stmts_marks 0 b ++ word 0 keywords.End ∷ ms)) rest o
unfolding body
find_body {A = A} n b v f ms rest o h =
    joined_body (keyword keywords.Begin) (stmts n) (keyword keywords.End) f (kinds_in (word 0 keywords.Begin ∷ (stmts_marks 0 b ++ word 0 keywords.End ∷ ms)) ++ rest)
    ∙ find_keyword n 0 keywords.Begin (λ _. stmts n >>= (λ x. keyword keywords.End >>= (λ _. f x))) (stmts_marks 0 b ++ word 0 keywords.End ∷ ms) rest o (omega arith)
    (find_next n AreStmts (stmts_marks 0) Calm (stmts n) (λ x. keyword keywords.End >>= (λ _. f x)) (find_stmts n n 0 (omega arith)) b v (word 0 keywords.End ∷ ms) rest o (end_calm (kinds_in ms ++ rest)) (λ w1. find_keyword n 0 keywords.End (λ _. f b) ms rest o (omega arith) h))

-- items behind a keyword, and what goes on behind them
find_items : {A C : Type 0} (n : ℕ) (V : A → Type 0) (w : A → List Mark) (k : Keyword) (item : Parser A) (f : List A → Parser C) → Finds n V w Free item → Begins V w Free (sees_keyword k) → (xs : List A) → AllByRecursion V xs → (ms : List Mark) (rest : List Kind) (o : Parsed C)
    → sees_keyword k (kinds_in ms ++ rest) ≡ false
    → f xs (kinds_in ms ++ rest) ≡ guard n ms rest o → (many (sees_keyword k) item [] >>= f) (kinds_in (flat_map w xs ++ ms) ++ rest) ≡ guard n (flat_map w xs ++ ms) rest o
find_items {A = A} n V w k item f h begins xs all ms rest o off on =
    let mid : List Kind = kinds_in ms ++ rest in
    ap (λ (ks : List Kind). then_parse (many (sees_keyword k) item [] ks) f) (sym (kinds_append (flat_map w xs) ms rest))
    ∙ ap (λ (x : Parsed (List A)). then_parse x f) (find_many n V w Free (sees_keyword k) item h begins xs [] mid all tt off)
    ∙ guard_then n (flat_map w xs) mid (Ok (xs, mid)) f ∙ ap (guard n (flat_map w xs) mid) on ∙ sym (guard_append n (flat_map w xs) ms rest o)

all_of : {A : Type 0} (xs : List A) → AllByRecursion Anything xs
all_of [] = tt
all_of (x ∷ xs) = (tt, all_of xs)

var_begins : (k : Keyword) → Begins Anything (var_marks k) Free (sees_keyword k)
var_begins k x v ts = (same_keyword_refl k, tt, omega arith)

op_begins : Begins Anything op_marks Free (sees_keyword keywords.Op)
op_begins x v ts = (same_keyword_refl keywords.Op, tt, omega arith)

abbrev IsEntry : EntryTree → Type 0
IsEntry e = AreStmts e.body

entry_begins : Begins IsEntry entry_marks Free (sees_keyword keywords.Entry)
entry_begins x v ts = (same_keyword_refl keywords.Entry, tt, omega arith)

begin_var : same_keyword keywords.Begin keywords.Var ≡ false
unfolding same_keyword
begin_var = refl

begin_op : same_keyword keywords.Begin keywords.Op ≡ false
unfolding same_keyword
begin_op = refl

begin_param : same_keyword keywords.Begin keywords.Param ≡ false
unfolding same_keyword
begin_param = refl

begin_entry : same_keyword keywords.Begin keywords.Entry ≡ false
unfolding same_keyword
begin_entry = refl

entry_var : same_keyword keywords.Entry keywords.Var ≡ false
unfolding same_keyword
entry_var = refl

entry_param : same_keyword keywords.Entry keywords.Param ≡ false
unfolding same_keyword
entry_param = refl

entry_op : same_keyword keywords.Entry keywords.Op ≡ false
unfolding same_keyword
entry_op = refl

var_param : same_keyword keywords.Var keywords.Param ≡ false
unfolding same_keyword
var_param = refl

var_op : same_keyword keywords.Var keywords.Op ≡ false
unfolding same_keyword
var_op = refl

param_op : same_keyword keywords.Param keywords.Op ≡ false
unfolding same_keyword
param_op = refl

find_entry : (n : ℕ) → Finds n IsEntry entry_marks Free (entry n)
unfolding entry
find_entry n e v rest quiet =
    let goal : Parsed EntryTree = Ok (e, rest) in
    let last : List Mark = mark 0 signs.Semicolon ∷ [] in
    let inner : List Mark = word 0 keywords.Begin ∷ (stmts_marks 0 e.body ++ word 0 keywords.End ∷ last) in
    find_token n (word 0 keywords.Entry) (grammar.name 0 e.name ∷ word 0 keywords.Of ∷ grammar.name 0 e.op ∷ (names_marks 0 e.parameters ++ (vars_marks e.vars ++ inner))) rest goal _ (omega arith)
    (find_name n 0 e.name (λ m. keyword keywords.Of >>= (λ _. name >>= (λ o. names n >>= (λ ns. vars keywords.Var >>= (λ vs. body n >>= (λ b. sign signs.Semicolon >>= (λ _. pure (record { name = m; op = o; parameters = ns; vars = vs; body = b }))))))))
    (word 0 keywords.Of ∷ grammar.name 0 e.op ∷ (names_marks 0 e.parameters ++ (vars_marks e.vars ++ inner))) rest goal (omega arith)
    (find_keyword n 0 keywords.Of (λ _. name >>= (λ o. names n >>= (λ ns. vars keywords.Var >>= (λ vs. body n >>= (λ b. sign signs.Semicolon >>= (λ _. pure (record { name = e.name; op = o; parameters = ns; vars = vs; body = b })))))))
    (grammar.name 0 e.op ∷ (names_marks 0 e.parameters ++ (vars_marks e.vars ++ inner))) rest goal (omega arith)
    (find_name n 0 e.op (λ o. names n >>= (λ ns. vars keywords.Var >>= (λ vs. body n >>= (λ b. sign signs.Semicolon >>= (λ _. pure (record { name = e.name; op = o; parameters = ns; vars = vs; body = b })))))) (names_marks 0 e.parameters ++ (vars_marks e.vars ++ inner)) rest goal (omega arith)
    (find_next n Anything (names_marks 0) Free (names n) (λ ns. vars keywords.Var >>= (λ vs. body n >>= (λ b. sign signs.Semicolon >>= (λ _. pure (record { name = e.name; op = e.op; parameters = ns; vars = vs; body = b }))))) (find_names n n 0 (omega arith)) e.parameters tt
    (vars_marks e.vars ++ inner) rest goal tt
    (λ w1. find_items n Anything (var_marks keywords.Var) keywords.Var var (λ vs. body n >>= (λ b. sign signs.Semicolon >>= (λ _. pure (record { name = e.name; op = e.op; parameters = e.parameters; vars = vs; body = b })))) (find_var n keywords.Var) (var_begins keywords.Var) e.vars
    (all_of e.vars) inner rest goal begin_var
    (find_body n e.body v (λ b. sign signs.Semicolon >>= (λ _. pure (record { name = e.name; op = e.op; parameters = e.parameters; vars = e.vars; body = b }))) last rest goal (find_sign n 0 signs.Semicolon (λ _. pure e) [] rest goal (omega arith) refl)))))))

-- what stands behind items does not begin with their keyword
behind_items : {A : Type 0} (w : A → List Mark) (first k : Keyword) (xs : List A) (ms : List Mark) (rest : List Kind) → ((x : A) (ts : List Kind) → sees_keyword k (kinds_in (w x) ++ ts) ≡ false) → sees_keyword k (kinds_in ms ++ rest) ≡ false
    → sees_keyword k (kinds_in (flat_map w xs ++ ms) ++ rest) ≡ false
behind_items w first k [] ms rest h off = off
behind_items w first k (x ∷ xs) ms rest h off =
    ap (λ (ks : List Kind). sees_keyword k ks) (ap (λ (ys : List Mark). kinds_in ys ++ rest) (append_assoc (w x) (flat_map w xs) ms) ∙ sym (kinds_append (w x) (flat_map w xs ++ ms) rest)) ∙ h x (kinds_in (flat_map w xs ++ ms) ++ rest)

pub find_module : (n : ℕ) → Finds n HasTokens module_marks Free (one_module n)
unfolding one_module
find_module n m v rest quiet =
    let goal : Parsed ModuleTree = Ok (m, rest) in
    let last : List Mark = mark 0 signs.Dot ∷ [] in
    let inner : List Mark = word 0 keywords.Begin ∷ (stmts_marks 0 m.body ++ word 0 keywords.End ∷ last) in
    let four : List Mark = flat_map entry_marks m.entries ++ inner in
    let three : List Mark = vars_marks m.vars ++ four in
    let two : List Mark = flat_map (var_marks keywords.Param) m.params ++ three in
    let one : List Mark = flat_map op_marks m.ops ++ two in
    find_keyword n 0 keywords.Module
    (λ _. name >>= (λ a. sign signs.Semicolon >>= (λ _. ops n >>= (λ o. vars keywords.Param >>= (λ p. vars keywords.Var >>= (λ g. entries n >>= (λ e. body n >>= (λ b. sign signs.Dot >>= (λ _. pure (record { name = a; ops = o; params = p; vars = g; entries = e; body = b }))))))))))
    (grammar.name 0 m.name ∷ mark 0 signs.Semicolon ∷ one) rest goal (omega arith)
    (find_name n 0 m.name (λ a. sign signs.Semicolon >>= (λ _. ops n >>= (λ o. vars keywords.Param >>= (λ p. vars keywords.Var >>= (λ g. entries n >>= (λ e. body n >>= (λ b. sign signs.Dot >>= (λ _. pure (record { name = a; ops = o; params = p; vars = g; entries = e; body = b })))))))))
    (mark 0 signs.Semicolon ∷ one) rest goal (omega arith)
    (find_sign n 0 signs.Semicolon (λ _. ops n >>= (λ o. vars keywords.Param >>= (λ p. vars keywords.Var >>= (λ g. entries n >>= (λ e. body n >>= (λ b. sign signs.Dot >>= (λ _. pure (record { name = m.name; ops = o; params = p; vars = g; entries = e; body = b })))))))) one rest goal (omega arith)
    (find_items n Anything op_marks keywords.Op (op n) (λ o. vars keywords.Param >>= (λ p. vars keywords.Var >>= (λ g. entries n >>= (λ e. body n >>= (λ b. sign signs.Dot >>= (λ _. pure (record { name = m.name; ops = o; params = p; vars = g; entries = e; body = b }))))))) (find_op n) op_begins m.ops
    (all_of m.ops) two rest goal
    (behind_items (var_marks keywords.Param) keywords.Param keywords.Op m.params three rest (λ x ts. param_op)
    (behind_items (var_marks keywords.Var) keywords.Var keywords.Op m.vars four rest (λ x ts. var_op) (behind_items entry_marks keywords.Entry keywords.Op m.entries inner rest (λ x ts. entry_op) begin_op)))
    (find_items n Anything (var_marks keywords.Param) keywords.Param var (λ p. vars keywords.Var >>= (λ g. entries n >>= (λ e. body n >>= (λ b. sign signs.Dot >>= (λ _. pure (record { name = m.name; ops = m.ops; params = p; vars = g; entries = e; body = b })))))) (find_var n keywords.Param)
    (var_begins keywords.Param) m.params (all_of m.params) three rest goal
    (behind_items (var_marks keywords.Var) keywords.Var keywords.Param m.vars four rest (λ x ts. var_param) (behind_items entry_marks keywords.Entry keywords.Param m.entries inner rest (λ x ts. entry_param) begin_param))
    (find_items n Anything (var_marks keywords.Var) keywords.Var var (λ g. entries n >>= (λ e. body n >>= (λ b. sign signs.Dot >>= (λ _. pure (record { name = m.name; ops = m.ops; params = m.params; vars = g; entries = e; body = b }))))) (find_var n keywords.Var) (var_begins keywords.Var) m.vars
    (all_of m.vars) four rest goal
    (behind_items entry_marks keywords.Entry keywords.Var m.entries inner rest (λ x ts. entry_var) begin_var)
    (find_items n IsEntry entry_marks keywords.Entry (entry n) (λ e. body n >>= (λ b. sign signs.Dot >>= (λ _. pure (record { name = m.name; ops = m.ops; params = m.params; vars = m.vars; entries = e; body = b })))) (find_entry n) entry_begins m.entries v.0 inner rest goal begin_entry
    (find_body n m.body v.1 (λ b. sign signs.Dot >>= (λ _. pure (record { name = m.name; ops = m.ops; params = m.params; vars = m.vars; entries = m.entries; body = b }))) last rest goal (find_sign n 0 signs.Dot (λ _. pure m) [] rest goal (omega arith) refl))))))))

-- the tokens of a module are read as it, unless one of them opens too much
pub find_whole : (n : ℕ) (m : ModuleTree) → HasTokens m → whole n (kinds_in (module_marks m)) ≡ guard n (module_marks m) [] (Ok (m, []))
unfolding whole
find_whole n m v =
    let plain : kinds_in (module_marks m) ++ [] ≡ kinds_in (module_marks m) = append-nil (kinds_in (module_marks m)) in
    ap (λ (ks : List Kind). then_parse (one_module n ks) at_end) (sym plain) ∙ ap (λ (o : Parsed ModuleTree). then_parse o at_end) (find_module n m v [] tt) ∙ guard_then n (module_marks m) [] (Ok (m, [])) at_end
