-- What printing the parts of a statement says of it.
use Rattle.std.proofs.Common.{◌≡◌, ℕ, suc, List, [], ◌∷◌, ◌++◌, Option, Some, None, Result, Ok, Err, refl, sym, ap, subst, ◌∙◌, append_assoc}
use Rattle.std.specs.Prelude.{OnOk}
use Rattle.std.specs.Global.{Vec, Box}
use Rattle.std.specs.List.{flat_map}
use Rattle.lynx_lexer.specs.declared.memory.NoMemory.{NoMemory}
use Rattle.lynx_lexer.specs.declared.keyword.Keyword.TheVariants as keywords
use Rattle.lynx_lexer.specs.declared.sign.Sign.TheVariants as signs
use Rattle.lynx_tree.specs.declared.expression.Expr as expr
use Rattle.lynx_tree.specs.declared.statement.Stmt as stmt
use Rattle.lynx_tree.specs.declared.statement.Handler.{Handler}
use Rattle.lynx_tree.specs.Trees.{expr_tree, stmt_tree, stmt_list, handler_list, else_list, index_tree, assign_tree}
use Rattle.lynx_tree.specs.Grammar.{Mark, word, mark, name, expr_marks, stmt_marks, stmts_marks, handlers_marks, target_marks, else_marks, names_marks, accept_marks}
use Rattle.lynx_tree.specs.Printing.{text_of, token_text, Prints}
use Rattle.lynx_tree.proofs.Views.{if_tree, if_else_tree}
use Rattle.lynx_printer.proofs.Texts.{text_of-append}
use Rattle.std.proofs.lemmas.List.{append-nil}

pub choice_marks : (d : ℕ) (condition : Box expr.Expr) (then : Vec stmt.Stmt) (otherwise : Option (Vec stmt.Stmt)) → stmt_marks d (stmt_tree (stmt.If condition then otherwise))
    ≡ word d keywords.If ∷ (expr_marks d (expr_tree condition.value) ++ word d keywords.Then ∷ (stmts_marks d (stmt_list then.items) ++ else_marks d (else_list otherwise)))
choice_marks d condition then None = ap (stmt_marks d) (if_tree condition then)
choice_marks d condition then (Some otherwise) = ap (stmt_marks d) (if_else_tree condition then otherwise)

-- ---- what printing says

-- what a statement's tokens print, it prints
pub as_marks : (s : stmt.Stmt) (d : ℕ) (marks : List Mark) (r : Result (Unit {0}) NoMemory) (old new : List ℕ) → stmt_marks d (stmt_tree s) ≡ marks → OnOk r (Prints old new marks) → OnOk r (Prints old new (stmt_marks d (stmt_tree s)))
as_marks s d marks r old new e h = subst (λ (ms : List Mark). OnOk r (Prints old new ms)) (sym e) h

pub two : (a b : List Mark) (old mid new : List ℕ) → Prints old mid a → Prints mid new b → Prints old new (a ++ b)
two a b old mid new h g = g ∙ ap (λ (y : List ℕ). y ++ text_of b) h ∙ append_assoc old (text_of a) (text_of b) ∙ ap (λ (y : List ℕ). old ++ y) (sym (text_of-append a b))

pub on_ok : (a b : List Mark) (r : Result (Unit {0}) NoMemory) (old mid new : List ℕ) → Prints old mid a → OnOk r (Prints mid new b) → OnOk r (Prints old new (a ++ b))
on_ok a b (Ok x) old mid new h g = two a b old mid new h g
on_ok a b (Err x) old mid new h g = tt

pub one_then : (t : Mark) (marks : List Mark) (o a new : List ℕ) → a ≡ o ++ token_text t.kind → Prints a new marks → Prints o new (t ∷ marks)
one_then t marks o a new h g = g ∙ ap (λ (y : List ℕ). y ++ text_of marks) h ∙ append_assoc o (token_text t.kind) (text_of marks)

-- a head, a body, and what stands behind it
pub three : (a b c : List Mark) (r : Result (Unit {0}) NoMemory) (old x y new : List ℕ) → Prints old x a → Prints x y b → OnOk r (Prints y new c) → OnOk r (Prints old new (a ++ (b ++ c)))
three a b c r old x y new h g k = on_ok a (b ++ c) r old x new h (on_ok b c r x y new g k)

pub ended : (d : ℕ) (r : Result (Unit {0}) NoMemory) (old new : List ℕ) → OnOk r (new ≡ old ++ token_text (word d keywords.End).kind) → OnOk r (Prints old new (word d keywords.End ∷ []))
ended d (Ok x) old new h = h ∙ ap (λ (y : List ℕ). old ++ y) (sym (append-nil (token_text (word d keywords.End).kind)))
ended d (Err x) old new h = tt

pub assign_marks : (d : ℕ) (n : List ℕ) (index : Option (Box expr.Expr)) (value : expr.Expr) → stmt_marks d (assign_tree n index value) ≡ target_marks d n (index_tree index) ++ mark d signs.Becomes ∷ expr_marks d (expr_tree value)
assign_marks d n None value = refl
assign_marks d n (Some index) value =
    ap (λ (ms : List Mark). name d n ∷ mark (suc d) signs.OpenRow ∷ ms) (sym (append_assoc (expr_marks (suc d) (expr_tree index.value)) (mark (suc d) signs.CloseRow ∷ []) (mark d signs.Becomes ∷ expr_marks d (expr_tree value))))

-- ---- loops

-- a statement and its semicolon
abbrev pub stmt_here : ℕ → stmt.Stmt → List Mark
stmt_here d s = stmt_marks (suc d) (stmt_tree s) ++ mark d signs.Semicolon ∷ []

pub stmts_flat : (d : ℕ) (ss : List stmt.Stmt) → flat_map (stmt_here d) ss ≡ stmts_marks d (stmt_list ss)
stmts_flat d [] = refl
stmts_flat d (s ∷ ss) = append_assoc (stmt_marks (suc d) (stmt_tree s)) (mark d signs.Semicolon ∷ []) (flat_map (stmt_here d) ss) ∙ ap (λ (ms : List Mark). stmt_marks (suc d) (stmt_tree s) ++ mark d signs.Semicolon ∷ ms) (stmts_flat d ss)

abbrev pub handler_here : ℕ → Handler → List Mark
handler_here d h = word d keywords.When ∷ name d h.name ∷ word d keywords.Do ∷ stmts_marks d (stmt_list h.body.items)

pub handlers_flat : (d : ℕ) (hs : List Handler) → flat_map (handler_here d) hs ≡ handlers_marks d (handler_list hs)
handlers_flat d [] = refl
handlers_flat d (h ∷ hs) = ap (λ (ms : List Mark). handler_here d h ++ ms) (handlers_flat d hs)

-- a head of two keywords, and what stands behind it
pub head_first : (a : Mark) (inside : List Mark) (b : Mark) (behind : List Mark) → a ∷ (inside ++ b ∷ behind) ≡ (a ∷ (inside ++ b ∷ [])) ++ behind
head_first a inside b behind = ap (λ (ms : List Mark). a ∷ ms) (sym (append_assoc inside (b ∷ []) behind))

-- a condition in a box that is read
pub of_condition : (d : ℕ) (x y : expr.Expr) (old new : List ℕ) → x ≡ y → Prints old new (word d keywords.If ∷ (expr_marks d (expr_tree x) ++ word d keywords.Then ∷ [])) → Prints old new (word d keywords.If ∷ (expr_marks d (expr_tree y) ++ word d keywords.Then ∷ []))
of_condition d x y old new e h = subst (λ (z : expr.Expr). Prints old new (word d keywords.If ∷ (expr_marks d (expr_tree z) ++ word d keywords.Then ∷ []))) e h

-- the statements of a vector that is read as a slice
pub of_list : (d : ℕ) (xs ys : List stmt.Stmt) (old new : List ℕ) → xs ≡ ys → Prints old new (stmts_marks d (stmt_list xs)) → Prints old new (stmts_marks d (stmt_list ys))
of_list d xs ys old new e h = subst (λ (zs : List stmt.Stmt). Prints old new (stmts_marks d (stmt_list zs))) e h

pub handlers_of_list : (d : ℕ) (xs ys : List Handler) (old new : List ℕ) → xs ≡ ys → Prints old new (handlers_marks d (handler_list xs)) → Prints old new (handlers_marks d (handler_list ys))
handlers_of_list d xs ys old new e h = subst (λ (zs : List Handler). Prints old new (handlers_marks d (handler_list zs))) e h

pub accept_of_list : (d : ℕ) (op link : List ℕ) (xs ys : List (List ℕ)) (old new : List ℕ) → xs ≡ ys → Prints old new (accept_marks d op link xs) → Prints old new (accept_marks d op link ys)
accept_of_list d op link xs ys old new e h = subst (λ (zs : List (List ℕ)). Prints old new (accept_marks d op link zs)) e h

pub accept_first : (d : ℕ) (op link : List ℕ) (names : List (List ℕ)) (behind : List Mark)
    → word d keywords.Accept ∷ name d op ∷ word d keywords.On ∷ name d link ∷ (names_marks d names ++ word d keywords.Do ∷ behind) ≡ accept_marks d op link names ++ behind
accept_first d op link names behind = ap (λ (ms : List Mark). word d keywords.Accept ∷ name d op ∷ word d keywords.On ∷ name d link ∷ ms) (sym (append_assoc (names_marks d names) (word d keywords.Do ∷ []) behind))
