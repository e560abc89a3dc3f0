-- Lists of expressions and statements: their code is that of each, one after the other.
use Rattle.std.proofs.Common.{◌≡◌, ℕ, ◌+◌, List, [], ◌∷◌, ◌++◌, length, ◌<◌, refl, sym, ap, subst, ◌∙◌, arith, append_assoc, length-append}
use Rattle.lynx_lexer.specs.declared.sign.Sign.{Sign}
use Rattle.lynx_tree.specs.declared.expression.Expr as expr
use Rattle.lynx_tree.specs.declared.expression.TermSign.{TermSign}
use Rattle.std.specs.Global.{Vec, Box}
use Rattle.lynx_tree.proofs.Views.{expr_tree-Or, expr_tree-And, expr_tree-Sums, expr_tree-Terms}
use Rattle.lynx_tree.specs.Trees.{expr_tree, expr_list, sum_list, term_list}
use Rattle.lynx_tree.specs.Trees as trees
use Rattle.lynx_code.specs.Generation.{how_many}
use Rattle.lynx_code.specs.declared.instruction.Instruction.TheVariants as code
use Rattle.lynx_code.specs.Generation.{Names, expr_code, chain_code, chain_rest, sum_code, term_code, exprs_code, sum_operator, term_operator}
use Rattle.lynx_code.specs.declared.instruction.Instruction.{Instruction}
use Rattle.compiler_emission.specs.Chains.{member_code}
use Rattle.compiler_emission.proofs.Emitting.{each, both, both_long}

-- ---- the code of one

abbrev pub value_here : Names → ℕ → expr.Expr → List Instruction
value_here names at e = expr_code names at (expr_tree e)

abbrev pub member_here : Names → (ℕ → Instruction) → ℕ → expr.Expr → List Instruction
member_here names jump at e = member_code names jump at (expr_tree e)

abbrev pub sum_here : Names → ℕ → (Sign × expr.Expr) → List Instruction
sum_here names at m = expr_code names at (expr_tree m.1) ++ sum_operator m.0 ∷ []

abbrev pub term_here : Names → ℕ → (TermSign × expr.Expr) → List Instruction
term_here names at m = expr_code names at (expr_tree m.1) ++ term_operator m.0 ∷ []

-- ---- and of all

pub values_are : (names : Names) (at : ℕ) (es : List expr.Expr) → each (value_here names) at es ≡ exprs_code names at (expr_list es)
values_are names at [] = refl
values_are names at (e ∷ es) = ap (λ (is : List Instruction). value_here names at e ++ is) (values_are names (at + length (value_here names at e)) es)

pub members_are : (names : Names) (jump : ℕ → Instruction) (at : ℕ) (es : List expr.Expr) → each (member_here names jump) at es ≡ chain_rest names jump at (expr_list es)
members_are names jump at [] = refl
members_are names jump at (e ∷ es) =
    let x : List Instruction = expr_code names (at + 1) (expr_tree e) in
    let next : at + length (member_here names jump at e) ≡ at + 1 + length x = omega arith in
    ap (λ (is : List Instruction). member_here names jump at e ++ is) (ap (λ k. each (member_here names jump) k es) next ∙ members_are names jump (at + 1 + length x) es)

pub sums_are : (names : Names) (at : ℕ) (ms : List (Sign × expr.Expr)) → each (sum_here names) at ms ≡ sum_code names at (sum_list ms)
sums_are names at [] = refl
sums_are names at (m ∷ ms) =
    let x : List Instruction = expr_code names at (expr_tree m.1) in
    let next : at + length (sum_here names at m) ≡ at + length x + 1 = omega (arith, length-append x (sum_operator m.0 ∷ [])) in
    ap (λ (is : List Instruction). sum_here names at m ++ is) (ap (λ k. each (sum_here names) k ms) next ∙ sums_are names (at + length x + 1) ms)
    ∙ append_assoc x (sum_operator m.0 ∷ []) (sum_code names (at + length x + 1) (sum_list ms))

pub terms_are : (names : Names) (at : ℕ) (ms : List (TermSign × expr.Expr)) → each (term_here names) at ms ≡ term_code names at (term_list ms)
terms_are names at [] = refl
terms_are names at (m ∷ ms) =
    let x : List Instruction = expr_code names at (expr_tree m.1) in
    let next : at + length (term_here names at m) ≡ at + length x + 1 = omega (arith, length-append x (term_operator m.0 ∷ [])) in
    ap (λ (is : List Instruction). term_here names at m ++ is) (ap (λ k. each (term_here names) k ms) next ∙ terms_are names (at + length x + 1) ms)
    ∙ append_assoc x (term_operator m.0 ∷ []) (term_code names (at + length x + 1) (term_list ms))

-- ---- chains

pub chain_whole : (names : Names) (jump : ℕ → Instruction) (first : expr.Expr) (rest members : List expr.Expr) (old mid last : List Instruction) → members ≡ first ∷ rest → mid ≡ old ++ value_here names (length old) first
    → last ≡ mid ++ each (member_here names jump) (length mid) rest → last ≡ old ++ chain_code names jump (length old) (expr_list members)
chain_whole names jump first rest members old mid last are begun whole =
    both (λ k. chain_rest names jump k (expr_list rest)) old mid last (value_here names (length old) first) begun (whole ∙ ap (λ (is : List Instruction). mid ++ is) (members_are names jump (length mid) rest))
    ∙ ap (λ (es : List expr.Expr). old ++ chain_code names jump (length old) (expr_list es)) (sym are)

pub chain_long : (names : Names) (jump : ℕ → Instruction) (first : expr.Expr) (rest members : List expr.Expr) (old mid : List Instruction) → members ≡ first ∷ rest → mid ≡ old ++ value_here names (length old) first
    → 65535 < length mid + length (each (member_here names jump) (length mid) rest) → 65535 < length old + length (chain_code names jump (length old) (expr_list members))
chain_long names jump first rest members old mid are begun long =
    subst (λ (es : List expr.Expr). 65535 < length old + length (chain_code names jump (length old) (expr_list es))) (sym are)
    (both_long (λ k. chain_rest names jump k (expr_list rest)) old mid (value_here names (length old) first) begun (subst (λ (is : List Instruction). 65535 < length mid + length is) (members_are names jump (length mid) rest) long))

-- ---- expressions with a list, as they lie in memory

pub or_is : (names : Names) (at : ℕ) (e : expr.Expr) (b : Box (Vec expr.Expr)) (v : Vec expr.Expr) (members : List expr.Expr) → e ≡ expr.Or b → v ≡ b.value → members ≡ v.items → chain_code names code.OrJ at (expr_list members) ≡ expr_code names at (expr_tree e)
or_is names at e b v members is boxed held =
    let all = held ∙ ap (λ (w : Vec expr.Expr). w.items) boxed in
    ap (λ (es : List expr.Expr). chain_code names code.OrJ at (expr_list es)) all ∙ sym (ap (λ (x : expr.Expr). expr_code names at (expr_tree x)) is ∙ ap (expr_code names at) (expr_tree-Or b))

pub and_is : (names : Names) (at : ℕ) (e : expr.Expr) (b : Box (Vec expr.Expr)) (v : Vec expr.Expr) (members : List expr.Expr) → e ≡ expr.And b → v ≡ b.value → members ≡ v.items → chain_code names code.AndJ at (expr_list members) ≡ expr_code names at (expr_tree e)
and_is names at e b v members is boxed held =
    let all = held ∙ ap (λ (w : Vec expr.Expr). w.items) boxed in
    ap (λ (es : List expr.Expr). chain_code names code.AndJ at (expr_list es)) all ∙ sym (ap (λ (x : expr.Expr). expr_code names at (expr_tree x)) is ∙ ap (expr_code names at) (expr_tree-And b))

pub sums_is : (names : Names) (at : ℕ) (e first : expr.Expr) (b : Box expr.Expr) (rest : Box (Vec (Sign × expr.Expr))) (v : Vec (Sign × expr.Expr)) (members : List (Sign × expr.Expr)) → e ≡ expr.Sums b rest → first ≡ b.value → v ≡ rest.value → members ≡ v.items
    → expr_code names at (expr_tree first) ++ sum_code names (at + length (expr_code names at (expr_tree first))) (sum_list members) ≡ expr_code names at (expr_tree e)
sums_is names at e first b rest v members is begun boxed held =
    let all = held ∙ ap (λ (w : Vec (Sign × expr.Expr)). w.items) boxed in
    ap (λ (f : expr.Expr). expr_code names at (trees.Sum (expr_tree f) (sum_list members))) begun ∙ ap (λ (ms : List (Sign × expr.Expr)). expr_code names at (trees.Sum (expr_tree b.value) (sum_list ms))) all
    ∙ sym (ap (λ (x : expr.Expr). expr_code names at (expr_tree x)) is ∙ ap (expr_code names at) (expr_tree-Sums b rest))

pub terms_is : (names : Names) (at : ℕ) (e first : expr.Expr) (b : Box expr.Expr) (rest : Box (Vec (TermSign × expr.Expr))) (v : Vec (TermSign × expr.Expr)) (members : List (TermSign × expr.Expr)) → e ≡ expr.Terms b rest → first ≡ b.value → v ≡ rest.value → members ≡ v.items
    → expr_code names at (expr_tree first) ++ term_code names (at + length (expr_code names at (expr_tree first))) (term_list members) ≡ expr_code names at (expr_tree e)
terms_is names at e first b rest v members is begun boxed held =
    let all = held ∙ ap (λ (w : Vec (TermSign × expr.Expr)). w.items) boxed in
    ap (λ (f : expr.Expr). expr_code names at (trees.Term (expr_tree f) (term_list members))) begun ∙ ap (λ (ms : List (TermSign × expr.Expr)). expr_code names at (trees.Term (expr_tree b.value) (term_list ms))) all
    ∙ sym (ap (λ (x : expr.Expr). expr_code names at (expr_tree x)) is ∙ ap (expr_code names at) (expr_tree-Terms b rest))

pub sum_is : (names : Names) (at : ℕ) (e x y : expr.Expr) (sign : Sign) (first second : Box expr.Expr) (operator : Instruction) → e ≡ expr.Sum sign first second → x ≡ first.value → y ≡ second.value → operator ≡ sum_operator sign
    → expr_code names at (expr_tree x) ++ (expr_code names (at + length (expr_code names at (expr_tree x))) (expr_tree y) ++ operator ∷ []) ≡ expr_code names at (expr_tree e)
sum_is names at e x y sign first second operator is head last does =
    let begun : List Instruction = expr_code names at (expr_tree x) in
    let more : List Instruction = expr_code names (at + length begun) (expr_tree y) in
    ap (λ (o : Instruction). begun ++ (more ++ o ∷ [])) does ∙ (λ i. expr_code names at (trees.Sum (expr_tree (head i)) (trees.more_sums sign (expr_tree (last i)) trees.no_sums))) ∙ sym (ap (λ (z : expr.Expr). expr_code names at (expr_tree z)) is)

pub term_is : (names : Names) (at : ℕ) (e x y : expr.Expr) (sign : TermSign) (first second : Box expr.Expr) (operator : Instruction) → e ≡ expr.Term sign first second → x ≡ first.value → y ≡ second.value → operator ≡ term_operator sign
    → expr_code names at (expr_tree x) ++ (expr_code names (at + length (expr_code names at (expr_tree x))) (expr_tree y) ++ operator ∷ []) ≡ expr_code names at (expr_tree e)
term_is names at e x y sign first second operator is head last does =
    let begun : List Instruction = expr_code names at (expr_tree x) in
    let more : List Instruction = expr_code names (at + length begun) (expr_tree y) in
    ap (λ (o : Instruction). begun ++ (more ++ o ∷ [])) does ∙ (λ i. expr_code names at (trees.Term (expr_tree (head i)) (trees.more_terms sign (expr_tree (last i)) trees.no_terms))) ∙ sym (ap (λ (z : expr.Expr). expr_code names at (expr_tree z)) is)

pub how_many_are : (es : List expr.Expr) → how_many (expr_list es) ≡ length es
how_many_are [] = refl
how_many_are (e ∷ es) = ap (λ k. k + 1) (how_many_are es) ∙ omega arith
