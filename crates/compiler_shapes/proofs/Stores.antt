-- The shapes of the code of several values, and of several variables that get values.
use Rattle.std.proofs.Common.{◌≡◌, ℕ, ◌+◌, List, [], ◌∷◌, ◌++◌, length, map, reverse, true, Some, is_some, refl, sym, ap, ◌∙◌, subst, append_assoc, arith}
use Rattle.std.proofs.lemmas.List.{reverse-append}
use Rattle.lynx_tree.specs.Trees.{ExprTree, ExprTrees}
use Rattle.lynx_tree.specs.Trees as trees
use Rattle.lynx_tree.specs.Grammar.{AreExprs}
use Rattle.lynx_tree.specs.declared.declaration.TypeName.{TypeName}
use Rattle.lynx_tree.specs.declared.declaration.TypeName.TheVariants as types
use Rattle.typing_rules.specs.Expressions.{expr_faults, expr_size, judged, shown_type, values_faults}
use Rattle.typing_rules.specs.Names.{type_of_variable}
use Rattle.typing_rules.specs.Rules.{Fault, is_variable, variable_is_link}
use Rattle.typing_rules.specs.Statements.{link_faults, names_faults}
use Rattle.typing_rules.specs.Types.{Held, fits}
use Rattle.lynx_code.specs.Generation.{expr_code, exprs_code, how_many, store, stores}
use Rattle.lynx_code.specs.Modules.{ArePairs}
use Rattle.compiler_expressions.proofs.Clean.{both-clean, demand-met, judged-clean}
use Rattle.compiler_expressions.proofs.Variables.{some-of}
use Rattle.compiler_statements.proofs.Answers.{pairs-reverse}
use Rattle.code_shapes.specs.Shapes.{pushed}
use Rattle.compiler_shapes.proofs.Expressions.{Shows, expr_shows, pass_on}
use Rattle.compiler_shapes.proofs.Operands.{same_is, store_passes}
use Rattle.compiler_shapes.proofs.Parts.{Caught, Open, Part, Passes, on}
use Rattle.compiler_shapes.proofs.Walks.{nothing}

-- ---- values

pub pushed_more : (t : TypeName) (ts stack : List TypeName) → pushed ts (t ∷ stack) ≡ pushed (t ∷ ts) stack
pushed_more t ts stack = sym (append_assoc (reverse ts) (t ∷ []) stack) ∙ ap (λ (us : List TypeName). us ++ stack) (sym (reverse-append (t ∷ []) ts))

-- code that leaves so many values, which have the wanted types where these are as many
pub record ShowsAll (c : Part) (o : Open) (at number : ℕ) (es : ExprTrees) (stack wanted : List TypeName) : Type 0 where
  pub kinds : List TypeName
  pub size : length kinds ≡ number
  pub fitting : length wanted ≡ number → kinds ≡ wanted
  pub passes : Passes c o at (exprs_code c.names at es) stack (pushed kinds stack)

-- where they are as many as wanted
pub as_many_wanted : (c : Part) (o : Open) (at number : ℕ) (es : ExprTrees) (stack wanted : List TypeName) → ShowsAll c o at number es stack wanted → length wanted ≡ number → Passes c o at (exprs_code c.names at es) stack (pushed wanted stack)
as_many_wanted c o at number es stack wanted shows long = subst (λ (ks : List TypeName). Passes c o at (exprs_code c.names at es) stack (pushed ks stack)) (shows.fitting long) shows.passes

-- a rule that asks for a type
abbrev pub AsksForType : (TypeName → ℕ → Held → List Fault) → Type 0
AsksForType rule = (t : TypeName) (at : ℕ) (held : Held) → rule t at held ≡ [] → fits t held ≡ true

-- one value more, whose type fits the first wanted one if there is one
one_more : (c : Part) (o : Open) (at : ℕ) (e : ExprTree) (es : ExprTrees) (stack wanted left : List TypeName) (first : Shows c o at (expr_code c.names at e) stack (shown_type c.scope e)) →
    ShowsAll c o (at + length (expr_code c.names at e)) (how_many es) es (first.kind ∷ stack) left → ((ks : List TypeName) → (length left ≡ how_many es → ks ≡ left) → length wanted ≡ how_many es + 1 → first.kind ∷ ks ≡ wanted) →
    ShowsAll c o at (how_many es + 1) (trees.more_exprs e es) stack wanted
one_more c o at e es stack wanted left first rest fitting =
    let x = expr_code c.names at e in
    let size : length (first.kind ∷ rest.kinds) ≡ how_many es + 1 = omega (arith, rest.size) in
    record {
      kinds = first.kind ∷ rest.kinds;
      size = size;
      fitting = fitting rest.kinds rest.fitting;
      passes = subst (λ (us : List TypeName). Passes c o at (exprs_code c.names at (trees.more_exprs e es)) stack us) (pushed_more first.kind rest.kinds stack)
          (pass_on c o at x (exprs_code c.names (at + length x) es) stack (first.kind ∷ stack) (pushed rest.kinds (first.kind ∷ stack)) first.passes rest.passes);
    }

pub exprs_show : (c : Part) (o : Open) (es : ExprTrees) (rule : TypeName → ℕ → Held → List Fault) → AsksForType rule → (wanted : List TypeName) (most at place : ℕ) (stack : List TypeName) →
    AreExprs most es → values_faults rule c.scope place es wanted ≡ [] → ShowsAll c o at (how_many es) es stack wanted
exprs_show c o trees.no_exprs rule asks wanted most at place stack is clean =
    record { kinds = []; size = refl; fitting = λ long. none wanted long; passes = nothing c.whole (Caught c o) at (on c o stack) }
  where
    none : (ws : List TypeName) → length ws ≡ 0 → [] ≡ ws
    none [] long = refl
    none (w ∷ ws) long = absurd (omega arith)
exprs_show c o (trees.more_exprs e es) rule asks [] most at place stack is clean =
    let parts = both-clean (expr_faults c.scope place e) (values_faults rule c.scope (place + expr_size e + 1) es []) clean in
    let first = expr_shows c o e at place stack is.1 parts.0 in
    one_more c o at e es stack [] [] first (exprs_show c o es rule asks [] most (at + length (expr_code c.names at e)) (place + expr_size e + 1) (first.kind ∷ stack) is.2 parts.1)
    (λ ks fitting long. absurd (omega (arith, long)))
exprs_show c o (trees.more_exprs e es) rule asks (w ∷ ws) most at place stack is clean =
    let parts = both-clean (judged (rule w) place (expr_faults c.scope place e) (shown_type c.scope e)) (values_faults rule c.scope (place + expr_size e + 1) es ws) clean in
    let met = judged-clean (rule w) place (expr_faults c.scope place e) (shown_type c.scope e) parts.0 in
    let first = expr_shows c o e at place stack is.1 met.0 in
    let same = same_is w first.kind (subst (λ (h : Held). fits w h ≡ true) first.shown (asks w place (shown_type c.scope e) met.1)) in
    one_more c o at e es stack (w ∷ ws) ws first (exprs_show c o es rule asks ws most (at + length (expr_code c.names at e)) (place + expr_size e + 1) (first.kind ∷ stack) is.2 parts.1)
    (λ ks fitting long. more_same w first.kind ws ks same (fitting (omega (arith, long))))
  where
    more_same : (t u : TypeName) (ts us : List TypeName) → t ≡ u → us ≡ ts → u ∷ us ≡ t ∷ ts
    more_same t u ts us first rest = ap (λ (v : TypeName). v ∷ us) (sym first) ∙ ap (λ (vs : List TypeName). t ∷ vs) rest

-- ---- variables

-- a variable of the type
abbrev pub IsOfType : Part → List ℕ → TypeName → Type 0
IsOfType c name t = type_of_variable (c.scope name) ≡ Some t

pub variable_of : (c : Part) (name : List ℕ) (t : TypeName) → is_some (type_of_variable (c.scope name)) ≡ true → fits t (type_of_variable (c.scope name)) ≡ true → IsOfType c name t
variable_of c name t known fit =
    let found = some-of (type_of_variable (c.scope name)) known in
    let same = same_is t found.0 (subst (λ (h : Held). fits t h ≡ true) found.1 fit) in
    found.1 ∙ ap Some (sym same)

pub link_variable : (c : Part) (at : ℕ) (name : List ℕ) → link_faults c.scope at name ≡ [] → IsOfType c name types.Link
link_variable c at name clean =
    let parts = both-clean (is_variable at (c.scope name)) (variable_is_link at (type_of_variable (c.scope name))) clean in
    variable_of c name types.Link (demand-met _ _ _ parts.0) (demand-met _ _ _ parts.1)

-- as many names as types, which are variables of these types by a rule that asks for it
pub variables_of : (c : Part) (rule : TypeName → ℕ → Held → List Fault) → AsksForType rule → (at : ℕ) (xs : List (List ℕ)) (ts : List TypeName) → length xs ≡ length ts → names_faults rule c.scope at xs ts ≡ [] → ArePairs (IsOfType c) xs ts
variables_of c rule asks at [] [] long clean = tt
variables_of c rule asks at [] (t ∷ ts) long clean = absurd (omega arith)
variables_of c rule asks at (x ∷ xs) [] long clean = absurd (omega arith)
variables_of c rule asks at (x ∷ xs) (t ∷ ts) long clean =
    let parts = both-clean (is_variable at (c.scope x) ++ rule t at (type_of_variable (c.scope x))) (names_faults rule c.scope (at + 2) xs ts) clean in
    let name = both-clean (is_variable at (c.scope x)) (rule t at (type_of_variable (c.scope x))) parts.0 in
    let fewer : length xs ≡ length ts = omega (arith, long) in
    (variable_of c x t (demand-met _ _ _ name.0) (asks t at (type_of_variable (c.scope x)) name.1), variables_of c rule asks (at + 2) xs ts fewer parts.1)

each_stored : (c : Part) (o : Open) (at : ℕ) (xs : List (List ℕ)) (ts stack : List TypeName) → ArePairs (IsOfType c) xs ts → Passes c o at (map (store c.names) xs) (ts ++ stack) stack
each_stored c o at [] [] stack h = nothing c.whole (Caught c o) at (on c o stack)
each_stored c o at [] (t ∷ ts) stack h = absurd h
each_stored c o at (x ∷ xs) [] stack h = absurd h
each_stored c o at (x ∷ xs) (t ∷ ts) stack h =
    pass_on c o at (store c.names x ∷ []) (map (store c.names) xs) (t ∷ (ts ++ stack)) (ts ++ stack) stack (store_passes c o at x t (ts ++ stack) h.0) (each_stored c o (at + 1) xs ts stack h.1)

-- values that came on the stack in the order of the names
pub stores_pass : (c : Part) (o : Open) (at : ℕ) (xs : List (List ℕ)) (ts stack : List TypeName) → ArePairs (IsOfType c) xs ts → Passes c o at (stores c.names xs) (pushed ts stack) stack
stores_pass c o at xs ts stack h = each_stored c o at (reverse xs) (reverse ts) stack (pairs-reverse (IsOfType c) xs ts h)
