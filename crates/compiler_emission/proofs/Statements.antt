-- The code of statements, by that of their parts.
use Rattle.std.proofs.Common.{◌≡◌, ℕ, ◌+◌, ◌<◌, List, [], ◌∷◌, ◌++◌, length, ◌≤◌, ◌-◌, drop, get_or, map, reverse, refl, sym, ap, ◌∙◌, arith, append_assoc, length-append, length-drop}
use Rattle.std.proofs.lemmas.List.{drop_more, reverse-append, map-append, length-map, length-reverse}
use Rattle.lynx_tree.specs.declared.statement.Stmt as stmt
use Rattle.lynx_tree.specs.declared.statement.Handler.{Handler}
use Rattle.lynx_tree.specs.Trees.{StmtTrees, stmt_tree, stmt_list, handler_list}
use Rattle.typing_rules.specs.Exceptions.{exception_of}
use Rattle.lynx_code.specs.Generation.{Names, stmt_code, stmts_code, handlers_code, exception_named, store, stores}
use Rattle.lynx_code.specs.declared.instruction.Instruction.{Instruction}
use Rattle.lynx_code.specs.declared.instruction.Instruction.TheVariants as code
use Rattle.compiler_emission.specs.Jumps.{over_code, handler_code}
use Rattle.compiler_emission.proofs.Emitting.{each}

-- ---- lists

abbrev pub stmt_here : Names → ℕ → stmt.Stmt → List Instruction
stmt_here names at s = stmt_code names at (stmt_tree s)

abbrev pub handler_here : Names → ℕ → ℕ → Handler → List Instruction
handler_here names behind at h = handler_code names behind at h.name (stmt_list h.body.items)

pub stmts_are : (names : Names) (at : ℕ) (ss : List stmt.Stmt) → each (stmt_here names) at ss ≡ stmts_code names at (stmt_list ss)
stmts_are names at [] = refl
stmts_are names at (s ∷ ss) = ap (λ (is : List Instruction). stmt_here names at s ++ is) (stmts_are names (at + length (stmt_here names at s)) ss)

pub handlers_are : (names : Names) (behind at : ℕ) (hs : List Handler) → each (handler_here names behind) at hs ≡ handlers_code names behind at (handler_list hs)
handlers_are names behind at [] = refl
handlers_are names behind at (h ∷ hs) =
    let b : List Instruction = stmts_code names (at + 1) (stmt_list h.body.items) in
    let first : List Instruction = over_code names (code.Case (exception_named (exception_of h.name))) 1 at (stmt_list h.body.items) in
    let next : at + length (handler_here names behind at h) ≡ at + 1 + length b + 1 = omega (arith, length-append first (code.Jump behind ∷ [])) in
    ap (λ (is : List Instruction). handler_here names behind at h ++ is) (ap (λ k. each (handler_here names behind) k hs) next ∙ handlers_are names behind (at + 1 + length b + 1) hs)
    ∙ append_assoc first (code.Jump behind ∷ []) (handlers_code names behind (at + 1 + length b + 1) (handler_list hs))

-- ---- a jump over statements and no more

pub just_over : (names : Names) (jump : ℕ → Instruction) (at : ℕ) (ss : StmtTrees) → over_code names jump 0 at ss ≡ jump (at + 1 + length (stmts_code names (at + 1) ss)) ∷ stmts_code names (at + 1) ss
just_over names jump at ss = ap (λ k. jump k ∷ stmts_code names (at + 1) ss) (omega arith)

-- ---- stores

-- a name more, from behind
pub stores_step : (names : Names) (xs : List (List ℕ)) (i j : ℕ) (x : List ℕ) (o o' old : List Instruction) → j + i + 1 ≡ length xs → x ≡ get_or xs j x → o' ≡ o ++ store names x ∷ []
    → o ≡ old ++ stores names (drop (length xs - i) xs) → o' ≡ old ++ stores names (drop (length xs - (i + 1)) xs)
stores_step names xs i j x o o' old place is grown before =
    let rest : List (List ℕ) = drop (length xs - i) xs in
    let first : length xs - (i + 1) ≡ j = omega arith in
    let second : j + 1 ≡ length xs - i = omega arith in
    let here : drop (length xs - (i + 1)) xs ≡ x ∷ rest = ap (λ k. drop k xs) first ∙ drop_more xs j x (omega arith) ∙ (λ k. sym is k ∷ drop (j + 1) xs) ∙ ap (λ k. x ∷ drop k xs) second in
    let turned : stores names (x ∷ rest) ≡ stores names rest ++ store names x ∷ [] = ap (map (store names)) (reverse-append (x ∷ []) rest) ∙ map-append (store names) (reverse rest) (x ∷ []) in
    grown ∙ ap (λ (y : List Instruction). y ++ store names x ∷ []) before ∙ append_assoc old (stores names rest) (store names x ∷ []) ∙ ap (λ (y : List Instruction). old ++ y) (sym (ap (stores names) here ∙ turned))

pub stores_end : (names : Names) (xs : List (List ℕ)) (i : ℕ) (o old : List Instruction) → length xs ≤ i → o ≡ old ++ stores names (drop (length xs - i) xs) → o ≡ old ++ stores names xs
stores_end names xs i o old le h = let all : length xs - i ≡ 0 = omega arith in h ∙ ap (λ k. old ++ stores names (drop k xs)) all

pub stores_count : (names : Names) (xs : List (List ℕ)) → length (stores names xs) ≡ length xs
stores_count names xs = length-map (reverse xs) (store names) ∙ length-reverse xs

pub stores_long : (names : Names) (xs : List (List ℕ)) (i : ℕ) (o old : List Instruction) → i < length xs → o ≡ old ++ stores names (drop (length xs - i) xs) → 65535 ≤ length o → 65535 < length old + length (stores names xs)
stores_long names xs i o old lt h long =
    let size : length o ≡ length old + length (stores names (drop (length xs - i) xs)) = ap length h ∙ length-append old (stores names (drop (length xs - i) xs)) in
    omega (arith, stores_count names xs, stores_count names (drop (length xs - i) xs), length-drop (length xs - i) xs)
