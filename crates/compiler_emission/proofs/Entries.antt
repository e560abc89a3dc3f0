-- The parts of a module, one after the other.
use Rattle.std.proofs.Common.{◌≡◌, ℕ, ◌+◌, ◌<◌, ◌≤◌, List, [], ◌∷◌, ◌++◌, length, drop, get_or, map, refl, sym, ap, subst, ◌∙◌, arith, length-append}
use Rattle.std.proofs.lemmas.List.{append-nil, drop_more, drop_all, length-map}
use Rattle.lynx_tree.specs.Trees.{EntryTree, ModuleTree, StmtTrees, entry_tree, op_tree}
use Rattle.lynx_tree.specs.declared.declaration.EntryDecl.{EntryDecl}
use Rattle.lynx_tree.specs.declared.declaration.OpDecl.{OpDecl}
use Rattle.lynx_code.specs.Generation.{Names, stmts_code}
use Rattle.lynx_code.specs.Modules.{PartCode, main_part, entry_part, entry_parts, instructions_of, module_code, names_of, local_names, body_code, ArePairs, IsPartOf, IsOpOf}
use Rattle.lynx_code.specs.declared.code.Part.{Part}
use Rattle.lynx_code.specs.declared.code.CodeOp.{CodeOp}
use Rattle.lynx_code.specs.declared.instruction.Instruction.{Instruction}
use Rattle.lynx_code.specs.declared.instruction.Instruction.TheVariants as code
use Rattle.compiler_emission.proofs.Emitting.{each}
use Rattle.compiler_emission.proofs.Pairing.{IsLeft, one_made, all_made}

-- ---- instructions

abbrev pub entry_here : ModuleTree → ℕ → EntryDecl → List Instruction
entry_here m at e = (entry_part m at (entry_tree e)).instructions

pub entries_are : (m : ModuleTree) (at : ℕ) (es : List EntryDecl) → each (entry_here m) at es ≡ instructions_of (entry_parts m at (map entry_tree es))
entries_are m at [] = refl
entries_are m at (e ∷ es) = ap (λ (is : List Instruction). entry_here m at e ++ is) (entries_are m (at + length (entry_here m at e)) es)

-- each entry has an instruction, and so has the body of the module
entries_have : (m : ModuleTree) (at : ℕ) (es : List EntryTree) → length es ≤ length (instructions_of (entry_parts m at es))
entries_have m at [] = omega arith
entries_have m at (e ∷ es) =
    let body : List Instruction = stmts_code (names_of m (local_names e)) at e.body in
    let here : List Instruction = body ++ code.End ∷ [] in
    omega (arith, length-append here (instructions_of (entry_parts m (at + length here) es)), length-append body (code.End ∷ []), entries_have m (at + length here) es)

pub too_many : (m : ModuleTree) (es : List EntryDecl) → m.entries ≡ map entry_tree es → 65535 ≤ length es → 65535 < length (module_code m)
too_many m es are many =
    let body : List Instruction = stmts_code (names_of m []) 0 m.body in
    let main : List Instruction = body ++ code.End ∷ [] in
    omega (arith, length-append main (instructions_of (entry_parts m (length main) m.entries)), length-append body (code.End ∷ []), entries_have m (length main) m.entries, ap length are, length-map es entry_tree, many)

-- ---- the body of the module, at the first address

pub main_is : (m : ModuleTree) (o : List Instruction) (names : Names) (body : StmtTrees) → o ≡ [] → names ≡ names_of m [] → body ≡ m.body → o ++ body_code names (length o) body ≡ (main_part m).instructions
main_is m o names body none known is = λ i. none i ++ body_code (known i) (length (none i)) (is i)

pub main_long : (m : ModuleTree) (o : List Instruction) (names : Names) (body : StmtTrees) → o ≡ [] → names ≡ names_of m [] → body ≡ m.body
    → 65535 < length o + length (body_code names (length o) body) → 65535 < length (main_part m).instructions
main_long m o names body none known is long =
    omega (arith, long, sym (length-append o (body_code names (length o) body)) ∙ ap length (main_is m o names body none known is))

-- the code of a module is too long with its body, or with its entries
pub too_long_body : (m : ModuleTree) → 65535 < length (main_part m).instructions → 65535 < length (module_code m)
too_long_body m long =
    let main : List Instruction = (main_part m).instructions in
    omega (arith, long, length-append main (instructions_of (entry_parts m (length main) m.entries)))

pub too_long_entries : (m : ModuleTree) (o : List Instruction) → o ≡ (main_part m).instructions → 65535 < length o + length (instructions_of (entry_parts m (length o) m.entries)) → 65535 < length (module_code m)
too_long_entries m o is long =
    let main : List Instruction = (main_part m).instructions in
    let here : 65535 < length main + length (instructions_of (entry_parts m (length main) m.entries)) =
    subst (λ (x : List Instruction). 65535 < length x + length (instructions_of (entry_parts m (length x) m.entries))) is long in
    omega (arith, here, length-append main (instructions_of (entry_parts m (length main) m.entries)))

-- ---- parts

pub next_part : (m : ModuleTree) (es : List EntryDecl) (i : ℕ) (e : EntryDecl) (o o' : List Instruction) (whole : List PartCode) (made : List Part) (part : Part) → i < length es → e ≡ get_or es i e → o' ≡ o ++ entry_here m (length o) e
    → IsPartOf (entry_part m (length o) (entry_tree e)) part → IsLeft IsPartOf whole (entry_parts m (length o) (map entry_tree (drop i es))) made
    → IsLeft IsPartOf whole (entry_parts m (length o') (map entry_tree (drop (i + 1) es))) (made ++ part ∷ [])
next_part m es i e o o' whole made part lt is grown h before =
    let left : List EntryDecl = drop (i + 1) es in
    let here : drop i es ≡ e ∷ left = drop_more es i e lt ∙ (λ j. sym is j ∷ left) in
    let size : length o' ≡ length o + length (entry_here m (length o) e) = ap length grown ∙ length-append o (entry_here m (length o) e) in
    let parts : entry_parts m (length o) (map entry_tree (drop i es)) ≡ entry_part m (length o) (entry_tree e) ∷ entry_parts m (length o') (map entry_tree left) =
    ap (λ (xs : List EntryDecl). entry_parts m (length o) (map entry_tree xs)) here ∙ ap (λ k. entry_part m (length o) (entry_tree e) ∷ entry_parts m k (map entry_tree left)) (sym size) in
    one_made IsPartOf whole (entry_parts m (length o') (map entry_tree left)) (entry_part m (length o) (entry_tree e)) made part h (subst (λ (ps : List PartCode). IsLeft IsPartOf whole ps made) parts before)

pub last_part : (m : ModuleTree) (es : List EntryDecl) (i at : ℕ) (whole : List PartCode) (made : List Part) → length es ≤ i → IsLeft IsPartOf whole (entry_parts m at (map entry_tree (drop i es))) made → ArePairs IsPartOf whole made
last_part m es i at whole made le h =
    all_made IsPartOf whole made (append-nil made) (subst (λ (xs : List EntryDecl). IsLeft IsPartOf whole (entry_parts m at (map entry_tree xs)) made) (drop_all i es le) h)

-- ---- operations

pub next_op : (ops : List OpDecl) (i : ℕ) (op : OpDecl) (made : List CodeOp) (new : CodeOp) → i < length ops → op ≡ get_or ops i op → IsOpOf (op_tree op) new
    → IsLeft IsOpOf (map op_tree ops) (map op_tree (drop i ops)) made → IsLeft IsOpOf (map op_tree ops) (map op_tree (drop (i + 1) ops)) (made ++ new ∷ [])
next_op ops i op made new lt is h before =
    let here : drop i ops ≡ op ∷ drop (i + 1) ops = drop_more ops i op lt ∙ (λ j. sym is j ∷ drop (i + 1) ops) in
    one_made IsOpOf (map op_tree ops) (map op_tree (drop (i + 1) ops)) (op_tree op) made new h (subst (λ (xs : List OpDecl). IsLeft IsOpOf (map op_tree ops) (map op_tree xs) made) here before)

pub last_op : (ops : List OpDecl) (i : ℕ) (made : List CodeOp) → length ops ≤ i → IsLeft IsOpOf (map op_tree ops) (map op_tree (drop i ops)) made → ArePairs IsOpOf (map op_tree ops) made
last_op ops i made le h =
    all_made IsOpOf (map op_tree ops) made (append-nil made) (subst (λ (xs : List OpDecl). IsLeft IsOpOf (map op_tree ops) (map op_tree xs) made) (drop_all i ops le) h)
