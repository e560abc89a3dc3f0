-- The code of a module is shaped.
use Rattle.std.proofs.Common.{◌≡◌, ◌<◌, ℕ, zero, suc, ◌+◌, List, [], ◌∷◌, ◌++◌, length, map, false, Option, Some, None, ◌-◌, slice_get, option_map, flat_map, refl, sym, ap, ◌∙◌, subst, append_assoc, length-append, arith}
use Rattle.std.specs.List.{AllByRecursion}
use Rattle.std.proofs.lemmas.Option.{none-some, same_Some, slice_get-map, slice_get_within}
use Rattle.lynx_lexer.specs.declared.keyword.Keyword.TheVariants as keywords
use Rattle.lynx_lexer.specs.declared.sign.Sign.TheVariants as signs
use Rattle.lynx_tree.specs.Grammar.{AreStmts, HasTokens, Mark, entry_marks, kinds_of, mark, module_marks, names_marks, op_marks, stmts_marks, var_marks, vars_marks, word}
use Rattle.lynx_tree.specs.Printing.{IsPrintable}
use Rattle.lynx_tree.specs.Trees.{EntryTree, ModuleTree, OpTree, StmtTrees}
use Rattle.lynx_tree.specs.declared.declaration.TypeName.{TypeName}
use Rattle.typing_rules.specs.Modules.{entry_faults, module_faults}
use Rattle.typing_rules.specs.Names.{arguments_of, body_at, each_at, entries_at, entry_body_at, entry_size, inside, known, local_names, module_scope, results_of}
use Rattle.typing_rules.specs.Rules.{Asks, Outside}
use Rattle.typing_rules.specs.Statements.{stmts_faults}
use Rattle.lynx_code.specs.Generation.{stmts_code}
use Rattle.lynx_code.specs.Modules.{ArePairs, IsCodeOf, IsOpOf, IsPartOf, PartCode, body_code, entry_part, entry_parts, instructions_of, main_part, module_code, names_of, op_names, parts_of, index_of, variables}
use Rattle.lynx_code.specs.Modules as modules
use Rattle.lynx_code.specs.declared.code.Code.{Code}
use Rattle.lynx_code.specs.declared.code.CodeOp.{CodeOp}
use Rattle.lynx_code.specs.declared.code.Part.{Part as KeptPart}
use Rattle.lynx_code.specs.declared.instruction.Instruction.{Instruction}
use Rattle.lynx_code.specs.declared.instruction.Instruction.TheVariants as code
use Rattle.compiler_expressions.proofs.Clean.{both-clean}
use Rattle.compiler_law.proofs.Names.{entry-operation, entry-variable, main-variable, module-operation, module-entry, entry-entry}
use Rattle.compiler_law.proofs.Whole.{clean-entry, entries-and-body, no-faults}
use Rattle.code_shapes.specs.Shapes.{ModuleTypes, Shape, Shapes, AllObey, IsShaped, Leads, code_parts, code_types, kept_op, kept_part, part_shape, PartTypes, opened_by}
use Rattle.lynx_meaning.specs.Needs.{OpTypes, op_types}
use Rattle.compiler_shapes.specs.Law.{ModuleCodeIsShaped}
use Rattle.compiler_shapes.proofs.Literals.{AreTokens, stmts_literals}
use Rattle.compiler_shapes.proofs.Parts.{Open, Part, on, Asked}
use Rattle.compiler_shapes.proofs.Statements.{stmts_pass}
use Rattle.compiler_shapes.proofs.Walks.{Stand, all_back, all_front, back_stands, both_obey, front_stands, same_shape}

-- ---- what a module has

abbrev tree_types : ModuleTree → ModuleTypes
tree_types m = record { globals = map (λ v. v.kind) (variables m); ops = map op_types m.ops; entries = length m.entries }

abbrev start_of : PartCode → PartTypes
start_of p = record { start = p.start; op = p.op; locals = p.locals }

-- what a module tells of an operation
operation_types : (m : ModuleTree) (number : ℕ) (arguments : List TypeName) (results : Option (List TypeName)) →
    (op : OpTree) × (slice_get m.ops number ≡ Some op) × (op.arguments ≡ arguments) × (results ≡ Some op.results) →
    (op : OpTypes) × (slice_get (tree_types m).ops number ≡ Some op) × (op.arguments ≡ arguments) × (results ≡ Some op.results)
operation_types m number arguments results found =
    (op_types found.0, slice_get-map op_types m.ops number ∙ ap (λ (q : Option OpTree). option_map op_types q) found.1, found.2, found.3)

abbrev main_of : ModuleTree → Part
main_of m = record {
  whole = tree_types m;
  locals = [];
  scope = module_scope m;
  names = names_of m [];
  variable = λ name t is. main-variable m name t is;
  operation = λ name arguments is. operation_types m (index_of (op_names m) name) arguments (results_of (module_scope m name)) (module-operation m name arguments is);
  entry = λ name is. module-entry m name is;
}

abbrev entry_of : (m : ModuleTree) (at : ℕ) (e : EntryTree) → length e.parameters ≡ length (known (arguments_of (module_scope m e.op))) → Part
entry_of m at e long = record {
  whole = tree_types m;
  locals = known (arguments_of (module_scope m e.op)) ++ map (λ v. v.kind) e.vars;
  scope = inside (local_names (module_scope m) at e) (module_scope m);
  names = names_of m (modules.local_names e);
  variable = λ name t is. entry-variable m at e name t long is;
  operation = λ name arguments is.
      operation_types m (index_of (op_names m) name) arguments (results_of (inside (local_names (module_scope m) at e) (module_scope m) name)) (entry-operation m at e name arguments long is);
  entry = λ name is. entry-entry m at e name long is;
}

-- ---- parts, one after the other

-- code from this address on, whose parts begin so
record Covers (m : ModuleTypes) (at : ℕ) (is : List Instruction) (starts : List PartTypes) : Type 0 where
  each : List Shape
  long : length each ≡ length is
  obeys : (shapes : Shapes) → Stand shapes at each → AllObey m shapes at is
  begin : (shapes : Shapes) → Stand shapes at each → (i : ℕ) (p : PartTypes) → slice_get starts i ≡ Some p → Leads shapes p.start (part_shape p)

no_parts : (m : ModuleTypes) (at : ℕ) → Covers m at [] []
no_parts m at = record { each = []; long = refl; obeys = λ shapes stand. tt; begin = λ shapes stand i p here. absurd (none-some p here) }

both_cover : (m : ModuleTypes) (at middle : ℕ) (a b : List Instruction) (start : PartTypes) (starts : List PartTypes) → at + length a ≡ middle → Covers m at a (start ∷ []) → Covers m middle b starts → Covers m at (a ++ b) (start ∷ starts)
both_cover m at middle a b start starts here first second =
    let size : at + length first.each ≡ middle = omega (arith, first.long, here) in
    let long : length (first.each ++ second.each) ≡ length (a ++ b) = omega (arith, length-append first.each second.each, length-append a b, first.long, second.long) in
    let front = λ (shapes : Shapes) (stand : Stand shapes at (first.each ++ second.each)). front_stands shapes at first.each second.each stand in
    let back = λ (shapes : Shapes) (stand : Stand shapes at (first.each ++ second.each)). subst (λ (n : ℕ). Stand shapes n second.each) size (back_stands shapes at first.each second.each stand) in
    record {
      each = first.each ++ second.each;
      long = long;
      obeys = λ shapes stand. both_obey m shapes at a b (first.obeys shapes (front shapes stand)) (subst (λ (n : ℕ). AllObey m shapes n b) (sym here) (second.obeys shapes (back shapes stand)));
      begin = λ shapes stand i. by shapes (first.begin shapes (front shapes stand)) (second.begin shapes (back shapes stand)) i;
    }
  where
    by : (shapes : Shapes) → ((i : ℕ) (p : PartTypes) → slice_get (start ∷ []) i ≡ Some p → Leads shapes p.start (part_shape p)) →
        ((i : ℕ) (p : PartTypes) → slice_get starts i ≡ Some p → Leads shapes p.start (part_shape p)) →
        (i : ℕ) (p : PartTypes) → slice_get (start ∷ starts) i ≡ Some p → Leads shapes p.start (part_shape p)
    by shapes one others zero p here = one zero p here
    by shapes one others (suc i) p here = others i p here

abbrev part_from : Part → ℕ → Option ℕ → PartTypes
part_from c at op = record { start = at; op = op; locals = c.locals }

-- a body and its end
body_covers : (c : Part) (op : Option ℕ) (asked : Asked c.whole (opened_by op)) (at place d : ℕ) (body : StmtTrees) → AreStmts body → stmts_faults c.scope asked.request place body ≡ [] → AreTokens (stmts_marks d body) →
    Covers c.whole at (body_code c.names at body) (part_from c at op ∷ [])
body_covers c op asked at place d body is clean tokens =
    let outside : Open = record { tries = []; requests = opened_by op; pending = false } in
    let s = on c outside [] in
    let x = stmts_code c.names at body in
    let w = stmts_pass c body outside asked at place is clean in
    let long : length (w.each ++ s ∷ []) ≡ length (x ++ code.End ∷ []) = omega (arith, w.long, length-append w.each (s ∷ []), length-append x (code.End ∷ [])) in
    let size : at + length w.each ≡ at + length x = omega (arith, w.long) in
    let last = λ (shapes : Shapes) (stand : Stand shapes at (w.each ++ s ∷ [])).
    subst (λ (n : ℕ). Stand shapes n (s ∷ [])) size (back_stands shapes at w.each (s ∷ []) stand) in
    let ends = λ (shapes : Shapes) (stand : Stand shapes at (w.each ++ s ∷ [])). let there : Leads shapes (at + length x) s = (s, (last shapes stand).0, same_shape s) in there in
    let enters = λ (shapes : Shapes) (stand : Stand shapes at (w.each ++ s ∷ [])). w.enters shapes (front_stands shapes at w.each (s ∷ []) stand) (ends shapes stand) in
    record {
      each = w.each ++ s ∷ [];
      long = long;
      obeys = λ shapes stand.
          both_obey c.whole shapes at x (code.End ∷ []) (w.obeys shapes (front_stands shapes at w.each (s ∷ []) stand) (ends shapes stand) tt (stmts_literals c.names body at d tokens)) ((s, (last shapes stand).0, tt), tt);
      begin = λ shapes stand i. by shapes (enters shapes stand) i;
    }
  where
    by : (shapes : Shapes) → Leads shapes at (part_shape (part_from c at op)) → (i : ℕ) (p : PartTypes) → slice_get (part_from c at op ∷ []) i ≡ Some p → Leads shapes p.start (part_shape p)
    by shapes leads zero p here = subst (λ (q : PartTypes). Leads shapes q.start (part_shape q)) (same_Some (part_from c at op) p here) leads
    by shapes leads (suc i) p here = absurd (none-some p here)

entry_covers : (m : ModuleTree) (start at : ℕ) (e : EntryTree) → AreStmts e.body → entry_faults (module_scope m) at e ≡ [] → AreTokens (entry_marks e) →
    Covers (tree_types m) start (entry_part m start e).instructions (start_of (entry_part m start e) ∷ [])
entry_covers m start at e written clean tokens =
    let outside = module_scope m in
    let is = clean-entry m at e clean in
    let printable = λ (t : Mark). IsPrintable t.kind in
    let end = word 0 keywords.End ∷ mark 0 signs.Semicolon ∷ [] in
    let body = word 0 keywords.Begin ∷ (stmts_marks 0 e.body ++ end) in
    let behind = all_back printable (names_marks 0 e.parameters) (vars_marks e.vars ++ body) tokens.1.1.1.1 in
    let inner = all_back printable (vars_marks e.vars) body behind in
    let found = is.operation in
    let op = operation_types m (index_of (op_names m) e.op) found.0 (results_of (outside e.op)) (module-operation m e.op found.0 found.1) in
    let asked : Asked (tree_types m) (index_of (op_names m) e.op ∷ []) = record { request = Asks (results_of (outside e.op)); meant = (index_of (op_names m) e.op, [], op.0, refl, op.1, op.3) } in
    body_covers (entry_of m at e is.parameters) (Some (index_of (op_names m) e.op)) asked start (entry_body_at at e) 0 e.body written is.body (all_front printable (stmts_marks 0 e.body) end inner.1)

entries_cover : (m : ModuleTree) (es : List EntryTree) (start at : ℕ) → AllByRecursion (λ (e : EntryTree). AreStmts e.body) es → each_at entry_size (entry_faults (module_scope m)) at es ≡ [] → AreTokens (flat_map entry_marks es) →
    Covers (tree_types m) start (instructions_of (entry_parts m start es)) (map start_of (entry_parts m start es))
entries_cover m [] start at written clean tokens = no_parts (tree_types m) start
entries_cover m (e ∷ es) start at written clean tokens =
    let part = entry_part m start e in
    let next = start + length part.instructions in
    let printable = λ (t : Mark). IsPrintable t.kind in
    let parts = both-clean (entry_faults (module_scope m) at e) (each_at entry_size (entry_faults (module_scope m)) (at + entry_size e) es) clean in
    both_cover (tree_types m) start next part.instructions (instructions_of (entry_parts m next es)) (start_of part) (map start_of (entry_parts m next es)) refl
    (entry_covers m start at e written.0 parts.0 (all_front printable (entry_marks e) (flat_map entry_marks es) tokens))
    (entries_cover m es next (at + entry_size e) written.1 parts.1 (all_back printable (entry_marks e) (flat_map entry_marks es) tokens))

-- ---- modules

of_kinds : (marks : List Mark) → AllByRecursion IsPrintable (map (λ (t : Mark). t.kind) marks) → AreTokens marks
of_kinds [] h = tt
of_kinds (t ∷ marks) h = (h.0, of_kinds marks h.1)

module_covers : (m : ModuleTree) → HasTokens m → AllByRecursion IsPrintable (kinds_of m) → module_faults m ≡ [] → Covers (tree_types m) 0 (module_code m) (map start_of (parts_of m))
module_covers m written tokens clean =
    let main = main_part m in
    let faults = entries-and-body m clean in
    let printable = λ (t : Mark). IsPrintable t.kind in
    let all = of_kinds (module_marks m) tokens in
    let ops = flat_map op_marks m.ops in
    let params = flat_map (var_marks keywords.Param) m.params in
    let vars = vars_marks m.vars in
    let entries = flat_map entry_marks m.entries in
    let end = word 0 keywords.End ∷ mark 0 signs.Dot ∷ [] in
    let body = word 0 keywords.Begin ∷ (stmts_marks 0 m.body ++ end) in
    let behind_ops = all_back printable ops (params ++ (vars ++ (entries ++ body))) all.1.1.1 in
    let behind_params = all_back printable params (vars ++ (entries ++ body)) behind_ops in
    let behind_vars = all_back printable vars (entries ++ body) behind_params in
    let inner = all_back printable entries body behind_vars in
    let here : 0 + length main.instructions ≡ length main.instructions = omega arith in
    both_cover (tree_types m) 0 (length main.instructions) main.instructions (instructions_of (entry_parts m (length main.instructions) m.entries)) (start_of main) (map start_of (entry_parts m (length main.instructions) m.entries)) here
    (body_covers (main_of m) None (record { request = Outside; meant = tt }) 0 (body_at m) 0 m.body written.1 faults.1 (all_front printable (stmts_marks 0 m.body) end inner.1))
    (entries_cover m m.entries (length main.instructions) (entries_at m) written.0 faults.0 (all_front printable entries body behind_vars))

-- the shapes as a table
all_stand : (before each : List Shape) → Stand (λ (at : ℕ). slice_get (before ++ each) at) (length before) each
all_stand before [] = tt
all_stand before (s ∷ each) =
    let next : length (before ++ s ∷ []) ≡ length before + 1 = omega (arith, length-append before (s ∷ [])) in
    let rest = subst (λ (l : List Shape). Stand (λ (at : ℕ). slice_get l at) (length (before ++ s ∷ [])) each) (append_assoc before (s ∷ []) each) (all_stand (before ++ s ∷ []) each) in
    (here before, subst (λ (n : ℕ). Stand (λ (at : ℕ). slice_get (before ++ s ∷ each) at) n each) next rest)
  where
    here : (ss : List Shape) → slice_get (ss ++ s ∷ each) (length ss) ≡ Some s
    here [] = refl
    here (r ∷ ss) = here ss

covers_shaped : (m : ModuleTypes) (is : List Instruction) (starts : List PartTypes) → Covers m 0 is starts → IsShaped m starts is
covers_shaped m is starts w =
    let table = λ (at : ℕ). slice_get w.each at in
    let stand = all_stand [] w.each in (
      table,
      record {
        code = w.obeys table stand;
        ends = λ at s here. subst (λ (n : ℕ). at < n) w.long (slice_get_within w.each at s here);
        starts = λ i p here. w.begin table stand i p here;
      },
    )

-- ---- the code as it is kept

pub ops_kept : (ops : List OpTree) (kept : List CodeOp) → ArePairs IsOpOf ops kept → map kept_op kept ≡ map op_types ops
ops_kept [] [] h = refl
ops_kept [] (k ∷ kept) h = absurd h
ops_kept (op ∷ ops) [] h = absurd h
ops_kept (op ∷ ops) (k ∷ kept) h =
    let of_op : kept_op k ≡ op_types op = ap (λ (ts : List TypeName). record { arguments = ts; results = k.results.items }) h.0.1 ∙ ap (λ (ts : List TypeName). record { arguments = op.arguments; results = ts }) h.0.2 in
    ap (λ (q : OpTypes). q ∷ map kept_op kept) of_op ∙ ap (λ (qs : List OpTypes). op_types op ∷ qs) (ops_kept ops kept h.1)

parts_kept : (parts : List PartCode) (kept : List KeptPart) → ArePairs IsPartOf parts kept → map kept_part kept ≡ map start_of parts
parts_kept [] [] h = refl
parts_kept [] (k ∷ kept) h = absurd h
parts_kept (p ∷ parts) [] h = absurd h
parts_kept (p ∷ parts) (k ∷ kept) h =
    let of_part : kept_part k ≡ start_of p = ap (λ (n : ℕ). record { start = n; op = k.op; locals = k.locals.items }) h.0.2 ∙ ap (λ (o : Option ℕ). record { start = p.start; op = o; locals = k.locals.items }) h.0.1
    ∙ ap (λ (ts : List TypeName). record { start = p.start; op = p.op; locals = ts }) h.0.3 in
    ap (λ (q : PartTypes). q ∷ map kept_part kept) of_part ∙ ap (λ (qs : List PartTypes). start_of p ∷ qs) (parts_kept parts kept h.1)

-- as many entries as parts behind the body
entries_kept : (m : ModuleTree) (made : Code) → IsCodeOf m made → length made.parts.items - 1 ≡ length m.entries
entries_kept m made is =
    let size : suc (length (entry_parts m (length (main_part m).instructions) m.entries)) ≡ length made.parts.items = pairs_length IsPartOf (parts_of m) made.parts.items is.parts in
    let all = entries_many m m.entries (length (main_part m).instructions) in
    omega (arith, size, all)
  where
    pairs_length : {X Y : Type 0} (P : X → Y → Type 0) (xs : List X) (ys : List Y) → ArePairs P xs ys → length xs ≡ length ys
    pairs_length P [] [] h = refl
    pairs_length P [] (y ∷ ys) h = absurd h
    pairs_length P (x ∷ xs) [] h = absurd h
    pairs_length P (x ∷ xs) (y ∷ ys) h = let rest = pairs_length P xs ys h.1 in omega (arith, rest)

    entries_many : (m : ModuleTree) (es : List EntryTree) (at : ℕ) → length (entry_parts m at es) ≡ length es
    entries_many m [] at = refl
    entries_many m (e ∷ es) at = let rest = entries_many m es (at + length (entry_part m at e).instructions) in omega (arith, rest)

types_kept : (m : ModuleTree) (made : Code) → IsCodeOf m made → code_types made ≡ tree_types m
types_kept m made is =
    ap (λ (ts : List TypeName). record { globals = ts; ops = map kept_op made.ops.items; entries = length made.parts.items - 1 }) is.globals
    ∙ ap (λ (qs : List OpTypes). record { globals = map (λ v. v.kind) (variables m); ops = qs; entries = length made.parts.items - 1 }) (ops_kept m.ops made.ops.items is.ops)
    ∙ ap (λ (n : ℕ). record { globals = map (λ v. v.kind) (variables m); ops = map op_types m.ops; entries = n }) (entries_kept m made is)

pub law : ModuleCodeIsShaped
law m made written tokens typed is =
    let shaped = covers_shaped (tree_types m) (module_code m) (map start_of (parts_of m)) (module_covers m written tokens (no-faults (module_faults m) typed)) in
    let of_types = subst (λ (q : ModuleTypes). IsShaped q (map start_of (parts_of m)) (module_code m)) (sym (types_kept m made is)) shaped in
    let of_parts = subst (λ (ps : List PartTypes). IsShaped (code_types made) ps (module_code m)) (sym (parts_kept (parts_of m) made.parts.items is.parts)) of_types in
    subst (λ (l : List Instruction). IsShaped (code_types made) (code_parts made) l) (sym is.instructions) of_parts
