-- The code of a module that was checked can be run.
use Rattle.std.proofs.Common.{◌≡◌, ℕ, zero, suc, ◌+◌, List, [], ◌∷◌, ◌++◌, length, map, replicate, option_map, Option, Some, None, slice_get, refl, sym, ap, ◌∙◌, subst}
use Rattle.std.specs.List.{AllByRecursion}
use Rattle.std.proofs.lemmas.List.{map-append}
use Rattle.std.proofs.lemmas.Option.{none-some, same_Some, slice_get-map}
use Rattle.lynx_tree.specs.Trees.{EntryTree, ModuleTree, OpTree}
use Rattle.lynx_tree.specs.declared.declaration.TypeName.{TypeName}
use Rattle.lynx_tree.specs.declared.declaration.TypeName.TheVariants as types
use Rattle.typing_rules.specs.Modules.{entry_faults, module_faults, op_faults}
use Rattle.typing_rules.specs.Names.{arguments_of, known, locals_at, module_scope, op_size, ops_at, entries_at, entry_size}
use Rattle.lynx_code.specs.Modules.{ArePairs, IsCodeOf, IsOpOf, IsPartOf, PartCode, entry_part, entry_parts, main_part, op_names, parts_of, index_of}
use Rattle.lynx_code.specs.declared.code.Code.{Code}
use Rattle.lynx_code.specs.declared.code.CodeOp.{CodeOp}
use Rattle.lynx_code.specs.declared.code.Part as kept
use Rattle.compiler_law.proofs.Names.{module-operation}
use Rattle.compiler_law.proofs.Parts.{each-clean}
use Rattle.compiler_law.proofs.Whole.{clean-entry, no-faults}
use Rattle.code_shapes.specs.Shapes.{code_types, PartTypes, code_parts, kept_part}
use Rattle.lynx_meaning.specs.Needs.{OpTypes, op_types}
use Rattle.compiler_shapes.proofs.Whole as shapes
use Rattle.compiler_runnable.specs.Law.{CheckedCodeIsRunnable}
use Rattle.compiler_runnable.specs.Runnable.{HaveStarts, IsEntryPart, IsRunnableOp}
use Rattle.typing_signatures.specs.Facts.{HasFacts}
use Rattle.typing_signatures.proofs.Clean.{law as ops_have_facts}
use Rattle.compiler_runnable.proofs.Starts.{AreClean, arguments_start, both_start, declarations, params_are_links, params_start, vars_start}

-- ---- lists

map_at : {X Y : Type 0} (f : X → Y) (xs : List X) (i : ℕ) (y : Y) → slice_get (map f xs) i ≡ Some y → (x : X) × (slice_get xs i ≡ Some x) × (f x ≡ y)
map_at f [] i y here = absurd (none-some y here)
map_at f (x ∷ xs) zero y here = (x, refl, same_Some (f x) y here)
map_at f (x ∷ xs) (suc i) y here = map_at f xs i y here

pair_at : {X Y : Type 0} (P : X → Y → Type 0) (xs : List X) (ys : List Y) (i : ℕ) (y : Y) → ArePairs P xs ys → slice_get ys i ≡ Some y → (x : X) × (slice_get xs i ≡ Some x) × P x y
pair_at P [] [] i y pairs here = absurd (none-some y here)
pair_at P [] (z ∷ ys) i y pairs here = absurd pairs
pair_at P (x ∷ xs) [] i y pairs here = absurd pairs
pair_at P (x ∷ xs) (z ∷ ys) zero y pairs here = (x, refl, subst (λ w. P x w) (same_Some z y here) pairs.0)
pair_at P (x ∷ xs) (z ∷ ys) (suc i) y pairs here = pair_at P xs ys i y pairs.1 here

-- ---- parts

-- what the part of an entry has
abbrev pub IsPartFor : ModuleTree → PartTypes → EntryTree → Type 0
IsPartFor m p e = (p.op ≡ Some (index_of (op_names m) e.op)) × (p.locals ≡ known (arguments_of (module_scope m e.op)) ++ map (λ v. v.kind) e.vars)

entry_at : (m : ModuleTree) (at : ℕ) (es : List EntryTree) (i : ℕ) (c : PartCode) → slice_get (entry_parts m at es) i ≡ Some c →
    (e : EntryTree) × (slice_get es i ≡ Some e) × (c.op ≡ Some (index_of (op_names m) e.op)) × (c.locals ≡ known (arguments_of (module_scope m e.op)) ++ map (λ v. v.kind) e.vars)
entry_at m at [] i c here = absurd (none-some c here)
entry_at m at (e ∷ es) zero c here =
    let same = same_Some (entry_part m at e) c here in
    (e, refl, ap (λ (q : PartCode). q.op) (sym same), ap (λ (q : PartCode). q.locals) (sym same))
entry_at m at (e ∷ es) (suc i) c here = entry_at m (at + length (entry_part m at e).instructions) es i c here

pub part_at : (m : ModuleTree) (made : Code) → IsCodeOf m made → (i : ℕ) (p : PartTypes) → slice_get (code_parts made) i ≡ Some p →
    (c : PartCode) × (slice_get (parts_of m) i ≡ Some c) × (p.start ≡ c.start) × (p.op ≡ c.op) × (p.locals ≡ c.locals)
part_at m made is i p here =
    let k = map_at kept_part made.parts.items i p here in
    let c = pair_at IsPartOf (parts_of m) made.parts.items i k.0 is.parts k.1 in
    let same = k.2 in
    (c.0, c.1, ap (λ (q : PartTypes). q.start) (sym same) ∙ c.2.2, ap (λ (q : PartTypes). q.op) (sym same) ∙ c.2.1, ap (λ (q : PartTypes). q.locals) (sym same) ∙ c.2.3)

pub entry_part_at : (m : ModuleTree) (made : Code) → IsCodeOf m made → (i : ℕ) (p : PartTypes) → slice_get (code_parts made) (suc i) ≡ Some p → (e : EntryTree) × (slice_get m.entries i ≡ Some e) × IsPartFor m p e
entry_part_at m made is i p here =
    let c = part_at m made is (suc i) p here in
    let e = entry_at m (length (main_part m).instructions) m.entries i c.0 c.1 in
    (e.0, e.1, (c.3 ∙ e.2, c.4 ∙ e.3))

-- ---- an entry

-- its operation, with the arguments that its parameters have
pub entry_operation : (m : ModuleTree) (at : ℕ) (e : EntryTree) → entry_faults (module_scope m) at e ≡ [] →
    (op : OpTree) × (slice_get m.ops (index_of (op_names m) e.op) ≡ Some op) × (known (arguments_of (module_scope m e.op)) ≡ op.arguments)
entry_operation m at e clean =
    let found = (clean-entry m at e clean).operation in
    let op = module-operation m e.op found.0 found.1 in
    (op.0, op.1, ap known found.1 ∙ sym op.2)

entry_vars : (m : ModuleTree) (at : ℕ) (e : EntryTree) → entry_faults (module_scope m) at e ≡ [] → HaveStarts (map (λ v. v.kind) e.vars)
entry_vars m at e clean = vars_start (locals_at at e) e.vars (clean-entry m at e clean).vars

module _ (m : ModuleTree) (made : Code) (clean : AreClean m) (is : IsCodeOf m made) where
  -- the operation, as it is kept
  pub kept_operation : (number : ℕ) (op : OpTree) → slice_get m.ops number ≡ Some op → slice_get (code_types made).ops number ≡ Some (op_types op)
  kept_operation number op here =
      ap (λ (qs : List OpTypes). slice_get qs number) (shapes.ops_kept m.ops made.ops.items is.ops) ∙ slice_get-map op_types m.ops number ∙ ap (λ (q : Option OpTree). option_map op_types q) here

  entry_starts : (i : ℕ) (p : PartTypes) → slice_get (code_parts made) (suc i) ≡ Some p → HaveStarts p.locals
  entry_starts i p here =
      let e = entry_part_at m made is i p here in
      let sound = each-clean entry_size (entry_faults (module_scope m)) (entries_at m) m.entries i e.0 clean.entries e.1 in
      let op = entry_operation m sound.0 e.0 sound.1 in
      let of_op = each-clean op_size op_faults ops_at m.ops (index_of (op_names m) e.0.op) op.0 clean.ops op.1 in
      subst (λ (ts : List TypeName). HaveStarts ts) (sym e.2.1)
      (both_start (known (arguments_of (module_scope m e.0.op))) (map (λ v. v.kind) e.0.vars) (subst (λ (ts : List TypeName). HaveStarts ts) (sym op.2) (arguments_start of_op.0 op.0 of_op.1)) (entry_vars m sound.0 e.0 sound.1))

  body_part : slice_get (code_parts made) 0 ≡ Some (record { start = 0; op = None; locals = [] })
  body_part = first made.parts.items is.parts
    where
      first : (ks : List kept.Part) → ArePairs IsPartOf (parts_of m) ks → slice_get (map kept_part ks) 0 ≡ Some (record { start = 0; op = None; locals = [] })
      first [] pairs = absurd pairs
      first (k ∷ ks) pairs =
          ap (λ (n : ℕ). Some (record { start = n; op = k.op; locals = k.locals.items })) pairs.0.2
          ∙ ap (λ (o : Option ℕ). Some (record { start = 0; op = o; locals = k.locals.items })) pairs.0.1
          ∙ ap (λ (ts : List TypeName). Some (record { start = 0; op = None; locals = ts })) pairs.0.3

  part_starts : (i : ℕ) (p : PartTypes) → slice_get (code_parts made) i ≡ Some p → HaveStarts p.locals
  part_starts zero p here = subst (λ (q : PartTypes). HaveStarts q.locals) (same_Some (record { start = 0; op = None; locals = [] }) p (sym body_part ∙ here)) tt
  part_starts (suc i) p here = entry_starts i p here

  entry_parts_kept : (i : ℕ) (p : PartTypes) → slice_get (code_parts made) (suc i) ≡ Some p → IsEntryPart (code_types made) p
  entry_parts_kept i p here =
      let e = entry_part_at m made is i p here in
      let sound = each-clean entry_size (entry_faults (module_scope m)) (entries_at m) m.entries i e.0 clean.entries e.1 in
      let op = entry_operation m sound.0 e.0 sound.1 in
      record {
        op = index_of (op_names m) e.0.op;
        serves = e.2.0;
        of_op = op_types op.0;
        there = kept_operation (index_of (op_names m) e.0.op) op.0 op.1;
        others = map (λ v. v.kind) e.0.vars;
        locals = e.2.1 ∙ ap (λ (ts : List TypeName). ts ++ map (λ v. v.kind) e.0.vars) op.2;
      }

  kinds_kept : made.globals.items ≡ map (λ v. v.kind) m.params ++ map (λ v. v.kind) m.vars
  kinds_kept = is.globals ∙ map-append (λ v. v.kind) m.params m.vars

-- each op as it is kept
ops_runnable : (ops : List OpTree) (kept : List CodeOp) → ArePairs IsOpOf ops kept → AllByRecursion HasFacts ops → AllByRecursion IsRunnableOp kept
ops_runnable [] [] pairs have = tt
ops_runnable [] (k ∷ ks) pairs have = absurd pairs
ops_runnable (op ∷ ops) [] pairs have = absurd pairs
ops_runnable (op ∷ ops) (k ∷ ks) pairs have = ((op, have.0, pairs.0), ops_runnable ops ks pairs.1 have.1)

pub law : CheckedCodeIsRunnable
law made from =
    let m = from.tree in
    let is = from.code in
    let clean = declarations m (no-faults (module_faults m) from.checked.well_typed) in
    record {
      shaped = shapes.law m made from.checked.grammar from.checked.printable from.checked.well_typed is;
      parts = record { body = body_part m made clean is; starts = part_starts m made clean is; entries = entry_parts_kept m made clean is };
      globals = subst (λ (ts : List TypeName). HaveStarts ts) (sym (kinds_kept m made clean is))
          (both_start (map (λ v. v.kind) m.params) (map (λ v. v.kind) m.vars) (params_start _ m.params clean.params) (vars_start _ m.vars clean.vars));
      params = (
        map (λ v. v.kind) m.vars,
        kinds_kept m made clean is
            ∙ ap (λ (ts : List TypeName). ts ++ map (λ v. v.kind) m.vars) (params_are_links _ m.params clean.params ∙ ap (λ n. replicate n types.Link) (sym is.params)),
      );
      ops = ops_runnable m.ops made.ops.items is.ops (ops_have_facts m from.checked.printable from.checked.well_typed);
    }
