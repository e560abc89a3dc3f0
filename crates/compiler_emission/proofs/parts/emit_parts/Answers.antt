use Rattle.std.proofs.Common.{◌≡◌, ◌<◌, ◌+◌, [], ◌∷◌, ◌++◌, List, length, map, ap, subst, sym, ◌∙◌}
use Rattle.std.proofs.lemmas.Result.{err_from_is_err_and}
use Rattle.lynx_tree.specs.Trees.{module_tree, entry_tree}
use Rattle.lynx_tree.specs.declared.declaration.EntryDecl.{EntryDecl}
use Rattle.lynx_code.specs.Modules.{PartCode, ArePairs, IsPartOf, main_part, entry_parts, instructions_of}
use Rattle.lynx_code.specs.declared.code.Part.{Part}
use Rattle.std.specs.List.{AllByRecursion}
use Rattle.compiler_emission.specs.Tables.{IsFit}
use Rattle.compiler_emission.proofs.Sizes.{entries_fit}
use Rattle.compiler_emission.proofs.Emitting.{as_failed}
use Rattle.compiler_emission.proofs.Entries.{too_long_body, too_long_entries}
use Rattle.compiler_emission.proofs.parts.emit_parts.Goals as goal

pub compile_entries-requires-clause-entries : goal.compile_entries-requires-clause-entries
compile_entries-requires-clause-entries c =
    subst (λ (es : List EntryDecl). AllByRecursion IsFit (map entry_tree es)) (sym c.deref.ensures.value) (entries_fit (module_tree c.args.tree.now) c.requires.grammar c.requires.fits)

pub returns-in_err-emit_main-clause-long : goal.returns-in_err-emit_main-clause-long
returns-in_err-emit_main-clause-long c h =
    let p = err_from_is_err_and c.from_residual.result c.from_residual.ensures.1 in
    let failed = as_failed c.emit_main.result c.from_residual.result c.in_err-emit_main.field-0.0 p.0 c.in_err-emit_main.was p.1 p.2 h in
    too_long_body (module_tree c.args.tree.now) (c.emit_main.ensures.long failed)

pub returns-in_err-compile_entries-clause-long : goal.returns-in_err-compile_entries-clause-long
returns-in_err-compile_entries-clause-long c h =
    let m = module_tree c.args.tree.now in
    let o = c.emit_main.new.code.items in
    let p = err_from_is_err_and c.from_residual-in_err-compile_entries.result c.from_residual-in_err-compile_entries.ensures.1 in
    let failed = as_failed c.compile_entries.result c.from_residual-in_err-compile_entries.result c.in_err-compile_entries.field-0.0 p.0 c.in_err-compile_entries.was p.1 p.2 h in
    let long = subst (λ (es : List EntryDecl). 65535 < length o + length (instructions_of (entry_parts m (length o) (map entry_tree es)))) c.deref.ensures.value (c.compile_entries.ensures.long failed) in
    too_long_entries m o c.in_ok-emit_main.ensures.ok long

pub returns-clause-parts : goal.returns-clause-parts
returns-clause-parts c =
    let m = module_tree c.args.tree.now in
    let main = main_part m ∷ [] in
    let first : c.push.new.self.items ≡ c.body_part.result ∷ [] = c.in_ok-push.ensures.items ∙ ap (λ (ps : List Part). ps ++ c.body_part.result ∷ []) c.requires.parts in
    let all = c.in_ok-compile_entries.ensures.parts main (subst (λ (ps : List Part). ArePairs IsPartOf main ps) (sym first) (c.body_part.ensures m, tt)) in
    subst (λ (ps : List PartCode). ArePairs IsPartOf (main_part m ∷ ps) c.compile_entries.new.parts.items) (λ i. entry_parts m (length (c.in_ok-emit_main.ensures.ok i)) (map entry_tree (c.deref.ensures.value i))) all
