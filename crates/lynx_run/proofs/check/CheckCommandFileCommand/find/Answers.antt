-- The module that was checked has the name in the line.
use Rattle.std.proofs.Common.{ℕ, List, [], ◌∷◌, ap, subst, refl, ◌∙◌, Ok, Err}
use Rattle.std.proofs.lemmas.Result.{err_from_is_err_and}
use Rattle.lynx_source.specs.Sources.{IsCheckedAs}
use Rattle.lynx_syntax.specs.Trees.{module_tree}
use Rattle.lynx_tree.specs.declared.module.Module.{Module}
use Rattle.lynx_command.proofs.Faults.{fault_told}
use Rattle.lynx_run.specs.Check.{checked_text}
use Rattle.lynx_run.proofs.check.CheckCommandFileCommand.find.Goals as goal

pub returns : goal.returns
returns c =
    let read = subst (λ (bytes : List ℕ). IsCheckedAs bytes (Ok (module_tree c.in_ok-checked.checked))) c.as_slice.ensures.value c.in_ok-checked.ensures in
    let name = c.as_slice-2.ensures.value ∙ ap (λ (m : Module). m.name) c.module.ensures.module in
    (module_tree c.in_ok-checked.checked, read, c.of.ensures ∙ (c.in_ok-lines.ensures ∙ ap (λ name. checked_text name ∷ []) name), refl)

pub returns-in_err-checked : goal.returns-in_err-checked
returns-in_err-checked c =
    let p = err_from_is_err_and c.from_residual.result c.from_residual.ensures.1 in
    let read = subst (λ (bytes : List ℕ). IsCheckedAs bytes (Err c.in_err-checked.field-0.0)) c.as_slice.ensures.value c.in_err-checked.ensures in
    rw (p.1, p.2) (fault_told (IsCheckedAs c.args.bytes.items) c.in_err-checked.field-0.0 read)
