-- The lines are those of the listing of the module that was compiled.
use Rattle.std.proofs.Common.{ℕ, List, ap, subst, refl, ◌∙◌, Ok, Err}
use Rattle.std.proofs.lemmas.Result.{err_from_is_err_and}
use Rattle.lynx_command.specs.Text.{lines_of}
use Rattle.compiler_source.specs.Compiled.{IsCompiledAs}
use Rattle.lynx_command.proofs.Faults.{fault_told}
use Rattle.lynx_run.proofs.code.CodeCommandFileCommand.find.Goals as goal

pub returns : goal.returns
returns c =
    let made = c.in_ok-code.ensures.code in
    let read = subst (λ (bytes : List ℕ). IsCompiledAs bytes (Ok made.0)) c.as_slice.ensures.value made.1 in
    (made.0, read, c.of.ensures ∙ ap lines_of (c.in_ok-text.ensures made.0 made.2), refl)

pub returns-in_err-code : goal.returns-in_err-code
returns-in_err-code c =
    let p = err_from_is_err_and c.from_residual.result c.from_residual.ensures.1 in
    let read = subst (λ (bytes : List ℕ). IsCompiledAs bytes (Err c.in_err-code.field-0.0)) c.as_slice.ensures.value c.in_err-code.ensures.code in
    rw (p.1, p.2) (fault_told (IsCompiledAs c.args.bytes.items) c.in_err-code.field-0.0 read)
