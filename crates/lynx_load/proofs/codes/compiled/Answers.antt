use Rattle.std.proofs.lemmas.Result.{err_from_is_err_and}
use Rattle.compiler_source.specs.Compiled.{IsCompiledAs}
use Rattle.lynx_command.proofs.Faults.{fault_told}
use Rattle.lynx_load.proofs.codes.compiled.Goals as goal

pub returns-in_err-code-clause-code : goal.returns-in_err-code-clause-code
returns-in_err-code-clause-code c =
    let p = err_from_is_err_and c.from_residual.result c.from_residual.ensures.1 in
    rw (p.1, p.2) (fault_told (IsCompiledAs c.args.bytes.now) c.in_err-code.field-0.0 c.in_err-code.ensures.code)
