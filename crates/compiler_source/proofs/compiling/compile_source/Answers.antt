-- A source is compiled as the module that it is checked as, where its code is not too long, or as its first fault.
use Rattle.std.proofs.Common.{ap}
use Rattle.std.specs.Prelude.{Err}
use Rattle.std.proofs.lemmas.Result.{err_from_is_err_and}
use Rattle.lynx_tree.specs.Trees.{module_tree}
use Rattle.compiler_source.proofs.Stages.{fault_stays, short_stays, fault_behind}
use Rattle.compiler_source.proofs.compiling.compile_source.Goals as goal

pub returns-in_err-checked-clause-code : goal.returns-in_err-checked-clause-code
returns-in_err-checked-clause-code c =
    let p = err_from_is_err_and c.from_residual.result c.from_residual.ensures.1 in
    rw (p.1, p.2) (fault_stays c.args.source.now c.in_err-checked.field-0.0 c.in_err-checked.ensures)

pub returns-in-Ok-clause-code : goal.returns-in-Ok-clause-code
returns-in-Ok-clause-code c =
    let m = module_tree c.in_ok-checked.checked in
    (m, short_stays c.args.source.now m c.in_ok-checked.ensures c.in-Ok.ensures.fits, c.in-Ok.ensures.code, c.in-Ok.ensures.agrees)

pub returns-clause-code : goal.returns-clause-code
returns-clause-code c =
    rw c.source_fault.ensures (fault_behind c.args.source.now (module_tree c.in_ok-checked.checked) c.in-Err.fault c.in_ok-checked.ensures (λ is. c.in-Err.ensures.long (ap Err is)))
