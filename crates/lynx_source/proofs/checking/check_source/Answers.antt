-- A source is checked as the module that it is read as, where that breaks no rule, or as its first fault.
use Rattle.std.proofs.lemmas.Result.{err_from_is_err_and}
use Rattle.lynx_tree.specs.Trees.{module_tree}
use Rattle.lynx_source.proofs.Readings.{fault_stays, well_typed_stays}
use Rattle.lynx_source.proofs.checking.check_source.Goals as goal

pub returns-in_err-module : goal.returns-in_err-module
returns-in_err-module c =
    let p = err_from_is_err_and c.from_residual.result c.from_residual.ensures.1 in
    rw (p.1, p.2) (fault_stays c.args.source.now c.in_err-module.field-0.0 c.in_err-module.ensures.read)

pub returns-in-Ok : goal.returns-in-Ok
returns-in-Ok c = rw c.in-Ok.ensures.same (well_typed_stays c.args.source.now (module_tree c.in_ok-module.field-0.module) c.in_ok-module.ensures.read c.in-Ok.ensures.well_typed)
