use Rattle.std.proofs.Common.{◌<◌, ◌+◌, ◌++◌, List, length, ap, subst, ◌∙◌, arith}
use Rattle.std.proofs.lemmas.Result.{err_from_is_err_and}
use Rattle.lynx_code.specs.declared.instruction.Instruction.{Instruction}
use Rattle.compiler_emission.specs.Tables.{names_in}
use Rattle.compiler_emission.proofs.Emitting.{as_failed, each_end, each_long}
use Rattle.compiler_emission.proofs.Loops.{value_here, values_are}
use Rattle.compiler_emission.proofs.emit_expression.emit_exprs.Goals as goal

pub returns-in_err-emit_expr-clause-long : goal.returns-in_err-emit_expr-clause-long
returns-in_err-emit_expr-clause-long c h =
    let names = names_in c.args.names.now in
    let p = err_from_is_err_and c.from_residual.result c.from_residual.ensures.1 in
    let failed = as_failed c.emit_expr.result c.from_residual.result c.in_err-emit_expr.field-0.0 p.0 c.in_err-emit_expr.was p.1 p.2 h in
    subst (λ (is : List Instruction). 65535 < length c.args.code.now.items + length is) (values_are names (length c.args.code.now.items) c.args.values.now)
    (each_long (value_here names) c.args.values.now c.loop-value.value-index c.value-item.result c.args.code.now.items c.loop-value.code.items (omega arith) c.value-item.is (c.emit_expr.ensures.long failed) c.loop-value.invariant)

pub returns-clause-ok : goal.returns-clause-ok
returns-clause-ok c =
    let names = names_in c.args.names.now in
    each_end (value_here names) c.args.values.now c.loop-value.value-index c.args.code.now.items c.loop-value.code.items (omega arith) c.loop-value.invariant
    ∙ ap (λ (is : List Instruction). c.args.code.now.items ++ is) (values_are names (length c.args.code.now.items) c.args.values.now)
