use Rattle.std.proofs.Common.{◌≡◌, ◌+◌, ◌∷◌, [], ◌++◌, length, ap, sym, ◌∙◌, arith, length-append}
use Rattle.lynx_tree.specs.Trees.{expr_list}
use Rattle.lynx_code.specs.Generation.{exprs_code, how_many}
use Rattle.lynx_code.specs.declared.instruction.Instruction.TheVariants as code
use Rattle.compiler_emission.specs.Tables.{names_in}
use Rattle.compiler_emission.proofs.Loops.{how_many_are}
use Rattle.std.proofs.lemmas.Result.{err_from_is_err_and}
use Rattle.compiler_emission.proofs.Emitting.{as_failed}
use Rattle.compiler_emission.proofs.Members.{values_have}
use Rattle.compiler_emission.proofs.Wholes.{one, seq_ok, then_ok}
use Rattle.compiler_emission.proofs.emit_statement.emit_reply.Goals as goal

pub returns-clause-ok : goal.returns-clause-ok
returns-clause-ok c =
    let es = expr_list c.args.values.now in
    let m = c.emit_exprs.new.code.items in
    let number : c.in_ok-count.count ≡ how_many es = c.in_ok-count.ensures.ok ∙ sym (how_many_are c.args.values.now) in
    then_ok c.push.result
    (λ h. seq_ok (λ k. exprs_code (names_in c.args.names.now) k es) (one (code.Reply (how_many es))) c.args.code.now.items m c.push.new.code.items c.in_ok-emit_exprs.ensures.ok (h ∙ ap (λ k. m ++ code.Reply k ∷ []) number)) c.push.ensures.ok

pub returns-in_err-count-clause-long : goal.returns-in_err-count-clause-long
returns-in_err-count-clause-long c h =
    let es = expr_list c.args.values.now in
    let o = c.args.code.now.items in
    let names = names_in c.args.names.now in
    let p = err_from_is_err_and c.from_residual-in_err-count.result c.from_residual-in_err-count.ensures.1 in
    let failed = as_failed c.short.result c.from_residual-in_err-count.result c.in_err-count.field-0.0 p.0 c.in_err-count.was p.1 p.2 h in
    omega (arith, c.short.ensures.long failed, values_have names (length o) c.args.values.now c.requires, length-append (exprs_code names (length o) es) (code.Reply (how_many es) ∷ []))
