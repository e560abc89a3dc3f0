use Rattle.std.proofs.Common.{[], ◌∷◌, ◌++◌, sym, ◌∙◌, arith, append_assoc, length-append}
use Rattle.lynx_code.specs.Generation.{handlers_code}
use Rattle.lynx_code.specs.declared.instruction.Instruction.TheVariants as code
use Rattle.compiler_emission.proofs.emit_statement.close_try.Goals as goal

pub returns : goal.returns
returns c names before rest handlers place count is =
    let jump = code.Jump c.args.end in
    let put = c.set.ensures before (handlers_code names 0 c.args.first handlers ++ rest) code.End (omega (arith, place)) is in
    c.close_handlers.ensures names (before ++ jump ∷ []) rest handlers (omega (arith, place, length-append before (jump ∷ []))) count (put ∙ sym (append_assoc before (jump ∷ []) (handlers_code names 0 c.args.first handlers ++ rest)))
    ∙ append_assoc before (jump ∷ []) (handlers_code names c.args.end c.args.first handlers ++ rest)
