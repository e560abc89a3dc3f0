use Rattle.std.proofs.Common.{◌≡◌, ◌-◌, List, slice_get, ap, ◌∙◌, arith}
use Rattle.lynx_code.specs.declared.instruction.Instruction.{Instruction}
use Rattle.lynx_code.specs.declared.instruction.Instruction.TheVariants as code
use Rattle.compiler_emission.proofs.Closing.{all_of_it, stands_there, patched}
use Rattle.compiler_emission.proofs.emit_statement.close_handler.Goals as goal
use Rattle.compiler_emission.proofs.emit_statement.close_handler.Goals.{then-next-eq0-via-then-next-eq0, then-next-eq0-via-else-next-eq0+then-len-next}

-- a handler that stands there ends within the code
pub returns-then-next-eq0 : goal.returns-then-next-eq0
returns-then-next-eq0 c before body rest x next kept place end is =
    let old = c.args.code.now.items in
    let stands = ap (λ (xs : List Instruction). slice_get xs c.args.at) c.deref.ensures.value ∙ stands_there before body rest x next kept c.args.at old place end is in
    let found : c.next_handler-next.result ≡ next = c.next_handler-next.ensures x next stands in
    let size = all_of_it before body rest x next kept c.args.at old place end is in
    elim c.then-next-eq0.branch [ then-next-eq0-via-then-next-eq0 w ↦ absurd (omega arith) | then-next-eq0-via-else-next-eq0+then-len-next w ↦ absurd (omega arith) ]

pub returns : goal.returns
returns c before body rest x next kept place end is =
    let old = c.args.code.now.items in
    let stands = ap (λ (xs : List Instruction). slice_get xs c.args.at) c.deref.ensures.value ∙ stands_there before body rest x next kept c.args.at old place end is in
    let found : c.next_handler-next.result ≡ next = c.next_handler-next.ensures x next stands in
    (found, patched before body rest x next kept c.args.at old place end is (code.Jump c.args.end) (c.next_handler-next.result - 1) (omega arith))
