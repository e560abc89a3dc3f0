use Rattle.std.proofs.Common.{rules, ◌≡◌, ◌∙◌, map, ap}
use Rattle.lynx_code.specs.Told.{op_told, part_told}
use Rattle.lynx_code.proofs.Copying.{code_stays, checked_stays}
use Rattle.lynx_code.proofs.code.Code.copy.Goals as goal

pub returns-clause-same : goal.returns-clause-same
returns-clause-same c =
    let globals : c.in_ok-globals.globals.items ≡ c.args.self.now.globals.items = search rules in
    let ops = c.in_ok-ops.ensures ∙ ap (map op_told) c.deref-2.ensures.value in
    let parts = c.in_ok-parts.ensures ∙ ap (map part_told) c.deref-3.ensures.value in
    let instructions = c.in_ok-instructions.ensures ∙ c.deref-4.ensures.value in
    λ i. record { name = c.copy.ensures i; globals = globals i; params = c.args.self.now.params; ops = ops i; parts = parts i; instructions = instructions i }

pub returns-clause-code : goal.returns-clause-code
returns-clause-code c m is = code_stays m _ c.args.self.now (returns-clause-same c) is

pub returns-clause-checked : goal.returns-clause-checked
returns-clause-checked c is = checked_stays _ c.args.self.now (returns-clause-same c) is
