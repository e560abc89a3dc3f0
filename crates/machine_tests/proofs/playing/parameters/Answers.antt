use Rattle.std.proofs.Common.{◌∙◌, ◌+◌, List, ap, slice_get, subst, sym}
use Rattle.std.proofs.lemmas.Result.{IfOk-weaker}
use Rattle.lynx_code.specs.declared.code.CodeOp.{CodeOp}
use Rattle.lynx_code.specs.declared.code.Part as kept
use Rattle.lynx_tree.specs.declared.declaration.TypeName.{TypeName}
use Rattle.lynx_meaning.specs.Values.{HaveTypes}
use Rattle.machine_values.specs.Told.{values_of}
use Rattle.lynx_interp.proofs.Needs.{entry_for, found}
use Rattle.machine_tests.proofs.playing.parameters.Goals as goal

pub returns-in-Some-get : goal.returns-in-Some-get
returns-in-Some-get c =
    let code = c.code-code.result.now in
    let part = c.in-Some.part.now in
    let op = c.in-Some-get.op.now in
    let number = c.in-Some-op.number in
    let here =
    ap (λ n. slice_get c.code-code.result.now.parts.items (n + 1)) (sym c.from.ensures) ∙ ap (λ (ps : List kept.Part). slice_get ps (c.from.result + 1)) (sym c.deref.ensures.value)
    ∙ found c.deref.result.now (c.from.result + 1) c.in-Some.part.now c.in-Some.ensures.lookup.3.0 c.in-Some.ensures.lookup.1 in
    let there = ap (λ (os : List CodeOp). slice_get os number) (sym c.deref-2.ensures.value) ∙ found c.deref-2.result.now number op c.in-Some-get.ensures.lookup.3.0 c.in-Some-get.ensures.lookup.1 in
    IfOk-weaker c.values.result _ _
    (λ values typed. entry_for c.args.machine.now code c.args.entry part number op (values_of values.items) c.code-code.ensures here c.in-Some-op.is there
    (subst (λ (ts : List TypeName). HaveTypes ts (values_of values.items)) c.deref-in-Some-get.ensures.value typed))
    c.values.ensures
