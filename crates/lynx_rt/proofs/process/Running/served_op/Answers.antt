use Rattle.std.proofs.Common.{◌+◌, List, length, slice_get, refl, sym, ap, ◌∙◌}
use Rattle.std.proofs.lemmas.Option.{slice_get_past, slice_get_read}
use Rattle.lynx_code.specs.declared.code.Part as kept
use Rattle.process_run.specs.States.{State}
use Rattle.lynx_rt.proofs.Serving.{op_none, op_there}
use Rattle.lynx_rt.proofs.process.Running.served_op.Goals as goal

pub returns-in-Some : goal.returns-in-Some
returns-in-Some c =
    let parts = c.code.result.now.parts.items in
    let here = ap (λ n. slice_get parts (n + 1)) (sym c.from.ensures) ∙ ap (λ (ps : List kept.Part). slice_get ps (c.from.result + 1)) (sym c.deref.ensures.value) in
    let found = slice_get_read c.deref.result.now (length c.deref.result.now) (c.from.result + 1) c.in-Some.part.now refl c.in-Some.ensures.lookup.3.0 c.in-Some.ensures.lookup.1 in
    op_there c.self.inside.machine c.code.result.now c.self.inside.machine.turns c.args.self.now.code c.args.entry c.in-Some.part.now _ c.code.ensures
    (ap (λ (s : State). s.code) c.self.view_is) (sym (here ∙ found)) refl

pub returns-in-None : goal.returns-in-None
returns-in-None c =
    let parts = c.code.result.now.parts.items in
    let here = ap (λ n. slice_get parts (n + 1)) (sym c.from.ensures) ∙ ap (λ (ps : List kept.Part). slice_get ps (c.from.result + 1)) (sym c.deref.ensures.value) in
    let past = slice_get_past c.deref.result.now (c.from.result + 1) c.in-None.ensures.lookup.3 in
    op_none c.self.inside.machine c.code.result.now c.self.inside.machine.turns c.args.self.now.code c.args.entry c.code.ensures
    (ap (λ (s : State). s.code) c.self.view_is) (sym (here ∙ past))
