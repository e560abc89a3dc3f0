use Rattle.std.proofs.Common.{◌≡◌, List, None, ap, length, map, refl, sym, subst, ◌∙◌}
use Rattle.charlotte_calls.specs.declared.names.EndId.{EndId}
use Rattle.lynx_load.specs.Loading.{unfit_line}
use Rattle.lynx_load.specs.Started.{AreStarted}
use Rattle.lynx_load.proofs.Planned.{all_started, same_line, unfit, wants}
use Rattle.lynx_load.proofs.Starting.{all_fit, are_ready, ends_many}
use Rattle.lynx_load.proofs.loading.start_programs.Goals as goal

pub returns-in_default-clause-fits : goal.returns-in_default-clause-fits
returns-in_default-clause-fits c = wants c.args.name.now c.args.plan c.args.codes.items

pub returns-in_default-start_each-clause-fits : goal.returns-in_default-start_each-clause-fits
returns-in_default-start_each-clause-fits c = wants c.args.name.now c.args.plan c.args.codes.items

pub returns-in-Some-clause-fits : goal.returns-in-Some-clause-fits
returns-in-Some-clause-fits c =
    let each : List (List EndId) = map (λ ends. ends.items) c.in-Ok.each.items in
    let same = same_line c.args.codes.items c.as_slice.result.now each (map (λ ends. ends.items) c.as_slice-2.result.now) c.args.plan.lines c.as_slice-3.result.now c.as_slice.ensures.value
    (ap (map (λ ends. ends.items)) c.as_slice-2.ensures.value) c.as_slice-3.ensures in
    unfit c.args.name.now c.args.plan c.args.codes.items each c.in-Some.line c.told.result c.in-Ok.ensures (c.in-Some.ensures ∙ same) c.told.ensures

-- no line is unfit
all_fits : (c : goal.In_default-unfit_line) → unfit_line c.args.codes.items (map (λ ends. ends.items) c.in-Ok.each.items) c.args.plan.lines ≡ None
all_fits c =
    let each : List (List EndId) = map (λ ends. ends.items) c.in-Ok.each.items in
    let same = same_line c.args.codes.items c.as_slice.result.now each (map (λ ends. ends.items) c.as_slice-2.result.now) c.args.plan.lines c.as_slice-3.result.now c.as_slice.ensures.value
    (ap (map (λ ends. ends.items)) c.as_slice-2.ensures.value) c.as_slice-3.ensures in
    sym same ∙ sym c.unfit_line.ensures ∙ c.in_default-unfit_line.is

pub start_each-requires-clause-fit : goal.start_each-requires-clause-fit
start_each-requires-clause-fit c =
    let many = ap length c.in-Ok.ensures ∙ ends_many c.args.plan.setting 0 c.args.plan.setting.homes in
    all_fit c.args.codes.items (map (λ ends. ends.items) c.in-Ok.each.items) c.args.plan.lines (c.requires.codes ∙ sym many) (c.requires.lines ∙ sym many) (all_fits c)

pub returns-clause-fits : goal.returns-clause-fits
returns-clause-fits c =
    let each : List (List EndId) = map (λ ends. ends.items) c.in-Ok.each.items in
    let same = same_line c.args.codes.items c.as_slice.result.now each (map (λ ends. ends.items) c.as_slice-2.result.now) c.args.plan.lines c.as_slice-3.result.now c.as_slice.ensures.value
    (ap (map (λ ends. ends.items)) c.as_slice-2.ensures.value) c.as_slice-3.ensures in
    all_started c.args.name.now c.args.plan c.args.codes.items each (record { setting = c.args.plan.setting; programs = c.in-Ok-start_each.programs }) c.in-Ok.ensures
    (sym c.in_default-unfit_line.is ∙ c.unfit_line.ensures ∙ same) refl c.in-Ok-start_each.ensures

pub returns-clause-ready : goal.returns-clause-ready
returns-clause-ready c =
    are_ready (record { setting = c.args.plan.setting; programs = c.in-Ok-start_each.programs }) c.args.codes.items c.requires.whole.valid
    (subst (λ (es : List (List EndId)). AreStarted c.args.plan.setting.version c.args.codes.items es c.in-Ok-start_each.programs.items) c.in-Ok.ensures c.in-Ok-start_each.ensures)
