use Rattle.std.proofs.Common.{rules, ap, ◌∙◌, ◌<◌, ◌^◌, length, List}
use Rattle.charlotte_calls.specs.declared.names.EndId.{EndId}
use Rattle.machine_values.specs.declared.value.LinkRef.{LinkRef}
use Rattle.process_run.specs.States.{links_from}
use Rattle.process_run.specs.Ends.{get_all}
use Rattle.process_ends.specs.Ends.{Ends}
use Rattle.lynx_rt.proofs.Starting.{got_first, links_length, started_as}
use Rattle.lynx_rt.proofs.process.Running.start.Goals as goal

pub machine_of-requires-clause-params : goal.machine_of-requires-clause-params
machine_of-requires-clause-params c =
    ap (λ (ls : List LinkRef). length ls) (c.in_ok-links.ensures ∙ ap (links_from 1) c.deref-2.ensures.value) ∙ links_length 1 c.args.ends.items ∙ c.requires.params

pub returns-clause-start : goal.returns-clause-start
returns-clause-start c =
    let few : length c.args.ends.items < 2 ^ 32 = search rules in
    let got = ap (λ (e : Ends). e.places) (c.places.view_is ∙ c.in_ok-get_all.ensures) in
    started_as c.args.version c.args.code c.in_ok-links.links.items c.args.ends.items c.in_ok-machine.machine _ _ _ c.in_ok-machine.ensures.start
    (c.in_ok-links.ensures ∙ ap (links_from 1) c.deref-2.ensures.value)
    (got_first c.args.ends.items c.new-places.result.places _ c.new-places.ensures.none few (got ∙ ap (λ (xs : List EndId). get_all xs c.new-places.result.places) c.deref.ensures.value))
    c.in_ok-new.ensures c.new-2.ensures
