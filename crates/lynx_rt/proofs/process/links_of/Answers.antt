use Rattle.std.proofs.Common.{ap, ◌∙◌, ◌++◌, ◌+◌, drop, List}
use Rattle.charlotte_calls.specs.declared.names.Side.TheVariants.{A}
use Rattle.machine_values.specs.declared.value.LinkRef.{LinkRef}
use Rattle.process_run.specs.States.{links_from}
use Rattle.lynx_rt.proofs.Starting.{links_step}
use Rattle.lynx_rt.proofs.process.links_of.Goals as goal

pub loop-place-preserved : goal.loop-place-preserved
loop-place-preserved c =
    ap (λ (ls : List LinkRef). ls ++ links_from (c.loop-place.place + 1 + 1) (drop (c.loop-place.place + 1) c.args.ends.now)) c.in_ok-push.ensures.items
    ∙ links_step c.loop-place.place c.args.ends.now (record { link = record { maker = 0; count = 0 }; side = A }) c.loop-place.links.items c.loop-place-test.true
    ∙ c.loop-place.invariant
