use Rattle.std.proofs.Common.{◌<◌, ap, ◌∙◌, map, length, arith}
use Rattle.std.proofs.lemmas.List.{map-append}
use Rattle.std.specs.List.{flat_map}
use Rattle.lynx_load.specs.Ends.{own_of}
use Rattle.lynx_load.proofs.Wiring.{keeps_ends}
use Rattle.lynx_load.proofs.ends.ends_of_each.Goals as goal

pub loop-process-preserved : goal.loop-process-preserved
loop-process-preserved c =
    let s = c.args.setting.now in
    let lt : c.loop-process.process < length s.homes = omega (arith, c.len-process-end.ensures) in
    let own = c.in_ok-own_ends.ensures ∙ ap (flat_map (own_of c.loop-process.process)) (c.as_slice.ensures.value ∙ c.in_ok-links.ensures) in
    ap (map (λ ends. ends.items)) c.in_ok-push.ensures.items ∙ map-append _ _ _ ∙ keeps_ends s c.loop-process.process _ _ lt c.loop-process.invariant own
