use Rattle.std.proofs.Common.{◌≡◌, ◌<◌, ◌+◌, ◌∷◌, [], ◌++◌, take, get_or, rules, ◌∙◌, ap}
use Rattle.std.proofs.lemmas.List.{take_more, length-set}
use Rattle.lynx_load.specs.Ends.{Wire, maker}
use Rattle.lynx_load.proofs.Wiring.{keeps_made, keeps_links, made_of, count_fits}
use Rattle.lynx_load.proofs.ends.wired_links.Goals as goal

-- the wire's maker is the kernel that code looks up, one of eight
of_maker : (c : goal.In_ok-push) → c.from-kernel.result ≡ maker c.args.setting.now (get_or c.as_slice-wires.result.now c.loop-wire.wire-index (record { 0 = 0 }, record { 0 = 0 }))
of_maker c = cc

below : (c : goal.In_ok-push) → c.from-kernel.result < 8
below c = rw (of_maker c) (made_of c.args.setting.now c.requires _ c.as_slice-wires.ensures c.loop-wire.wire-index c.loop-wire-test.true _)

pub overflow_add-made : goal.overflow_add-made
overflow_add-made c =
    let few = count_fits c.args.setting.now c.requires _ c.as_slice-wires.ensures c.loop-wire.wire-index _ _ c.loop-wire-test.true (c.loop-wire.invariant.made c.from-kernel.result (below c)) in
    search rules

pub loop-wire-preserved : goal.loop-wire-preserved
loop-wire-preserved c =
    let s = c.args.setting.now in
    let wires = c.as_slice-wires.result.now in
    let i = c.loop-wire.wire-index in
    let w : Wire = get_or wires i (record { 0 = 0 }, record { 0 = 0 }) in
    let k = c.from-kernel.result in
    let more : take (i + 1) wires ≡ take i wires ++ w ∷ [] = take_more wires i _ c.loop-wire-test.true in
    let links = keeps_links s (take i wires) w c.loop-wire.links.items k (get_or c.loop-wire.made k 0) (of_maker c) (c.loop-wire.invariant.made k (below c)) c.loop-wire.invariant.links in
    rw more (record {
      kernels = length-set _ _ _ ∙ c.loop-wire.invariant.kernels;
      links = c.in_ok-push.ensures.items ∙ ap (λ x. c.loop-wire.links.items ++ x ∷ []) (cc) ∙ links;
      made = keeps_made s c.loop-wire.made (take i wires) w k (of_maker c) (rw c.loop-wire.invariant.kernels (below c)) c.loop-wire.invariant.made;
    })
