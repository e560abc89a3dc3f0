use Rattle.std.proofs.Common.{subst, sym, ap, ◌∙◌}
use Rattle.kernel_net.specs.Ports.{IsPlace, PortView, place_of}
use Rattle.kernel_net.proofs.Ports.{below-to, free-out, full-out, place-out, looked-out}
use Rattle.kernel_net.proofs.port.Port.is_full.Goals as goal

pub invariant_of-self : goal.invariant_of-self
invariant_of-self c =
    let below = below-to _ _ _ _ c.self.view_is c.from.ensures c.requires in
    subst IsPlace (sym (place-out _ c.from.result c.index_mut.result.now c.is_full.new.self below c.index_mut.ensures.value c.is_full.ensures.frees.ring)) c.self.invariant

pub returns-clause-place : goal.returns-clause-place
returns-clause-place c =
    let below = below-to _ _ _ _ c.self.view_is c.from.ensures c.requires in
    place-out _ c.from.result c.index_mut.result.now c.is_full.new.self below c.index_mut.ensures.value c.is_full.ensures.frees.ring ∙ ap place_of c.self.view_is

pub returns-clause-full : goal.returns-clause-full
returns-clause-full c e =
    let below = below-to _ _ _ _ c.self.view_is c.from.ensures c.requires in
    let full = c.is_full.ensures.full e in
    rw (← c.self.view_is, ← c.from.ensures) (full-out _ c.from.result c.index_mut.result.now c.is_full.new.self below c.index_mut.ensures.value full.0 full.1)

pub returns-clause-free : goal.returns-clause-free
returns-clause-free c e =
    let below = below-to _ _ _ _ c.self.view_is c.from.ensures c.requires in
    let port : PortView = record { kernel = c.self.inside.kernel; out = c.self.inside.out.items; into = c.self.inside.into.items } in
    rw (← c.from.ensures) (free-out port c.from.result c.index_mut.result.now c.is_full.new.self below c.index_mut.ensures.value (c.is_full.ensures.free e))

pub returns-clause-looked : goal.returns-clause-looked
returns-clause-looked c =
    let below = below-to _ _ _ _ c.self.view_is c.from.ensures c.requires in
    let frees = c.is_full.ensures.frees in
    rw (← c.self.view_is, ← c.from.ensures) (looked-out _ c.from.result c.index_mut.result.now c.is_full.new.self below c.index_mut.ensures.value frees.put frees.places)
