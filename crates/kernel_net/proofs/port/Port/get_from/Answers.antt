use Rattle.std.proofs.Common.{subst, sym, ap, ◌∙◌}
use Rattle.kernel_net.specs.Ports.{IsPlace, place_of}
use Rattle.kernel_net.specs.Rings.{inlet_of}
use Rattle.kernel_net.proofs.Ports.{below-known, gets-one, place-into}
use Rattle.kernel_net.proofs.Rings.{gets-known}
use Rattle.kernel_net.proofs.port.Port.get_from.Goals as goal

pub invariant_of-self : goal.invariant_of-self
invariant_of-self c =
    let below = below-known _ _ _ _ c.self.view_is c.from.ensures c.requires in
    let e = c.pop_known.ensures in
    let gets = gets-known c.behind-self.inside.ring c.pop_known.new.self c.index_mut.result.now c.pop_known.result c.behind-self.view_is e.ring e.received.0 e.received.1 e.allowed in
    subst IsPlace (sym (place-into _ c.from.result c.index_mut.result.now (inlet_of c.pop_known.new.self) below c.index_mut.ensures.value gets.ring)) c.self.invariant

pub returns-clause-place : goal.returns-clause-place
returns-clause-place c =
    let below = below-known _ _ _ _ c.self.view_is c.from.ensures c.requires in
    let e = c.pop_known.ensures in
    let gets = gets-known c.behind-self.inside.ring c.pop_known.new.self c.index_mut.result.now c.pop_known.result c.behind-self.view_is e.ring e.received.0 e.received.1 e.allowed in
    place-into _ c.from.result c.index_mut.result.now (inlet_of c.pop_known.new.self) below c.index_mut.ensures.value gets.ring ∙ ap place_of c.self.view_is

pub returns-clause-gets : goal.returns-clause-gets
returns-clause-gets c =
    let below = below-known _ _ _ _ c.self.view_is c.from.ensures c.requires in
    let e = c.pop_known.ensures in
    let gets = gets-known c.behind-self.inside.ring c.pop_known.new.self c.index_mut.result.now c.pop_known.result c.behind-self.view_is e.ring e.received.0 e.received.1 e.allowed in
    rw (← c.self.view_is, ← c.from.ensures)
    (gets-one _ c.from.result c.index_mut.result.now (inlet_of c.pop_known.new.self) below c.index_mut.ensures.value c.pop_known.result gets)
