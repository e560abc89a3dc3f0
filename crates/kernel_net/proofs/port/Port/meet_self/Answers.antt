use Rattle.std.proofs.Common.{length, subst, sym, ap, ◌∙◌}
use Rattle.kernel_net.specs.Ports.{IsPlace, place_of}
use Rattle.kernel_net.proofs.Ports.{looked-self, place-self, are-there, known-there, one-ring}
use Rattle.kernel_net.proofs.port.Port.meet_self.Goals as goal

pub meet-requires : goal.meet-requires
meet-requires c = one-ring _ _ _ _ c.from-own.ensures c.from-own.ensures c.self.invariant.own
    c.index_mut-2.result.now c.index_mut-2.result.now c.index_mut.result.now c.index_mut.result.now c.index_mut-2.ensures.value c.index_mut.ensures.value

pub invariant_of-self : goal.invariant_of-self
invariant_of-self c = subst IsPlace (sym (place-self _ _ c.from-own.ensures c.self.invariant.own
    c.index_mut-2.result.now c.meet.new.putter c.index_mut.result.now c.meet.new.self c.index_mut-2.ensures.value c.index_mut.ensures.value c.meet.ensures.looks)) c.self.invariant

pub returns-clause-place : goal.returns-clause-place
returns-clause-place c = place-self _ _ c.from-own.ensures c.self.invariant.own
    c.index_mut-2.result.now c.meet.new.putter c.index_mut.result.now c.meet.new.self c.index_mut-2.ensures.value c.index_mut.ensures.value c.meet.ensures.looks ∙ ap place_of c.self.view_is

pub returns-clause-looked : goal.returns-clause-looked
returns-clause-looked c = rw (← c.self.view_is) (looked-self _ _ c.from-own.ensures c.self.invariant.own
    c.index_mut-2.result.now c.meet.new.putter c.index_mut.result.now c.meet.new.self c.index_mut-2.ensures.value c.index_mut.ensures.value c.meet.ensures.looks)

pub returns-clause-there : goal.returns-clause-there
returns-clause-there c =
    let are = are-there _ _ _ _ c.from-own.ensures c.from-own.ensures c.self.invariant.own
    c.index_mut-2.result.now c.meet.new.putter c.index_mut.result.now c.meet.new.self c.index_mut-2.ensures.value c.index_mut.ensures.value c.meet.ensures.looks in
    record { there = are.there; room = are.room }

pub returns-clause-count : goal.returns-clause-count
returns-clause-count c = c.meet.ensures.count.0 ∙ ap length (sym (known-there _ _ _ _ c.from-own.ensures c.from-own.ensures c.self.invariant.own
    c.index_mut-2.result.now c.meet.new.putter c.index_mut.result.now c.meet.new.self c.index_mut-2.ensures.value c.index_mut.ensures.value))
