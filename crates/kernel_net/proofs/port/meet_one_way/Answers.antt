use Rattle.std.proofs.Common.{length, subst, sym, ap, ◌∙◌}
use Rattle.kernel_net.specs.Ports.{IsPlace}
use Rattle.kernel_net.proofs.Ports.{looked, are-there, known-there, one-ring, joined-views}
use Rattle.kernel_net.proofs.port.meet_one_way.Goals as goal

pub meet-requires : goal.meet-requires
meet-requires c = one-ring _ _ _ _ c.from-to.ensures c.from-from.ensures (joined-views _ _ _ _ c.putter.view_is c.getter.view_is c.requires)
    c.index_mut-2.result.now c.index_mut-2.result.now c.index_mut.result.now c.index_mut.result.now c.index_mut-2.ensures.value c.index_mut.ensures.value

pub invariant_of-putter : goal.invariant_of-putter
invariant_of-putter c = subst IsPlace (sym (looked _ _ _ _ c.from-to.ensures c.from-from.ensures (joined-views _ _ _ _ c.putter.view_is c.getter.view_is c.requires)
    c.index_mut-2.result.now c.meet.new.putter c.index_mut.result.now c.meet.new.self c.index_mut-2.ensures.value c.index_mut.ensures.value c.meet.ensures.looks).putter_place) c.putter.invariant

pub invariant_of-getter : goal.invariant_of-getter
invariant_of-getter c = subst IsPlace (sym (looked _ _ _ _ c.from-to.ensures c.from-from.ensures (joined-views _ _ _ _ c.putter.view_is c.getter.view_is c.requires)
    c.index_mut-2.result.now c.meet.new.putter c.index_mut.result.now c.meet.new.self c.index_mut-2.ensures.value c.index_mut.ensures.value c.meet.ensures.looks).getter_place) c.getter.invariant

pub returns-clause-looked : goal.returns-clause-looked
returns-clause-looked c = rw (← c.putter.view_is, ← c.getter.view_is)
    (looked _ _ _ _ c.from-to.ensures c.from-from.ensures (joined-views _ _ _ _ c.putter.view_is c.getter.view_is c.requires)
    c.index_mut-2.result.now c.meet.new.putter c.index_mut.result.now c.meet.new.self c.index_mut-2.ensures.value c.index_mut.ensures.value c.meet.ensures.looks)

pub returns-clause-there : goal.returns-clause-there
returns-clause-there c = are-there _ _ _ _ c.from-to.ensures c.from-from.ensures (joined-views _ _ _ _ c.putter.view_is c.getter.view_is c.requires)
    c.index_mut-2.result.now c.meet.new.putter c.index_mut.result.now c.meet.new.self c.index_mut-2.ensures.value c.index_mut.ensures.value c.meet.ensures.looks

pub returns-clause-count : goal.returns-clause-count
returns-clause-count c = (
  c.meet.ensures.count.0 ∙ ap length (sym (known-there _ _ _ _ c.from-to.ensures c.from-from.ensures (joined-views _ _ _ _ c.putter.view_is c.getter.view_is c.requires)
      c.index_mut-2.result.now c.meet.new.putter c.index_mut.result.now c.meet.new.self c.index_mut-2.ensures.value c.index_mut.ensures.value)),
  c.meet.ensures.count.1,
)
