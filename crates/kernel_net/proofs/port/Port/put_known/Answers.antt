use Rattle.std.proofs.Common.{subst, sym, ap, ◌∙◌}
use Rattle.kernel_net.specs.Ports.{IsPlace, place_of}
use Rattle.kernel_net.proofs.Ports.{has-put, place-out, below-to}
use Rattle.kernel_net.proofs.port.Port.put_known.Goals as goal

pub invariant_of-self : goal.invariant_of-self
invariant_of-self c =
    let below = below-to _ _ _ _ c.self.view_is c.from.ensures c.requires.kernel in
    subst IsPlace (sym (place-out _ c.from.result c.index_mut.result.now c.put_known.new.self below c.index_mut.ensures.value c.put_known.ensures.ring)) c.self.invariant

pub returns-clause-place : goal.returns-clause-place
returns-clause-place c =
    let below = below-to _ _ _ _ c.self.view_is c.from.ensures c.requires.kernel in
    place-out _ c.from.result c.index_mut.result.now c.put_known.new.self below c.index_mut.ensures.value c.put_known.ensures.ring ∙ ap place_of c.self.view_is

pub returns-clause-put : goal.returns-clause-put
returns-clause-put c =
    let below = below-to _ _ _ _ c.self.view_is c.from.ensures c.requires.kernel in
    rw (← c.self.view_is, ← c.from.ensures) (has-put _ c.from.result c.index_mut.result.now c.put_known.new.self below c.index_mut.ensures.value c.args.letter c.put_known.ensures)
