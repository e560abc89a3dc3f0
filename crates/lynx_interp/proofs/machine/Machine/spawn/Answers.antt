use Rattle.code_shapes.specs.Shapes.{opened_by}
use Rattle.machine_sound.proofs.Outside.{spawned_stay}
use Rattle.machine_sound.specs.Sound.{StayOthers}
use Rattle.std.proofs.Common.{arith, sym, subst, true≢false}
use Rattle.machine_values.specs.Told.{values_of}
use Rattle.compiler_runnable.specs.Runnable.{start_locals}
use Rattle.lynx_interp.specs.Machines.{IsMachine, SpawnsRequests, State}
use Rattle.lynx_interp.proofs.Counting.{one_free}
use Rattle.lynx_interp.proofs.Machines.{has_entry, spawned_machine, spawns_requests}
use Rattle.lynx_interp.proofs.machine.Machine.spawn.Goals as goal

pub begins-requires-clause-entry : goal.begins-requires-clause-entry
begins-requires-clause-entry c = has_entry c.args.self.now c.args.entry (values_of c.args.values.items) c.requires.machine c.requires.entry

pub returns-clause-full : goal.returns-clause-full
returns-clause-full c =
    let less = one_free c.args.self.now.turns.threads c.in-Some.number c.in-Some.ensures.free in
    (λ e. absurd (true≢false e), λ all. absurd (omega (arith, less, all, c.requires.machine.sound.many)))

pub returns-clause-machine : goal.returns-clause-machine
returns-clause-machine c =
    let entry = c.requires.entry in
    subst (λ (s : State). IsMachine s) (sym (c.in_ok-begins.ensures.begun entry.0 entry.1))
    (spawned_machine c.args.self.now c.in-Some.number c.args.entry (values_of c.args.values.items) entry.0 c.requires.machine c.in-Some.ensures.free entry.1 entry.2)

pub returns-clause-others : goal.returns-clause-others
returns-clause-others c =
    let entry = c.requires.entry in
    subst (λ (s : State). StayOthers c.in-Some.number c.args.self.now.turns s.turns) (sym (c.in_ok-begins.ensures.begun entry.0 entry.1))
    (spawned_stay c.args.self.now.turns c.in-Some.number (opened_by entry.0.op) entry.0.start (start_locals entry.0.locals (values_of c.args.values.items)))

pub returns-clause-requests : goal.returns-clause-requests
returns-clause-requests c =
    let entry = c.requires.entry in
    subst (λ (s : State). SpawnsRequests c.in-Some.number c.args.entry c.args.self.now s) (sym (c.in_ok-begins.ensures.begun entry.0 entry.1))
    (spawns_requests c.args.self.now c.in-Some.number c.args.entry (values_of c.args.values.items) entry.0 c.in-Some.ensures.free entry.1)
