use Rattle.std.proofs.Common.{◌≡◌, ◌∙◌, ℕ, Option, Some, ap, slice_get, slice_set, subst, sym}
use Rattle.std.proofs.lemmas.Result.{IfOk-weaker}
use Rattle.code_shapes.specs.Shapes.{program}
use Rattle.machine_turns.specs.Threads.{Standing}
use Rattle.machine_steps.specs.Operands.{IsCourse, StaysReady}
use Rattle.machine_thread.specs.Programs.{program_of}
use Rattle.machine_thread.specs.Told.{told}
use Rattle.machine_turns.specs.Turns.{with_thread}
use Rattle.lynx_interp.specs.Machines.{State, state_of}
use Rattle.lynx_interp.proofs.Counting.{slot_there}
use Rattle.lynx_interp.proofs.machine.Machine.turn.Goals as goal

pub run-requires : goal.run-requires
run-requires c =
    let s = c.requires.0 in
    let here = ap (λ (m : State). slice_get m.turns.threads c.args.number) c.self.view_is ∙ c.requires.1 in
    let same = slot_there c.self.inside.threads.items c.args.number c.from.result c.index_mut.result.now s c.from.ensures c.index_mut.ensures.value here in
    (s, same, subst (λ (m : State). StaysReady (program m.types m.instructions) m.turns.globals s) (sym c.self.view_is) c.requires.2)

pub returns : goal.returns
returns c =
    let s = c.requires.0 in
    let here = ap (λ (m : State). slice_get m.turns.threads c.args.number) c.self.view_is ∙ c.requires.1 in
    let there = slot_there c.self.inside.threads.items c.args.number c.from.result c.index_mut.result.now s c.from.ensures c.index_mut.ensures.value here in
    let put : ℕ → Option Standing → State =
    λ k slot.
    state_of c.self.inside.code
    (record { globals = c.run.new.globals; threads = slice_set c.self.inside.threads.items k slot; running = c.self.inside.running; ready = c.self.inside.ready.items; awaiting = c.self.inside.awaiting.items }) in
    IfOk-weaker c.run.result _ _
    (λ r came.
    let both : Some came.0 ≡ Some s = sym came.2 ∙ there in
    let same : came.0 ≡ s = cc in (
      s,
      came.1,
      c.requires.1,
      subst (λ (m : State). put c.from.result c.run.new.self ≡ record m { turns = with_thread c.args.number (Some came.1) (record m.turns { globals = c.run.new.globals }) }) c.self.view_is
          (ap (λ (k : ℕ). put k c.run.new.self) c.from.ensures ∙ ap (put c.args.number) came.3),
      subst (λ (m : State). IsCourse (program m.types m.instructions) c.args.fuel m.turns.globals s r.1 (told r.0 c.run.new.globals came.1)) c.self.view_is
          (subst (λ (q : Standing). IsCourse (program_of c.self.inside.code) c.args.fuel c.self.inside.globals q r.1 (told r.0 c.run.new.globals came.1)) same came.4),
    ))
    c.run.ensures
