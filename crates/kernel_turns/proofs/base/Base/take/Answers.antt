use Rattle.std.proofs.Common.{◌++◌, ◌∷◌, [], ap, subst, sym, ◌∙◌}
use Rattle.charlotte_packets.specs.Packets.{packet_picture}
use Rattle.journal_text.specs.Journal.{IsAfterLast}
use Rattle.kernel_core.specs.State.{state_of}
use Rattle.kernel_entries.specs.declared.entry.Happened.TheVariants.{Took}
use Rattle.kernel_step.specs.Kernel.{take_step}
use Rattle.program_runs.specs.Local.{TakesPacket}
use Rattle.kernel_turns.proofs.Happening.{IsEffectOf, effect_of, happens-of}
use Rattle.kernel_turns.proofs.base.Base.take.Goals as goal

pub close-requires-clause-after_last : goal.close-requires-clause-after_last
close-requires-clause-after_last c =
    let effect = c.in_ok-effect.effect in
    let is : IsEffectOf c.take_from.new.self c.in_ok-effect.effect (take_step (state_of c.args.self.now.kernel) c.args.from (packet_picture c.args.packet.now))
    = effect_of _ effect _ c.in_ok-effect.ensures.step c.in_ok-effect.ensures.stamp in
    subst (λ es. IsAfterLast es effect.stamp) (sym c.in_ok-took.ensures.entries) (subst (λ n. IsAfterLast c.args.self.now.journal.entries n) (sym is.stamp) c.requires.later)

pub returns-clause-happens : goal.returns-clause-happens
returns-clause-happens c =
    let effect = c.in_ok-effect.effect in
    let is : IsEffectOf c.take_from.new.self c.in_ok-effect.effect (take_step (state_of c.args.self.now.kernel) c.args.from (packet_picture c.args.packet.now))
    = effect_of _ effect _ c.in_ok-effect.ensures.step c.in_ok-effect.ensures.stamp in
    let what = Took c.args.from (packet_picture c.args.packet.now) in
    let after = c.close.ensures in
    happens-of (TakesPacket c.args.from (packet_picture c.args.packet.now)) effect c.take_from.new.self c.args.self.now c.close.new.self c.close.result.items is
    c.in_ok-effect.ensures.processes c.in_ok-effect.ensures.kernels c.in_ok-effect.ensures.there c.requires.unsent
    (record {
      kernel = after.kernel;
      noted = after.noted what c.in_ok-took.ensures.begun ∙ ap (λ es. es ++ record { stamp = effect.stamp; what = what; steps = effect.steps.items } ∷ []) c.in_ok-took.ensures.entries;
      unsent = after.unsent;
      few = after.few;
      waiting = after.waiting;
      answered = after.answered;
      used = after.used;
      port = after.port;
      course = after.course;
      orders = after.orders;
    })
