use Rattle.std.proofs.Common.{List, ◌++◌, ◌∷◌, [], ap, subst, sym, ◌∙◌}
use Rattle.charlotte_calls.specs.declared.names.EndId.{EndId}
use Rattle.journal_text.specs.Journal.{IsAfterLast}
use Rattle.kernel_core.specs.State.{state_of}
use Rattle.kernel_entries.specs.declared.entry.Happened.TheVariants.{Asked}
use Rattle.program_runs.specs.Local.{MakesCall, gives}
use Rattle.kernel_turns.proofs.Happening.{IsEffectOf, effect_of, happens-of}
use Rattle.kernel_turns.proofs.base.Base.ask.Goals as goal

pub close-requires-clause-after_last : goal.close-requires-clause-after_last
close-requires-clause-after_last c =
    let effect = c.in_ok-effect.effect in
    let step = c.in_ok-effect.ensures.step in
    let mine : List EndId = step.0 in
    let is : IsEffectOf c.ask_again.new.self c.in_ok-effect.effect (gives (state_of c.args.self.now.kernel) (MakesCall c.args.request.now.p c.args.request.now.call mine))
    = effect_of _ effect _ step.2 c.in_ok-effect.ensures.stamp in
    subst (λ es. IsAfterLast es effect.stamp) (sym c.in_ok-asked.ensures.entries) (subst (λ n. IsAfterLast c.args.self.now.journal.entries n) (sym is.stamp) (c.requires.later mine step.1))

pub returns-clause-happens : goal.returns-clause-happens
returns-clause-happens c =
    let effect = c.in_ok-effect.effect in
    let step = c.in_ok-effect.ensures.step in
    let mine : List EndId = step.0 in
    let is : IsEffectOf c.ask_again.new.self c.in_ok-effect.effect (gives (state_of c.args.self.now.kernel) (MakesCall c.args.request.now.p c.args.request.now.call mine))
    = effect_of _ effect _ step.2 c.in_ok-effect.ensures.stamp in
    let what = Asked c.args.request.now.p c.args.request.now.call in
    let after = c.close.ensures in (
      mine,
      step.1,
      happens-of (MakesCall c.args.request.now.p c.args.request.now.call mine) effect c.ask_again.new.self c.args.self.now c.close.new.self c.close.result.items is c.in_ok-effect.ensures.processes c.in_ok-effect.ensures.kernels c.in_ok-effect.ensures.there c.requires.unsent
          (record {
            kernel = after.kernel;
            noted = after.noted what c.in_ok-asked.ensures.begun ∙ ap (λ es. es ++ record { stamp = effect.stamp; what = what; steps = effect.steps.items } ∷ []) c.in_ok-asked.ensures.entries;
            unsent = after.unsent;
            few = after.few;
            waiting = after.waiting;
            answered = after.answered;
            used = after.used;
            port = after.port;
            course = after.course;
            orders = after.orders;
          }),
    )
