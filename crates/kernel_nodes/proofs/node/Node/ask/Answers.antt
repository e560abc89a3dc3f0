use Rattle.std.proofs.Common.{List, sym, ◌∙◌}
use Rattle.charlotte_calls.specs.declared.names.EndId.{EndId}
use Rattle.kernel_core.specs.State.{KernelView, state_of}
use Rattle.kernel_step.specs.Kernel.{Outcome, call_step, without_answer}
use Rattle.kernel_nodes.proofs.Events.{IsEffectOf, effect_of, if_ok_both, noted-of, sent-after}
use Rattle.kernel_nodes.proofs.Targets.{within-same}
use Rattle.kernel_nodes.proofs.node.Node.ask.Goals as goal

pub send-requires : goal.send-requires
send-requires c = within-same _ _ c.in_ok-effect.effect.packets.items (c.in_ok-effect.ensures.kernels ∙ sym c.requires.lists) c.in_ok-effect.ensures.there

pub returns : goal.returns
returns c =
    let k : KernelView = c.args.self.now.kernel in
    let step = c.in_ok-effect.ensures.step in
    let mine : List EndId = step.0 in
    let o : Outcome = call_step (without_answer c.args.request.now.p (state_of k)) c.args.request.now.p mine c.args.request.now.call in
    let is : IsEffectOf c.ask_again.new.self c.in_ok-effect.effect o = effect_of c.ask_again.new.self c.in_ok-effect.effect o step.2 c.in_ok-effect.ensures.stamp in
    record {
      after = if_ok_both c.send.result
          (λ noted about sent. (
            mine,
            step.1,
            noted-of c.ask_again.new.self c.in_ok-effect.effect o noted is about.0 about.1,
            sent-after c.args.self.now c.send.new.self c.ask_again.new.self c.in_ok-effect.effect o is c.send.ensures.kernel c.in_ok-effect.ensures.processes c.in_ok-effect.ensures.kernels c.send.ensures.lists sent,
          ))
          c.send.ensures.noted c.send.ensures.sent;
    }
