-- The reserved room leaves everything as it was.
use Rattle.std.proofs.Common.{subst, ◌∙◌}
use Rattle.kernel_core.proofs.CalledParts.{called-before}
use Rattle.kernel_core.proofs.Reserved.{reserved-keeps}
use Rattle.kernel_core.specs.Stepping.{IsCalled}
use Rattle.kernel_core.proofs.deciding.call_event.Goals as goal

pub decide-requires-clause-consistent : goal.decide-requires-clause-consistent
decide-requires-clause-consistent c = (reserved-keeps c.args.state.now c.reserve_calling.new.state c.requires.consistent c.reserve_calling.ensures.same).consistent

pub returns-in-Ok-clause-step : goal.returns-in-Ok-clause-step
returns-in-Ok-clause-step c =
    called-before c.args.state.now c.reserve_calling.new.state c.decide.new.state c.args.stamp c.decide.new.effect c.args.request.now.p c.args.request.now.call c.reserve_calling.ensures.same
    (subst (λ n. IsCalled c.reserve_calling.new.state n c.decide.new.state c.decide.new.effect c.args.request.now.p c.args.request.now.call) c.in-Ok.ensures.stamp c.decide.ensures.step)

pub returns-in-Ok-clause-keeps : goal.returns-in-Ok-clause-keeps
returns-in-Ok-clause-keeps c =
    record {
      consistent = c.decide.ensures.keeps.consistent;
      kernel = c.decide.ensures.keeps.kernel ∙ c.reserve_calling.ensures.same.kernel;
      length = c.decide.ensures.keeps.length ∙ c.reserve_calling.ensures.same.length;
    }

pub returns-in-Err-clause-keeps : goal.returns-in-Err-clause-keeps
returns-in-Err-clause-keeps c = reserved-keeps c.args.state.now c.reserve_calling.new.state c.requires.consistent c.reserve_calling.ensures.same
