use Rattle.std.proofs.Common.{rules, ap, ◌∙◌}
use Rattle.end_protocol.specs.Falling.{fallen}
use Rattle.lynx_rt.proofs.Hearing.{destroyed_so, may_destroy, must_be_kept}
use Rattle.lynx_rt.proofs.process.Running.destroy.Goals as goal

pub unreachable-requires : goal.unreachable-requires
unreachable-requires c = must_be_kept _ _ c.args.self.now c.in-Some.ensures c.in_default-release.ensures.kept

pub fall-requires-clause-raises : goal.fall-requires-clause-raises
fall-requires-clause-raises c =
    may_destroy c.args.number c.in-Some-release.kept.value c.in-Some.end c.sends_own-own.result _ c.args.self.now c.release.new.self c.doom.new.self
    c.in-Some-release.ensures.kept (c.die.ensures.fallen ∙ ap fallen (search rules)) c.release.ensures.left c.in_ok-doom.ensures c.requires.raises

pub returns-clause-destroyed : goal.returns-clause-destroyed
returns-clause-destroyed c =
    destroyed_so c.args.number c.in-Some-release.kept.value c.in-Some.end c.sends_own-own.result _ c.args.self.now c.release.new.self c.doom.new.self _
    c.in-Some.ensures c.sends_own-own.ensures c.in-Some-release.ensures.kept c.release.ensures.left c.in_ok-doom.ensures
    (c.die.ensures.fallen ∙ ap fallen (search rules)) c.in_ok-fall.ensures.fell
