use Rattle.std.proofs.Common.{rules, ap, ◌∙◌}
use Rattle.end_protocol.specs.Falling.{dies, fallen}
use Rattle.lynx_rt.proofs.Dying.{dead_at}
use Rattle.lynx_rt.proofs.process.Running.die.Goals as goal

pub returns-clause-died : goal.returns-clause-died
returns-clause-died c =
    dead_at _ _ _ _ _ _ _ _ c.in-Some.ensures.kept c.take.ensures.left (c.die-fallen.ensures.left ∙ ap dies (search rules)) (c.die-fallen.ensures.fallen ∙ ap fallen (search rules))
    c.in_ok-keep.ensures c.in_ok-fall.ensures.fell
