use Rattle.lynx_plan.proofs.Drawn.{AreDrawn}
use Rattle.lynx_plan.proofs.seeded.draw_lines.Given as goal

abbrev pub invariant-loop-drawn : goal.invariant-loop-drawn
invariant-loop-drawn l = AreDrawn l.seed l.drawn l.lines.items l.draws
