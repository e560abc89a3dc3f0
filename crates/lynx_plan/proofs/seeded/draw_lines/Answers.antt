use Rattle.lynx_plan.proofs.Drawn.{drawn_none, drawn_next}
use Rattle.lynx_plan.proofs.seeded.draw_lines.Goals as goal

pub loop-drawn-init : goal.loop-drawn-init
loop-drawn-init c = rw (c.new-draws.ensures, c.new-lines.ensures.items) (drawn_none c.args.seed)

pub loop-drawn-preserved : goal.loop-drawn-preserved
loop-drawn-preserved c = drawn_next c.args.seed c.loop-drawn.drawn c.loop-drawn.lines.items c.draw_round.new.lines.items c.loop-drawn.draws c.draw_round.new.draws c.loop-drawn.invariant c.in_ok-draw_round.ensures.lines c.in_ok-draw_round.ensures.draws
