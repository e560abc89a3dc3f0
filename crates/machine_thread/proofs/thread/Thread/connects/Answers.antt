use Rattle.std.proofs.Common.{◌+◌, ℕ, Option, false, refl, ap, sym, ◌∙◌}
use Rattle.lynx_meaning.specs.Code.{Next, asks, connects}
use Rattle.lynx_meaning.specs.Courses.{Connect}
use Rattle.machine_turns.specs.Threads.{in_turn, made}
use Rattle.machine_thread.proofs.Answering.{link_and_values, where_ok}
use Rattle.machine_thread.proofs.thread.Thread.connects.Goals as goal

pub returns-then-not-is_fresh : goal.returns-then-not-is_fresh
returns-then-not-is_fresh c =
    where_ok
    c.answered_after.result
    (λ move is p globals has.
    let s = c.args.self.now in
    let found = link_and_values c.args.arguments (c.args.arguments + 1) (λ link vs stack. asks (Connect link c.args.op vs) stack (in_turn globals s) (λ now. now)) s.stack c.requires.operands refl in
    is globals (Connect found.0 c.args.op found.1)
    ∙ ap (λ (n : Next). made false s n) (sym found.2)
    ∙ ap (λ (k : Option ℕ). made false s (connects c.args.op k (in_turn globals s))) (sym has))
    c.answered_after.ensures
