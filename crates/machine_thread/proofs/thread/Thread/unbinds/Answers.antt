use Rattle.std.proofs.Common.{false, ap, sym, ◌∙◌}
use Rattle.lynx_meaning.specs.Code.{Next, asks}
use Rattle.lynx_meaning.specs.Courses.{Unbind}
use Rattle.lynx_meaning.specs.Values.{Link}
use Rattle.machine_turns.specs.Threads.{in_turn, made}
use Rattle.machine_thread.proofs.Answering.{linked, where_ok}
use Rattle.machine_thread.proofs.thread.Thread.unbinds.Goals as goal

pub returns-then-not-is_fresh : goal.returns-then-not-is_fresh
returns-then-not-is_fresh c =
    where_ok
    c.answered_after.result
    (λ move is p globals.
    let s = c.args.self.now in
    let found = linked (λ link stack. asks (Unbind link c.args.entry) stack (in_turn globals s) (λ now. now)) s.stack c.requires.operands in
    is globals (Unbind (Link found.0) c.args.entry) ∙ ap (λ (n : Next). made false s n) (sym found.1))
    c.answered_after.ensures
