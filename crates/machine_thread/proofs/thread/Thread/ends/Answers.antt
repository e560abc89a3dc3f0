use Rattle.std.proofs.Common.{arith, length, ap, sym, ◌∙◌}
use Rattle.machine_turns.specs.Threads.{Standing}
use Rattle.machine_thread.proofs.Answering.{where_ok}
use Rattle.machine_thread.proofs.Closing.{end_asks, end_closed}
use Rattle.machine_thread.proofs.thread.Thread.ends.Goals as goal

pub returns-then-outcomes-len : goal.returns-then-outcomes-len
returns-then-outcomes-len c =
    let open_are = ap (λ (s : Standing). length s.requests) c.self.view_is in
    where_ok c.asks.result (λ move is p globals. is globals ∙ sym (end_asks p globals c.args.self.now (omega (arith, open_are, c.outcomes.ensures, c.len.ensures)))) c.asks.ensures

pub returns : goal.returns
returns c =
    let open_are = ap (λ (s : Standing). length s.requests) c.self.view_is in
    λ p globals. sym (end_closed p globals c.args.self.now (omega (arith, open_are, c.outcomes.ensures, c.len.ensures)))
