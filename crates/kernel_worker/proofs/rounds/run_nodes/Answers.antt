use Rattle.std.proofs.Common.{IfOk, OnOk, subst, sym, ◌∙◌}
use Rattle.std.proofs.lemmas.List.{with_items_is}
use Rattle.node_runs.specs.Net.{AreUnspoiled, HaveMet}
use Rattle.kernel_worker.proofs.Each.{each-length}
use Rattle.kernel_worker.specs.Ends.{Ends}
use Rattle.kernel_worker.specs.Rounds.{GoesOn}
use Rattle.kernel_worker.proofs.rounds.run_nodes.Goals as goal

pub returns-clause-met : goal.returns-clause-met
returns-clause-met g c =
    let count = each-length (GoesOn (record { step = g.P.Program.step; state = g.P.Program.state; last = g.P.Program.last; version = g.P.Program.version }) g.W.Watch.HasSeen g.W.Watch.made) c.as_mut_slice.result.now c.run_in_rounds.new.nodes c.run_in_rounds.ensures.goes in
    subst (λ ns. OnOk c.run_in_rounds.result (HaveMet ns × AreUnspoiled ns)) (sym (with_items_is c.args.nodes.now c.run_in_rounds.new.nodes (count ∙ c.as_mut_slice.ensures.len))) c.run_in_rounds.ensures.met

pub returns-clause-ends : goal.returns-clause-ends
returns-clause-ends g c =
    let count = each-length (GoesOn (record { step = g.P.Program.step; state = g.P.Program.state; last = g.P.Program.last; version = g.P.Program.version }) g.W.Watch.HasSeen g.W.Watch.made) c.as_mut_slice.result.now c.run_in_rounds.new.nodes c.run_in_rounds.ensures.goes in
    subst (λ ns. IfOk c.run_in_rounds.result (Ends ns)) (sym (with_items_is c.args.nodes.now c.run_in_rounds.new.nodes (count ∙ c.as_mut_slice.ensures.len))) c.run_in_rounds.ensures.ends
