use Rattle.std.proofs.Common.{IfOk, subst, sym, ◌∙◌}
use Rattle.std.proofs.lemmas.List.{with_items_is}
use Rattle.node_runs.specs.Net.{AreUnspoiled, HaveMet}
use Rattle.kernel_worker.proofs.Each.{each-length}
use Rattle.kernel_worker.specs.Ends.{RunTogether, Unstopped}
use Rattle.kernel_worker.specs.Rounds.{GoesOn}
use Rattle.kernel_worker.proofs.beside.run_nodes_with.Goals as goal

pub returns-clause-met : goal.returns-clause-met
returns-clause-met g c =
    let count = each-length (GoesOn (record { step = g.P.Program.step; state = g.P.Program.state; last = g.P.Program.last; version = g.P.Program.version }) g.W.Watch.HasSeen g.W.Watch.made) c.as_mut_slice.result.now c.run_beside.new.nodes c.run_beside.ensures.goes in
    subst (λ ns. IfOk c.run_beside.result (λ end. Unstopped end (HaveMet ns × AreUnspoiled ns))) (sym (with_items_is c.args.nodes.now c.run_beside.new.nodes (count ∙ c.as_mut_slice.ensures.len))) c.run_beside.ensures.met

pub returns-clause-run : goal.returns-clause-run
returns-clause-run g c =
    let count = each-length (GoesOn (record { step = g.P.Program.step; state = g.P.Program.state; last = g.P.Program.last; version = g.P.Program.version }) g.W.Watch.HasSeen g.W.Watch.made) c.as_mut_slice.result.now c.run_beside.new.nodes c.run_beside.ensures.goes in
    subst (λ ns. IfOk c.run_beside.result (λ end. Unstopped end (RunTogether (record { step = g.P.Program.step; state = g.P.Program.state; last = g.P.Program.last; version = g.P.Program.version }) g.W.Watch.HasSeen c.args.nodes.now.items ns))) (sym (with_items_is c.args.nodes.now c.run_beside.new.nodes (count ∙ c.as_mut_slice.ensures.len)))
    (subst (λ old. IfOk c.run_beside.result (λ end. Unstopped end (RunTogether (record { step = g.P.Program.step; state = g.P.Program.state; last = g.P.Program.last; version = g.P.Program.version }) g.W.Watch.HasSeen old c.run_beside.new.nodes))) c.as_mut_slice.ensures.value c.run_beside.ensures.run)
