use Rattle.std.proofs.Common.{[], ap, ◌∙◌}
use Rattle.plan_run.proofs.Making.{few-ended}
use Rattle.plan_run.proofs.Running.{run_is}
use Rattle.transcript_lines.specs.Transcript.{transcript_lines}
use Rattle.plan_run.proofs.run.run_programs.Goals as goal

pub merged_of-requires : goal.merged_of-requires
merged_of-requires g c = few-ended (record { step = g.P.Program.step; state = g.P.Program.state; last = g.P.Program.last; version = g.P.Program.version }) c.args.setting c.args.programs.items c.args.how.turns c.run_of.new.nodes.items c.in_ok-end.end
    (c.in_ok-end.ensures c.args.setting c.args.programs.items c.args.how.turns c.in_ok-nodes.ensures)

pub returns : goal.returns
returns g c =
    run_is (record { step = g.P.Program.step; state = g.P.Program.state; last = g.P.Program.last; version = g.P.Program.version }) c.args.setting c.args.programs.items c.args.how.turns c.run_of.new.nodes.items c.in_ok-end.end
    (c.in_ok-end.ensures c.args.setting c.args.programs.items c.args.how.turns c.in_ok-nodes.ensures)
    c.requires.count c.in_ok-merged.merged c.in_ok-merged.ensures c.of-lines.result
    (c.of-lines.ensures ∙ ap (λ ns. transcript_lines c.args.setting c.in_ok-merged.merged ns c.last_line.result) (c.of.ensures ∙ c.new.ensures.items)
    ∙ ap (transcript_lines c.args.setting c.in_ok-merged.merged []) c.last_line.ensures)
