use Rattle.std.proofs.Common.{◌∙◌}
use Rattle.script_run.proofs.Events.{some-sent}
use Rattle.script_run.specs.Recorded.{sent_from}
use Rattle.script_run.proofs.recorded.Recorded.has_sent.Goals as goal

pub returns : goal.returns
returns c = c.is_some.ensures ∙ some-sent c.first.result (sent_from c.args.self.now c.args.from c.args.to) (c.first.ensures c.requires.0)
