use Rattle.std.proofs.Common.{rules, ◌∙◌}
use Rattle.end_protocol.specs.Asking.{connected}
use Rattle.lynx_rt.proofs.Changing.{put_back}
use Rattle.lynx_rt.proofs.process.Running.issue.Goals as goal

pub returns : goal.returns
returns c =
    put_back _ (connected c.args.self.now.version c.args.connect) c.in-Some.kept.value _ _ _ _ c.in-Some.ensures.kept c.take.ensures.left
    (c.in_ok-connect.ensures ∙ (search rules)) c.in_ok-keep.ensures
