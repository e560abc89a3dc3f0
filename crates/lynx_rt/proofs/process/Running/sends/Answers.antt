use Rattle.std.proofs.Common.{rules, ap, ◌∙◌}
use Rattle.end_protocol.specs.Going.{sent}
use Rattle.lynx_rt.proofs.Changing.{put_back}
use Rattle.lynx_rt.proofs.process.Running.sends.Goals as goal

pub returns : goal.returns
returns c = put_back _ sent _ _ _ _ _ c.in-Some.ensures.kept c.take.ensures.left (c.sent.ensures ∙ ap sent (search rules)) c.in_ok-keep.ensures
