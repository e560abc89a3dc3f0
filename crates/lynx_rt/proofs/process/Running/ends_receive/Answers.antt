use Rattle.std.proofs.Common.{rules, ap, ◌∙◌}
use Rattle.end_protocol.specs.Going.{receive_over}
use Rattle.lynx_rt.proofs.Changing.{put_back}
use Rattle.lynx_rt.proofs.process.Running.ends_receive.Goals as goal

pub returns : goal.returns
returns c = put_back _ receive_over _ _ _ _ _ c.in-Some.ensures.kept c.take.ensures.left (c.receive_over.ensures ∙ ap receive_over {x = c.deref_mut.result.now} {y = c.in-Some.kept.value} (search rules)) c.in_ok-keep.ensures
