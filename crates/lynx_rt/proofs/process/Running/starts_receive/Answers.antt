use Rattle.std.proofs.Common.{rules, ap, ◌∙◌}
use Rattle.end_protocol.specs.Going.{receives}
use Rattle.lynx_rt.proofs.Changing.{put_back}
use Rattle.lynx_rt.proofs.process.Running.starts_receive.Goals as goal

pub returns : goal.returns
returns c = put_back _ receives _ _ _ _ _ c.in-Some.ensures.kept c.take.ensures.left (c.receives.ensures ∙ ap receives {x = c.deref_mut.result.now} {y = c.in-Some.kept.value} (search rules)) c.in_ok-keep.ensures
