use Rattle.std.proofs.Common.{rules, ap, ◌∙◌}
use Rattle.end_protocol.specs.Going.{send_over}
use Rattle.lynx_rt.proofs.Changing.{put_back}
use Rattle.lynx_rt.proofs.process.Running.ends_send.Goals as goal

pub returns : goal.returns
returns c =
    put_back _ send_over c.in-Some.kept.value _ _ _ _ c.in-Some.ensures.kept c.take.ensures.left
    (c.send_over.ensures ∙ ap send_over {x = c.deref_mut.result.now} {y = c.in-Some.kept.value} (search rules)) c.in_ok-keep.ensures
