use Rattle.std.proofs.Common.{rules, ◌∙◌}
use Rattle.end_protocol.specs.Asking.{accepts_too}
use Rattle.lynx_rt.proofs.Changing.{put_back}
use Rattle.lynx_rt.proofs.process.Running.accept_on.Goals as goal

pub returns : goal.returns
returns c =
    put_back _ (accepts_too c.args.accept) c.in-Some.kept.value _ _ _ _ c.in-Some.ensures.kept c.take.ensures.left
    (c.in_ok-accept.ensures ∙ (search rules)) c.in_ok-keep.ensures
