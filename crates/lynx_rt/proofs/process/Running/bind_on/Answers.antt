use Rattle.std.proofs.Common.{rules, ◌∙◌}
use Rattle.end_protocol.specs.Asking.{binds}
use Rattle.lynx_rt.proofs.Changing.{put_back}
use Rattle.lynx_rt.proofs.process.Running.bind_on.Goals as goal

pub returns : goal.returns
returns c =
    put_back _ (binds c.args.binding) c.in-Some.kept.value _ _ _ _ c.in-Some.ensures.kept c.take.ensures.left
    (c.in_ok-bind.ensures ∙ (search rules)) c.in_ok-keep.ensures
