use Rattle.std.proofs.Common.{rules, ap, ◌∙◌}
use Rattle.end_protocol.specs.Asking.{unbinds}
use Rattle.lynx_rt.proofs.Changing.{put_back}
use Rattle.lynx_rt.proofs.process.Running.unbind_from.Goals as goal

pub returns : goal.returns
returns c =
    put_back _ (unbinds c.args.entry) c.in-Some.kept.value _ _ _ _ c.in-Some.ensures.kept c.take.ensures.left
    (c.unbind.ensures ∙ ap (unbinds c.args.entry) {x = c.deref_mut.result.now} {y = c.in-Some.kept.value} (search rules)) c.in_ok-keep.ensures
