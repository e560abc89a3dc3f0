use Rattle.std.proofs.Common.{rules, ◌∙◌}
use Rattle.end_protocol.specs.Asking.{replied}
use Rattle.lynx_rt.proofs.Changing.{put_back}
use Rattle.lynx_rt.proofs.process.Running.respond.Goals as goal

pub returns : goal.returns
returns c =
    put_back _ (replied c.args.self.now.version c.args.response) c.in-Some.kept.value _ _ _ _ c.in-Some.ensures.kept c.take.ensures.left
    (c.in_ok-reply.ensures ∙ (search rules)) c.in_ok-keep.ensures
