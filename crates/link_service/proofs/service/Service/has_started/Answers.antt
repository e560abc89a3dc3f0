use Rattle.std.proofs.Common.{sym, ◌∙◌, true≢false}
use Rattle.link_service.specs.Service.{state_of}
use Rattle.link_service.proofs.service.Service.has_started.Goals as goal

pub forget_last_active-requires : goal.forget_last_active-requires
unfolding state_of
forget_last_active-requires c =
    record { last = c.in-Some.e; is = c.in-Some.ensures.last; idle = λ both. true≢false (sym both ∙ sym c.is_started_on.ensures ∙ c.if-is_started_on.false) }
