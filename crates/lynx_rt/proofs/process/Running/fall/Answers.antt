use Rattle.std.proofs.Common.{map, sym, ap, subst, ◌∙◌}
use Rattle.typing_rules.specs.declared.exception.Exception.TheVariants.{DeadLink}
use Rattle.process_run.specs.Deaths.{raises_in}
use Rattle.process_sound.specs.Machine.{MayRaise}
use Rattle.lynx_rt.proofs.Falling.{all_falls, moved}
use Rattle.lynx_rt.proofs.Raising.{may_accepts, may_behind, may_then}
use Rattle.lynx_rt.proofs.process.Running.fall.Goals as goal

pub fail_behind-requires-clause-raises : goal.fail_behind-requires-clause-raises
fail_behind-requires-clause-raises c =
    may_behind c.args.fallen _ _ c.in_ok-fail_outstanding.ensures.failed
    (may_then c.args.fallen _ _ (moved c.args.fallen _ _ _ _ _ c.in_ok-hold_queue.ensures c.in_ok-hold_outstanding.ensures c.in_ok-doom_request.ensures c.in_ok-doom_reply.ensures) c.requires.raises)

pub fail_accepts-requires-clause-raises : goal.fail_accepts-requires-clause-raises
fail_accepts-requires-clause-raises c =
    subst (λ xs. MayRaise (map (λ a. a.thread) xs) DeadLink c.fail_behind.new.self) (sym c.as_slice.ensures)
    (may_accepts c.args.fallen _ _ _ c.in_ok-fail_outstanding.ensures.failed c.in_ok-fail_behind.ensures.failed
    (may_then c.args.fallen _ _ (moved c.args.fallen _ _ _ _ _ c.in_ok-hold_queue.ensures c.in_ok-hold_outstanding.ensures c.in_ok-doom_request.ensures c.in_ok-doom_reply.ensures) c.requires.raises))

pub returns-clause-fell : goal.returns-clause-fell
returns-clause-fell c =
    all_falls c.args.fallen _ _ _ _ _
    (moved c.args.fallen _ _ _ _ _ c.in_ok-hold_queue.ensures c.in_ok-hold_outstanding.ensures c.in_ok-doom_request.ensures c.in_ok-doom_reply.ensures)
    c.in_ok-fail_outstanding.ensures.failed c.in_ok-fail_behind.ensures.failed
    (c.in_ok-fail_accepts.ensures.failed ∙ ap (λ xs. raises_in (map (λ a. a.thread) xs) DeadLink c.fail_behind.new.self) c.as_slice.ensures)
