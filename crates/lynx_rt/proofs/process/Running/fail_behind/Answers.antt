use Rattle.std.proofs.Common.{ap, ◌∙◌}
use Rattle.process_run.specs.Ends.{holds_again}
use Rattle.lynx_rt.proofs.Falling.{behind_failed, behind_may}
use Rattle.lynx_rt.proofs.process.Running.fail_behind.Goals as goal

pub loop-connect-preserved : goal.loop-connect-preserved
loop-connect-preserved c =
    record {
      process = c.in_ok-raise.ensures.process;
      raises = behind_may _ _ c.in-Some.connect c.loop-connect.self _ _ c.in-Some.ensures.first c.take.ensures.left (c.in_ok-hold_all.ensures ∙ ap (λ xs. holds_again xs c.loop-connect.self) c.as_slice.ensures) c.in_ok-raise.ensures.given c.loop-connect.invariant.raises;
      failed = behind_failed _ _ c.in-Some.connect c.loop-connect.self _ _ c.in-Some.ensures.first c.take.ensures.left (c.in_ok-hold_all.ensures ∙ ap (λ xs. holds_again xs c.loop-connect.self) c.as_slice.ensures) c.in_ok-raise.ensures.given ∙ c.loop-connect.invariant.failed;
    }
