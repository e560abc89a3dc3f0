-- What `run` puts is the transcript of a run.
use Rattle.std.proofs.Common.{◌≡◌, ◌∙◌, ℕ, List, [], ap, subst, sym}
use Rattle.std.specs.List.{concat}
use Rattle.charlotte_calls.specs.declared.setting.Setting.{Setting}
use Rattle.kernel_entries.specs.declared.entry.Placed.{Placed}
use Rattle.run_links.specs.Letters.{Told}
use Rattle.run_links.specs.Nodes.{Meaning}
use Rattle.kernel_worker.specs.declared.standing.End.{End}
use Rattle.kernel_worker.specs.declared.standing.End.TheVariants.{Quiet, Spent}
use Rattle.kernel_world.specs.World.{World, after, start}
use Rattle.lynx_command.specs.Found.{OutputLines}
use Rattle.lynx_load.specs.Loading.{Loading}
use Rattle.lynx_run.specs.Run.{IsRunOfPlan}
use Rattle.kernel_worker.specs.Net.{pictures}
use Rattle.plan_run.specs.Run.{AreReplayed, EndsSo, IsRunOf, last_of}
use Rattle.plan_run.specs.declared.run.Ran.{Ran}
use Rattle.transcript_audit.specs.Audit.{IsRunTranscript}
use Rattle.transcript_replay.specs.Replay.{IsTrueLast}

module _ {P S : Type 0} (m : Meaning P S) (s : Setting) (programs : List P) where
  true-end : (merged : List Placed) (are : AreReplayed m s programs merged) (left : ℕ → ℕ → List Told) (turns : ℕ) (w : World)
      → ((from to : ℕ) → w.packets from to ≡ pictures (left from to)) → (end : End) → EndsSo m s programs merged are left turns end → IsTrueLast s w (last_of end)
  true-end merged are left turns w under_way Quiet is = λ from to. under_way from to ∙ ap pictures (is.letters from to)
  true-end merged are left turns w under_way (Spent k) is = is.there

  ran-transcript : (turns : ℕ) (ran : Ran) → IsRunOf m s programs turns ran → IsRunTranscript (concat ran.lines) (last_of ran.end)
  ran-transcript turns ran is =
      let one = is.one in
      record {
        setting = s;
        events = one.events;
        merged = is.merged;
        recorded = one.recorded;
        notes = [];
        told = is.told;
        true_last = true-end is.merged is.replayed is.left turns (after (start s) one.events) one.packets ran.end is.ends;
      }

pub plan-transcript : (x : Loading) (turns : ℕ) (output : OutputLines) (is : IsRunOfPlan x turns output) → IsRunTranscript (concat output.lines) (last_of is.ran.end)
plan-transcript x turns output is =
    subst (λ ls. IsRunTranscript (concat ls) (last_of is.ran.end)) (sym is.lines) (ran-transcript _ x.plan.setting is.programs turns is.ran is.run)
