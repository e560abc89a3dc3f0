-- What `drive` puts is the transcript of a run.
use Rattle.std.proofs.Common.{ℕ, List, subst, sym}
use Rattle.std.specs.List.{concat}
use Rattle.kernel_world.specs.World.{World, after, start}
use Rattle.charlotte_calls.specs.declared.setting.Setting.{Setting}
use Rattle.lynx_run.specs.Drive.{IsDriven}
use Rattle.script_run.specs.Performing.{IsLast}
use Rattle.transcript_audit.specs.Audit.{IsRunTranscript}
use Rattle.transcript_lines.specs.declared.last.Last.{Last}
use Rattle.transcript_lines.specs.declared.last.Last.TheVariants.{Quiet, Unsettled, Spent}
use Rattle.transcript_replay.specs.Replay.{IsTrueLast}

true-last : (s : Setting) (w : World) (last : Last) → IsLast w last → IsTrueLast s w last
true-last s w Quiet is = is
true-last s w Unsettled is = is
true-last s w (Spent k) is = absurd is

pub driven-transcript : (bytes : List ℕ) (lines : List (List ℕ)) (is : IsDriven bytes lines) → IsRunTranscript (concat lines) is.last
driven-transcript bytes lines is =
    let s = is.script.setting in
    let recorded = is.performed.recorded in
    record {
      setting = s;
      events = recorded.run;
      merged = is.merged;
      recorded = recorded.recorded;
      notes = is.notes;
      told = is.told;
      true_last = subst (λ (w : World). IsTrueLast s w is.last) (sym recorded.leaves) (true-last s (after (start s) is.performed.named) is.last is.performed.last_world);
    }
