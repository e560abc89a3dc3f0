-- What each event does.
use Rattle.std.specs.Prelude.{ℕ, max, List, [], ◌∷◌, ◌++◌, map, None, Some}
use Rattle.charlotte_calls.specs.declared.calls.Answer.{Answer}
use Rattle.charlotte_calls.specs.declared.calls.Answer.TheVariants as answer
use Rattle.charlotte_calls.specs.declared.calls.Call.{Call}
use Rattle.charlotte_calls.specs.declared.calls.Cause.{Cause}
use Rattle.charlotte_calls.specs.declared.calls.Report.{Report}
use Rattle.charlotte_calls.specs.declared.calls.ServiceStep.TheVariants as step
use Rattle.charlotte_calls.specs.declared.names.Pid.{Pid}
use Rattle.charlotte_packets.specs.declared.picture.Picture.{Picture}
use Rattle.kernel_effects.specs.Effect.{Effect}
use Rattle.kernel_outcomes.specs.Closing.{call_answered, call_told, called, process_after, ran, told, told_entry}
use Rattle.kernel_sound.specs.Acts.{made_after}
use Rattle.kernel_step.specs.Kernel.{Kernel, Process, next_stamp, process_of}
use Rattle.kernel_world.specs.World.{World}
use Rattle.theorem_effects.specs.Change.{Change}

-- kernel k takes packet q from a kernel, and that has effect f, of which process p alone gets answers and reports
abbrev pub taking : World → ℕ → ℕ → Picture → Effect → Pid → List Answer → List Report → Change
taking w k from q f p given rs =
    let s = w.kernel k in
    let x = process_of p s in
    let now = told x.phase given rs in
    record {
      kernel = k;
      taken = Some (from, q);
      entry = λ e y. told_entry now e (f.entry e y);
      packets = f.packets;
      stamp = next_stamp (max s.stamp q.stamp);
      made = s.made;
      pid = p;
      process = process_after x given rs;
      answered = map (λ _. p) given ++ map (λ _. p) now;
      steps = f.steps ++ map (step.Report p) now;
    }

-- a process that makes a call has no standing answer any more
abbrev pub caller : Pid → Kernel → Process
caller p s = record (process_of p s) { answer = None }

-- process p of kernel k makes a call, and that has effect f; mine are the ends that it owns, in order
abbrev pub calling : World → ℕ → Pid → Call → Effect → Change
calling w k p c f =
    let s = w.kernel k in
    let x = caller p s in
    let now = call_told c x.reports in
    record {
      kernel = k;
      taken = None;
      entry = λ e y. told_entry now e (f.entry e y);
      packets = f.packets;
      stamp = next_stamp s.stamp;
      made = made_after c s.made;
      pid = p;
      process = called s.number s.made s.table p c x;
      answered = call_answered p c x.reports;
      steps = f.steps ++ map (step.Report p) now;
    }

-- it makes one that is refused
abbrev pub refusing : World → ℕ → Pid → Call → Cause → Change
refusing w k p c cause =
    let s = w.kernel k in
    record {
      kernel = k;
      taken = None;
      entry = λ e y. y;
      packets = [];
      stamp = next_stamp s.stamp;
      made = s.made;
      pid = p;
      process = ran (caller p s) (answer.Refused cause);
      answered = p ∷ [];
      steps = step.Refuse p c cause ∷ [];
    }
