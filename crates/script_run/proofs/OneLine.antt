-- What one line does.
use Rattle.std.proofs.Common.{◌≡◌, ◌≢◌, ℕ, true, false, List, [], ◌∷◌, None, Some, arith, ap, sym, subst, refl}
use Rattle.charlotte_calls.specs.declared.calls.Call.{Call}
use Rattle.charlotte_calls.specs.declared.calls.Call.TheVariants as call
use Rattle.charlotte_calls.specs.declared.names.EndId.{EndId}
use Rattle.charlotte_calls.specs.declared.names.Pid.{Pid}
use Rattle.charlotte_packets.specs.declared.picture.Picture.{Picture}
use Rattle.charlotte_calls.specs.declared.setting.Setting.{Setting}
use Rattle.charlotte_text.specs.Spelling.{IsCall}
use Rattle.kernel_step.specs.Calls.{IsCallWith}
use Rattle.kernel_step.specs.Kernel.{process_of}
use Rattle.kernel_step.specs.Start.{home}
use Rattle.kernel_step.specs.declared.phase.Phase.{Phase}
use Rattle.kernel_step.specs.declared.phase.Phase.TheVariants.{Running, Waiting, Cancelling, Exited}
use Rattle.kernel_world.specs.Run.{IsCallOf}
use Rattle.kernel_world.specs.World.{World, Calls, Takes}
use Rattle.lynx_plan.specs.declared.script.ScriptCall.TheVariants.{Ask, Take}
use Rattle.script_run.specs.Performing.{Asks, TakesFirst, waits_note, nothing_note}
use Rattle.script_run.specs.Recorded.{AreRecorded, Goes, IsCaller, IsLineDone, IsTakenFirst, world_at}
use Rattle.script_run.specs.declared.recorded.Recorded.{Recorded}
use Rattle.script_run.proofs.Events.{Goes-start}

-- ---- a call

pub few_call : (v : ℕ) (c : Call) → IsCall v c → IsCallOf v c
few_call v call.Make h = tt
few_call v (call.Destroy on) h = tt
few_call v (call.Send on bytes xs) h = (h.4, h.2)
few_call v (call.Receive on) h = tt
few_call v (call.Cancel on w) h = tt
few_call v call.Wait h = tt
few_call v (call.Print bytes) h = h.1
few_call v call.Exit h = tt

asks-waits : (s : Setting) (w : World) (line : ℕ) (p : Pid) (c : Call) (phase : Phase) → phase ≢ Running → Asks s w line p c phase [] (waits_note line ∷ [])
asks-waits s w line p c Running ne = absurd (ne refl)
asks-waits s w line p c Waiting ne = record { no_event = refl; one_note = refl }
asks-waits s w line p c (Cancelling on) ne = record { no_event = refl; one_note = refl }
asks-waits s w line p c Exited ne = record { no_event = refl; one_note = refl }

-- a process that waits
pub ask-waits : (s : Setting) (run : Recorded) (k line : ℕ) (p : Pid) (c : Call) → home s p ≡ k → (process_of p ((world_at s run).kernel k)).phase ≢ Running → AreRecorded s run → IsLineDone s line (Ask p c) (Some (record { line = line; waits = true })) run run
ask-waits s run k line p c at_home waits are =
    record {
      events = [];
      does = asks-waits s (world_at s run) line p c (process_of p ((world_at s run).kernel (home s p))).phase (subst (λ i. (process_of p ((world_at s run).kernel i)).phase ≢ Running) (sym at_home) waits);
      goes = Goes-start s run are;
      few = omega arith;
    }

-- a process that runs
pub ask-runs : (s : Setting) (run new : Recorded) (k line : ℕ) (p : Pid) (c : Call) → IsCaller s (world_at s run) k p c → (mine : List EndId) × Goes s run new (Calls k p c mine ∷ []) → IsLineDone s line (Ask p c) None run new
ask-runs s run new k line p c is did =
    record {
      events = Calls k p c mine ∷ [];
      does = subst (λ i. Asks s w line p c (process_of p (w.kernel i)).phase (Calls k p c mine ∷ []) []) (sym is.at_home)
          (subst (λ (ph : Phase). Asks s w line p c ph (Calls k p c mine ∷ []) []) (sym is.runs)
          (record { mine = mine; owned = subst (λ i. IsCallWith p (w.kernel i).table mine c) (sym is.at_home) did.1.allowed.0.4; event = ap (λ i. Calls i p c mine ∷ []) (sym is.at_home) }, refl));
      goes = did.1;
      few = omega arith;
    }
  where
    w : World
    w = world_at s run

    mine : List EndId
    mine = did.0

-- ---- a taking

take-line : (line from to : ℕ) (qs : List Picture) → qs ≢ [] → TakesFirst line from to qs (Takes to from ∷ []) []
take-line line from to [] ne = absurd (ne refl)
take-line line from to (q ∷ qs) ne = (refl, refl)

take-none : (line from to : ℕ) (qs : List Picture) → qs ≡ [] → TakesFirst line from to qs [] (nothing_note line ∷ [])
take-none line from to [] e = record { no_event = refl; one_note = refl }
take-none line from to (q ∷ qs) e = absurd (cc)

-- the line of a taking
pub line-took : (s : Setting) (line from to : ℕ) (run new : Recorded) → IsTakenFirst s from to true run new → IsLineDone s line (Take from to) None run new
line-took s line from to run new t = record { events = Takes to from ∷ []; does = take-line line from to ((world_at s run).packets from to) t.0; goes = t.1; few = omega arith }

pub line-took_none : (s : Setting) (line from to : ℕ) (run new : Recorded) → IsTakenFirst s from to false run new → IsLineDone s line (Take from to) (Some (record { line = line; waits = false })) run new
line-took_none s line from to run new t = record { events = []; does = take-none line from to ((world_at s run).packets from to) t.0; goes = t.1; few = omega arith }
