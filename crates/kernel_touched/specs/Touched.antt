-- Whose activities a call may change.
use Rattle.std.specs.Prelude.{◌≡◌, ◌≢◌, ℕ, ◌<◌, Bool, false, nat_eq, List, Some, IfSome}
use Rattle.charlotte_calls.specs.declared.calls.Call.{Call}
use Rattle.charlotte_calls.specs.declared.calls.Call.TheVariants as call
use Rattle.charlotte_calls.specs.declared.names.EndId.{EndId}
use Rattle.charlotte_calls.specs.declared.names.Pid.{Pid}
use Rattle.end_table.specs.Owned.{owned}
use Rattle.end_table.specs.Place.{end_eq}
use Rattle.end_table.specs.declared.entry.Entry.{Entry}
use Rattle.kernel_process.specs.Closing.{HavePlace}
use Rattle.kernel_process.specs.declared.process.ControlBlock.{ControlBlock}
use Rattle.kernel_sound.specs.Owners.{IsCalmBut, owner_of}
use Rattle.kernel_step.specs.Calls.{is_active}
use Rattle.kernel_touched.specs.declared.touched.Touched.{Touched}
use Rattle.kernel_touched.specs.declared.touched.Touched.TheVariants as touched

-- whose activities a call may change: none, those on one end, which a process owned before, or all of its caller
abbrev pub touched_by : (EndId → Entry) → Call → Touched
touched_by t call.Make = touched.Nothing
touched_by t (call.Destroy on) = touched.End on (owner_of (t on))
touched_by t (call.Send on bytes xs) = touched.End on (owner_of (t on))
touched_by t (call.Receive on) = touched.End on (owner_of (t on))
touched_by t (call.Cancel on w) = touched.End on (owner_of (t on))
touched_by t call.Wait = touched.Nothing
touched_by t (call.Print bytes) = touched.Nothing
touched_by t call.Exit = touched.Caller

-- the same of a call of p that is not refused: an end that it is on is the caller's
abbrev pub touched_of : Pid → Call → Touched
touched_of p call.Make = touched.Nothing
touched_of p (call.Destroy on) = touched.End on (Some p)
touched_of p (call.Send on bytes xs) = touched.End on (Some p)
touched_of p (call.Receive on) = touched.End on (Some p)
touched_of p (call.Cancel on w) = touched.End on (Some p)
touched_of p call.Wait = touched.Nothing
touched_of p (call.Print bytes) = touched.Nothing
touched_of p call.Exit = touched.Caller

-- whether it may change the activity of a process at an end
abbrev pub touches : Pid → Touched → Pid → EndId → Bool
touches p touched.Nothing q e = false
touches p (touched.End on before) q e = end_eq on e
touches p touched.Caller q e = nat_eq p.0 q.0

-- the owners of the end that was touched, before and after, are among the first n processes
abbrev pub AreOwnersBelow : ℕ → (EndId → Entry) → Touched → Type 0
AreOwnersBelow n t touched.Nothing = Unit {0}
AreOwnersBelow n t (touched.End on before) = IfSome before (λ q. q.0 < n) × IfSome (owner_of (t on)) (λ q. q.0 < n)
AreOwnersBelow n t touched.Caller = Unit {0}

-- where one end was touched, each process has room for one more end on which an activity is started
abbrev pub HavePlaceFor : Touched → List ControlBlock → Type 0
HavePlaceFor touched.Nothing xs = Unit {0}
HavePlaceFor (touched.End on before) xs = HavePlace xs
HavePlaceFor touched.Caller xs = Unit {0}

-- from the table t on the activities of others stayed, and after an Exit its process has none
abbrev pub IsCalmAfter : Pid → Touched → (EndId → Entry) → (EndId → Entry) → Type 0
IsCalmAfter p touched.Nothing t u = (q : Pid) (e : EndId) → is_active (owned q (u e)) ≡ is_active (owned q (t e))
IsCalmAfter p (touched.End on before) t u = (before ≡ owner_of (t on)) × IsCalmBut on t u
IsCalmAfter p touched.Caller t u =
    ((q : Pid) (e : EndId) → q.0 ≢ p.0 → is_active (owned q (u e)) ≡ is_active (owned q (t e)))
    × ((e : EndId) → is_active (owned p (u e)) ≡ false)
