-- How a call that is not refused goes on once its part was done and the event closed.
use Rattle.std.specs.Prelude.{ℕ, Option, Some, None}
use Rattle.charlotte_calls.specs.Names.{opposite}
use Rattle.charlotte_calls.specs.declared.calls.Answer.TheVariants as answer
use Rattle.charlotte_calls.specs.declared.calls.Call.{Call}
use Rattle.charlotte_calls.specs.declared.calls.Call.TheVariants as call
use Rattle.charlotte_calls.specs.declared.names.EndId.{EndId}
use Rattle.charlotte_calls.specs.declared.names.Pid.{Pid}
use Rattle.charlotte_calls.specs.declared.names.Way.TheVariants as way
use Rattle.end_table.specs.Owned.{owned}
use Rattle.end_table.specs.declared.entry.HereView.{HereView}
use Rattle.end_table.specs.declared.entry.Inward.{Inward}
use Rattle.end_table.specs.declared.entry.Inward.TheVariants as inward
use Rattle.kernel_core.specs.declared.calling.Ending.{Ending}
use Rattle.kernel_core.specs.declared.calling.Ending.TheVariants as ending
use Rattle.kernel_step.specs.Calls.{made_end}
use Rattle.kernel_step.specs.Kernel.{Kernel, Outcome, exits, process_of, stands, turns, waits}
use Rattle.kernel_step.specs.declared.phase.Phase.TheVariants.{Cancelling}

-- the caller of a Cancel of a receive: it waits where the receive is posted
abbrev pub turned_by : Pid → HereView → Inward → Kernel → Kernel
turned_by p v inward.Idle s = s
turned_by p v (inward.Posted w) s = turns p (Cancelling v.value.end) s
turned_by p v (inward.Withdrawing w) s = s
turned_by p v inward.Unreported s = s

-- so it does on an end that it owns
abbrev pub turned_on : Pid → Option HereView → Kernel → Kernel
turned_on p None s = s
turned_on p (Some v) s = turned_by p v v.inward s

-- a Cancel of a receive that is posted waits; the process of another call goes on
unfoldable pub turned : Pid → Call → Kernel → Kernel
turned p call.Make s = s
turned p (call.Destroy on) s = s
turned p (call.Send on bytes xs) s = s
turned p (call.Receive on) s = s
turned p (call.Cancel on way.Outward) s = s
turned p (call.Cancel on way.Inward) s = turned_on p (owned p (s.table on)) s
turned p call.Wait s = s
turned p (call.Print bytes) s = s
turned p call.Exit s = s

-- what comes after the event: the answer, a Wait for a report, or the end of the process; k made so many links before
unfoldable pub finishes : Pid → ℕ → ℕ → Call → Outcome → Outcome
finishes p k made call.Make o = let a = made_end k made in stands p (answer.Made a (opposite a)) o
finishes p k made (call.Destroy on) o = stands p answer.Ok o
finishes p k made (call.Send on bytes xs) o = stands p answer.Ok o
finishes p k made (call.Receive on) o = stands p answer.Ok o
finishes p k made (call.Cancel on way.Outward) o = stands p answer.Ok o
finishes p k made (call.Cancel on way.Inward) o = o
finishes p k made call.Wait o = waits p (process_of p o.kernel).reports o
finishes p k made (call.Print bytes) o = stands p answer.Ok o
finishes p k made call.Exit o = exits p o

-- a process goes on to wait for a Cancel on this end, where there is one
abbrev pub turned_to : Pid → Option EndId → Kernel → Kernel
turned_to p None s = s
turned_to p (Some on) s = turns p (Cancelling on) s

-- how a call that is no Wait ends
abbrev pub ending_of : ℕ → ℕ → Call → Ending
ending_of k made call.Make = let a = made_end k made in ending.Made a (opposite a)
ending_of k made (call.Destroy on) = ending.Done
ending_of k made (call.Send on bytes xs) = ending.Done
ending_of k made (call.Receive on) = ending.Done
ending_of k made (call.Cancel on way.Outward) = ending.Done
ending_of k made (call.Cancel on way.Inward) = ending.Later
ending_of k made call.Wait = ending.Later
ending_of k made (call.Print bytes) = ending.Done
ending_of k made call.Exit = ending.Exit

-- so the event comes to
abbrev pub finished : Pid → Ending → Outcome → Outcome
finished p ending.Done o = stands p answer.Ok o
finished p (ending.Made a b) o = stands p (answer.Made a b) o
finished p ending.Later o = o
finished p ending.Exit o = exits p o
