-- What values of the types are: a number is below the bound of its type, and a list is no longer than its type allows.
use Rattle.std.specs.Prelude.{ℕ, ◌<◌, ◌≤◌, ◌^◌, List, length}
use Rattle.std.specs.List.{AllByRecursion}
use Rattle.charlotte_calls.specs.declared.calls.Call.{Call}
use Rattle.charlotte_calls.specs.declared.calls.Call.TheVariants as call
use Rattle.charlotte_calls.specs.declared.calls.Report.{Report}
use Rattle.charlotte_calls.specs.declared.calls.ServiceStep.{ServiceStep}
use Rattle.charlotte_calls.specs.declared.calls.ServiceStep.TheVariants as step
use Rattle.charlotte_calls.specs.declared.names.EndId.{EndId}
use Rattle.charlotte_calls.specs.declared.names.Pid.{Pid}

-- numbers of 8, 16, 32 and 64 bits
abbrev pub IsU8 : ℕ → Type 0
IsU8 n = n < 2 ^ 8

abbrev pub IsU16 : ℕ → Type 0
IsU16 n = n < 2 ^ 16

abbrev pub IsU32 : ℕ → Type 0
IsU32 n = n < 2 ^ 32

abbrev pub IsU64 : ℕ → Type 0
IsU64 n = n < 2 ^ 64

-- an end whose numbers are within their types
pub record IsEnd (e : EndId) : Type 0 where
  pub maker : IsU8 e.link.maker
  pub count : IsU32 e.link.count

-- numbers of one byte each
abbrev pub AreBytes : List ℕ → Type 0
AreBytes bytes = AllByRecursion (λ b. b < 256) bytes

-- the bytes of a message or of a print
pub record AreBytesInRange (bytes : List ℕ) : Type 0 where
  pub each : AreBytes bytes
  pub few : length bytes ≤ 256

-- the ends of a message
pub record AreEndsInRange (ends : List EndId) : Type 0 where
  pub each : AllByRecursion IsEnd ends
  pub few : length ends ≤ 8

-- a call
abbrev pub IsCallInRange : Call → Type 0
IsCallInRange (call.Destroy on) = IsEnd on
IsCallInRange (call.Send on bytes enclose) = IsEnd on × AreBytesInRange bytes × AreEndsInRange enclose
IsCallInRange (call.Receive on) = IsEnd on
IsCallInRange (call.Cancel on way) = IsEnd on
IsCallInRange (call.Print bytes) = AreBytesInRange bytes
IsCallInRange _ = Unit {0}

-- what Wait tells
pub record IsReportInRange (r : Report) : Type 0 where
  pub on : IsEnd r.on
  pub bytes : AreBytesInRange r.bytes
  pub enclosed : AreEndsInRange r.enclosed

-- a process
abbrev pub IsPid : Pid → Type 0
IsPid p = IsU16 p.0

-- a service step
abbrev pub IsStepInRange : ServiceStep → Type 0
IsStepInRange (step.Make p a b) = IsPid p × IsEnd a × IsEnd b
IsStepInRange (step.Refuse p c cause) = IsPid p × IsCallInRange c
IsStepInRange (step.Destroy on) = IsEnd on
IsStepInRange (step.Send on n bytes enclose) = IsEnd on × IsU32 n × AreBytesInRange bytes × AreEndsInRange enclose
IsStepInRange (step.Receive on) = IsEnd on
IsStepInRange (step.Cancel on way) = IsEnd on
IsStepInRange (step.Wait p) = IsPid p
IsStepInRange (step.Report p report) = IsPid p × IsReportInRange report
IsStepInRange (step.Exit p) = IsPid p
IsStepInRange (step.Match on n) = IsEnd on × IsU32 n
IsStepInRange (step.Take on n p late) = IsEnd on × IsU32 n × IsPid p
IsStepInRange (step.Complete on n) = IsEnd on × IsU32 n
IsStepInRange (step.Withdraw on) = IsEnd on
IsStepInRange (step.Free on) = IsEnd on
IsStepInRange (step.Notice on dead) = IsEnd on
IsStepInRange (step.Back on n dead) = IsEnd on × IsU32 n
