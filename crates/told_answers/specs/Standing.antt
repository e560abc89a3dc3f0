-- That what stands at a kernel is what the entries told.
use Rattle.std.specs.Prelude.{◌≡◌, ℕ, ◌≤◌, Bool, nat_eq, is_some, List, length}
use Rattle.std.specs.List.{list_any}
use Rattle.charlotte_calls.specs.Program.{FitsCall}
use Rattle.charlotte_calls.specs.declared.calls.Call.TheVariants as call
use Rattle.charlotte_calls.specs.declared.names.Pid.{Pid}
use Rattle.charlotte_calls.specs.declared.names.Way.TheVariants.{Inward}
use Rattle.kernel_step.specs.Kernel.{Outcome, Process}
use Rattle.kernel_step.specs.declared.phase.Phase.TheVariants.{Running, Waiting, Cancelling, Exited}
use Rattle.kernel_step.specs.declared.phase.Phase.{Phase}
use Rattle.kernel_entries.specs.declared.entry.Entry.{Entry}
use Rattle.told_answers.specs.Told.{Heard, NoCall, Pending, Answered, answer_of, heard, tells}

-- a process of which this was heard is in this phase: a call whose answer is not told is a Wait or a Cancel of a receive
abbrev pub IsPhaseOf : Heard → Phase → Type 0
IsPhaseOf (Pending call.Wait) phase = phase ≡ Waiting
IsPhaseOf (Pending (call.Cancel on Inward)) phase = phase ≡ Cancelling on
IsPhaseOf (Pending c) phase = ⊥
IsPhaseOf (Answered call.Exit a) phase = phase ≡ Exited
IsPhaseOf h phase = phase ≡ Running

-- an answer that was told fits its call
abbrev pub HasFitting : Heard → Type 0
HasFitting (Answered c a) = FitsCall c a
HasFitting h = Unit {0}

-- a process of which this was heard is so at its kernel
pub record StandsAsTold (h : Heard) (x : Process) : Type 0 where
  -- the answer that stands is the one told of its last call, and none stands where none was told
  pub answer : x.answer ≡ answer_of h
  pub fits : HasFitting h
  pub phase : IsPhaseOf h x.phase

-- whether an answer came to stand for p in an event
abbrev pub is_answered : Pid → Outcome → Bool
is_answered p o = list_any (λ q. nat_eq p.0 q.0) o.answered

-- in an event with this entry, after entries of its kernel, an answer came to stand for just those of whom the entry tells one
pub record ComesAsTold (before : List Entry) (e : Entry) (o : Outcome) : Type 0 where
  pub who : (p : Pid) → is_answered p o ≡ is_some (tells p (heard p before) e)
  -- which is one process at most
  pub once : length o.answered ≤ 1
