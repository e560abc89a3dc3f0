-- What a process keeps where it asks a call.
use Rattle.std.specs.Prelude.{◌≡◌, ℕ, List, ◌∷◌, ⊤}
use Rattle.charlotte_calls.specs.declared.calls.Call.{Call}
use Rattle.charlotte_calls.specs.declared.calls.Call.TheVariants as call
use Rattle.charlotte_calls.specs.declared.names.EndId.{EndId}
use Rattle.charlotte_calls.specs.declared.names.Way.TheVariants as way
use Rattle.charlotte_calls.specs.declared.program.Next.{Next}
use Rattle.charlotte_calls.specs.declared.program.Next.TheVariants as next
use Rattle.lynx_packets.specs.Spelling.{spelling}
use Rattle.end_protocol.specs.declared.kept.Kept.{Kept}
use Rattle.end_protocol.specs.declared.messages.Message.{Message}
use Rattle.end_protocol.specs.Going.{enclosed}
use Rattle.process_run.specs.States.{State}
use Rattle.process_run.specs.States as process
use Rattle.process_changes.specs.Changes.{IsHeld}

-- the first message of its queue is sent on an end that it holds
pub record IsSending (s : State) (x : EndId) (bytes : List ℕ) (xs : List EndId) : Type 0 where
  pub number : ℕ
  pub kept : Kept
  pub message : Message
  pub rest : List Message
  pub asked : s.asked ≡ process.Send number
  pub held : IsHeld number x kept s.places
  pub first : kept.queue ≡ message ∷ rest
  pub spelled : bytes ≡ spelling message.packet
  pub encloses : xs ≡ enclosed s.version message

-- a receive is asked, or a Cancel of it, on an end that it holds
pub record IsReceiving (s : State) (x : EndId) : Type 0 where
  pub number : ℕ
  pub kept : Kept
  pub asked : s.asked ≡ process.Receive number
  pub held : IsHeld number x kept s.places

pub record IsCancelling (s : State) (x : EndId) : Type 0 where
  pub number : ℕ
  pub kept : Kept
  pub asked : s.asked ≡ process.Cancel number
  pub held : IsHeld number x kept s.places

-- the process asked this call
abbrev pub IsCallOf : State → Call → Type 0
IsCallOf s call.Make = (thread : ℕ) × (s.asked ≡ process.Make thread)
IsCallOf s (call.Print bytes) = (thread : ℕ) × (s.asked ≡ process.Print thread)
IsCallOf s (call.Destroy x) = s.asked ≡ process.Destroy
IsCallOf s (call.Send x bytes xs) = IsSending s x bytes xs
IsCallOf s (call.Receive x) = IsReceiving s x
IsCallOf s (call.Cancel x w) = IsCancelling s x × (w ≡ way.Inward)
IsCallOf s call.Wait = s.asked ≡ process.Wait
IsCallOf s call.Exit = s.asked ≡ process.Exit

-- what it keeps after a step fits what it did
abbrev pub IsAsking : State → Next → Type 0
IsAsking s (next.Ask c) = IsCallOf s c
IsAsking s next.Pause = s.asked ≡ process.Nothing
IsAsking s next.Ended = ⊤
