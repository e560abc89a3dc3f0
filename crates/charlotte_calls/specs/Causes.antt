-- When a call is refused, and for which cause: one table, for kernels and for the service. It goes by what the caller sees of
-- each end. Only the cause of a Wait is not here: a kernel has a list of the caller's ends, and the service has none.
use Rattle.std.specs.Prelude.{ℕ, Bool, true, false, nat_le, ◌&&◌, not, if◌then◌else◌, Option, Some, None, List, [], ◌∷◌}
use Rattle.std.specs.List.{list_any}
use Rattle.charlotte_calls.specs.EndEq.{same_link, names_twice}
use Rattle.charlotte_calls.specs.declared.calls.Call.{Call}
use Rattle.charlotte_calls.specs.declared.calls.Call.TheVariants as call
use Rattle.charlotte_calls.specs.declared.calls.Cause.{Cause}
use Rattle.charlotte_calls.specs.declared.calls.Cause.TheVariants as cause
use Rattle.charlotte_calls.specs.declared.names.EndId.{EndId}
use Rattle.charlotte_calls.specs.declared.names.Way.{Way}
use Rattle.charlotte_calls.specs.declared.names.Way.TheVariants as way

-- how far a send or a receive has come
pub data Activity : Type 0 where
  Idle : Activity
  -- started, and it may still be taken back
  Started : Activity
  -- started, and its message was matched: it can't be taken back any more
  Matched : Activity
  -- over, and its report was not given yet
  Unreported : Activity

abbrev pub is_idle : Activity → Bool
is_idle Idle = true
is_idle Started = false
is_idle Matched = false
is_idle Unreported = false

abbrev pub is_started : Activity → Bool
is_started Idle = false
is_started Started = true
is_started Matched = true
is_started Unreported = false

abbrev pub is_unreported : Activity → Bool
is_unreported Idle = false
is_unreported Started = false
is_unreported Matched = false
is_unreported Unreported = true

-- a Cancel comes too late. An unreported activity that is over since its link died is one of an end that is dead, and that is
-- the cause of its Cancel, since it is tested before
abbrev pub is_late : Activity → Bool
is_late Idle = false
is_late Started = false
is_late Matched = true
is_late Unreported = true

-- what a process sees of an end
pub record Seen : Type 0 where
  -- it owns the end
  pub owned : Bool
  -- its send and its receive
  pub outward : Activity
  pub inward : Activity
  -- the death of its link was noticed at it
  pub dead : Bool

abbrev pub activity : Way → Seen → Activity
activity way.Outward x = x.outward
activity way.Inward x = x.inward

-- an activity on it is started or unreported
abbrev pub is_busy : Seen → Bool
is_busy x = not (is_idle x.outward && is_idle x.inward)

-- how many links a kernel may make
abbrev pub link_limit : ℕ
link_limit = 65536

-- the causes of a Make, each with its test, as below: the caller's kernel has made so many links
abbrev pub make_causes : ℕ → List (Bool × Cause)
make_causes made = (nat_le link_limit made, cause.LinksFull) ∷ []

-- the causes of a Destroy
abbrev pub destroy_causes : Seen → List (Bool × Cause)
destroy_causes x = (not x.owned, cause.NoEnd) ∷ []

-- the causes of a Send
abbrev pub send_causes : (EndId → Seen) → EndId → List EndId → List (Bool × Cause)
send_causes sees on xs =
    (not (sees on).owned, cause.NoEnd)
    ∷ (not (is_idle (sees on).outward), cause.Busy)
    ∷ ((sees on).dead, cause.Dead)
    ∷ (list_any (λ x. not (sees x).owned) xs, cause.EncloseNoEnd)
    ∷ (list_any (λ x. is_busy (sees x)) xs, cause.EncloseBusy)
    ∷ (list_any (same_link on) xs, cause.EncloseSame)
    ∷ (names_twice xs, cause.EncloseTwice)
    ∷ []

-- the causes of a Receive
abbrev pub receive_causes : Seen → List (Bool × Cause)
receive_causes x = (not x.owned, cause.NoEnd) ∷ (not (is_idle x.inward), cause.Busy) ∷ (x.dead, cause.Dead) ∷ []

-- the causes of a Cancel
abbrev pub cancel_causes : Way → Seen → List (Bool × Cause)
cancel_causes w x =
    (not x.owned, cause.NoEnd)
    ∷ (x.dead, cause.Dead)
    ∷ (is_late (activity w x), cause.Late)
    ∷ (is_idle (activity w x), cause.NoActivity)
    ∷ []

-- the causes of a call other than Wait, in the order of their numbers: `sees` is what the caller sees of each end, and its kernel
-- has made so many links
abbrev pub causes_of : (EndId → Seen) → ℕ → Call → List (Bool × Cause)
causes_of sees made call.Make = make_causes made
causes_of sees made (call.Destroy on) = destroy_causes (sees on)
causes_of sees made (call.Send on bytes xs) = send_causes sees on xs
causes_of sees made (call.Receive on) = receive_causes (sees on)
causes_of sees made (call.Cancel on w) = cancel_causes w (sees on)
causes_of sees made call.Wait = []
causes_of sees made (call.Print bytes) = []
causes_of sees made call.Exit = []

-- the first of some tests that holds
abbrev pub first_of : List (Bool × Cause) → Option Cause
first_of [] = None
first_of (t ∷ ts) = if t.0 then Some t.1 else first_of ts

-- the first cause that holds of a call other than Wait
abbrev pub first_cause : (EndId → Seen) → ℕ → Call → Option Cause
first_cause sees made c = first_of (causes_of sees made c)
