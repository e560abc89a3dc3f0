-- Holder and receive of an end, as they are packed.
use Rattle.std.specs.Prelude.{ℕ}
use Rattle.charlotte_calls.specs.declared.names.Pid.{Pid}
use Rattle.charlotte_calls.specs.declared.names.Side.TheVariants.{A, B}
use Rattle.end_table.specs.declared.entry.Holder.{Holder}
use Rattle.end_table.specs.declared.entry.Holder.TheVariants.{Owner, EnclosedIn}
use Rattle.end_table.specs.declared.entry.Inward.{Inward}
use Rattle.end_table.specs.declared.entry.Inward.TheVariants as inward
use Rattle.end_table.specs.declared.held.By.{By}
use Rattle.end_table.specs.declared.held.By.TheVariants as by
use Rattle.end_table.specs.declared.held.Receive.{Receive}
use Rattle.end_table.specs.declared.held.Receive.TheVariants as receive
use Rattle.end_table.specs.declared.held.State.{State}
use Rattle.end_table.specs.declared.held.State.TheVariants as state

-- what contracts see
pub record HeldView : Type 0 where
  pub holder : Holder
  pub inward : Inward

-- who holds the end
abbrev pub by_of : State → By
by_of state.OwnerIdle = by.Owner
by_of state.OwnerPosted = by.Owner
by_of state.OwnerWithdrawing = by.Owner
by_of state.OwnerUnreported = by.Owner
by_of state.AIdle = by.A
by_of state.APosted = by.A
by_of state.AWithdrawing = by.A
by_of state.AUnreported = by.A
by_of state.BIdle = by.B
by_of state.BPosted = by.B
by_of state.BWithdrawing = by.B
by_of state.BUnreported = by.B

-- what the receive does
abbrev pub receive_of : State → Receive
receive_of state.OwnerIdle = receive.Idle
receive_of state.OwnerPosted = receive.Posted
receive_of state.OwnerWithdrawing = receive.Withdrawing
receive_of state.OwnerUnreported = receive.Unreported
receive_of state.AIdle = receive.Idle
receive_of state.APosted = receive.Posted
receive_of state.AWithdrawing = receive.Withdrawing
receive_of state.AUnreported = receive.Unreported
receive_of state.BIdle = receive.Idle
receive_of state.BPosted = receive.Posted
receive_of state.BWithdrawing = receive.Withdrawing
receive_of state.BUnreported = receive.Unreported

-- the holder, with its name
abbrev pub holder_by : By → Pid → ℕ → ℕ → Holder
holder_by by.Owner owner maker count = Owner owner
holder_by by.A owner maker count = EnclosedIn (record { link = record { maker = maker; count = count }; side = A })
holder_by by.B owner maker count = EnclosedIn (record { link = record { maker = maker; count = count }; side = B })

-- the receive, with its number
abbrev pub inward_by : Receive → ℕ → Inward
inward_by receive.Idle w = inward.Idle
inward_by receive.Posted w = inward.Posted w
inward_by receive.Withdrawing w = inward.Withdrawing w
inward_by receive.Unreported w = inward.Unreported
