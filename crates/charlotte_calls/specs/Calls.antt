-- Calls and their causes of refusal.
use Rattle.std.specs.Prelude.{ℕ}
use Rattle.charlotte_calls.specs.declared.calls.Cause.{Cause}
use Rattle.charlotte_calls.specs.declared.calls.Cause.TheVariants.{NoEnd, Busy, Dead, EncloseNoEnd, EncloseBusy}
use Rattle.charlotte_calls.specs.declared.calls.Cause.TheVariants.{EncloseSame, Late, NoActivity, LinksFull, EncloseTwice}

-- the causes of a call are tested in the order of these numbers
abbrev pub cause_number : Cause → ℕ
cause_number NoEnd = 1
cause_number Busy = 2
cause_number Dead = 3
cause_number EncloseNoEnd = 4
cause_number EncloseBusy = 5
cause_number EncloseSame = 6
cause_number Late = 7
cause_number NoActivity = 8
cause_number LinksFull = 9
cause_number EncloseTwice = 10
