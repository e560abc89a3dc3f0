-- Room that an event has as it begins, and as it closes.
use Rattle.std.specs.Prelude.{◌≡◌, ℕ, ◌+◌, ◌≤◌, List, [], ◌∷◌, All, length, vec_len, vec_capacity}
use Rattle.charlotte_calls.specs.declared.calls.Report.{Report}
use Rattle.charlotte_calls.specs.declared.names.Pid.{Pid}
use Rattle.charlotte_packets.specs.declared.work.Room.{Room}
use Rattle.indexmap.specs.IndexSet.{spare}
use Rattle.kernel_process.specs.declared.event.Event.{Event}
use Rattle.kernel_process.specs.declared.process.ControlBlock.{ControlBlock}
use Rattle.kernel_step.specs.Progress.{HasRoom}

-- each process has room for so many reports
abbrev pub HaveSpare : ℕ → List ControlBlock → Type 0
HaveSpare n xs = All (λ x. n ≤ x.reports.fits) xs

-- each process has room for these reports, if there are any
abbrev pub HaveSpareFor : List (Pid × Report) → List ControlBlock → Type 0
HaveSpareFor [] xs = Unit {0}
HaveSpareFor (r ∷ rs) xs = HaveSpare (length (r ∷ rs)) xs

-- each process has room for one more end on which an activity is started
abbrev pub HavePlace : List ControlBlock → Type 0
HavePlace xs = All (λ x. 1 ≤ spare x.active) xs

-- The event has added nothing yet. Its lists have this room, and besides room for what its reports and answers bring: each an answer
-- that comes to stand, and each report a step; and for so many answers more.
pub record IsBegun (r : Room) (own : ℕ) (event : Event) : Type 0 where
  pub packets : event.work.packets.items ≡ []
  pub reports : event.work.reports.items ≡ []
  pub answers : event.work.answers.items ≡ []
  pub steps : event.work.steps.items ≡ []
  pub room : HasRoom (record r { steps = r.steps + r.reports }) event.work
  pub nobody : event.answered.items ≡ []
  pub places : r.answers + r.reports + own ≤ vec_capacity event.answered

-- The reports and answers of the event can reach their processes, and then there is room for a more answers and s more steps.
pub record CanClose (a s : ℕ) (event : Event) : Type 0 where
  pub nobody : event.answered.items ≡ []
  pub answered : length event.work.answers.items + length event.work.reports.items + a ≤ vec_capacity event.answered
  pub steps : vec_len event.work.steps + length event.work.reports.items + s ≤ vec_capacity event.work.steps
