pub mod Owners
pub mod Invariant
pub mod Hearing
pub mod Steps
-- of crates further down, for those above
pub use Rattle.entry_steps.specs.Entries
pub use Rattle.entry_steps.specs.Law
pub use Rattle.entry_steps.specs.Record
pub use Rattle.entry_steps.specs.Told
pub use Rattle.request_acts.specs.Acted
pub use Rattle.request_acts.specs.Claimed
pub use Rattle.request_acts.specs.Ends as ProcessSoundEnds
pub use Rattle.request_acts.specs.Packets
pub use Rattle.request_acts.specs.Processes
pub use Rattle.request_acts.specs.Told as ProcessSoundTold
pub use Rattle.request_runs.specs.Acting
pub use Rattle.request_runs.specs.Asking
pub use Rattle.request_runs.specs.AtEnd
pub use Rattle.request_runs.specs.Changes
pub use Rattle.request_runs.specs.Claims
pub use Rattle.request_runs.specs.Ends
pub use Rattle.request_runs.specs.Followed
pub use Rattle.request_runs.specs.Law as RequestRunsLaw
pub use Rattle.request_runs.specs.Ledgers
pub use Rattle.request_runs.specs.Replay
pub use Rattle.request_runs.specs.Reports
pub use Rattle.request_runs.specs.Sides
pub use Rattle.request_runs.specs.States
pub use Rattle.request_runs.specs.Telling
pub use Rattle.request_runs.specs.Told as RequestRunsTold
pub use Rattle.service_custody.specs.Coming
pub use Rattle.service_custody.specs.Deaths
pub use Rattle.service_custody.specs.Moves
pub use Rattle.service_custody.specs.Phases
