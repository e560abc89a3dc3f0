pub mod Courses
pub mod Letters
pub mod Events
pub mod Nodes
pub mod Turns
pub mod Amid
pub mod Left
pub mod Goes
-- of crates further down, for those above
pub use Rattle.program_runs.specs.Local
pub use Rattle.program_runs.specs.Record
pub use Rattle.program_runs.specs.Replay
pub use Rattle.program_runs.specs.Told
