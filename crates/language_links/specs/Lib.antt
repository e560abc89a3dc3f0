pub mod Acting
pub mod Claims
-- of crates further down, for those above
pub use Rattle.program_runs.specs.Law
pub use Rattle.program_runs.specs.Record
pub use Rattle.program_runs.specs.Replay
pub use Rattle.program_runs.specs.Told
