pub mod Told
pub mod Standing
-- of crates further down, for those above
pub use Rattle.local_runs.specs.Law
pub use Rattle.local_runs.specs.Local
pub use Rattle.local_runs.specs.Record
