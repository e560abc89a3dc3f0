pub mod Cancellers
pub mod ForOne
pub mod Rows
pub mod Alike
pub mod Calls
pub mod Taken
pub mod Run
pub mod Called
pub mod Local
-- of crates further down, for those above
pub use Rattle.local_runs.proofs.Kernels
pub use Rattle.local_runs.proofs.Record
pub use Rattle.local_runs.proofs.Together
