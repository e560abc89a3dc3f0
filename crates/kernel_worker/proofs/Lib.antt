pub mod Each
pub mod Meetings
pub mod Going
pub mod Progress
pub mod Turning
pub mod Found
pub mod Leaving
pub mod Idle
pub mod Stopping
pub mod Crossing
-- of crates further down, for those above
pub use Rattle.kernel_turns.proofs.Together
pub use Rattle.node_runs.proofs.Fitting
pub use Rattle.node_runs.proofs.Sums
