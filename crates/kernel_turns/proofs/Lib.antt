mod Runs
mod Happening
mod Beginning
mod Later
mod Marking
mod Sending
mod Taking
mod Going
mod Working
mod Playing
mod Programs
mod Stepping
mod Stepped
mod Calling
pub mod Turned
mod Amid
pub mod Starting
mod Answering
pub mod Goes
pub mod Alike
mod Sums
pub mod Left
mod Rows
-- of crates further down, for those above
pub use Rattle.program_runs.proofs.Kernels
pub use Rattle.program_runs.proofs.Record
pub use Rattle.program_runs.proofs.Together
