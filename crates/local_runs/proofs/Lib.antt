pub mod Apart
pub mod Kernels
pub mod Together
-- of crates further down, for those above
pub use Rattle.theorem.proofs.Record
pub use Rattle.theorem.proofs.Start
