pub mod Returned
pub mod Returns
pub mod Backs
pub mod Takings
-- of crates further down, for those above
pub use Rattle.theorem_ends_arrived.proofs.Gone
pub use Rattle.theorem_take_want.proofs.Hearing
pub use Rattle.theorem_take_want.proofs.Taking
pub use Rattle.theorem_take_want.proofs.Unwanting
pub use Rattle.theorem_take_want.proofs.Wanting
