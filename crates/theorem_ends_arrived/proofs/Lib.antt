pub mod Emptied
pub mod Among
pub mod Coming
pub mod Landed
pub mod Values
pub mod Moves
pub mod Closes
pub mod Tells
pub mod Owned
pub mod Comes
-- of crates further down, for those above
pub use Rattle.theorem_take_gone.proofs.Dropped
pub use Rattle.theorem_take_gone.proofs.Freed
pub use Rattle.theorem_take_gone.proofs.Gone
pub use Rattle.theorem_take_gone.proofs.Meets
pub use Rattle.theorem_take_gone.proofs.Notices
pub use Rattle.theorem_take_gone.proofs.Swap
pub use Rattle.theorem_take_gone.proofs.Turned
