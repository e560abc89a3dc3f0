pub mod Destroyed
pub mod Owned
pub mod Ends
pub mod Exits
pub mod Destroys
-- of crates further down, for those above
pub use Rattle.theorem_call_begin.proofs.Makes
pub use Rattle.theorem_call_begin.proofs.Receives
