pub mod Returning
pub mod Backs
-- of crates further down, for those above
pub use Rattle.theorem_match.proofs.Sends
pub use Rattle.theorem_match.proofs.Wants
