pub mod Start
-- of crates further down, for those above
pub use Rattle.theorem.proofs.Record
pub use Rattle.theorem.proofs.Run
pub use Rattle.theorem.proofs.Start as TheoremStart
