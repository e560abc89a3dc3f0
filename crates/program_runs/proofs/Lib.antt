pub mod Replay
-- of crates further down, for those above
pub use Rattle.told_answers.proofs.Kernels
pub use Rattle.told_answers.proofs.Local
pub use Rattle.told_answers.proofs.Record
pub use Rattle.told_answers.proofs.Run
pub use Rattle.told_answers.proofs.Together
