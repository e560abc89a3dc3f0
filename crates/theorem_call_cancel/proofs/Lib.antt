pub mod TakenBack
pub mod SendCancels
pub mod Withdrawing
pub mod WithdrawnLinks
pub mod WithdrawnClauses
pub mod ReceiveCancels
-- of crates further down, for those above
pub use Rattle.theorem_call_send.proofs.Calm
pub use Rattle.theorem_call_send.proofs.Refused
pub use Rattle.theorem_call_send.proofs.Reports
pub use Rattle.theorem_call_send.proofs.Version
pub use Rattle.theorem_call_send.proofs.Waits
pub use Rattle.theorem_take_answer.proofs.Takings
