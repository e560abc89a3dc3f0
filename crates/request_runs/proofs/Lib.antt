pub mod Whole
pub mod Events
pub mod Ways
pub mod Changing
pub mod Told
pub mod Followed
-- of crates further down, for those above
pub use Rattle.process_changes.proofs.Asking
pub use Rattle.process_changes.proofs.AtEnd
pub use Rattle.process_changes.proofs.Away
pub use Rattle.process_changes.proofs.Counting
pub use Rattle.process_changes.proofs.Growing
pub use Rattle.process_changes.proofs.Held
pub use Rattle.process_changes.proofs.Numbering
pub use Rattle.process_changes.proofs.Numbers
pub use Rattle.process_changes.proofs.Steps
pub use Rattle.process_changes.proofs.ToldAt
