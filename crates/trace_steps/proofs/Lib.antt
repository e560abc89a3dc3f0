pub mod Same
pub mod Words
pub mod Destroys
pub mod Steps
-- of crates further down, for those above
pub use Rattle.trace_link.proofs.Make
pub use Rattle.trace_link.proofs.Notice
