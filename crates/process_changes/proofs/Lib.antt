pub mod Numbers
pub mod Places
pub mod Due
pub mod Acting
pub mod Slices
pub mod Telling
pub mod Steps
pub mod Asking
pub mod Counting
pub mod Held
pub mod AtEnd
pub mod ToldAt
pub mod Away
pub mod Growing
-- of crates further down, for those above
pub use Rattle.process_ends.proofs.Numbering
