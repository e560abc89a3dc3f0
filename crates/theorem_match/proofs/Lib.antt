pub mod Carrying
pub mod Values
pub mod Sending
pub mod SentRight
pub mod SentLinks
pub mod Match
pub mod Wants
pub mod Sends
-- of crates further down, for those above
pub use Rattle.theorem_take_want.proofs.Alike
pub use Rattle.theorem_take_want.proofs.Places
pub use Rattle.theorem_take_want.proofs.Sound
pub use Rattle.theorem_take_want.proofs.World
