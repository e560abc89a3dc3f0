pub mod Fleets
pub mod Replays
pub mod Callers
pub mod Making
pub mod Recorded
pub mod Alone
pub mod Paused
pub mod One
pub mod Acted
pub mod Given
pub mod Own
pub mod Worked
pub mod Claims
-- of crates further down, for those above
pub use Rattle.process_sound.proofs.Every
pub use Rattle.process_sound.proofs.Runs
