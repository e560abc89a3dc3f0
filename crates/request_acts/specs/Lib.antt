pub mod Acted
pub mod Claimed
-- of crates further down, for those above
pub use Rattle.process_sound.specs.Ends
pub use Rattle.process_sound.specs.Packets
pub use Rattle.process_sound.specs.Processes
pub use Rattle.process_sound.specs.Told
