pub mod Packets
pub mod StandsFor
pub mod Fields
pub mod Invariant
-- of crates further down, for those above
pub use Rattle.kernel_world.specs.Run
pub use Rattle.kernel_world.specs.World
