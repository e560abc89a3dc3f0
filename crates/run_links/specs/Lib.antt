pub mod Linked
-- of crates further down, for those above
pub use Rattle.carried_ends.specs.Claimed
pub use Rattle.kernel_turns.specs.Letters
pub use Rattle.kernel_turns.specs.Nodes
