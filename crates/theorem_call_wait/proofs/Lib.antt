pub mod Refused
pub mod Calm
pub mod Waits
pub mod Rested
pub mod Given
pub mod Reports
-- of crates further down, for those above
pub use Rattle.theorem_effects.proofs.Allowed
pub use Rattle.theorem_effects.proofs.Aside
pub use Rattle.theorem_effects.proofs.Ends
pub use Rattle.theorem_effects.proofs.Happens
pub use Rattle.theorem_effects.proofs.Lists
pub use Rattle.theorem_effects.proofs.NamedAfter
pub use Rattle.theorem_effects.proofs.NamedParts
pub use Rattle.theorem_effects.proofs.Packets
pub use Rattle.theorem_effects.proofs.Sound
pub use Rattle.theorem_effects.proofs.Sums
pub use Rattle.theorem_effects.proofs.Values
