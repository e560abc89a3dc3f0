pub mod Tracks
pub mod Clauses
pub mod Aside
pub mod One
pub mod Open
-- of crates further down, for those above
pub use Rattle.theorem_effects.proofs.Allowed
pub use Rattle.theorem_effects.proofs.Aside as TheoremEffectsAside
pub use Rattle.theorem_effects.proofs.Ends
pub use Rattle.theorem_effects.proofs.Happens
pub use Rattle.theorem_effects.proofs.Lists
pub use Rattle.theorem_effects.proofs.Packets
pub use Rattle.theorem_effects.proofs.Values
