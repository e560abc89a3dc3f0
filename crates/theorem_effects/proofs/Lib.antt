pub mod Lists
pub mod Packets
pub mod Sums
pub mod Addressees
pub mod Aside
pub mod Happens
pub mod Ends
pub mod Allowed
pub mod Values
pub mod NamedParts
pub mod NamedRows
pub mod NamedCalls
pub mod NamedAfter
pub mod Clear
pub mod ClearCalls
pub mod Passed
-- of crates further down, for those above
pub use Rattle.kernel_effects.proofs.Uses
pub use Rattle.kernel_outcomes.proofs.Events
pub use Rattle.kernel_outcomes.proofs.Sound
pub use Rattle.theorem_meaning.proofs.Ends as TheoremMeaningEnds
pub use Rattle.theorem_meaning.proofs.Frame
pub use Rattle.theorem_meaning.proofs.Goes
pub use Rattle.theorem_meaning.proofs.Plain
pub use Rattle.theorem_meaning.proofs.Sums as TheoremMeaningSums
