pub mod Answered
pub mod OneView
pub mod Posting
pub mod PostedLinks
pub mod PostedClauses
pub mod Receives
pub mod Making
pub mod MadeLinks
pub mod MadeClauses
pub mod Makes
-- of crates further down, for those above
pub use Rattle.theorem_take_silent.proofs.Alike
pub use Rattle.theorem_take_silent.proofs.Allowed
pub use Rattle.theorem_take_silent.proofs.NamedAfter
pub use Rattle.theorem_take_silent.proofs.Places
