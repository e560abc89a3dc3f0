pub mod Hasty
pub mod Counting
pub mod AtEnds
pub mod Ledgers
pub mod ProcessSteps
pub mod Sides
pub mod ServiceSteps
pub mod CallSteps
pub mod Along
-- of crates further down, for those above
pub use Rattle.followed_links.proofs.AtEnd
pub use Rattle.followed_links.proofs.Calling
pub use Rattle.followed_links.proofs.Claims
pub use Rattle.followed_links.proofs.Counting as ProcessChangesCounting
pub use Rattle.followed_links.proofs.Entries as FollowedLinksEntries
pub use Rattle.followed_links.proofs.EntryStepsEntries as Entries
pub use Rattle.followed_links.proofs.Events
pub use Rattle.followed_links.proofs.Every
pub use Rattle.followed_links.proofs.Fleets
pub use Rattle.followed_links.proofs.Following
pub use Rattle.followed_links.proofs.Given
pub use Rattle.followed_links.proofs.Numbers
pub use Rattle.followed_links.proofs.Passing
pub use Rattle.followed_links.proofs.Services
pub use Rattle.followed_links.proofs.Starting
pub use Rattle.followed_links.proofs.Steps
pub use Rattle.followed_links.proofs.Told
pub use Rattle.followed_links.proofs.ToldAt
pub use Rattle.followed_links.proofs.Weaving
pub use Rattle.followed_links.proofs.Whole
