pub mod Arrived
pub mod UnderWay
pub mod UnderWayLinks
pub mod UnderWayIssuers
pub mod ArrivedAlong
pub mod UnderWayRun
pub mod UnderWayCarried
pub mod Whole
-- of crates further down, for those above
pub use Rattle.lost_ends.proofs.Given
