pub mod Requests
pub mod Views
pub mod Phases
pub mod Links
pub mod Invariant
