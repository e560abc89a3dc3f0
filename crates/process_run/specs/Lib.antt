pub mod States
pub mod Ends
pub mod Deaths
pub mod Actions
pub mod Reports
pub mod Runs
