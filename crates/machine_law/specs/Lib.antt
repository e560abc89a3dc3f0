pub mod Fitting
pub mod Lives
pub mod Histories
pub mod Law
pub mod Sources
pub mod Actions
