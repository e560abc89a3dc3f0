pub mod Known
pub mod After
pub mod Active
pub mod NewLinks
pub mod Compared
