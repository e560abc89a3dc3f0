pub mod Agree
pub mod Clauses
mod Later
mod Next
pub mod Texts
pub mod Told
