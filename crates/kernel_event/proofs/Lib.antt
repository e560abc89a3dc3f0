pub mod ActsParts
pub mod Behind
pub mod Brought
pub mod Away
pub mod CarriedValues
pub mod Prefixed
