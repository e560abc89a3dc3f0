pub mod Aheads
pub mod Made
pub mod MadeStatements
pub mod Lengths
pub mod Printable
