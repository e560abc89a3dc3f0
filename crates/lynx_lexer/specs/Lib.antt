pub mod Answers
pub mod Bytes
pub mod Fronts
pub mod Lexemes
pub mod Pieces
pub mod Slots
pub mod Source
pub mod Words
