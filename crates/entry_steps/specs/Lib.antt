pub mod Entries
-- of crates further down, for those above
pub use Rattle.told_answers.specs.Law
pub use Rattle.told_answers.specs.Record
pub use Rattle.told_answers.specs.Told
