pub mod Local
-- of crates further down, for those above
pub use Rattle.theorem.specs.Law
pub use Rattle.theorem.specs.Record
