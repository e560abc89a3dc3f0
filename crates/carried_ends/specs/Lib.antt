-- of crates further down, for those above
pub use Rattle.lost_ends.specs.Acted
pub use Rattle.lost_ends.specs.Acting
pub use Rattle.lost_ends.specs.Claimed
