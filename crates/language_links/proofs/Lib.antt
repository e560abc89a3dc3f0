pub mod Worked
-- of crates further down, for those above
pub use Rattle.program_runs.proofs.Run
