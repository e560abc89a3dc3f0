pub mod Run
pub mod Nodes
-- of crates further down, for those above
pub use Rattle.kernel_worker.specs.Ends
pub use Rattle.kernel_worker.specs.Net
pub use Rattle.node_start.specs.Homes
pub use Rattle.trace_law.specs.Record
