pub mod Awake
pub mod Rounds
pub mod Ends
-- of crates further down, for those above
pub use Rattle.kernel_turns.specs.Letters
pub use Rattle.kernel_turns.specs.Local
pub use Rattle.kernel_turns.specs.Nodes
pub use Rattle.kernel_turns.specs.Replay
pub use Rattle.kernel_turns.specs.Told
pub use Rattle.kernel_turns.specs.declared.base.Orders
pub use Rattle.kernel_turns.specs.declared.node.Node
pub use Rattle.kernel_turns.specs.declared.watch.NoWatch
pub use Rattle.node_runs.specs.Net
