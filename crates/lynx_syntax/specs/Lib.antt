pub use Rattle.lynx_tree.specs.Trees
pub use Rattle.lynx_tree.specs.Grammar
pub use Rattle.lynx_tree.specs.Faults
pub use Rattle.lynx_tree.specs.Printing
pub use Rattle.lynx_tree.specs.Answers
