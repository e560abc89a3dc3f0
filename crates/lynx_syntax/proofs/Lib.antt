pub use Rattle.lynx_grammar.proofs.Laws
pub use Rattle.lynx_grammar.proofs.Exact
