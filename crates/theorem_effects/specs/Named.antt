-- Which kernels an effect names.
use Rattle.std.specs.Prelude.{ℕ}
use Rattle.charlotte_calls.specs.declared.names.EndId.{EndId}
use Rattle.end_table.specs.declared.entry.Entry.{Entry}
use Rattle.kernel_effects.specs.Effect.{Effect}
pub use Rattle.kernel_named.specs.Named.{IsSentWithin}
use Rattle.kernel_named.specs.Named.{NamesBelow}
use Rattle.theorem_effects.specs.Sums.{AllSent}

-- entries name the first n kernels alone, if those before do, and so do packets, which go to such
pub record NamesWithin (n : ℕ) (f : Effect) : Type 0 where
  pub entries : (e : EndId) (y : Entry) → NamesBelow n y → NamesBelow n (f.entry e y)
  pub sent : AllSent (IsSentWithin n) f.packets
