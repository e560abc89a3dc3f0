-- Events by which nothing is erased: entries stay but for counts, and packets are passed on, or ask for a receive of an end that is here.
use Rattle.std.specs.Prelude.{◌≡◌, ℕ, ◌≤◌, ◌⊎◌, false, [], IfSome}
use Rattle.charlotte_calls.specs.Names.{opposite}
use Rattle.charlotte_calls.specs.declared.names.EndId.{EndId}
use Rattle.charlotte_packets.specs.declared.picture.MovingPicture.{MovingPicture}
use Rattle.end_table.specs.declared.entry.Entry.TheVariants as entry
use Rattle.end_table.specs.declared.entry.HereView.{HereView}
use Rattle.service_step.specs.declared.state.End.{End}
use Rattle.trace_events.specs.Change.{Change}
use Rattle.trace_events.specs.Sums.{AllSent}
use Rattle.trace_events.specs.Under.{IsTaken}
use Rattle.theorem_meaning.specs.Packets.{Links, values_of}
use Rattle.theorem_meaning.specs.StandsFor.{entry_at}
use Rattle.trace_calm.specs.Calm.{IsPassedOn, IsSteadily, IsTrueAsk}
use Rattle.trace_meaning.specs.Words.{HasChain, IsForgetOf, IsGoneFrom, IsGoneSeen, IsKnownOf, IsMovedTo, IsOnTrack}

-- by such an event links w become u; t are the ends of the service before it
pub record IsSteady (w u : Links) (c : Change) (t : EndId → End) : Type 0 where
  pub entries : (k : ℕ) (e : EndId) → IsSteadily (entry_at w k e) (entry_at u k e)
  pub bare : IfSome c.taken (λ q. values_of q.1.what ≡ [])
  pub sent_bare : AllSent (λ to what. values_of what ≡ []) c.packets
  pub sent : AllSent (λ to what. IsPassedOn c what ⊎ IsTrueAsk w what) c.packets
  -- the packet that is taken does not matter where it comes, or it stays on the track of its end
  pub known : (e : EndId) (v : HereView) → entry_at w c.kernel e ≡ entry.Here v → (t e).noticed ≡ false → IsTaken c (IsKnownOf e v.value.hops) → ⊥
  pub forget : (e : EndId) (to h g : ℕ) → entry_at u c.kernel e ≡ entry.Left to h → IsTaken c (IsForgetOf e g) → h ≤ g → ⊥
  pub seen : (e : EndId) (m : MovingPicture) → entry_at u c.kernel e ≡ entry.Destroyed m → IsTaken c (IsGoneSeen e) → ⊥
  pub moved : (e : EndId) (k : ℕ) (v : HereView) → entry_at w k e ≡ entry.Here v → IsTaken c (IsMovedTo (opposite e) k v.value.hops)
      → HasChain u (opposite e) c.kernel v.value.hint.1
      → IsOnTrack u (opposite e) v.value.hint.1 (IsMovedTo (opposite e) k v.value.hops)
  pub gone : (e : EndId) (d : ℕ) (m : MovingPicture) → IsTaken c (IsGoneFrom (opposite e) d) → HasChain u (opposite e) c.kernel m.hint.1
      → IsOnTrack u (opposite e) m.hint.1 (IsGoneFrom (opposite e) d)
