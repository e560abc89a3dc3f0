-- What an event must do for chains to an end to lead on afterwards.
use Rattle.std.specs.Prelude.{◌≡◌, ℕ, ◌≤◌, ◌⊎◌, Some, Contains}
use Rattle.charlotte_calls.specs.declared.names.EndId.{EndId}
use Rattle.charlotte_packets.specs.declared.picture.MovingPicture.{MovingPicture}
use Rattle.charlotte_packets.specs.declared.picture.Picture.{Picture}
use Rattle.theorem_effects.specs.Change.{Change}
use Rattle.theorem_effects.specs.Packets.{Links, values_of}
use Rattle.theorem_effects.specs.StandsFor.{entry_at}
use Rattle.trace_meaning.specs.Words.{HasChain, LeadsOn}

-- chains to x from so many hops or more lead on after an event, by which links w became u
pub record IsLeading (w u : Links) (c : Change) (x : EndId) (least : ℕ) : Type 0 where
  -- each entry stays, or where a chain led on, another leads to the end from there
  pub entry : (k h : ℕ) → least ≤ h → LeadsOn w x k (HasChain u x) h (entry_at w k x)
      → (entry_at u k x ≡ entry_at w k x) ⊎ HasChain u x k h
  -- where the end was brought to, it is, or a chain leads on
  pub lands : (from : ℕ) (q : Picture) (m : MovingPicture) → c.taken ≡ Some (from, q) → Contains (values_of q.what) m → m.end ≡ x
      → HasChain u x c.kernel m.hops
