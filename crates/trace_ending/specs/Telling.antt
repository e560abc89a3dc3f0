-- An event in which ends are destroyed tells their opposites.
use Rattle.std.specs.Prelude.{◌≡◌, ℕ, ◌⊎◌, Bool, true, false, Contains}
use Rattle.charlotte_calls.specs.Names.{opposite}
use Rattle.charlotte_calls.specs.declared.names.EndId.{EndId}
use Rattle.charlotte_packets.specs.declared.picture.MovingPicture.{MovingPicture}
use Rattle.charlotte_packets.specs.declared.picture.PictureWhat.{PictureWhat}
use Rattle.charlotte_packets.specs.declared.picture.PictureWhat.TheVariants as packet
use Rattle.service_step.specs.Ends.{is_living}
use Rattle.service_step.specs.State.{Process, State}
use Rattle.service_step.specs.declared.state.End.{End}
use Rattle.theorem_effects.specs.Change.{Change}
use Rattle.theorem_effects.specs.Sums.{AllSent}
use Rattle.theorem_ends_destroyed.specs.Ending.{IsEnding}
use Rattle.theorem_meaning.specs.Fields.{At, Flying, HasFields, Stand}
use Rattle.theorem_meaning.specs.Packets.{Links}

-- a packet is a gone of an end that was destroyed at kernel k
abbrev pub IsGoneAt : ℕ → PictureWhat → Type 0
IsGoneAt k (packet.Gone to at) = at ≡ k
IsGoneAt k _ = ⊥

-- an end that is destroyed with this value was here or came with the packet that is taken, and had no other fields. Unless it knew of the death of its
-- link, it sends a gone to its hint; t are the ends of the service before
pub record IsTold (w : Links) (c : Change) (t : EndId → End) (e : EndId) (value : MovingPicture) : Type 0 where
  pub lives : is_living (t e).place ≡ true
  pub alone : (at : Stand) (m : MovingPicture) → HasFields w e at m → ((at ≡ At c.kernel) ⊎ (at ≡ Flying)) × (m ≡ value)
  pub gone : value.dead ≡ false → Contains c.packets (value.hint.0, packet.Gone (opposite e) c.kernel)

-- each end that is destroyed is so, and nothing else is sent
pub record AreTold {ended : EndId → Bool} {w : Links} {c : Change} {s : State} {t : EndId → End} {g : ℕ → Process} (x : IsEnding ended w c s t g) : Type 0 where
  pub sent : AllSent (λ to what. IsGoneAt c.kernel what) c.packets
  pub each : (e : EndId) (on : ended e ≡ true) → IsTold w c s.ends e (x.are e on).fields
