-- What an end that is here does as it hears where its opposite is.
use Rattle.std.specs.Prelude.{◌≡◌, ℕ, ◌<◌, ◌≤◌, ◌⊎◌, true, false, Contains}
use Rattle.charlotte_calls.specs.Names.{opposite}
use Rattle.charlotte_calls.specs.declared.names.EndId.{EndId}
use Rattle.charlotte_packets.specs.declared.picture.PictureWhat.{PictureWhat}
use Rattle.charlotte_packets.specs.declared.picture.PictureWhat.TheVariants as packet
use Rattle.end_table.specs.Entries.{is_news, learned}
use Rattle.end_table.specs.Place.{end_eq}
use Rattle.end_table.specs.declared.entry.Entry.TheVariants as entry
use Rattle.end_table.specs.declared.entry.HereView.{HereView}
use Rattle.kernel_effects.specs.Effect.{Effect}
use Rattle.theorem_effects.specs.Sums.{AllSent}
use Rattle.theorem_meaning.specs.Fields.{IsAsking}
use Rattle.theorem_meaning.specs.Packets.{IsUnderWay, Links}
use Rattle.theorem_meaning.specs.StandsFor.{entry_at}
use Rattle.trace_hearing.specs.Calm.{IsSteadily}
use Rattle.trace_hearing.specs.Hearing.{IsTaught}
use Rattle.trace_meaning.specs.Words.{IsMovedTo}

-- a packet tells the opposite of an end with this view where it is, at kernel k, or that its opposite was known with so many hops
abbrev pub IsLiveOf : ℕ → HereView → ℕ → PictureWhat → Type 0
IsLiveOf k v hops (packet.Want to n j h) = (to ≡ opposite v.value.end) × (j ≡ k) × (h ≡ v.value.hops)
IsLiveOf k v hops (packet.Unwant to n j h) = (to ≡ opposite v.value.end) × (j ≡ k) × (h ≡ v.value.hops)
IsLiveOf k v hops (packet.Unwanted to n j h) = (to ≡ opposite v.value.end) × (j ≡ k) × (h ≡ v.value.hops)
IsLiveOf k v hops (packet.Moved to j h) = (to ≡ opposite v.value.end) × (j ≡ k) × (h ≡ v.value.hops)
IsLiveOf k v hops (packet.Known to h) = (to ≡ opposite v.value.end) × (h ≡ hops)
IsLiveOf k v hops _ = ⊥

-- end x is at kernel k with view v, and packet q tells it that its opposite was at a kernel with so many hops. By effect f its hint is learned, and
-- if it rises, an end with a trail tells its place there. What it is asked for afterwards it was asked for, or q asks for it
pub record IsLearned (l : Links) (k : ℕ) (x : EndId) (v : HereView) (at hops : ℕ) (q : PictureWhat) (f : Effect) : Type 0 where
  pub view : HereView
  pub own : f.entry x (entry.Here v) ≡ entry.Here view
  pub like : IsTaught v.value view.value
  pub hint : view.value.hint ≡ (learned at hops v.value).hint
  pub others : (e : EndId) → end_eq x e ≡ false → IsSteadily (entry_at l k e) (f.entry e (entry_at l k e))
  pub served : v.value.served ≤ view.value.served
  pub wanted : (n : ℕ) → view.value.want ≡ n → 0 < n → (v.value.want ≡ n) ⊎ ((v.value.served < n) × IsUnderWay l (IsAsking x n at hops))
  pub sent : AllSent (λ to what. IsLiveOf k v hops what) f.packets
  pub resent : is_news v.value hops ≡ true → (v.value.trail ≡ 0 → ⊥) → Contains f.packets (at, packet.Moved (opposite x) k v.value.hops)
  pub answered : (e : EndId) (j h : ℕ) → IsMovedTo (opposite e) j h q → Contains f.packets (j, packet.Known e h)
