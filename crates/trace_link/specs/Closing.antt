-- An end comes to know of the death of its link.
use Rattle.std.specs.Prelude.{◌≡◌, ◌≢◌, ℕ, ◌<◌, true, false, ◌++◌, ◌∷◌, [], if◌then◌else◌, IfSome}
use Rattle.charlotte_calls.specs.Names.{opposite}
use Rattle.charlotte_calls.specs.declared.names.EndId.{EndId}
use Rattle.charlotte_packets.specs.declared.picture.MovingPicture.{MovingPicture}
use Rattle.charlotte_packets.specs.declared.picture.PictureWhat.{PictureWhat}
use Rattle.charlotte_packets.specs.declared.picture.PictureWhat.TheVariants as packet
use Rattle.end_table.specs.Place.{end_eq}
use Rattle.end_table.specs.declared.entry.Entry.TheVariants as entry
use Rattle.end_table.specs.declared.entry.HereView.{HereView}
use Rattle.kernel_effects.specs.Actions.{forget_packets, noticed_view}
use Rattle.kernel_sound.specs.Sound.{addressee}
use Rattle.service_step.specs.Ends.{is_living}
use Rattle.service_step.specs.declared.state.End.{End}
use Rattle.service_step.specs.declared.state.Place.TheVariants as place
use Rattle.theorem_effects.specs.Change.{Change}
use Rattle.theorem_effects.specs.Under.{IsTaken}
use Rattle.theorem_meaning.specs.Fields.{HasFields, Stand}
use Rattle.theorem_meaning.specs.Packets.{Links, values_of}
use Rattle.theorem_meaning.specs.StandsFor.{entry_at}
use Rattle.trace_calm.specs.Calm.{IsCounted}
use Rattle.trace_meaning.specs.Traces.{IsMarkRight}
use Rattle.trace_meaning.specs.Words.{IsForgetOf}

-- x knows of the death, and which other ends live and know of a death is as it was; what was destroyed is
pub record IsDying (old now : EndId → End) (x : EndId) : Type 0 where
  pub living : (e : EndId) → is_living (now e).place ≡ is_living (old e).place
  pub destroyed : (e : EndId) → (old e).place ≡ place.Destroyed → (now e).place ≡ place.Destroyed
  pub noticed : (now x).noticed ≡ true
  pub others : (e : EndId) → (x ≡ e → ⊥) → (now e).noticed ≡ (old e).noticed

-- the ends of the service, of which one knows of the death of its link
abbrev pub aware : EndId → (EndId → End) → EndId → End
aware x t e = if end_eq x e then record (t e) { noticed = true } else t e

-- end x, which is here with view v, comes to know of the death: it has another view then, each kernel of its trail is told to forget it, and kernel `at`
-- that the death was seen. No other entry changes; t and now are the ends of the service before and afterwards
pub record IsNoticing (m : Links) (c : Change) (t now : EndId → End) (x : EndId) (at : ℕ) (v : HereView) : Type 0 where
  pub its_end : v.value.end ≡ x
  pub stood : entry_at m c.kernel x ≡ entry.Here v
  pub view : HereView
  pub like : IsCounted (noticed_view v).value view.value
  pub becomes : (e : EndId) → c.entry e (entry_at m c.kernel e) ≡ (if end_eq x e then entry.Here view else entry_at m c.kernel e)
  pub packets : c.packets ≡ forget_packets c.kernel v.value ++ (at, packet.GoneSeen (opposite v.value.end)) ∷ []
  -- no packet is taken, or one for this end that is no forget and brings none
  pub unforgets : (e : EndId) (h : ℕ) → IsTaken c (IsForgetOf e h) → ⊥
  pub bare : IfSome c.taken (λ q. values_of q.1.what ≡ [])
  pub unaddressed : (e : EndId) → end_eq e x ≡ false → IfSome c.taken (λ q. end_eq e (addressee q.1.what) ≡ false)
  -- it lives, is at one place, and its opposite is destroyed
  pub lives : is_living (t x).place ≡ true
  pub dead : (t (opposite x)).place ≡ place.Destroyed
  pub alone : (st : Stand) (o : MovingPicture) → HasFields m x st o → o ≡ v.value
  pub marked : (e : EndId) (j : ℕ) (o : MovingPicture) → entry_at m j e ≡ entry.Destroyed o → (t e).place ≡ place.Destroyed
  pub nowhere : (j : ℕ) (o : HereView) → entry_at m j (opposite x) ≡ entry.Here o → ⊥
  pub low : (j to h : ℕ) → entry_at m j x ≡ entry.Left to h → j < 8
  pub site : (d : ℕ) (o : MovingPicture) → IsMarkRight m t (opposite x) d o → at ≡ d
  -- the ends of the service
  pub knows : (now x).noticed ≡ true
  pub same : (e : EndId) → (x ≡ e → ⊥) → now e ≡ t e
