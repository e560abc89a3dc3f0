-- Packets whose taking means nothing to the link service, and what such a taking does.
use Rattle.std.specs.Prelude.{◌≡◌, ℕ, ◌≤◌, ◌⊎◌, true, false, [], Some}
use Rattle.charlotte_calls.specs.declared.names.EndId.{EndId}
use Rattle.charlotte_packets.specs.declared.picture.MovingPicture.{MovingPicture}
use Rattle.charlotte_packets.specs.declared.picture.PictureWhat.{PictureWhat}
use Rattle.charlotte_packets.specs.declared.picture.PictureWhat.TheVariants as packet
use Rattle.end_table.specs.Table.{IfHere, IsHereAnd}
use Rattle.end_table.specs.declared.entry.Entry.{Entry}
use Rattle.theorem_effects.specs.Effect.{Effect}
use Rattle.service_lawful.specs.Consistent.{is_open}
use Rattle.service_step.specs.declared.state.End.{End}
use Rattle.theorem_effects.specs.Sums.{AllSent}
use Rattle.theorem_effects.specs.Fields.{IsNews, value_of}
use Rattle.theorem_effects.specs.Invariant.{NamesBelow}
use Rattle.theorem_take_silent.specs.Quiet.{IsQuietly, IsSentWell, tells_place}

-- an effect is quiet at a kernel, y what it keeps of each end
pub record IsStill (n : ℕ) (t : EndId → End) (y : EndId → Entry) (f : Effect) : Type 0 where
  pub entry : (e : EndId) → IsQuietly (y e) (f.entry e (y e))
  pub names : (e : EndId) → NamesBelow n (f.entry e (y e))
  pub sent : AllSent (IsSentWell n t) f.packets
  pub answers : f.answers ≡ []
  pub reports : f.reports ≡ []
  pub steps : f.steps ≡ []

-- and says nothing but what the packet said that was taken
pub record IsRepeated (t : EndId → End) (y : EndId → Entry) (q : PictureWhat) (f : Effect) : Type 0 where
  pub hints : (e : EndId) (m l : MovingPicture) → value_of (y e) ≡ Some m → value_of (f.entry e (y e)) ≡ Some l
      → (l.hint ≡ m.hint) ⊎ (IsNews e l.hint.0 l.hint.1 q × (is_open (t e) ≡ false))
  pub sent : AllSent (λ to what. (tells_place what ≡ false) ⊎ (q ≡ what)) f.packets

-- a packet that means nothing to the service and tells nothing new to the end that it is addressed to, by the entry of that end: a
-- known, forget or goneseen wherever it comes, and a want, unwant, gone or moved where the end is not here, or knows of the death
-- of its link
abbrev pub IsSilentAt : PictureWhat → Entry → Type 0
IsSilentAt (packet.Want to w at hops) x = IfHere x (λ v. v.value.dead ≡ true)
IsSilentAt (packet.Unwant to w at hops) x = IfHere x (λ v. v.value.dead ≡ true)
IsSilentAt (packet.Gone to at) x = IfHere x (λ v. v.value.dead ≡ true)
IsSilentAt (packet.Moved to at hops) x = IfHere x (λ v. v.value.dead ≡ true)
IsSilentAt (packet.Known to hops) x = Unit {0}
IsSilentAt (packet.Forget to hops) x = Unit {0}
IsSilentAt (packet.GoneSeen to) x = Unit {0}
IsSilentAt _ x = ⊥

-- a packet by which the end that it is addressed to learns where its opposite is, and no more: a moved at an end that is here, and a
-- want or unwant of a receive that the end served already
abbrev pub IsLearnedAt : PictureWhat → Entry → Type 0
IsLearnedAt (packet.Want to w at hops) x = IsHereAnd x (λ v. (v.value.dead ≡ false) × (w ≤ v.value.served))
IsLearnedAt (packet.Unwant to w at hops) x = IsHereAnd x (λ v. (v.value.dead ≡ false) × (w ≤ v.value.served))
IsLearnedAt (packet.Moved to at hops) x = IsHereAnd x (λ v. v.value.dead ≡ false)
IsLearnedAt _ x = ⊥
