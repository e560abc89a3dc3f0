-- A gone at an end that knows of the death already: the mark is told that the death was seen, and all that is true of the traces of ends stays.
use Rattle.std.proofs.Common.{◌≡◌, inl, inr, ℕ, true, List, [], ◌∷◌, length, Contains, refl, sym, ap, subst, ◌∙◌, true≢false}
use Rattle.std.proofs.lemmas.List.Elements.{All-contains}
use Rattle.charlotte_calls.specs.Names.{opposite}
use Rattle.charlotte_calls.specs.declared.names.EndId.{EndId}
use Rattle.charlotte_calls.specs.declared.names.Pid.{Pid}
use Rattle.charlotte_packets.specs.declared.picture.Picture.{Picture}
use Rattle.charlotte_packets.specs.declared.picture.PictureWhat.{PictureWhat}
use Rattle.charlotte_packets.specs.declared.picture.PictureWhat.TheVariants as packet
use Rattle.end_table.specs.Table.{IsOfEnd}
use Rattle.end_table.specs.declared.entry.Entry.{Entry}
use Rattle.end_table.specs.declared.entry.Entry.TheVariants as entry
use Rattle.end_table.specs.declared.entry.HereView.{HereView}
use Rattle.kernel_effects.specs.Effect.{Effect, sent}
use Rattle.kernel_effects.specs.Rows.{gone_effect, row_effect}
use Rattle.kernel_world.specs.World.{Takes, World, happens}
use Rattle.service_lawful.specs.Consistent.{is_open}
use Rattle.service_step.specs.Ends.{is_living}
use Rattle.service_step.specs.State.{State}
use Rattle.service_step.specs.declared.state.Place.TheVariants as place
use Rattle.trace_events.proofs.Allowed.{takes-allowed}
use Rattle.trace_events.proofs.TheoremEffectsAside.{entry-same, fields-same}
use Rattle.trace_events.proofs.Lists.{first, only-there}
use Rattle.trace_events.specs.Change.{Change, Changes, Happens}
use Rattle.trace_events.specs.Events.{taking}
use Rattle.trace_events.specs.Under.{IsSent, IsTaken}
use Rattle.theorem_meaning.proofs.Ends.{opposite-twice}
use Rattle.theorem_meaning.proofs.Plain.{view-same}
use Rattle.theorem_meaning.specs.Fields.{At, value_of}
use Rattle.theorem_meaning.specs.Invariant.{Invariant, IsPacketRight}
use Rattle.theorem_meaning.specs.Packets.{Links, links_of}
use Rattle.theorem_meaning.specs.StandsFor.{entry_at}
use Rattle.theorem_take_silent.proofs.Places.{here-living}
use Rattle.trace_calm.proofs.Calls.{steadily-same}
use Rattle.trace_calm.proofs.Calm.{calm-traced}
use Rattle.trace_calm.proofs.Steady.{steadily-calmly}
use Rattle.trace_calm.proofs.Takings.{chosen}
use Rattle.trace_calm.specs.Calm.{IsCalm, IsCalmly}
use Rattle.trace_events.proofs.One.{bare-unbrought, is-taken}
use Rattle.trace_events.proofs.Open.{noticed-closed}
use Rattle.trace_events.proofs.Tracks.{going-sent}
use Rattle.trace_meaning.specs.Traces.{AreTraced, IsTrailed}
use Rattle.trace_meaning.specs.Words.{IsForgetOf, IsGoingTo, IsGoneFrom, IsGoneSeen, IsKnownOf, IsMovedTo, IsSought}

module _ (i : ℕ) (w : World) (s : State) (is : Invariant i w s) (k from stamp : ℕ) (to : EndId) (at : ℕ) (others : List Picture) (there : w.packets from k ≡ record { stamp = stamp; what = packet.Gone to at } ∷ others)
    (v : HereView) (stood : (w.kernel k).table to ≡ entry.Here v) (dead : v.value.dead ≡ true) (traced : AreTraced (links_of w) s.ends) where
  abbrev l : Links
  l = links_of w

  abbrev q : Picture
  q = record { stamp = stamp; what = packet.Gone to at }

  abbrev effect : Effect
  effect = sent ((at, packet.GoneSeen (opposite v.value.end)) ∷ [])

  abbrev any : Pid
  any = record { 0 = 0 }

  abbrev change : Change
  change = taking w k from q effect any [] []

  abbrev u : Links
  u = links_of (happens w (Takes k from))

  its-end : v.value.end ≡ to
  its-end = subst (IsOfEnd to) stood ((is.setting.sound k).own to)

  does : row_effect k (w.kernel k).made from (w.kernel k).table (packet.Gone to at) ≡ effect
  does = ap (gone_effect k to at) stood ∙ chosen v.value.dead effect _ dead

  happened : Happens w (Takes k from) change
  happened = takes-allowed is k from q others there effect any [] [] does tt tt refl refl

  abbrev b : Changes l change u
  b = happened.becomes.links

  is-sent : (P : PictureWhat → Type 0) → IsSent change P → P (packet.GoneSeen (opposite v.value.end))
  is-sent P x = subst P (sym (ap (λ (z : ℕ × PictureWhat). z.1) (only-there {X = ℕ × PictureWhat} (at, packet.GoneSeen (opposite v.value.end)) (x.to, x.what) x.there))) x.is

  took : (P : PictureWhat → Type 0) → IsTaken change P → P (packet.Gone to at)
  took P x = is-taken from q refl P x

  -- ---- entries stay

  entry-still : (j : ℕ) (e : EndId) → entry_at u j e ≡ entry_at l j e
  entry-still j e = entry-same b e refl j

  not-erased : (j : ℕ) (e : EndId) (y : Entry) → entry_at l j e ≡ y → entry_at u j e ≡ entry.Nothing → (entry.Nothing ≡ y → ⊥) → ⊥
  not-erased j e y was none some = some (sym none ∙ entry-still j e ∙ was)

  trailed-still : (e : EndId) (j : ℕ) → IsTrailed l s.ends e j → IsTrailed u s.ends e j
  trailed-still e j r = record { sought = sought r.sought; at = r.at; fields = r.fields; are = (fields-same b e refl (bare-unbrought change refl (refl, tt) e) r.at r.fields).1 r.are; in_trail = r.in_trail }
    where
      sought : IsSought l s.ends e → IsSought u s.ends e
      sought (inl is_open) = inl is_open
      sought (inr z) = inr (record { at = z.at; mark = z.mark; there = entry-still z.at e ∙ z.there })

  -- ---- the end is sought no more, since it knows of the death

  lives : is_living (s.ends to).place ≡ true
  lives = here-living (length s.made) l s.ends is.setting.few is.links.named is.links.marked is.stands.links.once to k v stood

  unsought : IsSought u s.ends to → ⊥
  unsought (inl open_is) = noticed-closed (s.ends to) (sym ((is.links.counted to).dead (At k) v.value lives (ap value_of stood)) ∙ dead) open_is
  unsought (inr z) = true≢false (sym lives ∙ ap is_living ((is.links.marked to).destroyed z.at z.mark (sym (entry-still z.at to) ∙ z.there)))

  -- its opposite is destroyed
  gone-right : (s.ends (opposite to)).place ≡ place.Destroyed
  gone-right = All-contains (λ o. IsPacketRight l s.ends from k o.what) (w.packets from k) q (is.links.packets from k) (subst (λ qs. Contains qs q) (sym there) (first q others))

  tells-seen : (e : EndId) → IsSent change (IsGoneSeen e) → ((s.ends e).place ≡ place.Destroyed) × (IsSought u s.ends (opposite e) → ⊥)
  tells-seen e new =
      let its : opposite to ≡ e = ap opposite (sym its-end) ∙ is-sent (IsGoneSeen e) new in (
        subst (λ z. (s.ends z).place ≡ place.Destroyed) its gone-right,
        λ sought. unsought (subst (IsSought u s.ends) (ap opposite (sym its) ∙ opposite-twice to) sought),
      )

  tells : (e : EndId) (d : ℕ) → IsGoneFrom (opposite e) d (packet.Gone to at) → IsGoingTo u d (IsGoneSeen e)
  tells e d its =
      subst (λ z. IsGoingTo u z (IsGoneSeen e)) its.1
      (going-sent b at (packet.GoneSeen (opposite v.value.end)) (IsGoneSeen e) (first {X = ℕ × PictureWhat} (at, packet.GoneSeen (opposite v.value.end)) []) (ap opposite (its-end ∙ its.0) ∙ opposite-twice e))

  answers : IsCalm l u change s.ends
  answers =
      record {
        entries = λ j e. subst (IsCalmly (entry_at l j e)) (sym (entry-still j e)) (steadily-calmly (entry_at l j e) (entry_at l j e) (steadily-same (entry_at l j e)));
        bare = refl;
        sent_bare = (refl, tt);
        sent = (inr (inr tt), tt);
        told = λ e h at o new sought other has. absurd (is-sent (IsForgetOf e h) new);
        tells_seen = tells-seen;
        trail = λ j e x y was now. inl (ap (λ (z : HereView). z.value.trail) (view-same y x (sym now ∙ entry-still j e ∙ was)));
        trailed = λ e j a h left older r. inl (trailed-still e j r);
        cleared = λ e j a h at o was none sought other has. absurd (not-erased j e (entry.Left a h) was none (λ differ. cc));
        erased = λ e j o was none. absurd (not-erased j e (entry.Destroyed o) was none (λ differ. cc));
        known = λ e x y was now free taken. absurd (took (IsKnownOf e x.value.hops) taken);
        forget = λ e a h g left taken covers. took (IsForgetOf e g) taken;
        seen = λ e o at taken. took (IsGoneSeen e) taken;
        moved = λ e j x here taken chain. absurd (took (IsMovedTo (opposite e) j x.value.hops) taken);
        gone = λ e d o at taken chain. inl (tells e d (took (IsGoneFrom (opposite e) d) taken));
      }

  pub dead-gone-traced : AreTraced u s.ends
  dead-gone-traced =
      calm-traced b s.ends s.ends answers (record { living = λ e. refl; noticed = λ e. refl; destroyed = λ e gone. gone }) (λ j e o at. (is.links.marked e).destroyed j o at)
      (λ j e x at. here-living (length s.made) l s.ends is.setting.few is.links.named is.links.marked is.stands.links.once e j x at) is.service.noticed.opposite traced
