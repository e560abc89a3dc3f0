-- An end that is here and not idle is owned by a process of that kernel.
use Rattle.std.proofs.Common.{◌≡◌, inl, inr, ℕ, true, length, Contains, refl, sym, ap, subst, ◌∙◌, true≢false}
use Rattle.charlotte_calls.specs.declared.names.EndId.{EndId}
use Rattle.charlotte_packets.specs.declared.picture.PictureWhat.{PictureWhat}
use Rattle.end_table.specs.Table.{IfHere, IsIdle}
use Rattle.end_table.specs.declared.entry.Entry.TheVariants as entry
use Rattle.end_table.specs.declared.entry.HereView.{HereView}
use Rattle.end_table.specs.declared.entry.Holder.TheVariants as holder
use Rattle.kernel_sound.specs.Sound.{IsHeldWell}
use Rattle.kernel_step.specs.Actions.{here}
use Rattle.kernel_step.specs.Rows.{ends_in}
use Rattle.kernel_world.specs.World.{World}
use Rattle.service_step.specs.Ends.{is_living}
use Rattle.service_step.specs.State.{State}
use Rattle.service_step.specs.declared.state.Place.{Place}
use Rattle.service_step.specs.declared.state.Place.TheVariants as place
use Rattle.theorem_meaning.specs.Fields.{Flying}
use Rattle.theorem_meaning.specs.Invariant.{Invariant}
use Rattle.theorem_meaning.specs.Packets.{IsBackOf, IsParcelOf, IsUnderWay, links_of, values_of}
use Rattle.theorem_meaning.specs.StandsFor.{IsInMessage, home_of}
use Rattle.theorem_take_gone.proofs.Alike.{some-same}
use Rattle.theorem_take_gone.proofs.Places.{fields-here, here-kernel, here-living}
use Rattle.theorem_take_gone.proofs.Meets.{IsOwnedAt, owned-at, same-kernel}
use Rattle.theorem_meaning.proofs.Plain.{there-here}
use Rattle.theorem_ends_arrived.proofs.Among.{contains-among}

module _ {i : ℕ} {w : World} {s : State} (is : Invariant i w s) (k : ℕ) (to : EndId) (v : HereView) (at_k : (w.kernel k).table to ≡ entry.Here v) (busy : IsIdle v → ⊥) where
  held : IsHeldWell (length s.homes) v v.holder
  held = subst (λ x. IfHere x (λ v. IsHeldWell (length s.homes) v v.holder)) at_k ((is.setting.sound k).held to)

  pub busy-owned : IsOwnedAt w s k to
  busy-owned = by (s.ends to).place refl
    where
      enclosed : (f : EndId) → v.holder ≡ holder.EnclosedIn f → ⊥
      enclosed f holds = busy (subst (IsHeldWell (length s.homes) v) holds held)

      same-view : (j : ℕ) (x : HereView) → (w.kernel j).table to ≡ entry.Here x → x ≡ v
      same-view j x has =
          let same = here-kernel (length s.made) (links_of w) s.ends is.setting.few is.links.named is.links.marked is.stands.links.once to j k x v has at_k in
          some-same x v (ap here (sym has ∙ ap (λ z. (w.kernel z).table to) same ∙ at_k))

      flies : (P : PictureWhat → Type 0) → IsUnderWay (links_of w) (λ q. P q × Contains (ends_in (values_of q)) to) → ⊥
      flies P u =
          let a = contains-among (values_of u.packet.what) to u.is.1 in
          let both = (fields-here (length s.made) (links_of w) s.ends is.setting.few is.links.named is.links.marked is.stands.links.once to k v Flying a.value at_k
          (record { from = u.from; to = u.to; packet = u.packet; there = u.there; is = a.there }, a.of)).0 in
          cc

      inside_none : (f : EndId) (n : ℕ) → IsInMessage (links_of w) to f n → ⊥
      inside_none f n (inl m) =
          let x = there-here ((w.kernel m.at).table to) (λ z. z.holder ≡ holder.EnclosedIn f) m.enclosed in
          enclosed f (sym (ap (λ (z : HereView). z.holder) (same-view m.at x.0 x.1)) ∙ x.2)
      inside_none f n (inr (inl m)) = flies (IsParcelOf f n) m
      inside_none f n (inr (inr m)) = flies (IsBackOf f n) m

      lives : is_living (s.ends to).place ≡ true
      lives = here-living (length s.made) (links_of w) s.ends is.setting.few is.links.named is.links.marked is.stands.links.once to k v at_k

      by : (x : Place) → (s.ends to).place ≡ x → IsOwnedAt w s k to
      by (place.Owned p) owned = same-kernel is (home_of s p) k to v (owned-at is to p owned) at_k
      by (place.InMessage f n) within = absurd (inside_none f n ((is.stands.links.in_message to f n).0 within))
      by place.Destroyed gone = absurd (true≢false (sym lives ∙ ap (λ z. is_living z) gone))
      by place.Unmade gone = absurd (true≢false (sym lives ∙ ap (λ z. is_living z) gone))
