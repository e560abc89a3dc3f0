-- Who holds an end that is here, at its kernel and in the service.
use Rattle.std.proofs.Common.{◌≡◌, ◌⊎◌, inl, inr, ℕ, ◌≤◌, true, ◌∷◌, length, Contains, refl, sym, ap, subst, ◌∙◌, true≢false}
use Rattle.charlotte_calls.specs.declared.names.EndId.{EndId}
use Rattle.charlotte_calls.specs.declared.names.Pid.{Pid}
use Rattle.charlotte_packets.specs.declared.picture.MovingPicture.{MovingPicture}
use Rattle.charlotte_packets.specs.declared.picture.PictureWhat.{PictureWhat}
use Rattle.end_table.specs.Table.{IsHereAnd}
use Rattle.end_table.specs.declared.entry.Entry.TheVariants as entry
use Rattle.end_table.specs.declared.entry.HereView.{HereView}
use Rattle.end_table.specs.declared.entry.Holder.TheVariants as holder
use Rattle.kernel_step.specs.Rows.{ends_in}
use Rattle.service_step.specs.Ends.{is_living}
use Rattle.service_step.specs.State.{State}
use Rattle.service_step.specs.declared.state.Place.{Place}
use Rattle.service_step.specs.declared.state.Place.TheVariants as place
use Rattle.theorem_call_wait.proofs.Values.{value-found}
use Rattle.theorem_meaning.proofs.Plain.{there-here, view-same}
use Rattle.theorem_meaning.specs.Fields.{Stand, At, Flying, HasFields}
use Rattle.theorem_meaning.specs.Invariant.{AreRight}
use Rattle.theorem_meaning.specs.Packets.{IsUnderWay, Links, values_of}
use Rattle.theorem_meaning.specs.StandsFor.{AreLinksOf, IsInMessage, IsWaitingWith, entry_at, home_of}
use Rattle.theorem_call_begin.proofs.Places.{fields-here, here-kernel, here-living}

-- a process owns it there, or a send that waits there encloses it
pub data IsHeldAs (w : Links) (s : State) (k : ℕ) (f : EndId) (v : HereView) : Type 0 where
  by_process : (q : Pid) → (s.ends f).place ≡ place.Owned q → v.holder ≡ holder.Owner q → home_of s q ≡ k → IsHeldAs w s k f v
  by_send : (g : EndId) (m : ℕ) → (s.ends f).place ≡ place.InMessage g m → v.holder ≡ holder.EnclosedIn g → IsHereAnd (entry_at w k g) (λ y. IsWaitingWith m y.outward) → IsHeldAs w s k f v

module _ {i : ℕ} (w : Links) (s : State) (few : length s.made ≤ 8) (links : AreLinksOf w s) (right : AreRight i w s) where
  -- an end that is here is at no other kernel
  pub one-kernel : (f : EndId) (j k : ℕ) (x v : HereView) → entry_at w j f ≡ entry.Here x → entry_at w k f ≡ entry.Here v → j ≡ k
  one-kernel f j k x v there here = here-kernel (length s.made) w s.ends few right.named right.marked links.once f j k x v there here

  pub one-view : (f : EndId) (j k : ℕ) (x v : HereView) → entry_at w j f ≡ entry.Here x → entry_at w k f ≡ entry.Here v → x ≡ v
  one-view f j k x v there here = view-same x v (sym there ∙ ap (λ z. entry_at w z f) (one-kernel f j k x v there here) ∙ here)

  -- what is true of it anywhere is true of this view
  pub its-view : (f : EndId) (k : ℕ) (v : HereView) (j : ℕ) (P : HereView → Type 0) → entry_at w k f ≡ entry.Here v → IsHereAnd (entry_at w j f) P → (j ≡ k) × P v
  its-view f k v j P here has =
      let x = there-here (entry_at w j f) P has in
      (one-kernel f j k x.0 v x.1 here, subst P (one-view f j k x.0 v x.1 here) x.2)

  pub lives : (f : EndId) (k : ℕ) (v : HereView) → entry_at w k f ≡ entry.Here v → is_living (s.ends f).place ≡ true
  lives f k v here = here-living (length s.made) w s.ends few right.named right.marked links.once f k v here

  pub own-fields : (f : EndId) (k : ℕ) (v : HereView) (at : Stand) (m : MovingPicture) → entry_at w k f ≡ entry.Here v → HasFields w f at m → (at ≡ At k) × (m ≡ v.value)
  own-fields f k v at m here has = fields-here (length s.made) w s.ends few right.named right.marked links.once f k v at m here has

  -- and in no packet
  pub unbrought : (f : EndId) (k : ℕ) (v : HereView) (P : PictureWhat → Type 0) → entry_at w k f ≡ entry.Here v → IsUnderWay w (λ q. P q × Contains (ends_in (values_of q)) f) → ⊥
  unbrought f k v P here x =
      let m = value-found f (values_of x.packet.what) x.is.1 in
      let no : Flying ≡ At k = (own-fields f k v Flying m.0 here (record { from = x.from; to = x.to; packet = x.packet; there = x.there; is = m.1 }, m.2)).0 in
      cc

  -- so a message that it is in waits, and encloses it
  pub enclosed-here : (f : EndId) (k : ℕ) (v : HereView) (g : EndId) (m : ℕ) → entry_at w k f ≡ entry.Here v → IsInMessage w f g m
      → (v.holder ≡ holder.EnclosedIn g) × IsHereAnd (entry_at w k g) (λ y. IsWaitingWith m y.outward)
  enclosed-here f k v g m here (inl x) =
      let own = its-view f k v x.at (λ y. y.holder ≡ holder.EnclosedIn g) here x.enclosed in
      (own.1, subst (λ j. IsHereAnd (entry_at w j g) (λ y. IsWaitingWith m y.outward)) own.0 x.waiting)
  enclosed-here f k v g m here (inr (inl x)) = absurd (unbrought f k v _ here x)
  enclosed-here f k v g m here (inr (inr x)) = absurd (unbrought f k v _ here x)

  pub held-as : (f : EndId) (k : ℕ) (v : HereView) → entry_at w k f ≡ entry.Here v → IsHeldAs w s k f v
  held-as f k v here = by (s.ends f).place refl (lives f k v here)
    where
      by : (x : Place) → (s.ends f).place ≡ x → is_living x ≡ true → IsHeldAs w s k f v
      by (place.Owned q) at living =
          let own = its-view f k v (home_of s q) (λ y. y.holder ≡ holder.Owner q) here ((links.owned f q).0 at) in
          by_process q at own.1 own.0
      by (place.InMessage g m) at living = let own = enclosed-here f k v g m here ((links.in_message f g m).0 at) in by_send g m at own.0 own.1
      by place.Destroyed at living = absurd (true≢false (sym living))
      by place.Unmade at living = absurd (true≢false (sym living))
