-- A granted Cancel of a receive in a world and in the service: which entry changes, which packet is sent, and what its process becomes.
use Rattle.std.proofs.Common.{◌≡◌, ◌≢◌, ◌⊎◌, ◌↔◌, inl, inr, ℕ, true, false, ◌||◌, if◌then◌else◌, Contains, refl, sym, ap, subst, ◌∙◌}
use Rattle.std.proofs.lemmas.List.Elements.{All-contains}
use Rattle.theorem_call_send.proofs.OneView.{IsIts, IsOneView, entry-or, packet-same}
use Rattle.charlotte_calls.specs.Names.{opposite}
use Rattle.charlotte_calls.specs.declared.calls.Call.TheVariants as call
use Rattle.charlotte_calls.specs.declared.names.EndId.{EndId}
use Rattle.charlotte_calls.specs.declared.names.Pid.{Pid}
use Rattle.charlotte_calls.specs.declared.names.Way.TheVariants as way
use Rattle.charlotte_packets.specs.declared.picture.MovingPicture.{MovingPicture}
use Rattle.charlotte_packets.specs.declared.picture.PictureWhat.{PictureWhat}
use Rattle.charlotte_packets.specs.declared.picture.PictureWhat.TheVariants as packet
use Rattle.end_table.specs.Table.{IsHereAnd}
use Rattle.end_table.specs.declared.entry.Entry.TheVariants as entry
use Rattle.end_table.specs.declared.entry.HereView.{HereView}
use Rattle.end_table.specs.declared.entry.Holder.TheVariants as holder
use Rattle.end_table.specs.declared.entry.Inward.TheVariants as kernel_inward
use Rattle.kernel_effects.specs.Calls.{withdraw_receive_effect}
use Rattle.kernel_step.specs.Actions.{hint_kernel}
use Rattle.kernel_world.specs.World.{World}
use Rattle.service_lawful.proofs.Turned.{turned, turned-phase}
use Rattle.service_step.specs.Ends.{is_matched_inward, is_posted}
use Rattle.service_step.specs.State.{State}
use Rattle.service_step.specs.declared.state.Inward.{Inward}
use Rattle.service_step.specs.declared.state.Inward.TheVariants as inward
use Rattle.service_step.specs.declared.state.Phase.TheVariants as phase
use Rattle.service_step.specs.declared.state.Place.TheVariants as place
use Rattle.theorem_call_send.proofs.Lists.{none-there}
use Rattle.theorem_call_send.specs.Change.{Change, Changes}
use Rattle.theorem_call_send.specs.Events.{calling}
use Rattle.theorem_meaning.specs.Fields.{Stand, At, Flying, HasFields, IsAskedAs, value_of}
use Rattle.theorem_meaning.specs.Invariant.{Invariant, IsPacketRight, IsVoidRight}
use Rattle.theorem_meaning.specs.Packets.{IsUnderWay, IsUnwantedOf, Links, links_of, values_of}
use Rattle.theorem_meaning.specs.StandsFor.{IsAskedOf, IsEndOf, IsInwardOf, IsOwnedHere, home_of}
use Rattle.theorem_call_send.proofs.Held.{its-view as held-view}

-- process p takes back the receive of this number on an end that it owns, whose view at its kernel k is this; u are the links afterwards
pub record IsWithdrawing (i : ℕ) (w : World) (s : State) (k : ℕ) (p : Pid) (u : Links) : Type 0 where
  pub is : Invariant i w s
  pub view : HereView
  pub number : ℕ
  pub here : (w.kernel k).table view.value.end ≡ entry.Here view
  pub owner : view.holder ≡ holder.Owner p
  pub posts : view.inward ≡ kernel_inward.Posted number
  pub alive : view.value.dead ≡ false
  pub at : home_of s p ≡ k
  pub running : (s.process p.0).phase ≡ phase.Running
  pub changes : Changes (links_of w) (calling w k p (call.Cancel view.value.end way.Inward) (withdraw_receive_effect k number view)) u

-- the view of an end as its receive is withdrawn
abbrev pub withdrawn_view : HereView → ℕ → HereView
withdrawn_view v r = record v { inward = kernel_inward.Withdrawing r }

-- the packet that tells its opposite so
abbrev pub sent_unwant : ℕ → HereView → ℕ → PictureWhat
sent_unwant k v r = packet.Unwant (opposite v.value.end) r k v.value.hops

module _ {i : ℕ} {w : World} {s : State} {k : ℕ} {p : Pid} {u : Links} (x : IsWithdrawing i w s k p u) where
  abbrev l : Links
  l = links_of w

  abbrev e : EndId
  e = x.view.value.end

  abbrev new : HereView
  new = withdrawn_view x.view x.number

  abbrev unwant : PictureWhat
  unwant = sent_unwant k x.view x.number

  abbrev c : Change
  c = calling w k p (call.Cancel x.view.value.end way.Inward) (withdraw_receive_effect k x.number x.view)

  -- the view of one end is replaced, and one packet sent
  pub one-view : IsOneView l c u x.view new (hint_kernel x.view) unwant
  one-view =
      record {
        changes = x.changes;
        here = x.here;
        entries = x.changes.entry;
        holder = refl;
        outward = refl;
        untaken = refl;
        sent = refl;
        bare = refl;
        other = λ f m. (λ is. is, λ is. is);
      }

  -- the fields that an end has it had
  pub fields-was : (f : EndId) (at : Stand) (m : MovingPicture) → HasFields u f at m → HasFields l f at m
  fields-was f Flying m has = ((packet-same one-view (λ q. Contains (values_of q) m) (λ is. none-there m is)).0 has.0, has.1)
  fields-was f (At j) m has = by (entry-or one-view j f)
    where
      by : (u.entry j f ≡ l.entry j f) ⊎ IsIts one-view j f → HasFields l f (At j) m
      by (inl same) = ap value_of (sym same) ∙ has
      by (inr its) = ap value_of its.was ∙ sym (ap value_of its.now) ∙ has

  -- ---- the end before

  pub placed : (s.ends e).place ≡ place.Owned p
  placed = (x.is.stands.links.owned e p).1 (subst (λ j. IsOwnedHere p (l.entry j e)) (sym x.at) (subst (IsOwnedHere p) (sym x.here) x.owner))

  pub its-end : IsEndOf l e x.view (s.ends e)
  its-end = x.is.stands.links.agree e p x.view placed (subst (λ j. l.entry j e ≡ entry.Here x.view) (sym x.at) x.here)

  pub unaware : (s.ends e).noticed ≡ false
  unaware = its-end.noticed ∙ x.alive

  -- it is here with this view alone
  pub its-view : (j : ℕ) (P : HereView → Type 0) → IsHereAnd (l.entry j e) P → P x.view
  its-view j P has = (held-view l s x.is.setting.few x.is.stands.links x.is.links e k x.view j P x.here has).1

  -- its receive is the last that was asked for
  pub last : x.number ≡ x.view.value.asked
  last = (x.is.links.asked e).last k x.view x.number x.here (subst (IsAskedAs x.number) (sym x.posts) refl)

  -- no packet tells that it was withdrawn
  none-withdrawn : (n : ℕ) → IsUnderWay l (IsUnwantedOf e n) → ⊥
  none-withdrawn n z =
      by z.packet.what z.is (All-contains (λ q. IsPacketRight l s.ends z.from z.to q.what) (w.packets z.from z.to) z.packet (x.is.links.packets z.from z.to) z.there)
    where
      differ : (r : ℕ) → kernel_inward.Posted x.number ≡ kernel_inward.Withdrawing r → ⊥
      differ r is = cc

      by : (q : PictureWhat) → IsUnwantedOf e n q → IsPacketRight l s.ends z.from z.to q → ⊥
      by (packet.Unwanted to r at hops) for right =
          differ r (sym x.posts ∙ its-view z.to (λ v. v.inward ≡ kernel_inward.Withdrawing r) (subst (λ a. IsVoidRight l s.ends z.to a r) for.0 right unaware))
      by _ for right = absurd for

  -- so in the service it is posted or matched
  pub asks : IsAskedOf l e x.number (s.ends e).inward
  asks = subst (λ z. IsInwardOf l e z (s.ends e).inward) x.posts its-end.inward

  pub is-started : (is_posted (s.ends e).inward || is_matched_inward (s.ends e).inward) ≡ true
  is-started = by (s.ends e).inward asks
    where
      by : (z : Inward) → IsAskedOf l e x.number z → (is_posted z || is_matched_inward z) ≡ true
      by inward.Posted has = refl
      by (inward.Matched n) has = refl
      by inward.Withdrawn has = absurd (none-withdrawn x.number has.1)
      by inward.Idle has = absurd has
      by inward.Unreported has = absurd has

  -- ---- processes

  abbrev pub after : State
  after = turned s p (phase.Cancelling x.view.value.end)

  running-free : (f : EndId) → (s.process p.0).phase ≡ phase.Cancelling f → ⊥
  running-free f is = let no : phase.Running ≡ phase.Cancelling f = sym x.running ∙ is in cc

  -- a process in a Cancel is so still, and one that is so afterwards was so, or is the one that cancels
  pub cancelling-still : (q : Pid) (f : EndId) → (s.process q.0).phase ≡ phase.Cancelling f → (after.process q.0).phase ≡ phase.Cancelling f
  cancelling-still q f is = by (turned-phase s p (phase.Cancelling e) q.0)
    where
      by : ((p.0 ≡ q.0) × ((after.process q.0).phase ≡ phase.Cancelling e)) ⊎ ((p.0 ≢ q.0) × ((after.process q.0).phase ≡ (s.process q.0).phase)) → (after.process q.0).phase ≡ phase.Cancelling f
      by (inl own) = absurd (running-free f (ap (λ z. (s.process z).phase) own.0 ∙ is))
      by (inr other) = other.1 ∙ is

  pub cancelling-own : (after.process p.0).phase ≡ phase.Cancelling e
  cancelling-own = by (turned-phase s p (phase.Cancelling e) p.0)
    where
      by : ((p.0 ≡ p.0) × ((after.process p.0).phase ≡ phase.Cancelling e)) ⊎ ((p.0 ≢ p.0) × ((after.process p.0).phase ≡ (s.process p.0).phase)) → (after.process p.0).phase ≡ phase.Cancelling e
      by (inl own) = own.1
      by (inr other) = absurd (other.0 refl)

  pub cancelling-was : (q : Pid) (f : EndId) → (after.process q.0).phase ≡ phase.Cancelling f → ((s.process q.0).phase ≡ phase.Cancelling f) ⊎ ((p.0 ≡ q.0) × (e ≡ f))
  cancelling-was q f is = by (turned-phase s p (phase.Cancelling e) q.0)
    where
      same : phase.Cancelling e ≡ phase.Cancelling f → e ≡ f
      same both = cc

      by : ((p.0 ≡ q.0) × ((after.process q.0).phase ≡ phase.Cancelling e)) ⊎ ((p.0 ≢ q.0) × ((after.process q.0).phase ≡ (s.process q.0).phase)) → ((s.process q.0).phase ≡ phase.Cancelling f) ⊎ ((p.0 ≡ q.0) × (e ≡ f))
      by (inl own) = inr (own.0, same (sym own.1 ∙ is))
      by (inr other) = inl (sym other.1 ∙ is)
