-- A granted Receive in a world and in the service: which entry changes, which packet is sent, and what the end becomes.
use Rattle.std.proofs.Common.{◌≡◌, ◌≢◌, ◌⊎◌, ◌↔◌, inl, inr, ℕ, ◌+◌, ◌-◌, ◌^◌, ◌<◌, ◌≤◌, Bool, true, false, if◌then◌else◌, length, Contains, refl, sym, ap, subst, ◌∙◌, arith, true≢false}
use Rattle.std.proofs.Math.Nat.{min-le_left}
use Rattle.charlotte_calls.specs.Names.{opposite}
use Rattle.charlotte_calls.specs.declared.calls.Call.TheVariants as call
use Rattle.charlotte_calls.specs.declared.names.EndId.{EndId}
use Rattle.charlotte_calls.specs.declared.names.Pid.{Pid}
use Rattle.charlotte_packets.specs.declared.picture.MovingPicture.{MovingPicture}
use Rattle.charlotte_packets.specs.declared.picture.PictureWhat.{PictureWhat}
use Rattle.charlotte_packets.specs.declared.picture.PictureWhat.TheVariants as packet
use Rattle.end_table.proofs.EndEq.{end_eq-same}
use Rattle.end_table.specs.Entries.{gains_one}
use Rattle.end_table.specs.Place.{end_eq}
use Rattle.end_table.specs.Table.{IsHereAnd}
use Rattle.end_table.specs.declared.entry.Entry.{Entry}
use Rattle.end_table.specs.declared.entry.Entry.TheVariants as entry
use Rattle.end_table.specs.declared.entry.HereView.{HereView}
use Rattle.end_table.specs.declared.entry.Holder.TheVariants as holder
use Rattle.end_table.specs.declared.entry.Inward.TheVariants as kernel_inward
use Rattle.theorem_take_silent.specs.Calls.{post_effect}
use Rattle.kernel_step.specs.Actions.{hint_kernel}
use Rattle.theorem_meaning.specs.World.{World}
use Rattle.service_change.proofs.EndEq.{puts-at, puts-other}
use Rattle.service_lawful.specs.Consistent.{is_open}
use Rattle.service_step.specs.Ends.{is_made, is_posted, turns_inward}
use Rattle.service_step.specs.State.{State}
use Rattle.service_step.specs.declared.state.End.{End}
use Rattle.service_step.specs.declared.state.Inward.{Inward}
use Rattle.service_step.specs.declared.state.Inward.TheVariants as inward
use Rattle.service_step.specs.declared.state.Place.TheVariants as place
use Rattle.theorem_take_silent.proofs.Alike.{some-same}
use Rattle.theorem_take_silent.proofs.Places.{here-kernel}
use Rattle.theorem_take_silent.proofs.Lists.{none-there}
use Rattle.theorem_take_silent.specs.Change.{Change, Changes}
use Rattle.theorem_take_silent.specs.Events.{calling}
use Rattle.theorem_meaning.proofs.Ends.{eq-same, opposite-twice}
use Rattle.theorem_meaning.specs.Fields.{Stand, At, Flying, HasFields, IsUnserved, value_of}
use Rattle.theorem_meaning.specs.Invariant.{Invariant}
use Rattle.theorem_meaning.specs.Packets.{Links, links_of, values_of}
use Rattle.theorem_meaning.specs.StandsFor.{IsEndOf, IsInwardOf, IsOwnedHere, home_of}
use Rattle.theorem_call_begin.proofs.OneView.{IsIts, IsOneView, entry-or, packet-same}

-- process p posts a receive on an end that it owns, whose view at its kernel k is this; u are the links afterwards
pub record Posting (i : ℕ) (w : World) (s : State) (k : ℕ) (p : Pid) (u : Links) : Type 0 where
  pub is : Invariant i w s
  pub view : HereView
  pub here : (w.kernel k).table view.value.end ≡ entry.Here view
  pub owner : view.holder ≡ holder.Owner p
  pub idle : view.inward ≡ kernel_inward.Idle
  pub alive : view.value.dead ≡ false
  pub below : p.0 < length s.homes
  pub at : home_of s p ≡ k
  pub changes : Changes (links_of w) (calling w k p (call.Receive view.value.end) (post_effect k view)) u

-- the view of an end as its next receive is posted
abbrev pub posted_view : HereView → HereView
posted_view v = record v { value = record v.value { asked = gains_one v.value.asked }; inward = kernel_inward.Posted (gains_one v.value.asked) }

-- the packet that asks its opposite for that
abbrev pub posted_want : ℕ → HereView → PictureWhat
posted_want k v = packet.Want (opposite v.value.end) (gains_one v.value.asked) k v.value.hops

-- the state of the service afterwards
abbrev pub posted : State → EndId → State
posted s e = record s { ends = turns_inward inward.Posted e s.ends }

-- fields are as before, but that one receive more may have been asked for
pub record IsSameFields (m l : MovingPicture) : Type 0 where
  pub rest : l ≡ record m { asked = l.asked }
  pub asked : l.asked ≤ m.asked + 1

pub idle-is : (w : Links) (e : EndId) (i : Inward) → IsInwardOf w e kernel_inward.Idle i → i ≡ inward.Idle
idle-is w e inward.Idle is = refl
idle-is w e inward.Posted is = absurd is
idle-is w e inward.Withdrawn is = absurd is
idle-is w e (inward.Matched n) is = absurd is
idle-is w e inward.Unreported is = absurd is

module _ {i : ℕ} {w : World} {s : State} {k : ℕ} {p : Pid} {u : Links} (x : Posting i w s k p u) where
  abbrev l : Links
  l = links_of w

  abbrev e : EndId
  e = x.view.value.end

  abbrev c : Change
  c = calling w k p (call.Receive x.view.value.end) (post_effect k x.view)

  -- the view of one end is replaced, and one packet sent
  pub one-view : IsOneView l c u x.view (posted_view x.view) (hint_kernel x.view) (posted_want k x.view)
  one-view =
      record {
        changes = x.changes;
        here = x.here;
        entries = x.changes.entry;
        holder = refl;
        outward = refl;
        untaken = refl;
        sent = refl;
        bare = refl;
        other = λ f m. (λ is. is, λ is. is);
      }

  -- the fields that an end has it had
  pub fields-was : (f : EndId) (at : Stand) (m : MovingPicture) → HasFields u f at m → (o : MovingPicture) × HasFields l f at o × IsSameFields o m
  fields-was f Flying m has = (m, ((packet-same one-view (λ q. Contains (values_of q) m) (λ is. none-there m is)).0 has.0, has.1), record { rest = refl; asked = omega arith })
  fields-was f (At j) m has = by (entry-or one-view j f)
    where
      gained : gains_one x.view.value.asked ≤ x.view.value.asked + 1
      gained = min-le_left (x.view.value.asked + 1) (2 ^ 32 - 1)

      by : (u.entry j f ≡ l.entry j f) ⊎ IsIts one-view j f → (o : MovingPicture) × HasFields l f (At j) o × IsSameFields o m
      by (inl same) = (m, ap value_of (sym same) ∙ has, record { rest = refl; asked = omega arith })
      by (inr its) = (
        x.view.value,
        ap value_of its.was,
        subst (IsSameFields x.view.value) (some-same (posted_view x.view).value m (sym (ap value_of its.now) ∙ has)) (record { rest = refl; asked = gained }),
      )

  -- ---- the end before

  pub placed : (s.ends e).place ≡ place.Owned p
  placed = (x.is.stands.links.owned e p).1 (subst (λ j. IsOwnedHere p (l.entry j e)) (sym x.at) (subst (IsOwnedHere p) (sym x.here) x.owner))

  pub its-end : IsEndOf l e x.view (s.ends e)
  its-end = x.is.stands.links.agree e p x.view placed (subst (λ j. l.entry j e ≡ entry.Here x.view) (sym x.at) x.here)

  pub was-idle : (s.ends e).inward ≡ inward.Idle
  was-idle = idle-is l e (s.ends e).inward (subst (λ z. IsInwardOf l e z (s.ends e).inward) x.idle its-end.inward)

  pub was-open : (s.ends e).noticed ≡ false
  was-open = its-end.noticed ∙ x.alive

  -- it is here with this view alone
  pub its-view : (j : ℕ) (P : HereView → Type 0) → IsHereAnd (l.entry j e) P → P x.view
  its-view j P has = subst (λ z. IsHereAnd z P) x.here (subst (λ z. IsHereAnd (l.entry z e) P) (by (l.entry j e) refl has) has)
    where
      by : (y : Entry) → l.entry j e ≡ y → IsHereAnd y P → j ≡ k
      by (entry.Here v) there has = here-kernel (length s.made) l s.ends x.is.setting.few x.is.links.named x.is.links.marked x.is.stands.links.once e j k v x.view there x.here
      by _ there has = absurd has

  -- nothing was asked of its opposite that was not served
  pub none-unserved : (at : Stand) (m : MovingPicture) (n j h : ℕ) → is_open (s.ends (opposite e)) ≡ true → HasFields l (opposite e) at m → IsUnserved l (opposite e) m n j h → ⊥
  none-unserved at m n j h opened has asked =
      let posted : is_posted (s.ends (opposite (opposite e))).inward ≡ true = (x.is.links.wanted (opposite e)).posted at m n j h opened has asked in
      let own : is_posted (s.ends e).inward ≡ true = subst (λ z. is_posted (s.ends z).inward ≡ true) (opposite-twice e) posted in
      true≢false (sym own ∙ ap is_posted was-idle)

  -- ---- ends afterwards

  pub ends-at : (posted s e).ends e ≡ record (s.ends e) { inward = inward.Posted }
  unfolding turns_inward
  ends-at = puts-at e (record (s.ends e) { inward = inward.Posted }) s.ends (ap is_made placed)

  pub ends-other : (f : EndId) → end_eq e f ≡ false → (posted s e).ends f ≡ s.ends f
  unfolding turns_inward
  ends-other f apart = puts-other e (record (s.ends e) { inward = inward.Posted }) s.ends f (eq-same e f ∙ apart)

  -- all but its activity inward is as before
  pub ends-like : (f : EndId) → (posted s e).ends f ≡ record (s.ends f) { inward = ((posted s e).ends f).inward }
  ends-like f = by (end_eq e f) refl
    where
      by : (b : Bool) → end_eq e f ≡ b → (posted s e).ends f ≡ record (s.ends f) { inward = ((posted s e).ends f).inward }
      by true is =
          subst (λ z. (posted s e).ends z ≡ record (s.ends z) { inward = ((posted s e).ends z).inward }) (end_eq-same e f is)
          (ends-at ∙ sym (ap (λ (y : End). record (s.ends e) { inward = y.inward }) ends-at))
      by false is = ends-other f is ∙ sym (ap (λ (y : End). record (s.ends f) { inward = y.inward }) (ends-other f is))

  -- the posted receive of the end
  pub now-posted : ((posted s e).ends e).inward ≡ inward.Posted
  now-posted = ap (λ (y : End). y.inward) ends-at
