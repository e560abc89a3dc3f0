-- Where an answer comes, and what it meets there.
use Rattle.std.proofs.Common.{◌≡◌, ℕ, true, false, ◌&&◌, List, ◌∷◌, length, Contains, refl, sym, ap, subst, ◌∙◌, true≢false}
use Rattle.std.proofs.lemmas.List.Elements.{All-contains}
use Rattle.charlotte_calls.specs.declared.names.EndId.{EndId}
use Rattle.charlotte_calls.specs.declared.names.Pid.{Pid}
use Rattle.charlotte_packets.specs.declared.picture.Picture.{Picture}
use Rattle.end_table.specs.Table.{IfHere, IsHereAnd, IsIdle}
use Rattle.end_table.specs.declared.entry.Entry.TheVariants as entry
use Rattle.end_table.specs.declared.entry.HereView.{HereView}
use Rattle.end_table.specs.declared.entry.Holder.{Holder}
use Rattle.end_table.specs.declared.entry.Holder.TheVariants as holder
use Rattle.end_table.specs.declared.entry.Inward.TheVariants as kernel_inward
use Rattle.end_table.specs.declared.entry.Outward.{Outward as KernelOutward}
use Rattle.end_table.specs.declared.entry.Outward.TheVariants as kernel_outward
use Rattle.kernel_sound.specs.Sound.{IsHeldWell}
use Rattle.kernel_step.specs.Actions.{here}
use Rattle.theorem_meaning.specs.World.{World}
use Rattle.service_step.specs.Ends.{is_idle, is_idle_inward, is_idle_outward, is_living}
use Rattle.service_step.specs.State.{State}
use Rattle.service_step.specs.declared.state.Outward.TheVariants as outward
use Rattle.service_step.specs.declared.state.Phase.TheVariants as phase
use Rattle.service_step.specs.declared.state.Place.{Place}
use Rattle.service_step.specs.declared.state.Place.TheVariants as place
use Rattle.theorem_take_silent.proofs.Lists.{first}
use Rattle.theorem_meaning.specs.Invariant.{Invariant, IsPacketRight, IsTakenRight}
use Rattle.theorem_meaning.specs.Packets.{Links, links_of}
use Rattle.theorem_meaning.specs.StandsFor.{IsEndOf, IsOutwardOf, home_of}
use Rattle.theorem_take_silent.proofs.Alike.{some-same}
use Rattle.theorem_take_silent.proofs.Places.{here-kernel}
use Rattle.theorem_meaning.proofs.Plain.{there-here}

-- an end is here at kernel k, and process p of that kernel owns it
pub record IsOwnedAt (w : World) (s : State) (k : ℕ) (e : EndId) : Type 0 where
  pub view : HereView
  pub p : Pid
  pub here : (w.kernel k).table e ≡ entry.Here view
  pub owned : (s.ends e).place ≡ place.Owned p
  pub home : home_of s p ≡ k
  pub holder : view.holder ≡ holder.Owner p
  pub agree : IsEndOf (links_of w) e view (s.ends e)

-- what the service says of an end whose message was taken
matched-of : (w : Links) (e : EndId) (n : ℕ) (o : KernelOutward) → IsOutwardOf w e n o outward.Taken → o ≡ kernel_outward.Matched n
matched-of w e n (kernel_outward.Matched m) is = ap kernel_outward.Matched is.0
matched-of w e n _ is = absurd is

module _ {i : ℕ} {w : World} {s : State} (is : Invariant i w s) where
  -- the owner of an end has it here at its kernel
  pub owned-at : (e : EndId) (p : Pid) → (s.ends e).place ≡ place.Owned p → IsOwnedAt w s (home_of s p) e
  owned-at e p owned =
      let u = there-here ((w.kernel (home_of s p)).table e) (λ v. v.holder ≡ holder.Owner p) ((is.stands.links.owned e p).0 owned) in
      record { view = u.0; p = p; here = u.1; owned = owned; home = refl; holder = u.2; agree = is.stands.links.agree e p u.0 owned u.1 }

  at-kernel : (k : ℕ) (e : EndId) (v : HereView) (o : IsOwnedAt w s k e) → (w.kernel k).table e ≡ entry.Here v → o.view ≡ v
  at-kernel k e v o there = some-same o.view v (ap here (sym o.here ∙ there))

  -- an end that is here is there
  pub same-kernel : (j k : ℕ) (e : EndId) (v : HereView) → IsOwnedAt w s j e → (w.kernel k).table e ≡ entry.Here v → IsOwnedAt w s k e
  same-kernel j k e v o there =
      subst (λ z. IsOwnedAt w s z e) (here-kernel (length s.made) (links_of w) s.ends is.setting.few is.links.named is.links.marked is.stands.links.once e j k o.view v o.here there) o

  module _ (k from : ℕ) (q : Picture) (others : List Picture) (there : w.packets from k ≡ q ∷ others) where
    pub stands-first : Contains (w.packets from k) q
    stands-first = subst (λ l. Contains l q) (sym there) (first q others)

    pub right-first : IsPacketRight (links_of w) s.ends from k q.what
    right-first = All-contains (λ o. IsPacketRight (links_of w) s.ends from k o.what) (w.packets from k) q (is.links.packets from k) stands-first

  -- a taken to an end that lives meets the send that is matched
  module _ (k from : ℕ) (to : EndId) (n at : ℕ) (right : IsTakenRight (links_of w) s.ends from k to n at) where
    pub taken-meets : is_living (s.ends to).place ≡ true → (o : IsOwnedAt w s k to) × (o.view.outward ≡ kernel_outward.Matched n)
    taken-meets lives = by (s.ends to).place refl
      where
        v : (v : HereView) × ((w.kernel k).table to ≡ entry.Here v) × Unit {0}
        v = there-here ((w.kernel k).table to) (λ v. Unit {0}) (right.site lives)

        found : IsOwnedAt w s k to → (o : IsOwnedAt w s k to) × (o.view.outward ≡ kernel_outward.Matched n)
        found o = (
          o,
          matched-of (links_of w) to (s.ends to).sent o.view.outward (subst (IsOutwardOf (links_of w) to (s.ends to).sent o.view.outward) right.taken o.agree.outward) ∙ ap kernel_outward.Matched right.number,
        )

        by : (x : Place) → (s.ends to).place ≡ x → (o : IsOwnedAt w s k to) × (o.view.outward ≡ kernel_outward.Matched n)
        by (place.Owned p) owned = found (same-kernel (home_of s p) k to v.0 (owned-at to p owned) v.1)
        by (place.InMessage f m) within =
            let busy : is_idle (s.ends to) ≡ false = ap (λ z. is_idle_outward z && is_idle_inward (s.ends to).inward) right.taken in
            absurd (true≢false (sym (is.service.kept.resting to f m within) ∙ busy))
        by place.Destroyed gone = absurd (true≢false (sym lives ∙ ap (λ z. is_living z) gone))
        by place.Unmade gone = absurd (true≢false (sym lives ∙ ap (λ z. is_living z) gone))

  -- an unwanted that meets a receive that is withdrawn does so at its owner, who is in a Cancel of it
  pub unwanted-meets : (k : ℕ) (to : EndId) (r : ℕ) → IsHereAnd ((w.kernel k).table to) (λ v. v.inward ≡ kernel_inward.Withdrawing r)
      → (o : IsOwnedAt w s k to) × (o.view.inward ≡ kernel_inward.Withdrawing r) × ((s.process o.p.0).phase ≡ phase.Cancelling to)
  unwanted-meets k to r has = by u.0.holder refl
    where
      u : (v : HereView) × ((w.kernel k).table to ≡ entry.Here v) × (v.inward ≡ kernel_inward.Withdrawing r)
      u = there-here ((w.kernel k).table to) (λ v. v.inward ≡ kernel_inward.Withdrawing r) has

      held : IsHeldWell (length s.homes) u.0 u.0.holder
      held = subst (λ x. IfHere x (λ v. IsHeldWell (length s.homes) v v.holder)) u.1 ((is.setting.sound k).held to)

      found : (p : Pid) → (s.process p.0).phase ≡ phase.Cancelling to → IsOwnedAt w s k to → (o : IsOwnedAt w s k to) × (o.view.inward ≡ kernel_inward.Withdrawing r) × ((s.process o.p.0).phase ≡ phase.Cancelling to)
      found p cancels o = (
        o,
        ap (λ (z : HereView). z.inward) (at-kernel k to u.0 o u.1) ∙ u.2,
        (is.links.asked to).cancelled k u.0 r o.p u.1 u.2 (sym (ap (λ (z : HereView). z.holder) (at-kernel k to u.0 o u.1)) ∙ o.holder),
      )

      by : (h : Holder) → u.0.holder ≡ h → (o : IsOwnedAt w s k to) × (o.view.inward ≡ kernel_inward.Withdrawing r) × ((s.process o.p.0).phase ≡ phase.Cancelling to)
      by (holder.Owner p) holds =
          let cancels = (is.links.asked to).cancelled k u.0 r p u.1 u.2 holds in
          found p cancels (same-kernel (home_of s p) k to u.0 (owned-at to p (is.service.processes.cancelling p to cancels).0) u.1)
      by (holder.EnclosedIn on) holds =
          let idle : IsIdle u.0 = subst (IsHeldWell (length s.homes) u.0) holds held in
          absurd (let both : kernel_inward.Idle ≡ kernel_inward.Withdrawing r = sym idle.inward ∙ u.2 in cc)
