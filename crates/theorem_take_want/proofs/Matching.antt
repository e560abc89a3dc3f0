-- MATCH at an open end that is here: a receive of its opposite is asked of it and not served, and a send of it waits. The service may
-- match the two, and where the opposite lives the message meets its receive.
use Rattle.std.proofs.Common.{◌≡◌, ◌⊎◌, inl, inr, ℕ, ◌≤◌, Bool, true, false, nat_eq, ◌&&◌, not, List, ◌∷◌, length, Contains, is_some, refl, sym, ap, subst, ◌∙◌, true≢false, eq-eqb}
use Rattle.charlotte_calls.specs.Names.{opposite}
use Rattle.charlotte_calls.specs.declared.calls.ServiceStep.TheVariants as step
use Rattle.charlotte_calls.specs.declared.names.EndId.{EndId}
use Rattle.charlotte_calls.specs.declared.names.Pid.{Pid}
use Rattle.charlotte_packets.specs.declared.picture.PictureWhat.{PictureWhat}
use Rattle.end_table.specs.Table.{IfHere, IsHereAnd}
use Rattle.end_table.specs.declared.entry.Entry.TheVariants as entry
use Rattle.end_table.specs.declared.entry.HereView.{HereView}
use Rattle.end_table.specs.declared.entry.Holder.TheVariants as holder
use Rattle.end_table.specs.declared.entry.Inward.{Inward as KernelInward}
use Rattle.end_table.specs.declared.entry.Inward.TheVariants as kernel_inward
use Rattle.end_table.specs.declared.entry.Outward.TheVariants as kernel_outward
use Rattle.kernel_sound.specs.Sound.{IsHeldWell}
use Rattle.kernel_step.specs.Rows.{ends_in}
use Rattle.service_change.proofs.Facts.{posted-Posted}
use Rattle.service_lawful.specs.Consistent.{IsConsistent, is_open}
use Rattle.service_step.specs.Ends.{is_idle, is_idle_inward, is_idle_outward, is_living, is_posted, is_taken, matched_message, matches, waiting_message}
use Rattle.service_step.specs.State.{State}
use Rattle.service_step.specs.Steps.{IsServiceStep, may_match}
use Rattle.service_step.specs.declared.state.End.{End}
use Rattle.service_step.specs.declared.state.Inward.TheVariants as inward
use Rattle.service_step.specs.declared.state.Outward.{Outward}
use Rattle.service_step.specs.declared.state.Outward.TheVariants as outward
use Rattle.service_step.specs.declared.state.Place.{Place}
use Rattle.service_step.specs.declared.state.Place.TheVariants as place
use Rattle.theorem_meaning.specs.Fields.{At, Flying, IsAskedAs, IsUnserved}
use Rattle.theorem_meaning.specs.Invariant.{AreRight, is_message_of, is_taken_of}
use Rattle.theorem_meaning.specs.Packets.{IsUnderWay, Links, how_many, one_if, values_of}
use Rattle.theorem_meaning.specs.StandsFor.{AreLinksOf, IsEnclosed, IsInMessage, IsInwardOf, IsOutwardOf, entry_at, home_of}
use Rattle.theorem_take_silent.proofs.Places.{here-kernel}
use Rattle.theorem_take_silent.proofs.Values.{value-found}
use Rattle.theorem_meaning.proofs.Plain.{there-here, waiting-so}
use Rattle.theorem_take_want.proofs.Anew.{view_or}
use Rattle.theorem_take_want.proofs.Asked.{had, lives, opened, own-fields, unaware}

idle-posted : (x : End) → is_idle x ≡ true → x.inward ≡ inward.Posted → ⊥
idle-posted x idle posts = by (is_idle_outward x.outward) (ap (λ z. is_idle_outward x.outward && is_idle_inward z) (sym posts) ∙ idle)
  where
    by : (b : Bool) → (b && false) ≡ true → ⊥
    by true is = true≢false (sym is)
    by false is = true≢false (sym is)

module _ (i : ℕ) (w : Links) (s : State) (right : AreRight i w s) (links : AreLinksOf w s) (kept : IsConsistent s) (few : length s.made ≤ 8) (held : (j : ℕ) (e : EndId) → IfHere (entry_at w j e) (λ x. IsHeldWell (length s.homes) x x.holder)) where
  -- a process owns an end at the kernel that has it here
  pub home-of : (e : EndId) (p : Pid) (k : ℕ) (v : HereView) → entry_at w k e ≡ entry.Here v → (s.ends e).place ≡ place.Owned p → home_of s p ≡ k
  home-of e p k v here owned =
      let x = there-here (entry_at w (home_of s p) e) (λ v. v.holder ≡ holder.Owner p) ((links.owned e p).0 owned) in
      here-kernel (length s.made) w s.ends few right.named right.marked links.once e (home_of s p) k x.0 v x.1 here

  module _ (k : ℕ) (v : HereView) (here : entry_at w k v.value.end ≡ entry.Here v) (alive : v.value.dead ≡ false) (r j h : ℕ) (asked : IsUnserved w v.value.end v.value r j h) where
    abbrev mine : EndId
    mine = v.value.end

    abbrev other : EndId
    other = opposite v.value.end

    open-here : is_open (s.ends mine) ≡ true
    open-here = opened i w s right links kept few k v here alive

    pub receives : (s.ends other).inward ≡ inward.Posted
    receives = posted-Posted (s.ends other).inward ((right.wanted mine).posted (At k) v.value r j h open-here (had i w s right links kept few k v here) asked)

    -- a message that goes where it is asked for meets its receive
    pub meets : is_living (s.ends other).place ≡ true → IsHereAnd (entry_at w j other) (λ x. IsAskedAs r x.inward)
    meets living = subst (λ z. IsHereAnd z (λ x. IsAskedAs r x.inward)) (sym view.1) (by view.0.inward refl agrees)
      where
        view : (x : HereView) × (entry_at w j other ≡ entry.Here x) × ((x.value.hops ≡ h) × (x.value.asked ≡ r))
        view = there-here (entry_at w j other) (λ x. (x.value.hops ≡ h) × (x.value.asked ≡ r)) ((right.wanted mine).site (At k) v.value r j h open-here (had i w s right links kept few k v here) asked living)

        owner-at : (x : Place) → (s.ends other).place ≡ x → is_living x ≡ true → (p : Pid) × ((s.ends other).place ≡ place.Owned p)
        owner-at (place.Owned p) at is = (p, at)
        owner-at (place.InMessage f n) at is = absurd (idle-posted (s.ends other) (kept.kept.resting other f n at) receives)
        owner-at place.Destroyed at is = absurd (true≢false (sym is))
        owner-at place.Unmade at is = absurd (true≢false (sym is))

        owns : (p : Pid) × ((s.ends other).place ≡ place.Owned p)
        owns = owner-at (s.ends other).place refl living

        agrees : IsInwardOf w other view.0.inward inward.Posted
        agrees =
            let x = links.agree other owns.0 view.0 owns.1 (subst (λ z. entry_at w z other ≡ entry.Here view.0) (sym (home-of other owns.0 j view.0 view.1 owns.1)) view.1) in
            subst (IsInwardOf w other view.0.inward) receives x.inward

        last : (q : ℕ) → IsAskedAs q view.0.inward → q ≡ r
        last q asks = (right.asked other).last j view.0 q view.1 asks ∙ view.2.1

        by : (x : KernelInward) → view.0.inward ≡ x → IsInwardOf w other x inward.Posted → IsAskedAs r view.0.inward
        by kernel_inward.Idle is has = absurd has
        by (kernel_inward.Posted q) is has = subst (IsAskedAs r) (sym is) (last q (subst (IsAskedAs q) (sym is) refl))
        by (kernel_inward.Withdrawing q) is has = subst (IsAskedAs r) (sym is) (last q (subst (IsAskedAs q) (sym is) refl))
        by kernel_inward.Unreported is has = absurd has

    module _ (n : ℕ) (bytes : List ℕ) (xs : List EndId) (waits : v.outward ≡ kernel_outward.Waiting n bytes xs) where
      not-flying : (P : PictureWhat → Type 0) → IsUnderWay w (λ q. P q × Contains (ends_in (values_of q)) mine) → ⊥
      not-flying P x =
          let m = value-found mine (values_of x.packet.what) x.is.1 in
          let no : Flying ≡ At k = (own-fields i w s right links kept few k v here Flying m.0 (record { from = x.from; to = x.to; packet = x.packet; there = x.there; is = m.1 }, m.2)).0 in
          cc

      not-enclosed : (f : EndId) (m : ℕ) → IsEnclosed w mine f m → ⊥
      not-enclosed f m x =
          let y = there-here (entry_at w x.at mine) (λ v. v.holder ≡ holder.EnclosedIn f) x.enclosed in
          let site : x.at ≡ k = here-kernel (length s.made) w s.ends few right.named right.marked links.once mine x.at k y.0 v y.1 here in
          let same : y.0 ≡ v = ap (view_or v) (sym y.1 ∙ ap (λ z. entry_at w z mine) site ∙ here) in
          let enclosed : v.holder ≡ holder.EnclosedIn f = subst (λ (z : HereView). z.holder ≡ holder.EnclosedIn f) same y.2 in
          let idle = subst (IsHeldWell (length s.homes) v) enclosed (subst (λ z. IfHere z (λ x. IsHeldWell (length s.homes) x x.holder)) here (held k mine)) in
          let no : kernel_outward.Idle ≡ kernel_outward.Waiting n bytes xs = sym idle.outward ∙ waits in
          cc

      not-in : (f : EndId) (m : ℕ) → IsInMessage w mine f m → ⊥
      not-in f m (inl x) = not-enclosed f m x
      not-in f m (inr (inl x)) = not-flying _ x
      not-in f m (inr (inr x)) = not-flying _ x

      -- an end whose send waits is owned
      pub sender : (p : Pid) × ((s.ends mine).place ≡ place.Owned p)
      sender = by (s.ends mine).place refl (lives i w s right links kept few k v here)
        where
          by : (x : Place) → (s.ends mine).place ≡ x → is_living x ≡ true → (p : Pid) × ((s.ends mine).place ≡ place.Owned p)
          by (place.Owned p) at is = (p, at)
          by (place.InMessage f m) at is = absurd (not-in f m ((links.in_message mine f m).0 at))
          by place.Destroyed at is = absurd (true≢false (sym is))
          by place.Unmade at is = absurd (true≢false (sym is))

      waiting : (n ≡ (s.ends mine).sent) × ((s.ends mine).outward ≡ outward.Waiting (record { bytes = bytes; carried = xs }))
      waiting =
          let x = links.agree mine sender.0 v sender.1 (subst (λ z. entry_at w z mine ≡ entry.Here v) (sym (home-of mine sender.0 k v here sender.1)) here) in
          waiting-so w mine (s.ends mine).sent n bytes xs (s.ends mine).outward (subst (λ z. IsOutwardOf w mine (s.ends mine).sent z (s.ends mine).outward) waits x.outward)

      -- its message waits in the service too
      pub message-waits : (s.ends mine).outward ≡ outward.Waiting (record { bytes = bytes; carried = xs })
      message-waits = waiting.1

      pub number : (s.ends mine).sent ≡ n
      number = sym waiting.0

      -- so the service may match it
      pub may-match : may_match s.ends mine n ≡ true
      may-match =
          ap (λ z. is_some (waiting_message z) && nat_eq (s.ends mine).sent n && not (s.ends mine).noticed && is_posted (s.ends other).inward) message-waits
          ∙ ap (λ z. z && not (s.ends mine).noticed && is_posted (s.ends other).inward) (eq-eqb (s.ends mine).sent n number)
          ∙ ap (λ z. not z && is_posted (s.ends other).inward) (unaware i w s right links kept few k v here alive)
          ∙ ap is_posted receives

      pub matched-step : IsServiceStep s (step.Match mine n) (record s { ends = matches mine n s.ends })
      matched-step = record { allowed = may-match; after = refl }

      -- no packet carries its message, and none tells that it was taken
      pub none-carries : how_many (is_message_of mine) w ≡ 0
      none-carries = (right.once mine).message ∙ ap (λ (z : Outward). one_if (is_some (matched_message z))) message-waits

      pub none-tells : how_many (is_taken_of mine) w ≡ 0
      none-tells = (right.once mine).told (lives i w s right links kept few k v here) ∙ ap (λ (z : Outward). one_if (is_taken z)) message-waits
