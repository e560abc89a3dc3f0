-- NOTICE at an end that is here and whose opposite is destroyed: as a part of an event it turns entries alone. The service goes with it by
-- the step notice, and all clauses on links stay.
use Rattle.std.proofs.Common.{◌≡◌, ◌≢◌, ◌⊎◌, inl, inr, ℕ, ◌≤◌, Bool, true, false, nat_eq, ◌&&◌, ◌||◌, not, if◌then◌else◌, List, [], ◌∷◌, ◌++◌, length, Contains, None, Some, refl, sym, ap, subst, ◌∙◌, true≢false, eqb-true, eq-eqb}
use Rattle.std.proofs.lemmas.Bool.Decides.{eqb_tells}
use Rattle.std.specs.List.{list_any}
use Rattle.charlotte_calls.specs.Names.{opposite}
use Rattle.charlotte_calls.specs.declared.calls.Report.{Report}
use Rattle.charlotte_calls.specs.declared.calls.ServiceStep.TheVariants as step
use Rattle.charlotte_calls.specs.declared.names.EndId.{EndId}
use Rattle.charlotte_calls.specs.declared.names.Pid.{Pid}
use Rattle.charlotte_packets.specs.declared.picture.MovingPicture.{MovingPicture}
use Rattle.charlotte_packets.specs.declared.picture.PictureWhat.{PictureWhat}
use Rattle.end_table.proofs.EndEq.{end_eq-refl, end_eq-same}
use Rattle.end_table.specs.Place.{end_eq}
use Rattle.end_table.specs.Table.{IsHereAnd, IsIdle, IsOfEnd}
use Rattle.end_table.specs.declared.entry.Entry.{Entry}
use Rattle.end_table.specs.declared.entry.Entry.TheVariants as entry
use Rattle.end_table.specs.declared.entry.HereView.{HereView}
use Rattle.end_table.specs.declared.entry.Holder.{Holder}
use Rattle.end_table.specs.declared.entry.Holder.TheVariants as holder
use Rattle.end_table.specs.declared.entry.Inward.{Inward as KernelInward}
use Rattle.end_table.specs.declared.entry.Inward.TheVariants as kernel_inward
use Rattle.end_table.specs.declared.entry.Outward.{Outward as KernelOutward}
use Rattle.end_table.specs.declared.entry.Outward.TheVariants as kernel_outward
use Rattle.kernel_effects.proofs.Actions.{notices-does}
use Rattle.kernel_effects.specs.Actions.{held_entry, notice_effect, noticed_view, receive_notice, send_notice}
use Rattle.theorem_call_wait.proofs.Sound.{AreDifferent-held}
use Rattle.kernel_sound.proofs.Actions.{notices-well}
use Rattle.kernel_sound.proofs.Goes.{GoesWell}
use Rattle.kernel_sound.proofs.Needs.{IfHere-at, apart_at-sound}
use Rattle.kernel_sound.specs.Sound.{AreHeldBy, IsHeldWell, IsSound}
use Rattle.kernel_step.specs.Actions.{enclosed_of, is_withdrawing, notices as kernel_notices}
use Rattle.kernel_step.specs.Progress.{Progress}
use Rattle.kernel_step.specs.Rows.{ends_in}
use Rattle.service_change.proofs.Change.{living-made}
use Rattle.service_change.proofs.Facts.{put_process-at, put_process-other}
use Rattle.service_change.proofs.EndEq.{Contains-among, among, among-Contains, at_place, places-among, places-other, puts-at, puts-other}
use Rattle.service_lawful.specs.Consistent.{IsConsistent}
use Rattle.service_step.specs.Ends.{carried_by, is_destroyed, is_living, is_made, is_started_inward, noticed_end, notices, owner, places, puts, to_owner, waiting_message}
use Rattle.service_step.specs.Lawful.{IsCarried, IsHeldAt, message_of}
use Rattle.service_step.specs.State.{Process, State, dead_receive_report, gains, is_cancelling, owner_cancels, put_process, tells, turns, wakes}
use Rattle.service_step.specs.Steps.{IsServiceStep, after_notice, agree, dead_reports, returned_reports}
use Rattle.service_step.specs.declared.state.End.{End}
use Rattle.service_step.specs.declared.state.Inward.{Inward}
use Rattle.service_step.specs.declared.state.Inward.TheVariants as inward
use Rattle.service_step.specs.declared.state.Message.{Message}
use Rattle.service_step.specs.declared.state.Outward.{Outward}
use Rattle.service_step.specs.declared.state.Outward.TheVariants as outward
use Rattle.service_step.specs.declared.state.Phase.{Phase}
use Rattle.service_step.specs.declared.state.Phase.TheVariants as phase
use Rattle.service_step.specs.declared.state.Place.{Place}
use Rattle.service_step.specs.declared.state.Place.TheVariants as place
use Rattle.theorem_take_answer.proofs.Alike.{some-same}
use Rattle.theorem_take_answer.proofs.Places.{fields-here, here-kernel, here-living}
use Rattle.theorem_meaning.proofs.Ends.{eq-same}
use Rattle.theorem_meaning.specs.Fields.{Stand, At, Flying, HasFields, value_of}
use Rattle.theorem_meaning.specs.Invariant.{AreRight}
use Rattle.theorem_meaning.specs.Packets.{IsUnderWay, Links, values_of}
use Rattle.theorem_meaning.specs.StandsFor.{AreLinksOf, IsAskedOf, IsEndOf, IsInMessage, IsInwardOf, IsOutwardOf, IsOwnedHere, IsWaitingWith, entry_at, home_of}
use Rattle.theorem_call_begin.proofs.Making.{value-of_end}
use Rattle.theorem_take_answer.proofs.World.{sound-same}
use Rattle.theorem_meaning.proofs.Plain.{holder-same, owner-same, there-here, view-same, withdrawing-so}
use Rattle.theorem_take_gone.proofs.Noticed.{EndFreed, EndKept, EndNoticed, EntryFreed, EntryKept, EntryNoticed, IsNoticedEnd, IsNoticedEntry}
use Rattle.theorem_take_gone.proofs.NoticedClauses.{IsNoticing, noticing-right}
use Rattle.theorem_take_gone.proofs.NoticedLinks.{noticing-links}

-- the links once kernel k did NOTICE at the end of this view
abbrev pub noticed_links : ℕ → HereView → Links → Links
noticed_links k v w = record { entry = λ j q. if nat_eq j k then (notice_effect k v).entry q (w.entry j q) else w.entry j q; packets = w.packets }

-- one of the ends that a send holds
held-among : (e : EndId) (t : EndId → Entry) (q : EndId) (xs : List EndId) → AreHeldBy e t xs → list_any (end_eq q) xs ≡ true → IsHereAnd (t q) (λ u. IsIdle u × (u.holder ≡ holder.EnclosedIn e))
held-among e t q [] held among = absurd (true≢false (sym among))
held-among e t q (x ∷ xs) held among = by (end_eq q x) refl among (held-among e t q xs held.2)
  where
    by : (b : Bool) → end_eq q x ≡ b → (b || list_any (end_eq q) xs) ≡ true → (list_any (end_eq q) xs ≡ true → IsHereAnd (t q) (λ u. IsIdle u × (u.holder ≡ holder.EnclosedIn e))) → IsHereAnd (t q) (λ u. IsIdle u × (u.holder ≡ holder.EnclosedIn e))
    by true same some rest = subst (λ z. IsHereAnd (t z) (λ u. IsIdle u × (u.holder ≡ holder.EnclosedIn e))) (sym (end_eq-same q x same)) held.0
    by false apart some rest = rest some

-- the service finds an end among others as kernels do
among-same : (q : EndId) (xs : List EndId) → among q xs ≡ list_any (end_eq q) xs
among-same q [] = refl
among-same q (x ∷ xs) = ap (λ b. b || among q xs) (eq-same q x) ∙ ap (λ b. end_eq q x || b) (among-same q xs)

-- ---- a send and a receive, at a kernel and in the service

module _ (w : Links) (e : EndId) where
  carried-same : (n : ℕ) (o : KernelOutward) (x : Outward) → IsOutwardOf w e n o x → carried_by (waiting_message x) ≡ enclosed_of o
  carried-same n kernel_outward.Idle outward.Idle is = refl
  carried-same n (kernel_outward.Waiting m bytes xs) (outward.Waiting message) is = ap (λ (z : Message). z.carried) is.1
  carried-same n (kernel_outward.Matched m) (outward.Matched message) is = refl
  carried-same n (kernel_outward.Matched m) outward.Taken is = refl
  carried-same n kernel_outward.Unreported outward.Unreported is = refl
  carried-same n _ _ is = absurd is

  -- a send that encloses ends waits
  waiting-so : (n : ℕ) (o : KernelOutward) (x : Outward) (q : EndId) → IsOutwardOf w e n o x → list_any (end_eq q) (enclosed_of o) ≡ true → (m : Message) × (x ≡ outward.Waiting m)
  waiting-so n (kernel_outward.Waiting m bytes xs) (outward.Waiting message) q is among = (message, refl)
  waiting-so n (kernel_outward.Waiting m bytes xs) outward.Idle q is among = absurd is
  waiting-so n (kernel_outward.Waiting m bytes xs) (outward.Matched message) q is among = absurd is
  waiting-so n (kernel_outward.Waiting m bytes xs) outward.Taken q is among = absurd is
  waiting-so n (kernel_outward.Waiting m bytes xs) outward.Unreported q is among = absurd is
  waiting-so n kernel_outward.Idle x q is among = absurd (true≢false (sym among))
  waiting-so n (kernel_outward.Matched m) x q is among = absurd (true≢false (sym among))
  waiting-so n kernel_outward.Unreported x q is among = absurd (true≢false (sym among))

  waiting-of : (n k : ℕ) (o : KernelOutward) (x : Outward) → IsOutwardOf w e n o x → IsWaitingWith k o → (m : Message) × (x ≡ outward.Waiting m)
  waiting-of n k (kernel_outward.Waiting m bytes xs) (outward.Waiting message) is waits = (message, refl)
  waiting-of n k (kernel_outward.Waiting m bytes xs) outward.Idle is waits = absurd is
  waiting-of n k (kernel_outward.Waiting m bytes xs) (outward.Matched message) is waits = absurd is
  waiting-of n k (kernel_outward.Waiting m bytes xs) outward.Taken is waits = absurd is
  waiting-of n k (kernel_outward.Waiting m bytes xs) outward.Unreported is waits = absurd is
  waiting-of n k _ x is waits = absurd waits

  -- their reports are the same
  send-told : (n : ℕ) (o : KernelOutward) (x : Outward) → IsOutwardOf w e n o x → returned_reports e (waiting_message x) ≡ send_notice e o
  send-told n kernel_outward.Idle outward.Idle is = refl
  send-told n (kernel_outward.Waiting m bytes xs) (outward.Waiting message) is = ap (λ (z : Message). returned_reports e (Some z)) is.1
  send-told n (kernel_outward.Matched m) (outward.Matched message) is = refl
  send-told n (kernel_outward.Matched m) outward.Taken is = refl
  send-told n kernel_outward.Unreported outward.Unreported is = refl
  send-told n _ _ is = absurd is

  asked-started : (r : ℕ) (i : Inward) → IsAskedOf w e r i → is_started_inward i ≡ true
  asked-started r (inward.Matched n) is = refl
  asked-started r inward.Withdrawn is = refl
  asked-started r inward.Posted is = refl
  asked-started r inward.Idle is = absurd is
  asked-started r inward.Unreported is = absurd is

  receive-told : (o : KernelInward) (x : End) → IsInwardOf w e o x.inward → dead_reports e x ≡ receive_notice e o
  receive-told o x is = by o x.inward is
    where
      by : (o : KernelInward) (i : Inward) → IsInwardOf w e o i → (if is_started_inward i then dead_receive_report e ∷ [] else []) ≡ receive_notice e o
      by kernel_inward.Idle inward.Idle is = refl
      by (kernel_inward.Posted v) i is = ap (λ b. if b then dead_receive_report e ∷ [] else []) (asked-started v i is)
      by (kernel_inward.Withdrawing v) i is = ap (λ b. if b then dead_receive_report e ∷ [] else []) (asked-started v i is)
      by kernel_inward.Unreported inward.Unreported is = refl
      by _ _ is = absurd is

-- ---- what the service makes of a process that it tells

module _ (p : Pid) (e : EndId) where
  wakes-own : (f : ℕ → Process) → wakes p e f p.0 ≡ record (f p.0) { phase = if is_cancelling e (f p.0).phase then phase.Running else (f p.0).phase }
  unfolding wakes turns
  wakes-own f = by (is_cancelling e (f p.0).phase)
    where
      by : (b : Bool) → (if b then put_process p (record (f p.0) { phase = phase.Running }) f else f) p.0 ≡ record (f p.0) { phase = if b then phase.Running else (f p.0).phase }
      by true = put_process-at p (record (f p.0) { phase = phase.Running }) f
      by false = refl

  wakes-other : (f : ℕ → Process) (q : ℕ) → nat_eq p.0 q ≡ false → wakes p e f q ≡ f q
  unfolding wakes turns
  wakes-other f q apart = by (is_cancelling e (f p.0).phase)
    where
      by : (b : Bool) → (if b then put_process p (record (f p.0) { phase = phase.Running }) f else f) q ≡ f q
      by true = put_process-other p (record (f p.0) { phase = phase.Running }) f (record { 0 = q }) apart
      by false = refl

  module _ (rs : List Report) (f : ℕ → Process) where
    gains-own : gains p rs f p.0 ≡ record (f p.0) { reports = (f p.0).reports ++ rs }
    unfolding gains
    gains-own = put_process-at p (record (f p.0) { reports = (f p.0).reports ++ rs }) f

    told-own : tells (Some p) e rs f p.0 ≡ record { phase = if is_cancelling e (f p.0).phase then phase.Running else (f p.0).phase; reports = (f p.0).reports ++ rs }
    told-own = wakes-own (gains p rs f) ∙ ap (λ (z : Process). record z { phase = if is_cancelling e z.phase then phase.Running else z.phase }) gains-own

    told-other : (q : ℕ) → nat_eq p.0 q ≡ false → tells (Some p) e rs f q ≡ f q
    unfolding gains
    told-other q apart = wakes-other (gains p rs f) q apart ∙ put_process-other p (record (f p.0) { reports = (f p.0).reports ++ rs }) f (record { 0 = q }) apart

-- ---- an end that is here, and whose opposite is destroyed

module _ (i : ℕ) (w : Links) (s : State) (right : AreRight i w s) (links : AreLinksOf w s) (kept : IsConsistent s) (few : length s.made ≤ 8) (k made : ℕ) (sound : IsSound k made (length s.homes) (w.entry k))
    (e : EndId) (v : HereView) (here : w.entry k e ≡ entry.Here v) (gone : (s.ends (opposite e)).place ≡ place.Destroyed) where
  abbrev x : End
  x = s.ends e

  abbrev xs : List EndId
  xs = enclosed_of v.outward

  abbrev t : State
  t = after_notice e s

  abbrev y : ℕ → EndId → Entry
  y = (noticed_links k v w).entry

  pub view-end : v.value.end ≡ e
  view-end = subst (IsOfEnd e) here (sound.own e)

  lives : is_living x.place ≡ true
  lives = here-living (length s.made) w s.ends few right.named right.marked links.once e k v here

  is-made : is_made x.place ≡ true
  is-made = living-made x.place lives

  same-kernel : (q : EndId) (j l : ℕ) (a b : HereView) → w.entry j q ≡ entry.Here a → w.entry l q ≡ entry.Here b → j ≡ l
  same-kernel = here-kernel (length s.made) w s.ends few right.named right.marked links.once

  own-fields : (st : Stand) (m : MovingPicture) → HasFields w e st m → (st ≡ At k) × (m ≡ v.value)
  own-fields st m has = fields-here (length s.made) w s.ends few right.named right.marked links.once e k v st m here has

  -- its view at any kernel is that
  only-view : (j : ℕ) (o : HereView) → w.entry j e ≡ entry.Here o → (j ≡ k) × (o ≡ v)
  only-view j o at = let same = same-kernel e j k o v at here in (same, view-same o v (sym (subst (λ z. w.entry z e ≡ entry.Here o) same at) ∙ here))

  stand-apart : Flying ≡ At k → ⊥
  stand-apart same = cc

  not-flying : (P : PictureWhat → Type 0) → IsUnderWay w (λ q. P q × Contains (ends_in (values_of q)) e) → ⊥
  not-flying P u =
      let m = value-of_end (values_of u.packet.what) e u.is.1 in
      stand-apart (own-fields Flying m.0 (record { from = u.from; to = u.to; packet = u.packet; there = u.there; is = m.1 }, m.2)).0

  well : IsHeldWell (length s.homes) v v.holder
  well = IfHere-at (w.entry k e) v (λ v. IsHeldWell (length s.homes) v v.holder) here (sound.held e)

  held : AreHeldBy e (w.entry k) xs
  held = IfHere-at (w.entry k e) v (λ v. AreHeldBy e (w.entry k) (enclosed_of v.outward)) here (sound.enclosed e)

  not-own : list_any (end_eq e) xs ≡ false
  not-own = apart_at-sound k made (length s.homes) (w.entry k) sound e v here

  -- ---- the table stays sound

  abbrev before : Progress
  before = record { table = w.entry k; stamp = 0; packets = []; reports = []; answers = []; steps = [] }

  pub notice-sound : (z : EndId → Entry) → ((q : EndId) → z q ≡ (notice_effect k v).entry q (w.entry k q)) → IsSound k made (length s.homes) z
  notice-sound z same =
      let does = notices-does k v before (AreDifferent-held e (w.entry k) xs held) (subst (λ q. list_any (end_eq q) xs ≡ false) (sym view-end) not-own) sound.own in
      let goes : GoesWell k made (length s.homes) (λ p q. true) (w.entry k) before = record { sound = sound; reports = tt; answers = tt; calm = λ p q is. absurd (true≢false is) } in
      sound-same k made (length s.homes) (kernel_notices k v before).table z (λ q. same q ∙ sym (does.table q))
      (notices-well e v before here (λ p. refl) goes).sound

  -- ---- who holds it

  pub owned-here : (p : Pid) → v.holder ≡ holder.Owner p → (x.place ≡ place.Owned p) × (home_of s p ≡ k)
  owned-here p holds = by x.place refl
    where
      by : (a : Place) → x.place ≡ a → (x.place ≡ place.Owned p) × (home_of s p ≡ k)
      by (place.Owned b) at =
          let o = there-here (w.entry (home_of s b) e) (λ v. v.holder ≡ holder.Owner b) ((links.owned e b).0 at) in
          let same = only-view (home_of s b) o.0 o.1 in
          let who : b ≡ p = holder-same b p (sym o.2 ∙ ap (λ (z : HereView). z.holder) same.1 ∙ holds) in
          (at ∙ ap place.Owned who, subst (λ z. home_of s z ≡ k) who same.0)
      by (place.InMessage f n) at = absurd (inside ((links.in_message e f n).0 at))
        where
          inside : IsInMessage w e f n → ⊥
          inside (inl m) =
              let o = there-here (w.entry m.at e) (λ v. v.holder ≡ holder.EnclosedIn f) m.enclosed in
              let both : holder.EnclosedIn f ≡ holder.Owner p = sym o.2 ∙ ap (λ (z : HereView). z.holder) (only-view m.at o.0 o.1).1 ∙ holds in
              cc
          inside (inr (inl m)) = not-flying _ m
          inside (inr (inr m)) = not-flying _ m
      by place.Destroyed at = absurd (true≢false (sym lives ∙ ap (λ z. is_living z) at))
      by place.Unmade at = absurd (true≢false (sym lives ∙ ap (λ z. is_living z) at))

  not-owned : (on : EndId) → v.holder ≡ holder.EnclosedIn on → (b : Pid) → x.place ≡ place.Owned b → ⊥
  not-owned on holds b at =
      let o = there-here (w.entry (home_of s b) e) (λ v. v.holder ≡ holder.Owner b) ((links.owned e b).0 at) in
      let both : holder.Owner b ≡ holder.EnclosedIn on = sym o.2 ∙ ap (λ (z : HereView). z.holder) (only-view (home_of s b) o.0 o.1).1 ∙ holds in
      cc

  pub ownerless : (on : EndId) → v.holder ≡ holder.EnclosedIn on → owner x.place ≡ None
  ownerless on holds = by x.place refl
    where
      by : (a : Place) → x.place ≡ a → owner a ≡ None
      by (place.Owned b) at = absurd (not-owned on holds b at)
      by (place.InMessage f n) at = refl
      by place.Destroyed at = refl
      by place.Unmade at = refl

  -- ---- entries

  entry-is : (q : EndId) → y k q ≡ (if end_eq e q then entry.Here (noticed_view v) else (if list_any (end_eq q) xs then held_entry v.holder (w.entry k q) else w.entry k q))
  entry-is q =
      ap (λ b. if b then (notice_effect k v).entry q (w.entry k q) else w.entry k q) (eq-eqb k k refl)
      ∙ ap (λ z. if end_eq z q then entry.Here (noticed_view v) else (if list_any (end_eq q) xs then held_entry v.holder (w.entry k q) else w.entry k q)) view-end

  entry-far : (j : ℕ) (q : EndId) → nat_eq j k ≡ false → y j q ≡ w.entry j q
  entry-far j q far = ap (λ b. if b then (notice_effect k v).entry q (w.entry j q) else w.entry j q) far

  -- one of those that it encloses
  holds-there : (q : EndId) → list_any (end_eq q) xs ≡ true → (u : HereView) × (w.entry k q ≡ entry.Here u) × (IsIdle u × (u.holder ≡ holder.EnclosedIn e))
  holds-there q among = there-here (w.entry k q) (λ u. IsIdle u × (u.holder ≡ holder.EnclosedIn e)) (held-among e (w.entry k) q xs held among)

  fields-after : (st : Stand) (m : MovingPicture) → HasFields (noticed_links k v w) e st m → (m.dead ≡ true) × (m.want ≡ 0)
  fields-after Flying m has = absurd (stand-apart (own-fields Flying m (record { from = has.0.from; to = has.0.to; packet = has.0.packet; there = has.0.there; is = has.0.is }, has.1)).0)
  fields-after (At j) m has = by (eqb_tells j k)
    where
      new : y k e ≡ entry.Here (noticed_view v)
      new = entry-is e ∙ ap (λ b. if b then entry.Here (noticed_view v) else (if list_any (end_eq e) xs then held_entry v.holder (w.entry k e) else w.entry k e)) (end_eq-refl e)

      at-same : (a b : ℕ) → At a ≡ At b → a ≡ b
      at-same a b same = cc

      by : ((nat_eq j k ≡ true) × (j ≡ k)) ⊎ ((nat_eq j k ≡ false) × (j ≢ k)) → (m.dead ≡ true) × (m.want ≡ 0)
      by (inl same) =
          let value : (noticed_view v).value ≡ m = some-same (noticed_view v).value m (sym (ap value_of new) ∙ subst (λ z. value_of (y z e) ≡ Some m) same.1 has) in
          (ap (λ (z : MovingPicture). z.dead) (sym value), ap (λ (z : MovingPicture). z.want) (sym value))
      by (inr far) = absurd (far.1 (at-same j k (own-fields (At j) m (sym (ap value_of (entry-far j e far.0)) ∙ has)).0))

  module _ (p : Pid) (mine : (q : EndId) → list_any (end_eq q) xs ≡ true → v.holder ≡ holder.Owner p) where
    noticed-own : (q : EndId) → IsNoticedEntry e p xs q (w.entry k q) (y k q)
    noticed-own q = subst (IsNoticedEntry e p xs q (w.entry k q)) (sym (entry-is q)) (by (end_eq e q) refl (list_any (end_eq q) xs) refl)
      where
        by : (a : Bool) → end_eq e q ≡ a → (b : Bool) → list_any (end_eq q) xs ≡ b
            → IsNoticedEntry e p xs q (w.entry k q) (if a then entry.Here (noticed_view v) else (if b then held_entry v.holder (w.entry k q) else w.entry k q))
        by true same b is = EntryNoticed v same (subst (λ z. w.entry k z ≡ entry.Here v) (end_eq-same e q same) here) refl
        by false apart true among =
            let u = holds-there q among in
            EntryFreed u.0 apart among u.2.0 u.1 (ap (held_entry v.holder) u.1 ∙ ap (λ h. entry.Here (record u.0 { holder = h })) (mine q among))
        by false apart false none = EntryKept refl (λ o at. (apart, none))

    noticed-entries : (j : ℕ) (q : EndId) → IsNoticedEntry e p xs q (w.entry j q) (y j q)
    noticed-entries j q = by (eqb_tells j k)
      where
        apart : j ≢ k → (o : HereView) → w.entry j q ≡ entry.Here o → (b : Bool) → end_eq e q ≡ b → b ≡ false
        apart far o at true same = absurd (far (only-view j o (subst (λ z. w.entry j z ≡ entry.Here o) (sym (end_eq-same e q same)) at)).0)
        apart far o at false same = refl

        none : j ≢ k → (o : HereView) → w.entry j q ≡ entry.Here o → (b : Bool) → list_any (end_eq q) xs ≡ b → b ≡ false
        none far o at true among = let u = holds-there q among in absurd (far (same-kernel q j k o u.0 at u.1))
        none far o at false same = refl

        by : ((nat_eq j k ≡ true) × (j ≡ k)) ⊎ ((nat_eq j k ≡ false) × (j ≢ k)) → IsNoticedEntry e p xs q (w.entry j q) (y j q)
        by (inl same) = subst (λ z. IsNoticedEntry e p xs q (w.entry z q) (y z q)) (sym same.1) (noticed-own q)
        by (inr far) = EntryKept (entry-far j q far.0) (λ o at. (apart far.1 o at (end_eq e q) refl, none far.1 o at (list_any (end_eq q) xs) refl))

  -- ---- ends of the service

  notices-is : (q : EndId) → t.ends q ≡ to_owner (owner x.place) (carried_by (waiting_message x.outward)) (puts e (noticed_end x) s.ends) q
  unfolding notices
  notices-is q = refl

  -- ---- it is owned

  module _ (p : Pid) (holds : v.holder ≡ holder.Owner p) where
    owned : x.place ≡ place.Owned p
    owned = (owned-here p holds).0

    home : home_of s p ≡ k
    home = (owned-here p holds).1

    agrees : IsEndOf w e v x
    agrees = links.agree e p v owned (subst (λ z. w.entry z e ≡ entry.Here v) (sym home) here)

    abbrev told : List Report
    told = returned_reports e (waiting_message x.outward) ++ dead_reports e x

    -- the reports are those of the kernel
    pub told-same : told ≡ send_notice v.value.end v.outward ++ receive_notice v.value.end v.inward
    told-same =
        ap (λ l. l ++ dead_reports e x) (send-told w e x.sent v.outward x.outward agrees.outward) ∙ ap (λ l. send_notice e v.outward ++ l) (receive-told w e v.inward x agrees.inward)
        ∙ ap (λ z. send_notice z v.outward ++ receive_notice z v.inward) (sym view-end)

    ends-is : (q : EndId) → t.ends q ≡ places (place.Owned p) xs (puts e (noticed_end x) s.ends) q
    ends-is q =
        notices-is q ∙ ap (λ z. to_owner (owner z) (carried_by (waiting_message x.outward)) (puts e (noticed_end x) s.ends) q) owned
        ∙ ap (λ l. places (place.Owned p) l (puts e (noticed_end x) s.ends) q) (carried-same w e x.sent v.outward x.outward agrees.outward)

    own-end : t.ends e ≡ noticed_end x
    own-end = ends-is e ∙ places-other (place.Owned p) xs (puts e (noticed_end x) s.ends) e (among-same e xs ∙ not-own) ∙ puts-at e (noticed_end x) s.ends is-made

    waits : (q : EndId) → list_any (end_eq q) xs ≡ true → (m : Message) × (x.outward ≡ outward.Waiting m)
    waits q among = waiting-so w e x.sent v.outward x.outward q agrees.outward among

    carries : (m : Message) → x.outward ≡ outward.Waiting m → m.carried ≡ xs
    carries m is = sym (ap (λ z. carried_by (waiting_message z)) is) ∙ carried-same w e x.sent v.outward x.outward agrees.outward

    inside : (q : EndId) → list_any (end_eq q) xs ≡ true → (s.ends q).place ≡ place.InMessage e x.sent
    inside q among =
        let m = waits q among in
        kept.kept.held.carried e q x.sent
        (record { message = m.0; there = ap (λ z. message_of z) m.1; number = refl; carries = subst (λ l. Contains l q) (sym (carries m.0 m.1)) (among-Contains q xs (among-same q xs ∙ among)) })

    noticed-ends : (q : EndId) → IsNoticedEnd e p xs q (s.ends q) (t.ends q)
    noticed-ends q = by (end_eq e q) refl (list_any (end_eq q) xs) refl
      where
        by : (a : Bool) → end_eq e q ≡ a → (b : Bool) → list_any (end_eq q) xs ≡ b → IsNoticedEnd e p xs q (s.ends q) (t.ends q)
        by true same b is =
            EndNoticed same (subst (λ z. is_living (s.ends z).place ≡ true) (end_eq-same e q same) lives) (subst (λ z. t.ends z ≡ noticed_end (s.ends z)) (end_eq-same e q same) own-end)
        by false apart true among =
            let other : puts e (noticed_end x) s.ends q ≡ s.ends q = puts-other e (noticed_end x) s.ends q (eq-same e q ∙ apart) in
            let within = inside q among in
            EndFreed x.sent apart among within (kept.kept.resting q e x.sent within)
            (ends-is q ∙ places-among (place.Owned p) xs (puts e (noticed_end x) s.ends) q refl (among-same q xs ∙ among) (ap (λ (z : End). is_made z.place) other ∙ ap (λ z. is_made z) within) ∙ ap (at_place (place.Owned p)) other)
        by false apart false none =
            EndKept apart none (ends-is q ∙ places-other (place.Owned p) xs (puts e (noticed_end x) s.ends) q (among-same q xs ∙ none) ∙ puts-other e (noticed_end x) s.ends q (eq-same e q ∙ apart))

    all : (j : ℕ) (q : EndId) (n : ℕ) → IsHereAnd (entry_at w j e) (λ v. IsWaitingWith n v.outward) → (s.ends q).place ≡ place.InMessage e n → list_any (end_eq q) xs ≡ true
    all j q n waiting within =
        let o = there-here (w.entry j e) (λ v. IsWaitingWith n v.outward) waiting in
        let m = waiting-of w e x.sent n v.outward x.outward agrees.outward (subst (λ (z : HereView). IsWaitingWith n z.outward) (only-view j o.0 o.1).1 o.2) in
        let c : IsCarried s e n q = subst (IsHeldAt s q) within (kept.kept.held.held q) in
        let same : m.0 ≡ c.message = some-same m.0 c.message (sym (ap (λ z. message_of z) m.1) ∙ c.there) in
        sym (among-same q xs) ∙ Contains-among q xs (subst (λ l. Contains l q) (carries m.0 m.1) (subst (λ (z : Message). Contains z.carried q) (sym same) c.carries))

    -- ---- processes

    pub process-own : t.process p.0 ≡ record { phase = if is_cancelling e (s.process p.0).phase then phase.Running else (s.process p.0).phase; reports = (s.process p.0).reports ++ told }
    process-own = ap (λ z. tells (owner z) e told s.process p.0) owned ∙ told-own p e told s.process

    pub process-other : (q : ℕ) → nat_eq p.0 q ≡ false → t.process q ≡ s.process q
    process-other q apart = ap (λ z. tells (owner z) e told s.process q) owned ∙ told-other p e told s.process q apart

    cancelled : (b : Pid) (f : EndId) → end_eq e f ≡ false → (s.process b.0).phase ≡ phase.Cancelling f → (t.process b.0).phase ≡ phase.Cancelling f
    cancelled b f apart cancels = by (nat_eq p.0 b.0) refl
      where
        by : (c : Bool) → nat_eq p.0 b.0 ≡ c → (t.process b.0).phase ≡ phase.Cancelling f
        by true same =
            subst (λ z. (t.process z).phase ≡ phase.Cancelling f) (eqb-true p.0 b.0 same)
            (let mine : (s.process p.0).phase ≡ phase.Cancelling f = subst (λ z. (s.process z).phase ≡ phase.Cancelling f) (sym (eqb-true p.0 b.0 same)) cancels in
            ap (λ (z : Process). z.phase) process-own ∙ ap (λ (z : Phase). if is_cancelling e z then phase.Running else z) mine ∙ ap (λ c. if c then phase.Running else phase.Cancelling f) (eq-same e f ∙ apart))
        by false other = ap (λ (z : Process). z.phase) (process-other b.0 other) ∙ cancels

    cancelling : (b : Pid) (f : EndId) → (t.process b.0).phase ≡ phase.Cancelling f → (end_eq e f ≡ false) × ((s.process b.0).phase ≡ phase.Cancelling f)
    cancelling b f cancels = by (nat_eq p.0 b.0) refl
      where
        same-pid : (a c : Pid) → a.0 ≡ c.0 → a ≡ c
        same-pid a c is = ap (λ n. record { 0 = n }) is

        mine : (c : Bool) → is_cancelling e (s.process p.0).phase ≡ c → (if c then phase.Running else (s.process p.0).phase) ≡ phase.Cancelling f → (end_eq e f ≡ false) × ((s.process p.0).phase ≡ phase.Cancelling f)
        mine true is has = absurd cc
        mine false is has = (sym (eq-same e f) ∙ ap (is_cancelling e) (sym has) ∙ is, has)

        by : (c : Bool) → nat_eq p.0 b.0 ≡ c → (end_eq e f ≡ false) × ((s.process b.0).phase ≡ phase.Cancelling f)
        by true same =
            let who : p.0 ≡ b.0 = eqb-true p.0 b.0 same in
            subst (λ z. (end_eq e f ≡ false) × ((s.process z).phase ≡ phase.Cancelling f)) who
            (mine (is_cancelling e (s.process p.0).phase) refl (sym (ap (λ (z : Process). z.phase) process-own) ∙ subst (λ z. (t.process z).phase ≡ phase.Cancelling f) (sym who) cancels))
        by false other =
            let was : (s.process b.0).phase ≡ phase.Cancelling f = sym (ap (λ (z : Process). z.phase) (process-other b.0 other)) ∙ cancels in
            (apart was (end_eq e f) refl, was)
          where
            apart : (s.process b.0).phase ≡ phase.Cancelling f → (c : Bool) → end_eq e f ≡ c → c ≡ false
            apart was true same =
                let at : x.place ≡ place.Owned b = subst (λ z. (s.ends z).place ≡ place.Owned b) (sym (end_eq-same e f same)) (kept.processes.cancelling b f was).0 in
                absurd (true≢false (sym (eq-eqb p.0 b.0 (ap (λ (z : Pid). z.0) (owner-same p b (sym owned ∙ at)))) ∙ other))
            apart was false same = refl

    -- ---- all of it

    noticing-owned : IsNoticing w y s t.ends t.process e p xs
    noticing-owned =
        record {
          entries = noticed-entries p (λ q among. holds);
          ends = noticed-ends;
          noticed = ap (λ (z : End). z.noticed) own-end;
          fields = fields-after;
          gone = gone;
          waits = waits;
          all = all;
          none = not-own;
          home = λ q among. subst (λ z. IsOwnedHere p (y z q)) (sym home) (freed q among);
          cancelled = cancelled;
          cancelling = cancelling;
        }
      where
        freed : (q : EndId) → list_any (end_eq q) xs ≡ true → IsOwnedHere p (y k q)
        freed q among = by (noticed-own p (λ q among. holds) q)
          where
            by : IsNoticedEntry e p xs q (w.entry k q) (y k q) → IsOwnedHere p (y k q)
            by (EntryKept same others) = let u = holds-there q among in absurd (true≢false (sym among ∙ (others u.0 u.1).1))
            by (EntryFreed u apart is idle was now) = subst (λ z. IsOwnedHere p z) (sym now) refl
            by (EntryNoticed u own was now) = absurd (true≢false (sym among ∙ subst (λ z. list_any (end_eq z) xs ≡ false) (end_eq-same e q own) not-own))

  -- ---- it is enclosed, and so idle

  module _ (on : EndId) (holds : v.holder ≡ holder.EnclosedIn on) where
    rests : IsIdle v
    rests = subst (IsHeldWell (length s.homes) v) holds well

    abbrev any : Pid
    any = record { 0 = 0 }

    none-of : (q : EndId) → list_any (end_eq q) xs ≡ false
    none-of q = ap (λ o. list_any (end_eq q) (enclosed_of o)) rests.outward

    ends-so : (q : EndId) → t.ends q ≡ puts e (noticed_end x) s.ends q
    ends-so q = notices-is q ∙ ap (λ z. to_owner z (carried_by (waiting_message x.outward)) (puts e (noticed_end x) s.ends) q) (ownerless on holds)

    pub process-same : (q : ℕ) → t.process q ≡ s.process q
    process-same q = ap (λ z. tells z e (returned_reports e (waiting_message x.outward) ++ dead_reports e x) s.process q) (ownerless on holds)

    enclosed-own : t.ends e ≡ noticed_end x
    enclosed-own = ends-so e ∙ puts-at e (noticed_end x) s.ends is-made

    noticing-enclosed : IsNoticing w y s t.ends t.process e any xs
    noticing-enclosed =
        record {
          entries = noticed-entries any (λ q among. absurd (true≢false (sym among ∙ none-of q)));
          ends = λ q. ends q (end_eq e q) refl;
          noticed = ap (λ (z : End). z.noticed) enclosed-own;
          fields = fields-after;
          gone = gone;
          waits = λ q among. absurd (true≢false (sym among ∙ none-of q));
          all = λ j q n waiting within. absurd (idle j n waiting);
          none = none-of e;
          home = λ q among. absurd (true≢false (sym among ∙ none-of q));
          cancelled = λ b f apart cancels. ap (λ (z : Process). z.phase) (process-same b.0) ∙ cancels;
          cancelling = λ b f cancels. let was = sym (ap (λ (z : Process). z.phase) (process-same b.0)) ∙ cancels in (apart b f was (end_eq e f) refl, was);
        }
      where
        ends : (q : EndId) (a : Bool) → end_eq e q ≡ a → IsNoticedEnd e any xs q (s.ends q) (t.ends q)
        ends q true same =
            EndNoticed same (subst (λ z. is_living (s.ends z).place ≡ true) (end_eq-same e q same) lives) (subst (λ z. t.ends z ≡ noticed_end (s.ends z)) (end_eq-same e q same) enclosed-own)
        ends q false apart = EndKept apart (none-of q) (ends-so q ∙ puts-other e (noticed_end x) s.ends q (eq-same e q ∙ apart))

        idle : (j n : ℕ) → IsHereAnd (entry_at w j e) (λ v. IsWaitingWith n v.outward) → ⊥
        idle j n waiting =
            let o = there-here (w.entry j e) (λ v. IsWaitingWith n v.outward) waiting in
            subst (IsWaitingWith n) rests.outward (subst (λ (z : HereView). IsWaitingWith n z.outward) (only-view j o.0 o.1).1 o.2)

        apart : (b : Pid) (f : EndId) → (s.process b.0).phase ≡ phase.Cancelling f → (c : Bool) → end_eq e f ≡ c → c ≡ false
        apart b f was true same = absurd (not-owned on holds b (subst (λ z. (s.ends z).place ≡ place.Owned b) (sym (end_eq-same e f same)) (kept.processes.cancelling b f was).0))
        apart b f was false same = refl

  -- ---- so all clauses on links stay, and the service may notice it

  noticed-both : AreLinksOf (noticed_links k v w) t × AreRight i (noticed_links k v w) t
  noticed-both = by v.holder refl
    where
      by : (h : Holder) → v.holder ≡ h → AreLinksOf (noticed_links k v w) t × AreRight i (noticed_links k v w) t
      by (holder.Owner p) holds = (noticing-links (noticing-owned p holds) links right.packets right.counted, noticing-right (noticing-owned p holds) i right)
      by (holder.EnclosedIn on) holds = (noticing-links (noticing-enclosed on holds) links right.packets right.counted, noticing-right (noticing-enclosed on holds) i right)

  pub notice-links : AreLinksOf (noticed_links k v w) t
  notice-links = noticed-both.0

  pub notice-right : AreRight i (noticed_links k v w) t
  notice-right = noticed-both.1

  module _ (alive : v.value.dead ≡ false) where
    unaware : x.noticed ≡ false
    unaware = sym ((right.counted e).dead (At k) v.value lives (ap value_of here)) ∙ alive

    cancelling-so : (a : Phase) → is_cancelling e a ≡ true → a ≡ phase.Cancelling e
    cancelling-so (phase.Cancelling f) is = ap phase.Cancelling (sym (end_eq-same e f (sym (eq-same e f) ∙ is)))
    cancelling-so phase.Running is = absurd (true≢false (sym is))
    cancelling-so phase.Waiting is = absurd (true≢false (sym is))
    cancelling-so phase.Ended is = absurd (true≢false (sym is))

    -- its owner is in a Cancel where the receive is being withdrawn
    pub cancels-same : (p : Pid) → v.holder ≡ holder.Owner p → is_cancelling e (s.process p.0).phase ≡ is_withdrawing v.inward
    cancels-same p holds = by (is_withdrawing v.inward) refl (is_cancelling e (s.process p.0).phase) refl
      where
        by : (a : Bool) → is_withdrawing v.inward ≡ a → (b : Bool) → is_cancelling e (s.process p.0).phase ≡ b → b ≡ a
        by true withdraws b is =
            let r = withdrawing-so v.inward withdraws in
            let cancels = (right.asked e).cancelled k v r.0 p here r.1 holds in
            sym is ∙ ap (is_cancelling e) cancels ∙ eq-same e e ∙ end_eq-refl e
        by false quiet false is = refl
        by false quiet true is =
            let o = there-here (w.entry (home_of s p) e) (λ v. is_withdrawing v.inward ≡ true) (right.cancelling p e (cancelling-so (s.process p.0).phase is)) in
            absurd (true≢false (sym o.2 ∙ ap (λ (z : HereView). is_withdrawing z.inward) (only-view (home_of s p) o.0 o.1).1 ∙ quiet))

    cancels-so : owner_cancels (owner x.place) e s.process ≡ is_withdrawing v.inward
    cancels-so = by v.holder refl
      where
        by : (h : Holder) → v.holder ≡ h → owner_cancels (owner x.place) e s.process ≡ is_withdrawing v.inward
        by (holder.Owner p) holds = ap (λ z. owner_cancels (owner z) e s.process) (owned-here p holds).0 ∙ cancels-same p holds
        by (holder.EnclosedIn on) holds = ap (λ z. owner_cancels z e s.process) (ownerless on holds) ∙ sym (ap is_withdrawing (rests on holds).inward)

    agree-own : (b : Bool) → agree b b ≡ true
    agree-own true = refl
    agree-own false = refl

    -- the service notices it
    pub notice-step : IsServiceStep s (step.Notice e (is_withdrawing v.inward)) t
    notice-step =
        record {
          allowed =
              ap (λ z. is_destroyed z && is_living x.place && not x.noticed && agree (is_withdrawing v.inward) (owner_cancels (owner x.place) e s.process)) gone
              ∙ ap (λ b. b && not x.noticed && agree (is_withdrawing v.inward) (owner_cancels (owner x.place) e s.process)) lives
              ∙ ap (λ b. not b && agree (is_withdrawing v.inward) (owner_cancels (owner x.place) e s.process)) unaware
              ∙ ap (agree (is_withdrawing v.inward)) cancels-so
              ∙ agree-own (is_withdrawing v.inward);
          after = refl;
        }
