-- The death of its link is noticed at an end: the links go on to stand for the ends of the service.
use Rattle.std.proofs.Common.{◌≡◌, ◌↔◌, inl, inr, ℕ, Bool, true, false, List, Contains, refl, sym, ap, subst, ◌∙◌, arith, true≢false}
use Rattle.std.proofs.lemmas.List.Elements.{All-contains}
use Rattle.std.specs.List.{list_any}
use Rattle.charlotte_calls.specs.Names.{opposite}
use Rattle.charlotte_calls.specs.declared.names.EndId.{EndId}
use Rattle.charlotte_calls.specs.declared.names.Pid.{Pid}
use Rattle.charlotte_packets.specs.declared.picture.MovingPicture.{MovingPicture}
use Rattle.charlotte_packets.specs.declared.picture.PictureWhat.{PictureWhat}
use Rattle.charlotte_packets.specs.declared.picture.PictureWhat.TheVariants as packet
use Rattle.end_table.proofs.EndEq.{end_eq-refl, end_eq-same}
use Rattle.end_table.specs.Place.{end_eq}
use Rattle.end_table.specs.Table.{IsHereAnd, IsIdle}
use Rattle.end_table.specs.declared.entry.Entry.{Entry}
use Rattle.end_table.specs.declared.entry.Entry.TheVariants as entry
use Rattle.end_table.specs.declared.entry.HereView.{HereView}
use Rattle.end_table.specs.declared.entry.Holder.{Holder}
use Rattle.end_table.specs.declared.entry.Holder.TheVariants as holder
use Rattle.end_table.specs.declared.entry.Inward.{Inward as KernelInward}
use Rattle.end_table.specs.declared.entry.Inward.TheVariants as kernel_inward
use Rattle.end_table.specs.declared.entry.Outward.{Outward as KernelOutward}
use Rattle.end_table.specs.declared.entry.Outward.TheVariants as kernel_outward
use Rattle.kernel_effects.specs.Actions.{noticed_view}
use Rattle.kernel_step.specs.Actions.{noticed_inward as kernel_noticed_inward, noticed_outward as kernel_noticed_outward}
use Rattle.kernel_step.specs.Rows.{ends_in, is_here}
use Rattle.service_change.proofs.Change.{idle-parts}
use Rattle.service_step.specs.Ends.{is_idle, is_living, noticed_end, noticed_inward, noticed_outward}
use Rattle.service_step.specs.State.{Process, State}
use Rattle.service_step.specs.declared.state.End.{End}
use Rattle.service_step.specs.declared.state.Inward.{Inward}
use Rattle.service_step.specs.declared.state.Inward.TheVariants as inward
use Rattle.service_step.specs.declared.state.Message.{Message}
use Rattle.service_step.specs.declared.state.Outward.{Outward}
use Rattle.service_step.specs.declared.state.Outward.TheVariants as outward
use Rattle.service_step.specs.declared.state.Place.TheVariants as place
use Rattle.theorem_call_wait.proofs.Ends.{inward-same, outward-same}
use Rattle.theorem_meaning.proofs.Ends.{opposite-twice}
use Rattle.theorem_meaning.proofs.Sums.{over-same}
use Rattle.theorem_meaning.specs.Fields.{At, value_of}
use Rattle.theorem_meaning.specs.Invariant.{AreCounted, IsPacketRight}
use Rattle.theorem_meaning.specs.Packets.{Each, IsBackOf, IsParcelFor, IsParcelOf, IsTakenOf, IsUnderWay, IsUnwantedOf, Links, one_if, over_kernels, sum_over, values_for, values_of}
use Rattle.theorem_meaning.specs.StandsFor.{AreLinksOf, IsAskedOf, IsEndOf, IsInMessage, IsInwardOf, IsOutwardOf, IsOwnedHere, IsWaitingWith, entry_at, home_of, standing}
use Rattle.theorem_meaning.proofs.Plain.{holder-same, owner-same, there-here, view-same}
use Rattle.theorem_take_gone.proofs.Noticed.{EndFreed, EndKept, EndNoticed, EntryFreed, EntryKept, EntryNoticed, IsNoticedEnd, IsNoticedEntry, IsNoticedView, end-living, entry-held, entry-is_here, entry-seen, entry-still, entry-was, view-inward, view-outward, view-own, view-value, view-waiting}
use Rattle.theorem_take_gone.proofs.NoticedClauses.{IsNoticing, now, after, sums, under}

message-same : (e f : EndId) (n m : ℕ) → place.InMessage e n ≡ place.InMessage f m → e ≡ f
message-same e f n m same = cc

-- ---- what the service says of a send and a receive that are over

outward-noticed : (w u : Links) (e : EndId) → ((m : ℕ) → IsUnderWay u (IsTakenOf e m) ↔ IsUnderWay w (IsTakenOf e m)) → (n : ℕ) (at : KernelOutward) (o : Outward) → IsOutwardOf w e n at o
    → IsOutwardOf u e n (kernel_noticed_outward at) (noticed_outward o)
outward-noticed w u e taken n kernel_outward.Idle outward.Idle is = is
outward-noticed w u e taken n (kernel_outward.Waiting m bytes xs) (outward.Waiting message) is = tt
outward-noticed w u e taken n (kernel_outward.Matched m) (outward.Matched message) is = (is.0, λ now. is.1 ((taken m).0 now))
outward-noticed w u e taken n (kernel_outward.Matched m) outward.Taken is = (is.0, (taken m).1 is.1)
outward-noticed w u e taken n kernel_outward.Unreported outward.Unreported is = is
outward-noticed w u e taken n _ _ is = absurd is

asked-noticed : (w u : Links) (e : EndId) (v : ℕ) (i : Inward) → IsAskedOf w e v i → IsInwardOf u e kernel_inward.Unreported (noticed_inward i)
asked-noticed w u e v (inward.Matched n) is = tt
asked-noticed w u e v inward.Withdrawn is = tt
asked-noticed w u e v inward.Posted is = tt
asked-noticed w u e v inward.Idle is = absurd is
asked-noticed w u e v inward.Unreported is = absurd is

inward-noticed : (w u : Links) (e : EndId) (at : KernelInward) (i : Inward) → IsInwardOf w e at i → IsInwardOf u e (kernel_noticed_inward at) (noticed_inward i)
inward-noticed w u e kernel_inward.Idle inward.Idle is = is
inward-noticed w u e (kernel_inward.Posted v) i is = asked-noticed w u e v i is
inward-noticed w u e (kernel_inward.Withdrawing v) i is = asked-noticed w u e v i is
inward-noticed w u e kernel_inward.Unreported inward.Unreported is = is
inward-noticed w u e _ _ is = absurd is

parcel-not : (e : EndId) (n : ℕ) (w : Links) (t : EndId → End) (from to : ℕ) (what : PictureWhat) (m : Message) → IsPacketRight w t from to what → IsParcelOf e n what → (t e).outward ≡ outward.Waiting m → ⊥
parcel-not e n w t from to (packet.Parcel f k wanted at hops bytes ms) m right of waits =
    let other : opposite f ≡ e = ap opposite of.0 ∙ opposite-twice e in
    let both : outward.Waiting m ≡ outward.Matched (record { bytes = bytes; carried = ends_in ms }) = sym waits ∙ subst (λ z. (t z).outward ≡ outward.Matched (record { bytes = bytes; carried = ends_in ms })) other right.matched in
    cc
parcel-not e n w t from to _ m right of waits = absurd of

back-not : (e : EndId) (n : ℕ) (w : Links) (t : EndId → End) (from to : ℕ) (what : PictureWhat) (m : Message) → IsPacketRight w t from to what → IsBackOf e n what → (t e).outward ≡ outward.Waiting m → ⊥
back-not e n w t from to (packet.Back f k ms) m right of waits =
    let both : outward.Waiting m ≡ outward.Matched right.matched.message = sym waits ∙ subst (λ z. (t z).outward ≡ outward.Matched right.matched.message) of.0 right.matched.matched in
    cc
back-not e n w t from to _ m right of waits = absurd of

module _ {w : Links} {y : ℕ → EndId → Entry} {s : State} {t : EndId → End} {g : ℕ → Process} {e : EndId} {p : Pid} {xs : List EndId} (is : IsNoticing w y s t g e p xs) (l : AreLinksOf w s)
    (packets : Each w (λ from to q. IsPacketRight w s.ends from to q)) (counted : (q : EndId) → AreCounted w s.ends q) where
  abbrev u : Links
  u = now is

  -- of a packet under way all is right
  right-of : (P : PictureWhat → Type 0) (z : IsUnderWay w P) → IsPacketRight w s.ends z.from z.to z.packet.what
  right-of P z = All-contains (λ o. IsPacketRight w s.ends z.from z.to o.what) (w.packets z.from z.to) z.packet (packets z.from z.to) z.there

  -- an end that was enclosed, where it is here
  freed-view : (j : ℕ) (q : EndId) (o : HereView) → list_any (end_eq q) xs ≡ true → y j q ≡ entry.Here o → (v : HereView) × (w.entry j q ≡ entry.Here v) × IsIdle v × (o ≡ record v { holder = holder.Owner p })
  freed-view j q o among at = by (is.entries j q)
    where
      by : IsNoticedEntry e p xs q (w.entry j q) (y j q) → (v : HereView) × (w.entry j q ≡ entry.Here v) × IsIdle v × (o ≡ record v { holder = holder.Owner p })
      by (EntryKept same others) = absurd (true≢false (sym among ∙ (others o (sym same ∙ at)).1))
      by (EntryFreed v apart has idle was here) = (v, was, idle, view-same o _ (sym at ∙ here))
      by (EntryNoticed v own was here) = absurd (true≢false (sym among ∙ subst (λ z. list_any (end_eq z) xs ≡ false) (end_eq-same e q own) is.none))

  -- ---- clause 2

  standing-now : (q : EndId) → standing u q ≡ standing w q
  unfolding standing
  standing-now q =
      let here : over_kernels (λ j. one_if (is_here (y j q))) ≡ over_kernels (λ j. one_if (is_here (w.entry j q)))
      = over-same (λ j. one_if (is_here (w.entry j q))) (λ j. one_if (is_here (y j q))) (λ j. ap one_if (entry-is_here (is.entries j q))) in
      let values : sum_over (λ z. values_for q (values_of z)) u ≡ sum_over (λ z. values_for q (values_of z)) w = sums is (λ z. values_for q (values_of z)) in
      omega (arith, here, values)

  -- ---- clause 3

  holder-kept : (j : ℕ) (q : EndId) (h : Holder) → list_any (end_eq q) xs ≡ false → IsHereAnd (entry_at w j q) (λ v. v.holder ≡ h) ↔ IsHereAnd (entry_at u j q) (λ v. v.holder ≡ h)
  holder-kept j q h none = entry-held (is.entries j q) none (λ v. v.holder ≡ h) (λ v o same has. same ∙ has)

  owned-kept : (q : EndId) (b : Pid) → list_any (end_eq q) xs ≡ false → (t q).place ≡ (s.ends q).place → ((t q).place ≡ place.Owned b) ↔ IsOwnedHere b (entry_at u (home_of s b) q)
  owned-kept q b none same = (
    λ at. (holder-kept (home_of s b) q (holder.Owner b) none).0 ((l.owned q b).0 (sym same ∙ at)),
    λ has. same ∙ (l.owned q b).1 ((holder-kept (home_of s b) q (holder.Owner b) none).1 has),
  )

  not-among : (q : EndId) → end_eq e q ≡ true → list_any (end_eq q) xs ≡ false
  not-among q own = subst (λ z. list_any (end_eq z) xs ≡ false) (end_eq-same e q own) is.none

  owned-now : (q : EndId) (b : Pid) → ((t q).place ≡ place.Owned b) ↔ IsOwnedHere b (entry_at u (home_of s b) q)
  owned-now q b = by (is.ends q)
    where
      by : IsNoticedEnd e p xs q (s.ends q) (t q) → ((t q).place ≡ place.Owned b) ↔ IsOwnedHere b (entry_at u (home_of s b) q)
      by (EndKept apart none same) = owned-kept q b none (ap (λ (z : End). z.place) same)
      by (EndNoticed own lives same) = owned-kept q b (not-among q own) (ap (λ (z : End). z.place) same)
      by (EndFreed n apart among inside idle same) = (
        λ at. subst (λ z. IsOwnedHere z (y (home_of s z) q)) (owner-same p b (sym (ap (λ (z : End). z.place) same) ∙ at)) (is.home q among),
        λ has.
            let o = there-here (y (home_of s b) q) (λ v. v.holder ≡ holder.Owner b) has in
            let v = freed-view (home_of s b) q o.0 among o.1 in
            ap (λ (z : End). z.place) same ∙ ap place.Owned (holder-same p b (sym (ap (λ (z : HereView). z.holder) v.3) ∙ o.2)),
      )

  waiting-was : (j : ℕ) (f : EndId) (n : ℕ) → IsHereAnd (entry_at u j f) (λ v. IsWaitingWith n v.outward) → IsHereAnd (entry_at w j f) (λ v. IsWaitingWith n v.outward)
  waiting-was j f n = entry-was (is.entries j f) (λ v. IsWaitingWith n v.outward) (λ v. IsWaitingWith n v.outward) (λ v o like waits. (view-waiting like n waits).1)

  waiting-apart : (j : ℕ) (f : EndId) (n : ℕ) → IsHereAnd (entry_at u j f) (λ v. IsWaitingWith n v.outward) → end_eq e f ≡ false
  waiting-apart j f n waits =
      let o = there-here (y j f) (λ v. IsWaitingWith n v.outward) waits in
      let v = entry-seen (is.entries j f) o.0 o.1 in
      (view-waiting v.2 n o.2).0

  waiting-still : (j : ℕ) (f : EndId) (n : ℕ) → end_eq e f ≡ false → IsHereAnd (entry_at w j f) (λ v. IsWaitingWith n v.outward) → IsHereAnd (entry_at u j f) (λ v. IsWaitingWith n v.outward)
  waiting-still j f n apart =
      entry-still (is.entries j f) (λ v. IsWaitingWith n v.outward) (λ v. IsWaitingWith n v.outward) (λ v o like waits. subst (IsWaitingWith n) (sym (view-outward like apart)) waits)

  in_message-still : (q f : EndId) (n : ℕ) → list_any (end_eq q) xs ≡ false → (s.ends q).place ≡ place.InMessage f n → IsInMessage u q f n
  in_message-still q f n none at = by ((l.in_message q f n).0 at)
    where
      by : IsInMessage w q f n → IsInMessage u q f n
      by (inl m) = inl (record { at = m.at; enclosed = (holder-kept m.at q (holder.EnclosedIn f) none).0 m.enclosed; waiting = waiting-still m.at f n (other (end_eq e f) refl) m.waiting })
        where
          other : (b : Bool) → end_eq e f ≡ b → b ≡ false
          other true same =
              let own : e ≡ f = end_eq-same e f same in
              absurd (true≢false (sym (is.all m.at q n (subst (λ z. IsHereAnd (entry_at w m.at z) (λ v. IsWaitingWith n v.outward)) (sym own) m.waiting) (subst (λ z. (s.ends q).place ≡ place.InMessage z n) (sym own) at)) ∙ none))
          other false same = refl
      by (inr (inl m)) = inr (inl ((under is _).1 m))
      by (inr (inr m)) = inr (inr ((under is _).1 m))

  in_message-was : (q f : EndId) (n : ℕ) → IsInMessage u q f n → (s.ends q).place ≡ place.InMessage f n
  in_message-was q f n (inr (inl m)) = (l.in_message q f n).1 (inr (inl ((under is _).0 m)))
  in_message-was q f n (inr (inr m)) = (l.in_message q f n).1 (inr (inr ((under is _).0 m)))
  in_message-was q f n (inl m) = (l.in_message q f n).1 (inl (record { at = m.at; enclosed = enclosed; waiting = waiting }))
    where
      o : (v : HereView) × (y m.at q ≡ entry.Here v) × (v.holder ≡ holder.EnclosedIn f)
      o = there-here (y m.at q) (λ v. v.holder ≡ holder.EnclosedIn f) m.enclosed

      none : (b : Bool) → list_any (end_eq q) xs ≡ b → b ≡ false
      none true among =
          let v = freed-view m.at q o.0 among o.1 in
          absurd (let both : holder.Owner p ≡ holder.EnclosedIn f = sym (ap (λ (z : HereView). z.holder) v.3) ∙ o.2 in cc)
      none false same = refl

      enclosed : IsHereAnd (entry_at w m.at q) (λ v. v.holder ≡ holder.EnclosedIn f)
      enclosed = (holder-kept m.at q (holder.EnclosedIn f) (none (list_any (end_eq q) xs) refl)).1 m.enclosed

      waiting : IsHereAnd (entry_at w m.at f) (λ v. IsWaitingWith n v.outward)
      waiting = waiting-was m.at f n m.waiting

  -- an end that was enclosed is in no message any more
  freed-not : (q : EndId) (k : ℕ) (f : EndId) (n : ℕ) → list_any (end_eq q) xs ≡ true → (s.ends q).place ≡ place.InMessage e k → IsInMessage u q f n → ⊥
  freed-not q k f n among inside has = by has
    where
      own : e ≡ f
      own = message-same e f k n (sym inside ∙ in_message-was q f n has)

      m : (m : Message) × ((s.ends e).outward ≡ outward.Waiting m)
      m = is.waits q among

      IsParcel : PictureWhat → Type 0
      IsParcel o = IsParcelOf f n o × Contains (ends_in (values_of o)) q

      IsBack : PictureWhat → Type 0
      IsBack o = IsBackOf f n o × Contains (ends_in (values_of o)) q

      by : IsInMessage u q f n → ⊥
      by (inl z) = true≢false (sym (end_eq-refl e) ∙ subst (λ o. end_eq e o ≡ false) (sym own) (waiting-apart z.at f n z.waiting))
      by (inr (inl z)) = let o = (under is IsParcel).0 z in parcel-not e n w s.ends o.from o.to o.packet.what m.0 (right-of IsParcel o) (subst (λ z. IsParcelOf z n o.packet.what) (sym own) o.is.0) m.1
      by (inr (inr z)) = let o = (under is IsBack).0 z in back-not e n w s.ends o.from o.to o.packet.what m.0 (right-of IsBack o) (subst (λ z. IsBackOf z n o.packet.what) (sym own) o.is.0) m.1

  in_message-now : (q f : EndId) (n : ℕ) → ((t q).place ≡ place.InMessage f n) ↔ IsInMessage u q f n
  in_message-now q f n = by (is.ends q)
    where
      by : IsNoticedEnd e p xs q (s.ends q) (t q) → ((t q).place ≡ place.InMessage f n) ↔ IsInMessage u q f n
      by (EndKept apart none same) = (λ at. in_message-still q f n none (sym (ap (λ (z : End). z.place) same) ∙ at), λ has. ap (λ (z : End). z.place) same ∙ in_message-was q f n has)
      by (EndNoticed own lives same) = (λ at. in_message-still q f n (not-among q own) (sym (ap (λ (z : End). z.place) same) ∙ at), λ has. ap (λ (z : End). z.place) same ∙ in_message-was q f n has)
      by (EndFreed k apart among inside idle same) = (
        λ at. absurd (let both : place.Owned p ≡ place.InMessage f n = sym (ap (λ (z : End). z.place) same) ∙ at in cc),
        λ has. absurd (freed-not q k f n among inside has),
      )

  -- ---- clauses 4 and 5

  end-kept : (q : EndId) (v o : HereView) (x : End) → end_eq e q ≡ false → IsNoticedView e q v o → IsEndOf w q v x → IsEndOf u q o x
  end-kept q v o x apart like are =
      record {
        sent = are.sent ∙ sym (ap (λ (z : MovingPicture). z.sent) (view-value like apart));
        noticed = are.noticed ∙ sym (ap (λ (z : MovingPicture). z.dead) (view-value like apart));
        outward = subst (λ z. IsOutwardOf u q x.sent z x.outward) (sym (view-outward like apart)) (outward-same w u q (λ m. under is (IsTakenOf q m)) x.sent v.outward x.outward are.outward);
        inward =
            subst (λ z. IsInwardOf u q z x.inward) (sym (view-inward like apart))
            (inward-same w u q (λ r m. under is (IsParcelFor q r m)) (λ r. under is (IsUnwantedOf q r)) v.inward x.inward are.inward);
      }

  end-noticed : (q : EndId) (v : HereView) (x : End) → IsEndOf w q v x → IsEndOf u q (noticed_view v) (noticed_end x)
  end-noticed q v x are =
      record {
        sent = are.sent;
        noticed = refl;
        outward = outward-noticed w u q (λ m. under is (IsTakenOf q m)) x.sent v.outward x.outward are.outward;
        inward = inward-noticed w u q v.inward x.inward are.inward;
      }

  -- an end that was enclosed is idle
  end-freed : (j : ℕ) (q : EndId) (v : HereView) → is_living (s.ends q).place ≡ true → is_idle (s.ends q) ≡ true → entry_at w j q ≡ entry.Here v → IsIdle v
      → IsEndOf u q (record v { holder = holder.Owner p }) (record (s.ends q) { place = place.Owned p })
  end-freed j q v lives idle was rests =
      record {
        sent = sym ((counted q).sent (At j) v.value lives (ap value_of was));
        noticed = sym ((counted q).dead (At j) v.value lives (ap value_of was));
        outward = subst (λ z. IsOutwardOf u q (s.ends q).sent z (s.ends q).outward) (sym rests.outward) (subst (IsOutwardOf u q (s.ends q).sent kernel_outward.Idle) (sym (idle-parts (s.ends q) idle).0) tt);
        inward = subst (λ z. IsInwardOf u q z (s.ends q).inward) (sym rests.inward) (subst (IsInwardOf u q kernel_inward.Idle) (sym (idle-parts (s.ends q) idle).1) tt);
      }

  agree-now : (q : EndId) (b : Pid) (o : HereView) → (t q).place ≡ place.Owned b → entry_at u (home_of s b) q ≡ entry.Here o → IsEndOf u q o (t q)
  agree-now q b o at here = by (is.ends q)
    where
      by : IsNoticedEnd e p xs q (s.ends q) (t q) → IsEndOf u q o (t q)
      by (EndKept apart none same) =
          let v = entry-seen (is.entries (home_of s b) q) o here in
          subst (IsEndOf u q o) (sym same) (end-kept q v.0 o (s.ends q) apart v.2 (l.agree q b v.0 (sym (ap (λ (z : End). z.place) same) ∙ at) v.1))
      by (EndNoticed own lives same) =
          let v = entry-seen (is.entries (home_of s b) q) o here in
          subst (λ z. IsEndOf u q z (t q)) (sym (view-own v.2 own))
          (subst (IsEndOf u q (noticed_view v.0)) (sym same) (end-noticed q v.0 (s.ends q) (l.agree q b v.0 (sym (ap (λ (z : End). z.place) same) ∙ at) v.1)))
      by (EndFreed n apart among inside idle same) =
          let v = freed-view (home_of s b) q o among here in
          subst (λ z. IsEndOf u q z (t q)) (sym v.3)
          (subst (IsEndOf u q (record v.0 { holder = holder.Owner p })) (sym same) (end-freed (home_of s b) q v.0 (ap (λ z. is_living z) inside) idle v.1 v.2))

  -- clauses 2 to 5
  pub noticing-links : AreLinksOf u (after is)
  noticing-links =
      record {
        once = λ q. standing-now q ∙ l.once q ∙ sym (ap one_if (end-living (is.ends q)));
        owned = owned-now;
        in_message = in_message-now;
        agree = agree-now;
      }
