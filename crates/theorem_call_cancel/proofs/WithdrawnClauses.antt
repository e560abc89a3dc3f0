-- After a granted Cancel of a receive all clauses on links are true again.
use Rattle.std.proofs.Common.{◌≡◌, ◌⊎◌, inl, inr, ℕ, ◌+◌, ◌<◌, ◌≤◌, Bool, true, false, length, slice_index, refl, sym, ap, subst, ◌∙◌, arith, true≢false}
use Rattle.theorem_call_send.proofs.OneView.{IsIts, entry-or, here-still, now-here, other-entry, packet-or, packet-same}
use Rattle.charlotte_calls.specs.Names.{opposite}
use Rattle.charlotte_calls.specs.declared.names.EndId.{EndId}
use Rattle.charlotte_calls.specs.declared.names.Pid.{Pid}
use Rattle.charlotte_packets.specs.declared.picture.MovingPicture.{MovingPicture}
use Rattle.charlotte_packets.specs.declared.picture.PictureWhat.{PictureWhat}
use Rattle.charlotte_packets.specs.declared.picture.PictureWhat.TheVariants as packet
use Rattle.end_table.proofs.EndEq.{end_eq-refl, end_eq-same}
use Rattle.end_table.specs.Place.{end_eq}
use Rattle.end_table.specs.Table.{IsHereAnd}
use Rattle.end_table.specs.declared.entry.Entry.TheVariants as entry
use Rattle.end_table.specs.declared.entry.HereView.{HereView}
use Rattle.end_table.specs.declared.entry.Holder.TheVariants as holder
use Rattle.end_table.specs.declared.entry.Inward.TheVariants as kernel_inward
use Rattle.kernel_effects.specs.Calls.{withdraw_receive_effect}
use Rattle.kernel_step.specs.Actions.{hint_kernel, is_withdrawing}
use Rattle.kernel_world.specs.World.{World}
use Rattle.service_change.proofs.Counts.{and-true}
use Rattle.service_lawful.specs.Consistent.{is_open}
use Rattle.service_step.specs.Ends.{is_living, is_made, is_posted, is_taken}
use Rattle.service_step.specs.State.{State}
use Rattle.service_step.specs.declared.state.Phase.TheVariants as phase
use Rattle.theorem_call_send.proofs.Lists.{only-there}
use Rattle.theorem_call_send.proofs.NamedAfter.{named-after}
use Rattle.theorem_call_send.proofs.Packets.{each-after}
use Rattle.theorem_call_send.proofs.Sums.{sum_over-same}
use Rattle.theorem_call_send.specs.Named.{NamesWithin}
use Rattle.theorem_meaning.proofs.Ends.{apart-false, opposite-twice}
use Rattle.theorem_meaning.specs.Fields.{Stand, HasFields, IsAskedAs, IsAsking, IsHeard, IsNews, IsNoMore, IsUnserved, IsUnwantOf}
use Rattle.theorem_meaning.specs.Invariant.{AreAsked, AreCancelling, AreCounted, AreMarked, AreRight, AreSentOnce, AreWanted, IsFew, IsHonest, IsPacketRight, IsServed, IsUnwantedOnce, is_message_of, is_taken_of, is_unwanted_to}
use Rattle.theorem_meaning.specs.Packets.{Each, IsUnderWay, Links, how_many, links_of, one_if}
use Rattle.theorem_meaning.specs.StandsFor.{entry_at, home_of}
use Rattle.theorem_call_send.proofs.Held.{lives, own-fields}
use Rattle.theorem_meaning.proofs.Plain.{view-same}
use Rattle.theorem_call_cancel.proofs.Withdrawing.{IsWithdrawing, after, cancelling-own, cancelling-still, cancelling-was, fields-was, its-view, last, one-view, sent_unwant, withdrawn_view}

module _ {i : ℕ} {w : World} {s : State} {k : ℕ} {p : Pid} {u : Links} (x : IsWithdrawing i w s k p u) where
  abbrev l : Links
  l = links_of w

  abbrev e : EndId
  e = x.view.value.end

  abbrev new : HereView
  new = withdrawn_view x.view x.number

  abbrev unwant : PictureWhat
  unwant = sent_unwant k x.view x.number

  right : AreRight i l s
  right = x.is.links

  -- ---- entries, fields, places heard

  marked-after : (f : EndId) → AreMarked u s.ends f
  marked-after f =
      record {
        destroyed = λ j m at. (right.marked f).destroyed j m (was j m at);
        once = λ j h m o at there. (right.marked f).once j h m o (was j m at) (was h o there);
      }
    where
      differ : (m : MovingPicture) → entry.Here new ≡ entry.Destroyed m → ⊥
      differ m is = cc

      was : (j : ℕ) (m : MovingPicture) → entry_at u j f ≡ entry.Destroyed m → entry_at l j f ≡ entry.Destroyed m
      was j m at = by (entry-or (one-view x) j f)
        where
          by : (u.entry j f ≡ l.entry j f) ⊎ IsIts (one-view x) j f → entry_at l j f ≡ entry.Destroyed m
          by (inl same) = sym same ∙ at
          by (inr its) = absurd (differ m (sym its.now ∙ at))

  few-after : (f : EndId) (at : Stand) (m : MovingPicture) → HasFields u f at m → IsFew (i + 1) m
  few-after f at m has =
      let old : IsFew i m = right.few f at m (fields-was x f at m has) in
      record { hops = omega (arith, old.hops); sent = omega (arith, old.sent); asked = omega (arith, old.asked) }

  counted-after : (f : EndId) → AreCounted u s.ends f
  counted-after f =
      record {
        sent = λ at m living has. (right.counted f).sent at m living (fields-was x f at m has);
        dead = λ at m living has. (right.counted f).dead at m living (fields-was x f at m has);
        unwanted = λ at m living noticed has. (right.counted f).unwanted at m living noticed (fields-was x f at m has);
      }

  honest-after : (f : EndId) → IsHonest u f
  honest-after f at m j h has heard = by heard
    where
      had : HasFields l f at m
      had = fields-was x f at m has

      -- the unwant says where the end is
      here : e ≡ f → k ≡ j → x.view.value.hops ≡ h → IsNoMore at m.hops j h
      here same site hops =
          let stands = own-fields l s x.is.setting.few x.is.stands.links right e k x.view at m x.here (subst (λ z. HasFields l z at m) (sym same) had) in
          let as_many : m.hops ≡ h = ap (λ (z : MovingPicture). z.hops) stands.1 ∙ hops in
          subst (λ z. IsNoMore z m.hops j h) (sym stands.0) (omega (arith, as_many), λ is. sym site)

      by : IsHeard u f j h → IsNoMore at m.hops j h
      by (inl hinted) =
          right.honest f at m j h had (inl (record { stand = hinted.stand; fields = hinted.fields; are = fields-was x (opposite f) hinted.stand hinted.fields hinted.are; hint = hinted.hint }))
      by (inr news) = told (packet-or (one-view x) (IsNews (opposite f) j h) news)
        where
          told : IsUnderWay l (IsNews (opposite f) j h) ⊎ IsNews (opposite f) j h unwant → IsNoMore at m.hops j h
          told (inl was) = right.honest f at m j h had (inr was)
          told (inr is) = here (sym (opposite-twice e) ∙ ap opposite is.0 ∙ opposite-twice f) is.1 is.2

  -- ---- receives

  asked-after : (f : EndId) → AreAsked u (after x) f
  asked-after f =
      record {
        last = λ j v m there asked. last_one j v m there asked (entry-or (one-view x) j f);
        cancelled = λ j v m q there withdrawing held. cancelled j v m q there withdrawing held (entry-or (one-view x) j f);
      }
    where
      last_one : (j : ℕ) (v : HereView) (m : ℕ) → entry_at u j f ≡ entry.Here v → IsAskedAs m v.inward → (u.entry j f ≡ l.entry j f) ⊎ IsIts (one-view x) j f → m ≡ v.value.asked
      last_one j v m there asked (inl same) = (right.asked f).last j v m (sym same ∙ there) asked
      last_one j v m there asked (inr its) =
          let view : new ≡ v = view-same new v (sym its.now ∙ there) in
          let number : x.number ≡ m = subst (λ (z : HereView). IsAskedAs m z.inward) (sym view) asked in
          sym number ∙ last x ∙ ap (λ (z : HereView). z.value.asked) view

      owners : (q : Pid) → holder.Owner p ≡ holder.Owner q → p ≡ q
      owners q is = cc

      cancelled : (j : ℕ) (v : HereView) (m : ℕ) (q : Pid) → entry_at u j f ≡ entry.Here v → v.inward ≡ kernel_inward.Withdrawing m → v.holder ≡ holder.Owner q → (u.entry j f ≡ l.entry j f) ⊎ IsIts (one-view x) j f
          → ((after x).process q.0).phase ≡ phase.Cancelling f
      cancelled j v m q there withdrawing held (inl same) = cancelling-still x q f ((right.asked f).cancelled j v m q (sym same ∙ there) withdrawing held)
      cancelled j v m q there withdrawing held (inr its) =
          let view : new ≡ v = view-same new v (sym its.now ∙ there) in
          let who : p ≡ q = owners q (sym x.owner ∙ ap (λ (z : HereView). z.holder) view ∙ held) in
          subst (λ (z : Pid). ((after x).process z.0).phase ≡ phase.Cancelling f) who (cancelling-own x ∙ ap phase.Cancelling its.end)

  cancelling-after : AreCancelling u (after x)
  cancelling-after q f at = by (cancelling-was x q f at)
    where
      by : ((s.process q.0).phase ≡ phase.Cancelling f) ⊎ ((p.0 ≡ q.0) × (e ≡ f)) → IsHereAnd (entry_at u (home_of s q) f) (λ v. is_withdrawing v.inward ≡ true)
      by (inl was) = here-still (one-view x) (home_of s q) f (λ v. is_withdrawing v.inward ≡ true) (λ is. refl) (right.cancelling q f was)
      by (inr own) =
          subst (λ z. IsHereAnd z (λ v. is_withdrawing v.inward ≡ true)) (sym (ap (λ j. u.entry j f) (ap (slice_index s.homes) (sym own.0) ∙ x.at) ∙ ap (u.entry k) (sym own.1) ∙ now-here (one-view x))) refl

  served-after : (f : EndId) → IsServed u s.ends f
  served-after f j v r at m there asked unposted living has = by (entry-or (one-view x) j f)
    where
      had : HasFields l (opposite f) at m
      had = fields-was x (opposite f) at m has

      by : (u.entry j f ≡ l.entry j f) ⊎ IsIts (one-view x) j f → r ≤ m.served
      by (inl same) = right.served f j v r at m (sym same ∙ there) asked unposted living had
      by (inr its) =
          let number : x.number ≡ r = subst (λ (z : HereView). IsAskedAs r z.inward) (sym (view-same new v (sym its.now ∙ there))) asked in
          right.served f j x.view r at m its.was (subst (IsAskedAs r) (sym x.posts) number) unposted living had

  -- ---- what is asked

  -- what is asked of an end was asked before, or the unwant asks it
  unserved-or : (f : EndId) (m : MovingPicture) (r j h : ℕ) → IsUnserved u f m r j h → IsUnserved l f m r j h ⊎ ((m.served < r) × (opposite e ≡ f) × (x.number ≡ r) × (k ≡ j) × (x.view.value.hops ≡ h))
  unserved-or f m r j h (inl is) = inl (inl is)
  unserved-or f m r j h (inr is) = by (packet-or (one-view x) (IsAsking f r j h) is.1)
    where
      by : IsUnderWay l (IsAsking f r j h) ⊎ IsAsking f r j h unwant → IsUnserved l f m r j h ⊎ ((m.served < r) × (opposite e ≡ f) × (x.number ≡ r) × (k ≡ j) × (x.view.value.hops ≡ h))
      by (inl was) = inl (inr (is.0, was))
      by (inr asks) = inr (is.0, asks.0, asks.1, asks.2, asks.3)

  -- of another end than the opposite one: what was asked before
  module _ (f : EndId) (apart : end_eq (opposite e) f ≡ false) where
    unserved-was : (m : MovingPicture) (r j h : ℕ) → IsUnserved u f m r j h → IsUnserved l f m r j h
    unserved-was m r j h is = by (unserved-or f m r j h is)
      where
        by : IsUnserved l f m r j h ⊎ ((m.served < r) × (opposite e ≡ f) × (x.number ≡ r) × (k ≡ j) × (x.view.value.hops ≡ h)) → IsUnserved l f m r j h
        by (inl was) = was
        by (inr asks) = absurd (true≢false (sym (end_eq-refl (opposite e)) ∙ ap (end_eq (opposite e)) asks.1 ∙ apart))

    other : end_eq e (opposite f) ≡ false
    other = apart-false e (opposite f) (λ same. true≢false (sym (end_eq-refl (opposite e)) ∙ ap (end_eq (opposite e)) (ap opposite same ∙ opposite-twice f) ∙ apart))

    old : AreWanted l s.ends f
    old = right.wanted f

    not-unwant : (r : ℕ) → IsUnwantOf f r unwant → ⊥
    not-unwant r is = true≢false (sym (end_eq-refl (opposite e)) ∙ ap (end_eq (opposite e)) is.0 ∙ apart)

    wanted-other : AreWanted u s.ends f
    wanted-other =
        record {
          kept = λ at m opened has. old.kept at m opened (fields-was x f at m has);
          same = λ at m r j h a b g opened has one two. old.same at m r j h a b g opened (fields-was x f at m has) (unserved-was m r j h one) (unserved-was m a b g two);
          posted = λ at m r j h opened has one. old.posted at m r j h opened (fields-was x f at m has) (unserved-was m r j h one);
          site = λ at m r j h opened has one living.
              subst (λ z. IsHereAnd z (λ v. (v.value.hops ≡ h) × (v.value.asked ≡ r))) (sym (other-entry (one-view x) j (opposite f) other))
              (old.site at m r j h opened (fields-was x f at m has) (unserved-was m r j h one) living);
          unwanted = λ at m r opened has low one.
              let there = old.unwanted at m r opened (fields-was x f at m has) low ((packet-same (one-view x) (IsUnwantOf f r) (not-unwant r)).0 one) in
              (there.0, subst (λ z. IsHereAnd z (λ v. is_withdrawing v.inward ≡ true)) (sym (other-entry (one-view x) there.0 (opposite f) other)) there.1);
        }

  -- of the opposite end: the receive that is withdrawn alone
  module _ (at : Stand) (m : MovingPicture) (opened : is_open (s.ends (opposite e)) ≡ true) (has : HasFields l (opposite e) at m) where
    -- whatever was asked is that receive
    was-number : (r j h : ℕ) → IsUnserved l (opposite e) m r j h → x.number ≡ r
    was-number r j h was =
        let living : is_living (s.ends (opposite (opposite e))).place ≡ true = ap (λ z. is_living (s.ends z).place) (opposite-twice e) ∙ lives l s x.is.setting.few x.is.stands.links right e k x.view x.here in
        let there = (right.wanted (opposite e)).site at m r j h opened has was living in
        last x ∙ (its-view x j (λ v. (v.value.hops ≡ h) × (v.value.asked ≡ r)) (subst (λ z. IsHereAnd (l.entry j z) (λ v. (v.value.hops ≡ h) × (v.value.asked ≡ r))) (opposite-twice e) there)).1

    is-number : (r j h : ℕ) → IsUnserved u (opposite e) m r j h → x.number ≡ r
    is-number r j h one = by (unserved-or (opposite e) m r j h one)
      where
        by : IsUnserved l (opposite e) m r j h ⊎ ((m.served < r) × (opposite e ≡ opposite e) × (x.number ≡ r) × (k ≡ j) × (x.view.value.hops ≡ h)) → x.number ≡ r
        by (inl was) = was-number r j h was
        by (inr asks) = asks.2

    -- while it is not served it is posted
    posted-own : m.served < x.number → is_posted (s.ends e).inward ≡ true
    posted-own low = by (is_posted (s.ends e).inward) refl
      where
        by : (b : Bool) → is_posted (s.ends e).inward ≡ b → b ≡ true
        by true is = refl
        by false unposted =
            let served : x.number ≤ m.served = right.served e k x.view x.number at m x.here (subst (IsAskedAs x.number) (sym x.posts) refl) unposted (and-true (is_living (s.ends (opposite e)).place) _ opened).0 has in
            absurd (omega (arith, served, low))

    posted-now : (r j h : ℕ) → IsUnserved u (opposite e) m r j h → is_posted (s.ends (opposite (opposite e))).inward ≡ true
    posted-now r j h one = by (unserved-or (opposite e) m r j h one)
      where
        by : IsUnserved l (opposite e) m r j h ⊎ ((m.served < r) × (opposite e ≡ opposite e) × (x.number ≡ r) × (k ≡ j) × (x.view.value.hops ≡ h)) → is_posted (s.ends (opposite (opposite e))).inward ≡ true
        by (inl was) = (right.wanted (opposite e)).posted at m r j h opened has was
        by (inr asks) = subst (λ z. is_posted (s.ends z).inward ≡ true) (sym (opposite-twice e)) (posted-own (subst (λ z. m.served < z) (sym asks.2) asks.0))

    site-now : (r j h : ℕ) → IsUnserved u (opposite e) m r j h → is_living (s.ends (opposite (opposite e))).place ≡ true → IsHereAnd (entry_at u j (opposite (opposite e))) (λ v. (v.value.hops ≡ h) × (v.value.asked ≡ r))
    site-now r j h one living = by (unserved-or (opposite e) m r j h one)
      where
        by : IsUnserved l (opposite e) m r j h ⊎ ((m.served < r) × (opposite e ≡ opposite e) × (x.number ≡ r) × (k ≡ j) × (x.view.value.hops ≡ h)) → IsHereAnd (entry_at u j (opposite (opposite e))) (λ v. (v.value.hops ≡ h) × (v.value.asked ≡ r))
        by (inl was) = here-still (one-view x) j (opposite (opposite e)) (λ v. (v.value.hops ≡ h) × (v.value.asked ≡ r)) (λ is. is) ((right.wanted (opposite e)).site at m r j h opened has was living)
        by (inr asks) =
            subst (λ z. IsHereAnd (u.entry j z) (λ v. (v.value.hops ≡ h) × (v.value.asked ≡ r))) (sym (opposite-twice e))
            (subst (λ z. IsHereAnd (u.entry z e) (λ v. (v.value.hops ≡ h) × (v.value.asked ≡ r))) asks.3
            (subst (λ z. IsHereAnd z (λ v. (v.value.hops ≡ h) × (v.value.asked ≡ r))) (sym (now-here (one-view x))) (asks.4, sym (last x) ∙ asks.2)))

  wanted-its : AreWanted u s.ends (opposite e)
  wanted-its =
      record {
        kept = λ at m opened has. (right.wanted (opposite e)).kept at m opened (fields-was x (opposite e) at m has);
        same = λ at m r j h a b g opened has one two. let had = fields-was x (opposite e) at m has in sym (is-number at m opened had a b g two) ∙ is-number at m opened had r j h one;
        posted = λ at m r j h opened has one. posted-now at m opened (fields-was x (opposite e) at m has) r j h one;
        site = λ at m r j h opened has one living. site-now at m opened (fields-was x (opposite e) at m has) r j h one living;
        unwanted = λ at m r opened has low one.
            (k, subst (λ z. IsHereAnd (u.entry k z) (λ v. is_withdrawing v.inward ≡ true)) (sym (opposite-twice e)) (subst (λ z. IsHereAnd z (λ v. is_withdrawing v.inward ≡ true)) (sym (now-here (one-view x))) refl));
      }

  wanted-after : (f : EndId) → AreWanted u s.ends f
  wanted-after f = by (end_eq (opposite e) f) refl
    where
      by : (b : Bool) → end_eq (opposite e) f ≡ b → AreWanted u s.ends f
      by true is = subst (AreWanted u s.ends) (end_eq-same (opposite e) f is) wanted-its
      by false apart = wanted-other f apart

  -- ---- how many packets

  number-same : (test : PictureWhat → Bool) → test unwant ≡ false → how_many test u ≡ how_many test l
  number-same test none = sum_over-same (λ q. one_if (test q)) x.changes tt (ap one_if none, tt)

  unwanted-after : (f : EndId) → IsUnwantedOnce u s.ends f
  unwanted-after f noticed = subst (λ z. z ≤ 1) (sym (number-same (is_unwanted_to f) refl)) (right.unwanted f noticed)

  once-after : (f : EndId) → AreSentOnce u s.ends f
  once-after f =
      record {
        message = number-same (is_message_of f) refl ∙ (right.once f).message;
        taken = subst (λ z. z ≤ one_if (is_taken (s.ends f).outward)) (sym (number-same (is_taken_of f) refl)) (right.once f).taken;
        told = λ living. number-same (is_taken_of f) refl ∙ (right.once f).told living;
      }

  -- ---- each packet

  packets-after : Each u (λ from to q. IsPacketRight u s.ends from to q)
  packets-after =
      each-after x.changes (λ from to q. IsPacketRight l s.ends from to q) (λ from to q. IsPacketRight u s.ends from to q) right.packets (λ from to q has is. still from to q.what is)
      (λ to what has. subst (λ (z : ℕ × PictureWhat). IsPacketRight u s.ends k z.0 z.1) (only-there (hint_kernel x.view, unwant) (to, what) has) tt)
    where
      differ : (r : ℕ) → kernel_inward.Posted x.number ≡ kernel_inward.Withdrawing r → ⊥
      differ r is = cc

      still : (from to : ℕ) (q : PictureWhat) → IsPacketRight l s.ends from to q → IsPacketRight u s.ends from to q
      still from to (packet.Parcel f m wanted at hops bytes ms) is =
          record {
            matched = is.matched;
            number = is.number;
            sender = is.sender;
            site = λ living. here-still (one-view x) from (opposite f) (λ v. v.value.hops ≡ hops) (λ same. same) (is.site living);
            meets = λ opened. here-still (one-view x) to f (λ v. IsAskedAs wanted v.inward) (λ asked. subst (IsAskedAs wanted) x.posts asked) (is.meets opened);
          }
      still from to (packet.Back f m ms) is = record { matched = is.matched; untaken = is.untaken; site = λ living. here-still (one-view x) to f (λ v. Unit {0}) (λ a. tt) (is.site living) }
      still from to (packet.Taken f m at hops) is = record { taken = is.taken; number = is.number; taker = is.taker; site = λ living. here-still (one-view x) to f (λ v. Unit {0}) (λ a. tt) (is.site living) }
      still from to (packet.Gone f at) is = is
      still from to (packet.Unwanted f r at hops) is = λ noticed. here-still (one-view x) to f (λ v. v.inward ≡ kernel_inward.Withdrawing r) (λ same. absurd (differ r (sym x.posts ∙ same))) (is noticed)
      still from to _ is = tt

  -- all clauses, where the effect names no kernel that there is not
  pub withdrawn-right : k < length s.made → NamesWithin (length s.made) (withdraw_receive_effect k x.number x.view) → is_made (s.ends e).place ≡ true → AreRight (i + 1) u (after x)
  withdrawn-right near names made =
      record {
        named = named-after (length s.made) x.changes near right.named s.ends names.entries names.sent (λ f is. is) (x.is.service.kept.made (opposite e) ∙ sym (x.is.service.kept.made e) ∙ made, tt);
        few = few-after;
        marked = marked-after;
        counted = counted-after;
        honest = honest-after;
        asked = asked-after;
        cancelling = cancelling-after;
        served = served-after;
        wanted = wanted-after;
        unwanted = unwanted-after;
        once = once-after;
        packets = packets-after;
      }
