-- After a granted Receive all clauses on links are true again.
use Rattle.std.proofs.Common.{◌≡◌, ◌⊎◌, inl, inr, ℕ, ◌+◌, ◌<◌, ◌≤◌, Bool, true, false, length, is_some, refl, sym, ap, subst, ◌∙◌, arith, true≢false}
use Rattle.charlotte_calls.specs.Names.{opposite}
use Rattle.charlotte_calls.specs.declared.names.EndId.{EndId}
use Rattle.charlotte_calls.specs.declared.names.Pid.{Pid}
use Rattle.charlotte_packets.specs.declared.picture.MovingPicture.{MovingPicture}
use Rattle.charlotte_packets.specs.declared.picture.PictureWhat.{PictureWhat}
use Rattle.charlotte_packets.specs.declared.picture.PictureWhat.TheVariants as packet
use Rattle.end_table.proofs.EndEq.{end_eq-refl, end_eq-same}
use Rattle.end_table.specs.Entries.{gains_one}
use Rattle.end_table.specs.Place.{end_eq}
use Rattle.end_table.specs.Table.{IsHereAnd}
use Rattle.end_table.specs.declared.entry.Entry.TheVariants as entry
use Rattle.end_table.specs.declared.entry.HereView.{HereView}
use Rattle.end_table.specs.declared.entry.Holder.TheVariants as holder
use Rattle.end_table.specs.declared.entry.Inward.TheVariants as kernel_inward
use Rattle.kernel_step.specs.Actions.{hint_kernel, is_withdrawing}
use Rattle.theorem_meaning.specs.World.{World}
use Rattle.service_lawful.specs.Consistent.{is_open}
use Rattle.service_step.specs.Ends.{is_living, is_made, is_posted, is_taken, matched_message}
use Rattle.service_step.specs.State.{State}
use Rattle.service_step.specs.declared.state.End.{End}
use Rattle.service_step.specs.declared.state.Outward.{Outward}
use Rattle.service_step.specs.declared.state.Phase.TheVariants as phase
use Rattle.service_step.specs.declared.state.Place.{Place}
use Rattle.theorem_take_silent.proofs.Places.{fields-here}
use Rattle.theorem_take_silent.proofs.Lists.{only-there}
use Rattle.theorem_take_silent.proofs.NamedAfter.{named-after}
use Rattle.theorem_take_silent.proofs.Packets.{each-after}
use Rattle.theorem_take_silent.proofs.Sums.{sum_over-same}
use Rattle.theorem_take_silent.specs.Named.{NamesWithin}
use Rattle.theorem_take_silent.specs.Calls.{post_effect}
use Rattle.theorem_meaning.proofs.Ends.{apart-false, opposite-twice}
use Rattle.theorem_meaning.proofs.Plain.{view-same}
use Rattle.theorem_meaning.specs.Fields.{Stand, HasFields, IsAskedAs, IsAsking, IsHeard, IsNews, IsNoMore, IsUnserved, IsUnwantOf}
use Rattle.theorem_meaning.specs.Invariant.{AreAsked, AreCancelling, AreCounted, AreMarked, AreRight, AreSentOnce, AreWanted, IsFew, IsHereIfLiving, IsHonest, IsPacketRight, IsServed, IsUnwantedOnce, is_message_of, is_taken_of, is_unwanted_to}
use Rattle.theorem_meaning.specs.Packets.{Each, IsUnderWay, Links, how_many, links_of, one_if}
use Rattle.theorem_meaning.specs.StandsFor.{entry_at, home_of}
use Rattle.theorem_call_begin.proofs.Posting.{IsSameFields, Posting, ends-like, ends-other, fields-was, its-view, none-unserved, now-posted, one-view, posted, posted_view, posted_want}
use Rattle.theorem_call_begin.proofs.OneView.{IsIts, entry-or, here-still, now-here, other-entry, packet-or, packet-same}

module _ {i : ℕ} {w : World} {s : State} {k : ℕ} {p : Pid} {u : Links} (x : Posting i w s k p u) where
  abbrev l : Links
  l = links_of w

  abbrev e : EndId
  e = x.view.value.end

  abbrev t : State
  t = posted s e

  abbrev n : ℕ
  n = gains_one x.view.value.asked

  right : AreRight i l s
  right = x.is.links

  place-same : (f : EndId) → (t.ends f).place ≡ (s.ends f).place
  place-same f = ap (λ (y : End). y.place) (ends-like x f)

  living-was : (f : EndId) → is_living (t.ends f).place ≡ true → is_living (s.ends f).place ≡ true
  living-was f is = sym (ap (λ (y : Place). is_living y) (place-same f)) ∙ is

  noticed-same : (f : EndId) → (t.ends f).noticed ≡ (s.ends f).noticed
  noticed-same f = ap (λ (y : End). y.noticed) (ends-like x f)

  outward-is : (f : EndId) → (t.ends f).outward ≡ (s.ends f).outward
  outward-is f = ap (λ (y : End). y.outward) (ends-like x f)

  sent-is : (f : EndId) → (t.ends f).sent ≡ (s.ends f).sent
  sent-is f = ap (λ (y : End). y.sent) (ends-like x f)

  open-was : (f : EndId) → is_open (t.ends f) ≡ true → is_open (s.ends f) ≡ true
  open-was f is = sym (ap (λ (y : End). is_open y) (ends-like x f)) ∙ is

  -- ---- entries, fields, places heard

  marked-after : (f : EndId) → AreMarked u t.ends f
  marked-after f =
      record {
        destroyed = λ j m at. place-same f ∙ (right.marked f).destroyed j m (was j m at);
        once = λ j h m o at there. (right.marked f).once j h m o (was j m at) (was h o there);
      }
    where
      differ : (m : MovingPicture) → entry.Here (posted_view x.view) ≡ entry.Destroyed m → ⊥
      differ m is = cc

      was : (j : ℕ) (m : MovingPicture) → entry_at u j f ≡ entry.Destroyed m → entry_at l j f ≡ entry.Destroyed m
      was j m at = by (entry-or (one-view x) j f)
        where
          by : (u.entry j f ≡ l.entry j f) ⊎ IsIts (one-view x) j f → entry_at l j f ≡ entry.Destroyed m
          by (inl same) = sym same ∙ at
          by (inr its) = absurd (differ m (sym its.now ∙ at))

  few-after : (f : EndId) (at : Stand) (m : MovingPicture) → HasFields u f at m → IsFew (i + 1) m
  few-after f at m has =
      let o = fields-was x f at m has in
      let old : IsFew i o.0 = right.few f at o.0 o.1 in
      let hops : m.hops ≡ o.0.hops = ap (λ (z : MovingPicture). z.hops) o.2.rest in
      let sent : m.sent ≡ o.0.sent = ap (λ (z : MovingPicture). z.sent) o.2.rest in
      let asked : m.asked ≤ o.0.asked + 1 = o.2.asked in
      record { hops = omega (arith, hops, old.hops); sent = omega (arith, sent, old.sent); asked = omega (arith, asked, old.asked) }

  counted-after : (f : EndId) → AreCounted u t.ends f
  counted-after f =
      record {
        sent = λ at m living has. let o = fields-was x f at m has in ap (λ (z : MovingPicture). z.sent) o.2.rest ∙ (right.counted f).sent at o.0 (living-was f living) o.1 ∙ sym (sent-is f);
        dead = λ at m living has. let o = fields-was x f at m has in ap (λ (z : MovingPicture). z.dead) o.2.rest ∙ (right.counted f).dead at o.0 (living-was f living) o.1 ∙ sym (noticed-same f);
        unwanted = λ at m living noticed has.
            let o = fields-was x f at m has in ap (λ (z : MovingPicture). z.want) o.2.rest ∙ (right.counted f).unwanted at o.0 (living-was f living) (sym (noticed-same f) ∙ noticed) o.1;
      }

  honest-after : (f : EndId) → IsHonest u f
  honest-after f at m j h has heard = by (fields-was x f at m has) heard
    where
      old : (o : MovingPicture) → HasFields l f at o → IsSameFields o m → IsHeard l f j h → IsNoMore at m.hops j h
      old o had like was = subst (λ z. IsNoMore at z j h) (sym (ap (λ (z : MovingPicture). z.hops) like.rest)) (right.honest f at o j h had was)

      -- the want says where the end is
      here : (o : MovingPicture) → HasFields l f at o → IsSameFields o m → e ≡ f → k ≡ j → x.view.value.hops ≡ h → IsNoMore at m.hops j h
      here o had like same site hops =
          let stands = fields-here (length s.made) l s.ends x.is.setting.few right.named right.marked x.is.stands.links.once e k x.view at o x.here (subst (λ z. HasFields l z at o) (sym same) had) in
          let as_many : m.hops ≡ h = ap (λ (z : MovingPicture). z.hops) like.rest ∙ ap (λ (z : MovingPicture). z.hops) stands.1 ∙ hops in
          subst (λ z. IsNoMore z m.hops j h) (sym stands.0) (omega (arith, as_many), λ is. sym site)

      by : (o : MovingPicture) × HasFields l f at o × IsSameFields o m → IsHeard u f j h → IsNoMore at m.hops j h
      by o (inl hinted) =
          let other = fields-was x (opposite f) hinted.stand hinted.fields hinted.are in
          old o.0 o.1 o.2 (inl (record { stand = hinted.stand; fields = other.0; are = other.1; hint = sym (ap (λ (z : MovingPicture). z.hint) other.2.rest) ∙ hinted.hint }))
      by o (inr news) = told (packet-or (one-view x) (IsNews (opposite f) j h) news)
        where
          told : IsUnderWay l (IsNews (opposite f) j h) ⊎ IsNews (opposite f) j h (posted_want k x.view) → IsNoMore at m.hops j h
          told (inl was) = old o.0 o.1 o.2 (inr was)
          told (inr is) = here o.0 o.1 o.2 (sym (opposite-twice e) ∙ ap opposite is.0 ∙ opposite-twice f) is.1 is.2

  -- ---- receives

  asked-after : (f : EndId) → AreAsked u t f
  asked-after f =
      record {
        last = λ j v m there asked. last j v m there asked (entry-or (one-view x) j f);
        cancelled = λ j v m q there withdrawing held. cancelled j v m q there withdrawing held (entry-or (one-view x) j f);
      }
    where
      differ : (m : ℕ) → kernel_inward.Posted n ≡ kernel_inward.Withdrawing m → ⊥
      differ m is = cc

      last : (j : ℕ) (v : HereView) (m : ℕ) → entry_at u j f ≡ entry.Here v → IsAskedAs m v.inward → (u.entry j f ≡ l.entry j f) ⊎ IsIts (one-view x) j f → m ≡ v.value.asked
      last j v m there asked (inl same) = (right.asked f).last j v m (sym same ∙ there) asked
      last j v m there asked (inr its) =
          let view : posted_view x.view ≡ v = view-same (posted_view x.view) v (sym its.now ∙ there) in
          let number : n ≡ m = subst (λ (z : HereView). IsAskedAs m z.inward) (sym view) asked in
          sym number ∙ ap (λ (z : HereView). z.value.asked) view

      cancelled : (j : ℕ) (v : HereView) (m : ℕ) (q : Pid) → entry_at u j f ≡ entry.Here v → v.inward ≡ kernel_inward.Withdrawing m → v.holder ≡ holder.Owner q → (u.entry j f ≡ l.entry j f) ⊎ IsIts (one-view x) j f
          → (t.process q.0).phase ≡ phase.Cancelling f
      cancelled j v m q there withdrawing held (inl same) = (right.asked f).cancelled j v m q (sym same ∙ there) withdrawing held
      cancelled j v m q there withdrawing held (inr its) =
          absurd (differ m (ap (λ (z : HereView). z.inward) (view-same (posted_view x.view) v (sym its.now ∙ there)) ∙ withdrawing))

  idle-not-withdrawing : is_withdrawing x.view.inward ≡ true → ⊥
  idle-not-withdrawing is = true≢false (sym is ∙ ap is_withdrawing x.idle)

  cancelling-after : AreCancelling u t
  cancelling-after q f at = here-still (one-view x) (home_of s q) f (λ v. is_withdrawing v.inward ≡ true) (λ is. absurd (idle-not-withdrawing is)) (right.cancelling q f at)

  served-after : (f : EndId) → IsServed u t.ends f
  served-after f j v r at m there asked unposted living has = by (end_eq e f) refl
    where
      by : (b : Bool) → end_eq e f ≡ b → r ≤ m.served
      by true is = absurd (true≢false (ap is_posted (sym (now-posted x)) ∙ ap (λ z. is_posted (t.ends z).inward) (end_eq-same e f is) ∙ unposted))
      by false apart =
          let o = fields-was x (opposite f) at m has in
          subst (λ z. r ≤ z) (sym (ap (λ (z : MovingPicture). z.served) o.2.rest))
          (right.served f j v r at o.0 (sym (other-entry (one-view x) j f apart) ∙ there) asked (sym (ap (λ (y : End). is_posted y.inward) (ends-other x f apart)) ∙ unposted) (living-was (opposite f) living) o.1)

  -- ---- what is asked

  kept-like : (o m : MovingPicture) → IsSameFields o m → (o.want ≡ 0) ⊎ (o.served < o.want) → (m.want ≡ 0) ⊎ (m.served < m.want)
  kept-like o m like (inl none) = inl (ap (λ (z : MovingPicture). z.want) like.rest ∙ none)
  kept-like o m like (inr low) = inr (subst (λ (z : MovingPicture). z.served < z.want) (sym like.rest) low)

  -- what is asked of an end was asked before, or is the new receive
  unserved-or : (f : EndId) (o m : MovingPicture) (r j h : ℕ) → IsSameFields o m → IsUnserved u f m r j h → IsUnserved l f o r j h ⊎ ((opposite e ≡ f) × (n ≡ r) × (k ≡ j) × (x.view.value.hops ≡ h))
  unserved-or f o m r j h like (inl is) = inl (inl (sym (ap (λ (z : MovingPicture). z.want) like.rest) ∙ is.0, is.1, sym (ap (λ (z : MovingPicture). z.hint) like.rest) ∙ is.2))
  unserved-or f o m r j h like (inr is) = by (packet-or (one-view x) (IsAsking f r j h) is.1)
    where
      by : IsUnderWay l (IsAsking f r j h) ⊎ IsAsking f r j h (posted_want k x.view) → IsUnserved l f o r j h ⊎ ((opposite e ≡ f) × (n ≡ r) × (k ≡ j) × (x.view.value.hops ≡ h))
      by (inl was) = inl (inr (subst (λ z. z < r) (ap (λ (z : MovingPicture). z.served) like.rest) is.0, was))
      by (inr new) = inr new

  -- of another end than the opposite one: what was asked before
  module _ (f : EndId) (apart : end_eq (opposite e) f ≡ false) where
    unserved-was : (o m : MovingPicture) (r j h : ℕ) → IsSameFields o m → IsUnserved u f m r j h → IsUnserved l f o r j h
    unserved-was o m r j h like is = by (unserved-or f o m r j h like is)
      where
        by : IsUnserved l f o r j h ⊎ ((opposite e ≡ f) × (n ≡ r) × (k ≡ j) × (x.view.value.hops ≡ h)) → IsUnserved l f o r j h
        by (inl was) = was
        by (inr new) = absurd (true≢false (sym (end_eq-refl (opposite e)) ∙ ap (end_eq (opposite e)) new.0 ∙ apart))

    other : end_eq e (opposite f) ≡ false
    other = apart-false e (opposite f) (λ same. true≢false (sym (end_eq-refl (opposite e)) ∙ ap (end_eq (opposite e)) (ap opposite same ∙ opposite-twice f) ∙ apart))

    old : AreWanted l s.ends f
    old = right.wanted f

    wanted-other : AreWanted u t.ends f
    wanted-other =
        record {
          kept = λ at m opened has. let o = fields-was x f at m has in kept-like o.0 m o.2 (old.kept at o.0 (open-was f opened) o.1);
          same = λ at m r j h a b g opened has one two.
              let o = fields-was x f at m has in old.same at o.0 r j h a b g (open-was f opened) o.1 (unserved-was o.0 m r j h o.2 one) (unserved-was o.0 m a b g o.2 two);
          posted = λ at m r j h opened has one.
              let o = fields-was x f at m has in ap (λ (y : End). is_posted y.inward) (ends-other x (opposite f) other) ∙ old.posted at o.0 r j h (open-was f opened) o.1 (unserved-was o.0 m r j h o.2 one);
          site = λ at m r j h opened has one living.
              let o = fields-was x f at m has in
              subst (λ z. IsHereAnd z (λ v. (v.value.hops ≡ h) × (v.value.asked ≡ r))) (sym (other-entry (one-view x) j (opposite f) other))
              (old.site at o.0 r j h (open-was f opened) o.1 (unserved-was o.0 m r j h o.2 one) (living-was (opposite f) living));
          unwanted = λ at m r opened has low one.
              let o = fields-was x f at m has in
              let there = old.unwanted at o.0 r (open-was f opened) o.1 (subst (λ z. z < r) (ap (λ (z : MovingPicture). z.served) o.2.rest) low) ((packet-same (one-view x) (IsUnwantOf f r) (λ no. no)).0 one) in
              (there.0, subst (λ z. IsHereAnd z (λ v. is_withdrawing v.inward ≡ true)) (sym (other-entry (one-view x) there.0 (opposite f) other)) there.1);
        }

  -- of the opposite end: the new receive alone
  wanted-its : AreWanted u t.ends (opposite e)
  wanted-its =
      record {
        kept = λ at m opened has. let o = fields-was x (opposite e) at m has in kept-like o.0 m o.2 (old.kept at o.0 (open-was (opposite e) opened) o.1);
        same = λ at m r j h a b g opened has one two. sym (new at m a b g opened has two).0 ∙ (new at m r j h opened has one).0;
        posted = λ at m r j h opened has one. subst (λ z. is_posted (t.ends z).inward ≡ true) (sym (opposite-twice e)) (ap is_posted (now-posted x));
        site = λ at m r j h opened has one living.
            let is = new at m r j h opened has one in
            subst (λ z. IsHereAnd (u.entry j z) (λ v. (v.value.hops ≡ h) × (v.value.asked ≡ r))) (sym (opposite-twice e))
            (subst (λ z. IsHereAnd (u.entry z e) (λ v. (v.value.hops ≡ h) × (v.value.asked ≡ r))) is.1
            (subst (λ z. IsHereAnd z (λ v. (v.value.hops ≡ h) × (v.value.asked ≡ r))) (sym (now-here (one-view x))) (is.2, is.0)));
        unwanted = λ at m r opened has low one.
            let o = fields-was x (opposite e) at m has in
            let there = old.unwanted at o.0 r (open-was (opposite e) opened) o.1 (subst (λ z. z < r) (ap (λ (z : MovingPicture). z.served) o.2.rest) low) ((packet-same (one-view x) (IsUnwantOf (opposite e) r) (λ no. no)).0 one) in
            absurd (idle-not-withdrawing (its-view x there.0 (λ v. is_withdrawing v.inward ≡ true) (subst (λ z. IsHereAnd (l.entry there.0 z) (λ v. is_withdrawing v.inward ≡ true)) (opposite-twice e) there.1)));
      }
    where
      old : AreWanted l s.ends (opposite e)
      old = right.wanted (opposite e)

      new : (at : Stand) (m : MovingPicture) (r j h : ℕ) → is_open (t.ends (opposite e)) ≡ true → HasFields u (opposite e) at m → IsUnserved u (opposite e) m r j h → (n ≡ r) × (k ≡ j) × (x.view.value.hops ≡ h)
      new at m r j h opened has one = by (fields-was x (opposite e) at m has)
        where
          by : (o : MovingPicture) × HasFields l (opposite e) at o × IsSameFields o m → (n ≡ r) × (k ≡ j) × (x.view.value.hops ≡ h)
          by o = which (unserved-or (opposite e) o.0 m r j h o.2 one)
            where
              which : IsUnserved l (opposite e) o.0 r j h ⊎ ((opposite e ≡ opposite e) × (n ≡ r) × (k ≡ j) × (x.view.value.hops ≡ h)) → (n ≡ r) × (k ≡ j) × (x.view.value.hops ≡ h)
              which (inl was) = absurd (none-unserved x at o.0 r j h (open-was (opposite e) opened) o.1 was)
              which (inr is) = (is.1, is.2, is.3)

  wanted-after : (f : EndId) → AreWanted u t.ends f
  wanted-after f = by (end_eq (opposite e) f) refl
    where
      by : (b : Bool) → end_eq (opposite e) f ≡ b → AreWanted u t.ends f
      by true is = subst (AreWanted u t.ends) (end_eq-same (opposite e) f is) wanted-its
      by false apart = wanted-other f apart

  -- ---- how many packets

  number-same : (test : PictureWhat → Bool) → test (posted_want k x.view) ≡ false → how_many test u ≡ how_many test l
  number-same test none = sum_over-same (λ q. one_if (test q)) x.changes tt (ap one_if none, tt)

  unwanted-after : (f : EndId) → IsUnwantedOnce u t.ends f
  unwanted-after f noticed = subst (λ z. z ≤ 1) (sym (number-same (is_unwanted_to f) refl)) (right.unwanted f (sym (noticed-same f) ∙ noticed))

  once-after : (f : EndId) → AreSentOnce u t.ends f
  once-after f =
      record {
        message = number-same (is_message_of f) refl ∙ (right.once f).message ∙ sym (ap (λ (y : Outward). one_if (is_some (matched_message y))) (outward-is f));
        taken = subst (λ z. z ≤ one_if (is_taken (t.ends f).outward)) (sym (number-same (is_taken_of f) refl)) (subst (λ (y : Outward). how_many (is_taken_of f) l ≤ one_if (is_taken y)) (sym (outward-is f)) (right.once f).taken);
        told = λ living. number-same (is_taken_of f) refl ∙ (right.once f).told (living-was f living) ∙ sym (ap (λ (y : Outward). one_if (is_taken y)) (outward-is f));
      }

  -- ---- each packet

  packets-after : Each u (λ from to q. IsPacketRight u t.ends from to q)
  packets-after =
      each-after x.changes (λ from to q. IsPacketRight l s.ends from to q) (λ from to q. IsPacketRight u t.ends from to q) right.packets (λ from to q has is. still from to q.what is)
      (λ to what has. subst (λ (z : ℕ × PictureWhat). IsPacketRight u t.ends k z.0 z.1) (only-there (hint_kernel x.view, posted_want k x.view) (to, what) has) tt)
    where
      stays : (j : ℕ) (f : EndId) → IsHereIfLiving l s.ends j f (λ v. Unit {0}) → IsHereIfLiving u t.ends j f (λ v. Unit {0})
      stays j f is = λ living. here-still (one-view x) j f (λ v. Unit {0}) (λ a. tt) (is (living-was f living))

      differ : (r : ℕ) → kernel_inward.Idle ≡ kernel_inward.Withdrawing r → ⊥
      differ r is = cc

      idle-asked : (r : ℕ) → IsAskedAs r x.view.inward → ⊥
      idle-asked r is = subst (IsAskedAs r) x.idle is

      still : (from to : ℕ) (q : PictureWhat) → IsPacketRight l s.ends from to q → IsPacketRight u t.ends from to q
      still from to (packet.Parcel f m wanted at hops bytes ms) is =
          record {
            matched = outward-is (opposite f) ∙ is.matched;
            number = sent-is (opposite f) ∙ is.number;
            sender = is.sender;
            site = λ living. here-still (one-view x) from (opposite f) (λ v. v.value.hops ≡ hops) (λ same. same) (is.site (living-was (opposite f) living));
            meets = λ opened. here-still (one-view x) to f (λ v. IsAskedAs wanted v.inward) (λ asked. absurd (idle-asked wanted asked)) (is.meets (open-was f opened));
          }
      still from to (packet.Back f m ms) is =
          record {
            matched = record { message = is.matched.message; matched = outward-is f ∙ is.matched.matched; carries = is.matched.carries; number = sent-is f ∙ is.matched.number };
            untaken = ap (λ (y : End). is_open y) (ends-like x (opposite f)) ∙ is.untaken;
            site = stays to f is.site;
          }
      still from to (packet.Taken f m at hops) is = record { taken = outward-is f ∙ is.taken; number = sent-is f ∙ is.number; taker = is.taker; site = stays to f is.site }
      still from to (packet.Gone f at) is = place-same (opposite f) ∙ is
      still from to (packet.Unwanted f r at hops) is =
          λ noticed. here-still (one-view x) to f (λ v. v.inward ≡ kernel_inward.Withdrawing r) (λ same. absurd (differ r (sym x.idle ∙ same))) (is (sym (noticed-same f) ∙ noticed))
      still from to _ is = tt

  -- ---- names

  made-after : (f : EndId) → is_made (s.ends f).place ≡ true → is_made (t.ends f).place ≡ true
  made-after f is = ap (λ (y : Place). is_made y) (place-same f) ∙ is

  -- all clauses, where the effect names no kernel that there is not
  pub posted-right : k < length s.made → NamesWithin (length s.made) (post_effect k x.view) → is_made (s.ends e).place ≡ true → AreRight (i + 1) u t
  posted-right near names made =
      record {
        named = named-after (length s.made) x.changes near right.named t.ends names.entries names.sent made-after
            (made-after (opposite e) (x.is.service.kept.made (opposite e) ∙ sym (x.is.service.kept.made e) ∙ made), tt);
        few = few-after;
        marked = marked-after;
        counted = counted-after;
        honest = honest-after;
        asked = asked-after;
        cancelling = cancelling-after;
        served = served-after;
        wanted = wanted-after;
        unwanted = unwanted-after;
        once = once-after;
        packets = packets-after;
      }
