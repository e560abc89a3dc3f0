-- Where ends are destroyed, what is true of every world is true afterwards: clause by clause.
use Rattle.std.proofs.Common.{◌≡◌, inl, inr, ℕ, ◌+◌, ◌<◌, ◌≤◌, Bool, true, false, Contains, length, is_some, refl, sym, ap, subst, ◌∙◌, arith, true≢false}
use Rattle.charlotte_calls.specs.Names.{opposite}
use Rattle.charlotte_calls.specs.declared.names.EndId.{EndId}
use Rattle.charlotte_packets.specs.declared.picture.MovingPicture.{MovingPicture}
use Rattle.charlotte_packets.specs.declared.picture.Picture.{Picture}
use Rattle.charlotte_packets.specs.declared.picture.PictureWhat.{PictureWhat}
use Rattle.charlotte_packets.specs.declared.picture.PictureWhat.TheVariants as packet
use Rattle.end_table.proofs.EndEq.{end_eq-refl}
use Rattle.end_table.specs.Place.{end_eq}
use Rattle.end_table.specs.Table.{IsHereAnd}
use Rattle.end_table.specs.declared.entry.Entry.{Entry}
use Rattle.end_table.specs.declared.entry.Entry.TheVariants as entry
use Rattle.end_table.specs.declared.entry.HereView.{HereView}
use Rattle.end_table.specs.declared.entry.Inward.TheVariants as kernel_inward
use Rattle.kernel_sound.specs.Sound.{addressee}
use Rattle.kernel_step.specs.Actions.{is_withdrawing}
use Rattle.kernel_step.specs.Rows.{ends_in}
use Rattle.service_change.proofs.Change.{living-made}
use Rattle.service_lawful.specs.Consistent.{AreKept, is_open}
use Rattle.service_step.specs.Ends.{is_living, is_made, is_posted, is_taken, matched_message}
use Rattle.service_step.specs.State.{State, Process}
use Rattle.service_step.specs.declared.state.End.{End}
use Rattle.service_step.specs.declared.state.Message.{Message}
use Rattle.service_step.specs.declared.state.Outward.{Outward}
use Rattle.service_step.specs.declared.state.Outward.TheVariants as outward
use Rattle.service_step.specs.declared.state.Place.TheVariants as place
use Rattle.theorem_take_silent.proofs.Places.{list-below}
use Rattle.theorem_take_silent.proofs.Allowed.{sum_over-least}
use Rattle.theorem_take_silent.proofs.Aside.{sent-each}
use Rattle.theorem_take_silent.proofs.Ends.{all_sent-weaker}
use Rattle.theorem_take_silent.proofs.NamedAfter.{named-after}
use Rattle.theorem_take_silent.proofs.Packets.{each-after, left-after, left-before}
use Rattle.theorem_take_silent.proofs.Sums.{sum_over-after, sum_over-same}
use Rattle.theorem_take_silent.specs.Change.{Change, Changes}
use Rattle.theorem_take_silent.specs.Named.{IsSentWithin}
use Rattle.theorem_take_silent.specs.Sums.{AllSent, IsWithin, sum_sent, sum_taken}
use Rattle.theorem_meaning.proofs.Ends.{opposite-twice}
use Rattle.theorem_meaning.specs.Fields.{Stand, HasFields, IsAskedAs, IsAsking, IsUnserved, IsUnwantOf}
use Rattle.theorem_meaning.specs.Invariant.{AreAsked, AreCancelling, AreCounted, AreMarked, AreNamed, AreRight, AreSentOnce, AreWanted, IsFew, IsHereIfLiving, IsHonest, IsPacketRight, IsServed, IsUnwantedOnce, IsVoidRight, NamesBelow, is_message_of, is_taken_of, is_unwanted_to}
use Rattle.theorem_meaning.specs.Packets.{Each, Links, how_many, one_if}
use Rattle.theorem_meaning.specs.StandsFor.{AreLinksOf, entry_at, home_of, standing}
use Rattle.theorem_ends_destroyed.specs.Ending.{Dropped, IsEnding, IsSendAfter, IsToldOf, Kept, Returned}
use Rattle.theorem_ends_destroyed.proofs.Facts as facts

module _ {ended : EndId → Bool} {w u : Links} {c : Change} {s : State} {t : EndId → End} {g : ℕ → Process} (b : Changes w c u) (x : IsEnding ended w c s t g) (n : ℕ) (few : n ≤ 8) (named : AreNamed n w s.ends)
    (marked : (e : EndId) → AreMarked w s.ends e) (within : IsWithin 8 c) (once : (e : EndId) → standing w e ≡ one_if (is_living (s.ends e).place)) where
  abbrev after : State
  after = record s { ends = t; process = g }

  -- ---- entries

  entry-unended : (j : ℕ) (e : EndId) (v : HereView) → u.entry j e ≡ entry.Here v → w.entry j e ≡ entry.Here v
  entry-unended = facts.view-was b x n few named marked once within

  here-now : (j : ℕ) (e : EndId) (P : HereView → Type 0) → is_living (t e).place ≡ true → IsHereAnd (w.entry j e) P → IsHereAnd (u.entry j e) P
  here-now j e P living has = facts.here-still b x j e P (facts.unended b x e living) has

  -- where a receive was being withdrawn it still is
  withdrawing-still : (j : ℕ) (e : EndId) → IsHereAnd (w.entry j e) (λ v. is_withdrawing v.inward ≡ true) → IsHereAnd (u.entry j e) (λ v. is_withdrawing v.inward ≡ true)
  withdrawing-still j e has = facts.here-still b x j e (λ v. is_withdrawing v.inward ≡ true) (facts.not-true (ended e) (λ on. x.calm e j on has)) has

  fields-living : (e : EndId) (at : Stand) (m : MovingPicture) → is_living (t e).place ≡ true → HasFields u e at m → HasFields w e at m
  fields-living e at m living has = facts.other-fields b x e at m (facts.unended b x e living) has

  -- ---- where ends are, and what was heard

  marked-after : (e : EndId) → AreMarked u t e
  marked-after e = by (ended e) refl
    where
      own : (j : ℕ) (m : MovingPicture) → ended e ≡ true → entry_at u j e ≡ entry.Destroyed m → j ≡ c.kernel
      own j m = facts.mark-here b x n few named marked once within j e m

      by : (d : Bool) → ended e ≡ d → AreMarked u t e
      by true on =
          record {
            destroyed = λ k m at. facts.place-ended b x e on;
            once = λ j k m l at there. own j m on at ∙ sym (own k l on there);
          }
      by false off =
          record {
            destroyed = λ k m at. facts.place-other b x e off ∙ (marked e).destroyed k m (sym (facts.other-entry b x k e off) ∙ at);
            once = λ j k m l at there. (marked e).once j k m l (sym (facts.other-entry b x j e off) ∙ at) (sym (facts.other-entry b x k e off) ∙ there);
          }

  counted-after : ((e : EndId) → AreCounted w s.ends e) → (e : EndId) → AreCounted u t e
  counted-after are e =
      record {
        sent = λ at m living has. (are e).sent at m (facts.living-was b x e living) (fields-living e at m living has) ∙ sym (facts.sent-same b x e);
        dead = λ at m living has. (are e).dead at m (facts.living-was b x e living) (fields-living e at m living has) ∙ sym (facts.noticed-same b x e);
        unwanted = λ at m living noticed has. (are e).unwanted at m (facts.living-was b x e living) (sym (facts.noticed-same b x e) ∙ noticed) (fields-living e at m living has);
      }

  honest-after : ((e : EndId) → IsHonest w e) → (e : EndId) → IsHonest u e
  honest-after are e at m j h has heard =
      let was = facts.fields-was b x e at m has in
      was.2 j h (are e was.0 m j h was.1 (facts.heard-was b x e j h heard))

  few-after : (i : ℕ) → ((e : EndId) (at : Stand) (m : MovingPicture) → HasFields w e at m → IsFew i m) → (e : EndId) (at : Stand) (m : MovingPicture) → HasFields u e at m → IsFew (i + 1) m
  few-after i are e at m has =
      let was = facts.fields-was b x e at m has in
      let is = are e was.0 m was.1 in
      record { hops = omega (arith, is.hops); sent = omega (arith, is.sent); asked = omega (arith, is.asked) }

  -- ---- receives

  asked-after : ((e : EndId) → AreAsked w s e) → (e : EndId) → AreAsked u after e
  asked-after are e =
      record {
        last = λ k v r there asked. (are e).last k v r (entry-unended k e v there) asked;
        cancelled = λ k v r p there withdrawing held. (x.cancelling p e).1 ((are e).cancelled k v r p (entry-unended k e v there) withdrawing held);
      }

  cancelling-after : AreCancelling w s → AreCancelling u after
  cancelling-after are p e at = withdrawing-still (home_of s p) e (are p e ((x.cancelling p e).0 at))

  served-after : ((e : EndId) → IsServed w s.ends e) → (e : EndId) → IsServed u t e
  served-after are e k v r at m there asked unposted living has =
      are e k v r at m (entry-unended k e v there) asked (sym (ap is_posted (facts.inward-same b x e)) ∙ unposted) (facts.living-was b x (opposite e) living) (fields-living (opposite e) at m living has)

  -- ---- what is asked

  unserved-was : (e : EndId) (m : MovingPicture) (r j h : ℕ) → IsUnserved u e m r j h → IsUnserved w e m r j h
  unserved-was e m r j h (inl is) = inl is
  unserved-was e m r j h (inr is) = inr (is.0, facts.packet-was b x (IsAsking e r j h) (λ to k no. no) is.1)

  wanted-after : ((e : EndId) → AreWanted w s.ends e) → (e : EndId) → AreWanted u t e
  wanted-after are e =
      record {
        kept = λ at m open' has. old.kept at m (facts.open-was b x e open') (fields at m open' has);
        same = λ at m r j h o i g open' has one two. old.same at m r j h o i g (facts.open-was b x e open') (fields at m open' has) (unserved-was e m r j h one) (unserved-was e m o i g two);
        posted = λ at m r j h open' has one.
            ap is_posted (facts.inward-same b x (opposite e)) ∙ old.posted at m r j h (facts.open-was b x e open') (fields at m open' has) (unserved-was e m r j h one);
        site = λ at m r j h open' has one living.
            here-now j (opposite e) (λ v. (v.value.hops ≡ h) × (v.value.asked ≡ r)) living
            (old.site at m r j h (facts.open-was b x e open') (fields at m open' has) (unserved-was e m r j h one) (facts.living-was b x (opposite e) living));
        unwanted = λ at m r open' has low one.
            let there = old.unwanted at m r (facts.open-was b x e open') (fields at m open' has) low (facts.packet-was b x (IsUnwantOf e r) (λ to k no. no) one) in
            (there.0, withdrawing-still there.0 (opposite e) there.1);
      }
    where
      old : AreWanted w s.ends e
      old = are e

      fields : (at : Stand) (m : MovingPicture) → is_open (t e) ≡ true → HasFields u e at m → HasFields w e at m
      fields at m open' has = fields-living e at m (facts.open-living b x e open') has

  -- ---- how many packets

  unwanted-after : ((e : EndId) → IsUnwantedOnce w s.ends e) → (e : EndId) → IsUnwantedOnce u t e
  unwanted-after are e noticed =
      subst (λ z. z ≤ 1) (sym (sum_over-same (λ q. one_if (is_unwanted_to e q)) b (facts.taken-none b x (λ q. one_if (is_unwanted_to e q)) (λ f r ms. refl)) (facts.sent-none b x (λ q. one_if (is_unwanted_to e q)) (λ to k. refl))))
      (are e (sym (facts.noticed-same b x e) ∙ noticed))

  takens-same : (f : EndId) → how_many (is_taken_of f) u ≡ how_many (is_taken_of f) w
  takens-same f = sum_over-same (λ q. one_if (is_taken_of f q)) b (facts.taken-none b x (λ q. one_if (is_taken_of f q)) (λ e r ms. refl)) (facts.sent-none b x (λ q. one_if (is_taken_of f q)) (λ to k. refl))

  messages-fewer : (f : EndId) → how_many (is_message_of f) u + sum_taken (λ q. one_if (is_message_of f q)) c.taken ≡ how_many (is_message_of f) w
  messages-fewer f =
      let both = sum_over-after (λ q. one_if (is_message_of f q)) b within in
      let none : sum_sent (λ q. one_if (is_message_of f q)) c.packets ≡ 0 = facts.sent-nothing (λ q. one_if (is_message_of f q)) c.packets (facts.sent-none b x (λ q. one_if (is_message_of f q)) (λ to k. refl)) in
      omega (arith, both, none)

  message-after : ((e : EndId) → AreSentOnce w s.ends e) → (f : EndId) → how_many (is_message_of f) u ≡ one_if (is_some (matched_message (t f).outward))
  message-after are f = by (x.send f) (messages-fewer f)
    where
      some_if : Outward → ℕ
      some_if o = one_if (is_some (matched_message o))

      before : how_many (is_message_of f) w ≡ some_if (s.ends f).outward
      before = (are f).message

      by : {r : ℕ} → IsSendAfter (s.ends f) (t f) r → how_many (is_message_of f) u + r ≡ how_many (is_message_of f) w → how_many (is_message_of f) u ≡ some_if (t f).outward
      by (Kept same none) fewer = let now : some_if (t f).outward ≡ some_if (s.ends f).outward = ap some_if same in omega (arith, fewer, none, before, now)
      by (Dropped m was now dead none) fewer =
          let waited : some_if (s.ends f).outward ≡ 0 = ap some_if was in
          let idle : some_if (t f).outward ≡ 0 = ap some_if now in
          omega (arith, fewer, none, before, waited, idle)
      by (Returned m was now dead one) fewer =
          let matched : some_if (s.ends f).outward ≡ 1 = ap some_if was in
          let idle : some_if (t f).outward ≡ 0 = ap some_if now in
          omega (arith, fewer, one, before, matched, idle)

  once-after : ((e : EndId) → AreSentOnce w s.ends e) → (f : EndId) → AreSentOnce u t f
  once-after are f =
      record {
        message = message-after are f;
        taken = subst (λ z. z ≤ one_if (is_taken (t f).outward)) (sym (takens-same f)) (subst (λ z. how_many (is_taken_of f) w ≤ one_if z) (sym (facts.taken-same b x f)) (are f).taken);
        told = λ living. takens-same f ∙ (are f).told (facts.living-was b x f living) ∙ sym (ap one_if (facts.taken-same b x f));
      }

  -- ---- each packet

  -- a message that is under way afterwards is matched as before
  still-matched : ((e : EndId) → AreSentOnce w s.ends e) → (f : EndId) (m : Message) (from to : ℕ) (q : Picture) → Contains (b.left from to) q → is_message_of f q.what ≡ true → (s.ends f).outward ≡ outward.Matched m → (t f).outward ≡ outward.Matched m
  still-matched are f m from to q has its matched = by (x.send f)
    where
      one : 1 ≤ how_many (is_message_of f) u
      one =
          let below = list-below n w s.ends few named marked once from to q (left-before b from to q has) in
          let least = sum_over-least (λ z. one_if (is_message_of f z)) u from to q below.0 below.1 (left-after b from to q has) in
          let counts : one_if (is_message_of f q.what) ≡ 1 = ap one_if its in
          omega (arith, least, counts)

      by : {r : ℕ} → IsSendAfter (s.ends f) (t f) r → (t f).outward ≡ outward.Matched m
      by (Kept same none) = same ∙ matched
      by (Dropped l was now dead none) = absurd (let both : outward.Waiting l ≡ outward.Matched m = sym was ∙ matched in cc)
      by (Returned l was now dead gone) = absurd (let none : how_many (is_message_of f) u ≡ 0 = message-after are f ∙ ap (λ (o : Outward). one_if (is_some (matched_message o))) now in omega (arith, one, none))

  taken-kept : (f : EndId) → (s.ends f).outward ≡ outward.Taken → (t f).outward ≡ outward.Taken
  taken-kept f taken = by (x.send f)
    where
      by : {r : ℕ} → IsSendAfter (s.ends f) (t f) r → (t f).outward ≡ outward.Taken
      by (Kept same none) = same ∙ taken
      by (Dropped l was now dead none) = absurd (let both : outward.Waiting l ≡ outward.Taken = sym was ∙ taken in cc)
      by (Returned l was now dead gone) = absurd (let both : outward.Matched l ≡ outward.Taken = sym was ∙ taken in cc)

  shut-still : (e : EndId) → is_open (s.ends e) ≡ false → is_open (t e) ≡ false
  shut-still e shut = facts.not-true (is_open (t e)) (λ open'. true≢false (sym (facts.open-was b x e open') ∙ shut))

  destroyed-still : (e : EndId) → (s.ends e).place ≡ place.Destroyed → (t e).place ≡ place.Destroyed
  destroyed-still e gone = by (ended e) refl
    where
      by : (d : Bool) → ended e ≡ d → (t e).place ≡ place.Destroyed
      by true on = facts.place-ended b x e on
      by false off = facts.place-other b x e off ∙ gone

  site-still : (j : ℕ) (f : EndId) (P : HereView → Type 0) → IsHereIfLiving w s.ends j f P → IsHereIfLiving u t j f P
  site-still j f P is living = here-now j f P living (is (facts.living-was b x f living))

  void-still : (to : ℕ) (e : EndId) (r : ℕ) → IsVoidRight w s.ends to e r → IsVoidRight u t to e r
  void-still to e r is noticed =
      let has = is (sym (facts.noticed-same b x e) ∙ noticed) in
      facts.here-still b x to e (λ v. v.inward ≡ kernel_inward.Withdrawing r) (facts.not-true (ended e) (λ on. x.calm e to on (withdraws (w.entry to e) has))) has
    where
      withdraws : (y : Entry) → IsHereAnd y (λ v. v.inward ≡ kernel_inward.Withdrawing r) → IsHereAnd y (λ v. is_withdrawing v.inward ≡ true)
      withdraws (entry.Here v) same = ap is_withdrawing same
      withdraws _ none = none

  packets-after : ((e : EndId) → AreSentOnce w s.ends e) → Each w (λ from to q. IsPacketRight w s.ends from to q) → Each u (λ from to q. IsPacketRight u t from to q)
  packets-after are each =
      each-after b (λ from to q. IsPacketRight w s.ends from to q) (λ from to q. IsPacketRight u t from to q) each still
      (λ to what has. told to what (sent-each (λ to what. IsToldOf ended what) c.packets to what x.sent has))
    where
      told : (to : ℕ) (q : PictureWhat) → IsToldOf ended q → IsPacketRight u t c.kernel to q
      told to (packet.Gone f at) tells = facts.place-ended b x (opposite f) tells
      told to _ tells = absurd tells

      kept : (from to stamp : ℕ) (q : PictureWhat) → Contains (b.left from to) (record { stamp = stamp; what = q }) → IsPacketRight w s.ends from to q → IsPacketRight u t from to q
      kept from to stamp (packet.Parcel e m wanted at hops bytes ms) has is =
          record {
            matched =
                still-matched are (opposite e) (record { bytes = bytes; carried = ends_in ms }) from to (record { stamp = stamp; what = packet.Parcel e m wanted at hops bytes ms }) has
                (ap (λ z. end_eq z e) (opposite-twice e) ∙ end_eq-refl e) is.matched;
            number = facts.sent-same b x (opposite e) ∙ is.number;
            sender = is.sender;
            site = site-still from (opposite e) (λ v. v.value.hops ≡ hops) is.site;
            meets = λ open'. here-now to e (λ v. IsAskedAs wanted v.inward) (facts.open-living b x e open') (is.meets (facts.open-was b x e open'));
          }
      kept from to stamp (packet.Back f m ms) has is =
          record {
            matched =
                record {
                  message = is.matched.message;
                  matched = still-matched are f is.matched.message from to (record { stamp = stamp; what = packet.Back f m ms }) has (end_eq-refl f) is.matched.matched;
                  carries = is.matched.carries;
                  number = facts.sent-same b x f ∙ is.matched.number;
                };
            untaken = shut-still (opposite f) is.untaken;
            site = site-still to f (λ v. Unit {0}) is.site;
          }
      kept from to stamp (packet.Taken f m at hops) has is =
          record { taken = taken-kept f is.taken; number = facts.sent-same b x f ∙ is.number; taker = is.taker; site = site-still to f (λ v. Unit {0}) is.site }
      kept from to stamp (packet.Gone f at) has is = destroyed-still (opposite f) is
      kept from to stamp (packet.Unwanted f r at hops) has is = void-still to f r is
      kept from to stamp _ has is = tt

      still : (from to : ℕ) (q : Picture) → Contains (b.left from to) q → IsPacketRight w s.ends from to q.what → IsPacketRight u t from to q.what
      still from to q has is = kept from to q.stamp q.what has is

  -- ---- names

  made-after : (e : EndId) → is_made (s.ends e).place ≡ true → is_made (t e).place ≡ true
  made-after e made = by (ended e) refl
    where
      by : (d : Bool) → ended e ≡ d → is_made (t e).place ≡ true
      by true on = ap is_made (facts.place-ended b x e on)
      by false off = ap is_made (facts.place-other b x e off) ∙ made

  -- both ends of the link of an end that is destroyed are made
  addressees : AreKept s → AllSent (λ to what. is_made (t (addressee what)).place ≡ true) c.packets
  addressees kept = all_sent-weaker (λ to what. IsToldOf ended what) (λ to what. is_made (t (addressee what)).place ≡ true) (λ to what. told what) c.packets x.sent
    where
      told : (q : PictureWhat) → IsToldOf ended q → is_made (t (addressee q)).place ≡ true
      told (packet.Gone to at) on =
          made-after to (kept.made to ∙ sym (kept.made (opposite to)) ∙ living-made (s.ends (opposite to)).place (facts.was-living b x n few named marked once within (opposite to) on))
      told _ on = absurd on

-- all clauses, where the event names no kernel that there is not
pub ended-right : {ended : EndId → Bool} {w u : Links} {c : Change} {s : State} {t : EndId → End} {g : ℕ → Process} → Changes w c u → IsEnding ended w c s t g → (i : ℕ) → length s.made ≤ 8 → c.kernel < length s.made → IsWithin 8 c
    → ((e : EndId) (y : Entry) → NamesBelow (length s.made) y → NamesBelow (length s.made) (c.entry e y)) → AllSent (IsSentWithin (length s.made)) c.packets → AreKept s → AreLinksOf w s → AreRight i w s → AreRight (i + 1) u (record s { ends = t; process = g })
ended-right {ended} {w} {u} {c} {s} {t} {g} b x i few near within entries sent kept links is =
    let n = length s.made in
    record {
      named = named-after n b near is.named t entries sent (made-after b x n few is.named is.marked within links.once) (addressees b x n few is.named is.marked within links.once kept);
      few = few-after b x n few is.named is.marked within links.once i is.few;
      marked = marked-after b x n few is.named is.marked within links.once;
      counted = counted-after b x n few is.named is.marked within links.once is.counted;
      honest = honest-after b x n few is.named is.marked within links.once is.honest;
      asked = asked-after b x n few is.named is.marked within links.once is.asked;
      cancelling = cancelling-after b x n few is.named is.marked within links.once is.cancelling;
      served = served-after b x n few is.named is.marked within links.once is.served;
      wanted = wanted-after b x n few is.named is.marked within links.once is.wanted;
      unwanted = unwanted-after b x n few is.named is.marked within links.once is.unwanted;
      once = once-after b x n few is.named is.marked within links.once is.once;
      packets = packets-after b x n few is.named is.marked within links.once is.once is.packets;
    }
