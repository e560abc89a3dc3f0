-- Where all stays but who holds ends, how a send goes that is not matched, and how many sends there were, all clauses on links are true again.
use Rattle.std.proofs.Common.{◌≡◌, ◌⊎◌, inl, inr, ℕ, ◌<◌, ◌≤◌, Bool, true, false, length, slice_index, is_some, sym, ap, subst, ◌∙◌}
use Rattle.charlotte_calls.specs.Names.{opposite}
use Rattle.charlotte_packets.specs.Packets.{is_addressed}
use Rattle.charlotte_calls.specs.declared.names.EndId.{EndId}
use Rattle.charlotte_packets.specs.declared.picture.MovingPicture.{MovingPicture}
use Rattle.charlotte_packets.specs.declared.picture.PictureWhat.{PictureWhat}
use Rattle.charlotte_packets.specs.declared.picture.PictureWhat.TheVariants as packet
use Rattle.end_table.specs.Table.{IsHereAnd}
use Rattle.end_table.specs.declared.entry.HereView.{HereView}
use Rattle.end_table.specs.declared.entry.Inward.{Inward as KernelInward}
use Rattle.end_table.specs.declared.entry.Inward.TheVariants as kernel_inward
use Rattle.kernel_sound.specs.Sound.{addressee}
use Rattle.kernel_step.specs.Actions.{is_withdrawing}
use Rattle.service_lawful.specs.Consistent.{is_open}
use Rattle.service_step.specs.Ends.{is_living, is_made, is_posted, is_taken}
use Rattle.service_step.specs.State.{State, Process}
use Rattle.service_step.specs.declared.state.Inward.{Inward}
use Rattle.theorem_meaning.specs.Fields.{Stand, HasFields, IsAskedAs, IsNoMore, IsUnwantOf}
use Rattle.theorem_meaning.specs.Invariant.{AreAsked, AreCancelling, AreCounted, AreMarked, AreNamed, AreRight, AreSentOnce, AreWanted, IsFew, IsHereIfLiving, IsHonest, IsPacketRight, IsServed, IsUnwantedOnce, is_message_of, is_taken_of, is_unwanted_to}
use Rattle.theorem_meaning.specs.Packets.{Links, how_many, one_if}
use Rattle.theorem_meaning.specs.StandsFor.{entry_at, home_of}
use Rattle.theorem_call_send.specs.Kept.{AreLinksKept, IsViewKept}
use Rattle.theorem_call_send.proofs.Kept.{destroyed-kept, destroyed-was, fields-was, heard-was, here-still, names-kept, nothing-kept, open-kept, unserved-was, view-was}
use Rattle.theorem_call_send.proofs.SamePackets.{each-same, number-same, packet-same}

module _ {i : ℕ} {w u : Links} {s t : State} (x : AreLinksKept w u s t) (right : AreRight i w s) where
  living-was : (f : EndId) → is_living (t.ends f).place ≡ true → is_living (s.ends f).place ≡ true
  living-was f is = sym (x.ends f).living ∙ is

  noticed-was : (f : EndId) (b : Bool) → (t.ends f).noticed ≡ b → (s.ends f).noticed ≡ b
  noticed-was f b is = sym (x.ends f).noticed ∙ is

  open-same : (f : EndId) → is_open (t.ends f) ≡ is_open (s.ends f)
  open-same f = open-kept (s.ends f) (t.ends f) (x.ends f)

  open-was : (f : EndId) → is_open (t.ends f) ≡ true → is_open (s.ends f) ≡ true
  open-was f is = sym (open-same f) ∙ is

  posted-same : (f : EndId) → is_posted (t.ends f).inward ≡ is_posted (s.ends f).inward
  posted-same f = ap (λ (y : Inward). is_posted y) (x.ends f).inward

  still : (j : ℕ) (f : EndId) (P : HereView → Type 0) → ((v y : HereView) → IsViewKept v y → P v → P y) → IsHereAnd (entry_at w j f) P → IsHereAnd (entry_at u j f) P
  still j f P gives has = here-still (entry_at w j f) (entry_at u j f) P P (x.entries j f) gives has

  -- what is true of a receive stays
  inward-still : (j : ℕ) (f : EndId) (P : KernelInward → Type 0) → IsHereAnd (entry_at w j f) (λ v. P v.inward) → IsHereAnd (entry_at u j f) (λ v. P v.inward)
  inward-still j f P has = still j f (λ v. P v.inward) (λ v y like is. subst P (sym like.inward) is) has

  -- ---- names and numbers

  named-after : AreNamed (length t.made) u t.ends
  named-after =
      subst (λ n. AreNamed n u t.ends) (sym x.kernels)
      (record {
        entries = λ k e. names-kept (length s.made) (entry_at w k e) (entry_at u k e) (x.entries k e) (right.named.entries k e);
        away = λ k e far. nothing-kept (entry_at w k e) (entry_at u k e) (x.entries k e) (right.named.away k e far);
        lists = λ from to far. x.packets from to ∙ right.named.lists from to far;
        addressed = each-same w u x.packets (λ from to q. is_addressed q (length s.made) ≡ true) (λ from to q. is_addressed q (length s.made) ≡ true) (λ from to q is. is) right.named.addressed;
        addressees = each-same w u x.packets (λ from to q. is_made (s.ends (addressee q)).place ≡ true) (λ from to q. is_made (t.ends (addressee q)).place ≡ true) (λ from to q is. (x.ends (addressee q)).made ∙ is) right.named.addressees;
      })

  marked-after : (f : EndId) → AreMarked u t.ends f
  marked-after f =
      record {
        destroyed = λ k m at. destroyed-kept (s.ends f) (t.ends f) (x.ends f) ((right.marked f).destroyed k m (destroyed-was x k f m at));
        once = λ j k m o at there. (right.marked f).once j k m o (destroyed-was x j f m at) (destroyed-was x k f o there);
      }

  counted-after : (f : EndId) → AreCounted u t.ends f
  counted-after f =
      record {
        sent = x.sent f;
        dead = λ at m living has. let o = fields-was x f at m has in ap (λ (z : MovingPicture). z.dead) o.2 ∙ (right.counted f).dead at o.0 (living-was f living) o.1 ∙ sym (x.ends f).noticed;
        unwanted = λ at m living noticed has.
            let o = fields-was x f at m has in ap (λ (z : MovingPicture). z.want) o.2 ∙ (right.counted f).unwanted at o.0 (living-was f living) (noticed-was f true noticed) o.1;
      }

  honest-after : (f : EndId) → IsHonest u f
  honest-after f at m j h has heard =
      let o = fields-was x f at m has in subst (λ z. IsNoMore at z j h) (sym (ap (λ (z : MovingPicture). z.hops) o.2)) (right.honest f at o.0 j h o.1 (heard-was x f j h heard))

  -- ---- receives

  asked-after : (f : EndId) → AreAsked u t f
  asked-after f =
      record {
        last = λ k v n there asked.
            let o = view-was (entry_at w k f) (entry_at u k f) v (x.entries k f) there in
            (right.asked f).last k o.0 n o.1 (subst (IsAskedAs n) o.2.inward asked) ∙ sym (ap (λ (z : MovingPicture). z.asked) o.2.value);
        cancelled = λ k v n p there withdrawing held.
            let o = view-was (entry_at w k f) (entry_at u k f) v (x.entries k f) there in
            ap (λ (z : Process). z.phase) (x.process p.0) ∙ (right.asked f).cancelled k o.0 n p o.1 (sym o.2.inward ∙ withdrawing) (x.owners k f o.0 v n p o.1 there withdrawing held);
      }

  cancelling-after : AreCancelling u t
  cancelling-after p f at =
      inward-still (home_of t p) f (λ z. is_withdrawing z ≡ true)
      (subst (λ hs. IsHereAnd (entry_at w (slice_index hs p.0) f) (λ v. is_withdrawing v.inward ≡ true)) (sym x.homes) (right.cancelling p f (sym (ap (λ (z : Process). z.phase) (x.process p.0)) ∙ at)))

  served-after : (f : EndId) → IsServed u t.ends f
  served-after f k v n at m there asked unposted living has =
      let o = fields-was x (opposite f) at m has in
      let y = view-was (entry_at w k f) (entry_at u k f) v (x.entries k f) there in
      subst (λ z. n ≤ z) (sym (ap (λ (z : MovingPicture). z.served) o.2))
      (right.served f k y.0 n at o.0 y.1 (subst (IsAskedAs n) y.2.inward asked) (sym (posted-same f) ∙ unposted) (living-was (opposite f) living) o.1)

  wanted-after : (f : EndId) → AreWanted u t.ends f
  wanted-after f =
      record {
        kept = λ at m opened has. let o = fields-was x f at m has in kept o.0 m o.2 (old.kept at o.0 (open-was f opened) o.1);
        same = λ at m n j h a b g opened has one two.
            let o = fields-was x f at m has in old.same at o.0 n j h a b g (open-was f opened) o.1 (unserved-was x f o.0 m n j h o.2 one) (unserved-was x f o.0 m a b g o.2 two);
        posted = λ at m n j h opened has one. let o = fields-was x f at m has in posted-same (opposite f) ∙ old.posted at o.0 n j h (open-was f opened) o.1 (unserved-was x f o.0 m n j h o.2 one);
        site = λ at m n j h opened has one living.
            let o = fields-was x f at m has in
            still j (opposite f) (λ v. (v.value.hops ≡ h) × (v.value.asked ≡ n)) (λ v y like is. (ap (λ (z : MovingPicture). z.hops) like.value ∙ is.0, ap (λ (z : MovingPicture). z.asked) like.value ∙ is.1))
            (old.site at o.0 n j h (open-was f opened) o.1 (unserved-was x f o.0 m n j h o.2 one) (living-was (opposite f) living));
        unwanted = λ at m n opened has low one.
            let o = fields-was x f at m has in
            let there = old.unwanted at o.0 n (open-was f opened) o.1 (subst (λ z. z < n) (ap (λ (z : MovingPicture). z.served) o.2) low) ((packet-same w u x.packets (IsUnwantOf f n)).0 one) in
            (there.0, inward-still there.0 (opposite f) (λ z. is_withdrawing z ≡ true) there.1);
      }
    where
      old : AreWanted w s.ends f
      old = right.wanted f

      kept : (o m : MovingPicture) → m ≡ record o { sent = m.sent } → (o.want ≡ 0) ⊎ (o.served < o.want) → (m.want ≡ 0) ⊎ (m.served < m.want)
      kept o m like (inl none) = inl (ap (λ (z : MovingPicture). z.want) like ∙ none)
      kept o m like (inr low) = inr (subst (λ (z : MovingPicture). z.served < z.want) (sym like) low)

  -- ---- packets

  unwanted-after : (f : EndId) → IsUnwantedOnce u t.ends f
  unwanted-after f noticed = subst (λ z. z ≤ 1) (sym (number-same w u x.packets (λ q. one_if (is_unwanted_to f q)))) (right.unwanted f (noticed-was f false noticed))

  once-after : (f : EndId) → AreSentOnce u t.ends f
  once-after f =
      record {
        message = number-same w u x.packets (λ q. one_if (is_message_of f q)) ∙ (right.once f).message ∙ sym (ap (λ z. one_if (is_some z)) (x.ends f).message);
        taken = subst (λ z. z ≤ one_if (is_taken (t.ends f).outward)) (sym tells) (subst (λ b. how_many (is_taken_of f) w ≤ one_if b) (sym (x.ends f).takes) (right.once f).taken);
        told = λ living. tells ∙ (right.once f).told (living-was f living) ∙ sym (ap one_if (x.ends f).takes);
      }
    where
      tells : how_many (is_taken_of f) u ≡ how_many (is_taken_of f) w
      tells = number-same w u x.packets (λ q. one_if (is_taken_of f q))

  stays : (j : ℕ) (f : EndId) → IsHereIfLiving w s.ends j f (λ v. Unit {0}) → IsHereIfLiving u t.ends j f (λ v. Unit {0})
  stays j f is living = still j f (λ v. Unit {0}) (λ v y like is. tt) (is (living-was f living))

  packet-after : (from to : ℕ) (q : PictureWhat) → IsPacketRight w s.ends from to q → IsPacketRight u t.ends from to q
  packet-after from to (packet.Parcel f n wanted at hops bytes ms) is =
      record {
        matched = ((x.ends (opposite f)).matched _ is.matched).0 ∙ is.matched;
        number = ((x.ends (opposite f)).matched _ is.matched).1 ∙ is.number;
        sender = is.sender;
        site = λ living. still from (opposite f) (λ v. v.value.hops ≡ hops) (λ v y like same. ap (λ (z : MovingPicture). z.hops) like.value ∙ same) (is.site (living-was (opposite f) living));
        meets = λ opened. inward-still to f (IsAskedAs wanted) (is.meets (open-was f opened));
      }
  packet-after from to (packet.Back f n ms) is =
      record {
        matched =
            record {
              message = is.matched.message;
              matched = ((x.ends f).matched is.matched.message is.matched.matched).0 ∙ is.matched.matched;
              carries = is.matched.carries;
              number = ((x.ends f).matched is.matched.message is.matched.matched).1 ∙ is.matched.number;
            };
        untaken = open-same (opposite f) ∙ is.untaken;
        site = stays to f is.site;
      }
  packet-after from to (packet.Taken f n at hops) is =
      record { taken = ((x.ends f).taken is.taken).0 ∙ is.taken; number = ((x.ends f).taken is.taken).1 ∙ is.number; taker = is.taker; site = stays to f is.site }
  packet-after from to (packet.Gone f at) is = destroyed-kept (s.ends (opposite f)) (t.ends (opposite f)) (x.ends (opposite f)) is
  packet-after from to (packet.Unwanted f n at hops) is = λ noticed. inward-still to f (λ z. z ≡ kernel_inward.Withdrawing n) (is (noticed-was f false noticed))
  packet-after from to _ is = tt

  -- all clauses, where numbers are few
  pub kept-right : (b : ℕ) → ((f : EndId) (at : Stand) (m : MovingPicture) → HasFields u f at m → IsFew b m) → AreRight b u t
  kept-right b few =
      record {
        named = named-after;
        few = few;
        marked = marked-after;
        counted = counted-after;
        honest = honest-after;
        asked = asked-after;
        cancelling = cancelling-after;
        served = served-after;
        wanted = wanted-after;
        unwanted = unwanted-after;
        once = once-after;
        packets = each-same w u x.packets (λ from to q. IsPacketRight w s.ends from to q) (λ from to q. IsPacketRight u t.ends from to q) packet-after right.packets;
      }
