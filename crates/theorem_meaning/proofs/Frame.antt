-- What is true of a link stays true while nothing of it changes: neither its two ends, nor a packet that is addressed to one of them or
-- carries one. w and t are the links of kernels and the ends of the service before an event, v and u after it.
use Rattle.std.proofs.Common.{◌≡◌, ◌⊎◌, inl, inr, ℕ, zero, suc, ◌≤◌, true, false, List, [], ◌∷◌, Contains, is_some, refl, sym, ap, subst, ◌∙◌, arith}
use Rattle.charlotte_calls.specs.Names.{opposite}
use Rattle.charlotte_calls.specs.declared.names.EndId.{EndId}
use Rattle.charlotte_packets.specs.declared.picture.MovingPicture.{MovingPicture}
use Rattle.charlotte_packets.specs.declared.picture.PictureWhat.{PictureWhat}
use Rattle.charlotte_packets.specs.declared.picture.PictureWhat.TheVariants as packet
use Rattle.end_table.specs.Table.{IsHereAnd}
use Rattle.end_table.specs.declared.entry.HereView.{HereView}
use Rattle.end_table.specs.declared.entry.Inward.TheVariants as kernel_inward
use Rattle.kernel_sound.specs.Sound.{addressee}
use Rattle.kernel_step.specs.Actions.{is_withdrawing}
use Rattle.kernel_step.specs.Rows.{ends_in}
use Rattle.service_lawful.specs.Consistent.{is_open}
use Rattle.service_step.specs.Ends.{is_living, is_posted, is_taken, matched_message}
use Rattle.service_step.specs.declared.state.End.{End}
use Rattle.service_step.specs.declared.state.Outward.TheVariants as outward
use Rattle.service_step.specs.declared.state.Place.TheVariants as place
use Rattle.theorem_meaning.proofs.Ends.{opposite-twice}
use Rattle.theorem_meaning.specs.Fields.{Stand, At, Flying, HasFields, IsHeard, IsNews, IsAsking, IsUnwantOf, IsUnserved, IsAskedAs, value_of}
use Rattle.theorem_meaning.specs.Invariant.{AreMarked, AreCounted, IsHonest, IsServed, AreWanted, AreSentOnce, IsUnwantedOnce, IsPacketRight, IsParcelRight, IsBackRight, IsTakenRight, is_message_of, is_taken_of, is_unwanted_to}
use Rattle.theorem_meaning.specs.Packets.{Links, IsUnderWay, how_many, one_if, values_of}
use Rattle.theorem_meaning.specs.StandsFor.{entry_at}

-- a packet is about the link of e: it is addressed to one of its ends, or carries one
abbrev pub IsAbout : EndId → PictureWhat → Type 0
IsAbout e q = (addressee q ≡ e) ⊎ (addressee q ≡ opposite e) ⊎ Contains (ends_in (values_of q)) e ⊎ Contains (ends_in (values_of q)) (opposite e)

-- nothing of the link of e is new
pub record IsSameLink (w v : Links) (e : EndId) : Type 0 where
  pub own : (k : ℕ) → entry_at v k e ≡ entry_at w k e
  pub other : (k : ℕ) → entry_at v k (opposite e) ≡ entry_at w k (opposite e)
  pub packets : (q : PictureWhat) → IsAbout e q → IsUnderWay v (λ r. r ≡ q) → IsUnderWay w (λ r. r ≡ q)

-- a packet about the link that is under way was so before
pub had-packets : (w v : Links) (e : EndId) → IsSameLink w v e → (P : PictureWhat → Type 0) → ((q : PictureWhat) → P q → IsAbout e q) → IsUnderWay v P → IsUnderWay w P
had-packets w v e l P about u =
    let before = l.packets u.packet.what (about u.packet.what u.is) (record { from = u.from; to = u.to; packet = u.packet; there = u.there; is = refl }) in
    record { from = before.from; to = before.to; packet = before.packet; there = before.there; is = subst P (sym before.is) u.is }

-- the link of an end is that of its opposite
pub same-opposite : (w v : Links) (e : EndId) → IsSameLink w v e → IsSameLink w v (opposite e)
same-opposite w v e l =
    record {
      own = l.other;
      other = λ k. ap (entry_at v k) (opposite-twice e) ∙ l.own k ∙ sym (ap (entry_at w k) (opposite-twice e));
      packets = λ q about. l.packets q (turned q about);
    }
  where
    turned : (q : PictureWhat) → IsAbout (opposite e) q → IsAbout e q
    turned q (inl is) = inr (inl is)
    turned q (inr (inl is)) = inl (is ∙ opposite-twice e)
    turned q (inr (inr (inl is))) = inr (inr (inr is))
    turned q (inr (inr (inr is))) = inr (inr (inl (subst (Contains (ends_in (values_of q))) (opposite-twice e) is)))

carried : (ms : List MovingPicture) (m : MovingPicture) (e : EndId) → Contains ms m → m.end ≡ e → Contains (ends_in ms) e
carried [] m e has is = absurd (omega (arith, has.1))
carried (x ∷ ms) m e (zero, below, at) is = (zero, omega arith, ap (λ (z : MovingPicture). z.end) at ∙ is)
carried (x ∷ ms) m e (suc i, below, at) is = let rest = carried ms m e (i, omega arith, at) is in (suc rest.0, omega (arith, rest.1), rest.2)

news-for : (t : EndId) (j h : ℕ) (q : PictureWhat) → IsNews t j h q → addressee q ≡ t
news-for t j h (packet.Want to w at hops) is = is.0
news-for t j h (packet.Unwant to w at hops) is = is.0
news-for t j h (packet.Unwanted to w at hops) is = is.0
news-for t j h (packet.Parcel to n w at hops bytes ms) is = is.0
news-for t j h (packet.Taken to n at hops) is = is.0
news-for t j h (packet.Moved to at hops) is = is.0
news-for t j h _ is = absurd is

asking-for : (t : EndId) (n j h : ℕ) (q : PictureWhat) → IsAsking t n j h q → addressee q ≡ t
asking-for t n j h (packet.Want to w at hops) is = is.0
asking-for t n j h (packet.Unwant to w at hops) is = is.0
asking-for t n j h _ is = absurd is

unwant-for : (t : EndId) (n : ℕ) (q : PictureWhat) → IsUnwantOf t n q → addressee q ≡ t
unwant-for t n (packet.Unwant to w at hops) is = is.0
unwant-for t n _ is = absurd is

module _ (w v : Links) (e : EndId) (l : IsSameLink w v e) where
  -- the fields of an end are those that it had
  pub had-fields : (at : Stand) (m : MovingPicture) → HasFields v e at m → HasFields w e at m
  had-fields (At k) m has = sym (ap value_of (l.own k)) ∙ has
  had-fields Flying m has = (had-packets w v e l (λ q. Contains (values_of q) m) (λ q is. inr (inr (inl (carried (values_of q) m e is has.1)))) has.0, has.1)

  pub still-here : (k : ℕ) (P : HereView → Type 0) → IsHereAnd (entry_at w k e) P → IsHereAnd (entry_at v k e) P
  still-here k P is = subst (λ x. IsHereAnd x P) (sym (l.own k)) is

  pub had-asking : (m : MovingPicture) (n j h : ℕ) → IsUnserved v e m n j h → IsUnserved w e m n j h
  had-asking m n j h (inl is) = inl is
  had-asking m n j h (inr is) = inr (is.0, had-packets w v e l (IsAsking e n j h) (λ q asks. inl (asking-for e n j h q asks)) is.1)

module _ (w v : Links) (e : EndId) (l : IsSameLink w v e) where
  -- what was heard of an end was heard of it before
  pub had-heard : (j h : ℕ) → IsHeard v e j h → IsHeard w e j h
  had-heard j h (inl is) = inl (record { stand = is.stand; fields = is.fields; are = had-fields w v (opposite e) (same-opposite w v e l) is.stand is.fields is.are; hint = is.hint })
  had-heard j h (inr is) = inr (had-packets w v e l (IsNews (opposite e) j h) (λ q news. inr (inl (news-for (opposite e) j h q news))) is)

  pub frame-honest : IsHonest w e → IsHonest v e
  frame-honest is at m j h has heard = is at m j h (had-fields w v e l at m has) (had-heard j h heard)

  module _ (t u : EndId → End) (own : u e ≡ t e) (other : u (opposite e) ≡ t (opposite e)) where
    -- from the end afterwards to the end before, and back
    was : (P : End → Type 0) → P (u e) → P (t e)
    was P is = subst P own is

    now : (P : End → Type 0) → P (t e) → P (u e)
    now P is = subst P (sym own) is

    was_other : (P : End → Type 0) → P (u (opposite e)) → P (t (opposite e))
    was_other P is = subst P other is

    now_other : (P : End → Type 0) → P (t (opposite e)) → P (u (opposite e))
    now_other P is = subst P (sym other) is

    pub frame-marked : AreMarked w t e → AreMarked v u e
    frame-marked is =
        record {
          destroyed = λ k m at. now (λ x. x.place ≡ place.Destroyed) (is.destroyed k m (sym (l.own k) ∙ at));
          once = λ j k m n at there. is.once j k m n (sym (l.own j) ∙ at) (sym (l.own k) ∙ there);
        }

    pub frame-counted : AreCounted w t e → AreCounted v u e
    frame-counted is =
        record {
          sent = λ at m lives has. is.sent at m (was (λ x. is_living x.place ≡ true) lives) (had-fields w v e l at m has) ∙ sym (ap (λ (x : End). x.sent) own);
          dead = λ at m lives has. is.dead at m (was (λ x. is_living x.place ≡ true) lives) (had-fields w v e l at m has) ∙ sym (ap (λ (x : End). x.noticed) own);
          unwanted = λ at m lives noticed has. is.unwanted at m (was (λ x. is_living x.place ≡ true) lives) (was (λ x. x.noticed ≡ true) noticed) (had-fields w v e l at m has);
        }

    pub frame-served : IsServed w t e → IsServed v u e
    frame-served is k view n at m here asked unposted lives has =
        is k view n at m (sym (l.own k) ∙ here) asked (was (λ x. is_posted x.inward ≡ false) unposted) (was_other (λ x. is_living x.place ≡ true) lives)
        (had-fields w v (opposite e) (same-opposite w v e l) at m has)

    pub frame-wanted : AreWanted w t e → AreWanted v u e
    frame-wanted is =
        record {
          kept = λ at m open' has. is.kept at m (before open') (had-fields w v e l at m has);
          same = λ at m n j h o i g open' has one two. is.same at m n j h o i g (before open') (had-fields w v e l at m has) (had-asking w v e l m n j h one) (had-asking w v e l m o i g two);
          posted = λ at m n j h open' has asks. now_other (λ x. is_posted x.inward ≡ true) (is.posted at m n j h (before open') (had-fields w v e l at m has) (had-asking w v e l m n j h asks));
          site = λ at m n j h open' has asks lives.
              still-here w v (opposite e) (same-opposite w v e l) j (λ view. (view.value.hops ≡ h) × (view.value.asked ≡ n))
              (is.site at m n j h (before open') (had-fields w v e l at m has) (had-asking w v e l m n j h asks) (was_other (λ x. is_living x.place ≡ true) lives));
          unwanted = λ at m n open' has low under.
              let there = is.unwanted at m n (before open') (had-fields w v e l at m has) low (had-packets w v e l (IsUnwantOf e n) (λ q unwants. inl (unwant-for e n q unwants)) under) in
              (there.0, still-here w v (opposite e) (same-opposite w v e l) there.0 (λ view. is_withdrawing view.inward ≡ true) there.1);
        }
      where
        before : is_open (u e) ≡ true → is_open (t e) ≡ true
        before open' = was (λ x. is_open x ≡ true) open'

    -- where as many packets are about it as before
    pub frame-once : how_many (is_message_of e) v ≡ how_many (is_message_of e) w → how_many (is_taken_of e) v ≡ how_many (is_taken_of e) w → AreSentOnce w t e → AreSentOnce v u e
    frame-once messages takens is =
        record {
          message = messages ∙ is.message ∙ sym (ap (λ (x : End). one_if (is_some (matched_message x.outward))) own);
          taken = now (λ x. how_many (is_taken_of e) v ≤ one_if (is_taken x.outward)) (subst (λ n. n ≤ one_if (is_taken (t e).outward)) (sym takens) is.taken);
          told = λ lives. takens ∙ is.told (was (λ x. is_living x.place ≡ true) lives) ∙ sym (ap (λ (x : End). one_if (is_taken x.outward)) own);
        }

    pub frame-unwanted : how_many (is_unwanted_to e) v ≡ how_many (is_unwanted_to e) w → IsUnwantedOnce w t e → IsUnwantedOnce v u e
    frame-unwanted count is noticed = subst (λ n. n ≤ 1) (sym count) (is (was (λ x. x.noticed ≡ false) noticed))

    -- of a packet that is addressed to e
    pub frame-packet : (from to : ℕ) (q : PictureWhat) → addressee q ≡ e → IsPacketRight w t from to q → IsPacketRight v u from to q
    frame-packet from to (packet.Parcel f n wanted at hops bytes ms) addressed is =
        subst (λ z. IsParcelRight v u from to z n wanted at hops bytes (ends_in ms)) (sym addressed) (parcel (subst (λ z. IsParcelRight w t from to z n wanted at hops bytes (ends_in ms)) addressed is))
      where
        parcel : IsParcelRight w t from to e n wanted at hops bytes (ends_in ms) → IsParcelRight v u from to e n wanted at hops bytes (ends_in ms)
        parcel p =
            record {
              matched = now_other (λ x. x.outward ≡ outward.Matched (record { bytes = bytes; carried = ends_in ms })) p.matched;
              number = now_other (λ x. x.sent ≡ n) p.number;
              sender = p.sender;
              site = λ lives. still-here w v (opposite e) (same-opposite w v e l) from (λ view. view.value.hops ≡ hops) (p.site (was_other (λ x. is_living x.place ≡ true) lives));
              meets = λ open'. still-here w v e l to (λ view. IsAskedAs wanted view.inward) (p.meets (was (λ x. is_open x ≡ true) open'));
            }
    frame-packet from to (packet.Back f n ms) addressed is = subst (λ z. IsBackRight v u to z n (ends_in ms)) (sym addressed) (back (subst (λ z. IsBackRight w t to z n (ends_in ms)) addressed is))
      where
        back : IsBackRight w t to e n (ends_in ms) → IsBackRight v u to e n (ends_in ms)
        back b =
            record {
              matched = record { message = b.matched.message; matched = now (λ x. x.outward ≡ outward.Matched b.matched.message) b.matched.matched; carries = b.matched.carries; number = now (λ x. x.sent ≡ n) b.matched.number };
              untaken = now_other (λ x. is_open x ≡ false) b.untaken;
              site = λ lives. still-here w v e l to (λ view. Unit {0}) (b.site (was (λ x. is_living x.place ≡ true) lives));
            }
    frame-packet from to (packet.Taken f n at hops) addressed is = subst (λ z. IsTakenRight v u from to z n at) (sym addressed) (taken (subst (λ z. IsTakenRight w t from to z n at) addressed is))
      where
        taken : IsTakenRight w t from to e n at → IsTakenRight v u from to e n at
        taken k =
            record {
              taken = now (λ x. x.outward ≡ outward.Taken) k.taken;
              number = now (λ x. x.sent ≡ n) k.number;
              taker = k.taker;
              site = λ lives. still-here w v e l to (λ view. Unit {0}) (k.site (was (λ x. is_living x.place ≡ true) lives));
            }
    frame-packet from to (packet.Gone f at) addressed is = subst (λ z. (u (opposite z)).place ≡ place.Destroyed) (sym addressed) (now_other (λ x. x.place ≡ place.Destroyed) (subst (λ z. (t (opposite z)).place ≡ place.Destroyed) addressed is))
    frame-packet from to (packet.Unwanted f n at hops) addressed is =
        subst (λ z. (u z).noticed ≡ false → IsHereAnd (entry_at v to z) (λ view. view.inward ≡ kernel_inward.Withdrawing n)) (sym addressed)
        (λ noticed. still-here w v e l to (λ view. view.inward ≡ kernel_inward.Withdrawing n)
        (subst (λ z. (t z).noticed ≡ false → IsHereAnd (entry_at w to z) (λ view. view.inward ≡ kernel_inward.Withdrawing n)) addressed is (was (λ x. x.noticed ≡ false) noticed)))
    frame-packet from to _ addressed is = tt
