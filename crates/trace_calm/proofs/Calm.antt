-- A calm event keeps all that is true of the traces of ends.
use Rattle.std.proofs.Common.{◌≡◌, ◌≢◌, ℕ, ◌<◌, ◌≤◌, ◌⊎◌, inl, inr, true, false, true≢false, ◌&&◌, if◌then◌else◌, Some, None, [], Contains, IfSome, refl, sym, ap, subst, ◌∙◌, arith}
use Rattle.charlotte_calls.specs.Names.{opposite}
use Rattle.charlotte_calls.specs.declared.names.EndId.{EndId}
use Rattle.charlotte_packets.specs.declared.picture.MovingPicture.{MovingPicture}
use Rattle.charlotte_packets.specs.declared.picture.PictureWhat.{PictureWhat}
use Rattle.charlotte_packets.specs.declared.picture.PictureWhat.TheVariants as packet
use Rattle.end_table.specs.Table.{IsHereAnd}
use Rattle.end_table.specs.declared.entry.Entry.{Entry}
use Rattle.end_table.specs.declared.entry.Entry.TheVariants as entry
use Rattle.end_table.specs.declared.entry.HereView.{HereView}
use Rattle.service_lawful.specs.Consistent.{is_open}
use Rattle.service_step.specs.Ends.{is_living}
use Rattle.service_step.specs.declared.state.End.{End}
use Rattle.service_step.specs.declared.state.Place.TheVariants as place
use Rattle.trace_events.proofs.TheoremEffectsAside.{sent-each}
use Rattle.trace_events.proofs.Lists.{none-there}
use Rattle.trace_events.proofs.Packets.{taken-was, under_way-after, under_way-sent, left-was}
use Rattle.trace_events.specs.Change.{Change, Changes}
use Rattle.trace_events.specs.Under.{IsLeft, IsSent, IsTaken}
use Rattle.theorem_meaning.proofs.Ends.{opposite-twice}
use Rattle.theorem_meaning.proofs.Plain.{there-here}
use Rattle.theorem_meaning.specs.Fields.{At, Flying, HasFields, IsAsking, IsHeard, IsNews, IsUnserved, Stand, value_of}
use Rattle.theorem_meaning.specs.Packets.{IsUnderWay, Links, values_of}
use Rattle.theorem_meaning.specs.StandsFor.{entry_at}
use Rattle.trace_calm.specs.Calm.{AreAsOpen, IsCalm, IsCalmly, IsClosing, IsErased, IsPassable, IsPassedOn, IsRetired, IsTrueAsk}
use Rattle.trace_events.proofs.Clauses.{announced-on, known-on, left-on, mark-on, reached-on, seen-on, under_way-or}
use Rattle.trace_events.proofs.Open.{open-so, opposite-free}
use Rattle.trace_events.specs.Had.{HasSome}
use Rattle.trace_events.specs.Leading.{IsLeading}
use Rattle.trace_meaning.proofs.Chains.{chain-here}
use Rattle.trace_meaning.specs.Traces.{AreTraced, IsAnnounced, IsKnownRight, IsLeftRight, IsMarkRight, IsMet, IsMourned, IsReached, IsSeenRight, IsToForget, IsToldOf, IsTraceRight, IsTrailed}
use Rattle.trace_meaning.specs.Words.{HasChain, HasMark, IsBackTo, IsForgetOf, IsGoingTo, IsGoneFrom, IsGoneSeen, IsKnownOf, IsOnTrack, IsParcelTo, IsSought, LeadsOn}

-- ---- kinds of packets

pub some-same : (a b : MovingPicture) → Some a ≡ Some b → a ≡ b
some-same a b same = cc

-- a packet that asks or closes
abbrev IsNew : Links → PictureWhat → Type 0
IsNew w q = IsTrueAsk w q ⊎ IsClosing q

-- none of a kind does
abbrev IsOther : (PictureWhat → Type 0) → Type 0
IsOther P = (w : Links) (q : PictureWhat) → IsNew w q → P q → ⊥

gone-other : (e : EndId) (j : ℕ) → IsOther (IsGoneFrom e j)
gone-other e j w (packet.Gone to at) (inl ask) is = ask
gone-other e j w (packet.Gone to at) (inr closes) is = closes
gone-other e j w _ new is = is

known-other : (e : EndId) (h : ℕ) → IsOther (IsKnownOf e h)
known-other e h w (packet.Known to hops) (inl ask) is = ask
known-other e h w (packet.Known to hops) (inr closes) is = closes
known-other e h w _ new is = is

-- a back and a parcel are neither passed on nor new
back-neither : (w : Links) (e : EndId) (q : PictureWhat) → IsPassable q ⊎ IsNew w q → IsBackTo e q → ⊥
back-neither w e (packet.Back to n ms) (inl passes) is = passes
back-neither w e (packet.Back to n ms) (inr (inl ask)) is = ask
back-neither w e (packet.Back to n ms) (inr (inr closes)) is = closes
back-neither w e _ any is = is

parcel-neither : (w : Links) (e : EndId) (q : PictureWhat) → IsPassable q ⊎ IsNew w q → IsParcelTo e q → ⊥
parcel-neither w e (packet.Parcel to n a at hops bytes ms) (inl passes) is = passes
parcel-neither w e (packet.Parcel to n a at hops bytes ms) (inr (inl ask)) is = ask
parcel-neither w e (packet.Parcel to n a at hops bytes ms) (inr (inr closes)) is = closes
parcel-neither w e _ any is = is

-- what asks tells where its end is
pub asks-at : (w : Links) (e to : EndId) (j h at hops : ℕ) → IsHereAnd (entry_at w at (opposite to)) (λ v. v.value.hops ≡ hops) → to ≡ opposite e → at ≡ j → hops ≡ h → IsHereAnd (entry_at w j e) (λ v. v.value.hops ≡ h)
asks-at w e to j h at hops ask its site same =
    subst (λ z. IsHereAnd (entry_at w j e) (λ v. v.value.hops ≡ z)) same
    (subst (λ z. IsHereAnd (entry_at w z e) (λ v. v.value.hops ≡ hops)) site
    (subst (λ z. IsHereAnd (entry_at w at z) (λ v. v.value.hops ≡ hops)) (ap opposite its ∙ opposite-twice e) ask))

asks-true : (w : Links) (e : EndId) (j h : ℕ) (q : PictureWhat) → IsNew w q → IsNews (opposite e) j h q → IsHereAnd (entry_at w j e) (λ v. v.value.hops ≡ h)
asks-true w e j h (packet.Want to n at hops) (inl ask) is = asks-at w e to j h at hops ask is.0 is.1 is.2
asks-true w e j h (packet.Unwant to n at hops) (inl ask) is = asks-at w e to j h at hops ask is.0 is.1 is.2
asks-true w e j h (packet.Forget to hops) (inr closes) is = absurd is
asks-true w e j h (packet.GoneSeen to) (inr closes) is = absurd is
asks-true w e j h _ (inl ask) is = absurd ask
asks-true w e j h _ (inr closes) is = absurd closes

asking-news : (e : EndId) (n j h : ℕ) (q : PictureWhat) → IsAsking e n j h q → IsNews e j h q
asking-news e n j h (packet.Want to w at hops) is = (is.0, is.2, is.3)
asking-news e n j h (packet.Unwant to w at hops) is = (is.0, is.2, is.3)
asking-news e n j h _ is = absurd is

module _ {w u : Links} {c : Change} (b : Changes w c u) (old now : EndId → End) (calm : IsCalm w u c old) where
  -- ---- entries

  seen-here : (k : ℕ) (e : EndId) (y z : Entry) → entry_at w k e ≡ y → entry_at u k e ≡ z → IsCalmly y z
  seen-here k e y z was is = subst (IsCalmly y) is (subst (λ x. IsCalmly x (entry_at u k e)) was (calm.entries k e))

  -- fields stay but for counts and trail
  value-was : (y z : Entry) (l : MovingPicture) → IsCalmly y z → value_of z ≡ Some l → (m : MovingPicture) × (value_of y ≡ Some m) × IsRetired m l
  value-was (entry.Here v) (entry.Here x) l like has = (v.value, refl, subst (IsRetired v.value) (some-same x.value l has) like)
  value-was (entry.Destroyed m) (entry.Destroyed x) l like has = (m, refl, subst (IsRetired m) (sym like ∙ some-same x l has) refl)
  value-was _ entry.Nothing l like has = absurd (let none : None ≡ Some l = has in cc)
  value-was _ (entry.Left to hops) l like has = absurd (let none : None ≡ Some l = has in cc)
  value-was _ _ l like has = absurd like

  -- no value of an end is in a packet that is taken or sent
  sent-no : (m : MovingPicture) → IsSent c (λ q. Contains (values_of q) m) → ⊥
  sent-no m x = none-there m (subst (λ l. Contains l m) (sent-each (λ to what. values_of what ≡ []) c.packets x.to x.what calm.sent_bare x.there) x.is)

  taken-no : (m : MovingPicture) → IsTaken c (λ q. Contains (values_of q) m) → ⊥
  taken-no m x = none-there m (subst (λ l. Contains l m) (subst (λ t. IfSome t (λ q. values_of q.1.what ≡ [])) x.taken calm.bare) x.is)

  fields-was : (e : EndId) (at : Stand) (l : MovingPicture) → HasFields u e at l → HasSome w e (λ m. IsRetired m l)
  fields-was e (At k) l has = let o = value-was (entry_at w k e) (entry_at u k e) l (calm.entries k e) has in record { at = At k; fields = o.0; are = o.1; is = o.2 }
  fields-was e Flying l has = by (under_way-after b (λ q. Contains (values_of q) l) has.0)
    where
      by : IsLeft b (λ q. Contains (values_of q) l) ⊎ IsSent c (λ q. Contains (values_of q) l) → HasSome w e (λ m. IsRetired m l)
      by (inl left) = record { at = Flying; fields = l; are = (left-was b (λ q. Contains (values_of q) l) left, has.1); is = refl }
      by (inr sent) = absurd (sent-no l sent)

  -- a mark was there before; one that was is still there, or is erased
  mark-was : (e : EndId) → HasMark u e → HasMark w e
  mark-was e m = by (entry_at w m.at e) refl (seen-here m.at e (entry_at w m.at e) (entry.Destroyed m.mark) refl m.there)
    where
      by : (y : Entry) → entry_at w m.at e ≡ y → IsCalmly y (entry.Destroyed m.mark) → HasMark w e
      by (entry.Destroyed l) was like = record { at = m.at; mark = l; there = was }
      by _ was like = absurd like

  mark-or : (e : EndId) → HasMark w e → HasMark u e ⊎ IsErased u old e
  mark-or e m = by (entry_at u m.at e) refl (seen-here m.at e (entry.Destroyed m.mark) (entry_at u m.at e) m.there refl)
    where
      by : (z : Entry) → entry_at u m.at e ≡ z → IsCalmly (entry.Destroyed m.mark) z → HasMark u e ⊎ IsErased u old e
      by (entry.Destroyed l) is like = inl (record { at = m.at; mark = l; there = is })
      by entry.Nothing is like = inr (calm.erased e m.at m.mark m.there is)
      by _ is like = absurd like

  -- ---- packets

  -- a packet of a kind that is under way was so before, or is new
  packet-was : (P : PictureWhat → Type 0) → IsUnderWay u P → IsUnderWay w P ⊎ ((q : PictureWhat) × IsNew w q × P q)
  packet-was P is = by (under_way-or b P is)
    where
      of_sent : (x : IsSent c P) → IsPassedOn c x.what ⊎ IsTrueAsk w x.what ⊎ IsClosing x.what → IsUnderWay w P ⊎ ((q : PictureWhat) × IsNew w q × P q)
      of_sent x (inl passed) = inl (taken-was b P (record { from = passed.0.from; packet = passed.0.packet; taken = passed.0.taken; is = subst P (sym passed.0.is) x.is }))
      of_sent x (inr new) = inr (x.what, new, x.is)

      by : IsUnderWay w P ⊎ IsSent c P → IsUnderWay w P ⊎ ((q : PictureWhat) × IsNew w q × P q)
      by (inl was) = inl was
      by (inr sent) = of_sent sent (sent-each (λ to what. IsPassedOn c what ⊎ IsTrueAsk w what ⊎ IsClosing what) c.packets sent.to sent.what calm.sent sent.there)

  other-was : (P : PictureWhat → Type 0) → IsOther P → IsUnderWay u P → IsUnderWay w P
  other-was P other is = by (packet-was P is)
    where
      by : IsUnderWay w P ⊎ ((q : PictureWhat) × IsNew w q × P q) → IsUnderWay w P
      by (inl was) = was
      by (inr new) = absurd (other w new.0 new.1 new.2)

  passes-or : (to : ℕ) (what : PictureWhat) → Contains c.packets (to, what) → IsPassable what ⊎ IsNew w what
  passes-or to what has = by (sent-each (λ to what. IsPassedOn c what ⊎ IsTrueAsk w what ⊎ IsClosing what) c.packets to what calm.sent has)
    where
      by : IsPassedOn c what ⊎ IsTrueAsk w what ⊎ IsClosing what → IsPassable what ⊎ IsNew w what
      by (inl passed) = inl passed.1
      by (inr new) = inr new

  -- ---- chains

  -- where no entry is erased that has more hops, and no mark
  calm-leads : (e : EndId) (least : ℕ) → ((k to h : ℕ) → entry_at w k e ≡ entry.Left to h → entry_at u k e ≡ entry.Nothing → h ≤ least)
      → ((k : ℕ) (m : MovingPicture) → entry_at w k e ≡ entry.Destroyed m → entry_at u k e ≡ entry.Nothing → ⊥) → IsLeading w u c e least
  calm-leads e least older stands =
      record {
        entry = λ k h le led. by k h (entry_at w k e) (entry_at u k e) refl refl (calm.entries k e) le led;
        lands = λ from q m taken has its. absurd (taken-no m (record { from = from; packet = q; taken = taken; is = has }));
      }
    where
      by : (k h : ℕ) (y z : Entry) → entry_at w k e ≡ y → entry_at u k e ≡ z → IsCalmly y z → least ≤ h → LeadsOn w e k (HasChain u e) h y → (entry_at u k e ≡ entry_at w k e) ⊎ HasChain u e k h
      by k h entry.Nothing z was is like le led = absurd led
      by k h (entry.Here v) (entry.Here x) was is like le led = inr (chain-here u e k h x is (subst (λ z. h ≤ z) (sym (ap (λ (m : MovingPicture). m.hops) like)) led))
      by k h (entry.Left to g) (entry.Left there more) was is like le led = inl (is ∙ ap (λ z. entry.Left z more) like.0 ∙ ap (λ z. entry.Left to z) like.1 ∙ sym was)
      by k h (entry.Left to g) entry.Nothing was is like le led =
          let few : g ≤ least = older k to g was is in
          let more : h < g = led.0 in
          absurd (omega (arith, few, more, le))
      by k h (entry.Destroyed m) (entry.Destroyed l) was is like le led = inl (is ∙ ap (λ z. entry.Destroyed z) like ∙ sym was)
      by k h (entry.Destroyed m) entry.Nothing was is like le led = absurd (stands k m was is)
      by k h _ _ was is like le led = absurd like

  module _ (open_as : AreAsOpen old now) where
    is_open-same : (e : EndId) → is_open (now e) ≡ is_open (old e)
    is_open-same e = λ i. open_as.living e i && (if open_as.noticed e i then false else true)

    opens : (e : EndId) → is_open (now e) ≡ true → is_open (old e) ≡ true
    opens e is = sym (is_open-same e) ∙ is

    -- an end that is sought, by the ends before the event
    sought-old : (e : EndId) → IsSought u now e → IsSought u old e
    sought-old e (inl is) = inl (opens e is)
    sought-old e (inr mark) = inr mark

    sought-was : (e : EndId) → IsSought u now e → IsSought w old e
    sought-was e (inl is) = inl (opens e is)
    sought-was e (inr mark) = inr (mark-was e mark)

    sought-or : (e : EndId) → IsSought w old e → IsSought u now e ⊎ IsErased u old e
    sought-or e (inl is) = inl (inl (is_open-same e ∙ is))
    sought-or e (inr mark) = by (mark-or e mark)
      where
        by : HasMark u e ⊎ IsErased u old e → IsSought u now e ⊎ IsErased u old e
        by (inl still) = inl (inr still)
        by (inr erased) = inr erased

    -- chains to an end that is sought still, from what its opposite has heard on
    sought-leads : (e : EndId) (at : Stand) (m : MovingPicture) → IsSought u now e → IsSought w old (opposite e) → HasFields w (opposite e) at m → IsLeading w u c e m.hint.1
    sought-leads e at m sought other has =
        calm-leads e m.hint.1 (λ k to h was is. calm.cleared e k to h at m was is (sought-was e sought) other has) (λ k l was is. (calm.erased e k l was is).unsought (sought-old e sought))

    -- hints and hops stay
    hint-was : (e : EndId) (at : Stand) (l : MovingPicture) → HasFields u e at l → HasSome w e (λ m. m.hint.1 ≤ l.hint.1)
    hint-was e at l has =
        let o = fields-was e at l has in
        let same : o.fields.hint.1 ≡ l.hint.1 = sym (ap (λ (m : MovingPicture). m.hint.1) o.is) in
        record { at = o.at; fields = o.fields; are = o.are; is = omega (arith, same) }

    hops-were : (e : EndId) (at : Stand) (l : MovingPicture) → HasFields u e at l → HasSome w e (λ m. m.hops ≤ l.hops)
    hops-were e at l has =
        let o = fields-was e at l has in
        let same : o.fields.hops ≡ l.hops = sym (ap (λ (m : MovingPicture). m.hops) o.is) in
        record { at = o.at; fields = o.fields; are = o.are; is = omega (arith, same) }

    -- ---- each clause

    calm-met : (e : EndId) → IsMet w old e → IsMet u now e
    calm-met e is open_is = by (is (opens e open_is))
      where
        after : HasMark u (opposite e) ⊎ IsErased u old (opposite e) → (is_living (now (opposite e)).place ≡ true) ⊎ HasMark u (opposite e)
        after (inl mark) = inr mark
        after (inr erased) = absurd (erased.closed (subst (λ z. is_open (old z) ≡ true) (sym (opposite-twice e)) (opens e open_is)))

        by : (is_living (old (opposite e)).place ≡ true) ⊎ HasMark w (opposite e) → (is_living (now (opposite e)).place ≡ true) ⊎ HasMark u (opposite e)
        by (inl lives) = inl (open_as.living (opposite e) ∙ lives)
        by (inr mark) = after (mark-or (opposite e) mark)

    calm-reached : (e : EndId) → IsReached w old e → IsReached u now e
    calm-reached e is at m j h sought other has heard le =
        reached-on b old now e (sought-was e) (sought-was (opposite e)) (hint-was (opposite e)) (λ at m own was_other had. sought-leads e at m sought was_other had)
        (λ at m j h own also has le heard. was at m j h own also has le heard) is at m j h sought other has heard le
      where
        hinted : (j h : ℕ) (l : MovingPicture) → l.hint ≡ (j, h) → HasSome w (opposite e) (λ m. IsRetired m l) → IsHeard w e j h
        hinted j h l hint o = inl (record { stand = o.at; fields = o.fields; are = o.are; hint = sym (ap (λ (m : MovingPicture). m.hint) o.is) ∙ hint })

        -- what asks is said of an end that is here
        asked : (j h : ℕ) → IsUnderWay w (IsNews (opposite e) j h) ⊎ ((q : PictureWhat) × IsNew w q × IsNews (opposite e) j h q) → IsHeard w e j h ⊎ HasChain u e j h
        asked j h (inl news) = inl (inr news)
        asked j h (inr new) = here (there-here (entry_at w j e) (λ v. v.value.hops ≡ h) (asks-true w e j h new.0 new.1 new.2))
          where
            here : (v : HereView) × (entry_at w j e ≡ entry.Here v) × (v.value.hops ≡ h) → IsHeard w e j h ⊎ HasChain u e j h
            here v = stays (entry_at u j e) refl (seen-here j e (entry.Here v.0) (entry_at u j e) v.1 refl)
              where
                stays : (z : Entry) → entry_at u j e ≡ z → IsCalmly (entry.Here v.0) z → IsHeard w e j h ⊎ HasChain u e j h
                stays (entry.Here x) is like =
                    let same : x.value.hops ≡ v.0.value.hops = ap (λ (m : MovingPicture). m.hops) like in
                    let told : v.0.value.hops ≡ h = v.2 in
                    inr (chain-here u e j h x is (omega (arith, same, told)))
                stays _ is like = absurd like

        was : (at : Stand) (m : MovingPicture) (j h : ℕ) → IsSought u now e → IsSought u now (opposite e) → HasFields u (opposite e) at m → m.hint.1 ≤ h → IsHeard u e j h → IsHeard w e j h ⊎ HasChain u e j h
        was at m j h own also has le (inl x) = inl (hinted j h x.fields x.hint (fields-was (opposite e) x.stand x.fields x.are))
        was at m j h own also has le (inr news) = asked j h (packet-was (IsNews (opposite e) j h) news)

    calm-known : (e : EndId) → IsKnownRight w old e → IsKnownRight u now e
    calm-known e is = known-on b old now e (sought-was e) (sought-was (opposite e)) (hint-was (opposite e)) was is
      where
        was : (at : Stand) (m : MovingPicture) (h : ℕ) → IsSought u now e → IsSought u now (opposite e) → HasFields u (opposite e) at m → IsToldOf u e h → IsToldOf w e h ⊎ (h ≤ m.hint.1)
        was at m h own other has (inl known) = inl (inl (other-was (IsKnownOf e h) (known-other e h) known))
        was at m h own other has (inr told) = by (under_way-or b (IsForgetOf e h) told)
          where
            by : IsUnderWay w (IsForgetOf e h) ⊎ IsSent c (IsForgetOf e h) → IsToldOf w e h ⊎ (h ≤ m.hint.1)
            by (inl still) = inl (inr still)
            by (inr sent) = inr (calm.told e h at m sent (sought-old e own) (sought-old (opposite e) other) has)

    calm-seen : (e : EndId) → IsSeenRight w old e → IsSeenRight u now e
    calm-seen e is = seen-on b old now e (open_as.destroyed e) (sought-was (opposite e)) (λ under. by (under_way-or b (IsGoneSeen e) under)) is
      where
        by : IsUnderWay w (IsGoneSeen e) ⊎ IsSent c (IsGoneSeen e) → IsUnderWay w (IsGoneSeen e) ⊎ (((now e).place ≡ place.Destroyed) × (IsSought u now (opposite e) → ⊥))
        by (inl was) = inl was
        by (inr sent) = let told = calm.tells_seen e sent in inr (open_as.destroyed e told.0, λ sought. told.1 (sought-old (opposite e) sought))

    calm-left : (e : EndId) (k to h : ℕ) → entry_at u k e ≡ entry.Left to h → IsLeftRight w old e k h → IsLeftRight u now e k h
    calm-left e k to h stays is =
        left-on b old now e k h (hops-were e) (λ trailed. still (calm.trailed e k to h stays is.old trailed))
        (λ g taken at covers. calm.forget e to h g (subst (λ z. entry_at u z e ≡ entry.Left to h) at stays) taken covers) is
      where
        still : IsTrailed u old e k ⊎ IsToForget u e k h → IsTrailed u now e k ⊎ IsToForget u e k h
        still (inl r) = inl (record { sought = sought r.sought; at = r.at; fields = r.fields; are = r.are; in_trail = r.in_trail })
          where
            sought : IsSought u old e → IsSought u now e
            sought (inl is) = inl (is_open-same e ∙ is)
            sought (inr mark) = inr mark
        still (inr told) = inr told

    module _ (marked : (k : ℕ) (e : EndId) (m : MovingPicture) → entry_at w k e ≡ entry.Destroyed m → (old e).place ≡ place.Destroyed)
        (here_living : (k : ℕ) (e : EndId) (v : HereView) → entry_at w k e ≡ entry.Here v → is_living (old e).place ≡ true)
        (deaths : (e : EndId) → (old e).noticed ≡ true → (old (opposite e)).place ≡ place.Destroyed) where
      -- an end is not both destroyed and living
      not-both : (e : EndId) → (old e).place ≡ place.Destroyed → is_living (old e).place ≡ true → ⊥
      not-both e dead lives = true≢false (sym lives ∙ ap is_living dead)

      calm-announced : (e : EndId) (k : ℕ) (v x : HereView) → entry_at w k e ≡ entry.Here v → entry_at u k e ≡ entry.Here x → IsRetired v.value x.value → IsAnnounced w old e k v → IsAnnounced u now e k x
      calm-announced e k v x was stays like is = λ unnoticed some lives.
          announced-on b old now e k v x (ap (λ (m : MovingPicture). m.hops) like) (ap (λ (m : MovingPicture). m.hint.1) like) (λ more. trail more)
          (λ free. sym (open_as.noticed e) ∙ free) (λ living. sym (open_as.living (opposite e)) ∙ living) (leads (sym (open_as.noticed e) ∙ unnoticed) (sym (open_as.living (opposite e)) ∙ lives))
          (λ taken at.
          absurd (some (calm.known e v x (subst (λ z. entry_at w z e ≡ entry.Here v) at was) (subst (λ z. entry_at u z e ≡ entry.Here x) at stays) (sym (open_as.noticed e) ∙ unnoticed) taken)))
          (λ taken chain. inr (calm.moved e k v was taken chain)) is unnoticed some lives
        where
          trail : x.value.trail ≢ 0 → v.value.trail ≢ 0
          trail some none = by (calm.trail k e v x was stays)
            where
              by : (x.value.trail ≡ v.value.trail) ⊎ (x.value.trail ≡ 0) → ⊥
              by (inl same) = some (same ∙ none)
              by (inr cleared) = some cleared

          -- neither end knows of a death
          leads : (old e).noticed ≡ false → is_living (old (opposite e)).place ≡ true → IsLeading w u c (opposite e) v.value.hint.1
          leads free lives =
              calm-leads (opposite e) v.value.hint.1
              (λ j to h left gone. calm.cleared (opposite e) j to h (At k) v.value left gone (inl (open-so (old (opposite e)) lives (opposite-free old deaths e (here_living k e v was))))
              (subst (λ z. IsSought w old z) (sym (opposite-twice e)) (inl (open-so (old e) (here_living k e v was) free)))
              (subst (λ z. HasFields w z (At k) v.value) (sym (opposite-twice e)) (ap value_of was)))
              (λ j m mark gone. not-both (opposite e) (marked j (opposite e) m mark) lives)

      calm-mark : (e : EndId) (d : ℕ) (m : MovingPicture) → entry_at w d e ≡ entry.Destroyed m → entry_at u d e ≡ entry.Destroyed m → IsMarkRight w old e d m → IsMarkRight u now e d m
      calm-mark e d m was stays is =
          mark-on b old now e d m (λ free. open_as.noticed e ∙ free) (opens (opposite e)) told
          (λ open_is to what has back. absurd (back-neither w (opposite e) what (passes-or to what has) back))
          (λ open_is to what has parcel. absurd (parcel-neither w e what (passes-or to what has) parcel)) (λ at l n j h open_is has asks. inl (asked at l n j h has asks))
          sought (λ taken at. absurd (calm.seen e m (subst (λ z. entry_at u z e ≡ entry.Destroyed m) at stays) taken)) (λ taken chain sought. after sought (calm.gone e d m stays taken chain)) is
        where
          told : (at : ℕ) → IsSent c (IsGoneFrom (opposite e) at) → at ≡ d
          told at sent = is.gone at (other-was (IsGoneFrom (opposite e) at) (gone-other (opposite e) at) (under_way-sent b (IsGoneFrom (opposite e) at) sent))

          after : IsSought u now (opposite e) → IsGoingTo u d (IsGoneSeen e) ⊎ IsOnTrack u (opposite e) m.hint.1 (IsGoneFrom (opposite e) d) → IsMourned u now e d m.hint.1
          after sought (inl seen) = inl seen
          after sought (inr on) = inr (sought, on)

          sought : IsSought w old (opposite e) → (IsSought u now (opposite e) × IsLeading w u c (opposite e) m.hint.1) ⊎ IsMourned u now e d m.hint.1
          sought other = by (sought-or (opposite e) other)
            where
              by : IsSought u now (opposite e) ⊎ IsErased u old (opposite e) → (IsSought u now (opposite e) × IsLeading w u c (opposite e) m.hint.1) ⊎ IsMourned u now e d m.hint.1
              by (inl still) =
                  inl (
                    still,
                    sought-leads (opposite e) (At d) m still (subst (λ z. IsSought w old z) (sym (opposite-twice e)) (inr (record { at = d; mark = m; there = was })))
                        (subst (λ z. HasFields w z (At d) m) (sym (opposite-twice e)) (ap value_of was)),
                  )
              by (inr erased) =
                  inr (inl (subst (λ z. IsGoingTo u d (IsGoneSeen z)) (opposite-twice e) (erased.seen d m (subst (λ z. entry_at u d z ≡ entry.Destroyed m) (sym (opposite-twice e)) stays))))

          -- it is not here, so that nothing asks for a receive of it
          not-here : (j h : ℕ) → IsHereAnd (entry_at w j e) (λ v. v.value.hops ≡ h) → ⊥
          not-here j h here =
              let v = there-here (entry_at w j e) (λ v. v.value.hops ≡ h) here in
              not-both e (marked d e m was) (here_living j e v.0 v.1)

          asked : (at : Stand) (l : MovingPicture) (n j h : ℕ) → HasFields u (opposite e) at l → IsUnserved u (opposite e) l n j h → HasSome w (opposite e) (λ o. IsUnserved w (opposite e) o n j h)
          asked at l n j h has asks = by asks
            where
              o : HasSome w (opposite e) (λ m. IsRetired m l)
              o = fields-was (opposite e) at l has

              of-packet : l.served < n → IsUnderWay w (IsAsking (opposite e) n j h) ⊎ ((q : PictureWhat) × IsNew w q × IsAsking (opposite e) n j h q) → HasSome w (opposite e) (λ o. IsUnserved w (opposite e) o n j h)
              of-packet low (inl under) = record { at = o.at; fields = o.fields; are = o.are; is = inr (subst (λ z. z < n) (ap (λ (m : MovingPicture). m.served) o.is) low, under) }
              of-packet low (inr new) = absurd (not-here j h (asks-true w e j h new.0 new.1 (asking-news (opposite e) n j h new.0 new.2)))

              by : IsUnserved u (opposite e) l n j h → HasSome w (opposite e) (λ o. IsUnserved w (opposite e) o n j h)
              by (inl kept) =
                  record {
                    at = o.at;
                    fields = o.fields;
                    are = o.are;
                    is = inl (sym (ap (λ (m : MovingPicture). m.want) o.is) ∙ kept.0, kept.1, sym (ap (λ (m : MovingPicture). m.hint) o.is) ∙ kept.2);
                  }
              by (inr is_asked) = of-packet is_asked.0 (packet-was (IsAsking (opposite e) n j h) is_asked.1)

      calm-right : (e : EndId) (k : ℕ) → IsTraceRight w old e k (entry_at w k e) → IsTraceRight u now e k (entry_at u k e)
      calm-right e k right = by (entry_at w k e) (entry_at u k e) refl refl (calm.entries k e) right
        where
          by : (y z : Entry) → entry_at w k e ≡ y → entry_at u k e ≡ z → IsCalmly y z → IsTraceRight w old e k y → IsTraceRight u now e k z
          by _ entry.Nothing was is like right = tt
          by (entry.Here v) (entry.Here x) was is like right = calm-announced e k v x was is like right
          by (entry.Left to h) (entry.Left there more) was is like right =
              subst (IsLeftRight u now e k) (sym like.1) (calm-left e k to h (is ∙ ap (λ z. entry.Left z more) like.0 ∙ ap (λ z. entry.Left to z) like.1) right)
          by (entry.Destroyed m) (entry.Destroyed l) was is like right =
              subst (IsMarkRight u now e k) (sym like) (calm-mark e k m was (is ∙ ap (λ z. entry.Destroyed z) like) right)
          by _ _ was is like right = absurd like

      -- so all that is true of traces stays
      pub calm-traced : AreTraced w old → AreTraced u now
      calm-traced is e =
          record {
            met = calm-met e (is e).met;
            reached = calm-reached e (is e).reached;
            seen = calm-seen e (is e).seen;
            known = calm-known e (is e).known;
            entries = λ k. calm-right e k ((is e).entries k);
          }
