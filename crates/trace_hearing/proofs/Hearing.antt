-- An event by which an end may hear where its opposite is keeps all that is true of the traces of ends: where a hint rises, a chain leads on from
-- there, so what is told anew is on its track.
use Rattle.std.proofs.Common.{◌≡◌, ◌≢◌, ◌⊎◌, inl, inr, ℕ, ◌<◌, ◌≤◌, true, false, true≢false, ◌&&◌, if◌then◌else◌, Some, None, [], Contains, IfSome, refl, sym, ap, subst, ◌∙◌, arith}
use Rattle.std.specs.Int.{bit_at}
use Rattle.charlotte_calls.specs.Names.{opposite}
use Rattle.charlotte_calls.specs.declared.names.EndId.{EndId}
use Rattle.charlotte_packets.specs.declared.picture.MovingPicture.{MovingPicture}
use Rattle.charlotte_packets.specs.declared.picture.PictureWhat.{PictureWhat}
use Rattle.charlotte_packets.specs.declared.picture.PictureWhat.TheVariants as packet
use Rattle.end_table.specs.Table.{IsHereAnd}
use Rattle.end_table.specs.declared.entry.Entry.{Entry}
use Rattle.end_table.specs.declared.entry.Entry.TheVariants as entry
use Rattle.end_table.specs.declared.entry.HereView.{HereView}
use Rattle.service_lawful.specs.Consistent.{is_open}
use Rattle.service_step.specs.Ends.{is_living}
use Rattle.service_step.specs.declared.state.End.{End}
use Rattle.service_step.specs.declared.state.Place.TheVariants as place
use Rattle.theorem_effects.proofs.Aside.{sent-each}
use Rattle.theorem_effects.proofs.Lists.{none-there}
use Rattle.theorem_effects.proofs.Packets.{left-was, taken-was, under_way-after, under_way-before, under_way-left}
use Rattle.theorem_effects.specs.Change.{Change, Changes}
use Rattle.theorem_effects.specs.Under.{IsLeft, IsSent, IsTaken}
use Rattle.theorem_meaning.proofs.Ends.{opposite-twice}
use Rattle.theorem_meaning.proofs.Plain.{there-here}
use Rattle.theorem_meaning.specs.Fields.{At, Flying, HasFields, IsHeard, IsNews, Stand, value_of}
use Rattle.theorem_meaning.specs.Packets.{IsUnderWay, Links, values_of}
use Rattle.theorem_meaning.specs.StandsFor.{entry_at}
use Rattle.trace_calm.proofs.Alike.{some-same}
use Rattle.trace_calm.specs.Quiet.{tells_place}
use Rattle.trace_calm.proofs.Calm.{asks-at}
use Rattle.trace_calm.specs.Calm.{AreAsOpen}
use Rattle.trace_calm.proofs.Clauses.{announced-on, known-on, left-on, mark-on, reached-on, seen-on, under_way-or}
use Rattle.trace_calm.proofs.Open.{open-so, opposite-free}
use Rattle.trace_calm.proofs.Tracks.{chain-on, track-sent}
use Rattle.trace_calm.specs.Had.{HasSome}
use Rattle.trace_calm.specs.Leading.{IsLeading}
use Rattle.trace_hearing.specs.Hearing.{IsHearing, IsMildly, IsRaised, IsTaught, IsTrueNews}
use Rattle.trace_meaning.proofs.Chains.{chain-here, chain-mark}
use Rattle.trace_meaning.specs.Traces.{AreTraced, IsAnnounced, IsKnownRight, IsLeftRight, IsMarkRight, IsMet, IsMourned, IsReached, IsSeenRight, IsTelling, IsToldOf, IsTraceRight, IsTrailed}
use Rattle.trace_meaning.specs.Words.{HasChain, HasMark, IsBackTo, IsForgetOf, IsGoneFrom, IsGoneSeen, IsKnownOf, IsMovedTo, IsParcelTo, IsSought, LeadsOn}

-- ---- kinds of packets

-- no packet of a kind is sent
abbrev IsUnsent : (PictureWhat → Type 0) → Type 0
IsUnsent P = (w : Links) (q : PictureWhat) → IsTrueNews w q → P q → ⊥

forget-unsent : (e : EndId) (h : ℕ) → IsUnsent (IsForgetOf e h)
forget-unsent e h w (packet.Forget to hops) news is = news
forget-unsent e h w _ news is = is

seen-unsent : (e : EndId) → IsUnsent (IsGoneSeen e)
seen-unsent e w (packet.GoneSeen to) news is = news
seen-unsent e w _ news is = is

back-unsent : (e : EndId) → IsUnsent (IsBackTo e)
back-unsent e w (packet.Back to n ms) news is = news
back-unsent e w _ news is = is

parcel-unsent : (e : EndId) → IsUnsent (IsParcelTo e)
parcel-unsent e w (packet.Parcel to n a at hops bytes ms) news is = news
parcel-unsent e w _ news is = is

-- what is told of an end is true
news-true : (w : Links) (e : EndId) (j h : ℕ) (q : PictureWhat) → IsTrueNews w q → IsNews (opposite e) j h q → IsHereAnd (entry_at w j e) (λ v. v.value.hops ≡ h)
news-true w e j h (packet.Want to n at hops) news is = asks-at w e to j h at hops news is.0 is.1 is.2
news-true w e j h (packet.Unwant to n at hops) news is = asks-at w e to j h at hops news is.0 is.1 is.2
news-true w e j h (packet.Unwanted to n at hops) news is = asks-at w e to j h at hops news is.0 is.1 is.2
news-true w e j h (packet.Moved to at hops) news is = asks-at w e to j h at hops news is.0 is.1 is.2
news-true w e j h (packet.Parcel to n a at hops bytes ms) news is = absurd news
news-true w e j h (packet.Taken to n at hops) news is = absurd news
news-true w e j h _ news is = absurd is

-- the packet that is taken tells where an end is
known-tells : (e : EndId) (h : ℕ) (q : PictureWhat) → IsKnownOf e h q → tells_place q ≡ false
known-tells e h (packet.Known to hops) is = refl
known-tells e h _ is = absurd is

forget-tells : (e : EndId) (h : ℕ) (q : PictureWhat) → IsForgetOf e h q → tells_place q ≡ false
forget-tells e h (packet.Forget to hops) is = refl
forget-tells e h _ is = absurd is

seen-tells : (e : EndId) (q : PictureWhat) → IsGoneSeen e q → tells_place q ≡ false
seen-tells e (packet.GoneSeen to) is = refl
seen-tells e _ is = absurd is

gone-tells : (e : EndId) (j : ℕ) (q : PictureWhat) → IsGoneFrom e j q → tells_place q ≡ false
gone-tells e j (packet.Gone to at) is = refl
gone-tells e j _ is = absurd is

module _ {w u : Links} {c : Change} (b : Changes w c u) (old now : EndId → End) (x : IsHearing w u c old) where
  untaken : (P : PictureWhat → Type 0) → ((q : PictureWhat) → P q → tells_place q ≡ false) → IsTaken c P → ⊥
  untaken P silent z = true≢false (sym (subst (λ t. IfSome t (λ q. tells_place q.1.what ≡ true)) z.taken x.tells) ∙ silent z.packet.what z.is)

  unsent : (P : PictureWhat → Type 0) → IsUnsent P → IsSent c P → ⊥
  unsent P none z = none w z.what (sent-each (λ to what. IsTrueNews w what) c.packets z.to z.what x.sent z.there) z.is

  -- ---- entries

  mildly : (k : ℕ) (e : EndId) (y z : Entry) → entry_at w k e ≡ y → entry_at u k e ≡ z → IsMildly y z
  mildly k e y z was is = subst (IsMildly y) is (subst (λ o. IsMildly o (entry_at u k e)) was (x.entries k e))

  -- a mark stays
  mark-still : (e : EndId) → HasMark w e → HasMark u e
  mark-still e m = by (entry_at u m.at e) refl (mildly m.at e (entry.Destroyed m.mark) (entry_at u m.at e) m.there refl)
    where
      by : (z : Entry) → entry_at u m.at e ≡ z → IsMildly (entry.Destroyed m.mark) z → HasMark u e
      by (entry.Destroyed l) is like = record { at = m.at; mark = l; there = is }
      by _ is like = absurd like

  mark-was : (e : EndId) → HasMark u e → HasMark w e
  mark-was e m = by (entry_at w m.at e) refl (mildly m.at e (entry_at w m.at e) (entry.Destroyed m.mark) refl m.there)
    where
      by : (y : Entry) → entry_at w m.at e ≡ y → IsMildly y (entry.Destroyed m.mark) → HasMark w e
      by (entry.Destroyed l) was like = record { at = m.at; mark = l; there = was }
      by _ was like = absurd like

  -- ---- fields

  sent-no : (m : MovingPicture) → IsSent c (λ q. Contains (values_of q) m) → ⊥
  sent-no m z = none-there m (subst (λ l. Contains l m) (sent-each (λ to what. values_of what ≡ []) c.packets z.to z.what x.sent_bare z.there) z.is)

  taken-no : (m : MovingPicture) → IsTaken c (λ q. Contains (values_of q) m) → ⊥
  taken-no m z = none-there m (subst (λ l. Contains l m) (subst (λ t. IfSome t (λ q. values_of q.1.what ≡ [])) z.taken x.bare) z.is)

  value-was : (y z : Entry) (l : MovingPicture) → IsMildly y z → value_of z ≡ Some l → (m : MovingPicture) × (value_of y ≡ Some m) × IsTaught m l
  value-was (entry.Here v) (entry.Here o) l like has = (v.value, refl, subst (IsTaught v.value) (some-same o.value l has) like)
  value-was (entry.Destroyed m) (entry.Destroyed o) l like has = (m, refl, subst (IsTaught m) (some-same o l has) like)
  value-was _ entry.Nothing l like has = absurd (let none : None ≡ Some l = has in cc)
  value-was _ (entry.Left to hops) l like has = absurd (let none : None ≡ Some l = has in cc)
  value-was _ _ l like has = absurd like

  value-now : (y z : Entry) (m : MovingPicture) → IsMildly y z → value_of y ≡ Some m → (l : MovingPicture) × (value_of z ≡ Some l) × IsTaught m l
  value-now (entry.Here v) (entry.Here o) m like has = (o.value, refl, subst (λ i. IsTaught i o.value) (some-same v.value m has) like)
  value-now (entry.Destroyed d) (entry.Destroyed o) m like has = (o, refl, subst (λ i. IsTaught i o) (some-same d m has) like)
  value-now entry.Nothing _ m like has = absurd (let none : None ≡ Some m = has in cc)
  value-now (entry.Left to hops) _ m like has = absurd (let none : None ≡ Some m = has in cc)
  value-now _ _ m like has = absurd like

  abbrev IsOf : EndId → MovingPicture → MovingPicture → Type 0
  IsOf e l m = IsTaught m l × ((l.hint ≡ m.hint) ⊎ IsRaised c e m l)

  fields-was : (e : EndId) (at : Stand) (l : MovingPicture) → HasFields u e at l → HasSome w e (IsOf e l)
  fields-was e (At k) l has =
      let o = value-was (entry_at w k e) (entry_at u k e) l (x.entries k e) has in
      record { at = At k; fields = o.0; are = o.1; is = (o.2, x.hints k e o.0 l o.1 has) }
  fields-was e Flying l has = by (under_way-after b (λ q. Contains (values_of q) l) has.0)
    where
      by : IsLeft b (λ q. Contains (values_of q) l) ⊎ IsSent c (λ q. Contains (values_of q) l) → HasSome w e (IsOf e l)
      by (inl left) = record { at = Flying; fields = l; are = (left-was b (λ q. Contains (values_of q) l) left, has.1); is = (refl, inl refl) }
      by (inr sent) = absurd (sent-no l sent)

  trail-still : (e : EndId) (at : Stand) (m : MovingPicture) → HasFields w e at m → HasSome u e (λ l. l.trail ≡ m.trail)
  trail-still e (At k) m has =
      let o = value-now (entry_at w k e) (entry_at u k e) m (x.entries k e) has in
      record { at = At k; fields = o.0; are = o.1; is = ap (λ (z : MovingPicture). z.trail) o.2 }
  trail-still e Flying m has = by (under_way-before b (λ q. Contains (values_of q) m) has.0)
    where
      by : IsLeft b (λ q. Contains (values_of q) m) ⊎ IsTaken c (λ q. Contains (values_of q) m) → HasSome u e (λ l. l.trail ≡ m.trail)
      by (inl left) = record { at = Flying; fields = m; are = (under_way-left b (λ q. Contains (values_of q) m) left, has.1); is = refl }
      by (inr taken) = absurd (taken-no m taken)

  -- hops stay, and a hint only rises
  hops-were : (e : EndId) (at : Stand) (l : MovingPicture) → HasFields u e at l → HasSome w e (λ m. m.hops ≤ l.hops)
  hops-were e at l has =
      let o = fields-was e at l has in
      let same : l.hops ≡ o.fields.hops = ap (λ (z : MovingPicture). z.hops) o.is.0 in
      record { at = o.at; fields = o.fields; are = o.are; is = omega (arith, same) }

  hint-was : (e : EndId) (at : Stand) (l : MovingPicture) → HasFields u e at l → HasSome w e (λ m. m.hint.1 ≤ l.hint.1)
  hint-was e at l has = let o = fields-was e at l has in record { at = o.at; fields = o.fields; are = o.are; is = rises o.fields o.is.1 }
    where
      rises : (m : MovingPicture) → (l.hint ≡ m.hint) ⊎ IsRaised c e m l → m.hint.1 ≤ l.hint.1
      rises m (inl same) = let hops : l.hint.1 ≡ m.hint.1 = ap (λ (z : ℕ × ℕ). z.1) same in omega (arith, hops)
      rises m (inr raised) = let more : m.hint.1 < l.hint.1 = raised.1 in omega (arith, more)

  -- ---- chains

  leads : (e : EndId) (least : ℕ) → IsLeading w u c e least
  leads e least =
      record {
        entry = λ k h le led. by k h (entry_at w k e) (entry_at u k e) refl refl (x.entries k e) led;
        lands = λ from q m taken has its. absurd (taken-no m (record { from = from; packet = q; taken = taken; is = has }));
      }
    where
      by : (k h : ℕ) (y z : Entry) → entry_at w k e ≡ y → entry_at u k e ≡ z → IsMildly y z → LeadsOn w e k (HasChain u e) h y → (entry_at u k e ≡ entry_at w k e) ⊎ HasChain u e k h
      by k h entry.Nothing z was is like led = absurd led
      by k h (entry.Here v) (entry.Here o) was is like led = inr (chain-here u e k h o is (subst (λ z. h ≤ z) (sym (ap (λ (m : MovingPicture). m.hops) like)) led))
      by k h (entry.Left to g) (entry.Left there more) was is like led = inl (is ∙ ap (λ z. entry.Left z more) like.0 ∙ ap (λ z. entry.Left to z) like.1 ∙ sym was)
      by k h (entry.Destroyed m) (entry.Destroyed o) was is like led = inr (chain-mark u e k h o is (subst (λ z. h ≤ z) (sym (ap (λ (m : MovingPicture). m.hops) like)) led))
      by k h _ _ was is like led = absurd like

  module _ (open_as : AreAsOpen old now) where
    is_open-same : (e : EndId) → is_open (now e) ≡ is_open (old e)
    is_open-same e = λ i. open_as.living e i && (if open_as.noticed e i then false else true)

    sought-was : (e : EndId) → IsSought u now e → IsSought w old e
    sought-was e (inl is) = inl (sym (is_open-same e) ∙ is)
    sought-was e (inr mark) = inr (mark-was e mark)

    sought-still : (e : EndId) → IsSought w old e → IsSought u now e
    sought-still e (inl is) = inl (is_open-same e ∙ is)
    sought-still e (inr mark) = inr (mark-still e mark)

    -- ---- each clause

    hearing-met : (e : EndId) → IsMet w old e → IsMet u now e
    hearing-met e is open_is = by (is (sym (is_open-same e) ∙ open_is))
      where
        by : (is_living (old (opposite e)).place ≡ true) ⊎ HasMark w (opposite e) → (is_living (now (opposite e)).place ≡ true) ⊎ HasMark u (opposite e)
        by (inl lives) = inl (open_as.living (opposite e) ∙ lives)
        by (inr mark) = inr (mark-still (opposite e) mark)

    hearing-reached : (e : EndId) → IsReached w old e → IsReached u now e
    hearing-reached e is at m j h sought other has heard le =
        reached-on b old now e (sought-was e) (sought-was (opposite e)) (hint-was (opposite e)) (λ at m own also had. leads e m.hint.1) (λ at m j h own also has le heard. was j h heard) is at m j h sought other has heard le
      where
        -- a hint is as it was, or was told by the packet that was taken
        hinted : (j h : ℕ) (l : MovingPicture) → l.hint ≡ (j, h) → (o : HasSome w (opposite e) (IsOf (opposite e) l)) → (l.hint ≡ o.fields.hint) ⊎ IsRaised c (opposite e) o.fields l → IsHeard w e j h
        hinted j h l hint o (inl same) = inl (record { stand = o.at; fields = o.fields; are = o.are; hint = sym same ∙ hint })
        hinted j h l hint o (inr raised) = inr (taken-was b (IsNews (opposite e) j h) (subst (λ (z : ℕ × ℕ). IsTaken c (IsNews (opposite e) z.0 z.1)) hint raised.0))

        -- what is told is said of an end that is here
        told : (j h : ℕ) → IsUnderWay w (IsNews (opposite e) j h) ⊎ IsSent c (IsNews (opposite e) j h) → IsHeard w e j h ⊎ HasChain u e j h
        told j h (inl news) = inl (inr news)
        told j h (inr new) = here (there-here (entry_at w j e) (λ v. v.value.hops ≡ h) (news-true w e j h new.what (sent-each (λ to what. IsTrueNews w what) c.packets new.to new.what x.sent new.there) new.is))
          where
            here : (v : HereView) × (entry_at w j e ≡ entry.Here v) × (v.value.hops ≡ h) → IsHeard w e j h ⊎ HasChain u e j h
            here v = stays (entry_at u j e) refl (mildly j e (entry.Here v.0) (entry_at u j e) v.1 refl)
              where
                stays : (z : Entry) → entry_at u j e ≡ z → IsMildly (entry.Here v.0) z → IsHeard w e j h ⊎ HasChain u e j h
                stays (entry.Here o) is like =
                    let same : o.value.hops ≡ v.0.value.hops = ap (λ (m : MovingPicture). m.hops) like in
                    let told : v.0.value.hops ≡ h = v.2 in
                    inr (chain-here u e j h o is (omega (arith, same, told)))
                stays _ is like = absurd like

        was : (j h : ℕ) → IsHeard u e j h → IsHeard w e j h ⊎ HasChain u e j h
        was j h (inl y) = let o = fields-was (opposite e) y.stand y.fields y.are in inl (hinted j h y.fields y.hint o o.is.1)
        was j h (inr news) = told j h (under_way-or b (IsNews (opposite e) j h) news)

    hearing-known : (e : EndId) → IsKnownRight w old e → IsKnownRight u now e
    hearing-known e is = known-on b old now e (sought-was e) (sought-was (opposite e)) (hint-was (opposite e)) was is
      where
        was : (at : Stand) (m : MovingPicture) (h : ℕ) → IsSought u now e → IsSought u now (opposite e) → HasFields u (opposite e) at m → IsToldOf u e h → IsToldOf w e h ⊎ (h ≤ m.hint.1)
        was at m h own other has (inl known) = by (under_way-or b (IsKnownOf e h) known)
          where
            by : IsUnderWay w (IsKnownOf e h) ⊎ IsSent c (IsKnownOf e h) → IsToldOf w e h ⊎ (h ≤ m.hint.1)
            by (inl still) = inl (inl still)
            by (inr sent) = inr (x.known e h at m sent has)
        was at m h own other has (inr forget) = by (under_way-or b (IsForgetOf e h) forget)
          where
            by : IsUnderWay w (IsForgetOf e h) ⊎ IsSent c (IsForgetOf e h) → IsToldOf w e h ⊎ (h ≤ m.hint.1)
            by (inl still) = inl (inr still)
            by (inr sent) = absurd (unsent (IsForgetOf e h) (forget-unsent e h) sent)

    hearing-seen : (e : EndId) → IsSeenRight w old e → IsSeenRight u now e
    hearing-seen e is = seen-on b old now e (open_as.destroyed e) (sought-was (opposite e)) (λ under. by (under_way-or b (IsGoneSeen e) under)) is
      where
        by : IsUnderWay w (IsGoneSeen e) ⊎ IsSent c (IsGoneSeen e) → IsUnderWay w (IsGoneSeen e) ⊎ (((now e).place ≡ place.Destroyed) × (IsSought u now (opposite e) → ⊥))
        by (inl was) = inl was
        by (inr sent) = absurd (unsent (IsGoneSeen e) (seen-unsent e) sent)

    hearing-left : (e : EndId) (k h : ℕ) → IsLeftRight w old e k h → IsLeftRight u now e k h
    hearing-left e k h is = left-on b old now e k h (hops-were e) (λ r. inl (still r)) (λ g taken at covers. untaken (IsForgetOf e g) (forget-tells e g) taken) is
      where
        still : IsTrailed w old e k → IsTrailed u now e k
        still r =
            let o = trail-still e r.at r.fields r.are in
            record { sought = sought-still e r.sought; at = o.at; fields = o.fields; are = o.are; in_trail = subst (λ z. bit_at z k ≡ 1) (sym o.is) r.in_trail }

    module _ (here_living : (k : ℕ) (e : EndId) (v : HereView) → entry_at w k e ≡ entry.Here v → is_living (old e).place ≡ true)
        (deaths : (e : EndId) → (old e).noticed ≡ true → (old (opposite e)).place ≡ place.Destroyed) (traced : AreTraced w old) where
      -- from where e hears that its opposite is, a chain leads on to that
      heard-chain : (e : EndId) (k : ℕ) (m l : MovingPicture) → IsSought w old e → IsSought w old (opposite e) → value_of (entry_at w k e) ≡ Some m → IsRaised c e m l → HasChain u (opposite e) l.hint.0 l.hint.1
      heard-chain e k m l own other has raised =
          chain-on b (opposite e) l.hint.1 (leads (opposite e) l.hint.1) l.hint.0 l.hint.1 (omega arith)
          ((traced (opposite e)).reached (At k) m l.hint.0 l.hint.1 other (subst (IsSought w old) (sym (opposite-twice e)) own)
          (subst (λ z. HasFields w z (At k) m) (sym (opposite-twice e)) has)
          (inr (taken-was b (IsNews (opposite (opposite e)) l.hint.0 l.hint.1) (subst (λ z. IsTaken c (IsNews z l.hint.0 l.hint.1)) (sym (opposite-twice e)) raised.0)))
          (let more : m.hint.1 < l.hint.1 = raised.1 in omega (arith, more)))

      hearing-announced : (e : EndId) (k : ℕ) (v o : HereView) → entry_at w k e ≡ entry.Here v → entry_at u k e ≡ entry.Here o → IsTaught v.value o.value → IsAnnounced w old e k v → IsAnnounced u now e k o
      hearing-announced e k v o was stays like is unnoticed_now some lives = by (x.hints k e v.value o.value (ap value_of was) (ap value_of stays))
        where
          free : (old e).noticed ≡ false
          free = sym (open_as.noticed e) ∙ unnoticed_now

          living : is_living (old (opposite e)).place ≡ true
          living = sym (open_as.living (opposite e)) ∙ lives

          by : (o.value.hint ≡ v.value.hint) ⊎ IsRaised c e v.value o.value → IsTelling u e k o.value.hops o.value.hint.1
          by (inr raised) =
              inr (track-sent b (opposite e) o.value.hint.1 o.value.hint.0 (packet.Moved (opposite e) k o.value.hops) (IsMovedTo (opposite e) k o.value.hops) (x.announced e k v o was stays raised some) (refl, refl, refl)
              (heard-chain e k v.value o.value (inl (open-so (old e) (here_living k e v was) free))
              (inl (open-so (old (opposite e)) living (opposite-free old deaths e (here_living k e v was)))) (ap value_of was) raised))
          by (inl same) =
              announced-on b old now e k v o (ap (λ (m : MovingPicture). m.hops) like) (ap (λ (z : ℕ × ℕ). z.1) same) (λ more none. more (ap (λ (m : MovingPicture). m.trail) like ∙ none))
              (λ any. free) (λ any. living) (leads (opposite e) v.value.hint.1)
              (λ taken at. absurd (untaken (IsKnownOf e v.value.hops) (known-tells e v.value.hops) taken)) (λ taken chain. inl (x.moved e k v was living taken chain)) is unnoticed_now some lives

      -- a mark with another hint
      mark-hint : (e : EndId) (d : ℕ) (m l : MovingPicture) → IsTaught m l → IsMourned u now e d l.hint.1 → IsMarkRight u now e d m → IsMarkRight u now e d l
      mark-hint e d m l like mourned is =
          record {
            dead = ap (λ (z : MovingPicture). z.dead) like ∙ is.dead;
            noticed = is.noticed;
            gone = is.gone;
            backs = is.backs;
            parcels = is.parcels;
            asked = λ at o n j h open_is has asks. let site = is.asked at o n j h open_is has asks in (site.0, site.1 ∙ sym (ap (λ (z : MovingPicture). z.hops) like));
            mourned = mourned;
          }

      hearing-mark : (e : EndId) (d : ℕ) (m l : MovingPicture) → entry_at w d e ≡ entry.Destroyed m → entry_at u d e ≡ entry.Destroyed l → IsTaught m l → IsMarkRight w old e d m → IsMarkRight u now e d l
      hearing-mark e d m l was stays like is = mark-hint e d m l like (mourned (x.hints d e m l (ap value_of was) (ap value_of stays))) still
        where
          still : IsMarkRight u now e d m
          still =
              mark-on b old now e d m (λ free. open_as.noticed e ∙ free) (λ open_is. sym (is_open-same (opposite e)) ∙ open_is) (λ at sent. x.gone e d at m was sent)
              (λ open_is to what has back. absurd (unsent (IsBackTo (opposite e)) (back-unsent (opposite e)) (record { to = to; what = what; there = has; is = back })))
              (λ open_is to what has parcel. absurd (unsent (IsParcelTo e) (parcel-unsent e) (record { to = to; what = what; there = has; is = parcel })))
              (λ at o n j h open_is has asks. x.asked e d m at o n j h was (sym (is_open-same (opposite e)) ∙ open_is) has asks)
              (λ sought. inl (sought-still (opposite e) sought, leads (opposite e) m.hint.1)) (λ taken at. absurd (untaken (IsGoneSeen e) (seen-tells e) taken))
              (λ taken chain sought. absurd (untaken (IsGoneFrom (opposite e) d) (gone-tells (opposite e) d) taken)) is

          mourned : (l.hint ≡ m.hint) ⊎ IsRaised c e m l → IsMourned u now e d l.hint.1
          mourned (inl same) = subst (λ (z : ℕ × ℕ). IsMourned u now e d z.1) (sym same) still.mourned
          mourned (inr raised) = by still.mourned
            where
              by : IsMourned u now e d m.hint.1 → IsMourned u now e d l.hint.1
              by (inl going) = inl going
              by (inr both) =
                  inr (
                    both.0,
                    track-sent b (opposite e) l.hint.1 l.hint.0 (packet.Gone (opposite e) d) (IsGoneFrom (opposite e) d) (x.mourned e d m l was stays raised) (refl, refl)
                        (heard-chain e d m l (inr (record { at = d; mark = m; there = was })) (sought-was (opposite e) both.0) (ap value_of was) raised),
                  )

      hearing-right : (e : EndId) (k : ℕ) → IsTraceRight w old e k (entry_at w k e) → IsTraceRight u now e k (entry_at u k e)
      hearing-right e k right = by (entry_at w k e) (entry_at u k e) refl refl (x.entries k e) right
        where
          by : (y z : Entry) → entry_at w k e ≡ y → entry_at u k e ≡ z → IsMildly y z → IsTraceRight w old e k y → IsTraceRight u now e k z
          by entry.Nothing entry.Nothing was is like right = tt
          by (entry.Here v) (entry.Here o) was is like right = hearing-announced e k v o was is like right
          by (entry.Left to h) (entry.Left there more) was is like right = subst (IsLeftRight u now e k) (sym like.1) (hearing-left e k h right)
          by (entry.Destroyed m) (entry.Destroyed l) was is like right = hearing-mark e k m l was is like right
          by _ _ was is like right = absurd like

      -- so all that is true of traces stays
      pub hearing-traced : AreTraced u now
      hearing-traced e =
          record {
            met = hearing-met e (traced e).met;
            reached = hearing-reached e (traced e).reached;
            seen = hearing-seen e (traced e).seen;
            known = hearing-known e (traced e).known;
            entries = λ k. hearing-right e k ((traced e).entries k);
          }
