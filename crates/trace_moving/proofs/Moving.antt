-- Ends that move keep all that is true of the traces of ends: a chain that led to such an end leads on from the kernel, and the moved of one that
-- comes to be here is on the track of its opposite.
use Rattle.std.proofs.Common.{◌≡◌, ◌≢◌, ◌⊎◌, inl, inr, ℕ, ◌<◌, ◌≤◌, Bool, true, false, true≢false, nat_eq, ◌&&◌, if◌then◌else◌, Some, Contains, IfSome, refl, sym, ap, subst, ◌∙◌, arith}
use Rattle.std.proofs.lemmas.Bool.Decides.{eqb_tells}
use Rattle.std.specs.Int.{bit_at}
use Rattle.charlotte_calls.specs.Names.{opposite}
use Rattle.charlotte_calls.specs.declared.names.EndId.{EndId}
use Rattle.charlotte_packets.specs.declared.picture.MovingPicture.{MovingPicture}
use Rattle.charlotte_packets.specs.declared.picture.Picture.{Picture}
use Rattle.charlotte_packets.specs.declared.picture.PictureWhat.{PictureWhat}
use Rattle.charlotte_packets.specs.declared.picture.PictureWhat.TheVariants as packet
use Rattle.end_table.specs.declared.entry.Entry.{Entry}
use Rattle.end_table.specs.declared.entry.Entry.TheVariants as entry
use Rattle.end_table.specs.declared.entry.HereView.{HereView}
use Rattle.service_lawful.specs.Consistent.{is_open}
use Rattle.service_step.specs.Ends.{is_living}
use Rattle.service_step.specs.declared.state.End.{End}
use Rattle.service_step.specs.declared.state.Place.TheVariants as place
use Rattle.theorem_effects.proofs.Aside.{sent-each}
use Rattle.theorem_effects.proofs.Packets.{left-was, taken-before, taken-was, under_way-after, under_way-before, under_way-left}
use Rattle.theorem_effects.specs.Change.{Change, Changes}
use Rattle.theorem_effects.specs.Under.{IsLeft, IsSent, IsTaken}
use Rattle.theorem_meaning.proofs.Ends.{opposite-twice}
use Rattle.theorem_meaning.specs.Fields.{At, Flying, HasFields, IsAsking, IsHeard, IsNews, IsUnserved, Stand, value_of}
use Rattle.theorem_meaning.specs.Invariant.{IsHonest}
use Rattle.theorem_meaning.specs.Packets.{IsUnderWay, Links, values_of}
use Rattle.theorem_meaning.specs.StandsFor.{entry_at}
use Rattle.trace_hearing.specs.Calm.{AreAsOpen}
use Rattle.trace_events.proofs.Clauses.{announced-on, known-on, left-on, mark-on, reached-on, seen-on, under_way-or}
use Rattle.trace_events.proofs.Open.{open-free, open-so, opposite-free}
use Rattle.trace_events.proofs.Tracks.{chain-on, track-sent}
use Rattle.trace_events.specs.Had.{HasSome}
use Rattle.trace_events.specs.Leading.{IsLeading}
use Rattle.trace_hearing.specs.Hearing.{IsRaised}
use Rattle.trace_meaning.proofs.Chains.{chain-fewer, chain-here}
use Rattle.trace_meaning.specs.Traces.{AreTraced, IsAnnounced, IsKnownRight, IsLeftRight, IsMarkRight, IsMet, IsReached, IsSeenRight, IsTelling, IsToldOf, IsTraceRight, IsTrailed}
use Rattle.trace_meaning.specs.Words.{HasChain, HasMark, IsBackTo, IsForgetOf, IsGoneFrom, IsGoneSeen, IsKnownOf, IsMovedTo, IsParcelTo, IsSought, LeadsOn}
use Rattle.trace_moving.proofs.Still.{IsComeOf, come-hint, plain-forget, plain-gone, plain-known, plain-seen, same-come, still-same, value-now, value-was}
use Rattle.trace_moving.specs.Moving.{IsMovedEntry, IsMover, IsMoving, IsPlain, IsStaying, IsStill}

module _ {moves : EndId → Bool} {w u : Links} {c : Change} (b : Changes w c u) (t now : EndId → End) (x : IsMoving moves w u c t) (open_as : AreAsOpen t now) (marked : (e : EndId) (k : ℕ) (m : MovingPicture) → entry_at w k e ≡ entry.Destroyed m → (t e).place ≡ place.Destroyed)
    (here_living : (k : ℕ) (e : EndId) (v : HereView) → entry_at w k e ≡ entry.Here v → is_living (t e).place ≡ true) (deaths : (e : EndId) → (t e).noticed ≡ true → (t (opposite e)).place ≡ place.Destroyed) (honest : (e : EndId) → IsHonest w e) (traced : AreTraced w t) where
  abbrev k : ℕ
  k = c.kernel

  abbrev mover : (e : EndId) → moves e ≡ true → IsMover w u c t e
  mover = x.movers

  -- ---- packets

  untaken : (P : PictureWhat → Type 0) → ((q : PictureWhat) → IsPlain q → P q → ⊥) → IsTaken c P → ⊥
  untaken P none z = none z.packet.what (subst (λ y. IfSome y (λ q. IsPlain q.1.what)) z.taken x.taken) z.is

  unsent : (P : PictureWhat → Type 0) → ((q : PictureWhat) → IsPlain q → P q → ⊥) → IsSent c P → ⊥
  unsent P none z = none z.what (sent-each (λ to what. IsPlain what) c.packets z.to z.what x.sent z.there) z.is

  differ : (e : EndId) → moves e ≡ false → moves e ≡ true → ⊥
  differ e off on = true≢false (sym on ∙ off)

  -- ---- entries

  -- an entry stays, or it is that of an end that moved, at the kernel
  entry-or : (j : ℕ) (e : EndId) → IsStill c j e (entry_at w j e) (entry_at u j e) ⊎ ((j ≡ k) × (moves e ≡ true))
  entry-or j e = by (moves e) refl (eqb_tells j k)
    where
      by : (a : Bool) → moves e ≡ a → ((nat_eq j k ≡ true) × (j ≡ k)) ⊎ ((nat_eq j k ≡ false) × (j ≢ k)) → IsStill c j e (entry_at w j e) (entry_at u j e) ⊎ ((j ≡ k) × (moves e ≡ true))
      by a any (inr far) = inl (subst (IsStill c j e (entry_at w j e)) (sym (b.others j e far.0)) (still-same c j e (entry_at w j e)))
      by false off (inl near) = inl (subst (λ z. IsStill c z e (entry_at w z e) (entry_at u z e)) (sym near.1) (x.others e off))
      by true on (inl near) = inr (near.1, on)

  not-marked : (j : ℕ) (e : EndId) (m : MovingPicture) → entry_at w j e ≡ entry.Destroyed m → is_living (t e).place ≡ true → ⊥
  not-marked j e m mark living = true≢false (sym living ∙ ap is_living (marked e j m mark))

  -- an end that moves leaves no mark
  unmarked : (e : EndId) (on : moves e ≡ true) (m : MovingPicture) → entry_at u k e ≡ entry.Destroyed m → ⊥
  unmarked e on m is = subst (IsMovedEntry c e (mover e on).next) is (mover e on).entry

  mark-still : (e : EndId) → HasMark w e → HasMark u e
  mark-still e z = by (entry-or z.at e)
    where
      stays : (o : Entry) → entry_at u z.at e ≡ o → IsStill c z.at e (entry.Destroyed z.mark) o → HasMark u e
      stays (entry.Destroyed l) is like = record { at = z.at; mark = l; there = is }
      stays _ is like = absurd like

      by : IsStill c z.at e (entry_at w z.at e) (entry_at u z.at e) ⊎ ((z.at ≡ k) × (moves e ≡ true)) → HasMark u e
      by (inl still) = stays (entry_at u z.at e) refl (subst (λ o. IsStill c z.at e o (entry_at u z.at e)) z.there still)
      by (inr its) = absurd (not-marked z.at e z.mark z.there (mover e its.1).lives)

  mark-was : (e : EndId) → HasMark u e → HasMark w e
  mark-was e z = by (entry-or z.at e)
    where
      was : (o : Entry) → entry_at w z.at e ≡ o → IsStill c z.at e o (entry.Destroyed z.mark) → HasMark w e
      was (entry.Destroyed l) is like = record { at = z.at; mark = l; there = is }
      was _ is like = absurd like

      by : IsStill c z.at e (entry_at w z.at e) (entry_at u z.at e) ⊎ ((z.at ≡ k) × (moves e ≡ true)) → HasMark w e
      by (inl still) = was (entry_at w z.at e) refl (subst (IsStill c z.at e (entry_at w z.at e)) z.there still)
      by (inr its) = absurd (unmarked e its.1 z.mark (ap (λ j. entry_at u j e) (sym its.0) ∙ z.there))

  is_open-same : (e : EndId) → is_open (now e) ≡ is_open (t e)
  is_open-same e = λ i. open_as.living e i && (if open_as.noticed e i then false else true)

  sought-was : (e : EndId) → IsSought u now e → IsSought w t e
  sought-was e (inl is) = inl (sym (is_open-same e) ∙ is)
  sought-was e (inr z) = inr (mark-was e z)

  sought-still : (e : EndId) → IsSought w t e → IsSought u now e
  sought-still e (inl is) = inl (is_open-same e ∙ is)
  sought-still e (inr z) = inr (mark-still e z)

  -- one that moves and is looked for does not know of a death
  alive : (e : EndId) (on : moves e ≡ true) → IsSought w t e → (mover e on).value.dead ≡ false
  alive e on (inl open_is) = (mover e on).knows ∙ open-free (t e) open_is
  alive e on (inr z) = absurd (not-marked z.at e z.mark z.there (mover e on).lives)

  -- ---- fields

  fields-was : (e : EndId) (at : Stand) (l : MovingPicture) → HasFields u e at l → HasSome w e (IsComeOf c e l)
  fields-was e at l has = by (moves e) refl
    where
      moved : (on : moves e ≡ true) → HasSome w e (IsComeOf c e l)
      moved on =
          let z = mover e on in
          let served : z.next.served ≡ z.value.served = z.like.served in
          record {
            at = z.stand;
            fields = z.value;
            are = z.had;
            is = subst (λ o. IsComeOf c e o z.value) (sym (z.only at l has)) (record { hint = inl z.like.hint; want = inl z.like.want; served = omega (arith, served); hops = z.like.hops });
          }

      stays : moves e ≡ false → (at : Stand) → HasFields u e at l → HasSome w e (IsComeOf c e l)
      stays off (At j) has = other (entry-or j e)
        where
          other : IsStill c j e (entry_at w j e) (entry_at u j e) ⊎ ((j ≡ k) × (moves e ≡ true)) → HasSome w e (IsComeOf c e l)
          other (inl still) = let o = value-was c j e (entry_at w j e) (entry_at u j e) l still has in record { at = At j; fields = o.0; are = o.1; is = o.2 }
          other (inr its) = absurd (differ e off its.1)
      stays off Flying has = other (under_way-after b (λ z. Contains (values_of z) l) has.0)
        where
          other : IsLeft b (λ z. Contains (values_of z) l) ⊎ IsSent c (λ z. Contains (values_of z) l) → HasSome w e (IsComeOf c e l)
          other (inl left) = record { at = Flying; fields = l; are = (left-was b (λ z. Contains (values_of z) l) left, has.1); is = same-come c e l }
          other (inr sent) = absurd (differ e off (subst (λ z. moves z ≡ true) has.1 (x.carried l sent)))

      by : (a : Bool) → moves e ≡ a → HasSome w e (IsComeOf c e l)
      by true on = moved on
      by false off = stays off at has

  hint-was : (e : EndId) (at : Stand) (l : MovingPicture) → HasFields u e at l → HasSome w e (λ m. m.hint.1 ≤ l.hint.1)
  hint-was e at l has = let o = fields-was e at l has in record { at = o.at; fields = o.fields; are = o.are; is = come-hint c e l o.fields o.is }

  hops-were : (e : EndId) (at : Stand) (l : MovingPicture) → HasFields u e at l → HasSome w e (λ m. m.hops ≤ l.hops)
  hops-were e at l has = let o = fields-was e at l has in record { at = o.at; fields = o.fields; are = o.are; is = o.is.hops }

  -- ---- chains

  left-old : (e : EndId) (j to g : ℕ) → entry_at w j e ≡ entry.Left to g → (at : Stand) (m : MovingPicture) → HasFields w e at m → g ≤ m.hops
  left-old e j to g left at m has = (subst (IsTraceRight w t e j) left ((traced e).entries j)).old at m has

  -- what led on from the kernel to an end that moves has no more hops than that had
  few-hops : (e : EndId) (on : moves e ≡ true) (h : ℕ) (y : Entry) → entry_at w k e ≡ y → LeadsOn w e k (HasChain u e) h y → h ≤ (mover e on).value.hops
  few-hops e on h entry.Nothing was led = absurd led
  few-hops e on h (entry.Here v) was led = subst (λ (m : MovingPicture). h ≤ m.hops) ((mover e on).alone (At k) v.value (ap value_of was)) led
  few-hops e on h (entry.Left to g) was led = let more : h < g = led.0 in let old : g ≤ (mover e on).value.hops = left-old e k to g was (mover e on).stand (mover e on).value (mover e on).had in omega (arith, more, old)
  few-hops e on h (entry.Destroyed m) was led = absurd (not-marked k e m was (mover e on).lives)

  leads : (e : EndId) (least : ℕ) → IsSought w t e → IsLeading w u c e least
  leads e least sought = record { entry = λ j h le led. by j h led (entry-or j e); lands = λ from q m taken has its. lands from q m taken has its (subst (λ z. moves z ≡ true) its (x.brought m (record { from = from; packet = q; taken = taken; is = has }))) }
    where
      stays : (j h : ℕ) (y z : Entry) → entry_at w j e ≡ y → entry_at u j e ≡ z → IsStill c j e y z → LeadsOn w e j (HasChain u e) h y → (entry_at u j e ≡ entry_at w j e) ⊎ HasChain u e j h
      stays j h entry.Nothing z was is like led = absurd led
      stays j h (entry.Here v) (entry.Here o) was is like led = inr (chain-here u e j h o is (subst (λ z. h ≤ z) (sym (ap (λ (m : MovingPicture). m.hops) (like.like))) led))
      stays j h (entry.Left to g) (entry.Left there more) was is like led = inl (is ∙ ap (λ z. entry.Left z more) like.0 ∙ ap (λ z. entry.Left to z) like.1 ∙ sym was)
      stays j h (entry.Destroyed m) (entry.Destroyed o) was is like led = inl (is ∙ ap entry.Destroyed like ∙ sym was)
      stays j h _ _ was is like led = absurd like

      by : (j h : ℕ) → LeadsOn w e j (HasChain u e) h (entry_at w j e) → IsStill c j e (entry_at w j e) (entry_at u j e) ⊎ ((j ≡ k) × (moves e ≡ true)) → (entry_at u j e ≡ entry_at w j e) ⊎ HasChain u e j h
      by j h led (inl still) = stays j h (entry_at w j e) (entry_at u j e) refl refl still led
      by j h led (inr its) =
          let near : LeadsOn w e k (HasChain u e) h (entry_at w k e) = subst (λ z. LeadsOn w e z (HasChain u e) h (entry_at w z e)) its.0 led in
          inr (subst (λ z. HasChain u e z h) (sym its.0) (chain-fewer u e k (mover e its.1).value.hops h (few-hops e its.1 h (entry_at w k e) refl near) ((mover e its.1).leads (alive e its.1 sought))))

      lands : (from : ℕ) (q : Picture) (m : MovingPicture) → c.taken ≡ Some (from, q) → Contains (values_of q.what) m → m.end ≡ e → moves e ≡ true → HasChain u e k m.hops
      lands from q m taken has its on =
          subst (λ (o : MovingPicture). HasChain u e k o.hops) (sym ((mover e on).alone Flying m (record { from = from; to = k; packet = q; there = taken-before b from q taken; is = has }, its)))
          ((mover e on).leads (alive e on sought))

  -- what an end that is looked for has heard, or will hear, leads to its opposite
  heard-chain : (e : EndId) (at : Stand) (m : MovingPicture) (j h : ℕ) → IsSought w t e → IsSought w t (opposite e) → HasFields w e at m → IsHeard w (opposite e) j h → m.hint.1 ≤ h → HasChain u (opposite e) j h
  heard-chain e at m j h own other has heard le =
      chain-on b (opposite e) h (leads (opposite e) h other) j h (omega arith)
      ((traced (opposite e)).reached at m j h other (subst (IsSought w t) (sym (opposite-twice e)) own) (subst (λ z. HasFields w z at m) (sym (opposite-twice e)) has) heard le)

  -- ---- each clause

  moving-met : (e : EndId) → IsMet w t e → IsMet u now e
  moving-met e is open_is = by (is (sym (is_open-same e) ∙ open_is))
    where
      by : (is_living (t (opposite e)).place ≡ true) ⊎ HasMark w (opposite e) → (is_living (now (opposite e)).place ≡ true) ⊎ HasMark u (opposite e)
      by (inl living) = inl (open_as.living (opposite e) ∙ living)
      by (inr z) = inr (mark-still (opposite e) z)

  moving-reached : (e : EndId) → IsReached w t e → IsReached u now e
  moving-reached e is at m j h sought other has heard le =
      reached-on b t now e (sought-was e) (sought-was (opposite e)) (hint-was (opposite e)) (λ at m own also had. leads e m.hint.1 own) (λ at m j h own also has le heard. was j h heard) is at m j h sought other has heard le
    where
      -- a hint is as it was, or was told by the packet that was taken
      hinted : (j h : ℕ) (l : MovingPicture) → l.hint ≡ (j, h) → (o : HasSome w (opposite e) (IsComeOf c (opposite e) l)) → (l.hint ≡ o.fields.hint) ⊎ IsRaised c (opposite e) o.fields l → IsHeard w e j h
      hinted j h l hint o (inl same) = inl (record { stand = o.at; fields = o.fields; are = o.are; hint = sym same ∙ hint })
      hinted j h l hint o (inr raised) = inr (taken-was b (IsNews (opposite e) j h) (subst (λ (z : ℕ × ℕ). IsTaken c (IsNews (opposite e) z.0 z.1)) hint raised.0))

      told : (j h : ℕ) → IsUnderWay w (IsNews (opposite e) j h) ⊎ IsSent c (IsNews (opposite e) j h) → IsHeard w e j h ⊎ HasChain u e j h
      told j h (inl old) = inl (inr old)
      told j h (inr sent) = inr (x.news e j h sent)

      was : (j h : ℕ) → IsHeard u e j h → IsHeard w e j h ⊎ HasChain u e j h
      was j h (inl y) = let o = fields-was (opposite e) y.stand y.fields y.are in inl (hinted j h y.fields y.hint o o.is.hint)
      was j h (inr news) = told j h (under_way-or b (IsNews (opposite e) j h) news)

  moving-known : (e : EndId) → IsKnownRight w t e → IsKnownRight u now e
  moving-known e is = known-on b t now e (sought-was e) (sought-was (opposite e)) (hint-was (opposite e)) (λ at m h own other has told. inl (was h told)) is
    where
      of_known : (h : ℕ) → IsUnderWay w (IsKnownOf e h) ⊎ IsSent c (IsKnownOf e h) → IsToldOf w e h
      of_known h (inl old) = inl old
      of_known h (inr sent) = absurd (unsent (IsKnownOf e h) (λ q is its. plain-known q is e h its) sent)

      of_forget : (h : ℕ) → IsUnderWay w (IsForgetOf e h) ⊎ IsSent c (IsForgetOf e h) → IsToldOf w e h
      of_forget h (inl old) = inr old
      of_forget h (inr sent) = absurd (unsent (IsForgetOf e h) (λ q is its. plain-forget q is e h its) sent)

      was : (h : ℕ) → IsToldOf u e h → IsToldOf w e h
      was h (inl known) = of_known h (under_way-or b (IsKnownOf e h) known)
      was h (inr forget) = of_forget h (under_way-or b (IsForgetOf e h) forget)

  moving-seen : (e : EndId) → IsSeenRight w t e → IsSeenRight u now e
  moving-seen e is = seen-on b t now e (open_as.destroyed e) (sought-was (opposite e)) (λ under. by (under_way-or b (IsGoneSeen e) under)) is
    where
      by : IsUnderWay w (IsGoneSeen e) ⊎ IsSent c (IsGoneSeen e) → IsUnderWay w (IsGoneSeen e) ⊎ (((now e).place ≡ place.Destroyed) × (IsSought u now (opposite e) → ⊥))
      by (inl old) = inl old
      by (inr sent) = absurd (unsent (IsGoneSeen e) (λ q is its. plain-seen q is e its) sent)

  -- a trail stays, or grows where its end moves
  trailed-still : (e : EndId) (j : ℕ) → IsTrailed w t e j → IsTrailed u now e j
  trailed-still e j r = by (moves e) refl
    where
      stays : moves e ≡ false → (at : Stand) → HasFields w e at r.fields → HasSome u e (λ l. l.trail ≡ r.fields.trail)
      stays off (At n) has = other (entry-or n e)
        where
          other : IsStill c n e (entry_at w n e) (entry_at u n e) ⊎ ((n ≡ k) × (moves e ≡ true)) → HasSome u e (λ l. l.trail ≡ r.fields.trail)
          other (inl still) = let o = value-now c n e (entry_at w n e) (entry_at u n e) r.fields still has in record { at = At n; fields = o.0; are = o.1; is = o.2 }
          other (inr its) = absurd (differ e off its.1)
      stays off Flying has = other (under_way-before b (λ z. Contains (values_of z) r.fields) has.0)
        where
          other : IsLeft b (λ z. Contains (values_of z) r.fields) ⊎ IsTaken c (λ z. Contains (values_of z) r.fields) → HasSome u e (λ l. l.trail ≡ r.fields.trail)
          other (inl left) = record { at = Flying; fields = r.fields; are = (under_way-left b (λ z. Contains (values_of z) r.fields) left, has.1); is = refl }
          other (inr taken) = absurd (differ e off (subst (λ z. moves z ≡ true) has.1 (x.brought r.fields taken)))

      by : (a : Bool) → moves e ≡ a → IsTrailed u now e j
      by false off =
          let o = stays off r.at r.are in
          record { sought = sought-still e r.sought; at = o.at; fields = o.fields; are = o.are; in_trail = subst (λ z. bit_at z j ≡ 1) (sym o.is) r.in_trail }
      by true on =
          let z = mover e on in
          record {
            sought = sought-still e r.sought;
            at = z.site;
            fields = z.next;
            are = z.has;
            in_trail = z.like.trail j (subst (λ (y : MovingPicture). bit_at y.trail j ≡ 1) (z.alone r.at r.fields r.are) r.in_trail);
          }

  moving-left : (e : EndId) (j h : ℕ) → IsLeftRight w t e j h → IsLeftRight u now e j h
  moving-left e j h is = left-on b t now e j h (hops-were e) (λ r. inl (trailed-still e j r)) (λ n taken at covers. untaken (IsForgetOf e n) (λ q is its. plain-forget q is e n its) taken) is

  -- an end that is here and stays
  moving-announced : (e : EndId) (j : ℕ) (v o : HereView) → entry_at w j e ≡ entry.Here v → IsStaying c j e v.value o.value → IsAnnounced w t e j v → IsAnnounced u now e j o
  moving-announced e j v o was like is unnoticed some living = by like.hint
    where
      free : (t e).noticed ≡ false
      free = sym (open_as.noticed e) ∙ unnoticed

      other_lives : is_living (t (opposite e)).place ≡ true
      other_lives = sym (open_as.living (opposite e)) ∙ living

      own : IsSought w t e
      own = inl (open-so (t e) (here_living j e v was) free)

      other : IsSought w t (opposite e)
      other = inl (open-so (t (opposite e)) other_lives (opposite-free t deaths e (here_living j e v was)))

      told : IsRaised c e v.value o.value → HasChain u (opposite e) o.value.hint.0 o.value.hint.1
      told raised =
          heard-chain e (At j) v.value o.value.hint.0 o.value.hint.1 own other (ap value_of was)
          (inr (taken-was b (IsNews (opposite (opposite e)) o.value.hint.0 o.value.hint.1) (subst (λ z. IsTaken c (IsNews z o.value.hint.0 o.value.hint.1)) (sym (opposite-twice e)) raised.0)))
          (let more : v.value.hint.1 < o.value.hint.1 = raised.1 in omega (arith, more))

      by : (o.value.hint ≡ v.value.hint) ⊎ (IsRaised c e v.value o.value × ((o.value.trail ≡ 0 → ⊥) → Contains c.packets (o.value.hint.0, packet.Moved (opposite e) j o.value.hops))) → IsTelling u e j o.value.hops o.value.hint.1
      by (inr raised) = inr (track-sent b (opposite e) o.value.hint.1 o.value.hint.0 (packet.Moved (opposite e) j o.value.hops) (IsMovedTo (opposite e) j o.value.hops) (raised.1 some) (refl, refl, refl) (told raised.0))
      by (inl same) =
          announced-on b t now e j v o (ap (λ (m : MovingPicture). m.hops) like.like) (ap (λ (z : ℕ × ℕ). z.1) same) (λ more none. more (ap (λ (m : MovingPicture). m.trail) like.like ∙ none))
          (λ any. free) (λ any. other_lives) (leads (opposite e) v.value.hint.1 other)
          (λ taken at. absurd (untaken (IsKnownOf e v.value.hops) (λ q is its. plain-known q is e v.value.hops its) taken))
          (λ taken chain. absurd (x.unmoved (opposite e) j v.value.hops taken)) is unnoticed some living

  -- what is asked of the opposite of a mark was asked before
  module _ (e : EndId) (d : ℕ) (m : MovingPicture) (mark : entry_at w d e ≡ entry.Destroyed m) (right : IsMarkRight w t e d m) (open_is : is_open (t (opposite e)) ≡ true) where
    asked-was : (at : Stand) (l : MovingPicture) (n j h : ℕ) → HasFields u (opposite e) at l → IsUnserved u (opposite e) l n j h → HasSome w (opposite e) (λ o. IsUnserved w (opposite e) o n j h)
    asked-was at l n j h has asks = record { at = o.at; fields = o.fields; are = o.are; is = by asks }
      where
        o : HasSome w (opposite e) (IsComeOf c (opposite e) l)
        o = fields-was (opposite e) at l has

        -- nothing newer than the mark is heard of its end
        no_newer : o.fields.want ≡ n → 0 < n → IsRaised c (opposite e) o.fields l → ⊥
        no_newer want some raised =
            let site : o.fields.hint.1 ≡ m.hops = (right.asked o.at o.fields n o.fields.hint.0 o.fields.hint.1 open_is o.are (inl (want, some, refl))).1 in
            let most : l.hint.1 ≤ m.hops = (honest e (At d) m l.hint.0 l.hint.1 (ap value_of mark) (inr (taken-was b (IsNews (opposite e) l.hint.0 l.hint.1) raised.0))).0 in
            let more : o.fields.hint.1 < l.hint.1 = raised.1 in
            omega (arith, site, most, more)

        hinted : o.fields.want ≡ n → 0 < n → l.hint ≡ (j, h) → (l.hint ≡ o.fields.hint) ⊎ IsRaised c (opposite e) o.fields l → IsUnserved w (opposite e) o.fields n j h
        hinted want some hint (inl same) = inl (want, some, sym same ∙ hint)
        hinted want some hint (inr raised) = absurd (no_newer want some raised)

        wanted : l.want ≡ n → 0 < n → l.hint ≡ (j, h) → (l.want ≡ o.fields.want) ⊎ (l.want ≡ 0) → IsUnserved w (opposite e) o.fields n j h
        wanted want some hint (inl same) = hinted (sym same ∙ want) some hint o.is.hint
        wanted want some hint (inr none) = absurd (omega (arith, want, none))

        under : IsUnderWay w (IsAsking (opposite e) n j h) ⊎ IsSent c (IsAsking (opposite e) n j h) → IsUnderWay w (IsAsking (opposite e) n j h)
        under (inl old) = old
        under (inr sent) = absurd (not-marked d e m mark (x.asks e n j h sent))

        by : IsUnserved u (opposite e) l n j h → IsUnserved w (opposite e) o.fields n j h
        by (inl kept) = wanted kept.0 kept.1 kept.2 o.is.want
        by (inr asks) = inr (let rises : o.fields.served ≤ l.served = o.is.served in let low : l.served < n = asks.0 in omega (arith, rises, low), under (under_way-or b (IsAsking (opposite e) n j h) asks.1))

  moving-mark : (e : EndId) (d : ℕ) (m : MovingPicture) → entry_at w d e ≡ entry.Destroyed m → IsMarkRight w t e d m → IsMarkRight u now e d m
  moving-mark e d m mark is =
      mark-on b t now e d m (λ free. open_as.noticed e ∙ free) opens (λ at sent. absurd (unsent (IsGoneFrom (opposite e) at) (λ q is its. plain-gone q is (opposite e) at its) sent))
      (λ open_is n q has back. x.back e d m n q mark (opens open_is) has back) (λ open_is n q has parcel. x.parcel e d m n q mark (opens open_is) has parcel)
      (λ at l n j h open_is has asks. inl (asked-was e d m mark is (opens open_is) at l n j h has asks)) (λ sought. inl (sought-still (opposite e) sought, leads (opposite e) m.hint.1 sought))
      (λ taken at. absurd (untaken (IsGoneSeen e) (λ q is its. plain-seen q is e its) taken))
      (λ taken chain sought. absurd (untaken (IsGoneFrom (opposite e) d) (λ q is its. plain-gone q is (opposite e) d its) taken)) is
    where
      opens : is_open (now (opposite e)) ≡ true → is_open (t (opposite e)) ≡ true
      opens is = sym (is_open-same (opposite e)) ∙ is

  -- ---- the entry of an end that moved

  module _ (e : EndId) (on : moves e ≡ true) where
    abbrev z : IsMover w u c t e
    z = mover e on

    landed-announced : (v : HereView) → entry_at u k e ≡ entry.Here v → IsMovedEntry c e z.next (entry.Here v) → IsAnnounced u now e k v
    landed-announced v is tells unnoticed some living =
        subst (λ (m : MovingPicture). IsTelling u e k m.hops m.hint.1) (sym (z.only (At k) v.value (ap value_of is)))
        (inr (track-sent b (opposite e) z.next.hint.1 z.next.hint.0 (packet.Moved (opposite e) k z.next.hops) (IsMovedTo (opposite e) k z.next.hops) (tells (z.like.dead ∙ z.knows ∙ free)) (refl, refl, refl)
        (subst (λ (y : ℕ × ℕ). HasChain u (opposite e) y.0 y.1) (sym z.like.hint) chain)))
      where
        free : (t e).noticed ≡ false
        free = sym (open_as.noticed e) ∙ unnoticed

        other_lives : is_living (t (opposite e)).place ≡ true
        other_lives = sym (open_as.living (opposite e)) ∙ living

        chain : HasChain u (opposite e) z.value.hint.0 z.value.hint.1
        chain =
            heard-chain e z.stand z.value z.value.hint.0 z.value.hint.1 (inl (open-so (t e) z.lives free))
            (inl (open-so (t (opposite e)) other_lives (opposite-free t deaths e z.lives))) z.had
            (inl (record { stand = z.stand; fields = z.value; are = subst (λ y. HasFields w y z.stand z.value) (sym (opposite-twice e)) z.had; hint = refl })) (omega arith)

    moved-left : (to h : ℕ) → IsMovedEntry c e z.next (entry.Left to h) → IsLeftRight u now e k h
    moved-left to h right =
        record {
          some = right.1;
          old = λ at m has. subst (λ (o : MovingPicture). h ≤ o.hops) (sym (z.only at m has)) right.2;
          kept = inl (record { sought = inl (is_open-same e ∙ open-so (t e) z.lives (sym z.knows ∙ sym z.like.dead ∙ right.0)); at = z.site; fields = z.next; are = z.has; in_trail = right.3 });
        }

    moved-right : (y : Entry) → entry_at u k e ≡ y → IsMovedEntry c e z.next y → IsTraceRight u now e k y
    moved-right entry.Nothing is right = tt
    moved-right (entry.Here v) is right = landed-announced v is right
    moved-right (entry.Left to h) is right = moved-left to h right
    moved-right (entry.Destroyed m) is right = absurd right

  moving-right : (e : EndId) (j : ℕ) → IsTraceRight u now e j (entry_at u j e)
  moving-right e j = by (entry-or j e)
    where
      stays : (y o : Entry) → entry_at w j e ≡ y → IsStill c j e y o → IsTraceRight w t e j y → IsTraceRight u now e j o
      stays entry.Nothing entry.Nothing was like right = tt
      stays (entry.Here v) (entry.Here o) was like right = moving-announced e j v o was like right
      stays (entry.Left to h) (entry.Left there more) was like right = subst (IsLeftRight u now e j) (sym like.1) (moving-left e j h right)
      stays (entry.Destroyed m) (entry.Destroyed l) was like right = subst (IsMarkRight u now e j) (sym like) (moving-mark e j m was right)
      stays _ _ was like right = absurd like

      by : IsStill c j e (entry_at w j e) (entry_at u j e) ⊎ ((j ≡ k) × (moves e ≡ true)) → IsTraceRight u now e j (entry_at u j e)
      by (inl still) = stays (entry_at w j e) (entry_at u j e) refl still ((traced e).entries j)
      by (inr its) = subst (λ y. IsTraceRight u now e y (entry_at u y e)) (sym its.0) (moved-right e its.1 (entry_at u k e) refl (mover e its.1).entry)

  -- so all that is true of traces stays
  pub moving-traced : AreTraced u now
  moving-traced e =
      record {
        met = moving-met e (traced e).met;
        reached = moving-reached e (traced e).reached;
        seen = moving-seen e (traced e).seen;
        known = moving-known e (traced e).known;
        entries = moving-right e;
      }
