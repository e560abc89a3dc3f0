-- Ends are destroyed that are here, or came in the packet that is taken, which keeps all that is true of the traces of ends: a chain that led to an end leads to its mark, and the gone that
-- is sent is on the track of the opposite.
use Rattle.std.proofs.Common.{◌≡◌, ◌≢◌, ◌⊎◌, inl, inr, ℕ, ◌<◌, ◌≤◌, Bool, true, false, true≢false, nat_eq, ◌&&◌, if◌then◌else◌, Some, IfSome, List, length, Contains, refl, sym, ap, subst, ◌∙◌, arith}
use Rattle.std.proofs.lemmas.Bool.Decides.{eqb_tells}
use Rattle.std.proofs.lemmas.List.Elements.{All-contains}
use Rattle.charlotte_calls.specs.Names.{opposite}
use Rattle.charlotte_calls.specs.declared.names.EndId.{EndId}
use Rattle.charlotte_packets.specs.declared.picture.MovingPicture.{MovingPicture}
use Rattle.charlotte_packets.specs.declared.picture.Picture.{Picture}
use Rattle.charlotte_packets.specs.declared.picture.PictureWhat.{PictureWhat}
use Rattle.charlotte_packets.specs.declared.picture.PictureWhat.TheVariants as packet
use Rattle.end_table.specs.Entries.{ended_entry}
use Rattle.end_table.specs.Table.{IsHereAnd}
use Rattle.end_table.specs.declared.entry.Entry.{Entry}
use Rattle.end_table.specs.declared.entry.Entry.TheVariants as entry
use Rattle.end_table.specs.declared.entry.HereView.{HereView}
use Rattle.kernel_step.specs.Rows.{ends_in}
use Rattle.service_lawful.specs.Consistent.{is_open}
use Rattle.service_step.specs.Ends.{is_living}
use Rattle.service_step.specs.State.{Process, State}
use Rattle.service_step.specs.declared.state.End.{End}
use Rattle.service_step.specs.declared.state.Place.TheVariants as place
use Rattle.theorem_effects.proofs.Aside.{ends_in-there, fields-same, not_among, sent-each}
use Rattle.theorem_effects.proofs.Packets.{each-after, taken-before}
use Rattle.theorem_effects.specs.Change.{Change, Changes}
use Rattle.theorem_effects.specs.Under.{IsSent, IsTaken}
use Rattle.theorem_ends_destroyed.proofs.Facts.{fields-was, heard-was, living-was, noticed-same, open-living, open-was, other-entry, packet-was, place-ended, place-other, unbrought}
use Rattle.theorem_ends_destroyed.specs.Ending.{IsEnding, IsReturnOf, IsToldOf as TellsOf}
use Rattle.theorem_meaning.proofs.Ends.{opposite-twice}
use Rattle.theorem_meaning.proofs.Plain.{there-here}
use Rattle.theorem_meaning.specs.Fields.{At, Flying, HasFields, IsAskedAs, IsAsking, IsUnserved, Stand, value_of}
use Rattle.theorem_meaning.specs.Invariant.{AreRight, IsPacketRight}
use Rattle.theorem_meaning.specs.Packets.{Each, IsUnderWay, Links, one_if, values_of}
use Rattle.theorem_meaning.specs.StandsFor.{entry_at, standing}
use Rattle.theorem_take_silent.proofs.Places.{here-living}
use Rattle.trace_ending.specs.Telling.{AreTold, IsGoneAt}
use Rattle.trace_events.proofs.Clauses.{announced-on, known-on, left-on, mark-on, reached-on, seen-on, under_way-or}
use Rattle.trace_events.proofs.Open.{destroyed-closed, open-free, open-lives, open-so, opposite-free}
use Rattle.trace_events.proofs.Tracks.{chain-on, track-sent}
use Rattle.trace_events.specs.Had.{HasSome}
use Rattle.trace_events.specs.Leading.{IsLeading}
use Rattle.trace_meaning.proofs.Chains.{chain-mark}
use Rattle.trace_meaning.specs.Traces.{AreTraced, IsAnnounced, IsKnownRight, IsLeftRight, IsMarkRight, IsMet, IsMourned, IsReached, IsSeenRight, IsToldOf, IsTraceRight, IsTrailed}
use Rattle.trace_meaning.specs.Words.{HasChain, HasMark, IsBackTo, IsForgetOf, IsGoneFrom, IsGoneSeen, IsKnownOf, IsMovedTo, IsParcelTo, IsSought, LeadsOn}

-- ---- packets that were right

gone-right : (w : Links) (t : EndId → End) (from to : ℕ) (e : EndId) (j : ℕ) (q : PictureWhat) → IsPacketRight w t from to q → IsGoneFrom e j q → (t (opposite e)).place ≡ place.Destroyed
gone-right w t from to e j (packet.Gone on at) right its = subst (λ z. (t (opposite z)).place ≡ place.Destroyed) its.0 right
gone-right w t from to e j _ right its = absurd its

back-closed : (w : Links) (t : EndId → End) (from to : ℕ) (e : EndId) (q : PictureWhat) → IsPacketRight w t from to q → IsBackTo e q → is_open (t (opposite e)) ≡ false
back-closed w t from to e (packet.Back on n ms) right its = subst (λ z. is_open (t (opposite z)) ≡ false) its right.untaken
back-closed w t from to e _ right its = absurd its

parcel-meets : (w : Links) (t : EndId → End) (from to : ℕ) (e : EndId) (q : PictureWhat) → IsPacketRight w t from to q → IsParcelTo e q → is_open (t e) ≡ true → IsHereAnd (entry_at w to e) (λ v. Unit {0})
parcel-meets w t from to e (packet.Parcel on n a at hops bytes ms) right its open_is =
    let met = there-here (entry_at w to on) (λ v. IsAskedAs a v.inward) (right.meets (subst (λ z. is_open (t z) ≡ true) (sym its) open_is)) in
    subst (λ z. IsHereAnd (entry_at w to z) (λ v. Unit {0})) its (subst (λ y. IsHereAnd y (λ v. Unit {0})) (sym met.1) tt)
parcel-meets w t from to e _ right its open_is = absurd its

gone-at : (k : ℕ) (e : EndId) (j : ℕ) (q : PictureWhat) → IsGoneAt k q → IsGoneFrom e j q → j ≡ k
gone-at k e j (packet.Gone to at) told its = sym its.1 ∙ told
gone-at k e j _ told its = absurd its

back-untold : (k : ℕ) (e : EndId) (q : PictureWhat) → IsGoneAt k q → IsBackTo e q → ⊥
back-untold k e (packet.Back to n ms) told its = told
back-untold k e _ told its = its

parcel-untold : (k : ℕ) (e : EndId) (q : PictureWhat) → IsGoneAt k q → IsParcelTo e q → ⊥
parcel-untold k e (packet.Parcel to n a at hops bytes ms) told its = told
parcel-untold k e _ told its = its

-- a gone is of an end that is destroyed
gone-ended : (ended : EndId → Bool) (e : EndId) (j : ℕ) (q : PictureWhat) → TellsOf ended q → IsGoneFrom (opposite e) j q → ended e ≡ true
gone-ended ended e j (packet.Gone to at) told its = subst (λ z. ended z ≡ true) (ap opposite its.0 ∙ opposite-twice e) told
gone-ended ended e j _ told its = absurd its

module _ {ended : EndId → Bool} {w u : Links} {c : Change} {s : State} {t : EndId → End} {g : ℕ → Process} (b : Changes w c u) (x : IsEnding ended w c s t g) (told : AreTold x) (i : ℕ) (few : length s.made ≤ 8) (right : AreRight i w s)
    (once : (e : EndId) → standing w e ≡ one_if (is_living (s.ends e).place)) (deaths : (e : EndId) → (s.ends e).noticed ≡ true → (s.ends (opposite e)).place ≡ place.Destroyed) (traced : AreTraced w s.ends) where
  abbrev k : ℕ
  k = c.kernel

  -- a packet that is taken is a back
  untaken : (P : PictureWhat → Type 0) → ((f : EndId) (n : ℕ) (ms : List MovingPicture) → P (packet.Back f n ms) → ⊥) → IsTaken c P → ⊥
  untaken P none z = by z.packet.what (subst (λ y. IfSome y (λ q. IsReturnOf ended q.1.what)) z.taken x.taken) z.is
    where
      by : (q : PictureWhat) → IsReturnOf ended q → P q → ⊥
      by (packet.Back f n ms) brings is = none f n ms is
      by _ brings is = absurd brings

  lives : (j : ℕ) (e : EndId) (v : HereView) → entry_at w j e ≡ entry.Here v → is_living (s.ends e).place ≡ true
  lives j e v here = here-living (length s.made) w s.ends few right.named right.marked once e j v here

  not-marked : (j : ℕ) (e : EndId) (m : MovingPicture) → entry_at w j e ≡ entry.Destroyed m → is_living (s.ends e).place ≡ true → ⊥
  not-marked j e m mark living = true≢false (sym living ∙ ap is_living ((right.marked e).destroyed j m mark))

  -- ---- an end that is destroyed: its mark is its value

  abbrev value : (e : EndId) → ended e ≡ true → MovingPicture
  value e on = (x.are e on).fields

  left : (e : EndId) (on : ended e ≡ true) → entry_at u k e ≡ ended_entry (value e on)
  left e on = b.entry e ∙ (x.are e on).now

  knows : (e : EndId) (on : ended e ≡ true) → (value e on).dead ≡ (s.ends e).noticed
  knows e on = (right.counted e).dead (x.are e on).stand (value e on) (told.each e on).lives (x.are e on).had

  -- one that is sought did not know of the death, and leaves a mark
  alive : (e : EndId) (on : ended e ≡ true) → IsSought w s.ends e → (value e on).dead ≡ false
  alive e on (inl open_is) = knows e on ∙ open-free (s.ends e) open_is
  alive e on (inr z) = absurd (not-marked z.at e z.mark z.there (told.each e on).lives)

  mark-there : (e : EndId) (on : ended e ≡ true) → (value e on).dead ≡ false → entry_at u k e ≡ entry.Destroyed (value e on)
  mark-there e on free = left e on ∙ ap (λ a. if a then entry.Nothing else entry.Destroyed (value e on)) free

  -- it was at the kernel, or in a packet
  near-kernel : (e : EndId) (on : ended e ≡ true) (j : ℕ) (m : MovingPicture) → HasFields w e (At j) m → j ≡ k
  near-kernel e on j m has = by ((told.each e on).alone (At j) m has).0
    where
      by : (At j ≡ At k) ⊎ (At j ≡ Flying) → j ≡ k
      by (inl same) = (cc)
      by (inr flies) = absurd (cc)

  -- ---- ends that are sought

  mark-still : (e : EndId) → HasMark w e → HasMark u e
  mark-still e z = by (ended e) refl
    where
      by : (a : Bool) → ended e ≡ a → HasMark u e
      by false off = record { at = z.at; mark = z.mark; there = other-entry b x z.at e off ∙ z.there }
      by true on = absurd (not-marked z.at e z.mark z.there (told.each e on).lives)

  sought-still : (e : EndId) → IsSought w s.ends e → IsSought u t e
  sought-still e (inr z) = inr (mark-still e z)
  sought-still e (inl open_is) = by (ended e) refl
    where
      by : (a : Bool) → ended e ≡ a → IsSought u t e
      by false off =
          inl ((λ r. is_living (place-other b x e off r) && (if noticed-same b x e r then false else true)) ∙ open_is)
      by true on = inr (record { at = k; mark = value e on; there = mark-there e on (alive e on (inl open_is)) })

  sought-was : (e : EndId) → IsSought u t e → IsSought w s.ends e
  sought-was e (inl open_is) = inl (open-was b x e open_is)
  sought-was e (inr z) = by (ended e) refl
    where
      marked : (on : ended e ≡ true) → ((nat_eq z.at k ≡ true) × (z.at ≡ k)) ⊎ ((nat_eq z.at k ≡ false) × (z.at ≢ k)) → IsSought w s.ends e
      marked on (inr far) = inr (record { at = z.at; mark = z.mark; there = sym (b.others z.at e far.0) ∙ z.there })
      marked on (inl near) = which (value e on).dead refl
        where
          which : (a : Bool) → (value e on).dead ≡ a → IsSought w s.ends e
          which false free = inl (open-so (s.ends e) (told.each e on).lives (sym (knows e on) ∙ free))
          which true dead =
              absurd (let differ : entry.Nothing ≡ entry.Destroyed z.mark = sym (left e on ∙ ap (λ a. if a then entry.Nothing else entry.Destroyed (value e on)) dead) ∙ ap (λ j. entry_at u j e) (sym near.1) ∙ z.there in cc)

      by : (a : Bool) → ended e ≡ a → IsSought w s.ends e
      by false off = inr (record { at = z.at; mark = z.mark; there = sym (other-entry b x z.at e off) ∙ z.there })
      by true on = marked on (eqb_tells z.at k)

  -- the opposite of an open end is sought
  opposite-sought : (e : EndId) → is_open (s.ends e) ≡ true → IsSought w s.ends (opposite e)
  opposite-sought e open_is = by ((traced e).met open_is)
    where
      by : (is_living (s.ends (opposite e)).place ≡ true) ⊎ HasMark w (opposite e) → IsSought w s.ends (opposite e)
      by (inl living) = inl (open-so (s.ends (opposite e)) living (opposite-free s.ends deaths e (open-lives (s.ends e) open_is)))
      by (inr z) = inr z

  -- ---- chains and fields

  leads : (e : EndId) (least : ℕ) → IsSought w s.ends e → IsLeading w u c e least
  leads e least sought = record { entry = λ j h le led. by j h led (ended e) refl; lands = λ from q m taken has its. lands from q m taken has its (ended e) refl }
    where
      -- what led on from the kernel has no more hops than the end
      few_hops : (on : ended e ≡ true) (h : ℕ) (y : Entry) → entry_at w k e ≡ y → LeadsOn w e k (HasChain u e) h y → h ≤ (value e on).hops
      few_hops on h entry.Nothing was led = absurd led
      few_hops on h (entry.Here v) was led = subst (λ (m : MovingPicture). h ≤ m.hops) ((told.each e on).alone (At k) v.value (ap value_of was)).1 led
      few_hops on h (entry.Left to n) was led =
          let more : h < n = led.0 in
          let old : n ≤ (value e on).hops = (subst (IsTraceRight w s.ends e k) was ((traced e).entries k)).old (x.are e on).stand (value e on) (x.are e on).had in
          omega (arith, more, old)
      few_hops on h (entry.Destroyed m) was led = absurd (not-marked k e m was (told.each e on).lives)

      mark : (j h : ℕ) → LeadsOn w e j (HasChain u e) h (entry_at w j e) → (on : ended e ≡ true) → ((nat_eq j k ≡ true) × (j ≡ k)) ⊎ ((nat_eq j k ≡ false) × (j ≢ k)) → (entry_at u j e ≡ entry_at w j e) ⊎ HasChain u e j h
      mark j h led on (inr far) = inl (b.others j e far.0)
      mark j h led on (inl near) =
          inr (subst (λ z. HasChain u e z h) (sym near.1)
          (chain-mark u e k h (value e on) (mark-there e on (alive e on sought)) (few_hops on h (entry_at w k e) refl (subst (λ z. LeadsOn w e z (HasChain u e) h (entry_at w z e)) near.1 led))))

      by : (j h : ℕ) → LeadsOn w e j (HasChain u e) h (entry_at w j e) → (a : Bool) → ended e ≡ a → (entry_at u j e ≡ entry_at w j e) ⊎ HasChain u e j h
      by j h led false off = inl (other-entry b x j e off)
      by j h led true on = mark j h led on (eqb_tells j k)

      -- an end that the packet brings is destroyed
      brought : (q : PictureWhat) → IsReturnOf ended q → (m : MovingPicture) → Contains (values_of q) m → m.end ≡ e → ended e ≡ false → ⊥
      brought (packet.Back f n ms) is m has its off = not_among e (ends_in ms) (is e off) (subst (Contains (ends_in ms)) its (ends_in-there ms m has))
      brought _ is m has its off = absurd is

      lands : (from : ℕ) (q : Picture) (m : MovingPicture) → c.taken ≡ Some (from, q) → Contains (values_of q.what) m → m.end ≡ e → (a : Bool) → ended e ≡ a → HasChain u e k m.hops
      lands from q m taken has its false off = absurd (brought q.what (subst (λ y. IfSome y (λ o. IsReturnOf ended o.1.what)) taken x.taken) m has its off)
      lands from q m taken has its true on =
          chain-mark u e k m.hops (value e on) (mark-there e on (alive e on sought))
          (let same : m.hops ≡ (value e on).hops = ap (λ (z : MovingPicture). z.hops) ((told.each e on).alone Flying m (record { from = from; to = k; packet = q; there = taken-before b from q taken; is = has }, its)).1 in omega (arith, same))

  hint-was : (e : EndId) (at : Stand) (m : MovingPicture) → HasFields u e at m → HasSome w e (λ o. o.hint.1 ≤ m.hint.1)
  hint-was e at m has = let was = fields-was b x e at m has in record { at = was.0; fields = m; are = was.1; is = omega arith }

  hops-were : (e : EndId) (at : Stand) (m : MovingPicture) → HasFields u e at m → HasSome w e (λ o. o.hops ≤ m.hops)
  hops-were e at m has = let was = fields-was b x e at m has in record { at = was.0; fields = m; are = was.1; is = omega arith }

  -- ---- each clause

  ending-met : (e : EndId) → IsMet u t e
  ending-met e open_is = by (sought-still (opposite e) (opposite-sought e (open-was b x e open_is)))
    where
      by : IsSought u t (opposite e) → (is_living (t (opposite e)).place ≡ true) ⊎ HasMark u (opposite e)
      by (inl open_other) = inl (open-living b x (opposite e) open_other)
      by (inr z) = inr z

  ending-reached : (e : EndId) → IsReached w s.ends e → IsReached u t e
  ending-reached e is at m j h sought other has heard le =
      reached-on b s.ends t e (sought-was e) (sought-was (opposite e)) (hint-was (opposite e)) (λ at m own also had. leads e m.hint.1 own) (λ at m j h own also has le heard. inl (heard-was b x e j h heard)) is at m j h sought other has heard le

  ending-known : (e : EndId) → IsKnownRight w s.ends e → IsKnownRight u t e
  ending-known e is = known-on b s.ends t e (sought-was e) (sought-was (opposite e)) (hint-was (opposite e)) (λ at m h own other has told. inl (was h told)) is
    where
      was : (h : ℕ) → IsToldOf u e h → IsToldOf w e h
      was h (inl known) = inl (packet-was b x (IsKnownOf e h) (λ to at none. none) known)
      was h (inr forget) = inr (packet-was b x (IsForgetOf e h) (λ to at none. none) forget)

  ending-seen : (e : EndId) → IsSeenRight w s.ends e → IsSeenRight u t e
  ending-seen e is = seen-on b s.ends t e destroyed (sought-was (opposite e)) (λ under. inl (packet-was b x (IsGoneSeen e) (λ to at none. none) under)) is
    where
      destroyed : (s.ends e).place ≡ place.Destroyed → (t e).place ≡ place.Destroyed
      destroyed dead = by (ended e) refl
        where
          by : (a : Bool) → ended e ≡ a → (t e).place ≡ place.Destroyed
          by false off = place-other b x e off ∙ dead
          by true on = place-ended b x e on

  trailed-still : (e : EndId) (j : ℕ) → IsTrailed w s.ends e j → IsTrailed u t e j
  trailed-still e j r = by (ended e) refl
    where
      by : (a : Bool) → ended e ≡ a → IsTrailed u t e j
      by false off =
          record { sought = sought-still e r.sought; at = r.at; fields = r.fields; are = (fields-same b e (x.others e off) (unbrought b x e off) r.at r.fields).1 r.are; in_trail = r.in_trail }
      by true on =
          record {
            sought = sought-still e r.sought;
            at = At k;
            fields = r.fields;
            are = ap value_of (mark-there e on (alive e on r.sought)) ∙ ap Some (sym ((told.each e on).alone r.at r.fields r.are).1);
            in_trail = r.in_trail;
          }

  ending-left : (e : EndId) (j h : ℕ) → IsLeftRight w s.ends e j h → IsLeftRight u t e j h
  ending-left e j h is = left-on b s.ends t e j h (hops-were e) (λ r. inl (trailed-still e j r)) (λ n taken at covers. untaken (IsForgetOf e n) (λ f a ms none. none) taken) is

  ending-announced : (e : EndId) (j : ℕ) (v : HereView) → entry_at w j e ≡ entry.Here v → IsAnnounced w s.ends e j v → IsAnnounced u t e j v
  ending-announced e j v here is unnoticed some living =
      announced-on b s.ends t e j v v refl refl (λ more. more) (λ free. sym (noticed-same b x e) ∙ free) (living-was b x (opposite e)) (leads (opposite e) v.value.hint.1 sought)
      (λ taken at. absurd (untaken (IsKnownOf e v.value.hops) (λ f a ms none. none) taken)) (λ taken chain. absurd (untaken (IsMovedTo (opposite e) j v.value.hops) (λ f a ms none. none) taken)) is unnoticed some living
    where
      sought : IsSought w s.ends (opposite e)
      sought = opposite-sought e (open-so (s.ends e) (lives j e v here) (sym (noticed-same b x e) ∙ unnoticed))

  -- what is asked of an end was asked of it before
  unserved-was : (e : EndId) (m : MovingPicture) (n j h : ℕ) → IsUnserved u e m n j h → IsUnserved w e m n j h
  unserved-was e m n j h (inl kept) = inl kept
  unserved-was e m n j h (inr under) = inr (under.0, packet-was b x (IsAsking e n j h) (λ to at none. none) under.1)

  -- a mark that stood before
  ending-mark : (e : EndId) (d : ℕ) (m : MovingPicture) → ended e ≡ false → IsMarkRight w s.ends e d m → IsMarkRight u t e d m
  ending-mark e d m off is =
      mark-on b s.ends t e d m (λ free. noticed-same b x e ∙ free) (open-was b x (opposite e)) (λ at new. absurd (untold at new))
      (λ open_is to what has back. absurd (back-untold k (opposite e) what (sent-each (λ to what. IsGoneAt k what) c.packets to what told.sent has) back))
      (λ open_is to what has parcel. absurd (parcel-untold k e what (sent-each (λ to what. IsGoneAt k what) c.packets to what told.sent has) parcel))
      (λ at o n j h open_is has asks. let was = fields-was b x (opposite e) at o has in inl (record { at = was.0; fields = o; are = was.1; is = unserved-was (opposite e) o n j h asks }))
      (λ sought. inl (sought-still (opposite e) sought, leads (opposite e) m.hint.1 sought)) (λ taken at. absurd (untaken (IsGoneSeen e) (λ f a ms none. none) taken)) (λ taken chain sought. absurd (untaken (IsGoneFrom (opposite e) d) (λ f a ms none. none) taken)) is
    where
      -- no gone of this end is sent
      untold : (at : ℕ) → IsSent c (IsGoneFrom (opposite e) at) → ⊥
      untold at new = true≢false (sym (gone-ended ended e at new.what (sent-each (λ to what. TellsOf ended what) c.packets new.to new.what x.sent new.there) new.is) ∙ off)

  -- ---- the mark of an end that is destroyed

  module _ (e : EndId) (on : ended e ≡ true) (free : (value e on).dead ≡ false) where
    abbrev v : MovingPicture
    v = value e on

    abbrev y : EndId
    y = opposite e

    lived : is_living (s.ends e).place ≡ true
    lived = (told.each e on).lives

    was-open : is_open (s.ends e) ≡ true
    was-open = open-so (s.ends e) lived (sym (knows e on) ∙ free)

    right-there : (from to : ℕ) (q : Picture) → Contains (w.packets from to) q → IsPacketRight w s.ends from to q.what
    right-there from to q has = All-contains (λ o. IsPacketRight w s.ends from to o.what) (w.packets from to) q (right.packets from to) has

    new-gone : (at : ℕ) → IsUnderWay u (IsGoneFrom y at) → at ≡ k
    new-gone at under = by (under_way-or b (IsGoneFrom y at) under)
      where
        by : IsUnderWay w (IsGoneFrom y at) ⊎ IsSent c (IsGoneFrom y at) → at ≡ k
        by (inr new) = gone-at k y at new.what (sent-each (λ to what. IsGoneAt k what) c.packets new.to new.what told.sent new.there) new.is
        by (inl was) =
            let gone = gone-right w s.ends was.from was.to y at was.packet.what (right-there was.from was.to was.packet was.there) was.is in
            absurd (destroyed-closed (s.ends e) (subst (λ z. (s.ends z).place ≡ place.Destroyed) (opposite-twice e) gone) was-open)

    new-backs : Each u (λ from to q. IsBackTo y q → from ≡ k)
    new-backs =
        each-after b (λ from to q. IsPacketRight w s.ends from to q) (λ from to q. IsBackTo y q → from ≡ k) right.packets
        (λ from to q has is back. absurd (true≢false (sym was-open ∙ subst (λ z. is_open (s.ends z) ≡ false) (opposite-twice e) (back-closed w s.ends from to y q.what is back))))
        (λ to what has back. absurd (back-untold k y what (sent-each (λ to what. IsGoneAt k what) c.packets to what told.sent has) back))

    new-parcels : Each u (λ from to q. IsParcelTo e q → to ≡ k)
    new-parcels =
        each-after b (λ from to q. IsPacketRight w s.ends from to q) (λ from to q. IsParcelTo e q → to ≡ k) right.packets (λ from to q has is parcel. site to (parcel-meets w s.ends from to e q.what is parcel was-open))
        (λ to what has parcel. absurd (parcel-untold k e what (sent-each (λ to what. IsGoneAt k what) c.packets to what told.sent has) parcel))
      where
        site : (to : ℕ) → IsHereAnd (entry_at w to e) (λ v. Unit {0}) → to ≡ k
        site to met = let z = there-here (entry_at w to e) (λ v. Unit {0}) met in near-kernel e on to z.0.value (ap value_of z.1)

    new-asked : (at : Stand) (m : MovingPicture) (n j h : ℕ) → is_open (t y) ≡ true → HasFields u y at m → IsUnserved u y m n j h → (j ≡ k) × (h ≡ v.hops)
    new-asked at m n j h open_is has asks =
        let was = fields-was b x y at m has in
        let site : IsHereAnd (entry_at w j (opposite y)) (λ z. (z.value.hops ≡ h) × (z.value.asked ≡ n))
        = (right.wanted y).site was.0 m n j h (open-was b x y open_is) was.1 (unserved-was y m n j h asks) (subst (λ z. is_living (s.ends z).place ≡ true) (sym (opposite-twice e)) lived) in
        let z = there-here (entry_at w j e) (λ z. (z.value.hops ≡ h) × (z.value.asked ≡ n)) (subst (λ o. IsHereAnd (entry_at w j o) (λ z. (z.value.hops ≡ h) × (z.value.asked ≡ n))) (opposite-twice e) site) in (
          near-kernel e on j z.0.value (ap value_of z.1),
          sym z.2.0 ∙ ap (λ (m : MovingPicture). m.hops) ((told.each e on).alone (At j) z.0.value (ap value_of z.1)).1,
        )

    -- a gone goes to the hint, from where a chain leads on
    new-mourned : IsMourned u t e k v.hint.1
    new-mourned =
        inr (
          sought-still y sought,
          track-sent b y v.hint.1 v.hint.0 (packet.Gone y k) (IsGoneFrom y k) ((told.each e on).gone free) (refl, refl)
              (chain-on b y v.hint.1 (leads y v.hint.1 sought) v.hint.0 v.hint.1 (omega arith)
              ((traced y).reached (x.are e on).stand v v.hint.0 v.hint.1 sought (subst (IsSought w s.ends) (sym (opposite-twice e)) (inl was-open)) has
              (inl (record { stand = (x.are e on).stand; fields = v; are = has; hint = refl })) (omega arith))),
        )
      where
        sought : IsSought w s.ends y
        sought = opposite-sought e was-open

        has : HasFields w (opposite y) (x.are e on).stand v
        has = subst (λ z. HasFields w z (x.are e on).stand v) (sym (opposite-twice e)) (x.are e on).had

    ended-mark : IsMarkRight u t e k v
    ended-mark =
        record {
          dead = free;
          noticed = noticed-same b x e ∙ sym (knows e on) ∙ free;
          gone = new-gone;
          backs = λ open_is. new-backs;
          parcels = λ open_is. new-parcels;
          asked = new-asked;
          mourned = new-mourned;
        }

  -- ---- entries

  ended-right : (e : EndId) (on : ended e ≡ true) → IsTraceRight u t e k (entry_at u k e)
  ended-right e on = by (value e on).dead refl
    where
      by : (a : Bool) → (value e on).dead ≡ a → IsTraceRight u t e k (entry_at u k e)
      by false free = subst (IsTraceRight u t e k) (sym (mark-there e on free)) (ended-mark e on free)
      by true dead = subst (IsTraceRight u t e k) (sym (left e on ∙ ap (λ a. if a then entry.Nothing else entry.Destroyed (value e on)) dead)) tt

  -- where it is not, it had no more than a forwarding entry
  elsewhere-right : (e : EndId) (on : ended e ≡ true) (j : ℕ) → j ≢ k → (z : Entry) → entry_at w j e ≡ z → IsTraceRight w s.ends e j z → IsTraceRight u t e j z
  elsewhere-right e on j far entry.Nothing at is = tt
  elsewhere-right e on j far (entry.Left to h) at is = ending-left e j h is
  elsewhere-right e on j far (entry.Here o) at is = absurd (far (near-kernel e on j o.value (ap value_of at)))
  elsewhere-right e on j far (entry.Destroyed m) at is = absurd (not-marked j e m at (told.each e on).lives)

  other-right : (e : EndId) → ended e ≡ false → (j : ℕ) (z : Entry) → entry_at w j e ≡ z → IsTraceRight w s.ends e j z → IsTraceRight u t e j z
  other-right e off j entry.Nothing at is = tt
  other-right e off j (entry.Here v) at is = ending-announced e j v at is
  other-right e off j (entry.Left to h) at is = ending-left e j h is
  other-right e off j (entry.Destroyed m) at is = ending-mark e j m off is

  ending-right : (e : EndId) (j : ℕ) → IsTraceRight u t e j (entry_at u j e)
  ending-right e j = by (ended e) refl (eqb_tells j k)
    where
      by : (a : Bool) → ended e ≡ a → ((nat_eq j k ≡ true) × (j ≡ k)) ⊎ ((nat_eq j k ≡ false) × (j ≢ k)) → IsTraceRight u t e j (entry_at u j e)
      by false off any = subst (IsTraceRight u t e j) (sym (other-entry b x j e off)) (other-right e off j (entry_at w j e) refl ((traced e).entries j))
      by true on (inl near) = subst (λ z. IsTraceRight u t e z (entry_at u z e)) (sym near.1) (ended-right e on)
      by true on (inr far) = subst (IsTraceRight u t e j) (sym (b.others j e far.0)) (elsewhere-right e on j far.1 (entry_at w j e) refl ((traced e).entries j))

  -- so all that is true of traces stays
  pub ending-traced : AreTraced u t
  ending-traced e =
      record {
        met = ending-met e;
        reached = ending-reached e (traced e).reached;
        seen = ending-seen e (traced e).seen;
        known = ending-known e (traced e).known;
        entries = ending-right e;
      }
