-- A mark is erased where a goneseen or a gone comes to it, which keeps all that is true of the traces of ends: the opposite is sought no more, or
-- its own mark is told that the death was seen.
use Rattle.std.proofs.Common.{◌≡◌, ◌≢◌, ◌⊎◌, inl, inr, ℕ, ◌≤◌, Bool, true, false, nat_eq, if◌then◌else◌, List, [], ◌∷◌, ◌++◌, length, ◌<◌, Contains, refl, sym, ap, subst, ◌∙◌}
use Rattle.std.proofs.lemmas.Bool.Decides.{eqb_tells}
use Rattle.std.proofs.lemmas.List.Elements.{All-contains, Contains-append_left, Contains-append_right}
use Rattle.std.specs.Int.{bit_at}
use Rattle.charlotte_calls.specs.Names.{opposite}
use Rattle.charlotte_calls.specs.declared.names.EndId.{EndId}
use Rattle.charlotte_calls.specs.declared.names.Pid.{Pid}
use Rattle.charlotte_packets.specs.declared.picture.MovingPicture.{MovingPicture}
use Rattle.charlotte_packets.specs.declared.picture.Picture.{Picture}
use Rattle.charlotte_packets.specs.declared.picture.PictureWhat.{PictureWhat}
use Rattle.charlotte_packets.specs.declared.picture.PictureWhat.TheVariants as packet
use Rattle.end_table.proofs.EndEq.{end_eq-same}
use Rattle.end_table.specs.Place.{end_eq}
use Rattle.end_table.specs.Table.{IsOfEnd}
use Rattle.end_table.specs.declared.entry.Entry.{Entry}
use Rattle.end_table.specs.declared.entry.Entry.TheVariants as entry
use Rattle.end_table.specs.declared.entry.HereView.{HereView}
use Rattle.kernel_effects.proofs.Uses.{all-append, forget-each}
use Rattle.kernel_effects.specs.Actions.{forget_packets}
use Rattle.kernel_effects.specs.Effect.{Effect, puts, sent, stays}
use Rattle.kernel_effects.specs.Rows.{gone_effect, goneseen_effect, row_effect}
use Rattle.kernel_sound.specs.Sound.{addressee}
use Rattle.kernel_world.specs.World.{Takes, World, happens}
use Rattle.service_lawful.specs.Consistent.{is_open}
use Rattle.service_step.specs.State.{State}
use Rattle.service_step.specs.declared.state.End.{End}
use Rattle.service_step.specs.declared.state.Place.TheVariants as place
use Rattle.trace_events.proofs.Allowed.{takes-allowed}
use Rattle.trace_events.proofs.TheoremEffectsAside.{entry-same, fields-same, sent-each}
use Rattle.trace_events.proofs.Ends.{all_sent-weaker}
use Rattle.trace_events.proofs.Lists.{first}
use Rattle.trace_events.proofs.Packets.{taken-was}
use Rattle.trace_events.specs.Aside.{IsKept}
use Rattle.trace_events.specs.Change.{Change, Changes, Happens}
use Rattle.trace_events.specs.Events.{taking}
use Rattle.trace_events.specs.Sums.{AllSent}
use Rattle.trace_events.specs.Under.{IsSent, IsTaken}
use Rattle.theorem_meaning.proofs.Ends.{opposite-twice}
use Rattle.theorem_meaning.proofs.Plain.{view-same}
use Rattle.theorem_meaning.specs.Fields.{At, HasFields, Stand, value_of}
use Rattle.theorem_meaning.specs.Invariant.{Invariant, IsPacketRight}
use Rattle.theorem_meaning.specs.Packets.{IsUnderWay, Links, links_of, values_of}
use Rattle.theorem_meaning.specs.StandsFor.{entry_at}
use Rattle.theorem_take_silent.proofs.Places.{here-living}
use Rattle.trace_calm.proofs.Calls.{steadily-same}
use Rattle.trace_calm.proofs.Calm.{calm-traced}
use Rattle.trace_calm.proofs.Known.{forget-there}
use Rattle.trace_calm.proofs.Marked.{fields-mark, kernel-low}
use Rattle.trace_calm.proofs.Steady.{steadily-calmly}
use Rattle.trace_calm.specs.Calm.{IsCalm, IsCalmly, IsClosing, IsErased, IsOfDeath, IsPassedOn, IsTrueAsk}
use Rattle.trace_events.proofs.One.{bare-unbrought, is-taken, put-had, put-has, put-kept, put-or, put-stays, put-was}
use Rattle.trace_events.proofs.Open.{destroyed-closed}
use Rattle.trace_events.proofs.Tracks.{going-sent}
use Rattle.trace_meaning.proofs.Frame.{to-goneseen}
use Rattle.trace_meaning.specs.Traces.{AreTraced, IsToForget, IsTraceRight, IsTrailed}
use Rattle.trace_meaning.specs.Words.{HasMark, IsForgetOf, IsGoingTo, IsGoneFrom, IsGoneSeen, IsKnownOf, IsMovedTo, IsSought}

-- ---- packets that tell of a death

-- a gone is answered by a goneseen
abbrev answers : PictureWhat → List (ℕ × PictureWhat)
answers (packet.Gone to at) = (at, packet.GoneSeen (opposite to)) ∷ []
answers _ = []

abbrev IsAnswer : PictureWhat → ℕ → PictureWhat → Type 0
IsAnswer (packet.Gone to at) n what = (n ≡ at) × (what ≡ packet.GoneSeen (opposite to))
IsAnswer _ n what = ⊥

are-answers : (q : PictureWhat) → AllSent (IsAnswer q) (answers q)
are-answers (packet.Gone to at) = ((refl, refl), tt)
are-answers _ = tt

answer-there : (q : PictureWhat) (e : EndId) (d : ℕ) → IsGoneFrom e d q → Contains (answers q) (d, packet.GoneSeen (opposite e))
answer-there (packet.Gone to at) e d its =
    subst (λ z. Contains {X = ℕ × PictureWhat} ((at, packet.GoneSeen (opposite to)) ∷ []) (z, packet.GoneSeen (opposite e))) its.1
    (subst (λ z. Contains {X = ℕ × PictureWhat} ((at, packet.GoneSeen (opposite to)) ∷ []) (at, packet.GoneSeen (opposite z))) its.0 (first {X = ℕ × PictureWhat} (at, packet.GoneSeen (opposite to)) []))
answer-there _ e d its = absurd its

-- it is a goneseen of the opposite
answer-what : (q : PictureWhat) (n : ℕ) (what : PictureWhat) → IsAnswer q n what → what ≡ packet.GoneSeen (opposite (addressee q))
answer-what (packet.Gone to at) n what is = is.1
answer-what _ n what is = absurd is

-- which is destroyed
answer-gone : (l : Links) (t : EndId → End) (from k : ℕ) (q : PictureWhat) (n : ℕ) (what : PictureWhat) → IsPacketRight l t from k q → IsAnswer q n what → (t (opposite (addressee q))).place ≡ place.Destroyed
answer-gone l t from k (packet.Gone to at) n what right is = right
answer-gone l t from k _ n what right is = absurd is

death-bare : (q : PictureWhat) → IsOfDeath q → values_of q ≡ []
death-bare (packet.Gone to at) is = refl
death-bare (packet.GoneSeen to) is = refl
death-bare _ is = absurd is

death-unknown : (q : PictureWhat) → IsOfDeath q → (e : EndId) (h : ℕ) → IsKnownOf e h q → ⊥
death-unknown (packet.Known to hops) is e h its = is
death-unknown _ is e h its = its

death-kept : (q : PictureWhat) → IsOfDeath q → (e : EndId) (h : ℕ) → IsForgetOf e h q → ⊥
death-kept (packet.Forget to hops) is e h its = is
death-kept _ is e h its = its

death-unmoved : (q : PictureWhat) → IsOfDeath q → (e : EndId) (j h : ℕ) → IsMovedTo e j h q → ⊥
death-unmoved (packet.Moved to at hops) is e j h its = is
death-unmoved _ is e j h its = its

-- the opposite of an end whose death is told is not open
closed-opposite : (l : Links) (t : EndId → End) (from k : ℕ) (q : PictureWhat) → IsOfDeath q → IsPacketRight l t from k q → (IsGoneSeen (addressee q) q → ⊥) → is_open (t (opposite (addressee q))) ≡ true → ⊥
closed-opposite l t from k (packet.Gone to at) is right unseen open_is = destroyed-closed (t (opposite to)) right open_is
closed-opposite l t from k (packet.GoneSeen to) is right unseen open_is = unseen refl
closed-opposite l t from k _ is right unseen open_is = absurd is

-- a gone came from the mark that it tells of
gone-from : (q : PictureWhat) → IsOfDeath q → (IsGoneSeen (addressee q) q → ⊥) → (d : ℕ) → ((at : ℕ) → IsGoneFrom (addressee q) at q → at ≡ d) → IsGoneFrom (addressee q) d q
gone-from (packet.Gone to at) is unseen d told = (refl, told at (refl, refl))
gone-from (packet.GoneSeen to) is unseen d told = absurd (unseen refl)
gone-from _ is unseen d told = absurd is

-- what the kernel does
row-erases : (k made from : ℕ) (y : EndId → Entry) (m : MovingPicture) (q : PictureWhat) → IsOfDeath q → y (addressee q) ≡ entry.Destroyed m
    → row_effect k made from y q ≡ record (sent (answers q ++ forget_packets k m)) { entry = puts m.end entry.Nothing stays }
row-erases k made from y m (packet.Gone to at) is mark = ap (gone_effect k to at) mark
row-erases k made from y m (packet.GoneSeen to) is mark = ap (goneseen_effect k) mark
row-erases k made from y m _ is mark = absurd is

module _ (i : ℕ) (w : World) (s : State) (is : Invariant i w s) (k from : ℕ) (q : Picture) (others : List Picture) (there : w.packets from k ≡ q ∷ others) (death : IsOfDeath q.what) (m : MovingPicture) (stood : (w.kernel k).table (addressee q.what) ≡ entry.Destroyed m)
    (traced : AreTraced (links_of w) s.ends) where
  abbrev l : Links
  l = links_of w

  abbrev x : EndId
  x = addressee q.what

  abbrev effect : Effect
  effect = record (sent (answers q.what ++ forget_packets k m)) { entry = puts m.end entry.Nothing stays }

  abbrev any : Pid
  any = record { 0 = 0 }

  abbrev change : Change
  change = taking w k from q effect any [] []

  abbrev u : Links
  u = links_of (happens w (Takes k from))

  its-end : m.end ≡ x
  its-end = subst (IsOfEnd x) stood ((is.setting.sound k).own x)

  happened : Happens w (Takes k from) change
  happened = takes-allowed is k from q others there effect any [] [] (row-erases k (w.kernel k).made from (w.kernel k).table m q.what death stood) tt tt refl refl

  abbrev b : Changes l change u
  b = happened.becomes.links

  erases : (e : EndId) → change.entry e (entry_at l k e) ≡ (if end_eq x e then entry.Nothing else entry_at l k e)
  erases e = ap (λ z. if end_eq z e then entry.Nothing else entry_at l k e) its-end

  -- ---- the packet that was taken, and those that are sent

  right : IsPacketRight l s.ends from k q.what
  right = All-contains (λ o. IsPacketRight l s.ends from k o.what) (w.packets from k) q (is.links.packets from k) (subst (λ qs. Contains qs q) (sym there) (first q others))

  under : (P : PictureWhat → Type 0) → P q.what → IsUnderWay l P
  under P its = taken-was b P (record { from = from; packet = q; taken = refl; is = its })

  abbrev IsNew : ℕ → PictureWhat → Type 0
  IsNew n what = IsAnswer q.what n what ⊎ (what ≡ packet.Forget m.end m.hops)

  are-sent : AllSent IsNew change.packets
  are-sent =
      all-append (λ (p : ℕ × PictureWhat). IsNew p.0 p.1) (answers q.what) (forget_packets k m)
      (all_sent-weaker (IsAnswer q.what) IsNew (λ n what its. inl its) (answers q.what) (are-answers q.what))
      (forget-each (λ (p : ℕ × PictureWhat). IsNew p.0 p.1) k m (λ j set apart. inr refl))

  -- each is a goneseen of the opposite or a forget of the end
  are-either : (P : ℕ → PictureWhat → Type 0) → ((n : ℕ) → P n (packet.GoneSeen (opposite x))) → ((n : ℕ) → P n (packet.Forget m.end m.hops)) → AllSent P change.packets
  are-either P seen forgets = all_sent-weaker IsNew P by change.packets are-sent
    where
      by : (n : ℕ) (what : PictureWhat) → IsNew n what → P n what
      by n what (inl its) = subst (P n) (sym (answer-what q.what n what its)) (seen n)
      by n what (inr its) = subst (P n) (sym its) (forgets n)

  bare_sent : AllSent (λ to what. values_of what ≡ []) change.packets
  bare_sent = are-either (λ n what. values_of what ≡ []) (λ n. refl) (λ n. refl)

  new : (P : PictureWhat → Type 0) → IsSent change P → ((n : ℕ) × (what : PictureWhat) × IsAnswer q.what n what × P (packet.GoneSeen (opposite x))) ⊎ P (packet.Forget m.end m.hops)
  new P z = by (sent-each IsNew change.packets z.to z.what are-sent z.there)
    where
      by : IsNew z.to z.what → ((n : ℕ) × (what : PictureWhat) × IsAnswer q.what n what × P (packet.GoneSeen (opposite x))) ⊎ P (packet.Forget m.end m.hops)
      by (inl its) = inl (z.to, z.what, its, subst P (answer-what q.what z.to z.what its) z.is)
      by (inr its) = inr (subst P its z.is)

  -- ---- the end is sought no more

  destroyed : (s.ends x).place ≡ place.Destroyed
  destroyed = (is.links.marked x).destroyed k m stood

  no-mark : HasMark u x → ⊥
  no-mark h =
      let was : entry_at l h.at x ≡ entry.Destroyed h.mark = put-was b x (entry.Destroyed m) entry.Nothing stood erases h.at x (entry.Destroyed h.mark) h.there (λ differ. cc) in
      let at : h.at ≡ k = (is.links.marked x).once h.at k h.mark m was stood in
      let both : entry.Nothing ≡ entry.Destroyed h.mark = sym (put-has b x (entry.Destroyed m) entry.Nothing stood erases h.at x (at, refl)) ∙ h.there in
      cc

  unsought : IsSought u s.ends x → ⊥
  unsought (inl open_is) = destroyed-closed (s.ends x) destroyed open_is
  unsought (inr mark) = no-mark mark

  -- ---- its opposite

  unseen : IsSought l s.ends (opposite x) → IsGoneSeen x q.what → ⊥
  unseen sought seen = (traced x).seen.unsought (under (IsGoneSeen x) seen) sought

  closed : is_open (s.ends (opposite x)) ≡ true → ⊥
  closed open_is = closed-opposite l s.ends from k q.what death right (unseen (inl open_is)) open_is

  -- a mark of it is told that the death was seen
  tells : (e : EndId) (d : ℕ) → IsGoneFrom (opposite e) d q.what → IsGoingTo u d (IsGoneSeen e)
  tells e d its =
      going-sent b d (packet.GoneSeen (opposite (opposite e))) (IsGoneSeen e)
      (Contains-append_left (answers q.what) (forget_packets k m) (d, packet.GoneSeen (opposite (opposite e))) (answer-there q.what (opposite e) d its)) (opposite-twice e)

  mark-told : (d : ℕ) (o : MovingPicture) → entry_at u d (opposite x) ≡ entry.Destroyed o → IsGoingTo u d (IsGoneSeen (opposite x))
  mark-told d o at = tells (opposite x) d (subst (λ z. IsGoneFrom z d q.what) (sym (opposite-twice x)) (gone-from q.what death (unseen (inr (record { at = d; mark = o; there = was }))) d told))
    where
      was : entry_at l d (opposite x) ≡ entry.Destroyed o
      was = put-was b x (entry.Destroyed m) entry.Nothing stood erases d (opposite x) (entry.Destroyed o) at (λ differ. cc)

      told : (j : ℕ) → IsGoneFrom x j q.what → j ≡ d
      told j its =
          (subst (IsTraceRight l s.ends (opposite x) d) was ((traced (opposite x)).entries d)).gone j
          (under (IsGoneFrom (opposite (opposite x)) j) (subst (λ z. IsGoneFrom z j q.what) (sym (opposite-twice x)) its))

  -- ---- entries

  is-calmly : (j : ℕ) (e : EndId) → IsCalmly (entry_at l j e) (entry_at u j e)
  is-calmly j e = by (put-or b x (entry.Destroyed m) entry.Nothing stood erases j e)
    where
      by : (entry_at u j e ≡ entry_at l j e) ⊎ ((j ≡ k) × (x ≡ e)) → IsCalmly (entry_at l j e) (entry_at u j e)
      by (inl same) = subst (IsCalmly (entry_at l j e)) (sym same) (steadily-calmly (entry_at l j e) (entry_at l j e) (steadily-same (entry_at l j e)))
      by (inr its) =
          subst (λ y. IsCalmly y (entry_at u j e)) (sym (put-had b x (entry.Destroyed m) entry.Nothing stood erases j e its))
          (subst (IsCalmly (entry.Destroyed m)) (sym (put-has b x (entry.Destroyed m) entry.Nothing stood erases j e its)) tt)

  is-erased : (e : EndId) (j : ℕ) (o : MovingPicture) → entry_at l j e ≡ entry.Destroyed o → entry_at u j e ≡ entry.Nothing → IsErased u s.ends e
  is-erased e j o was none = by (put-or b x (entry.Destroyed m) entry.Nothing stood erases j e)
    where
      by : (entry_at u j e ≡ entry_at l j e) ⊎ ((j ≡ k) × (x ≡ e)) → IsErased u s.ends e
      by (inl same) = absurd (let differ : entry.Nothing ≡ entry.Destroyed o = sym none ∙ same ∙ was in cc)
      by (inr its) = subst (IsErased u s.ends) its.1 (record { unsought = unsought; closed = closed; seen = mark-told })

  -- a kernel in the trail of the mark is told to forget; another end keeps its fields
  is-trailed : (e : EndId) (j a h : ℕ) → entry_at u j e ≡ entry.Left a h → ((at : Stand) (o : MovingPicture) → HasFields l e at o → h ≤ o.hops) → IsTrailed l s.ends e j → IsTrailed u s.ends e j ⊎ IsToForget u e j h
  is-trailed e j a h left older r = by (end_eq x e) refl
    where
      was : entry_at l j e ≡ entry.Left a h
      was = put-was b x (entry.Destroyed m) entry.Nothing stood erases j e (entry.Left a h) left (λ differ. cc)

      of_its : x ≡ e → IsTrailed u s.ends e j ⊎ IsToForget u e j h
      of_its own =
          inr (record {
            hops = m.hops;
            there =
                going-sent b j (packet.Forget m.end m.hops) (IsForgetOf e m.hops)
                (Contains-append_right (answers q.what) (forget_packets k m) (j, packet.Forget m.end m.hops) (forget-there k j m low set off)) (its-end ∙ own, refl);
            covers = older (At k) m (ap value_of mark);
          })
        where
          mark : entry_at l k e ≡ entry.Destroyed m
          mark = ap (entry_at l k) (sym own) ∙ stood

          low : j < 8
          low = kernel-low (length s.made) l s.ends is.setting.few is.links.named is.links.marked is.stands.links.once j e (entry.Left a h) was (λ differ. cc)

          set : bit_at m.trail j ≡ 1
          set =
              subst (λ (z : MovingPicture). bit_at z.trail j ≡ 1)
              (fields-mark (length s.made) l s.ends is.setting.few is.links.named is.links.marked is.stands.links.once e k m r.at r.fields mark r.are).1 r.in_trail

          off : nat_eq j k ≡ false
          off = other (eqb_tells j k)
            where
              other : ((nat_eq j k ≡ true) × (j ≡ k)) ⊎ ((nat_eq j k ≡ false) × (j ≢ k)) → nat_eq j k ≡ false
              other (inr apart) = apart.0
              other (inl at) = absurd (let differ : entry.Destroyed m ≡ entry.Left a h = sym mark ∙ ap (λ z. entry_at l z e) (sym at.1) ∙ was in cc)

      of_other : end_eq x e ≡ false → IsTrailed u s.ends e j
      of_other apart =
          record {
            sought = sought r.sought;
            at = r.at;
            fields = r.fields;
            are = (fields-same b e kept (bare-unbrought change (death-bare q.what death) bare_sent e) r.at r.fields).1 r.are;
            in_trail = r.in_trail;
          }
        where
          kept : IsKept l change e
          kept = put-kept b x (entry.Destroyed m) entry.Nothing stood erases e apart

          sought : IsSought l s.ends e → IsSought u s.ends e
          sought (inl is_open) = inl is_open
          sought (inr z) = inr (record { at = z.at; mark = z.mark; there = entry-same b e kept z.at ∙ z.there })

      by : (c : Bool) → end_eq x e ≡ c → IsTrailed u s.ends e j ⊎ IsToForget u e j h
      by true same = of_its (end_eq-same x e same)
      by false apart = inl (of_other apart)

  same-trail : (j : ℕ) (e : EndId) (v z : HereView) → entry_at l j e ≡ entry.Here v → entry_at u j e ≡ entry.Here z → z.value.trail ≡ v.value.trail
  same-trail j e v z was now = ap (λ (y : HereView). y.value.trail) (view-same z v (sym now ∙ put-stays b x (entry.Destroyed m) entry.Nothing stood erases j e (entry.Here v) was (λ differ. cc)))

  is-told : (e : EndId) (h : ℕ) → IsSent change (IsForgetOf e h) → IsSought u s.ends e → ⊥
  is-told e h sent sought = by (new (IsForgetOf e h) sent)
    where
      by : ((n : ℕ) × (what : PictureWhat) × IsAnswer q.what n what × IsForgetOf e h (packet.GoneSeen (opposite x))) ⊎ IsForgetOf e h (packet.Forget m.end m.hops) → ⊥
      by (inl none) = none.3
      by (inr its) = unsought (subst (IsSought u s.ends) (sym its.0 ∙ its-end) sought)

  tells-seen : (e : EndId) → IsSent change (IsGoneSeen e) → ((s.ends e).place ≡ place.Destroyed) × (IsSought u s.ends (opposite e) → ⊥)
  tells-seen e sent = by (new (IsGoneSeen e) sent)
    where
      by : ((n : ℕ) × (what : PictureWhat) × IsAnswer q.what n what × IsGoneSeen e (packet.GoneSeen (opposite x))) ⊎ IsGoneSeen e (packet.Forget m.end m.hops) → ((s.ends e).place ≡ place.Destroyed) × (IsSought u s.ends (opposite e) → ⊥)
      by (inl its) = (
        subst (λ z. (s.ends z).place ≡ place.Destroyed) its.3 (answer-gone l s.ends from k q.what its.0 its.1 right its.2),
        λ sought. unsought (subst (IsSought u s.ends) (ap opposite (sym its.3) ∙ opposite-twice x) sought),
      )
      by (inr none) = absurd none

  seen-erased : (e : EndId) (o : MovingPicture) → entry_at u k e ≡ entry.Destroyed o → IsTaken change (IsGoneSeen e) → ⊥
  seen-erased e o at taken =
      let its : x ≡ e = to-goneseen e q.what (is-taken from q refl (IsGoneSeen e) taken) in
      let differ : entry.Nothing ≡ entry.Destroyed o = sym (put-has b x (entry.Destroyed m) entry.Nothing stood erases k e (refl, its)) ∙ at in
      cc

  not-cleared : (e : EndId) (j a h : ℕ) → entry_at l j e ≡ entry.Left a h → entry_at u j e ≡ entry.Nothing → ⊥
  not-cleared e j a h was none =
      let differ : entry.Nothing ≡ entry.Left a h = sym none ∙ put-stays b x (entry.Destroyed m) entry.Nothing stood erases j e (entry.Left a h) was (λ differ. cc) in
      cc

  erasing : IsCalm l u change s.ends
  erasing =
      record {
        entries = is-calmly;
        bare = death-bare q.what death;
        sent_bare = bare_sent;
        sent = are-either (λ n what. IsPassedOn change what ⊎ IsTrueAsk l what ⊎ IsClosing what) (λ n. inr (inr tt)) (λ n. inr (inr tt));
        told = λ e h at o new sought other has. absurd (is-told e h new sought);
        tells_seen = tells-seen;
        trail = λ j e v z was now. inl (same-trail j e v z was now);
        trailed = is-trailed;
        cleared = λ e j a h at o was none sought other has. absurd (not-cleared e j a h was none);
        erased = is-erased;
        known = λ e v z was now free taken. absurd (death-unknown q.what death e v.value.hops (is-taken from q refl (IsKnownOf e v.value.hops) taken));
        forget = λ e a h g left taken covers. death-kept q.what death e g (is-taken from q refl (IsForgetOf e g) taken);
        seen = seen-erased;
        moved = λ e j v here taken chain. absurd (death-unmoved q.what death (opposite e) j v.value.hops (is-taken from q refl (IsMovedTo (opposite e) j v.value.hops) taken));
        gone = λ e d o at taken chain. inl (tells e d (is-taken from q refl (IsGoneFrom (opposite e) d) taken));
      }

  pub erased-traced : AreTraced u s.ends
  erased-traced =
      calm-traced b s.ends s.ends erasing (record { living = λ e. refl; noticed = λ e. refl; destroyed = λ e dead. dead }) (λ j e o at. (is.links.marked e).destroyed j o at)
      (λ j e v at. here-living (length s.made) l s.ends is.setting.few is.links.named is.links.marked is.stands.links.once e j v at) is.service.noticed.opposite traced
