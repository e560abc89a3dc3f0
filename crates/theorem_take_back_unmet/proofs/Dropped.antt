-- The service goes with the taking of a back whose end is destroyed: the ends that it brings are destroyed too.
use Rattle.std.proofs.Common.{◌≡◌, inr, ℕ, ◌+◌, ◌<◌, Bool, true, false, ◌&&◌, ◌||◌, not, is_some, if◌then◌else◌, List, [], ◌∷◌, Contains, length, None, Option, Some, refl, sym, ap, subst, ◌∙◌, arith, true≢false, eq-eqb}
use Rattle.std.proofs.lemmas.List.Elements.{All-contains}
use Rattle.std.specs.List.{flat_map, list_any}
use Rattle.charlotte_calls.specs.Names.{opposite}
use Rattle.charlotte_calls.specs.declared.calls.ServiceStep.TheVariants as step
use Rattle.charlotte_calls.specs.declared.names.EndId.{EndId}
use Rattle.charlotte_calls.specs.declared.names.Pid.{Pid}
use Rattle.charlotte_packets.specs.declared.picture.MovingPicture.{MovingPicture}
use Rattle.charlotte_packets.specs.declared.picture.Picture.{Picture}
use Rattle.charlotte_packets.specs.declared.picture.PictureWhat.TheVariants as packet
use Rattle.end_table.proofs.EndEq.{end_eq-refl, end_eq-same, end_eq-sym}
use Rattle.end_table.specs.Entries.{ended_entry}
use Rattle.end_table.specs.Place.{end_eq}
use Rattle.end_table.specs.Table.{IsHereAnd}
use Rattle.end_table.specs.declared.entry.Entry.{Entry}
use Rattle.end_table.specs.declared.entry.Entry.TheVariants as entry
use Rattle.end_table.specs.declared.entry.HereView.{HereView}
use Rattle.kernel_effects.proofs.Folds.{brings-others}
use Rattle.kernel_effects.proofs.Uses.{all-append}
use Rattle.kernel_effects.specs.Actions.{ends_arrivals, gone_packets}
use Rattle.kernel_effects.specs.Effect.{Effect, stays}
use Rattle.kernel_effects.specs.Rows.{back_effect, back_steps, row_effect}
use Rattle.kernel_outcomes.proofs.Sound.{passing-all}
use Rattle.kernel_sound.proofs.Parcels.{awaits-here}
use Rattle.kernel_sound.specs.Sound.{IsSound, addressee}
use Rattle.kernel_step.specs.Actions.{is_withdrawing}
use Rattle.kernel_step.specs.Rows.{awaits, ends_in, is_here, passing}
use Rattle.kernel_world.specs.World.{World, Takes, happens}
use Rattle.service_change.proofs.Change.{living-made}
use Rattle.service_change.proofs.EndEq.{among, places-among, places-other, puts-at, puts-other}
use Rattle.service_consistent.proofs.Laws.{consistent_after}
use Rattle.service_lawful.specs.Consistent.{is_open}
use Rattle.service_step.specs.Ends.{carried_by, is_destroyed, is_living, is_made, matched_message, owner, places, puts, returned_end, returns, to_owner, turns_outward}
use Rattle.service_step.specs.State.{State, Process, owner_cancels}
use Rattle.service_step.specs.Steps.{IsServiceStep, agree, may_return, tells_returned}
use Rattle.service_step.specs.declared.state.End.{End}
use Rattle.service_step.specs.declared.state.Message.{Message}
use Rattle.service_step.specs.declared.state.Outward.TheVariants as outward
use Rattle.service_step.specs.declared.state.Place.{Place}
use Rattle.service_step.specs.declared.state.Place.TheVariants as place
use Rattle.theorem_take_answer.proofs.Places.{fields-here, here-living}
use Rattle.theorem_take_answer.proofs.Allowed.{between, brings-different, takes-allowed}
use Rattle.theorem_take_answer.proofs.NamedAfter.{takes-names, takes-within}
use Rattle.theorem_take_answer.specs.Change.{Change, Changes, Happens}
use Rattle.theorem_take_answer.specs.Events.{taking}
use Rattle.theorem_take_answer.specs.Named.{NamesWithin}
use Rattle.theorem_take_answer.specs.Sums.{AllSent, IsWithin}
use Rattle.theorem_meaning.proofs.Ends.{eq-same, opposite-twice}
use Rattle.theorem_meaning.proofs.Goes.{Goes}
use Rattle.theorem_meaning.specs.Fields.{At, Flying}
use Rattle.theorem_meaning.specs.Invariant.{Invariant, IsBackRight}
use Rattle.theorem_meaning.specs.Packets.{links_of, one_if}
use Rattle.theorem_meaning.specs.StandsFor.{IsProcessOf, IsWaitingWith, home_of}
use Rattle.theorem_take_answer.proofs.Meets.{right-first, stands-first}
use Rattle.theorem_take_answer.proofs.World.{processes-kept, setting-after}
use Rattle.theorem_ends_destroyed.proofs.Clauses.{ended-right}
use Rattle.theorem_ends_destroyed.proofs.Facts.{among-same, not-true, or-true, true-or}
use Rattle.theorem_ends_destroyed.proofs.Placed.{ended-links}
use Rattle.theorem_ends_destroyed.specs.Ending.{IsEnded, IsEnding, IsSendAfter, IsToldOf, Kept, Returned}
use Rattle.theorem_take_answer.proofs.Sound.{takes-sound}
use Rattle.theorem_meaning.proofs.Plain.{destroyed-so, there-here}
use Rattle.theorem_take_back_unmet.proofs.Brought.{brought-away, brought-flies, brought-made, brought-of, values-coming}

-- an end of a made link that is not open is destroyed or knows of the death of its link
shut-gone : (y : End) → is_made y.place ≡ true → is_open y ≡ false → (is_destroyed y.place || y.noticed) ≡ true
shut-gone y made shut = by y.place y.noticed made shut
  where
    by : (z : Place) (b : Bool) → is_made z ≡ true → (is_living z && (if b then false else true)) ≡ false → (is_destroyed z || b) ≡ true
    by place.Destroyed b made shut = refl
    by place.Unmade b made shut = absurd (true≢false (sym made))
    by (place.Owned p) true made shut = refl
    by (place.Owned p) false made shut = absurd (true≢false shut)
    by (place.InMessage f n) true made shut = refl
    by (place.InMessage f n) false made shut = absurd (true≢false shut)

-- ---- the service

-- what a back at a destroyed end makes of each end
module _ (t : EndId → End) (f : EndId) (m : Message) (gone : (t f).place ≡ place.Destroyed) (matched : (t f).outward ≡ outward.Matched m) (living : (y : EndId) → among y m.carried ≡ true → is_living (t y).place ≡ true) where
  returns-is : returns f t ≡ places place.Destroyed m.carried (turns_outward outward.Idle f t)
  unfolding returns
  returns-is =
      ap (λ b. if b then places place.Destroyed xs (turns_outward outward.Idle f t) else to_owner (owner (t f).place) xs (puts f (returned_end (t f)) t)) (ap is_destroyed gone)
      ∙ ap (λ o. places place.Destroyed (carried_by (matched_message o)) (turns_outward outward.Idle f t)) matched
    where
      xs : List EndId
      xs = carried_by (matched_message (t f).outward)

  apart : among f m.carried ≡ false
  apart = not-true (among f m.carried) (λ has. true≢false (sym (living f has) ∙ ap (λ (z : Place). is_living z) gone))

  pub returned-its : returns f t f ≡ record (t f) { outward = outward.Idle }
  unfolding turns_outward
  returned-its = ap (λ g. g f) returns-is ∙ places-other place.Destroyed m.carried (turns_outward outward.Idle f t) f apart ∙ puts-at f (record (t f) { outward = outward.Idle }) t (ap is_made gone)

  pub returned-carried : (q : EndId) → end_eq f q ≡ false → among q m.carried ≡ true → returns f t q ≡ record (t q) { place = place.Destroyed }
  unfolding turns_outward
  returned-carried q off is =
      let was : turns_outward outward.Idle f t q ≡ t q = puts-other f (record (t f) { outward = outward.Idle }) t q (eq-same f q ∙ off) in
      ap (λ g. g q) returns-is
      ∙ places-among place.Destroyed m.carried (turns_outward outward.Idle f t) q refl is (ap (λ (y : End). is_made y.place) was ∙ living-made (t q).place (living q is))
      ∙ ap (λ (y : End). record y { place = place.Destroyed }) was

  pub returned-other : (q : EndId) → end_eq f q ≡ false → among q m.carried ≡ false → returns f t q ≡ t q
  unfolding turns_outward
  returned-other q off none =
      ap (λ g. g q) returns-is ∙ places-other place.Destroyed m.carried (turns_outward outward.Idle f t) q none ∙ puts-other f (record (t f) { outward = outward.Idle }) t q (eq-same f q ∙ off)

-- no process is told
nobody-told : (f : EndId) (x : End) (process : ℕ → Process) → x.place ≡ place.Destroyed → tells_returned (owner x.place) f x process ≡ process
nobody-told f x process gone = ap (λ (y : Place). tells_returned (owner y) f x process) gone ∙ by x.noticed
  where
    by : (b : Bool) → (if b then process else process) ≡ process
    by true = refl
    by false = refl

-- ---- the event

module _ (i : ℕ) (w : World) (s : State) (is : Invariant i w s) (k from stamp : ℕ) (f : EndId) (n : ℕ) (ms : List MovingPicture) (others : List Picture) (there : w.packets from k ≡ record { stamp = stamp; what = packet.Back f n ms } ∷ others)
    (dead : is_living (s.ends f).place ≡ false) where
  abbrev q : Picture
  q = record { stamp = stamp; what = packet.Back f n ms }

  abbrev t : EndId → Entry
  t = (w.kernel k).table

  abbrev ended : EndId → Bool
  ended e = list_any (end_eq e) (ends_in ms)

  has : Contains (w.packets from k) q
  has = stands-first is k from q others there

  right : IsBackRight (links_of w) s.ends k f n (ends_in ms)
  right = right-first is k from q others there

  near : (from < length s.made) × (k < length s.made)
  near = between is from k q has

  gone : (s.ends f).place ≡ place.Destroyed
  gone = destroyed-so (s.ends f).place (All-contains (λ o. is_made (s.ends (addressee o.what)).place ≡ true) (w.packets from k) q (is.links.named.addressees from k) has) dead

  matched : (s.ends f).outward ≡ outward.Matched right.matched.message
  matched = right.matched.matched

  -- what is destroyed is what the message carries
  carried-is : (e : EndId) → among e right.matched.message.carried ≡ ended e
  carried-is e = among-same e right.matched.message.carried ∙ ap (list_any (end_eq e)) right.matched.carries

  lived : (e : EndId) → ended e ≡ true → is_living (s.ends e).place ≡ true
  lived e on = (brought-flies is from k q has e on).living

  carried-living : (y : EndId) → among y right.matched.message.carried ≡ true → is_living (s.ends y).place ≡ true
  carried-living y is_one = lived y (sym (carried-is y) ∙ is_one)

  f-apart : ended f ≡ false
  f-apart = not-true (ended f) (λ on. true≢false (sym (lived f on) ∙ dead))

  -- ---- the effect

  not-here : is_here (t f) ≡ false
  not-here = by (t f) refl
    where
      by : (y : Entry) → t f ≡ y → is_here y ≡ false
      by (entry.Here v) at = absurd (true≢false (sym (here-living (length s.made) (links_of w) s.ends is.setting.few is.links.named is.links.marked is.stands.links.once f k v at) ∙ dead))
      by entry.Nothing at = refl
      by (entry.Left to hops) at = refl
      by (entry.Destroyed m) at = refl

  none-awaits : awaits n (t f) ≡ None
  none-awaits = by (awaits n (t f)) refl
    where
      by : (o : Option HereView) → awaits n (t f) ≡ o → awaits n (t f) ≡ None
      by None at = at
      by (Some v) at = absurd (true≢false (sym (ap is_here (awaits-here n (t f) v at).0) ∙ not-here))

  all-pass : passing k (w.kernel k).made t ms ≡ ms
  all-pass =
      passing-all k (w.kernel k).made t ms
      (values-coming k (w.kernel k).made t ms (λ e on. (brought-away is from k q has e on, brought-made is from k q has e on)) (brings-different is from k q has))

  abbrev effect : Effect
  effect = record (ends_arrivals k ms) { steps = step.Back f n false ∷ [] }

  effect-is : row_effect k (w.kernel k).made from t q.what ≡ effect
  effect-is =
      ap (back_effect k (w.kernel k).made t from f n ms) none-awaits
      ∙ ap (λ ps. record (ends_arrivals k ps) { steps = back_steps f n (is_here (t f)) ps }) all-pass
      ∙ ap (λ b. record (ends_arrivals k ms) { steps = back_steps f n b ms }) not-here

  any : Pid
  any = record { 0 = 0 }

  abbrev change : Change
  change = taking w k from q effect any [] []

  happened : Happens w (Takes k from) change
  happened = takes-allowed is k from q others there effect any [] [] effect-is tt tt refl refl

  abbrev v : World
  v = happens w (Takes k from)

  b : Changes (links_of w) change (links_of v)
  b = happened.becomes.links

  -- ---- what is destroyed

  are-ended : (e : EndId) → ended e ≡ true → IsEnded (links_of w) change e
  are-ended e on =
      let its = brought-of e ms on in
      let flies = brought-flies is from k q has e on in
      record {
        stand = Flying;
        fields = its.value;
        had = (record { from = from; to = k; packet = q; there = has; is = its.there }, its.of);
        at = inr refl;
        now = its.brought ended_entry stays (t e);
        stood = let away : one_if (is_here (t e)) ≡ 0 = ap one_if flies.away in omega (arith, away, flies.once);
      }

  -- none of these ends is here
  flying : (e : EndId) (j : ℕ) (P : HereView → Type 0) → ended e ≡ true → IsHereAnd ((w.kernel j).table e) P → ⊥
  flying e j P on here =
      let its = brought-of e ms on in
      let view = there-here ((w.kernel j).table e) P here in
      differ (fields-here (length s.made) (links_of w) s.ends is.setting.few is.links.named is.links.marked is.stands.links.once e j view.0 Flying its.value view.1 (record { from = from; to = k; packet = q; there = has; is = its.there }, its.of)).0
    where
      differ : Flying ≡ At j → ⊥
      differ same = cc

  told : AllSent (λ to what. IsToldOf ended what) (flat_map (gone_packets k) ms)
  told = each ms (λ e on. on)
    where
      gones : (m : MovingPicture) → ended m.end ≡ true → (d : Bool) → AllSent (λ to what. IsToldOf ended what) (if d then [] else (m.hint.0, packet.Gone (opposite m.end) k) ∷ [])
      gones m on true = tt
      gones m on false = (ap ended (opposite-twice m.end) ∙ on, tt)

      each : (ls : List MovingPicture) → ((e : EndId) → list_any (end_eq e) (ends_in ls) ≡ true → ended e ≡ true) → AllSent (λ to what. IsToldOf ended what) (flat_map (gone_packets k) ls)
      each [] ends = tt
      each (m ∷ ls) ends =
          all-append (λ z. IsToldOf ended z.1) (gone_packets k m) (flat_map (gone_packets k) ls) (gones m (ends m.end (true-or _ _ (end_eq-refl m.end))) m.dead)
          (each ls (λ e on. ends e (or-true _ _ on)))

  -- ---- the ends of the service

  abbrev after : EndId → End
  after = returns f s.ends

  after-is : (e : EndId) → after e ≡ record (s.ends e) { place = if ended e then place.Destroyed else (s.ends e).place; outward = if end_eq f e then outward.Idle else (s.ends e).outward }
  after-is e = by (end_eq f e) refl (ended e) refl
    where
      turned : (b d : Bool) → end_eq f e ≡ b → ended e ≡ d → record (s.ends e) { place = if ended e then place.Destroyed else (s.ends e).place; outward = if end_eq f e then outward.Idle else (s.ends e).outward }
          ≡ record (s.ends e) { place = if d then place.Destroyed else (s.ends e).place; outward = if b then outward.Idle else (s.ends e).outward }
      turned b d first second =
          ap (λ z. record (s.ends e) { place = if ended e then place.Destroyed else (s.ends e).place; outward = if z then outward.Idle else (s.ends e).outward }) first
          ∙ ap (λ z. record (s.ends e) { place = if z then place.Destroyed else (s.ends e).place; outward = if b then outward.Idle else (s.ends e).outward }) second

      by : (b : Bool) → end_eq f e ≡ b → (d : Bool) → ended e ≡ d → after e ≡ record (s.ends e) { place = if ended e then place.Destroyed else (s.ends e).place; outward = if end_eq f e then outward.Idle else (s.ends e).outward }
      by true same true on = absurd (true≢false (sym on ∙ subst (λ z. ended z ≡ false) (end_eq-same f e same) f-apart))
      by true same false off =
          subst (λ z. after z ≡ record (s.ends z) { outward = outward.Idle }) (end_eq-same f e same) (returned-its s.ends f right.matched.message gone matched carried-living) ∙ sym (turned true false same off)
      by false apart true on = returned-carried s.ends f right.matched.message gone matched carried-living e apart (carried-is e ∙ on) ∙ sym (turned false true apart on)
      by false apart false off = returned-other s.ends f right.matched.message gone matched carried-living e apart (carried-is e ∙ off) ∙ sym (turned false false apart off)

  send-after : (e : EndId) → IsSendAfter (s.ends e) (after e) (one_if (end_eq e f))
  send-after e = by (end_eq f e) refl
    where
      outward-is : (after e).outward ≡ (if end_eq f e then outward.Idle else (s.ends e).outward)
      outward-is = ap (λ (y : End). y.outward) (after-is e)

      its : IsSendAfter (s.ends f) (after f) (one_if (end_eq f f))
      its =
          Returned right.matched.message matched (ap (λ (y : End). y.outward) (returned-its s.ends f right.matched.message gone matched carried-living))
          (ap (λ (y : End). is_living y.place) (returned-its s.ends f right.matched.message gone matched carried-living) ∙ dead) (ap one_if (end_eq-refl f))

      by : (d : Bool) → end_eq f e ≡ d → IsSendAfter (s.ends e) (after e) (one_if (end_eq e f))
      by true same = subst (λ z. IsSendAfter (s.ends z) (after z) (one_if (end_eq z f))) (end_eq-same f e same) its
      by false apart = Kept (outward-is ∙ ap (λ d. if d then outward.Idle else (s.ends e).outward) apart) (ap one_if (end_eq-sym e f ∙ apart))

  ending : IsEnding ended (links_of w) change s after s.process
  ending =
      record {
        are = are-ended;
        others = λ e off. brings-others ms ended_entry stays e (t e) off;
        taken = λ e off. off;
        sent = told;
        place = λ e. ap (λ (y : End). y.place) (after-is e);
        rest = λ e. after-is e ∙ sym (ap (λ (y : End). record (s.ends e) { place = y.place; outward = y.outward }) (after-is e));
        send = send-after;
        cancelling = λ p e. (λ cancels. cancels, λ cancels. cancels);
        enclosed = λ e g m on y. absurd (flying g y.at (λ x. IsWaitingWith m x.outward) on y.waiting);
        calm = λ e j on here. flying e j (λ x. is_withdrawing x.inward ≡ true) on here;
      }

  -- ---- the step

  may : may_return s f n false ≡ true
  may =
      λ j. (is_some (matched_message (matched j)) && (eq-eqb (s.ends f).sent n right.matched.number j))
      && shut-gone (s.ends (opposite f)) other-made right.untaken j
      && (is_destroyed (gone j) || is_some (owner (gone j)))
      && agree false (nobody j)
    where
      other-made : is_made (s.ends (opposite f)).place ≡ true
      other-made = is.service.kept.made (opposite f) ∙ sym (is.service.kept.made f) ∙ ap (λ (y : Place). is_made y) gone

      nobody : (not (s.ends f).noticed && owner_cancels (owner (s.ends f).place) f s.process) ≡ false
      nobody = ap (λ (y : Place). not (s.ends f).noticed && owner_cancels (owner y) f s.process) gone ∙ by (s.ends f).noticed
        where
          by : (d : Bool) → (not d && false) ≡ false
          by true = refl
          by false = refl

  abbrev next : State
  next = record s { ends = after; process = s.process }

  stepped : IsServiceStep s (step.Back f n false) next
  stepped = record { allowed = may; after = ap (λ g. record s { ends = after; process = g }) (sym (nobody-told f (s.ends f) s.process gone)) }

  -- ---- the world

  names : NamesWithin (length s.made) effect
  names = takes-names is k from q others there effect effect-is

  within : IsWithin 8 change
  within = takes-within is k from q others there effect any [] [] names

  sound : IsSound k (w.kernel k).made (length s.homes) (v.kernel k).table
  sound =
      takes-sound k (w.kernel k).made (length s.homes) t (is.setting.sound k) from q.what (brings-different is from k q has) (v.kernel k).table
      (λ e. b.entry e ∙ ap (λ (g : Effect). g.entry e (t e)) (sym effect-is))

  dropped-invariant : Invariant (i + 1) v next
  dropped-invariant =
      record {
        stands =
            record {
              processes = λ p below. subst (λ o. IsProcessOf o (s.process p.0)) (sym (processes-kept happened.becomes s after s.process refl p.0 (home_of s p))) (is.stands.processes p below);
              links = ended-links b ending (length s.made) is.setting.few is.links.named is.links.marked within is.stands.links;
            };
        service = consistent_after s (step.Back f n false) next is.service stepped;
        setting = setting-after happened.becomes s after s.process refl sound is.setting;
        links = ended-right b ending i is.setting.few near.1 within names.entries names.sent is.service.kept is.stands.links is.links;
        waiting = is.waiting;
      }

  -- the service goes with it by the step back
  pub back-dropped-goes : Goes i w s (Takes k from)
  back-dropped-goes = record { part = (step.Back f n false, next) ∷ []; steps = sym happened.steps; run = (stepped, tt); after = dropped-invariant; homes = refl }
