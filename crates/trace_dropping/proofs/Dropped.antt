-- A back comes to an end that is destroyed, and so are the ends that it carries: all that is true of the traces of ends stays.
use Rattle.std.proofs.Common.{◌≡◌, ◌⊎◌, inl, inr, ℕ, ◌+◌, ◌<◌, Bool, true, false, true≢false, if◌then◌else◌, List, [], ◌∷◌, length, Contains, Some, None, refl, sym, ap, subst, ◌∙◌, arith}
use Rattle.std.proofs.lemmas.List.Elements.{All-contains}
use Rattle.std.specs.List.{AllByRecursion, flat_map, list_any}
use Rattle.charlotte_calls.specs.Names.{opposite}
use Rattle.charlotte_calls.specs.declared.calls.ServiceStep.{ServiceStep}
use Rattle.charlotte_calls.specs.declared.names.EndId.{EndId}
use Rattle.charlotte_calls.specs.declared.names.Pid.{Pid}
use Rattle.charlotte_packets.specs.declared.picture.MovingPicture.{MovingPicture}
use Rattle.charlotte_packets.specs.declared.picture.Picture.{Picture}
use Rattle.charlotte_packets.specs.declared.picture.PictureWhat.{PictureWhat}
use Rattle.charlotte_packets.specs.declared.picture.PictureWhat.TheVariants as packet
use Rattle.end_table.proofs.EndEq.{end_eq-refl, end_eq-same, end_eq-sym}
use Rattle.end_table.specs.Entries.{ended_entry}
use Rattle.end_table.specs.Place.{end_eq}
use Rattle.end_table.specs.Table.{IsHere, IsHereAnd}
use Rattle.end_table.specs.declared.entry.Entry.{Entry}
use Rattle.end_table.specs.declared.entry.Entry.TheVariants as entry
use Rattle.end_table.specs.declared.entry.HereView.{HereView}
use Rattle.kernel_effects.proofs.Uses.{all-flat_map}
use Rattle.kernel_effects.specs.Actions.{ends_arrivals, gone_packets}
use Rattle.kernel_effects.specs.Effect.{Effect, brings, stays}
use Rattle.kernel_sound.specs.Sound.{addressee}
use Rattle.kernel_step.proofs.Folds.{AreDifferent}
use Rattle.kernel_step.specs.Actions.{is_withdrawing}
use Rattle.kernel_step.specs.Rows.{ends_in, is_here}
use Rattle.kernel_world.specs.World.{Takes, World, happens}
use Rattle.service_change.proofs.EndEq.{among}
use Rattle.service_step.specs.Ends.{is_living, is_made, returns}
use Rattle.service_step.specs.State.{State}
use Rattle.service_step.specs.declared.state.End.{End}
use Rattle.service_step.specs.declared.state.Outward.TheVariants as outward
use Rattle.service_step.specs.declared.state.Place.TheVariants as place
use Rattle.theorem_effects.proofs.Lists.{first}
use Rattle.theorem_effects.specs.Change.{Change, Changes, Happens}
use Rattle.theorem_effects.specs.Events.{taking}
use Rattle.theorem_effects.specs.Sums.{AllSent}
use Rattle.trace_landing.proofs.Among.{among-told, brings-case, told-among}
use Rattle.trace_landing.proofs.Comes.{values-differ}
use Rattle.trace_landing.proofs.Coming.{flies, never-here, not-here, one-value}
use Rattle.trace_landing.proofs.Values.{each-there}
use Rattle.trace_landing.specs.Arrived.{IsAmong, IsLaden}
use Rattle.theorem_ends_destroyed.specs.Ending.{IsEnded, IsEnding, IsSendAfter, IsToldOf, Kept, Returned}
use Rattle.theorem_ends_destroyed.proofs.Facts.{among-same}
use Rattle.theorem_meaning.proofs.Ends.{opposite-twice}
use Rattle.theorem_meaning.proofs.Plain.{destroyed-so}
use Rattle.theorem_meaning.specs.Fields.{At, Flying, HasFields, Stand}
use Rattle.theorem_meaning.specs.Invariant.{Invariant, IsBackRight}
use Rattle.theorem_meaning.specs.Packets.{Links, links_of, one_if, values_for}
use Rattle.theorem_meaning.specs.StandsFor.{IsWaitingWith, entry_at}
use Rattle.theorem_take_answer.proofs.Meets.{right-first, stands-first}
use Rattle.theorem_take_back_unmet.proofs.Dropped.{returned-carried, returned-its, returned-other}
use Rattle.trace_ending.proofs.Known.{contains-flat_map}
use Rattle.trace_ending.specs.Calm.{AreAsOpen}
use Rattle.trace_ending.proofs.Ending.{ending-traced}
use Rattle.trace_ending.specs.Telling.{AreTold, IsGoneAt, IsTold}
use Rattle.trace_landing.proofs.Carried.{are-carried}
use Rattle.trace_landing.specs.Landing.{AreCarried}
use Rattle.trace_meaning.specs.Traces.{AreTraced}

module _ (i : ℕ) (w : World) (s : State) (is : Invariant i w s) (k from stamp : ℕ) (f : EndId) (n : ℕ) (ms : List MovingPicture) (others : List Picture) (there : w.packets from k ≡ record { stamp = stamp; what = packet.Back f n ms } ∷ others)
    (dead : is_living (s.ends f).place ≡ false) (steps : List ServiceStep)
    (happened : Happens w (Takes k from) (taking w k from (record { stamp = stamp; what = packet.Back f n ms }) (record (ends_arrivals k ms) { steps = steps }) (record { 0 = 0 }) [] [])) (traced : AreTraced (links_of w) s.ends) where
  abbrev l : Links
  l = links_of w

  abbrev q : Picture
  q = record { stamp = stamp; what = packet.Back f n ms }

  abbrev any : Pid
  any = record { 0 = 0 }

  abbrev effect : Effect
  effect = record (ends_arrivals k ms) { steps = steps }

  abbrev c : Change
  c = taking w k from q effect any [] []

  abbrev u : Links
  u = links_of (happens w (Takes k from))

  abbrev b : Changes l c u
  b = happened.becomes.links

  abbrev table : EndId → Entry
  table = (w.kernel k).table

  abbrev ended : EndId → Bool
  ended e = list_any (end_eq e) (ends_in ms)

  -- the ends of the service then
  abbrev pub dropped : EndId → End
  dropped e = record (s.ends e) { place = if list_any (end_eq e) (ends_in ms) then place.Destroyed else (s.ends e).place; outward = if end_eq f e then outward.Idle else (s.ends e).outward }

  ready : IsLaden i b from q s f
  ready = record { taken = refl; right = is.links; links = is.stands.links; kept = is.service; few = is.setting.few; carries = end_eq-refl f }

  different : AreDifferent (ends_in ms)
  different = values-differ is k from q others there f (end_eq-refl f) any

  carried : AreCarried l s.ends ms
  carried = are-carried ready different

  right : IsBackRight l s.ends k f n (ends_in ms)
  right = right-first is k from q others there

  -- the end that the back is for is not one of them
  f-apart : ended f ≡ false
  f-apart = by (ended f) refl
    where
      by : (a : Bool) → ended f ≡ a → a ≡ false
      by false is_so = refl
      by true on = absurd (true≢false (sym (carried.lives f (told-among ms f on)) ∙ dead))

  -- ---- what is destroyed

  away : (e : EndId) → IsAmong ms e → (y : Entry) → table e ≡ y → is_here y ≡ false
  away e a (entry.Here v) at_k = absurd (not-here ready any e a k v at_k)
  away e a entry.Nothing at_k = refl
  away e a (entry.Left to hops) at_k = refl
  away e a (entry.Destroyed m) at_k = refl

  are-ended : (e : EndId) → ended e ≡ true → IsEnded l c e
  are-ended e on = by (brings-case ms ended_entry e (table e))
    where
      by : ((list_any (end_eq e) (ends_in ms) ≡ false) × (brings ms ended_entry stays e (table e) ≡ table e)) ⊎ ((a : IsAmong ms e) × (brings ms ended_entry stays e (table e) ≡ ended_entry a.value)) → IsEnded l c e
      by (inl none) = absurd (true≢false (sym on ∙ none.0))
      by (inr came) =
          let none : one_if (is_here (table e)) ≡ 0 = ap one_if (away e came.0 (table e) refl) in
          let one : values_for e ms ≡ 1 = one-value ready any e came.0 in
          record { stand = Flying; fields = came.0.value; had = flies ready any e came.0; at = inr refl; now = came.1; stood = omega (arith, none, one) }

  kept : (e : EndId) → ended e ≡ false → brings ms ended_entry stays e (table e) ≡ table e
  kept e off = by (brings-case ms ended_entry e (table e))
    where
      by : ((list_any (end_eq e) (ends_in ms) ≡ false) × (brings ms ended_entry stays e (table e) ≡ table e)) ⊎ ((a : IsAmong ms e) × (brings ms ended_entry stays e (table e) ≡ ended_entry a.value)) → brings ms ended_entry stays e (table e) ≡ table e
      by (inl same) = same.1
      by (inr came) = absurd (true≢false (sym (among-told ms e came.0) ∙ off))

  each-gone : (P : ℕ × PictureWhat → Type 0) → ((m : MovingPicture) → Contains ms m → P (m.hint.0, packet.Gone (opposite m.end) k)) → AllByRecursion P (flat_map (gone_packets k) ms)
  each-gone P is_so = all-flat_map P (gone_packets k) ms (each-there (λ m. AllByRecursion P (gone_packets k m)) ms (λ m has. by m has m.dead))
    where
      by : (m : MovingPicture) → Contains ms m → (d : Bool) → AllByRecursion P (if d then [] else (m.hint.0, packet.Gone (opposite m.end) k) ∷ [])
      by m has true = tt
      by m has false = (is_so m has, tt)

  send : (e : EndId) → IsSendAfter (s.ends e) (dropped e) (one_if (end_eq e f))
  send e = by (end_eq f e) refl
    where
      its : IsSendAfter (s.ends f) (dropped f) (one_if (end_eq f f))
      its =
          Returned right.matched.message right.matched.matched (ap (λ a. if a then outward.Idle else (s.ends f).outward) (end_eq-refl f))
          (ap (λ a. is_living (if a then place.Destroyed else (s.ends f).place)) f-apart ∙ dead) (ap one_if (end_eq-refl f))

      by : (d : Bool) → end_eq f e ≡ d → IsSendAfter (s.ends e) (dropped e) (one_if (end_eq e f))
      by true same = subst (λ z. IsSendAfter (s.ends z) (dropped z) (one_if (end_eq z f))) (end_eq-same f e same) its
      by false apart = Kept (ap (λ d. if d then outward.Idle else (s.ends e).outward) apart) (ap one_if (end_eq-sym e f ∙ apart))

  ending : IsEnding ended l c s dropped s.process
  ending =
      record {
        are = are-ended;
        others = kept;
        taken = λ e off. off;
        sent = each-gone (λ z. IsToldOf ended z.1) (λ m has. among-told ms (opposite (opposite m.end)) (record { value = m; there = has; of = sym (opposite-twice m.end) }));
        place = λ e. refl;
        rest = λ e. refl;
        send = send;
        cancelling = λ p e. (λ cancels. cancels, λ cancels. cancels);
        enclosed = λ e g m on y. absurd (never-here ready any g (told-among ms g on) y.at (λ x. IsWaitingWith m x.outward) y.waiting);
        calm = λ e j on here. never-here ready any e (told-among ms e on) j (λ x. is_withdrawing x.inward ≡ true) here;
      }

  -- and each tells so
  told-one : (e : EndId) (on : ended e ≡ true) (a : IsAmong ms e) → IsTold l c s.ends e (ending.are e on).fields
  told-one e on a =
      record {
        lives = carried.lives e a;
        alone = λ st m has. let z = carried.alone e a st m has in (inr z.0, z.1 ∙ sym same);
        gone = λ free. subst (λ (m : MovingPicture). Contains c.packets (m.hint.0, packet.Gone (opposite e) k)) (sym same) (there-so (sym (ap (λ (m : MovingPicture). m.dead) same) ∙ free));
      }
    where
      same : (ending.are e on).fields ≡ a.value
      same = (carried.alone e a (ending.are e on).stand (ending.are e on).fields (ending.are e on).had).1

      there-so : a.value.dead ≡ false → Contains {X = ℕ × PictureWhat} (flat_map (gone_packets k) ms) (a.value.hint.0, packet.Gone (opposite e) k)
      there-so free =
          contains-flat_map (gone_packets k) ms a.value (a.value.hint.0, packet.Gone (opposite e) k) a.there
          (subst (λ d. Contains {X = ℕ × PictureWhat} (if d then [] else (a.value.hint.0, packet.Gone (opposite a.value.end) k) ∷ []) (a.value.hint.0, packet.Gone (opposite e) k)) (sym free)
          (subst (λ z. Contains {X = ℕ × PictureWhat} ((a.value.hint.0, packet.Gone (opposite a.value.end) k) ∷ []) (a.value.hint.0, packet.Gone (opposite z) k)) a.of
          (first {X = ℕ × PictureWhat} (a.value.hint.0, packet.Gone (opposite a.value.end) k) [])))

  told : AreTold ending
  told = record { sent = each-gone (λ z. IsGoneAt k z.1) (λ m has. refl); each = λ e on. told-one e on (told-among ms e on) }

  pub dropped-traced : AreTraced (links_of (happens w (Takes k from))) dropped
  dropped-traced = ending-traced b ending told i is.setting.few is.links is.stands.links.once is.service.noticed.opposite traced

  -- ---- and so the service has them

  gone : (s.ends f).place ≡ place.Destroyed
  gone = destroyed-so (s.ends f).place (All-contains (λ o. is_made (s.ends (addressee o.what)).place ≡ true) (w.packets from k) q (is.links.named.addressees from k) (stands-first is k from q others there)) dead

  carried-is : (e : EndId) → among e right.matched.message.carried ≡ ended e
  carried-is e = among-same e right.matched.message.carried ∙ ap (list_any (end_eq e)) right.matched.carries

  carried-living : (y : EndId) → among y right.matched.message.carried ≡ true → is_living (s.ends y).place ≡ true
  carried-living y is_one = carried.lives y (told-among ms y (sym (carried-is y) ∙ is_one))

  returned : (e : EndId) → ((returns f s.ends e).place ≡ (if ended e then place.Destroyed else (s.ends e).place)) × ((returns f s.ends e).noticed ≡ (s.ends e).noticed)
  returned e = by (end_eq f e) refl (ended e) refl
    where
      its : ((returns f s.ends f).place ≡ (if ended f then place.Destroyed else (s.ends f).place)) × ((returns f s.ends f).noticed ≡ (s.ends f).noticed)
      its =
          let same = returned-its s.ends f right.matched.message gone right.matched.matched carried-living in
          (ap (λ (z : End). z.place) same ∙ sym (ap (λ a. if a then place.Destroyed else (s.ends f).place) f-apart), ap (λ (z : End). z.noticed) same)

      by : (a : Bool) → end_eq f e ≡ a → (d : Bool) → ended e ≡ d → ((returns f s.ends e).place ≡ (if ended e then place.Destroyed else (s.ends e).place)) × ((returns f s.ends e).noticed ≡ (s.ends e).noticed)
      by true same d on = subst (λ z. ((returns f s.ends z).place ≡ (if ended z then place.Destroyed else (s.ends z).place)) × ((returns f s.ends z).noticed ≡ (s.ends z).noticed)) (end_eq-same f e same) its
      by false apart true on =
          let same = returned-carried s.ends f right.matched.message gone right.matched.matched carried-living e apart (carried-is e ∙ on) in
          (ap (λ (z : End). z.place) same ∙ sym (ap (λ a. if a then place.Destroyed else (s.ends e).place) on), ap (λ (z : End). z.noticed) same)
      by false apart false off =
          let same = returned-other s.ends f right.matched.message gone right.matched.matched carried-living e apart (carried-is e ∙ off) in
          (ap (λ (z : End). z.place) same ∙ sym (ap (λ a. if a then place.Destroyed else (s.ends e).place) off), ap (λ (z : End). z.noticed) same)

  pub returns-dropped : AreAsOpen dropped (returns f s.ends)
  returns-dropped = record { living = λ e. ap (λ z. is_living z) (returned e).0; noticed = λ e. (returned e).1; destroyed = λ e fell. (returned e).0 ∙ fell }
