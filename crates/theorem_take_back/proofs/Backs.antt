-- A back is taken at its send: the ends that came are its owner's again, the send is over, and where the death of the link was not known at
-- the end, it is noticed.
use Rattle.std.proofs.Common.{◌≡◌, inl, ℕ, ◌+◌, ◌<◌, Bool, true, false, nat_eq, ◌&&◌, if◌then◌else◌, List, [], ◌∷◌, ◌++◌, length, Contains, Some, refl, sym, ap, subst, ◌∙◌, true≢false, eq-eqb}
use Rattle.std.proofs.lemmas.List.Elements.{All-contains}
use Rattle.std.specs.List.{flat_map, list_any}
use Rattle.charlotte_calls.specs.Names.{opposite}
use Rattle.charlotte_packets.specs.Packets.{is_addressed}
use Rattle.charlotte_calls.specs.declared.calls.Answer.{Answer}
use Rattle.charlotte_calls.specs.declared.calls.Report.{Report}
use Rattle.charlotte_calls.specs.declared.calls.ServiceStep.TheVariants as step
use Rattle.charlotte_calls.specs.declared.names.EndId.{EndId}
use Rattle.charlotte_calls.specs.declared.names.Pid.{Pid}
use Rattle.charlotte_packets.specs.declared.picture.MovingPicture.{MovingPicture}
use Rattle.charlotte_packets.specs.declared.picture.Picture.{Picture}
use Rattle.charlotte_packets.specs.declared.picture.PictureWhat.{PictureWhat}
use Rattle.charlotte_packets.specs.declared.picture.PictureWhat.TheVariants as packet
use Rattle.end_table.proofs.EndEq.{end_eq-refl, end_eq-same}
use Rattle.end_table.specs.Entries.{settled}
use Rattle.end_table.specs.Place.{end_eq}
use Rattle.end_table.specs.Table.{IfHere, IsHere, IsHereAnd, IsIdle, IsOfEnd}
use Rattle.end_table.specs.declared.entry.Entry.{Entry}
use Rattle.end_table.specs.declared.entry.Entry.TheVariants as entry
use Rattle.end_table.specs.declared.entry.HereView.{HereView}
use Rattle.end_table.specs.declared.entry.Holder.TheVariants as holder
use Rattle.end_table.specs.declared.entry.Outward.TheVariants as kernel_outward
use Rattle.kernel_effects.proofs.Folds.{brings-others}
use Rattle.kernel_effects.specs.Actions.{arrival_packets}
use Rattle.kernel_effects.specs.Effect.{Effect, brings, for_holder, puts, stays}
use Rattle.kernel_effects.specs.Rows.{row_effect}
use Rattle.kernel_outcomes.specs.Closing.{AtMostOne}
use Rattle.kernel_sound.proofs.Put.{IsViewAfter}
use Rattle.kernel_sound.proofs.Values.{AreComing}
use Rattle.kernel_sound.specs.Sound.{IsHeldWell, IsSound}
use Rattle.kernel_step.proofs.Folds.{AreDifferent}
use Rattle.kernel_step.specs.Rows.{ends_in}
use Rattle.kernel_world.specs.World.{Takes, World}
use Rattle.service_lawful.specs.Consistent.{IsConsistent, is_open}
use Rattle.service_step.specs.Ends.{is_living, is_made}
use Rattle.service_step.specs.State.{Process, State}
use Rattle.service_step.specs.declared.state.End.{End}
use Rattle.service_step.specs.declared.state.Message.{Message}
use Rattle.service_step.specs.declared.state.Outward.TheVariants as outward
use Rattle.service_step.specs.declared.state.Place.{Place}
use Rattle.service_step.specs.declared.state.Place.TheVariants as place
use Rattle.theorem_take_want.proofs.Allowed.{are-oldest, between, takes-allowed}
use Rattle.theorem_take_want.proofs.Ends.{all_sent-weaker}
use Rattle.theorem_take_want.specs.Change.{Change, Changes, Happens}
use Rattle.theorem_take_want.specs.Events.{taking}
use Rattle.theorem_take_want.specs.Sums.{AllSent}
use Rattle.theorem_meaning.proofs.Ends.{opposite-twice}
use Rattle.theorem_meaning.specs.Invariant.{AreRight, Invariant, IsBackRight, is_message_of}
use Rattle.theorem_meaning.specs.Packets.{Links, links_of}
use Rattle.theorem_meaning.specs.StandsFor.{AreLinksOf}
use Rattle.theorem_take_want.proofs.Alike.{IsQuietly-same, some-same}
use Rattle.theorem_take_want.proofs.Clauses.{links-still}
use Rattle.theorem_take_want.proofs.Passing.{passing-right}
use Rattle.theorem_take_want.specs.Quiet.{IsPassed, IsPassing, IsQuiet, IsSentWell, tells_place}
use Rattle.theorem_ends_arrived.proofs.Freed.{put-table-sound}
use Rattle.theorem_ends_arrived.proofs.Meets.{IsOwnedAt, right-first, stands-first}
use Rattle.theorem_ends_arrived.proofs.Swap.{swapped-changes}
use Rattle.theorem_take_want.proofs.Parts as parts
use Rattle.theorem_ends_arrived.specs.Arrived.{IsAmong, IsLaden, IsTrueMove, settles, without_values}
use Rattle.theorem_ends_arrived.proofs.Among.{among-contains, among-told, contains-among, told-among}
use Rattle.theorem_ends_arrived.proofs.Closes.{quietly, untold, untold-changes}
use Rattle.theorem_ends_arrived.proofs.Comes.{values-come, values-differ}
use Rattle.theorem_ends_arrived.proofs.Coming.{entry-came, here-landed, inside, landed, never-here, owners, owners-came, owners-other, owners-sender}
use Rattle.theorem_ends_arrived.proofs.Landed.{landed-links, landed-right, named-value}
use Rattle.theorem_ends_arrived.proofs.Moves.{moves-links, moves-right}
use Rattle.theorem_ends_arrived.proofs.Values.{arrivals-true, same-value, settles-sound}
use Rattle.theorem_meaning.proofs.Plain.{there-here}
use Rattle.theorem_take_back.specs.Returned.{IsReturned, IsTakingBack, over_view, taking_back}
use Rattle.theorem_take_back.proofs.Returned.{returned-links, returned-right}
use Rattle.theorem_take_back.proofs.Returns.{back, back-came, back-other}

-- the end is at its kernel with view x, among these entries, of this state of the service, as the ends that came come to be here; after is
-- the state of the service when the send is over
pub record IsBase (i : ℕ) (w : World) (s : State) (k : ℕ) (to : EndId) (n : ℕ) (v : HereView) (after : State) (x : HereView) (y : ℕ → EndId → Entry) (t : EndId → End) (g : ℕ → Process) : Type 0 where
  pub own : (e : EndId) → y k e ≡ (if end_eq to e then entry.Here x else (w.kernel k).table e)
  pub far : (j : ℕ) (e : EndId) → nat_eq j k ≡ false → y j e ≡ (w.kernel j).table e
  pub right : AreRight i (record { entry = y; packets = w.packets }) (record s { ends = t; process = g })
  pub links : AreLinksOf (record { entry = y; packets = w.packets }) (record s { ends = t; process = g })
  pub kept : IsConsistent (record s { ends = t; process = g })
  pub same : (e : EndId) → end_eq to e ≡ false → t e ≡ s.ends e
  pub ends : after.ends to ≡ record (t to) { outward = outward.Unreported }
  pub phases : (b : ℕ) → (after.process b).phase ≡ (g b).phase
  pub waits : x.outward ≡ kernel_outward.Matched n
  pub view : IsViewAfter v (over_view x)
  pub service : IsConsistent after

-- what the taking does, where these packets go before those of the ends that came
abbrev pub back_does : ℕ → EndId → ℕ → Pid → List MovingPicture → HereView → List (ℕ × PictureWhat) → List Report → List Answer → Bool → Effect
back_does k to n p ms x extra rs given dead =
    record {
      entry = puts to (entry.Here (over_view x)) (brings ms (λ m. entry.Here (settled (holder.Owner p) m)) stays);
      packets = extra ++ flat_map (arrival_packets k) ms;
      reports = for_holder (holder.Owner p) rs;
      answers = for_holder (holder.Owner p) given;
      steps = step.Back to n dead ∷ [];
    }

module _ (i : ℕ) (w : World) (s : State) (is : Invariant i w s) (k from stamp : ℕ) (to : EndId) (n : ℕ) (ms : List MovingPicture) (others : List Picture) (there : w.packets from k ≡ record { stamp = stamp; what = packet.Back to n ms } ∷ others)
    (o : IsOwnedAt w s k to) (waits : o.view.outward ≡ kernel_outward.Matched n) where
  abbrev q : Picture
  q = record { stamp = stamp; what = packet.Back to n ms }

  abbrev v : HereView
  v = o.view

  abbrev p : Pid
  p = o.p

  abbrev table : EndId → Entry
  table = (w.kernel k).table

  abbrev made : ℕ
  made = (w.kernel k).made

  pub right : IsBackRight (links_of w) s.ends k to n (ends_in ms)
  right = right-first is k from q others there

  pub stood : Contains (w.packets from k) q
  stood = stands-first is k from q others there

  pub view-end : v.value.end ≡ to
  view-end = subst (IsOfEnd to) o.here ((is.setting.sound k).own to)

  carries : is_message_of to q.what ≡ true
  carries = end_eq-refl to

  pub below-home : p.0 < length s.homes
  below-home = subst (IsHeldWell (length s.homes) v) o.holder (subst (λ z. IfHere z (λ v. IsHeldWell (length s.homes) v v.holder)) o.here ((is.setting.sound k).held to))

  pub near : (from < length s.made) × (k < length s.made)
  near = between is from k q stood

  busy : IsIdle v → ⊥
  busy idle = let both : kernel_outward.Idle ≡ kernel_outward.Matched n = sym idle.outward ∙ waits in cc

  -- its opposite is destroyed
  pub gone : (s.ends (opposite to)).place ≡ place.Destroyed
  gone = by (s.ends (opposite to)).place refl
    where
      closed : is_living (s.ends (opposite to)).place ≡ true → ⊥
      closed lives = other (s.ends (opposite to)).noticed refl
        where
          other : (b : Bool) → (s.ends (opposite to)).noticed ≡ b → ⊥
          other true noticed =
              let dead : (s.ends to).place ≡ place.Destroyed = ap (λ z. (s.ends z).place) (sym (opposite-twice to)) ∙ is.service.noticed.opposite (opposite to) noticed in
              let both : place.Owned p ≡ place.Destroyed = sym o.owned ∙ dead in
              cc
          other false alive =
              let opens : is_open (s.ends (opposite to)) ≡ true = ap (λ z. z && (if (s.ends (opposite to)).noticed then false else true)) lives ∙ ap (λ z. if z then false else true) alive in
              true≢false (sym opens ∙ right.untaken)

      by : (x : Place) → (s.ends (opposite to)).place ≡ x → (s.ends (opposite to)).place ≡ place.Destroyed
      by (place.Owned b) at = absurd (closed (ap (λ z. is_living z) at))
      by (place.InMessage f m) at = absurd (closed (ap (λ z. is_living z) at))
      by place.Destroyed at = at
      by place.Unmade at =
          absurd (true≢false (sym (is.service.kept.made (opposite to) ∙ sym (is.service.kept.made to) ∙ ap (λ z. is_made z) o.owned) ∙ ap (λ z. is_made z) at))

  abbrev message : Message
  message = right.matched.message

  abbrev pub next : State
  next = back s to n p message right.matched.matched o.owned

  -- ---- the ends that come

  different : AreDifferent (ends_in ms)
  different = values-differ is k from q others there to carries p

  pub coming : AreComing k made table ms
  coming = values-come is k from q others there to carries p

  -- ---- the links at which the ends come, where the end has this view, of this state of the service; then these packets are sent

  module _ {x : HereView} {y : ℕ → EndId → Entry} {t : EndId → End} {g : ℕ → Process} (at : IsBase i w s k to n v next x y t g) (extra : List (ℕ × PictureWhat)) (extra-well : AllSent (IsSentWell (length s.made) next.ends) extra)
      (plain : AllSent (λ to what. tells_place what ≡ false) extra) (rs : List Report) (given : List Answer) (dead : Bool) where
    abbrev does : Effect
    does = back_does k to n p ms x extra rs given dead

    module _ (effect : row_effect k made from table q.what ≡ does) (one : AtMostOne given) where
      pub happened : Happens w (Takes k from) (taking w k from q does p given rs)
      happened = takes-allowed is k from q others there does p given rs effect one (are-oldest is k p rs below-home o.home) refl refl

      abbrev m : Links
      m = untold i w s is k from q does p given rs happened

      b0 : Changes (links_of w) (quietly i w s is k from q does p given rs happened) m
      b0 = untold-changes i w s is k from q does p given rs happened

      abbrev base : Links
      base = record { entry = y; packets = w.packets }

      abbrev s0 : State
      s0 = record s { ends = t; process = g }

      abbrev c0 : Change
      c0 = record (quietly i w s is k from q does p given rs happened) { entry = λ e z. m.entry k e }

      b-base : Changes base c0 m
      b-base = record { entry = λ e. refl; others = λ j e apart. b0.others j e apart ∙ sym (at.far j e apart); left = b0.left; before = b0.before; after = b0.after }

      -- ---- the ends come to be here

      ready : IsLaden i b-base from q s0 to
      ready = record { taken = refl; right = at.right; links = at.links; kept = at.kept; few = is.setting.few; carries = carries }

      abbrev x1 : Links
      x1 = landed ready p

      abbrev s1 : State
      s1 = record s0 { ends = owners ready p }

      abbrev y1 : EndId → Entry
      y1 = settles p ms (y k)

      abbrev f : EndId → Entry → Entry
      f = puts to (entry.Here (over_view x)) stays

      own-at : y k to ≡ entry.Here x
      own-at = at.own to ∙ ap (λ b. if b then entry.Here x else table to) (end_eq-refl to)

      here-not : IsAmong ms to → ⊥
      here-not a = never-here ready p to a k (λ z. Unit {0}) (subst IsHere (sym own-at) tt)

      same1 : (e : EndId) → m.entry k e ≡ f e (y1 e)
      same1 e = b0.entry e ∙ by (end_eq to e) refl
        where
          by : (b : Bool) → end_eq to e ≡ b
              → (if b then entry.Here (over_view x) else brings ms (λ m. entry.Here (settled (holder.Owner p) m)) stays e (table e)) ≡ (if b then entry.Here (over_view x) else brings ms (λ m. entry.Here (settled (holder.Owner p) m)) stays e (y k e))
          by true is_to = refl
          by false apart = ap (λ z. brings ms (λ m. entry.Here (settled (holder.Owner p) m)) stays e z) (sym (at.own e ∙ ap (λ b. if b then entry.Here x else table e) apart))

      b1 : Changes x1 (record c0 { taken = Some (from, without_values q); entry = f }) m
      b1 = swapped-changes b-base from q (without_values q) refl y1 f same1

      x1-entry : (e : EndId) → x1.entry k e ≡ y1 e
      x1-entry e = ap (λ a. if a then y1 e else y k e) (eq-eqb k k refl)

      here1 : x1.entry k to ≡ entry.Here x
      here1 = let z = there-here (x1.entry k to) (λ z. z ≡ x) (here-landed ready p k to (λ z. z ≡ x) (subst (λ z. IsHereAnd z (λ z. z ≡ x)) (sym own-at) refl)) in z.1 ∙ ap entry.Here z.2

      -- ---- the send is over

      abbrev arrivals : List (ℕ × PictureWhat)
      arrivals = flat_map (arrival_packets k) ms

      abbrev z1 : Links
      z1 = parts.halfway b1 f stays [] (extra ++ arrivals) (λ e. refl) refl

      first1 : Changes x1 (taking_back (record c0 { taken = Some (from, without_values q); entry = f }) to x) z1
      first1 = parts.taking-part b1 f stays [] (extra ++ arrivals) (λ e. refl) refl

      last1 : Changes z1 (parts.untaken_last b1 f stays [] (extra ++ arrivals) (λ e. refl) refl) m
      last1 = parts.untaken-part b1 f stays [] (extra ++ arrivals) (λ e. refl) refl

      ready1 : IsTakingBack i x1 (record c0 { taken = Some (from, without_values q); entry = f }) from stamp s1 to n x
      ready1 = record { taken = refl; right = landed-right ready p o.home; links = landed-links ready p o.home; few = is.setting.few; here = here1; waits = at.waits }

      returned : IsReturned s1 to next.ends next.process
      returned =
          record {
            at = at.ends ∙ ap (λ (z : End). record z { outward = outward.Unreported }) (sym (owners-sender ready p));
            others = λ e apart. by e apart (list_any (end_eq e) (ends_in ms)) refl;
            phases = λ b e. (λ is_so. sym (at.phases b.0) ∙ is_so, λ is_so. at.phases b.0 ∙ is_so);
          }
        where
          carried_there : (e : EndId) → IsAmong ms e → Contains message.carried e
          carried_there e a = subst (λ l. Contains l e) (sym right.matched.carries) (among-contains ms e a)

          by : (e : EndId) → end_eq to e ≡ false → (a : Bool) → list_any (end_eq e) (ends_in ms) ≡ a → next.ends e ≡ owners ready p e
          by e apart true is_so =
              let a = told-among ms e is_so in
              back-came s to n p message right.matched.matched o.owned e (carried_there e a) apart (ap (λ (z : End). is_made z.place) (sym (at.same e apart)) ∙ ap (λ z. is_made z) (inside ready p e a))
              ∙ ap (λ (z : End). record z { place = place.Owned p }) (sym (at.same e apart)) ∙ sym (owners-came ready p e a)
          by e apart false none =
              let not_there : IsAmong ms e → ⊥ = λ a. true≢false (sym (among-told ms e a) ∙ none) in
              back-other s to n p message right.matched.matched o.owned e (λ has. not_there (contains-among ms e (subst (λ l. Contains l e) right.matched.carries has))) apart ∙ sym (at.same e apart)
              ∙ sym (owners-other ready p e apart not_there)

      links1 : AreLinksOf z1 next
      links1 = returned-links ready1 z1 first1 next.ends next.process returned

      right1 : AreRight i z1 next
      right1 = returned-right ready1 z1 first1 next.ends next.process returned

      -- ---- what else is sent

      abbrev z2 : Links
      z2 = parts.between last1 stays stays extra arrivals (λ e. refl) refl

      abbrev c1 : Change
      c1 = parts.untaken last1 stays stays extra arrivals (λ e. refl) refl

      first2 : Changes z1 c1 z2
      first2 = parts.first-part last1 stays stays extra arrivals (λ e. refl) refl

      last2 : Changes z2 (parts.taking_last last1 stays stays extra arrivals (λ e. refl) refl) m
      last2 = parts.last-part last1 stays stays extra arrivals (λ e. refl) refl

      quiet : IsQuiet (length s.made) next.ends z1 c1
      quiet = record { kernel = near.1; entry = λ e. IsQuietly-same (z1.entry k e); names = right1.named.entries k; taken = tt; sent = extra-well }

      passing : IsPassing next.ends z1 c1
      passing =
          record {
            hints = λ e a l had has. inl (ap (λ (z : MovingPicture). z.hint) (some-same l a (sym has ∙ had)));
            sent = all_sent-weaker (λ to what. tells_place what ≡ false) (λ to what. IsPassed c1 what) (λ to what silent. inl silent) extra plain;
          }

      links2 : AreLinksOf z2 next
      links2 = links-still first2 next quiet links1

      right2 : AreRight (i + 1) z2 next
      right2 = passing-right first2 next quiet passing i right1

      -- ---- the ends that came tell where they are

      z1-entry : (e : EndId) → z1.entry k e ≡ f e (y1 e)
      z1-entry e = ap (λ a. if a then f e (x1.entry k e) else x1.entry k e) (eq-eqb k k refl) ∙ ap (f e) (x1-entry e)

      z2-entry : (e : EndId) → z2.entry k e ≡ f e (y1 e)
      z2-entry e = ap (λ a. if a then z1.entry k e else z1.entry k e) (eq-eqb k k refl) ∙ z1-entry e

      sent : AllSent (λ to what. (to < length s.made) × IsTrueMove z2 k what) arrivals
      sent = arrivals-true z2 k (length s.made) ms (λ l has. (named-value (length s.made) q.what l addressed has, here_then l has))
        where
          addressed : is_addressed q.what (length s.made) ≡ true
          addressed = All-contains (λ z. is_addressed z.what (length s.made) ≡ true) (w.packets from k) q (is.links.named.addressed from k) stood

          here_then : (l : MovingPicture) → Contains ms l → IsHereAnd (z2.entry k l.end) (λ z. z.value.hops ≡ l.hops)
          here_then l has =
              let a = entry-came ready p l.end (record { value = l; there = has; of = refl }) in
              let value : a.0.value ≡ l = same-value ms a.0.value l different a.0.there has a.0.of in
              subst (λ z. IsHereAnd z (λ z. z.value.hops ≡ l.hops)) (sym (z2-entry l.end ∙ ap (λ b. if b then entry.Here (over_view x) else y1 l.end) apart ∙ sym (x1-entry l.end) ∙ a.1)) (ap (λ (z : MovingPicture). z.hops) value)
            where
              apart : end_eq to l.end ≡ false
              apart = by (end_eq to l.end) refl
                where
                  by : (b : Bool) → end_eq to l.end ≡ b → b ≡ false
                  by true is_to = absurd (here-not (record { value = l; there = has; of = sym (end_eq-same to l.end is_to) }))
                  by false apart = refl

      both : (e : EndId) → is_made (next.ends e).place ≡ true → is_made (next.ends (opposite e)).place ≡ true
      both e living = at.service.kept.made (opposite e) ∙ sym (at.service.kept.made e) ∙ living

      pub links-then : AreLinksOf m next
      links-then = moves-links last2 next refl (λ e. refl) near.1 sent both (i + 1) right2 links2 is.setting.few

      pub right-then : AreRight (i + 1) m next
      right-then = moves-right last2 next refl (λ e. refl) near.1 sent both (i + 1) right2 links2 is.setting.few

      -- ---- the table

      pub sound-then : IsSound k made (length s.homes) (λ e. does.entry e (table e))
      sound-then =
          put-table-sound k made (length s.homes) (settles p ms table) (λ e. does.entry e (table e)) to v (over_view x) (settles-sound p k made (length s.homes) table ms below-home coming (is.setting.sound k))
          (brings-others ms (λ m. entry.Here (settled (holder.Owner p) m)) stays to (table to) (by (list_any (end_eq to) (ends_in ms)) refl) ∙ o.here) at.view (λ e. refl)
        where
          by : (b : Bool) → list_any (end_eq to) (ends_in ms) ≡ b → b ≡ false
          by true is_so = absurd (here-not (told-among ms to is_so))
          by false none = refl
