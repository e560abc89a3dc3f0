-- A parcel that is taken, and a back that meets its send where the death is known already: both keep all that is true of the traces of ends.
use Rattle.std.proofs.Common.{◌≡◌, ◌⊎◌, inl, inr, ℕ, ◌<◌, ◌≤◌, true, false, List, ◌∷◌, ◌++◌, length, Contains, refl, sym, ap, subst, ◌∙◌, arith}
use Rattle.std.proofs.lemmas.List.Elements.{Contains-append_left, Contains-append_right}
use Rattle.std.specs.List.{flat_map}
use Rattle.charlotte_calls.specs.Names.{opposite}
use Rattle.charlotte_calls.specs.declared.calls.Answer.{Answer}
use Rattle.charlotte_calls.specs.declared.calls.Report.{Report}
use Rattle.charlotte_calls.specs.declared.names.EndId.{EndId}
use Rattle.charlotte_calls.specs.declared.names.Pid.{Pid}
use Rattle.charlotte_packets.specs.declared.picture.MovingPicture.{MovingPicture}
use Rattle.charlotte_packets.specs.declared.picture.Picture.{Picture}
use Rattle.charlotte_packets.specs.declared.picture.PictureWhat.{PictureWhat}
use Rattle.charlotte_packets.specs.declared.picture.PictureWhat.TheVariants as packet
use Rattle.end_table.proofs.EndEq.{end_eq-refl}
use Rattle.end_table.specs.Entries.{is_news, learned}
use Rattle.end_table.specs.Place.{end_eq}
use Rattle.end_table.specs.Table.{IsHereAnd, IsOfEnd}
use Rattle.end_table.specs.declared.entry.Entry.{Entry}
use Rattle.end_table.specs.declared.entry.Entry.TheVariants as entry
use Rattle.end_table.specs.declared.entry.HereView.{HereView}
use Rattle.end_table.specs.declared.entry.Inward.{Inward}
use Rattle.end_table.specs.declared.entry.Inward.TheVariants as inward
use Rattle.kernel_effects.proofs.Uses.{all-append}
use Rattle.kernel_effects.specs.Actions.{arrival_packets}
use Rattle.kernel_effects.specs.Rows.{receives_effect, returned_view, returns_effect, taken_view, view_news}
use Rattle.kernel_world.specs.World.{Takes, World, happens}
use Rattle.service_step.specs.Ends.{is_living}
use Rattle.service_step.specs.State.{State}
use Rattle.service_step.specs.declared.state.End.{End}
use Rattle.theorem_effects.proofs.Lists.{later}
use Rattle.theorem_effects.specs.Change.{Change, Happens}
use Rattle.theorem_effects.specs.Events.{taking}
use Rattle.theorem_effects.specs.Sums.{AllSent}
use Rattle.theorem_effects.specs.Under.{IsTaken}
use Rattle.theorem_meaning.proofs.Ends.{opposite-twice}
use Rattle.theorem_meaning.proofs.Plain.{there-here}
use Rattle.theorem_meaning.specs.Fields.{IsNews}
use Rattle.theorem_meaning.specs.Invariant.{Invariant, is_message_of}
use Rattle.theorem_meaning.specs.Packets.{Links, links_of}
use Rattle.theorem_meaning.specs.StandsFor.{entry_at}
use Rattle.theorem_take_want.proofs.Places.{here-living}
use Rattle.trace_link.specs.Calm.{AreAsOpen}
use Rattle.trace_moving.proofs.Marks.{learned-taught}
use Rattle.trace_moving.specs.Hearing.{IsRaised, IsTaught}
use Rattle.trace_landing.proofs.Here.{after, came-here, landed-traced, own-here}
use Rattle.trace_landing.proofs.Said.{arrival-there, arrivals-said, end-said, news-said}
use Rattle.trace_landing.specs.Landing.{IsSaid}
use Rattle.trace_learning.proofs.Learned.{learned-hint}
use Rattle.trace_learning.proofs.Learns.{learned-like, news-moved}
use Rattle.trace_meaning.specs.Traces.{AreTraced}
use Rattle.trace_moving.specs.Moving.{IsStaying}

-- ---- an end that hears where its opposite is, by an event whose packets it sends again where that is news

pub learned-staying : (c : Change) (k at hops : ℕ) (v : HereView) (i : Inward) (l : MovingPicture) → IsTaught v.value l → l.hint ≡ (learned at hops v.value).hint → (l.want ≡ v.value.want) ⊎ (l.want ≡ 0) → v.value.served ≤ l.served
    → IsTaken c (IsNews v.value.end at hops) → ((x : ℕ × PictureWhat) → Contains (view_news k at hops v i) x → Contains c.packets x) → IsStaying c k v.value.end v.value l
learned-staying c k at hops v i l like hint want served taken sent = record { like = like; hint = by (learned-hint at hops v.value); want = want; served = served }
  where
    by : ((is_news v.value hops ≡ true) × ((learned at hops v.value).hint ≡ (at, hops)) × (v.value.hint.1 < hops)) ⊎ ((is_news v.value hops ≡ false) × ((learned at hops v.value).hint ≡ v.value.hint) × (hops ≤ v.value.hint.1))
        → (l.hint ≡ v.value.hint) ⊎ (IsRaised c v.value.end v.value l × ((l.trail ≡ 0 → ⊥) → Contains c.packets (l.hint.0, packet.Moved (opposite v.value.end) k l.hops)))
    by (inr old) = inl (hint ∙ old.1)
    by (inl new) =
        let told : l.hint ≡ (at, hops) = hint ∙ new.1 in
        inr (
          (
            subst (λ (z : ℕ × ℕ). IsTaken c (IsNews v.value.end z.0 z.1)) (sym told) taken,
            subst (λ (z : ℕ × ℕ). v.value.hint.1 < z.1) (sym told) new.2,
          ),
          λ some.
              subst (λ (z : ℕ × ℕ). Contains c.packets (z.0, packet.Moved (opposite v.value.end) k l.hops)) (sym told)
              (subst (λ n. Contains c.packets (at, packet.Moved (opposite v.value.end) k n)) (sym (ap (λ (z : MovingPicture). z.hops) like))
              (sent (at, packet.Moved (opposite v.value.end) k v.value.hops) (news-moved k at hops v i new.0 (λ none. some (ap (λ (z : MovingPicture). z.trail) like ∙ none))))),
        )

module _ (i : ℕ) (w : World) (s : State) (is : Invariant i w s) (k from stamp : ℕ) (to : EndId) (n : ℕ) (others : List Picture) (ms : List MovingPicture) (v : HereView) (stood : (w.kernel k).table to ≡ entry.Here v) (now : EndId → End) (as_open : AreAsOpen s.ends now) (traced : AreTraced (links_of w) s.ends) where
  abbrev picture : PictureWhat → Picture
  picture what = record { stamp = stamp; what = what }

  own : v.value.end ≡ to
  own = subst (IsOfEnd to) stood ((is.setting.sound k).own to)

  here : (w.kernel k).table v.value.end ≡ entry.Here v
  here = ap (w.kernel k).table own ∙ stood

  lives : is_living (s.ends v.value.end).place ≡ true
  lives = here-living (length s.made) (links_of w) s.ends is.setting.few is.links.named is.links.marked is.stands.links.once v.value.end k v here

  -- ---- a parcel, at the receive that it is for

  module _ (r at hops : ℕ) (bytes : List ℕ) (there : w.packets from k ≡ record { stamp = stamp; what = packet.Parcel to n r at hops bytes ms } ∷ others) (p : Pid) (given : List Answer) (rs : List Report)
      (happened : Happens w (Takes k from) (taking w k from (record { stamp = stamp; what = packet.Parcel to n r at hops bytes ms }) (receives_effect k n at hops bytes ms v) p given rs)) where
    abbrev c : Change
    c = taking w k from (picture (packet.Parcel to n r at hops bytes ms)) (receives_effect k n at hops bytes ms v) p given rs

    abbrev u : Links
    u = links_of (happens w (Takes k from))

    abbrev news : List (ℕ × PictureWhat)
    news = view_news k at hops v inward.Unreported

    abbrev moves : List (ℕ × PictureWhat)
    moves = flat_map (arrival_packets k) ms

    carries : is_message_of (opposite to) (packet.Parcel to n r at hops bytes ms) ≡ true
    carries = ap (λ a. end_eq a to) (opposite-twice to) ∙ end_eq-refl to

    staying : IsStaying c k v.value.end v.value (learned at hops v.value)
    staying =
        learned-staying c k at hops v inward.Unreported (learned at hops v.value) (learned-taught at hops v.value) refl (inl (ap (λ (z : MovingPicture). z.want) (learned-like at hops v.value)))
        (let same : (learned at hops v.value).served ≡ v.value.served = ap (λ (z : MovingPicture). z.served) (learned-like at hops v.value) in omega (arith, same))
        (record { from = from; packet = picture (packet.Parcel to n r at hops bytes ms); taken = refl; is = (sym own, refl, refl) })
        (λ x has. later (at, packet.Taken (opposite v.value.end) n k v.value.hops) (moves ++ news) x (Contains-append_right moves news x has))

    at_own : IsHereAnd (entry_at u k v.value.end) (λ o. o.value.hops ≡ v.value.hops)
    at_own =
        let o = there-here (entry_at u k v.value.end) (λ o. o.value ≡ learned at hops v.value)
        (own-here i w s is k from (picture (packet.Parcel to n r at hops bytes ms)) others there (opposite to) carries tt v (taken_view at hops v) here v.holder (receives_effect k n at hops bytes ms v) p given rs happened) in
        subst (λ y. IsHereAnd y (λ o. o.value.hops ≡ v.value.hops)) (sym o.1) (ap (λ (z : MovingPicture). z.hops) (o.2 ∙ learned-like at hops v.value))

    said : AllSent (λ j what. IsSaid u s.ends k what) (receives_effect k n at hops bytes ms v).packets
    said = (
      end-said u s.ends k v at_own lives,
      all-append (λ (x : ℕ × PictureWhat). IsSaid u s.ends k x.1) moves news
          (arrivals-said u s.ends k ms
          (came-here i w s is k from (picture (packet.Parcel to n r at hops bytes ms)) others there (opposite to) carries tt v (taken_view at hops v) here v.holder (receives_effect k n at hops bytes ms v) p given rs happened))
          (news-said u s.ends k at hops v inward.Unreported at_own lives),
    )

    pub received-traced : AreTraced u now
    received-traced =
        landed-traced i w s is k from (picture (packet.Parcel to n r at hops bytes ms)) others there (opposite to) carries tt v (taken_view at hops v) here v.holder (receives_effect k n at hops bytes ms v) p given rs happened staying
        (λ m has free.
        later (at, packet.Taken (opposite v.value.end) n k v.value.hops) (moves ++ news) (m.hint.0, packet.Moved (opposite m.end) k m.hops)
        (Contains-append_left moves news (m.hint.0, packet.Moved (opposite m.end) k m.hops) (arrival-there k ms m has free)))
        said now as_open traced

  -- ---- a back, at its send

  module _ (there : w.packets from k ≡ record { stamp = stamp; what = packet.Back to n ms } ∷ others) (p : Pid) (given : List Answer) (rs : List Report)
      (happened : Happens w (Takes k from) (taking w k from (record { stamp = stamp; what = packet.Back to n ms }) (returns_effect k to n ms v) p given rs)) where
    pub returned-traced : AreTraced (links_of (happens w (Takes k from))) now
    returned-traced =
        landed-traced i w s is k from (picture (packet.Back to n ms)) others there to (end_eq-refl to) tt v (returned_view v) here v.holder (returns_effect k to n ms v) p given rs happened
        (record { like = refl; hint = inl refl; want = inl refl; served = omega arith }) (λ m has free. arrival-there k ms m has free)
        (arrivals-said (links_of (happens w (Takes k from))) s.ends k ms
        (came-here i w s is k from (picture (packet.Back to n ms)) others there to (end_eq-refl to) tt v (returned_view v) here v.holder (returns_effect k to n ms v) p given rs happened))
        now as_open traced
