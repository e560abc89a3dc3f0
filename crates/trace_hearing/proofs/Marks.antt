-- A moved that comes to a mark keeps all that is true of the traces of ends: the mark hears where its opposite is, and a gone goes there.
use Rattle.std.proofs.Common.{◌≡◌, ◌⊎◌, inl, inr, ℕ, Bool, true, false, true≢false, if◌then◌else◌, List, [], ◌∷◌, length, Contains, Some, refl, sym, ap, subst, ◌∙◌, ltb-true}
use Rattle.charlotte_calls.specs.Names.{opposite}
use Rattle.charlotte_calls.specs.declared.names.EndId.{EndId}
use Rattle.charlotte_calls.specs.declared.names.Pid.{Pid}
use Rattle.charlotte_packets.specs.declared.picture.MovingPicture.{MovingPicture}
use Rattle.charlotte_packets.specs.declared.picture.Picture.{Picture}
use Rattle.charlotte_packets.specs.declared.picture.PictureWhat.{PictureWhat}
use Rattle.charlotte_packets.specs.declared.picture.PictureWhat.TheVariants as packet
use Rattle.end_table.proofs.EndEq.{end_eq-same}
use Rattle.end_table.specs.Entries.{is_news, learned}
use Rattle.end_table.specs.Place.{end_eq}
use Rattle.end_table.specs.declared.entry.Entry.{Entry}
use Rattle.end_table.specs.declared.entry.Entry.TheVariants as entry
use Rattle.end_table.specs.declared.entry.HereView.{HereView}
use Rattle.kernel_effects.specs.Effect.{Effect, puts, sent, stays}
use Rattle.kernel_effects.specs.Rows.{moved_effect, row_effect}
use Rattle.kernel_world.specs.World.{Takes, World, happens}
use Rattle.service_lawful.specs.Consistent.{is_open}
use Rattle.service_step.specs.Ends.{is_living}
use Rattle.service_step.specs.State.{State}
use Rattle.service_step.specs.declared.state.Place.TheVariants as place
use Rattle.theorem_effects.proofs.Allowed.{takes-allowed}
use Rattle.theorem_effects.proofs.Aside.{fields-same}
use Rattle.theorem_effects.proofs.Lists.{first, only-there}
use Rattle.theorem_effects.specs.Change.{Change, Changes, Happens}
use Rattle.theorem_effects.specs.Events.{taking}
use Rattle.theorem_effects.specs.Under.{IsSent, IsTaken}
use Rattle.theorem_meaning.proofs.Ends.{opposite-twice}
use Rattle.theorem_meaning.specs.Fields.{HasFields, IsAsking, IsNews, IsUnserved, Stand, value_of}
use Rattle.theorem_meaning.specs.Invariant.{Invariant}
use Rattle.theorem_meaning.specs.Packets.{IsUnderWay, Links, links_of}
use Rattle.theorem_meaning.specs.StandsFor.{entry_at}
use Rattle.trace_calm.proofs.Alike.{some-same}
use Rattle.trace_calm.proofs.Places.{here-living}
use Rattle.trace_calm.proofs.Clauses.{under_way-or}
use Rattle.trace_calm.proofs.One.{bare-unbrought, is-taken, put-had, put-has, put-kept, put-or}
use Rattle.trace_calm.proofs.Open.{destroyed-closed}
use Rattle.trace_calm.specs.Had.{HasSome}
use Rattle.trace_hearing.proofs.Hearing.{hearing-traced}
use Rattle.trace_hearing.specs.Hearing.{IsHearing, IsMildly, IsRaised, IsTaught}
use Rattle.trace_meaning.specs.Traces.{AreTraced}
use Rattle.trace_meaning.specs.Words.{IsGoneFrom, IsKnownOf, IsMovedTo}

pub mildly-same : (y : Entry) → IsMildly y y
mildly-same entry.Nothing = tt
mildly-same (entry.Here v) = refl
mildly-same (entry.Left to hops) = (refl, refl)
mildly-same (entry.Destroyed m) = refl

pub learned-taught : (at hops : ℕ) (m : MovingPicture) → IsTaught m (learned at hops m)
learned-taught at hops m = by (is_news m hops)
  where
    by : (a : Bool) → IsTaught m (if a then record m { hint = (at, hops) } else m)
    by true = refl
    by false = refl

module _ (i : ℕ) (w : World) (s : State) (is : Invariant i w s) (k from stamp : ℕ) (to : EndId) (at hops : ℕ) (others : List Picture) (there : w.packets from k ≡ record { stamp = stamp; what = packet.Moved to at hops } ∷ others)
    (m : MovingPicture) (stood : (w.kernel k).table to ≡ entry.Destroyed m) (traced : AreTraced (links_of w) s.ends) where
  abbrev l : Links
  l = links_of w

  abbrev q : Picture
  q = record { stamp = stamp; what = packet.Moved to at hops }

  abbrev answer : PictureWhat
  answer = packet.Gone (opposite to) k

  abbrev after : MovingPicture
  after = learned at hops m

  abbrev effect : Effect
  effect = record (sent ((at, answer) ∷ [])) { entry = puts to (entry.Destroyed after) stays }

  abbrev any : Pid
  any = record { 0 = 0 }

  abbrev change : Change
  change = taking w k from q effect any [] []

  abbrev u : Links
  u = links_of (happens w (Takes k from))

  does : row_effect k (w.kernel k).made from (w.kernel k).table (packet.Moved to at hops) ≡ effect
  does = ap (moved_effect k to at hops) stood

  happened : Happens w (Takes k from) change
  happened = takes-allowed is k from q others there effect any [] [] does tt tt refl refl

  abbrev b : Changes l change u
  b = happened.becomes.links

  -- the entry of the end is the mark, and all others stay
  entry-or : (j : ℕ) (e : EndId) → (entry_at u j e ≡ entry_at l j e) ⊎ ((j ≡ k) × (to ≡ e))
  entry-or = put-or b to (entry.Destroyed m) (entry.Destroyed after) stood (λ e. refl)

  was-mark : (j : ℕ) (e : EndId) → (j ≡ k) × (to ≡ e) → entry_at l j e ≡ entry.Destroyed m
  was-mark = put-had b to (entry.Destroyed m) (entry.Destroyed after) stood (λ e. refl)

  is-mark : (j : ℕ) (e : EndId) → (j ≡ k) × (to ≡ e) → entry_at u j e ≡ entry.Destroyed after
  is-mark = put-has b to (entry.Destroyed m) (entry.Destroyed after) stood (λ e. refl)

  took : (P : PictureWhat → Type 0) → IsTaken change P → P (packet.Moved to at hops)
  took P x = is-taken from q refl P x

  is-sent : (P : PictureWhat → Type 0) → IsSent change P → P answer
  is-sent P x = subst P (sym (ap (λ (z : ℕ × PictureWhat). z.1) (only-there {X = ℕ × PictureWhat} (at, answer) (x.to, x.what) x.there))) x.is

  dead : (s.ends to).place ≡ place.Destroyed
  dead = (is.links.marked to).destroyed k m stood

  -- it is at one kernel
  site : (e : EndId) (d : ℕ) (o : MovingPicture) → to ≡ e → entry_at l d e ≡ entry.Destroyed o → d ≡ k
  site e d o its was = (is.links.marked to).once d k o m (ap (entry_at l d) its ∙ was) stood

  is-mildly : (j : ℕ) (e : EndId) → IsMildly (entry_at l j e) (entry_at u j e)
  is-mildly j e = by (entry-or j e)
    where
      by : (entry_at u j e ≡ entry_at l j e) ⊎ ((j ≡ k) × (to ≡ e)) → IsMildly (entry_at l j e) (entry_at u j e)
      by (inl same) = subst (IsMildly (entry_at l j e)) (sym same) (mildly-same (entry_at l j e))
      by (inr its) = subst (λ y. IsMildly y (entry_at u j e)) (sym (was-mark j e its)) (subst (IsMildly (entry.Destroyed m)) (sym (is-mark j e its)) (learned-taught at hops m))

  hint-after : (j : ℕ) (e : EndId) (o z : MovingPicture) → value_of (entry_at l j e) ≡ Some o → value_of (entry_at u j e) ≡ Some z → (z.hint ≡ o.hint) ⊎ IsRaised change e o z
  hint-after j e o z had has = by (entry-or j e)
    where
      news : to ≡ e → (a : Bool) → is_news m hops ≡ a → ((if a then record m { hint = (at, hops) } else m).hint ≡ m.hint) ⊎ IsRaised change e m (if a then record m { hint = (at, hops) } else m)
      news its true more = inr (record { from = from; packet = q; taken = refl; is = (its, refl, refl) }, ltb-true m.hint.1 hops more)
      news its false more = inl refl

      by : (entry_at u j e ≡ entry_at l j e) ⊎ ((j ≡ k) × (to ≡ e)) → (z.hint ≡ o.hint) ⊎ IsRaised change e o z
      by (inl same) = inl (ap (λ (y : MovingPicture). y.hint) (some-same z o (sym has ∙ ap value_of same ∙ had)))
      by (inr its) =
          subst (λ y. (y.hint ≡ o.hint) ⊎ IsRaised change e o y) (some-same after z (ap value_of (sym (is-mark j e its)) ∙ has))
          (subst (λ y. (after.hint ≡ y.hint) ⊎ IsRaised change e y after) (some-same m o (ap value_of (sym (was-mark j e its)) ∙ had)) (news its.1 (is_news m hops) refl))

  is-gone : (e : EndId) (d j : ℕ) (o : MovingPicture) → entry_at l d e ≡ entry.Destroyed o → IsSent change (IsGoneFrom (opposite e) j) → j ≡ d
  is-gone e d j o was new =
      let its : (opposite to ≡ opposite e) × (k ≡ j) = is-sent (IsGoneFrom (opposite e) j) new in
      sym its.1 ∙ sym (site e d o (sym (opposite-twice to) ∙ ap opposite its.0 ∙ opposite-twice e) was)

  -- an open end keeps its fields, and is asked for no more
  is-asked : (e : EndId) (at : Stand) (o : MovingPicture) (n j h : ℕ) → is_open (s.ends e) ≡ true → HasFields u e at o → IsUnserved u e o n j h → HasSome l e (λ y. IsUnserved l e y n j h)
  is-asked e at o n j h open_is has asks = by (end_eq to e) refl
    where
      old : IsUnserved u e o n j h → IsUnserved l e o n j h
      old (inl kept) = inl kept
      old (inr under) = inr (under.0, was (under_way-or b (IsAsking e n j h) under.1))
        where
          was : IsUnderWay l (IsAsking e n j h) ⊎ IsSent change (IsAsking e n j h) → IsUnderWay l (IsAsking e n j h)
          was (inl still) = still
          was (inr new) = absurd (is-sent (IsAsking e n j h) new)

      by : (a : Bool) → end_eq to e ≡ a → HasSome l e (λ y. IsUnserved l e y n j h)
      by true same = absurd (destroyed-closed (s.ends e) (subst (λ z. (s.ends z).place ≡ place.Destroyed) (end_eq-same to e same) dead) open_is)
      by false apart =
          record {
            at = at;
            fields = o;
            are = (fields-same b e (put-kept b to (entry.Destroyed m) (entry.Destroyed after) stood (λ e. refl) e apart) (bare-unbrought change refl (refl, tt) e) at o).0 has;
            is = old asks;
          }

  -- the end does not live, so it is not here
  not-here : (e : EndId) (j : ℕ) (v : HereView) → to ≡ e → entry_at l j e ≡ entry.Here v → ⊥
  not-here e j v its here =
      true≢false
      (sym (here-living (length s.made) l s.ends is.setting.few is.links.named is.links.marked is.stands.links.once e j v here)
      ∙ ap is_living (subst (λ z. (s.ends z).place ≡ place.Destroyed) its dead))

  mourned-there : (e : EndId) (d : ℕ) (o z : MovingPicture) → entry_at l d e ≡ entry.Destroyed o → IsRaised change e o z → Contains {X = ℕ × PictureWhat} ((at, answer) ∷ []) (z.hint.0, packet.Gone (opposite e) d)
  mourned-there e d o z was raised =
      let its : (to ≡ e) × (at ≡ z.hint.0) × (hops ≡ z.hint.1) = took (IsNews e z.hint.0 z.hint.1) raised.0 in
      let same : (at, answer) ≡ (z.hint.0, packet.Gone (opposite e) d) = λ j. (its.1 j, packet.Gone (opposite (its.0 j)) (sym (site e d o its.0 was) j)) in
      subst (Contains {X = ℕ × PictureWhat} ((at, answer) ∷ [])) same (first {X = ℕ × PictureWhat} (at, answer) [])

  hears : IsHearing l u change s.ends
  hears =
      record {
        entries = is-mildly;
        hints = hint-after;
        tells = refl;
        bare = refl;
        sent_bare = (refl, tt);
        sent = (tt, tt);
        known = λ e h at o new has. absurd (is-sent (IsKnownOf e h) new);
        gone = is-gone;
        asked = λ e d o at y n j h was open_is has asks. inl (is-asked (opposite e) at y n j h open_is has asks);
        announced = λ e j v x was now raised some. absurd (not-here e j v (took (IsNews e x.value.hint.0 x.value.hint.1) raised.0).0 was);
        mourned = λ e d o z was now raised. mourned-there e d o z was raised;
        moved = λ e j v here lives taken chain.
            absurd (true≢false (sym lives ∙ ap is_living (subst (λ z. (s.ends z).place ≡ place.Destroyed) (took (IsMovedTo (opposite e) j v.value.hops) taken).0 dead)));
      }

  -- a moved at a mark
  pub moved-mark-traced : AreTraced u s.ends
  moved-mark-traced =
      hearing-traced b s.ends s.ends hears (record { living = λ e. refl; noticed = λ e. refl; destroyed = λ e gone. gone })
      (λ j e v here. here-living (length s.made) l s.ends is.setting.few is.links.named is.links.marked is.stands.links.once e j v here) is.service.noticed.opposite traced
