-- A forget erases a forwarding entry, and keeps all that is true of the traces of ends: no chain from what was heard needs the entry.
use Rattle.std.proofs.Common.{◌≡◌, ◌≢◌, ◌⊎◌, inl, inr, ℕ, ◌≤◌, true, false, nat_le, List, [], ◌∷◌, length, ◌<◌, Contains, Some, None, refl, sym, ap, subst, ◌∙◌, true≢false, arith}
use Rattle.std.proofs.lemmas.Bool.Decides.{leb_tells}
use Rattle.charlotte_calls.specs.Names.{opposite}
use Rattle.charlotte_calls.specs.declared.names.EndId.{EndId}
use Rattle.charlotte_calls.specs.declared.names.Pid.{Pid}
use Rattle.charlotte_packets.specs.declared.picture.MovingPicture.{MovingPicture}
use Rattle.charlotte_packets.specs.declared.picture.Picture.{Picture}
use Rattle.charlotte_packets.specs.declared.picture.PictureWhat.{PictureWhat}
use Rattle.charlotte_packets.specs.declared.picture.PictureWhat.TheVariants as packet
use Rattle.end_table.specs.declared.entry.Entry.{Entry}
use Rattle.end_table.specs.declared.entry.Entry.TheVariants as entry
use Rattle.end_table.specs.declared.entry.HereView.{HereView}
use Rattle.kernel_effects.specs.Effect.{Effect, changed, puts, stays}
use Rattle.kernel_effects.specs.Rows.{forget_effect, row_effect}
use Rattle.kernel_world.specs.World.{Takes, World, happens}
use Rattle.service_step.specs.State.{State}
use Rattle.trace_events.proofs.Allowed.{takes-allowed}
use Rattle.trace_events.proofs.Lists.{none-there}
use Rattle.trace_events.proofs.Packets.{taken-was, under_way-before, under_way-left}
use Rattle.trace_events.specs.Change.{Change, Happens}
use Rattle.trace_events.specs.Events.{taking}
use Rattle.trace_events.specs.Under.{IsLeft, IsSent, IsTaken}
use Rattle.theorem_meaning.proofs.Plain.{view-same}
use Rattle.theorem_meaning.specs.Fields.{At, Flying, HasFields, Stand, value_of}
use Rattle.theorem_meaning.specs.Invariant.{Invariant}
use Rattle.theorem_meaning.specs.Packets.{Links, links_of, values_of}
use Rattle.theorem_meaning.specs.StandsFor.{entry_at}
use Rattle.theorem_take_silent.proofs.Places.{here-living}
use Rattle.trace_calm.proofs.Calls.{steadily-same}
use Rattle.trace_calm.proofs.Calm.{calm-traced}
use Rattle.trace_calm.proofs.Steady.{steadily-calmly}
use Rattle.trace_calm.proofs.Takings.{chosen}
use Rattle.trace_calm.specs.Calm.{IsCalm, IsCalmly}
use Rattle.trace_events.proofs.One.{is-taken as was-taken, put-had, put-has, put-or, put-stays}
use Rattle.trace_meaning.specs.Traces.{AreTraced, IsTrailed}
use Rattle.trace_meaning.specs.Words.{HasMark, IsForgetOf, IsGoneFrom, IsGoneSeen, IsKnownOf, IsMovedTo, IsSought}

module _ (i : ℕ) (w : World) (s : State) (is : Invariant i w s) (k from stamp : ℕ) (to : EndId) (g : ℕ) (others : List Picture) (there : w.packets from k ≡ record { stamp = stamp; what = packet.Forget to g } ∷ others)
    (a h : ℕ) (stood : (w.kernel k).table to ≡ entry.Left a h) (few : nat_le h g ≡ true) (traced : AreTraced (links_of w) s.ends) where
  abbrev l : Links
  l = links_of w

  abbrev q : Picture
  q = record { stamp = stamp; what = packet.Forget to g }

  abbrev effect : Effect
  effect = changed (puts to entry.Nothing stays)

  abbrev any : Pid
  any = record { 0 = 0 }

  abbrev change : Change
  change = taking w k from q effect any [] []

  abbrev u : Links
  u = links_of (happens w (Takes k from))

  does : row_effect k (w.kernel k).made from (w.kernel k).table (packet.Forget to g) ≡ effect
  does = ap (forget_effect to g) stood ∙ chosen (nat_le h g) effect _ few

  happened : Happens w (Takes k from) change
  happened = takes-allowed is k from q others there effect any [] [] does tt tt refl refl

  -- ---- entries

  -- all stay but one
  entry-or : (j : ℕ) (e : EndId) → (entry_at u j e ≡ entry_at l j e) ⊎ ((j ≡ k) × (to ≡ e))
  entry-or = put-or happened.becomes.links to (entry.Left a h) entry.Nothing stood (λ e. refl)

  -- it was a forwarding entry, and is none
  was-left : (j : ℕ) (e : EndId) → (j ≡ k) × (to ≡ e) → entry_at l j e ≡ entry.Left a h
  was-left = put-had happened.becomes.links to (entry.Left a h) entry.Nothing stood (λ e. refl)

  now-none : (j : ℕ) (e : EndId) → (j ≡ k) × (to ≡ e) → entry_at u j e ≡ entry.Nothing
  now-none = put-has happened.becomes.links to (entry.Left a h) entry.Nothing stood (λ e. refl)

  is-calmly : (j : ℕ) (e : EndId) → IsCalmly (entry_at l j e) (entry_at u j e)
  is-calmly j e = by (entry-or j e)
    where
      by : (entry_at u j e ≡ entry_at l j e) ⊎ ((j ≡ k) × (to ≡ e)) → IsCalmly (entry_at l j e) (entry_at u j e)
      by (inl same) = subst (IsCalmly (entry_at l j e)) (sym same) (steadily-calmly (entry_at l j e) (entry_at l j e) (steadily-same (entry_at l j e)))
      by (inr its) = subst (λ y. IsCalmly y (entry_at u j e)) (sym (was-left j e its)) (subst (IsCalmly (entry.Left a h)) (sym (now-none j e its)) tt)

  -- an entry that is no Left stays
  stays-so : (j : ℕ) (e : EndId) (y : Entry) → entry_at l j e ≡ y → (y ≡ entry.Left a h → ⊥) → entry_at u j e ≡ y
  stays-so = put-stays happened.becomes.links to (entry.Left a h) entry.Nothing stood (λ e. refl)

  -- ---- packets

  is-taken : (P : PictureWhat → Type 0) → IsTaken change P → P (packet.Forget to g)
  is-taken = was-taken from q refl

  none-sent : (P : PictureWhat → Type 0) → IsSent change P → ⊥
  none-sent P x = none-there {X = ℕ × PictureWhat} (x.to, x.what) x.there

  -- ---- fields and marks stay

  fields-still : (e : EndId) (at : Stand) (m : MovingPicture) → HasFields l e at m → HasFields u e at m
  fields-still e (At j) m has = by (entry_at l j e) refl has
    where
      by : (y : Entry) → entry_at l j e ≡ y → value_of y ≡ Some m → value_of (entry_at u j e) ≡ Some m
      by entry.Nothing was value = absurd (let none : None ≡ Some m = value in cc)
      by (entry.Left b n) was value = absurd (let none : None ≡ Some m = value in cc)
      by (entry.Here v) was value = ap value_of (stays-so j e (entry.Here v) was (λ differ. cc)) ∙ value
      by (entry.Destroyed d) was value = ap value_of (stays-so j e (entry.Destroyed d) was (λ differ. cc)) ∙ value
  fields-still e Flying m has = by (under_way-before happened.becomes.links (λ z. Contains (values_of z) m) has.0)
    where
      by : IsLeft happened.becomes.links (λ z. Contains (values_of z) m) ⊎ IsTaken change (λ z. Contains (values_of z) m) → HasFields u e Flying m
      by (inl left) = (under_way-left happened.becomes.links (λ z. Contains (values_of z) m) left, has.1)
      by (inr taken) = absurd (none-there m (is-taken (λ z. Contains (values_of z) m) taken))

  mark-still : (e : EndId) → HasMark l e → HasMark u e
  mark-still e m = record { at = m.at; mark = m.mark; there = stays-so m.at e (entry.Destroyed m.mark) m.there (λ differ. cc) }

  sought-still : (e : EndId) → IsSought l s.ends e → IsSought u s.ends e
  sought-still e (inl is_open) = inl is_open
  sought-still e (inr mark) = inr (mark-still e mark)

  trailed-still : (e : EndId) (j : ℕ) → IsTrailed l s.ends e j → IsTrailed u s.ends e j
  trailed-still e j r = record { sought = sought-still e r.sought; at = r.at; fields = r.fields; are = fields-still e r.at r.fields r.are; in_trail = r.in_trail }

  -- ---- the entry that is erased has no more hops than the opposite has heard of

  no-more : (e : EndId) (at : Stand) (m : MovingPicture) → to ≡ e → IsSought l s.ends e → IsSought l s.ends (opposite e) → HasFields l (opposite e) at m → h ≤ m.hint.1
  no-more e at m its sought other has =
      let told : g ≤ m.hint.1 = (traced e).known at m g sought other has (inr (taken-was happened.becomes.links (IsForgetOf e g) (record { from = from; packet = q; taken = refl; is = (its, refl) }))) in
      by told (leb_tells h g)
    where
      by : g ≤ m.hint.1 → ((nat_le h g ≡ true) × (h ≤ g)) ⊎ ((nat_le h g ≡ false) × (g < h)) → h ≤ m.hint.1
      by told (inl le) = let below : h ≤ g = le.1 in omega (arith, told, below)
      by told (inr above) = absurd (true≢false (sym few ∙ above.0))

  is-cleared : (e : EndId) (j b n : ℕ) (at : Stand) (m : MovingPicture) → entry_at l j e ≡ entry.Left b n → entry_at u j e ≡ entry.Nothing → IsSought l s.ends e → IsSought l s.ends (opposite e) → HasFields l (opposite e) at m → n ≤ m.hint.1
  is-cleared e j b n at m was none sought other has = by (entry-or j e)
    where
      by : (entry_at u j e ≡ entry_at l j e) ⊎ ((j ≡ k) × (to ≡ e)) → n ≤ m.hint.1
      by (inl same) = absurd (let differ : entry.Nothing ≡ entry.Left b n = sym none ∙ same ∙ was in cc)
      by (inr its) =
          let both : entry.Left b n ≡ entry.Left a h = sym was ∙ was-left j e its in
          let hops : n ≡ h = cc in
          let below : h ≤ m.hint.1 = no-more e at m its.1 sought other has in
          omega (arith, hops, below)

  not-erased : (e : EndId) (j : ℕ) (m : MovingPicture) → entry_at l j e ≡ entry.Destroyed m → entry_at u j e ≡ entry.Nothing → ⊥
  not-erased e j m was none = let differ : entry.Nothing ≡ entry.Destroyed m = sym none ∙ stays-so j e (entry.Destroyed m) was (λ differ. cc) in cc

  same-trail : (j : ℕ) (e : EndId) (v x : HereView) → entry_at l j e ≡ entry.Here v → entry_at u j e ≡ entry.Here x → x.value.trail ≡ v.value.trail
  same-trail j e v x was now = ap (λ (z : HereView). z.value.trail) (view-same x v (sym now ∙ stays-so j e (entry.Here v) was (λ differ. cc)))

  not-kept : (e : EndId) (b n m : ℕ) → entry_at u k e ≡ entry.Left b n → IsTaken change (IsForgetOf e m) → ⊥
  not-kept e b n m left taken =
      let its = is-taken (IsForgetOf e m) taken in
      let differ : entry.Nothing ≡ entry.Left b n = sym (now-none k e (refl, its.0)) ∙ left in
      cc

  forgets : IsCalm l u change s.ends
  forgets =
      record {
        entries = is-calmly;
        bare = refl;
        sent_bare = tt;
        sent = tt;
        told = λ e n at m sent sought other has. absurd (none-sent _ sent);
        tells_seen = λ e sent. absurd (none-sent _ sent);
        trail = λ j e v x was now. inl (same-trail j e v x was now);
        trailed = λ e j b n left older trailed. inl (trailed-still e j trailed);
        cleared = is-cleared;
        erased = λ e j m was none. absurd (not-erased e j m was none);
        known = λ e v x was now free taken. absurd (is-taken (IsKnownOf e v.value.hops) taken);
        forget = λ e b n m left taken covers. not-kept e b n m left taken;
        seen = λ e m at taken. is-taken (IsGoneSeen e) taken;
        moved = λ e j v here taken chain. absurd (is-taken (IsMovedTo (opposite e) j v.value.hops) taken);
        gone = λ e d m at taken chain. absurd (is-taken (IsGoneFrom (opposite e) d) taken);
      }

  pub forget-traced : AreTraced u s.ends
  forget-traced =
      calm-traced happened.becomes.links s.ends s.ends forgets (record { living = λ e. refl; noticed = λ e. refl; destroyed = λ e dead. dead }) (λ j e m at. (is.links.marked e).destroyed j m at)
      (λ j e v at. here-living (length s.made) l s.ends is.setting.few is.links.named is.links.marked is.stands.links.once e j v at) is.service.noticed.opposite traced
