-- The rules by which an end learns where its opposite is, and no more.
use Rattle.std.proofs.Common.{◌≡◌, ◌⊎◌, inl, inr, ℕ, ◌<◌, ◌^◌, Bool, true, false, nat_lt, ◌&&◌, if◌then◌else◌, List, [], ◌∷◌, ◌++◌, length, Some, refl, sym, ap, subst, ◌∙◌, ltb-true, lt-ltb, le-ltb}
use Rattle.std.proofs.lemmas.Bool.{and_parts}
use Rattle.charlotte_calls.specs.Names.{opposite}
use Rattle.charlotte_packets.specs.Packets.{names_kernels_below}
use Rattle.charlotte_calls.specs.declared.names.EndId.{EndId}
use Rattle.charlotte_packets.specs.declared.picture.MovingPicture.{MovingPicture}
use Rattle.charlotte_packets.specs.declared.picture.Picture.{Picture}
use Rattle.charlotte_packets.specs.declared.picture.PictureWhat.{PictureWhat}
use Rattle.charlotte_packets.specs.declared.picture.PictureWhat.TheVariants as packet
use Rattle.end_table.specs.Entries.{is_news, learned}
use Rattle.end_table.specs.declared.entry.Entry.{Entry}
use Rattle.end_table.specs.declared.entry.Entry.TheVariants as entry
use Rattle.end_table.specs.declared.entry.HereView.{HereView}
use Rattle.theorem_effects.proofs.Uses.{all-append, live-each, news-each}
use Rattle.theorem_effects.specs.Effect.{Effect, nothing, puts, sent, stays}
use Rattle.theorem_effects.specs.Rows.{moved_effect, row_effect, unwant_effect, view_news, voids_effect, want_effect, wants_effect}
use Rattle.kernel_sound.specs.Sound.{addressee}
use Rattle.kernel_step.specs.Actions.{is_withdrawing, learned_view}
use Rattle.theorem_effects.specs.World.{Takes, World}
use Rattle.service_step.specs.Ends.{is_made}
use Rattle.service_step.specs.State.{State}
use Rattle.service_step.specs.declared.state.End.{End}
use Rattle.theorem_effects.specs.Sums.{AllSent}
use Rattle.theorem_effects.specs.Under.{IsTaken}
use Rattle.theorem_effects.proofs.Goes.{Goes}
use Rattle.theorem_effects.specs.Fields.{IsAskedAs, IsNews, value_of}
use Rattle.theorem_effects.specs.Invariant.{Invariant, NamesBelow}
use Rattle.theorem_take_silent.specs.Learning.{IsLive}
use Rattle.theorem_take_silent.specs.Quiet.{IsQuietly, IsSentWell, is_telling}
use Rattle.theorem_take_silent.specs.Silent.{IsLearnedAt, IsStill}
use Rattle.theorem_take_silent.proofs.Alike.{IsQuietly-same, some-same}
use Rattle.theorem_take_silent.proofs.Learning.{learning-right}
use Rattle.theorem_take_silent.proofs.Rows.{IsTable, alike-learned, put-each, view-end}
use Rattle.theorem_take_silent.proofs.Taking.{change, effect, quiet-so, still-goes, table-is, taken-well}

-- LEARN with these packets
abbrev pub hears : HereView → ℕ → ℕ → List (ℕ × PictureWhat) → Effect
hears v at hops ps = record (sent ps) { entry = puts v.value.end (entry.Here (learned_view v at hops)) stays }

-- an effect by which an end hears what packet q tells, y what kernel k keeps of each end
pub record IsHearing (k : ℕ) (y : EndId → Entry) (q : PictureWhat) (f : Effect) : Type 0 where
  pub view : HereView
  pub here : y view.value.end ≡ entry.Here view
  pub hints : (e : EndId) (m l : MovingPicture) → value_of (y e) ≡ Some m → value_of (f.entry e (y e)) ≡ Some l → (l.hint ≡ m.hint) ⊎ (IsNews e l.hint.0 l.hint.1 q × (m.hint.1 < l.hint.1))
  pub sent : AllSent (λ to what. IsLive k view what) f.packets

module _ (n : ℕ) (t : EndId → End) (k : ℕ) (y : EndId → Entry) (is : IsTable n t k y) where
  module _ (q : PictureWhat) (to : EndId) (at hops : ℕ) (v : HereView) (news : IsNews to at hops q) (below : nat_lt at n ≡ true) (made : is_made (t to).place ≡ true) (there : y to ≡ entry.Here v) where
    abbrev new : Entry
    new = entry.Here (learned_view v at hops)

    end : v.value.end ≡ to
    end = view-end n t k y is to v there

    here : y v.value.end ≡ entry.Here v
    here = subst (λ z. y z ≡ entry.Here v) (sym end) there

    old : names_kernels_below n v.value ≡ true
    old = subst (NamesBelow n) there (is.names to)

    named : (b : Bool) → names_kernels_below n (if b then record v.value { hint = (at, hops) } else v.value) ≡ true
    named true = ap (λ z. z && nat_lt v.value.trail (2 ^ n)) below ∙ (and_parts (nat_lt v.value.hint.0 n) (nat_lt v.value.trail (2 ^ n)) old).1
    named false = old

    hint-below : (learned at hops v.value).hint.0 < n
    hint-below = ltb-true (learned at hops v.value).hint.0 n (and_parts (nat_lt (learned at hops v.value).hint.0 n) (nat_lt (learned at hops v.value).trail (2 ^ n)) (named (is_news v.value hops))).0

    abbrev IsSaid : ℕ × PictureWhat → Type 0
    IsSaid p = IsSentWell n t p.0 p.1 × IsLive k v p.1

    own-end : (learned at hops v.value).end ≡ v.value.end
    own-end = ap (λ (z : MovingPicture). z.end) (alike-learned at hops v.value)

    own-hops : (learned at hops v.value).hops ≡ v.value.hops
    own-hops = ap (λ (z : MovingPicture). z.hops) (alike-learned at hops v.value)

    other-made : is_made (t (opposite (learned at hops v.value).end)).place ≡ true
    other-made = subst (λ z. is_made (t (opposite z)).place ≡ true) (sym (own-end ∙ end)) (is.both to made)

    news-said : AllSent (λ to what. IsSaid (to, what)) (view_news k at hops v v.inward)
    news-said =
        news-each IsSaid k v.value hops (learned at hops v.value) v.inward
        (λ rise. live-each IsSaid k (learned at hops v.value) v.inward
        (λ w posted. (
          record { quiet = refl; below = hint-below; addressed = lt-ltb k n is.below; made = other-made; gone = tt },
          (ap opposite own-end, refl, own-hops, subst (IsAskedAs w) (sym posted) refl),
        ))
        (λ w withdrawing. (
          record { quiet = refl; below = hint-below; addressed = lt-ltb k n is.below; made = other-made; gone = tt },
          (ap opposite own-end, refl, own-hops, subst (IsAskedAs w) (sym withdrawing) refl, ap is_withdrawing withdrawing),
        ))
        (record { quiet = refl; below = hint-below; addressed = lt-ltb k n is.below; made = other-made; gone = tt }, (ap opposite own-end, refl, own-hops)))

    known-said : IsSaid (at, packet.Known (opposite v.value.end) hops)
    known-said = (record { quiet = refl; below = ltb-true at n below; addressed = refl; made = subst (λ z. is_made (t (opposite z)).place ≡ true) (sym end) (is.both to made); gone = tt }, refl)

    wells : (ps : List (ℕ × PictureWhat)) → AllSent (λ to what. IsSaid (to, what)) ps → AllSent (IsSentWell n t) ps
    wells [] all = tt
    wells (p ∷ ps) all = (all.0.0, wells ps all.1)

    lives : (ps : List (ℕ × PictureWhat)) → AllSent (λ to what. IsSaid (to, what)) ps → AllSent (λ to what. IsLive k v what) ps
    lives [] all = tt
    lives (p ∷ ps) all = (all.0.1, lives ps all.1)

    risen : (m l : MovingPicture) → value_of (y v.value.end) ≡ Some m → value_of new ≡ Some l → (l.hint ≡ m.hint) ⊎ (IsNews v.value.end l.hint.0 l.hint.1 q × (m.hint.1 < l.hint.1))
    risen m l had has =
        subst (λ (z : MovingPicture). (l.hint ≡ z.hint) ⊎ (IsNews v.value.end l.hint.0 l.hint.1 q × (z.hint.1 < l.hint.1))) (some-same v.value m (sym (ap value_of here) ∙ had))
        (subst (λ (z : MovingPicture). (z.hint ≡ v.value.hint) ⊎ (IsNews v.value.end z.hint.0 z.hint.1 q × (v.value.hint.1 < z.hint.1))) (some-same (learned at hops v.value) l has) (by (is_news v.value hops) refl))
      where
        by : (b : Bool) → is_news v.value hops ≡ b → ((if b then record v.value { hint = (at, hops) } else v.value).hint ≡ v.value.hint)
            ⊎ (IsNews v.value.end (if b then record v.value { hint = (at, hops) } else v.value).hint.0 (if b then record v.value { hint = (at, hops) } else v.value).hint.1 q × (v.value.hint.1 < (if b then record v.value { hint = (at, hops) } else v.value).hint.1))
        by true rise = inr (subst (λ z. IsNews z at hops q) (sym end) news, ltb-true v.value.hint.1 hops rise)
        by false low = inl refl

    pub hears-so : (ps : List (ℕ × PictureWhat)) → AllSent (λ to what. IsSaid (to, what)) ps → IsStill n t y (hears v at hops ps) × IsHearing k y q (hears v at hops ps)
    hears-so ps all = (
      record {
        entry = put-each n t k y is q (λ e z. IsQuietly (y e) z) v.value.end new (subst (λ z. IsQuietly z new) (sym here) (refl, alike-learned at hops v.value)) (λ e. IsQuietly-same (y e));
        names = put-each n t k y is q (λ e z. NamesBelow n z) v.value.end new (named (is_news v.value hops)) is.names;
        sent = wells ps all;
        answers = refl;
        reports = refl;
        steps = refl;
      },
      record {
        view = v;
        here = here;
        hints = put-each n t k y is q (λ e z. (m l : MovingPicture) → value_of (y e) ≡ Some m → value_of z ≡ Some l → (l.hint ≡ m.hint) ⊎ (IsNews e l.hint.0 l.hint.1 q × (m.hint.1 < l.hint.1))) v.value.end new risen
            (λ e m l had has. inl (ap (λ (z : MovingPicture). z.hint) (some-same l m (sym has ∙ had))));
        sent = lives ps all;
      },
    )

    pub learns-so : IsStill n t y (hears v at hops (view_news k at hops v v.inward)) × IsHearing k y q (hears v at hops (view_news k at hops v v.inward))
    learns-so = hears-so (view_news k at hops v v.inward) news-said

    pub moves-so : IsStill n t y (hears v at hops (view_news k at hops v v.inward ++ (at, packet.Known (opposite v.value.end) hops) ∷ []))
        × IsHearing k y q (hears v at hops (view_news k at hops v v.inward ++ (at, packet.Known (opposite v.value.end) hops) ∷ []))
    moves-so =
        hears-so (view_news k at hops v v.inward ++ (at, packet.Known (opposite v.value.end) hops) ∷ [])
        (all-append IsSaid (view_news k at hops v v.inward) ((at, packet.Known (opposite v.value.end) hops) ∷ []) news-said (known-said, tt))

  -- each of the rules
  pub row-hears : (made_links from : ℕ) (q : PictureWhat) → IsSentWell n t k q → IsLearnedAt q (y (addressee q)) → IsStill n t y (row_effect k made_links from y q) × IsHearing k y q (row_effect k made_links from y q)
  row-hears made_links from (packet.Moved to at hops) well heard = by (y to) refl heard
    where
      q : PictureWhat
      q = packet.Moved to at hops

      by : (x : Entry) → y to ≡ x → IsLearnedAt q x → IsStill n t y (moved_effect k to at hops x) × IsHearing k y q (moved_effect k to at hops x)
      by (entry.Here v) there open_is =
          let so = moves-so q to at hops v (refl, refl, refl) well.addressed well.made there in
          subst (λ b. IsStill n t y (if b then nothing else hears v at hops (view_news k at hops v v.inward ++ (at, packet.Known (opposite v.value.end) hops) ∷ []))
          × IsHearing k y q (if b then nothing else hears v at hops (view_news k at hops v v.inward ++ (at, packet.Known (opposite v.value.end) hops) ∷ []))) (sym open_is) so
      by _ there heard = absurd heard
  row-hears made_links from (packet.Want to w at hops) well heard = by (y to) refl heard
    where
      q : PictureWhat
      q = packet.Want to w at hops

      by : (x : Entry) → y to ≡ x → IsLearnedAt q x → IsStill n t y (want_effect k y to w at hops x) × IsHearing k y q (want_effect k y to w at hops x)
      by (entry.Here v) there open_is =
          let so = learns-so q to at hops v (refl, refl, refl) well.addressed well.made there in
          subst (λ b. IsStill n t y (if b then nothing else if nat_lt v.value.served w then wants_effect k y w at hops v else hears v at hops (view_news k at hops v v.inward))
          × IsHearing k y q (if b then nothing else if nat_lt v.value.served w then wants_effect k y w at hops v else hears v at hops (view_news k at hops v v.inward))) (sym open_is.0)
          (subst (λ b. IsStill n t y (if b then wants_effect k y w at hops v else hears v at hops (view_news k at hops v v.inward))
          × IsHearing k y q (if b then wants_effect k y w at hops v else hears v at hops (view_news k at hops v v.inward))) (sym (le-ltb v.value.served w open_is.1)) so)
      by _ there heard = absurd heard
  row-hears made_links from (packet.Unwant to w at hops) well heard = by (y to) refl heard
    where
      q : PictureWhat
      q = packet.Unwant to w at hops

      by : (x : Entry) → y to ≡ x → IsLearnedAt q x → IsStill n t y (unwant_effect k to w at hops x) × IsHearing k y q (unwant_effect k to w at hops x)
      by (entry.Here v) there open_is =
          let so = learns-so q to at hops v (refl, refl, refl) well.addressed well.made there in
          subst (λ b. IsStill n t y (if b then nothing else if nat_lt v.value.served w then voids_effect k w at hops v else hears v at hops (view_news k at hops v v.inward))
          × IsHearing k y q (if b then nothing else if nat_lt v.value.served w then voids_effect k w at hops v else hears v at hops (view_news k at hops v v.inward))) (sym open_is.0)
          (subst (λ b. IsStill n t y (if b then voids_effect k w at hops v else hears v at hops (view_news k at hops v v.inward))
          × IsHearing k y q (if b then voids_effect k w at hops v else hears v at hops (view_news k at hops v v.inward))) (sym (le-ltb v.value.served w open_is.1)) so)
      by _ there heard = absurd heard
  row-hears made_links from _ well heard = absurd heard

learned-quiet : (q : PictureWhat) (x : Entry) → IsLearnedAt q x → is_telling q ≡ false
learned-quiet (packet.Want to w at hops) x is = refl
learned-quiet (packet.Unwant to w at hops) x is = refl
learned-quiet (packet.Moved to at hops) x is = refl
learned-quiet _ x is = absurd is

-- the service goes with the taking of a packet from which an end only learns, by no step
pub hearing-goes : (i : ℕ) (w : World) (s : State) → Invariant i w s → (k from : ℕ) (q : Picture) (others : List Picture) → w.packets from k ≡ q ∷ others → IsLearnedAt q.what ((w.kernel k).table (addressee q.what)) → Goes i w s (Takes k from)
hearing-goes i w s is k from q others there heard =
    let quiet = learned-quiet q.what ((w.kernel k).table (addressee q.what)) heard in
    let does = row-hears (length s.made) s.ends k (w.kernel k).table (table-is i w s is k from q others there) (w.kernel k).made from q.what (taken-well i w s is k from q others there quiet) heard in
    still-goes i w s is k from q others there quiet does.0
    (λ happened. learning-right happened.becomes.links s (quiet-so i w s is k from q others there quiet does.0)
    (record {
      view = does.1.view;
      here = does.1.here;
      hints = λ e m l had has. hint does.1 e m l had has;
      sent = does.1.sent;
    }) i is.links is.stands.links is.setting.few)
  where
    hint : IsHearing k (w.kernel k).table q.what (effect i w s is k from q others there) → (e : EndId) (m l : MovingPicture) → value_of ((w.kernel k).table e) ≡ Some m → value_of ((effect i w s is k from q others there).entry e ((w.kernel k).table e)) ≡ Some l
        → (l.hint ≡ m.hint) ⊎ (IsTaken (change i w s is k from q others there) (IsNews e l.hint.0 l.hint.1) × (m.hint.1 < l.hint.1))
    hint hearing e m l had has = by (hearing.hints e m l had has)
      where
        by : (l.hint ≡ m.hint) ⊎ (IsNews e l.hint.0 l.hint.1 q.what × (m.hint.1 < l.hint.1)) → (l.hint ≡ m.hint) ⊎ (IsTaken (change i w s is k from q others there) (IsNews e l.hint.0 l.hint.1) × (m.hint.1 < l.hint.1))
        by (inl same) = inl same
        by (inr told) = inr (record { from = from; packet = q; taken = refl; is = told.0 }, told.1)
