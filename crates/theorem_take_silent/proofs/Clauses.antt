-- A quiet event keeps each clause on links, but for what was heard and what is asked, which are for each event.
use Rattle.std.proofs.Common.{◌≡◌, ◌≢◌, ◌⊎◌, ◌↔◌, inl, inr, ℕ, ◌+◌, ◌≤◌, Bool, true, false, nat_eq, ◌∷◌, length, Contains, refl, sym, ap, subst, ◌∙◌, arith, true≢false, ne_eqb}
use Rattle.std.proofs.lemmas.Bool.Decides.{eqb_tells}
use Rattle.charlotte_calls.specs.Names.{opposite}
use Rattle.charlotte_packets.specs.Packets.{is_addressed}
use Rattle.charlotte_calls.specs.declared.names.EndId.{EndId}
use Rattle.charlotte_packets.specs.declared.picture.MovingPicture.{MovingPicture}
use Rattle.charlotte_packets.specs.declared.picture.Picture.{Picture}
use Rattle.charlotte_packets.specs.declared.picture.PictureWhat.{PictureWhat}
use Rattle.charlotte_packets.specs.declared.picture.PictureWhat.TheVariants as packet
use Rattle.end_table.specs.Table.{IsHereAnd}
use Rattle.end_table.specs.declared.entry.Entry.TheVariants as entry
use Rattle.end_table.specs.declared.entry.HereView.{HereView}
use Rattle.end_table.specs.declared.entry.Holder.{Holder}
use Rattle.end_table.specs.declared.entry.Holder.TheVariants as holder
use Rattle.end_table.specs.declared.entry.Inward.TheVariants as kernel_inward
use Rattle.kernel_sound.specs.Sound.{addressee}
use Rattle.kernel_step.specs.Actions.{is_withdrawing}
use Rattle.kernel_step.specs.Rows.{ends_in, is_here}
use Rattle.service_step.specs.Ends.{is_made, is_taken}
use Rattle.service_step.specs.State.{State}
use Rattle.service_step.specs.declared.state.End.{End}
use Rattle.theorem_effects.proofs.Aside.{none-taken, sent-each}
use Rattle.theorem_effects.proofs.Ends.{all_sent-weaker, inward-same, outward-same, taken-weaker}
use Rattle.theorem_effects.proofs.Lists.{none-there}
use Rattle.theorem_effects.proofs.Packets.{each-after, left-before, left_or_sent, under_way-still, under_way-was}
use Rattle.theorem_effects.proofs.Sums.{sum_over-same}
use Rattle.theorem_effects.specs.Change.{Change, Changes}
use Rattle.theorem_effects.proofs.Plain.{none-in}
use Rattle.theorem_effects.proofs.TheoremMeaningSums.{over-same}
use Rattle.theorem_effects.specs.Fields.{Stand, At, Flying, HasFields, IsAskedAs, IsHeard, IsNoMore}
use Rattle.theorem_effects.specs.Invariant.{AreAsked, AreCounted, AreMarked, AreNamed, AreRight, AreSentOnce, AreWanted, IsFew, IsHereIfLiving, IsHonest, IsPacketRight, IsUnwantedOnce, IsServed, NamesBelow, is_message_of, is_taken_of, is_unwanted_to}
use Rattle.theorem_effects.specs.Packets.{Each, IsBackOf, IsParcelFor, IsParcelOf, IsTakenOf, IsUnderWay, IsUnwantedOf, Links, how_many, one_if, over_kernels, sum_over, values_for, values_of}
use Rattle.theorem_effects.specs.StandsFor.{AreLinksOf, IsEndOf, IsInMessage, IsInwardOf, IsOutwardOf, IsWaitingWith, entry_at, home_of, standing}
use Rattle.theorem_take_silent.specs.Quiet.{IsAlike, IsGoneWell, IsQuiet, IsQuietly, IsSentWell, IsViewAlike, is_telling}
use Rattle.theorem_take_silent.proofs.Alike.{IsQuietly-same, back-tells, here-still, here-was, is_here-same, mark-was, message-quiet, parcel-tells, parcel_for-tells, taken-quiet, taken-tells, unwanted-quiet, unwanted-tells, value-tells, value-was, values-quiet, view-was}

-- the gone that was sent is right, and other packets that were sent have no clause
sent-right : (w : Links) (t : EndId → End) (from to : ℕ) (what : PictureWhat) → is_telling what ≡ false → IsGoneWell t what → IsPacketRight w t from to what
sent-right w t from to (packet.Parcel e n wanted at hops bytes ms) quiet gone = absurd (true≢false quiet)
sent-right w t from to (packet.Back f n ms) quiet gone = absurd (true≢false quiet)
sent-right w t from to (packet.Taken f n at hops) quiet gone = absurd (true≢false quiet)
sent-right w t from to (packet.Gone e at) quiet gone = gone
sent-right w t from to (packet.Unwanted e n at hops) quiet gone = absurd (true≢false quiet)
sent-right w t from to _ quiet gone = tt

module _ {w u : Links} {c : Change} (b : Changes w c u) (s : State) (quiet : IsQuiet (length s.made) s.ends w c) where
  abbrev n : ℕ
  n = length s.made

  -- ---- entries and packets

  pub entry-quietly : (k : ℕ) (e : EndId) → IsQuietly (w.entry k e) (u.entry k e)
  entry-quietly k e = by (eqb_tells k c.kernel)
    where
      by : ((nat_eq k c.kernel ≡ true) × (k ≡ c.kernel)) ⊎ ((nat_eq k c.kernel ≡ false) × (k ≢ c.kernel)) → IsQuietly (w.entry k e) (u.entry k e)
      by (inl is) = subst (λ j. IsQuietly (w.entry j e) (u.entry j e)) (sym is.1) (subst (IsQuietly (w.entry c.kernel e)) (sym (b.entry e)) (quiet.entry e))
      by (inr is) = subst (IsQuietly (w.entry k e)) (sym (b.others k e is.0)) (IsQuietly-same (w.entry k e))

  well : (to : ℕ) (what : PictureWhat) → Contains c.packets (to, what) → IsSentWell n s.ends to what
  well to what has = sent-each (IsSentWell n s.ends) c.packets to what quiet.sent has

  telling-same : (P : PictureWhat → Type 0) → ((q : PictureWhat) → P q → is_telling q ≡ true) → IsUnderWay u P ↔ IsUnderWay w P
  telling-same P tells = (
    under_way-was b P (λ x. no x.what (well x.to x.what x.there).quiet x.is),
    under_way-still b P (none-taken c P (taken-weaker (λ what. is_telling what ≡ false) (λ what. P what → ⊥) no c.taken quiet.taken)),
  )
    where
      no : (q : PictureWhat) → is_telling q ≡ false → P q → ⊥
      no q silent is = true≢false (sym (tells q is) ∙ silent)

  sum-same : (f : PictureWhat → ℕ) → ((q : PictureWhat) → is_telling q ≡ false → f q ≡ 0) → sum_over f u ≡ sum_over f w
  sum-same f none =
      sum_over-same f b (taken-weaker (λ what. is_telling what ≡ false) (λ what. f what ≡ 0) none c.taken quiet.taken)
      (all_sent-weaker (IsSentWell n s.ends) (λ to what. f what ≡ 0) (λ to what is. none what is.quiet) c.packets quiet.sent)

  number-same : (test : PictureWhat → Bool) → ((q : PictureWhat) → is_telling q ≡ false → test q ≡ false) → how_many test u ≡ how_many test w
  number-same test none = sum-same (λ q. one_if (test q)) (λ q silent. ap one_if (none q silent))

  -- values in packets are those that were there
  pub flying-was : (e : EndId) (l : MovingPicture) → HasFields u e Flying l → HasFields w e Flying l
  flying-was e l is = ((telling-same (λ q. Contains (values_of q) l) (value-tells l)).0 is.0, is.1)

  -- the fields that an end has it had but for hint and trail
  pub fields-was : (e : EndId) (at : Stand) (l : MovingPicture) → HasFields u e at l → (m : MovingPicture) × HasFields w e at m × IsAlike m l
  fields-was e (At k) l is = value-was (w.entry k e) (u.entry k e) l (entry-quietly k e) is
  fields-was e Flying l is = (l, flying-was e l is, refl)

  pub is-still : (k : ℕ) (e : EndId) (P : HereView → Type 0) → ((v x : HereView) → IsViewAlike v x → P v → P x) → IsHereAnd (entry_at w k e) P → IsHereAnd (entry_at u k e) P
  is-still k e P gives has = here-still (w.entry k e) (u.entry k e) P P (entry-quietly k e) gives has

  is-was : (k : ℕ) (e : EndId) (P : HereView → Type 0) → ((v x : HereView) → IsViewAlike v x → P x → P v) → IsHereAnd (entry_at u k e) P → IsHereAnd (entry_at w k e) P
  is-was k e P gives has = here-was (w.entry k e) (u.entry k e) P P (entry-quietly k e) gives has

  seen : (k : ℕ) (e : EndId) (x : HereView) → entry_at u k e ≡ entry.Here x → (v : HereView) × (entry_at w k e ≡ entry.Here v) × IsViewAlike v x
  seen k e x is = view-was (w.entry k e) (u.entry k e) x (entry-quietly k e) is

  -- ---- clauses 2 to 5

  standing-still : (e : EndId) → standing u e ≡ standing w e
  unfolding standing
  standing-still e =
      let here : over_kernels (λ k. one_if (is_here (u.entry k e))) ≡ over_kernels (λ k. one_if (is_here (w.entry k e)))
      = over-same (λ k. one_if (is_here (w.entry k e))) (λ k. one_if (is_here (u.entry k e))) (λ k. ap one_if (is_here-same (w.entry k e) (u.entry k e) (entry-quietly k e))) in
      let values : sum_over (λ q. values_for e (values_of q)) u ≡ sum_over (λ q. values_for e (values_of q)) w = sum-same (λ q. values_for e (values_of q)) (values-quiet e) in
      omega (arith, here, values)

  holder-like : (v x : HereView) → IsViewAlike v x → x.holder ≡ v.holder
  holder-like v x like = ap (λ (z : HereView). z.holder) like.0

  outward-like : (v x : HereView) → IsViewAlike v x → x.outward ≡ v.outward
  outward-like v x like = ap (λ (z : HereView). z.outward) like.0

  inward-like : (v x : HereView) → IsViewAlike v x → x.inward ≡ v.inward
  inward-like v x like = ap (λ (z : HereView). z.inward) like.0

  held-still : (k : ℕ) (e : EndId) (h : Holder) → IsHereAnd (entry_at w k e) (λ v. v.holder ≡ h) ↔ IsHereAnd (entry_at u k e) (λ v. v.holder ≡ h)
  held-still k e h = (is-still k e (λ v. v.holder ≡ h) (λ v x like is. holder-like v x like ∙ is), is-was k e (λ v. v.holder ≡ h) (λ v x like is. sym (holder-like v x like) ∙ is))

  waiting-still : (k : ℕ) (f : EndId) (m : ℕ) → IsHereAnd (entry_at w k f) (λ v. IsWaitingWith m v.outward) ↔ IsHereAnd (entry_at u k f) (λ v. IsWaitingWith m v.outward)
  waiting-still k f m = (
    is-still k f (λ v. IsWaitingWith m v.outward) (λ v x like is. subst (IsWaitingWith m) (sym (outward-like v x like)) is),
    is-was k f (λ v. IsWaitingWith m v.outward) (λ v x like is. subst (IsWaitingWith m) (outward-like v x like) is),
  )

  in_message-still : (e f : EndId) (m : ℕ) → IsInMessage w e f m ↔ IsInMessage u e f m
  in_message-still e f m = (still, was)
    where
      parcel : IsUnderWay u (λ q. IsParcelOf f m q × Contains (ends_in (values_of q)) e) ↔ IsUnderWay w (λ q. IsParcelOf f m q × Contains (ends_in (values_of q)) e)
      parcel = telling-same (λ q. IsParcelOf f m q × Contains (ends_in (values_of q)) e) (λ q is. parcel-tells f m q is.0)

      back : IsUnderWay u (λ q. IsBackOf f m q × Contains (ends_in (values_of q)) e) ↔ IsUnderWay w (λ q. IsBackOf f m q × Contains (ends_in (values_of q)) e)
      back = telling-same (λ q. IsBackOf f m q × Contains (ends_in (values_of q)) e) (λ q is. back-tells f m q is.0)

      still : IsInMessage w e f m → IsInMessage u e f m
      still (inl x) = inl (record { at = x.at; enclosed = (held-still x.at e (holder.EnclosedIn f)).0 x.enclosed; waiting = (waiting-still x.at f m).0 x.waiting })
      still (inr (inl x)) = inr (inl (parcel.1 x))
      still (inr (inr x)) = inr (inr (back.1 x))

      was : IsInMessage u e f m → IsInMessage w e f m
      was (inl x) = inl (record { at = x.at; enclosed = (held-still x.at e (holder.EnclosedIn f)).1 x.enclosed; waiting = (waiting-still x.at f m).1 x.waiting })
      was (inr (inl x)) = inr (inl (parcel.0 x))
      was (inr (inr x)) = inr (inr (back.0 x))

  end-still : (e : EndId) (v x : HereView) (z : End) → IsViewAlike v x → IsEndOf w e v z → IsEndOf u e x z
  end-still e v x z like is =
      record {
        sent = is.sent ∙ sym (ap (λ (l : MovingPicture). l.sent) like.1);
        noticed = is.noticed ∙ sym (ap (λ (l : MovingPicture). l.dead) like.1);
        outward = subst (λ o. IsOutwardOf u e z.sent o z.outward) (sym (outward-like v x like)) (outward-same w u e (λ m. telling-same (IsTakenOf e m) (taken-tells e m)) z.sent v.outward z.outward is.outward);
        inward =
            subst (λ i. IsInwardOf u e i z.inward) (sym (inward-like v x like))
            (inward-same w u e (λ r m. telling-same (IsParcelFor e r m) (parcel_for-tells e r m)) (λ r. telling-same (IsUnwantedOf e r) (unwanted-tells e r)) v.inward z.inward is.inward);
      }

  pub links-still : AreLinksOf w s → AreLinksOf u s
  links-still is =
      record {
        once = λ e. standing-still e ∙ is.once e;
        owned = λ e p. (λ at. (held-still (home_of s p) e (holder.Owner p)).0 ((is.owned e p).0 at), λ has. (is.owned e p).1 ((held-still (home_of s p) e (holder.Owner p)).1 has));
        in_message = λ e f m. (λ at. (in_message-still e f m).0 ((is.in_message e f m).0 at), λ has. (is.in_message e f m).1 ((in_message-still e f m).1 has));
        agree = λ e p x at there. let v = seen (home_of s p) e x there in end-still e v.0 x (s.ends e) v.2 (is.agree e p v.0 at v.1);
      }

  -- ---- what is true of every world

  named-still : AreNamed n w s.ends → AreNamed n u s.ends
  named-still is =
      record {
        entries = names;
        away = λ k e far. b.others k e (ne_eqb k c.kernel (λ same. let below = quiet.kernel in omega (arith, far, same, below))) ∙ is.away k e far;
        lists = λ from to far. none-in (u.packets from to) (λ q has. nothing from to far q (left_or_sent b from to q has));
        addressed = each-after b (λ from to q. is_addressed q n ≡ true) (λ from to q. is_addressed q n ≡ true) is.addressed (λ from to q has a. a) (λ to what has. (well to what has).addressed);
        addressees = each-after b (λ from to q. is_made (s.ends (addressee q)).place ≡ true) (λ from to q. is_made (s.ends (addressee q)).place ≡ true) is.addressees (λ from to q has a. a) (λ to what has. (well to what has).made);
      }
    where
      names : (k : ℕ) (e : EndId) → NamesBelow n (entry_at u k e)
      names k e = by (eqb_tells k c.kernel)
        where
          by : ((nat_eq k c.kernel ≡ true) × (k ≡ c.kernel)) ⊎ ((nat_eq k c.kernel ≡ false) × (k ≢ c.kernel)) → NamesBelow n (entry_at u k e)
          by (inl at) = subst (λ j. NamesBelow n (u.entry j e)) (sym at.1) (subst (NamesBelow n) (sym (b.entry e)) (quiet.names e))
          by (inr at) = subst (NamesBelow n) (sym (b.others k e at.0)) (is.entries k e)

      nothing : (from to : ℕ) → (n ≤ from) ⊎ (n ≤ to) → (q : Picture) → Contains (b.left from to) q ⊎ (Contains c.packets (to, q.what) × (from ≡ c.kernel)) → ⊥
      nothing from to far q (inl has) = none-there q (subst (λ l. Contains l q) (is.lists from to far) (left-before b from to q has))
      nothing from to (inl far) q (inr has) = let below = quiet.kernel in let same = has.1 in omega (arith, far, same, below)
      nothing from to (inr far) q (inr has) = let below = (well to q.what has.0).below in omega (arith, far, below)

  few-still : (i : ℕ) → ((e : EndId) (at : Stand) (m : MovingPicture) → HasFields w e at m → IsFew i m) → (e : EndId) (at : Stand) (m : MovingPicture) → HasFields u e at m → IsFew (i + 1) m
  few-still i few e at l has =
      let m = fields-was e at l has in
      let old = few e at m.0 m.1 in
      let hops : l.hops ≡ m.0.hops = ap (λ (z : MovingPicture). z.hops) m.2 in
      let sent : l.sent ≡ m.0.sent = ap (λ (z : MovingPicture). z.sent) m.2 in
      let asked : l.asked ≡ m.0.asked = ap (λ (z : MovingPicture). z.asked) m.2 in
      record { hops = omega (arith, hops, old.hops); sent = omega (arith, sent, old.sent); asked = omega (arith, asked, old.asked) }

  marked-still : (e : EndId) → AreMarked w s.ends e → AreMarked u s.ends e
  marked-still e is =
      record {
        destroyed = λ k l at. let m = mark k l at in is.destroyed k m.0 m.1;
        once = λ j k l r at there. let m = mark j l at in let o = mark k r there in is.once j k m.0 o.0 m.1 o.1;
      }
    where
      mark : (k : ℕ) (l : MovingPicture) → entry_at u k e ≡ entry.Destroyed l → (m : MovingPicture) × (entry_at w k e ≡ entry.Destroyed m)
      mark k l at = mark-was (w.entry k e) (u.entry k e) l (entry-quietly k e) at

  counted-still : (e : EndId) → AreCounted w s.ends e → AreCounted u s.ends e
  counted-still e is =
      record {
        sent = λ at l living has. let m = fields-was e at l has in ap (λ (z : MovingPicture). z.sent) m.2 ∙ is.sent at m.0 living m.1;
        dead = λ at l living has. let m = fields-was e at l has in ap (λ (z : MovingPicture). z.dead) m.2 ∙ is.dead at m.0 living m.1;
        unwanted = λ at l living noticed has. let m = fields-was e at l has in ap (λ (z : MovingPicture). z.want) m.2 ∙ is.unwanted at m.0 living noticed m.1;
      }

  asked-still : (e : EndId) → AreAsked w s e → AreAsked u s e
  asked-still e is =
      record {
        last = λ k x r there asked.
            let v = seen k e x there in
            is.last k v.0 r v.1 (subst (IsAskedAs r) (inward-like v.0 x v.2) asked) ∙ sym (ap (λ (z : MovingPicture). z.asked) v.2.1);
        cancelled = λ k x r p there withdrawing held.
            let v = seen k e x there in
            is.cancelled k v.0 r p v.1 (sym (inward-like v.0 x v.2) ∙ withdrawing) (sym (holder-like v.0 x v.2) ∙ held);
      }

  pub withdrawing-still : (k : ℕ) (e : EndId) → IsHereAnd (entry_at w k e) (λ v. is_withdrawing v.inward ≡ true) → IsHereAnd (entry_at u k e) (λ v. is_withdrawing v.inward ≡ true)
  withdrawing-still k e = is-still k e (λ v. is_withdrawing v.inward ≡ true) (λ v x like is. ap is_withdrawing (inward-like v x like) ∙ is)

  served-still : (e : EndId) → IsServed w s.ends e → IsServed u s.ends e
  served-still e is k x r at l there asked unposted living has =
      let v = seen k e x there in
      let m = fields-was (opposite e) at l has in
      subst (λ z. r ≤ z) (sym (ap (λ (z : MovingPicture). z.served) m.2)) (is k v.0 r at m.0 v.1 (subst (IsAskedAs r) (inward-like v.0 x v.2) asked) unposted living m.1)

  unwanted-still : (e : EndId) → IsUnwantedOnce w s.ends e → IsUnwantedOnce u s.ends e
  unwanted-still e is noticed = subst (λ z. z ≤ 1) (sym (number-same (is_unwanted_to e) (unwanted-quiet e))) (is noticed)

  packets-still : Each w (λ from to q. IsPacketRight w s.ends from to q) → Each u (λ from to q. IsPacketRight u s.ends from to q)
  packets-still is =
      each-after b (λ from to q. IsPacketRight w s.ends from to q) (λ from to q. IsPacketRight u s.ends from to q) is (λ from to q has a. right from to q.what a)
      (λ to what has. sent-right u s.ends c.kernel to what (well to what has).quiet (well to what has).gone)
    where
      stays : (k : ℕ) (e : EndId) → IsHereIfLiving w s.ends k e (λ v. Unit {0}) → IsHereIfLiving u s.ends k e (λ v. Unit {0})
      stays k e is = λ living. is-still k e (λ v. Unit {0}) (λ v x like a. tt) (is living)

      right : (from to : ℕ) (q : PictureWhat) → IsPacketRight w s.ends from to q → IsPacketRight u s.ends from to q
      right from to (packet.Parcel e m wanted at hops bytes ms) is =
          record {
            matched = is.matched;
            number = is.number;
            sender = is.sender;
            site = λ living. is-still from (opposite e) (λ v. v.value.hops ≡ hops) (λ v x like same. ap (λ (z : MovingPicture). z.hops) like.1 ∙ same) (is.site living);
            meets = λ open_is. is-still to e (λ v. IsAskedAs wanted v.inward) (λ v x like asked. subst (IsAskedAs wanted) (sym (inward-like v x like)) asked) (is.meets open_is);
          }
      right from to (packet.Back f m ms) is = record { matched = is.matched; untaken = is.untaken; site = stays to f is.site }
      right from to (packet.Taken f m at hops) is = record { taken = is.taken; number = is.number; taker = is.taker; site = stays to f is.site }
      right from to (packet.Gone e at) is = is
      right from to (packet.Unwanted e r at hops) is = λ noticed. is-still to e (λ v. v.inward ≡ kernel_inward.Withdrawing r) (λ v x like withdrawing. inward-like v x like ∙ withdrawing) (is noticed)
      right from to _ is = tt

  once-still : (f : EndId) → AreSentOnce w s.ends f → AreSentOnce u s.ends f
  once-still f is =
      record {
        message = number-same (is_message_of f) (message-quiet f) ∙ is.message;
        taken = subst (λ z. z ≤ one_if (is_taken (s.ends f).outward)) (sym (number-same (is_taken_of f) (taken-quiet f))) is.taken;
        told = λ living. number-same (is_taken_of f) (taken-quiet f) ∙ is.told living;
      }

  -- what was heard is no more than true where it is so of the fields before
  honest-still : ((e : EndId) (at : Stand) (m : MovingPicture) (j h : ℕ) → HasFields w e at m → IsHeard u e j h → IsNoMore at m.hops j h) → (e : EndId) → IsHonest u e
  honest-still heard e at l j h has is =
      let m = fields-was e at l has in
      subst (λ z. IsNoMore at z j h) (sym (ap (λ (z : MovingPicture). z.hops) m.2)) (heard e at m.0 j h m.1 is)

  -- all clauses on links
  pub right-still : (i : ℕ) → AreRight i w s → ((e : EndId) (at : Stand) (m : MovingPicture) (j h : ℕ) → HasFields w e at m → IsHeard u e j h → IsNoMore at m.hops j h) → ((e : EndId) → AreWanted u s.ends e) → AreRight (i + 1) u s
  right-still i is heard wanted =
      record {
        named = named-still is.named;
        few = few-still i is.few;
        marked = λ e. marked-still e (is.marked e);
        counted = λ e. counted-still e (is.counted e);
        honest = honest-still heard;
        asked = λ e. asked-still e (is.asked e);
        cancelling = λ p e at. withdrawing-still (home_of s p) e (is.cancelling p e at);
        served = λ e. served-still e (is.served e);
        wanted = wanted;
        unwanted = λ e. unwanted-still e (is.unwanted e);
        packets = packets-still is.packets;
        once = λ f. once-still f (is.once f);
      }
