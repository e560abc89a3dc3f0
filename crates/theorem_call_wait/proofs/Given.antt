-- A report is given: that way of its end, which was over, is idle, at its kernel and in the service. What is true of links stays true.
use Rattle.std.proofs.Common.{◌≡◌, ◌⊎◌, ◌↔◌, inl, inr, ℕ, ◌≤◌, true, length, Contains, is_some, refl, sym, ap, subst, ◌∙◌, arith}
use Rattle.std.proofs.lemmas.List.Elements.{All-contains}
use Rattle.charlotte_calls.specs.Names.{opposite}
use Rattle.charlotte_calls.specs.declared.names.EndId.{EndId}
use Rattle.charlotte_calls.specs.declared.names.Pid.{Pid}
use Rattle.charlotte_packets.specs.declared.picture.MovingPicture.{MovingPicture}
use Rattle.charlotte_packets.specs.declared.picture.PictureWhat.{PictureWhat}
use Rattle.charlotte_packets.specs.declared.picture.PictureWhat.TheVariants as packet
use Rattle.end_table.specs.Table.{IsHereAnd}
use Rattle.end_table.specs.declared.entry.Entry.{Entry}
use Rattle.end_table.specs.declared.entry.Entry.TheVariants as entry
use Rattle.end_table.specs.declared.entry.HereView.{HereView}
use Rattle.end_table.specs.declared.entry.Holder.{Holder}
use Rattle.end_table.specs.declared.entry.Holder.TheVariants as holder
use Rattle.end_table.specs.declared.entry.Inward.TheVariants as kernel_inward
use Rattle.end_table.specs.declared.entry.Outward.TheVariants as kernel_outward
use Rattle.kernel_sound.specs.Sound.{addressee}
use Rattle.kernel_step.specs.Actions.{is_withdrawing}
use Rattle.kernel_step.specs.Rows.{ends_in, is_here}
use Rattle.service_lawful.specs.Consistent.{is_open}
use Rattle.service_step.specs.Ends.{is_living, is_made, is_posted, is_taken, matched_message}
use Rattle.service_step.specs.State.{State, Process}
use Rattle.service_step.specs.declared.state.End.{End}
use Rattle.service_step.specs.declared.state.Inward.TheVariants as inward
use Rattle.service_step.specs.declared.state.Outward.TheVariants as outward
use Rattle.service_step.specs.declared.state.Phase.TheVariants as phase
use Rattle.service_step.specs.declared.state.Place.TheVariants as place
use Rattle.theorem_effects.proofs.Ends.{inward-same, outward-same}
use Rattle.theorem_effects.proofs.Lists.{All-there}
use Rattle.theorem_call_wait.proofs.Rested.{IsRested, IsRestedEntry, IsRestedView, asked-was, here-was, mark-was, rest-inward, rest-living, rest-matched, rest-open, rest-outward, rest-taken, rested-asked}
use Rattle.theorem_call_wait.proofs.Rested.{rested-here, rested-is_here, rested-names, rested-nothing, rested-value, rested-waiting, rested-withdrawing, rested-withdraws, view-was, waiting-was, withdraws-was}
use Rattle.theorem_meaning.proofs.Sums.{over-same}
use Rattle.theorem_meaning.specs.Fields.{Stand, At, Flying, HasFields, IsAskedAs, IsHeard, IsUnserved}
use Rattle.theorem_meaning.specs.Invariant.{AreAsked, AreCounted, AreMarked, AreNamed, AreRight, AreSentOnce, AreWanted, IsPacketRight, IsServed, IsUnwantedOnce, is_message_of, is_taken_of, is_unwanted_to}
use Rattle.theorem_meaning.specs.Packets.{Each, IsParcelFor, IsTakenOf, IsUnderWay, IsUnwantedOf, Links, how_many, one_if, over_kernels, sum_over, values_for, values_of}
use Rattle.theorem_meaning.specs.StandsFor.{AreLinksOf, IsEndOf, IsInMessage, IsInwardOf, IsOutwardOf, IsWaitingWith, entry_at, home_of, standing}

-- the kernel's view and the service's end rest in the same way
pub record AreTogether (v u : HereView) (x z : End) : Type 0 where
  pub outward : ((u.outward ≡ v.outward) × (z.outward ≡ x.outward)) ⊎ ((u.outward ≡ kernel_outward.Idle) × (z.outward ≡ outward.Idle))
  pub inward : ((u.inward ≡ v.inward) × (z.inward ≡ x.inward)) ⊎ ((u.inward ≡ kernel_inward.Idle) × (z.inward ≡ inward.Idle))

-- the same packets, other entries, ends and processes
module _ (w : Links) (y : ℕ → EndId → Entry) (s : State) (ends : EndId → End) (process : ℕ → Process)
    (entry_is : (k : ℕ) (e : EndId) → IsRestedEntry (w.entry k e) (y k e)) (end_is : (e : EndId) → IsRested (s.ends e) (ends e)) where
  abbrev pub now : Links
  now = record { entry = y; packets = w.packets }

  abbrev pub t : State
  t = record s { ends = ends; process = process }

  -- ---- packets and fields

  under : (P : PictureWhat → Type 0) → IsUnderWay now P ↔ IsUnderWay w P
  under P = (
    λ u. record { from = u.from; to = u.to; packet = u.packet; there = u.there; is = u.is },
    λ u. record { from = u.from; to = u.to; packet = u.packet; there = u.there; is = u.is },
  )

  sums : (f : PictureWhat → ℕ) → sum_over f now ≡ sum_over f w
  unfolding sum_over
  sums f = refl

  each-given : (P Q : ℕ → ℕ → PictureWhat → Type 0) → ((from to : ℕ) (q : PictureWhat) → P from to q → Q from to q) → Each w P → Each now Q
  each-given P Q gives is from to = All-there (λ q. Q from to q.what) (w.packets from to) (λ q has. gives from to q.what (All-contains (λ q. P from to q.what) (w.packets from to) q (is from to) has))

  had : (e : EndId) (at : Stand) (m : MovingPicture) → HasFields now e at m → HasFields w e at m
  had e (At k) m has = sym (rested-value (w.entry k e) (y k e) (entry_is k e)) ∙ has
  had e Flying m has = ((under (λ q. Contains (values_of q) m)).0 has.0, has.1)

  had-heard : (e : EndId) (j h : ℕ) → IsHeard now e j h → IsHeard w e j h
  had-heard e j h (inl is) = inl (record { stand = is.stand; fields = is.fields; are = had (opposite e) is.stand is.fields is.are; hint = is.hint })
  had-heard e j h (inr is) = inr ((under _).0 is)

  had-asking : (e : EndId) (m : MovingPicture) (n j h : ℕ) → IsUnserved now e m n j h → IsUnserved w e m n j h
  had-asking e m n j h (inl is) = inl is
  had-asking e m n j h (inr is) = inr (is.0, (under _).0 is.1)

  still-here : (k : ℕ) (e : EndId) (P : HereView → Type 0) → ((v u : HereView) → IsRestedView v u → P v → P u) → IsHereAnd (entry_at w k e) P → IsHereAnd (entry_at now k e) P
  still-here k e P gives has = rested-here (w.entry k e) (y k e) P P (entry_is k e) gives has

  seen : (k : ℕ) (e : EndId) (u : HereView) → entry_at now k e ≡ entry.Here u → (v : HereView) × (entry_at w k e ≡ entry.Here v) × IsRestedView v u
  seen k e u is = view-was (w.entry k e) (y k e) u (entry_is k e) is

  lived : (e : EndId) → is_living (ends e).place ≡ true → is_living (s.ends e).place ≡ true
  lived e lives = sym (rest-living (s.ends e) (ends e) (end_is e)) ∙ lives

  opened : (e : EndId) → is_open (ends e) ≡ true → is_open (s.ends e) ≡ true
  opened e open' = sym (rest-open (s.ends e) (ends e) (end_is e)) ∙ open'

  -- ---- clauses 2 to 5

  standing-given : (e : EndId) → standing now e ≡ standing w e
  unfolding standing
  standing-given e =
      let here : over_kernels (λ k. one_if (is_here (y k e))) ≡ over_kernels (λ k. one_if (is_here (w.entry k e)))
      = over-same (λ k. one_if (is_here (w.entry k e))) (λ k. one_if (is_here (y k e))) (λ k. ap one_if (rested-is_here (w.entry k e) (y k e) (entry_is k e))) in
      let values : sum_over (λ q. values_for e (values_of q)) now ≡ sum_over (λ q. values_for e (values_of q)) w = sums (λ q. values_for e (values_of q)) in
      omega (arith, here, values)

  held : (k : ℕ) (e : EndId) (h : Holder) → IsHereAnd (entry_at w k e) (λ v. v.holder ≡ h) ↔ IsHereAnd (entry_at now k e) (λ v. v.holder ≡ h)
  held k e h = (
    still-here k e (λ v. v.holder ≡ h) (λ v u r is. r.holder ∙ is),
    here-was (w.entry k e) (y k e) (λ v. v.holder ≡ h) (λ v. v.holder ≡ h) (entry_is k e) (λ v u r is. sym r.holder ∙ is),
  )

  waits : (k : ℕ) (f : EndId) (n : ℕ) → IsHereAnd (entry_at w k f) (λ v. IsWaitingWith n v.outward) ↔ IsHereAnd (entry_at now k f) (λ v. IsWaitingWith n v.outward)
  waits k f n = (
    still-here k f (λ v. IsWaitingWith n v.outward) (λ v u r is. rested-waiting v u r n is),
    here-was (w.entry k f) (y k f) (λ v. IsWaitingWith n v.outward) (λ v. IsWaitingWith n v.outward) (entry_is k f) (λ v u r is. waiting-was v u r n is),
  )

  in_message : (e f : EndId) (n : ℕ) → IsInMessage w e f n ↔ IsInMessage now e f n
  in_message e f n = (still, was)
    where
      still : IsInMessage w e f n → IsInMessage now e f n
      still (inl x) = inl (record { at = x.at; enclosed = (held x.at e (holder.EnclosedIn f)).0 x.enclosed; waiting = (waits x.at f n).0 x.waiting })
      still (inr (inl x)) = inr (inl ((under _).1 x))
      still (inr (inr x)) = inr (inr ((under _).1 x))

      was : IsInMessage now e f n → IsInMessage w e f n
      was (inl x) = inl (record { at = x.at; enclosed = (held x.at e (holder.EnclosedIn f)).1 x.enclosed; waiting = (waits x.at f n).1 x.waiting })
      was (inr (inl x)) = inr (inl ((under _).0 x))
      was (inr (inr x)) = inr (inr ((under _).0 x))

  end-given : (e : EndId) (v u : HereView) → IsRestedView v u → AreTogether v u (s.ends e) (ends e) → IsEndOf w e v (s.ends e) → IsEndOf now e u (ends e)
  end-given e v u r both is =
      record {
        sent = (end_is e).sent ∙ is.sent ∙ sym (ap (λ (z : MovingPicture). z.sent) r.value);
        noticed = (end_is e).noticed ∙ is.noticed ∙ sym (ap (λ (z : MovingPicture). z.dead) r.value);
        outward = out both.outward;
        inward = inn both.inward;
      }
    where
      out : ((u.outward ≡ v.outward) × ((ends e).outward ≡ (s.ends e).outward)) ⊎ ((u.outward ≡ kernel_outward.Idle) × ((ends e).outward ≡ outward.Idle)) → IsOutwardOf now e (ends e).sent u.outward (ends e).outward
      out (inl b) =
          subst (λ n. IsOutwardOf now e n u.outward (ends e).outward) (sym (end_is e).sent)
          (subst (λ o. IsOutwardOf now e (s.ends e).sent o (ends e).outward) (sym b.0)
          (subst (λ o. IsOutwardOf now e (s.ends e).sent v.outward o) (sym b.1) (outward-same w now e (λ m. under (IsTakenOf e m)) (s.ends e).sent v.outward (s.ends e).outward is.outward)))
      out (inr b) = subst (λ o. IsOutwardOf now e (ends e).sent o (ends e).outward) (sym b.0) (subst (λ o. IsOutwardOf now e (ends e).sent kernel_outward.Idle o) (sym b.1) tt)

      inn : ((u.inward ≡ v.inward) × ((ends e).inward ≡ (s.ends e).inward)) ⊎ ((u.inward ≡ kernel_inward.Idle) × ((ends e).inward ≡ inward.Idle)) → IsInwardOf now e u.inward (ends e).inward
      inn (inl b) =
          subst (λ i. IsInwardOf now e i (ends e).inward) (sym b.0)
          (subst (λ i. IsInwardOf now e v.inward i) (sym b.1) (inward-same w now e (λ r m. under (IsParcelFor e r m)) (λ r. under (IsUnwantedOf e r)) v.inward (s.ends e).inward is.inward))
      inn (inr b) = subst (λ i. IsInwardOf now e i (ends e).inward) (sym b.0) (subst (λ i. IsInwardOf now e kernel_inward.Idle i) (sym b.1) tt)

  -- where the owner's kernel and the service have the same of each end
  pub links-given : ((e : EndId) (p : Pid) (v u : HereView) → (s.ends e).place ≡ place.Owned p → entry_at w (home_of s p) e ≡ entry.Here v → entry_at now (home_of s p) e ≡ entry.Here u → AreTogether v u (s.ends e) (ends e))
      → AreLinksOf w s → AreLinksOf now t
  links-given both is =
      record {
        once = λ e. standing-given e ∙ is.once e ∙ sym (ap one_if (rest-living (s.ends e) (ends e) (end_is e)));
        owned = λ e p. (
          λ at. (held (home_of s p) e (holder.Owner p)).0 ((is.owned e p).0 (sym (end_is e).place ∙ at)),
          λ has. (end_is e).place ∙ (is.owned e p).1 ((held (home_of s p) e (holder.Owner p)).1 has),
        );
        in_message = λ e f n. (λ at. (in_message e f n).0 ((is.in_message e f n).0 (sym (end_is e).place ∙ at)), λ has. (end_is e).place ∙ (is.in_message e f n).1 ((in_message e f n).1 has));
        agree = λ e p u at there.
            let v = seen (home_of s p) e u there in
            let was = sym (end_is e).place ∙ at in
            end-given e v.0 u v.2 (both e p v.0 u was v.1 there) (is.agree e p v.0 was v.1);
      }

  -- ---- what is true of every world

  named-given : AreNamed (length s.made) w s.ends → AreNamed (length s.made) now ends
  named-given is =
      record {
        entries = λ k e. rested-names (length s.made) (w.entry k e) (y k e) (entry_is k e) (is.entries k e);
        away = λ k e far. rested-nothing (w.entry k e) (y k e) (entry_is k e) (is.away k e far);
        lists = is.lists;
        addressed = is.addressed;
        addressees = each-given (λ from to q. is_made (s.ends (addressee q)).place ≡ true) (λ from to q. is_made (ends (addressee q)).place ≡ true)
            (λ from to q made. ap is_made (end_is (addressee q)).place ∙ made) is.addressees;
      }

  marked-given : (e : EndId) → AreMarked w s.ends e → AreMarked now ends e
  marked-given e is =
      record {
        destroyed = λ k m at. (end_is e).place ∙ is.destroyed k m (mark-was (w.entry k e) (y k e) m (entry_is k e) at);
        once = λ j k m l at there. is.once j k m l (mark-was (w.entry j e) (y j e) m (entry_is j e) at) (mark-was (w.entry k e) (y k e) l (entry_is k e) there);
      }

  counted-given : (e : EndId) → AreCounted w s.ends e → AreCounted now ends e
  counted-given e is =
      record {
        sent = λ at m lives has. is.sent at m (lived e lives) (had e at m has) ∙ sym (end_is e).sent;
        dead = λ at m lives has. is.dead at m (lived e lives) (had e at m has) ∙ sym (end_is e).noticed;
        unwanted = λ at m lives noticed has. is.unwanted at m (lived e lives) (sym (end_is e).noticed ∙ noticed) (had e at m has);
      }

  asked-given : ((q : Pid) (e : EndId) → (s.process q.0).phase ≡ phase.Cancelling e → (process q.0).phase ≡ phase.Cancelling e) → (e : EndId) → AreAsked w s e → AreAsked now t e
  asked-given still e is =
      record {
        last = λ k u n there asked.
            let v = seen k e u there in
            is.last k v.0 n v.1 (asked-was v.0 u v.2 n asked) ∙ sym (ap (λ (z : MovingPicture). z.asked) v.2.value);
        cancelled = λ k u n q there withdrawing owner.
            let v = seen k e u there in
            still q e (is.cancelled k v.0 n q v.1 (withdraws-was v.0 u v.2 n withdrawing) (sym v.2.holder ∙ owner));
      }

  withdrawing-given : (k : ℕ) (e : EndId) → IsHereAnd (entry_at w k e) (λ v. is_withdrawing v.inward ≡ true) → IsHereAnd (entry_at now k e) (λ v. is_withdrawing v.inward ≡ true)
  withdrawing-given k e = still-here k e (λ v. is_withdrawing v.inward ≡ true) (λ v u r is. rested-withdrawing v u r is)

  posted-same : (e : EndId) → is_posted (ends e).inward ≡ is_posted (s.ends e).inward
  posted-same e = rest-inward (s.ends e) (ends e) (end_is e) is_posted refl

  served-given : (e : EndId) → IsServed w s.ends e → IsServed now ends e
  served-given e is k u n at m there asked unposted lives has =
      let v = seen k e u there in
      is k v.0 n at m v.1 (asked-was v.0 u v.2 n asked) (sym (posted-same e) ∙ unposted) (lived (opposite e) lives) (had (opposite e) at m has)

  wanted-given : (e : EndId) → AreWanted w s.ends e → AreWanted now ends e
  wanted-given e is =
      record {
        kept = λ at m open' has. is.kept at m (opened e open') (had e at m has);
        same = λ at m n j h o i g open' has one two. is.same at m n j h o i g (opened e open') (had e at m has) (had-asking e m n j h one) (had-asking e m o i g two);
        posted = λ at m n j h open' has asks. posted-same (opposite e) ∙ is.posted at m n j h (opened e open') (had e at m has) (had-asking e m n j h asks);
        site = λ at m n j h open' has asks lives.
            still-here j (opposite e) (λ v. (v.value.hops ≡ h) × (v.value.asked ≡ n)) (λ v u r is. subst (λ (z : MovingPicture). (z.hops ≡ h) × (z.asked ≡ n)) (sym r.value) is)
            (is.site at m n j h (opened e open') (had e at m has) (had-asking e m n j h asks) (lived (opposite e) lives));
        unwanted = λ at m n open' has low taken_back.
            let there = is.unwanted at m n (opened e open') (had e at m has) low ((under _).0 taken_back) in
            (there.0, withdrawing-given there.0 (opposite e) there.1);
      }

  unwanted-given : (e : EndId) → IsUnwantedOnce w s.ends e → IsUnwantedOnce now ends e
  unwanted-given e is noticed = subst (λ n. n ≤ 1) (sym (sums (λ q. one_if (is_unwanted_to e q)))) (is (sym (end_is e).noticed ∙ noticed))

  once-given : (f : EndId) → AreSentOnce w s.ends f → AreSentOnce now ends f
  once-given f is =
      record {
        message = sums (λ q. one_if (is_message_of f q)) ∙ is.message ∙ sym (rest-outward (s.ends f) (ends f) (end_is f) (λ o. one_if (is_some (matched_message o))) refl);
        taken = subst (λ n. n ≤ one_if (is_taken (ends f).outward)) (sym told) (subst (λ n. how_many (is_taken_of f) w ≤ n) (sym same) is.taken);
        told = λ lives. told ∙ is.told (lived f lives) ∙ sym same;
      }
    where
      told : how_many (is_taken_of f) now ≡ how_many (is_taken_of f) w
      told = sums (λ q. one_if (is_taken_of f q))

      same : one_if (is_taken (ends f).outward) ≡ one_if (is_taken (s.ends f).outward)
      same = rest-outward (s.ends f) (ends f) (end_is f) (λ o. one_if (is_taken o)) refl

  packet-given : (from to : ℕ) (q : PictureWhat) → IsPacketRight w s.ends from to q → IsPacketRight now ends from to q
  packet-given from to (packet.Parcel e n wanted at hops bytes ms) is =
      record {
        matched = rest-matched (s.ends (opposite e)) (ends (opposite e)) (end_is (opposite e)) (record { bytes = bytes; carried = ends_in ms }) is.matched;
        number = (end_is (opposite e)).sent ∙ is.number;
        sender = is.sender;
        site = λ lives. still-here from (opposite e) (λ v. v.value.hops ≡ hops) (λ v u r same. ap (λ (z : MovingPicture). z.hops) r.value ∙ same) (is.site (lived (opposite e) lives));
        meets = λ open'. still-here to e (λ v. IsAskedAs wanted v.inward) (λ v u r asked. rested-asked v u r wanted asked) (is.meets (opened e open'));
      }
  packet-given from to (packet.Back f n ms) is =
      record {
        matched =
            record {
              message = is.matched.message;
              matched = rest-matched (s.ends f) (ends f) (end_is f) is.matched.message is.matched.matched;
              carries = is.matched.carries;
              number = (end_is f).sent ∙ is.matched.number;
            };
        untaken = rest-open (s.ends (opposite f)) (ends (opposite f)) (end_is (opposite f)) ∙ is.untaken;
        site = λ lives. still-here to f (λ v. Unit {0}) (λ v u r here. tt) (is.site (lived f lives));
      }
  packet-given from to (packet.Taken f n at hops) is =
      record {
        taken = rest-taken (s.ends f) (ends f) (end_is f) is.taken;
        number = (end_is f).sent ∙ is.number;
        taker = is.taker;
        site = λ lives. still-here to f (λ v. Unit {0}) (λ v u r here. tt) (is.site (lived f lives));
      }
  packet-given from to (packet.Gone e at) is = (end_is (opposite e)).place ∙ is
  packet-given from to (packet.Unwanted e n at hops) is =
      λ noticed. still-here to e (λ v. v.inward ≡ kernel_inward.Withdrawing n) (λ v u r withdrawing. rested-withdraws v u r n withdrawing) (is (sym (end_is e).noticed ∙ noticed))
  packet-given from to _ is = tt

  -- where the same processes are in a Cancel
  pub right-given : ((q : Pid) (e : EndId) → (s.process q.0).phase ≡ phase.Cancelling e → (process q.0).phase ≡ phase.Cancelling e) → ((q : Pid) (e : EndId) → (process q.0).phase ≡ phase.Cancelling e → (s.process q.0).phase ≡ phase.Cancelling e)
      → (i : ℕ) → AreRight i w s → AreRight i now t
  right-given still was i is =
      record {
        named = named-given is.named;
        few = λ e at m has. is.few e at m (had e at m has);
        marked = λ e. marked-given e (is.marked e);
        counted = λ e. counted-given e (is.counted e);
        honest = λ e at m j h has heard. is.honest e at m j h (had e at m has) (had-heard e j h heard);
        asked = λ e. asked-given still e (is.asked e);
        cancelling = λ q e at. withdrawing-given (home_of s q) e (is.cancelling q e (was q e at));
        served = λ e. served-given e (is.served e);
        wanted = λ e. wanted-given e (is.wanted e);
        unwanted = λ e. unwanted-given e (is.unwanted e);
        once = λ f. once-given f (is.once f);
        packets = each-given (IsPacketRight w s.ends) (IsPacketRight now ends) packet-given is.packets;
      }
