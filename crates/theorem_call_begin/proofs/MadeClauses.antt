-- After a granted Make all clauses on links are true again.
use Rattle.std.proofs.Common.{◌≡◌, ◌⊎◌, inl, inr, ℕ, ◌+◌, ◌<◌, ◌≤◌, Bool, true, Contains, length, slice_index, is_some, refl, sym, ap, subst, ◌∙◌, arith, length-set}
use Rattle.charlotte_packets.specs.Moving.{new_end}
use Rattle.charlotte_calls.specs.Names.{opposite}
use Rattle.charlotte_calls.specs.declared.names.EndId.{EndId}
use Rattle.charlotte_calls.specs.declared.names.Pid.{Pid}
use Rattle.charlotte_packets.specs.declared.picture.MovingPicture.{MovingPicture}
use Rattle.charlotte_packets.specs.declared.picture.Picture.{Picture}
use Rattle.charlotte_packets.specs.declared.picture.PictureWhat.{PictureWhat}
use Rattle.end_table.specs.Table.{IsHereAnd}
use Rattle.end_table.specs.declared.entry.Entry.{Entry}
use Rattle.end_table.specs.declared.entry.Entry.TheVariants as entry
use Rattle.end_table.specs.declared.entry.HereView.{HereView}
use Rattle.theorem_take_silent.specs.Calls.{make_effect}
use Rattle.kernel_sound.specs.Sound.{addressee}
use Rattle.kernel_step.specs.Actions.{is_withdrawing}
use Rattle.kernel_step.specs.Calls.{made_end}
use Rattle.theorem_meaning.specs.World.{World}
use Rattle.service_step.specs.Ends.{is_made, is_taken, matched_message}
use Rattle.service_step.specs.State.{State}
use Rattle.service_step.specs.declared.state.End.{End}
use Rattle.service_step.specs.declared.state.Outward.{Outward}
use Rattle.theorem_take_silent.proofs.Addressees.{asking-to, news-to, unwant-to}
use Rattle.theorem_take_silent.proofs.Lists.{none-there}
use Rattle.theorem_take_silent.proofs.NamedAfter.{named-after}
use Rattle.theorem_take_silent.proofs.Packets.{each-after, left-before}
use Rattle.theorem_take_silent.proofs.Sums.{sum_over-same}
use Rattle.theorem_take_silent.specs.Named.{NamesWithin}
use Rattle.theorem_meaning.proofs.Frame.{frame-counted, frame-honest, frame-marked, frame-once, frame-packet, frame-served, frame-wanted, had-fields}
use Rattle.theorem_meaning.specs.Fields.{Stand, At, HasFields, IsAskedAs, IsAsking, IsHeard, IsNews, IsNoMore, IsUnserved, IsUnwantOf, value_of}
use Rattle.theorem_meaning.specs.Invariant.{AreAsked, AreCancelling, AreCounted, AreMarked, AreNamed, AreRight, AreSentOnce, AreWanted, IsFew, IsHonest, IsPacketRight, IsServed, IsUnwantedOnce, is_message_of, is_taken_of, is_unwanted_to}
use Rattle.theorem_meaning.specs.Packets.{Each, IsUnderWay, Links, how_many, links_of, one_if}
use Rattle.theorem_meaning.specs.StandsFor.{entry_at, home_of}
use Rattle.theorem_call_begin.proofs.Making.{IsNew, Making, after_making, ends-like, entry-or, is-new-view, new-end, new-fields, new-or, new_view, no-fields, no-packet, old-end, old-entry, old-link, packet-same}

module _ {i : ℕ} {w : World} {s : State} {k : ℕ} {p : Pid} {u : Links} (x : Making i w s k p u) where
  abbrev l : Links
  l = links_of w

  abbrev t : State
  t = after_making s p (made_end k (w.kernel k).made)

  right : AreRight i l s
  right = x.is.links

  -- no packet afterwards is of a kind that is addressed to a new end
  none-for : (f : EndId) → IsNew x f → (P : PictureWhat → Type 0) → ((q : PictureWhat) → P q → addressee q ≡ f) → IsUnderWay u P → ⊥
  none-for f link P to is = no-packet x f link P to ((packet-same x P).0 is)

  -- ---- entries and fields

  marked-after : (f : EndId) → AreMarked u t.ends f
  marked-after f = by (new-or x f)
    where
      by : IsNew x f ⊎ (IsNew x f → ⊥) → AreMarked u t.ends f
      by (inr old) = frame-marked l u f (old-link x f old) s.ends t.ends (old-end x f old) (old-end x (opposite f) old) (right.marked f)
      by (inl link) = record { destroyed = λ j m at. absurd (none j m at); once = λ j h m o at there. absurd (none j m at) }
        where
          none : (j : ℕ) (m : MovingPicture) → entry_at u j f ≡ entry.Destroyed m → ⊥
          none j m at = which (entry-or x j f link)
            where
              which : ((j ≡ k) × (u.entry j f ≡ entry.Here (new_view k p f))) ⊎ (u.entry j f ≡ l.entry j f) → ⊥
              which (inl is) = let differ : entry.Here (new_view k p f) ≡ entry.Destroyed m = sym is.1 ∙ at in cc
              which (inr same) = no-fields x f link (At j) m (ap value_of (sym same ∙ at))

  few-after : (f : EndId) (at : Stand) (m : MovingPicture) → HasFields u f at m → IsFew (i + 1) m
  few-after f at m has = by (new-or x f)
    where
      by : IsNew x f ⊎ (IsNew x f → ⊥) → IsFew (i + 1) m
      by (inl link) = subst (IsFew (i + 1)) (new-fields x f link at m has).1 (record { hops = omega arith; sent = omega arith; asked = omega arith })
      by (inr old) =
          let few : IsFew i m = right.few f at m (had-fields l u f (old-link x f old) at m has) in
          record { hops = omega (arith, few.hops); sent = omega (arith, few.sent); asked = omega (arith, few.asked) }

  counted-after : (f : EndId) → AreCounted u t.ends f
  counted-after f = by (new-or x f)
    where
      by : IsNew x f ⊎ (IsNew x f → ⊥) → AreCounted u t.ends f
      by (inr old) = frame-counted l u f (old-link x f old) s.ends t.ends (old-end x f old) (old-end x (opposite f) old) (right.counted f)
      by (inl link) =
          record {
            sent = λ at m living has. sym (ap (λ (z : MovingPicture). z.sent) (new-fields x f link at m has).1) ∙ sym (ap (λ (y : End). y.sent) (new-end x f link));
            dead = λ at m living has. sym (ap (λ (z : MovingPicture). z.dead) (new-fields x f link at m has).1) ∙ sym (ap (λ (y : End). y.noticed) (new-end x f link));
            unwanted = λ at m living noticed has. sym (ap (λ (z : MovingPicture). z.want) (new-fields x f link at m has).1);
          }

  honest-after : (f : EndId) → IsHonest u f
  honest-after f = by (new-or x f)
    where
      by : IsNew x f ⊎ (IsNew x f → ⊥) → IsHonest u f
      by (inr old) = frame-honest l u f (old-link x f old) (right.honest f)
      by (inl link) = λ at m j h has heard. near at m j h (new-fields x f link at m has) heard
        where
          near : (at : Stand) (m : MovingPicture) (j h : ℕ) → (at ≡ At k) × (new_end f k ≡ m) → IsHeard u f j h → IsNoMore at m.hops j h
          near at m j h own (inr news) = absurd (none-for (opposite f) link (IsNews (opposite f) j h) (news-to (opposite f) j h) news)
          near at m j h own (inl hinted) =
              let other = new-fields x (opposite f) link hinted.stand hinted.fields hinted.are in
              let site : k ≡ j = ap (λ (z : MovingPicture). z.hint.0) other.1 ∙ ap (λ (z : ℕ × ℕ). z.0) hinted.hint in
              let hops : 0 ≡ h = ap (λ (z : MovingPicture). z.hint.1) other.1 ∙ ap (λ (z : ℕ × ℕ). z.1) hinted.hint in
              subst (λ z. IsNoMore z m.hops j h) (sym own.0) (subst (λ (z : MovingPicture). IsNoMore (At k) z.hops j h) own.1 (omega (arith, hops), λ is. sym site))

  -- ---- receives

  asked-after : (f : EndId) → AreAsked u t f
  asked-after f = by (new-or x f)
    where
      by : IsNew x f ⊎ (IsNew x f → ⊥) → AreAsked u t f
      by (inr old) =
          record {
            last = λ j v n there asked. (right.asked f).last j v n (sym (old-entry x j f old) ∙ there) asked;
            cancelled = λ j v n q there withdrawing held. (right.asked f).cancelled j v n q (sym (old-entry x j f old) ∙ there) withdrawing held;
          }
      by (inl link) =
          record {
            last = λ j v n there asked. absurd (idle j v n there asked);
            cancelled = λ j v n q there withdrawing held. absurd (idle j v n there (subst (IsAskedAs n) (sym withdrawing) refl));
          }
        where
          idle : (j : ℕ) (v : HereView) (n : ℕ) → entry_at u j f ≡ entry.Here v → IsAskedAs n v.inward → ⊥
          idle j v n there asked = subst (λ (z : HereView). IsAskedAs n z.inward) (sym (is-new-view x f link j v there).1) asked

  cancelling-after : AreCancelling u t
  cancelling-after q f at = by (new-or x f)
    where
      was : IsHereAnd (entry_at l (home_of s q) f) (λ v. is_withdrawing v.inward ≡ true)
      was = right.cancelling q f at

      by : IsNew x f ⊎ (IsNew x f → ⊥) → IsHereAnd (entry_at u (home_of s q) f) (λ v. is_withdrawing v.inward ≡ true)
      by (inr old) = subst (λ y. IsHereAnd y (λ v. is_withdrawing v.inward ≡ true)) (sym (old-entry x (home_of s q) f old)) was
      by (inl link) = absurd (away (l.entry (home_of s q) f) refl was)
        where
          away : (y : Entry) → l.entry (home_of s q) f ≡ y → IsHereAnd y (λ v. is_withdrawing v.inward ≡ true) → ⊥
          away (entry.Here v) there is = no-fields x f link (At (home_of s q)) v.value (ap value_of there)
          away _ there is = absurd is

  served-after : (f : EndId) → IsServed u t.ends f
  served-after f = by (new-or x f)
    where
      by : IsNew x f ⊎ (IsNew x f → ⊥) → IsServed u t.ends f
      by (inr old) = frame-served l u f (old-link x f old) s.ends t.ends (old-end x f old) (old-end x (opposite f) old) (right.served f)
      by (inl link) = λ j v n at m there asked unposted living has. absurd (subst (λ (z : HereView). IsAskedAs n z.inward) (sym (is-new-view x f link j v there).1) asked)

  wanted-after : (f : EndId) → AreWanted u t.ends f
  wanted-after f = by (new-or x f)
    where
      by : IsNew x f ⊎ (IsNew x f → ⊥) → AreWanted u t.ends f
      by (inr old) = frame-wanted l u f (old-link x f old) s.ends t.ends (old-end x f old) (old-end x (opposite f) old) (right.wanted f)
      by (inl link) =
          record {
            kept = λ at m opened has. inl (want at m has);
            same = λ at m n j h o a g opened has one other. absurd (none at m n j h has one);
            posted = λ at m n j h opened has one. absurd (none at m n j h has one);
            site = λ at m n j h opened has one living. absurd (none at m n j h has one);
            unwanted = λ at m n opened has low one. absurd (none-for f link (IsUnwantOf f n) (unwant-to f n) one);
          }
        where
          want : (at : Stand) (m : MovingPicture) → HasFields u f at m → m.want ≡ 0
          want at m has = sym (ap (λ (z : MovingPicture). z.want) (new-fields x f link at m has).1)

          none : (at : Stand) (m : MovingPicture) (n j h : ℕ) → HasFields u f at m → IsUnserved u f m n j h → ⊥
          none at m n j h has (inl is) = let zero_is : m.want ≡ 0 = want at m has in let is_n : m.want ≡ n = is.0 in let above : 0 < n = is.1 in omega (arith, zero_is, is_n, above)
          none at m n j h has (inr is) = none-for f link (IsAsking f n j h) (asking-to f n j h) is.1

  -- ---- how many packets

  number-same : (test : PictureWhat → Bool) → how_many test u ≡ how_many test l
  number-same test = sum_over-same (λ q. one_if (test q)) x.changes tt tt

  noticed-same : (f : EndId) → (t.ends f).noticed ≡ (s.ends f).noticed
  noticed-same f = ap (λ (y : End). y.noticed) (ends-like x f)

  outward-is : (f : EndId) → (t.ends f).outward ≡ (s.ends f).outward
  outward-is f = ap (λ (y : End). y.outward) (ends-like x f)

  unwanted-after : (f : EndId) → IsUnwantedOnce u t.ends f
  unwanted-after f noticed = subst (λ z. z ≤ 1) (sym (number-same (is_unwanted_to f))) (right.unwanted f (sym (noticed-same f) ∙ noticed))

  once-after : (f : EndId) → AreSentOnce u t.ends f
  once-after f = by (new-or x f)
    where
      by : IsNew x f ⊎ (IsNew x f → ⊥) → AreSentOnce u t.ends f
      by (inr old) = frame-once l u f (old-link x f old) s.ends t.ends (old-end x f old) (old-end x (opposite f) old) (number-same (is_message_of f)) (number-same (is_taken_of f)) (right.once f)
      by (inl link) =
          let taken : how_many (is_taken_of f) u ≤ one_if (is_taken (t.ends f).outward)
          = subst (λ z. z ≤ one_if (is_taken (t.ends f).outward)) (sym (number-same (is_taken_of f))) (subst (λ (y : Outward). how_many (is_taken_of f) l ≤ one_if (is_taken y)) (sym (outward-is f)) (right.once f).taken) in
          let none : one_if (is_taken (t.ends f).outward) ≡ 0 = ap (λ (y : End). one_if (is_taken y.outward)) (new-end x f link) in
          record {
            message = number-same (is_message_of f) ∙ (right.once f).message ∙ sym (ap (λ (y : Outward). one_if (is_some (matched_message y))) (outward-is f));
            taken = taken;
            told = λ living. omega (arith, taken, none);
          }

  -- ---- each packet

  packets-after : Each u (λ from to q. IsPacketRight u t.ends from to q)
  packets-after =
      each-after x.changes (λ from to q. IsPacketRight l s.ends from to q) (λ from to q. IsPacketRight u t.ends from to q) right.packets
      (λ from to q has is. still from to q (left-before x.changes from to q has) is) (λ to what has. absurd (none-there (to, what) has))
    where
      still : (from to : ℕ) (q : Picture) → Contains (w.packets from to) q → IsPacketRight l s.ends from to q.what → IsPacketRight u t.ends from to q.what
      still from to q has is = by (new-or x (addressee q.what))
        where
          by : IsNew x (addressee q.what) ⊎ (IsNew x (addressee q.what) → ⊥) → IsPacketRight u t.ends from to q.what
          by (inl link) = absurd (no-packet x (addressee q.what) link (λ r. r ≡ q.what) (λ r same. ap addressee same) (record { from = from; to = to; packet = q; there = has; is = refl }))
          by (inr old) =
              frame-packet l u (addressee q.what) (old-link x (addressee q.what) old) s.ends t.ends (old-end x (addressee q.what) old) (old-end x (opposite (addressee q.what)) old) from to q.what refl is

  -- ---- names

  made-after : (f : EndId) → is_made (s.ends f).place ≡ true → is_made (t.ends f).place ≡ true
  made-after f is = by (new-or x f)
    where
      by : IsNew x f ⊎ (IsNew x f → ⊥) → is_made (t.ends f).place ≡ true
      by (inl link) = ap (λ (y : End). is_made y.place) (new-end x f link)
      by (inr old) = ap (λ (y : End). is_made y.place) (old-end x f old) ∙ is

  -- all clauses, where the effect names no kernel that there is not
  pub made-right : NamesWithin (length s.made) (make_effect k (w.kernel k).made p) → AreRight (i + 1) u t
  made-right names =
      record {
        named = subst (λ n. AreNamed n u t.ends) (sym (length-set s.made k (slice_index s.made k + 1))) (named-after (length s.made) x.changes x.near right.named t.ends names.entries names.sent made-after tt);
        few = few-after;
        marked = marked-after;
        counted = counted-after;
        honest = honest-after;
        asked = asked-after;
        cancelling = cancelling-after;
        served = served-after;
        wanted = wanted-after;
        unwanted = unwanted-after;
        once = once-after;
        packets = packets-after;
      }
