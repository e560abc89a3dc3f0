-- The death of its link is noticed at an end: what is true of every world stays true. Packets are the same; w and s are before, y, t and g
-- the entries, ends and processes afterwards.
use Rattle.std.proofs.Common.{◌≡◌, ◌⊎◌, ◌↔◌, inl, inr, ℕ, ◌≤◌, Bool, true, false, ◌&&◌, if◌then◌else◌, List, length, is_some, refl, sym, ap, subst, ◌∙◌, true≢false}
use Rattle.std.proofs.lemmas.List.Elements.{All-contains}
use Rattle.std.specs.List.{list_any}
use Rattle.charlotte_calls.specs.Names.{opposite}
use Rattle.charlotte_calls.specs.declared.names.EndId.{EndId}
use Rattle.charlotte_calls.specs.declared.names.Pid.{Pid}
use Rattle.charlotte_packets.specs.declared.picture.MovingPicture.{MovingPicture}
use Rattle.charlotte_packets.specs.declared.picture.PictureWhat.{PictureWhat}
use Rattle.charlotte_packets.specs.declared.picture.PictureWhat.TheVariants as packet
use Rattle.end_table.proofs.EndEq.{end_eq-same}
use Rattle.end_table.specs.Place.{end_eq}
use Rattle.end_table.specs.Table.{IsHereAnd, IsIdle}
use Rattle.end_table.specs.declared.entry.Entry.{Entry}
use Rattle.end_table.specs.declared.entry.Entry.TheVariants as entry
use Rattle.end_table.specs.declared.entry.HereView.{HereView}
use Rattle.end_table.specs.declared.entry.Holder.TheVariants as holder
use Rattle.end_table.specs.declared.entry.Inward.TheVariants as kernel_inward
use Rattle.kernel_sound.specs.Sound.{addressee}
use Rattle.kernel_step.specs.Actions.{is_withdrawing}
use Rattle.kernel_step.specs.Rows.{ends_in}
use Rattle.service_lawful.specs.Consistent.{is_open}
use Rattle.service_step.specs.Ends.{is_living, is_made, is_taken}
use Rattle.service_step.specs.State.{Process, State}
use Rattle.service_step.specs.declared.state.End.{End}
use Rattle.service_step.specs.declared.state.Message.{Message}
use Rattle.service_step.specs.declared.state.Outward.TheVariants as outward
use Rattle.service_step.specs.declared.state.Phase.TheVariants as phase
use Rattle.service_step.specs.declared.state.Place.TheVariants as place
use Rattle.theorem_call_wait.proofs.Lists.{All-there}
use Rattle.theorem_meaning.proofs.Ends.{opposite-twice}
use Rattle.theorem_meaning.specs.Fields.{Stand, At, Flying, HasFields, IsAskedAs, IsHeard, IsNoMore, IsUnserved}
use Rattle.theorem_meaning.specs.Invariant.{AreAsked, AreCounted, AreMarked, AreNamed, AreRight, AreSentOnce, AreWanted, IsFew, IsPacketRight, IsServed, IsUnwantedOnce, is_message_of, is_taken_of, is_unwanted_to}
use Rattle.theorem_meaning.specs.Packets.{Each, IsUnderWay, Links, how_many, one_if, sum_over}
use Rattle.theorem_meaning.specs.StandsFor.{IsOwnedHere, IsWaitingWith, entry_at, home_of}
use Rattle.theorem_take_gone.proofs.Noticed.{IsLess, IsNoticedEnd, IsNoticedEntry, IsNoticedView, end-closed, end-destroyed, end-is_taken, end-living, end-made, end-matched, end-message, end-noticed, end-open}
use Rattle.theorem_take_gone.proofs.Noticed.{end-posted, end-sent, end-taken, entry-mark, entry-names, entry-nothing, entry-seen, entry-still, entry-value, view-asked, view-held, view-inward, view-less, view-value}

-- the death is noticed at e: entries and ends become those of NOTICE, and the owner is in no Cancel of e
pub record IsNoticing (w : Links) (y : ℕ → EndId → Entry) (s : State) (t : EndId → End) (g : ℕ → Process) (e : EndId) (p : Pid) (xs : List EndId) : Type 0 where
  pub entries : (j : ℕ) (q : EndId) → IsNoticedEntry e p xs q (w.entry j q) (y j q)
  pub ends : (q : EndId) → IsNoticedEnd e p xs q (s.ends q) (t q)
  -- it knows of the death, and is asked for nothing
  pub noticed : (t e).noticed ≡ true
  pub fields : (at : Stand) (m : MovingPicture) → HasFields (record { entry = y; packets = w.packets }) e at m → (m.dead ≡ true) × (m.want ≡ 0)
  -- its opposite is destroyed
  pub gone : (s.ends (opposite e)).place ≡ place.Destroyed
  -- those that it enclosed are all that its message carries, which waits
  pub waits : (q : EndId) → list_any (end_eq q) xs ≡ true → (m : Message) × ((s.ends e).outward ≡ outward.Waiting m)
  pub all : (j : ℕ) (q : EndId) (n : ℕ) → IsHereAnd (entry_at w j e) (λ v. IsWaitingWith n v.outward) → (s.ends q).place ≡ place.InMessage e n → list_any (end_eq q) xs ≡ true
  -- none is e itself; and p has each at its kernel
  pub none : list_any (end_eq e) xs ≡ false
  pub home : (q : EndId) → list_any (end_eq q) xs ≡ true → IsOwnedHere p (y (home_of s p) q)
  -- who is in a Cancel of another end stays there
  pub cancelled : (b : Pid) (f : EndId) → end_eq e f ≡ false → (s.process b.0).phase ≡ phase.Cancelling f → (g b.0).phase ≡ phase.Cancelling f
  pub cancelling : (b : Pid) (f : EndId) → (g b.0).phase ≡ phase.Cancelling f → (end_eq e f ≡ false) × ((s.process b.0).phase ≡ phase.Cancelling f)

module _ {w : Links} {y : ℕ → EndId → Entry} {s : State} {t : EndId → End} {g : ℕ → Process} {e : EndId} {p : Pid} {xs : List EndId} (is : IsNoticing w y s t g e p xs) where
  abbrev pub now : Links
  now = record { entry = y; packets = w.packets }

  abbrev pub after : State
  after = record s { ends = t; process = g }

  -- ---- packets and fields

  pub under : (P : PictureWhat → Type 0) → IsUnderWay now P ↔ IsUnderWay w P
  under P = (
    λ u. record { from = u.from; to = u.to; packet = u.packet; there = u.there; is = u.is },
    λ u. record { from = u.from; to = u.to; packet = u.packet; there = u.there; is = u.is },
  )

  pub sums : (f : PictureWhat → ℕ) → sum_over f now ≡ sum_over f w
  unfolding sum_over
  sums f = refl

  each-now : (P Q : ℕ → ℕ → PictureWhat → Type 0) → ((from to : ℕ) (q : PictureWhat) → P from to q → Q from to q) → Each w P → Each now Q
  each-now P Q gives are from to = All-there (λ q. Q from to q.what) (w.packets from to) (λ q has. gives from to q.what (All-contains (λ q. P from to q.what) (w.packets from to) q (are from to) has))

  had : (q : EndId) (at : Stand) (l : MovingPicture) → HasFields now q at l → (m : MovingPicture) × HasFields w q at m × IsLess m l × (end_eq e q ≡ false → l ≡ m)
  had q (At j) l has = entry-value (is.entries j q) l has
  had q Flying l has = (l, ((under _).0 has.0, has.1), refl, λ apart. refl)

  had-other : (q : EndId) → end_eq e q ≡ false → (at : Stand) (l : MovingPicture) → HasFields now q at l → HasFields w q at l
  had-other q apart at l has = let m = had q at l has in subst (HasFields w q at) (sym (m.3 apart)) m.1

  still : (j : ℕ) (q : EndId) (P Q : HereView → Type 0) → ((v u : HereView) → IsNoticedView e q v u → P v → Q u) → IsHereAnd (entry_at w j q) P → IsHereAnd (entry_at now j q) Q
  still j q P Q gives has = entry-still (is.entries j q) P Q gives has

  seen : (j : ℕ) (q : EndId) (u : HereView) → entry_at now j q ≡ entry.Here u → (v : HereView) × (entry_at w j q ≡ entry.Here v) × IsNoticedView e q v u
  seen j q u at = entry-seen (is.entries j q) u at

  lived : (q : EndId) → is_living (t q).place ≡ true → is_living (s.ends q).place ≡ true
  lived q lives = sym (end-living (is.ends q)) ∙ lives

  heard-was : (q : EndId) (j h : ℕ) → IsHeard now q j h → IsHeard w q j h
  heard-was q j h (inl has) = let m = had (opposite q) has.stand has.fields has.are in inl (record { stand = has.stand; fields = m.0; are = m.1; hint = sym (ap (λ (z : MovingPicture). z.hint) m.2) ∙ has.hint })
  heard-was q j h (inr has) = inr ((under _).0 has)

  asking-was : (q : EndId) (m : MovingPicture) (n j h : ℕ) → IsUnserved now q m n j h → IsUnserved w q m n j h
  asking-was q m n j h (inl has) = inl has
  asking-was q m n j h (inr has) = inr (has.0, (under _).0 has.1)

  -- an open end is neither of the two of the link
  open-was : (q : EndId) → is_open (t q) ≡ true → (end_eq e q ≡ false) × (end_eq e (opposite q) ≡ false) × (is_open (s.ends q) ≡ true)
  open-was q opens = (was.0, by (end_eq e (opposite q)) refl, was.1)
    where
      was : (end_eq e q ≡ false) × (is_open (s.ends q) ≡ true)
      was = end-open (is.ends q) opens

      by : (b : Bool) → end_eq e (opposite q) ≡ b → b ≡ false
      by true same =
          let other : opposite e ≡ q = ap opposite (end_eq-same e (opposite q) same) ∙ opposite-twice q in
          let shut : is_open (s.ends q) ≡ false = subst (λ z. is_open (s.ends z) ≡ false) other gone-closed in
          absurd (true≢false (sym was.1 ∙ shut))
        where
          gone-closed : is_open (s.ends (opposite e)) ≡ false
          gone-closed = ap (λ z. is_living z && (if (s.ends (opposite e)).noticed then false else true)) is.gone
      by false same = refl

  -- ---- what is true of every world

  named-now : AreNamed (length s.made) w s.ends → AreNamed (length s.made) now t
  named-now are =
      record {
        entries = λ j q. entry-names (is.entries j q) (length s.made) (are.entries j q);
        away = λ j q far. entry-nothing (is.entries j q) (are.away j q far);
        lists = are.lists;
        addressed = are.addressed;
        addressees = each-now (λ from to q. is_made (s.ends (addressee q)).place ≡ true) (λ from to q. is_made (t (addressee q)).place ≡ true) (λ from to q made. end-made (is.ends (addressee q)) ∙ made) are.addressees;
      }

  few-now : (i : ℕ) → ((q : EndId) (at : Stand) (m : MovingPicture) → HasFields w q at m → IsFew i m) → (q : EndId) (at : Stand) (m : MovingPicture) → HasFields now q at m → IsFew i m
  few-now i few q at l has =
      let m = had q at l has in
      let old = few q at m.0 m.1 in
      record {
        hops = subst (λ z. z ≤ i) (sym (ap (λ (z : MovingPicture). z.hops) m.2)) old.hops;
        sent = subst (λ z. z ≤ i) (sym (ap (λ (z : MovingPicture). z.sent) m.2)) old.sent;
        asked = subst (λ z. z ≤ i) (sym (ap (λ (z : MovingPicture). z.asked) m.2)) old.asked;
      }

  marked-now : (q : EndId) → AreMarked w s.ends q → AreMarked now t q
  marked-now q are =
      record {
        destroyed = λ j m at. end-destroyed (is.ends q) (are.destroyed j m (entry-mark (is.entries j q) m at));
        once = λ j k m l at there. are.once j k m l (entry-mark (is.entries j q) m at) (entry-mark (is.entries k q) l there);
      }

  counted-now : (q : EndId) → AreCounted w s.ends q → AreCounted now t q
  counted-now q are =
      record {
        sent = λ at l lives has. let m = had q at l has in ap (λ (z : MovingPicture). z.sent) m.2 ∙ are.sent at m.0 (lived q lives) m.1 ∙ sym (end-sent (is.ends q));
        dead = λ at l lives has. dead at l lives has (end_eq e q) refl;
        unwanted = λ at l lives noticed has. unwanted at l lives noticed has (end_eq e q) refl;
      }
    where
      dead : (at : Stand) (l : MovingPicture) → is_living (t q).place ≡ true → HasFields now q at l → (b : Bool) → end_eq e q ≡ b → l.dead ≡ (t q).noticed
      dead at l lives has true same =
          subst (λ z. l.dead ≡ (t z).noticed) (end_eq-same e q same) ((is.fields at l (subst (λ z. HasFields now z at l) (sym (end_eq-same e q same)) has)).0 ∙ sym is.noticed)
      dead at l lives has false apart = are.dead at l (lived q lives) (had-other q apart at l has) ∙ sym (end-noticed (is.ends q) apart)

      unwanted : (at : Stand) (l : MovingPicture) → is_living (t q).place ≡ true → (t q).noticed ≡ true → HasFields now q at l → (b : Bool) → end_eq e q ≡ b → l.want ≡ 0
      unwanted at l lives noticed has true same = (is.fields at l (subst (λ z. HasFields now z at l) (sym (end_eq-same e q same)) has)).1
      unwanted at l lives noticed has false apart = are.unwanted at l (lived q lives) (sym (end-noticed (is.ends q) apart) ∙ noticed) (had-other q apart at l has)

  asked-now : (q : EndId) → AreAsked w s q → AreAsked now after q
  asked-now q are =
      record {
        last = λ j u n at asked.
            let v = seen j q u at in
            let old = view-asked v.2 n asked in
            are.last j v.0 n v.1 old.1 ∙ sym (ap (λ (z : MovingPicture). z.asked) (view-less v.2));
        cancelled = λ j u n b at withdrawing owner. let v = seen j q u at in cancelled j u n b withdrawing owner v.0 v.1 v.2;
      }
    where
      cancelled : (j : ℕ) (u : HereView) (n : ℕ) (b : Pid) → u.inward ≡ kernel_inward.Withdrawing n → u.holder ≡ holder.Owner b
          → (v : HereView) → entry_at w j q ≡ entry.Here v → IsNoticedView e q v u → (g b.0).phase ≡ phase.Cancelling q
      cancelled j u n b withdrawing owner v was like = by (view-held like apart)
        where
          apart : end_eq e q ≡ false
          apart = (view-asked like n (subst (IsAskedAs n) (sym withdrawing) refl)).0

          old : v.inward ≡ kernel_inward.Withdrawing n
          old = sym (view-inward like apart) ∙ withdrawing

          by : (u.holder ≡ v.holder) ⊎ IsIdle v → (g b.0).phase ≡ phase.Cancelling q
          by (inl same) = is.cancelled b q apart (are.cancelled j v n b was old (sym same ∙ owner))
          by (inr idle) = absurd (let both : kernel_inward.Idle ≡ kernel_inward.Withdrawing n = sym idle.inward ∙ old in cc)

  withdrawing-now : (j : ℕ) (q : EndId) → end_eq e q ≡ false → IsHereAnd (entry_at w j q) (λ v. is_withdrawing v.inward ≡ true) → IsHereAnd (entry_at now j q) (λ v. is_withdrawing v.inward ≡ true)
  withdrawing-now j q apart = still j q (λ v. is_withdrawing v.inward ≡ true) (λ v. is_withdrawing v.inward ≡ true) (λ v u like has. ap is_withdrawing (view-inward like apart) ∙ has)

  served-now : (q : EndId) → IsServed w s.ends q → IsServed now t q
  served-now q are j u n at l there asked unposted lives has =
      let v = seen j q u there in
      let old = view-asked v.2 n asked in
      let m = had (opposite q) at l has in
      subst (λ z. n ≤ z) (sym (ap (λ (z : MovingPicture). z.served) m.2))
      (are j v.0 n at m.0 v.1 old.1 (sym (end-posted (is.ends q) old.0) ∙ unposted) (lived (opposite q) lives) m.1)

  wanted-now : (q : EndId) → AreWanted w s.ends q → AreWanted now t q
  wanted-now q are =
      record {
        kept = λ at m opens has. let o = open-was q opens in are.kept at m o.2 (had-other q o.0 at m has);
        same = λ at m n j h o i f opens has one two. let z = open-was q opens in are.same at m n j h o i f z.2 (had-other q z.0 at m has) (asking-was q m n j h one) (asking-was q m o i f two);
        posted = λ at m n j h opens has one. let o = open-was q opens in end-posted (is.ends (opposite q)) o.1 ∙ are.posted at m n j h o.2 (had-other q o.0 at m has) (asking-was q m n j h one);
        site = λ at m n j h opens has one lives.
            let o = open-was q opens in
            still j (opposite q) (λ v. (v.value.hops ≡ h) × (v.value.asked ≡ n)) (λ v. (v.value.hops ≡ h) × (v.value.asked ≡ n))
            (λ v u like both. subst (λ (z : MovingPicture). (z.hops ≡ h) × (z.asked ≡ n)) (sym (view-value like o.1)) both)
            (are.site at m n j h o.2 (had-other q o.0 at m has) (asking-was q m n j h one) (lived (opposite q) lives));
        unwanted = λ at m n opens has low one.
            let o = open-was q opens in
            let k = are.unwanted at m n o.2 (had-other q o.0 at m has) low ((under _).0 one) in
            (k.0, withdrawing-now k.0 (opposite q) o.1 k.1);
      }

  unwanted-now : (q : EndId) → IsUnwantedOnce w s.ends q → IsUnwantedOnce now t q
  unwanted-now q are noticed = subst (λ n. n ≤ 1) (sym (sums (λ z. one_if (is_unwanted_to q z)))) (are (sym (end-noticed (is.ends q) apart) ∙ noticed))
    where
      by : (b : Bool) → end_eq e q ≡ b → b ≡ false
      by true same = absurd (true≢false (sym is.noticed ∙ subst (λ z. (t z).noticed ≡ false) (sym (end_eq-same e q same)) noticed))
      by false same = refl

      apart : end_eq e q ≡ false
      apart = by (end_eq e q) refl

  once-now : (f : EndId) → AreSentOnce w s.ends f → AreSentOnce now t f
  once-now f are =
      record {
        message = sums (λ q. one_if (is_message_of f q)) ∙ are.message ∙ sym (ap (λ z. one_if (is_some z)) (end-message (is.ends f)));
        taken = subst (λ n. n ≤ one_if (is_taken (t f).outward)) (sym told) (subst (λ n. how_many (is_taken_of f) w ≤ n) (sym same) are.taken);
        told = λ lives. told ∙ are.told (lived f lives) ∙ sym same;
      }
    where
      told : how_many (is_taken_of f) now ≡ how_many (is_taken_of f) w
      told = sums (λ q. one_if (is_taken_of f q))

      same : one_if (is_taken (t f).outward) ≡ one_if (is_taken (s.ends f).outward)
      same = ap one_if (end-is_taken (is.ends f))

  site-now : (j : ℕ) (q : EndId) (h : ℕ) → (is_living (s.ends q).place ≡ true → IsHereAnd (entry_at w j q) (λ v. v.value.hops ≡ h)) → is_living (t q).place ≡ true → IsHereAnd (entry_at now j q) (λ v. v.value.hops ≡ h)
  site-now j q h site lives = still j q (λ v. v.value.hops ≡ h) (λ v. v.value.hops ≡ h) (λ v u like same. ap (λ (z : MovingPicture). z.hops) (view-less like) ∙ same) (site (lived q lives))

  there-now : (j : ℕ) (q : EndId) → (is_living (s.ends q).place ≡ true → IsHereAnd (entry_at w j q) (λ v. Unit {0})) → is_living (t q).place ≡ true → IsHereAnd (entry_at now j q) (λ v. Unit {0})
  there-now j q site lives = still j q (λ v. Unit {0}) (λ v. Unit {0}) (λ v u like has. tt) (site (lived q lives))

  packet-now : (from to : ℕ) (q : PictureWhat) → IsPacketRight w s.ends from to q → IsPacketRight now t from to q
  packet-now from to (packet.Parcel f n wanted at hops bytes ms) right =
      record {
        matched = end-matched (is.ends (opposite f)) (record { bytes = bytes; carried = ends_in ms }) right.matched;
        number = end-sent (is.ends (opposite f)) ∙ right.number;
        sender = right.sender;
        site = site-now from (opposite f) hops right.site;
        meets = λ opens.
            let o = open-was f opens in
            still to f (λ v. IsAskedAs wanted v.inward) (λ v. IsAskedAs wanted v.inward) (λ v u like asked. subst (IsAskedAs wanted) (sym (view-inward like o.0)) asked) (right.meets o.2);
      }
  packet-now from to (packet.Back f n ms) right =
      record {
        matched = record { message = right.matched.message; matched = end-matched (is.ends f) right.matched.message right.matched.matched; carries = right.matched.carries; number = end-sent (is.ends f) ∙ right.matched.number };
        untaken = end-closed (is.ends (opposite f)) right.untaken;
        site = there-now to f right.site;
      }
  packet-now from to (packet.Taken f n at hops) right =
      record { taken = end-taken (is.ends f) right.taken; number = end-sent (is.ends f) ∙ right.number; taker = right.taker; site = there-now to f right.site }
  packet-now from to (packet.Gone f at) right = end-destroyed (is.ends (opposite f)) right
  packet-now from to (packet.Unwanted f n at hops) right = λ noticed. by (end_eq e f) refl noticed
    where
      by : (b : Bool) → end_eq e f ≡ b → (t f).noticed ≡ false → IsHereAnd (entry_at now to f) (λ v. v.inward ≡ kernel_inward.Withdrawing n)
      by true same noticed = absurd (true≢false (sym is.noticed ∙ subst (λ z. (t z).noticed ≡ false) (sym (end_eq-same e f same)) noticed))
      by false apart noticed =
          still to f (λ v. v.inward ≡ kernel_inward.Withdrawing n) (λ v. v.inward ≡ kernel_inward.Withdrawing n) (λ v u like withdrawing. view-inward like apart ∙ withdrawing)
          (right (sym (end-noticed (is.ends f) apart) ∙ noticed))
  packet-now from to _ right = tt

  pub noticing-right : (i : ℕ) → AreRight i w s → AreRight i now after
  noticing-right i are =
      record {
        named = named-now are.named;
        few = few-now i are.few;
        marked = λ q. marked-now q (are.marked q);
        counted = λ q. counted-now q (are.counted q);
        honest = λ q at l j h has heard. let m = had q at l has in subst (λ z. IsNoMore at z j h) (sym (ap (λ (z : MovingPicture). z.hops) m.2)) (are.honest q at m.0 j h m.1 (heard-was q j h heard));
        asked = λ q. asked-now q (are.asked q);
        cancelling = λ b f cancels. let o = is.cancelling b f cancels in withdrawing-now (home_of s b) f o.0 (are.cancelling b f o.1);
        served = λ q. served-now q (are.served q);
        wanted = λ q. wanted-now q (are.wanted q);
        unwanted = λ q. unwanted-now q (are.unwanted q);
        once = λ f. once-now f (are.once f);
        packets = each-now (IsPacketRight w s.ends) (IsPacketRight now t) packet-now are.packets;
      }
