-- The message of a send that is matched leaves with its ends: what is true of every world stays true of its links.
use Rattle.std.proofs.Common.{◌≡◌, ◌⊎◌, inl, inr, ℕ, ◌+◌, ◌-◌, ◌^◌, ◌<◌, ◌≤◌, Bool, true, false, ◌&&◌, if◌then◌else◌, List, length, Contains, is_some, refl, sym, ap, subst, ◌∙◌, arith, true≢false, lt-ltb}
use Rattle.std.specs.List.{list_all}
use Rattle.charlotte_calls.specs.Names.{opposite}
use Rattle.charlotte_packets.specs.Packets.{names_kernels_below}
use Rattle.charlotte_calls.specs.declared.names.EndId.{EndId}
use Rattle.charlotte_packets.specs.declared.picture.MovingPicture.{MovingPicture}
use Rattle.charlotte_packets.specs.declared.picture.PictureWhat.{PictureWhat}
use Rattle.end_table.proofs.EndEq.{end_eq-refl, end_eq-same, end_eq-sym}
use Rattle.end_table.specs.Place.{end_eq}
use Rattle.end_table.specs.Table.{IsHereAnd}
use Rattle.end_table.specs.declared.entry.HereView.{HereView}
use Rattle.kernel_effects.specs.Actions.{left_of}
use Rattle.kernel_effects.specs.Effect.{stays, turns}
use Rattle.kernel_step.specs.Actions.{values_leaving}
use Rattle.kernel_step.specs.Rows.{ends_in}
use Rattle.service_lawful.specs.Consistent.{IsConsistent, is_open}
use Rattle.service_step.specs.Ends.{is_living, is_made, is_posted, is_taken, matched_message}
use Rattle.service_step.specs.State.{State}
use Rattle.service_step.specs.declared.state.End.{End}
use Rattle.service_step.specs.declared.state.Inward.TheVariants as inward
use Rattle.service_step.specs.declared.state.Message.{Message}
use Rattle.service_step.specs.declared.state.Outward.{Outward}
use Rattle.service_step.specs.declared.state.Outward.TheVariants as outward
use Rattle.service_step.specs.declared.state.Place.{Place}
use Rattle.theorem_call_send.proofs.Lists.{only-there}
use Rattle.theorem_call_send.proofs.NamedAfter.{named-after}
use Rattle.theorem_call_send.proofs.NamedParts.{left_of-names, leaving-named, named-values, puts-names, stays-names, turns-names}
use Rattle.theorem_call_send.proofs.Packets.{each-after}
use Rattle.theorem_call_send.proofs.Sums.{sum_over-after}
use Rattle.theorem_call_send.specs.Change.{Change, Changes}
use Rattle.theorem_meaning.proofs.Ends.{opposite-twice}
use Rattle.theorem_meaning.specs.Fields.{Stand, At, HasFields, IsAskedAs, IsAsking, IsNews, IsUnserved, IsUnwantOf}
use Rattle.theorem_meaning.specs.Invariant.{AreNamed, AreRight, AreSentOnce, AreWanted, IsPacketRight, IsParcelRight, IsServed, IsUnwantedOnce, NamesBelow, is_message_of, is_taken_of, is_unwanted_to}
use Rattle.theorem_meaning.specs.Packets.{Each, IsUnderWay, Links, how_many, one_if}
use Rattle.theorem_meaning.specs.StandsFor.{AreLinksOf, entry_at}
use Rattle.theorem_take_want.proofs.Places.{fields-here}
use Rattle.theorem_match.specs.Carrying.{IsCarrying}
use Rattle.theorem_match.specs.Sending.{IsSending, departing}
use Rattle.theorem_match.proofs.Carrying.{asked-carried, busy, cancelling-carried, counted-carried, few-carried, fields-was, honest-carried, marked-carried, noticed-same, place-same, right-carried, seen, served-carried, sent-same, still, wanted-carried}
use Rattle.theorem_match.proofs.Sending.{carries, inward-kept, not-mine, outward-kept, packet-or, packet-was, parcel, t, t-ends, t-other, t-own}
use Rattle.theorem_match.proofs.Values.{leaving-ends}

-- ends are told apart
apart-opposite : (a b : EndId) → end_eq a b ≡ false → end_eq (opposite a) (opposite b) ≡ false
apart-opposite a b apart = by (end_eq (opposite a) (opposite b)) refl
  where
    by : (x : Bool) → end_eq (opposite a) (opposite b) ≡ x → x ≡ false
    by true same =
        let is : a ≡ b = sym (opposite-twice a) ∙ ap opposite (end_eq-same (opposite a) (opposite b) same) ∙ opposite-twice b in
        absurd (true≢false (sym (end_eq-refl a) ∙ subst (λ z. end_eq a z ≡ false) (sym is) apart))
    by false is = refl

module _ (i : ℕ) (w : Links) (s : State) (right : AreRight i w s) (links : AreLinksOf w s) (kept : IsConsistent s) (few : length s.made ≤ 8) (c : Change) (v : HereView) (r n : ℕ) (bytes : List ℕ) (xs : List EndId) (to : ℕ) (is : IsSending w s c.kernel v r n bytes xs to)
    (u : Links) (b : Changes w (departing c (w.entry c.kernel) v r n bytes xs to) u) where
  abbrev k : ℕ
  k = c.kernel

  abbrev mine : EndId
  mine = v.value.end

  abbrev other : EndId
  other = opposite v.value.end

  abbrev ms : List MovingPicture
  ms = values_leaving k (w.entry k) xs

  abbrev its : PictureWhat
  its = parcel i w s right links kept few c v r n bytes xs to is

  abbrev ends : EndId → End
  ends = t i w s right links kept few c v r n bytes xs to is

  same-ends : (q : EndId) → ends q ≡ record (s.ends q) { outward = (ends q).outward; inward = (ends q).inward }
  same-ends = t-ends i w s right links kept few c v r n bytes xs to is

  own-end : ends mine ≡ record (s.ends mine) { outward = outward.Matched (record { bytes = bytes; carried = xs }) }
  own-end = t-own i w s right links kept few c v r n bytes xs to is

  other-end : ends other ≡ record (s.ends other) { inward = inward.Matched n }
  other-end = t-other i w s right links kept few c v r n bytes xs to is

  kept-outward : (q : EndId) → end_eq mine q ≡ false → (ends q).outward ≡ (s.ends q).outward
  kept-outward = outward-kept i w s right links kept few c v r n bytes xs to is

  kept-inward : (q : EndId) → end_eq other q ≡ false → (ends q).inward ≡ (s.ends q).inward
  kept-inward = inward-kept i w s right links kept few c v r n bytes xs to is

  carrying : IsCarrying w u s.ends k xs mine
  carrying = carries i w s right links kept few c v r n bytes xs to is u b

  was-under : (P : PictureWhat → Type 0) → (P its → ⊥) → IsUnderWay u P → IsUnderWay w P
  was-under = packet-was i w s right links kept few c v r n bytes xs to is u b

  low : k < 8
  low = omega (arith, is.kernel, few)

  below : to < 8
  below = omega (arith, is.goes, few)

  own-fields : (st : Stand) (m : MovingPicture) → HasFields w mine st m → (st ≡ At k) × (m ≡ v.value)
  own-fields st m has = fields-here (length s.made) w s.ends few right.named right.marked links.once mine k v st m is.here has

  -- ---- names

  names : AreNamed (length s.made) u ends
  names =
      named-after (length s.made) b is.kernel right.named ends
      (puts-names (length s.made) mine _ (turns xs (left_of to) stays) here-named (turns-names (length s.made) xs (left_of to) stays (λ y. left_of-names (length s.made) to y is.goes) (stays-names (length s.made))))
      ((is.goes, ap (λ b. b && list_all (names_kernels_below (length s.made)) ms) (lt-ltb k (length s.made) is.kernel) ∙ named-values (length s.made) ms (leaving-named (length s.made) k (w.entry k) xs is.kernel (right.named.entries k))), tt)
      (λ e made. subst (λ (z : Place). is_made z ≡ true) (sym (place-same s carrying ends same-ends e)) made)
      (subst (λ (z : Place). is_made z ≡ true) (sym (place-same s carrying ends same-ends other)) is.made, tt)
    where
      here-named : names_kernels_below (length s.made) v.value ≡ true
      here-named = subst (NamesBelow (length s.made)) is.here (right.named.entries k mine)

  -- ---- what was heard

  news : (e : EndId) (j h : ℕ) → IsUnderWay u (IsNews (opposite e) j h)
      → IsUnderWay w (IsNews (opposite e) j h) ⊎ ((Contains xs e → ⊥) × ((at : Stand) (m : MovingPicture) → HasFields w e at m → (at ≡ At j) × (m.hops ≡ h)))
  news e j h x = by (packet-or i w s right links kept few c v r n bytes xs to is u b (IsNews (opposite e) j h) x)
    where
      by : IsUnderWay w (IsNews (opposite e) j h) ⊎ IsNews (opposite e) j h its → IsUnderWay w (IsNews (opposite e) j h) ⊎ ((Contains xs e → ⊥) × ((at : Stand) (m : MovingPicture) → HasFields w e at m → (at ≡ At j) × (m.hops ≡ h)))
      by (inl old) = inl old
      by (inr told) =
          let end : mine ≡ e = sym (opposite-twice mine) ∙ ap opposite told.0 ∙ opposite-twice e in
          inr (
            λ among. not-mine i w s right links kept few c v r n bytes xs to is (subst (Contains xs) (sym end) among),
            λ at m has. let f = own-fields at m (subst (λ z. HasFields w z at m) (sym end) has) in (f.0 ∙ ap At told.1, ap (λ (z : MovingPicture). z.hops) f.1 ∙ told.2),
          )

  -- ---- receives

  served : (e : EndId) → IsServed u ends e
  served e = by (end_eq other e) refl
    where
      own : IsServed u ends other
      own j x q st m here asked posts living has =
          let y = seen s carrying ends same-ends j other x here in
          let o = fields-was s carrying ends same-ends (opposite other) st m has in
          let f = own-fields o.1 o.0 (subst (λ z. HasFields w z o.1 o.0) (opposite-twice mine) o.2) in
          let last : q ≡ r = is.last j q y.0 y.1 (subst (IsAskedAs q) (ap (λ (z : HereView). z.inward) y.2) asked) in
          let count : m.served ≡ v.value.served = ap (λ (z : MovingPicture). z.served) o.3 ∙ ap (λ (z : MovingPicture). z.served) f.1 in
          omega (arith, last, count, is.served)

      by : (x : Bool) → end_eq other e ≡ x → IsServed u ends e
      by true same = subst (IsServed u ends) (end_eq-same other e same) own
      by false far = served-carried s carrying ends same-ends e (λ unposted. ap is_posted (sym (kept-inward e far)) ∙ unposted) (right.served e)

  wanted : (e : EndId) → AreWanted u ends e
  wanted e = by (end_eq mine e) refl
    where
      asks : (e : EndId) (q j h : ℕ) → IsUnderWay u (IsAsking e q j h) → IsUnderWay w (IsAsking e q j h)
      asks e q j h = was-under (IsAsking e q j h) (λ no. no)

      unwants : (e : EndId) (q : ℕ) → IsUnderWay u (IsUnwantOf e q) → IsUnderWay w (IsUnwantOf e q)
      unwants e q = was-under (IsUnwantOf e q) (λ no. no)

      -- nothing is asked of the end
      none : (st : Stand) (m : MovingPicture) (q j h : ℕ) → HasFields u mine st m → IsUnserved u mine m q j h → ⊥
      none st m q j h has asked =
          let o = fields-was s carrying ends same-ends mine st m has in
          let f = own-fields o.1 o.0 o.2 in
          is.none q j h (was (λ (z : MovingPicture). z.want) (λ (z : MovingPicture). z.hint) (ap (λ (z : MovingPicture). z.want) o.3 ∙ ap (λ (z : MovingPicture). z.want) f.1)
          (ap (λ (z : MovingPicture). z.hint) o.3 ∙ ap (λ (z : MovingPicture). z.hint) f.1) (ap (λ (z : MovingPicture). z.served) o.3 ∙ ap (λ (z : MovingPicture). z.served) f.1) asked)
        where
          was : (MovingPicture → ℕ) → (MovingPicture → ℕ × ℕ) → m.want ≡ v.value.want → m.hint ≡ v.value.hint → m.served ≡ v.value.served → IsUnserved u mine m q j h → IsUnserved w mine v.value q j h
          was f g want hint count (inl one) = inl (sym want ∙ one.0, one.1, sym hint ∙ one.2)
          was f g want hint count (inr one) = inr (subst (λ z. z < q) count one.0, asks mine q j h one.1)

      own : AreWanted u ends mine
      own =
          record {
            kept = λ st m opens has. old.kept st m (still-open opens) has;
            same = λ st m q j h o g f opens has one two. absurd (none st m q j h has one);
            posted = λ st m q j h opens has one. absurd (none st m q j h has one);
            site = λ st m q j h opens has one living. absurd (none st m q j h has one);
            unwanted = λ st m q opens has more one. old.unwanted st m q (still-open opens) has more one;
          }
        where
          still-open : is_open (ends mine) ≡ true → is_open (s.ends mine) ≡ true
          still-open opens = sym (ap (λ (z : End). is_open z) own-end) ∙ opens

          old : AreWanted u (λ q. record (s.ends q) { outward = (ends q).outward }) mine
          old = wanted-carried s carrying (λ q. record (s.ends q) { outward = (ends q).outward }) (λ q. refl) mine (asks mine) (unwants mine) (λ posts. posts) (right.wanted mine)

      by : (x : Bool) → end_eq mine e ≡ x → AreWanted u ends e
      by true same = subst (AreWanted u ends) (end_eq-same mine e same) own
      by false apart =
          wanted-carried s carrying ends same-ends e (asks e) (unwants e) (λ posts. ap is_posted (kept-inward (opposite e) (apart-opposite mine e apart)) ∙ posts) (right.wanted e)

  -- ---- packets

  sum-more : (test : PictureWhat → Bool) → how_many test u + 0 ≡ how_many test w + (one_if (test its) + 0)
  sum-more test = sum_over-after (λ q. one_if (test q)) b (record { kernel = low; taken = tt; sent = (below, tt) })

  count-same : (test : PictureWhat → Bool) → test its ≡ false → how_many test u ≡ how_many test w
  count-same test none = let count = sum-more test in let zero : one_if (test its) ≡ 0 = ap one_if none in omega (arith, count, zero)

  unwanted : (e : EndId) → IsUnwantedOnce u ends e
  unwanted e noticed = subst (λ z. z ≤ 1) (sym (count-same (is_unwanted_to e) refl)) (right.unwanted e (sym (noticed-same s carrying ends same-ends e) ∙ noticed))

  once : (e : EndId) → AreSentOnce u ends e
  once e = by (end_eq mine e) refl
    where
      takens : (e : EndId) → how_many (is_taken_of e) u ≡ how_many (is_taken_of e) w
      takens e = count-same (is_taken_of e) refl

      untaken : one_if (is_taken (s.ends mine).outward) ≡ 0
      untaken = ap (λ (z : Outward). one_if (is_taken z)) is.message

      own-untaken : one_if (is_taken (ends mine).outward) ≡ 0
      own-untaken = ap (λ (z : End). one_if (is_taken z.outward)) own-end

      own : AreSentOnce u ends mine
      own =
          record {
            message =
                let count = sum-more (is_message_of mine) in
                let one : one_if (end_eq other other) ≡ 1 = ap one_if (end_eq-refl other) in
                let before : how_many (is_message_of mine) w ≡ 0 = (right.once mine).message ∙ ap (λ (z : Outward). one_if (is_some (matched_message z))) is.message in
                let now : one_if (is_some (matched_message (ends mine).outward)) ≡ 1 = ap (λ (z : End). one_if (is_some (matched_message z.outward))) own-end in
                omega (arith, count, one, before, now);
            taken = let old = (right.once mine).taken in let same = takens mine in omega (arith, old, same, untaken, own-untaken);
            told = λ living. let old = (right.once mine).taken in let same = takens mine in omega (arith, old, same, untaken, own-untaken);
          }

      by : (x : Bool) → end_eq mine e ≡ x → AreSentOnce u ends e
      by true same = subst (AreSentOnce u ends) (end_eq-same mine e same) own
      by false apart =
          record {
            message =
                count-same (is_message_of e) (end_eq-sym (opposite e) other ∙ apart-opposite mine e apart) ∙ (right.once e).message ∙ sym (ap (λ (z : Outward). one_if (is_some (matched_message z))) (kept-outward e apart));
            taken = subst (λ z. z ≤ one_if (is_taken (ends e).outward)) (sym (takens e)) (subst (λ (z : Outward). how_many (is_taken_of e) w ≤ one_if (is_taken z)) (sym (kept-outward e apart)) (right.once e).taken);
            told = λ living.
                takens e ∙ (right.once e).told (subst (λ (z : Place). is_living z ≡ true) (place-same s carrying ends same-ends e) living) ∙ sym (ap (λ (z : Outward). one_if (is_taken z)) (kept-outward e apart));
          }

  -- the parcel is right
  new-right : IsParcelRight u ends k to other n r k v.value.hops bytes (ends_in ms)
  new-right =
      record {
        matched = subst (λ (z : EndId). (ends z).outward ≡ outward.Matched (record { bytes = bytes; carried = ends_in ms })) (sym (opposite-twice mine))
            (ap (λ (z : End). z.outward) own-end ∙ ap (λ l. outward.Matched (record { bytes = bytes; carried = l })) (sym (leaving-ends mine (w.entry k) k is.own xs is.enclosed)));
        number = ap (λ z. (ends z).sent) (opposite-twice mine) ∙ sent-same s carrying ends same-ends mine ∙ is.number;
        sender = refl;
        site = λ living.
            subst (λ z. IsHereAnd (entry_at u k z) (λ x. x.value.hops ≡ v.value.hops)) (sym (opposite-twice mine))
            (still s carrying ends same-ends k mine (λ x. x.value.hops ≡ v.value.hops) (λ x o has. has) (not-mine i w s right links kept few c v r n bytes xs to is) (subst (λ z. IsHereAnd z (λ x. x.value.hops ≡ v.value.hops)) (sym is.here) refl));
        meets = λ opens.
            busy s carrying ends same-ends to other (λ x. IsAskedAs r x.inward) (λ x o has. has) (λ x idle asked. subst (IsAskedAs r) idle.inward asked) (is.meets (living opens));
      }
    where
      living : is_open (ends other) ≡ true → is_living (s.ends other).place ≡ true
      living opens = by (is_living (s.ends other).place) (ap (λ (z : End). is_open z) (sym other-end) ∙ opens)
        where
          by : (x : Bool) → (x && (if (s.ends other).noticed then false else true)) ≡ true → x ≡ true
          by true so = refl
          by false so = so

  all-right : Each u (λ from to q. IsPacketRight u ends from to q)
  all-right =
      each-after b (λ from to q. IsPacketRight w s.ends from to q) (λ from to q. IsPacketRight u ends from to q) right.packets
      (λ from to q has old. right-carried s carrying ends same-ends matched taken from to q.what old)
      (λ x what has. new x what (only-there (to, its) (x, what) has))
    where
      matched : (f : EndId) (m : Message) → (s.ends f).outward ≡ outward.Matched m → (ends f).outward ≡ outward.Matched m
      matched f m so = by (end_eq mine f) refl
        where
          by : (x : Bool) → end_eq mine f ≡ x → (ends f).outward ≡ outward.Matched m
          by true same =
              let waits : (s.ends f).outward ≡ outward.Waiting (record { bytes = bytes; carried = xs }) = subst (λ z. (s.ends z).outward ≡ outward.Waiting (record { bytes = bytes; carried = xs })) (end_eq-same mine f same) is.message in
              absurd (let no : outward.Waiting (record { bytes = bytes; carried = xs }) ≡ outward.Matched m = sym waits ∙ so in cc)
          by false apart = kept-outward f apart ∙ so

      taken : (f : EndId) → (s.ends f).outward ≡ outward.Taken → (ends f).outward ≡ outward.Taken
      taken f so = by (end_eq mine f) refl
        where
          by : (x : Bool) → end_eq mine f ≡ x → (ends f).outward ≡ outward.Taken
          by true same =
              let waits : (s.ends f).outward ≡ outward.Waiting (record { bytes = bytes; carried = xs }) = subst (λ z. (s.ends z).outward ≡ outward.Waiting (record { bytes = bytes; carried = xs })) (end_eq-same mine f same) is.message in
              absurd (let no : outward.Waiting (record { bytes = bytes; carried = xs }) ≡ outward.Taken = sym waits ∙ so in cc)
          by false apart = kept-outward f apart ∙ so

      new : (x : ℕ) (what : PictureWhat) → ◌≡◌ {A = ℕ × PictureWhat} (to, its) (x, what) → IsPacketRight u ends k x what
      new x what same = subst (λ (z : ℕ × PictureWhat). IsPacketRight u ends k z.0 z.1) same new-right

  -- all clauses on links
  pub right-sent : i < 2 ^ 32 - 1 → AreRight (i + 1) u (record s { ends = ends })
  right-sent room =
      record {
        named = names;
        few = few-carried s carrying ends same-ends i right.few;
        marked = λ e. marked-carried s carrying ends same-ends e (right.marked e);
        counted = λ e. counted-carried s carrying ends same-ends e (right.counted e);
        honest = honest-carried s carrying ends same-ends i room right.few news right.honest;
        asked = λ e. asked-carried s carrying ends same-ends e (right.asked e);
        cancelling = cancelling-carried s carrying ends same-ends right.cancelling;
        served = served;
        wanted = wanted;
        unwanted = unwanted;
        once = once;
        packets = all-right;
      }
