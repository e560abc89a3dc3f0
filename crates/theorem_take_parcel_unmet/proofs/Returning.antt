-- A parcel to an end that is not open goes back with its ends: all clauses on links stay, and the service goes by no step.
use Rattle.std.proofs.Common.{◌≡◌, ◌≢◌, ◌⊎◌, ◌↔◌, inl, inr, ℕ, ◌+◌, ◌-◌, ◌^◌, ◌<◌, ◌≤◌, Bool, true, false, nat_eq, nat_lt, ◌&&◌, if◌then◌else◌, List, [], ◌∷◌, length, map, Contains, Option, Some, refl, sym, ap, subst, ◌∙◌, arith, true≢false}
use Rattle.std.proofs.lemmas.Bool.{and_parts}
use Rattle.std.proofs.lemmas.Bool.Decides.{eqb_tells}
use Rattle.std.proofs.lemmas.List.Elements.{All-contains}
use Rattle.std.specs.List.{AllByRecursion, list_all, list_any}
use Rattle.charlotte_calls.specs.Names.{opposite}
use Rattle.charlotte_packets.specs.Packets.{is_addressed, names_kernels_below}
use Rattle.charlotte_calls.specs.declared.names.EndId.{EndId}
use Rattle.charlotte_calls.specs.declared.names.Pid.{Pid}
use Rattle.charlotte_packets.specs.declared.picture.MovingPicture.{MovingPicture}
use Rattle.charlotte_packets.specs.declared.picture.Picture.{Picture}
use Rattle.charlotte_packets.specs.declared.picture.PictureWhat.{PictureWhat}
use Rattle.charlotte_packets.specs.declared.picture.PictureWhat.TheVariants as packet
use Rattle.end_table.proofs.EndEq.{end_eq-refl, end_eq-same}
use Rattle.end_table.specs.Entries.{left_entry, left_value}
use Rattle.end_table.specs.Place.{end_eq}
use Rattle.end_table.specs.Table.{IfHere, IsHereAnd, IsIdle}
use Rattle.end_table.specs.declared.entry.Entry.{Entry}
use Rattle.end_table.specs.declared.entry.Entry.TheVariants as entry
use Rattle.end_table.specs.declared.entry.HereView.{HereView}
use Rattle.end_table.specs.declared.entry.Holder.TheVariants as holder
use Rattle.kernel_effects.proofs.Uses.{brings-each}
use Rattle.kernel_effects.specs.Effect.{brings, stays}
use Rattle.kernel_sound.specs.Sound.{addressee}
use Rattle.kernel_step.proofs.EnclosedEnds.{second_false}
use Rattle.kernel_step.specs.Rows.{ends_in, is_here}
use Rattle.service_lawful.specs.Consistent.{IsConsistent, is_open}
use Rattle.service_step.specs.Ends.{is_living, is_made, is_taken}
use Rattle.service_step.specs.Lawful.{message_of}
use Rattle.service_step.specs.State.{State}
use Rattle.service_step.specs.declared.state.Inward.TheVariants as inward
use Rattle.service_step.specs.declared.state.Place.TheVariants as place
use Rattle.theorem_effects.proofs.Aside.{ends_in-there, not_among}
use Rattle.theorem_effects.proofs.Ends.{inward-same, outward-same}
use Rattle.theorem_effects.proofs.Lists.{first, first_or_later, later, none-there, only-there}
use Rattle.theorem_effects.proofs.NamedAfter.{named-after}
use Rattle.theorem_effects.proofs.NamedParts.{brings-names, left-named, left_entry-names, named-values, stays-names, values-named}
use Rattle.theorem_effects.proofs.Packets.{each-after, left-was, under_way-after, under_way-before, under_way-left, under_way-sent}
use Rattle.theorem_effects.proofs.Sums.{standing-after, sum_over-after}
use Rattle.theorem_effects.proofs.Values.{left-each, value-found}
use Rattle.theorem_effects.specs.Change.{Change, Changes}
use Rattle.theorem_effects.specs.Under.{IsLeft, IsSent, IsTaken}
use Rattle.theorem_meaning.proofs.Ends.{opposite-twice}
use Rattle.theorem_meaning.specs.Fields.{Stand, At, Flying, HasFields, IsAsking, IsNews, IsUnwantOf, value_of}
use Rattle.theorem_meaning.specs.Invariant.{AreNamed, AreRight, AreSentOnce, IsBackRight, IsPacketRight, IsParcelRight, NamesBelow, is_message_of, is_taken_of, is_unwanted_to}
use Rattle.theorem_meaning.specs.Packets.{Each, IsBackOf, IsParcelFor, IsParcelOf, IsTakenOf, IsUnderWay, IsUnwantedOf, Links, how_many, one_if, values_for, values_of}
use Rattle.theorem_meaning.specs.StandsFor.{AreLinksOf, IsEndOf, IsInMessage, IsInwardOf, IsWaitingWith, entry_at, home_of, standing}
use Rattle.theorem_match.proofs.Alike.{some-same}
use Rattle.theorem_match.proofs.Places.{fields-here}
use Rattle.theorem_match.specs.Carrying.{HasLeft, IsAway, IsCarrying, IsTurned}
use Rattle.theorem_match.proofs.Carrying.{asked-carried, away-here, away-value, cancelling-carried, counted-carried, few-carried, honest-carried, marked-carried, owned-carried, right-carried, served-carried, still, wanted-carried}
use Rattle.theorem_match.proofs.Sending.{left-away}
use Rattle.theorem_match.proofs.Values.{any-there}
use Rattle.theorem_meaning.proofs.Plain.{unstarted-inward}
use Rattle.theorem_take_parcel_unmet.specs.Returning.{IsReturning, returning}

-- ---- values that go on

left-there : (k : ℕ) (ms : List MovingPicture) (m : MovingPicture) → Contains (map (left_value k) ms) m → (o : MovingPicture) × Contains ms o × (m ≡ left_value k o)
left-there k [] m has = absurd (none-there m has)
left-there k (x ∷ ms) m has = by (left-there k ms m) (first_or_later (left_value k x) (map (left_value k) ms) m has)
  where
    by : (Contains (map (left_value k) ms) m → (o : MovingPicture) × Contains ms o × (m ≡ left_value k o)) → (left_value k x ≡ m) ⊎ Contains (map (left_value k) ms) m → (o : MovingPicture) × Contains (x ∷ ms) o × (m ≡ left_value k o)
    by rest (inl is) = (x, first x ms, sym is)
    by rest (inr has) = let o = rest has in (o.0, later x ms o.0 o.1, o.2)

-- they are of the same ends
left-ends : (k : ℕ) (ms : List MovingPicture) → ends_in (map (left_value k) ms) ≡ ends_in ms
left-ends k [] = refl
left-ends k (m ∷ ms) = ap (λ l. m.end ∷ l) (left-ends k ms)

left-count : (k : ℕ) (e : EndId) (ms : List MovingPicture) → values_for e (map (left_value k) ms) ≡ values_for e ms
left-count k e [] = refl
left-count k e (m ∷ ms) = ap (λ x. one_if (end_eq e m.end) + x) (left-count k e ms)

away-each : (at : ℕ) (e : EndId) (ms : List MovingPicture) → AllByRecursion (λ m. m.end ≡ e → IsAway (left_entry at m)) ms
away-each at e [] = tt
away-each at e (m ∷ ms) = (λ same. left-away at m, away-each at e ms)

-- an end and the opposite of another
eq-opposite : (a b : EndId) → end_eq (opposite a) b ≡ end_eq a (opposite b)
eq-opposite a b = by (end_eq (opposite a) b) (end_eq a (opposite b)) refl refl
  where
    by : (x y : Bool) → end_eq (opposite a) b ≡ x → end_eq a (opposite b) ≡ y → x ≡ y
    by true true one two = refl
    by false false one two = refl
    by true false one two =
        let same : a ≡ opposite b = sym (opposite-twice a) ∙ ap opposite (end_eq-same (opposite a) b one) in
        sym (end_eq-refl a) ∙ ap (end_eq a) same ∙ two
    by false true one two =
        let same : opposite a ≡ b = ap opposite (end_eq-same a (opposite b) two) ∙ opposite-twice b in
        sym one ∙ ap (end_eq (opposite a)) (sym same) ∙ end_eq-refl (opposite a)

module _ (i : ℕ) (w : Links) (s : State) (right : AreRight i w s) (links : AreLinksOf w s) (kept : IsConsistent s) (few : length s.made ≤ 8) (c : Change) (from stamp : ℕ) (to : EndId) (n wanted at hops : ℕ) (bytes : List ℕ) (ms : List MovingPicture)
    (is : IsReturning w s c.kernel from (record { stamp = stamp; what = packet.Parcel to n wanted at hops bytes ms }) to) where
  abbrev k : ℕ
  k = c.kernel

  abbrev q : Picture
  q = record { stamp = stamp; what = packet.Parcel to n wanted at hops bytes ms }

  abbrev sender : EndId
  sender = opposite to

  abbrev xs : List EndId
  xs = ends_in ms

  abbrev back : PictureWhat
  back = packet.Back sender n (map (left_value k) ms)

  -- ---- the parcel before

  was-right : IsParcelRight w s.ends from k to n wanted at hops bytes xs
  was-right = All-contains (λ z. IsPacketRight w s.ends from k z.what) (w.packets from k) q (right.packets from k) is.there

  flying : (e : EndId) → Contains xs e → (m : MovingPicture) × HasFields w e Flying m
  flying e among = let m = value-found e ms among in (m.0, (record { from = from; to = k; packet = q; there = is.there; is = m.1 }, m.2))

  pub not-here : (j : ℕ) (e : EndId) (P : HereView → Type 0) → Contains xs e → IsHereAnd (entry_at w j e) P → ⊥
  not-here j e P among = by (entry_at w j e) refl
    where
      by : (x : Entry) → entry_at w j e ≡ x → IsHereAnd x P → ⊥
      by (entry.Here v) there has =
          let f = flying e among in
          let no : Flying ≡ At j = (fields-here (length s.made) w s.ends few right.named right.marked links.once e j v Flying f.0 there f.1).0 in
          cc
      by entry.Nothing there has = has
      by (entry.Left to hops) there has = has
      by (entry.Destroyed m) there has = has

  -- its ends are in the message
  pub carried : (e : EndId) → Contains xs e → (s.ends e).place ≡ place.InMessage sender n
  carried e among =
      kept.kept.held.carried sender e n (record { message = record { bytes = bytes; carried = xs }; there = ap message_of was-right.matched; number = was-right.number; carries = among })

  pub goes-far : at < length s.made
  goes-far = subst (λ z. z < length s.made) (sym was-right.sender) is.sender

  -- ---- afterwards

  module _ (u : Links) (b : Changes w (returning c from q to n at ms) u) where
    abbrev did : Change
    did = returning c from q to n at ms

    entries : (j : ℕ) (e : EndId) → (entry_at u j e ≡ entry_at w j e) ⊎ (Contains xs e × IsAway (entry_at u j e))
    entries j e = by (eqb_tells j k)
      where
        own : (x : Bool) → list_any (end_eq e) xs ≡ x → (entry_at u k e ≡ entry_at w k e) ⊎ (Contains xs e × IsAway (entry_at u k e))
        own true some =
            let among = any-there e xs some in
            inr (among, subst IsAway (sym (b.entry e)) (brings-each IsAway ms (left_entry at) stays e (w.entry k e) (away-each at e ms) (λ none. absurd (true≢false (sym some ∙ none)))))
        own false none =
            inl (brings-each (λ z. entry_at u k e ≡ z → entry_at u k e ≡ entry_at w k e) ms (left_entry at) stays e (w.entry k e) (others ms none) (λ apart same. same) (b.entry e))
          where
            others : (ls : List MovingPicture) → list_any (end_eq e) (ends_in ls) ≡ false → AllByRecursion (λ m. m.end ≡ e → entry_at u k e ≡ left_entry at m → entry_at u k e ≡ entry_at w k e) ls
            others [] none = tt
            others (m ∷ ls) none = (
              λ same. absurd (not_among e (m.end ∷ ends_in ls) none (subst (Contains (m.end ∷ ends_in ls)) same (first m.end (ends_in ls)))),
              others ls (second_false (end_eq e m.end) (list_any (end_eq e) (ends_in ls)) none),
            )

        by : ((nat_eq j k ≡ true) × (j ≡ k)) ⊎ ((nat_eq j k ≡ false) × (j ≢ k)) → (entry_at u j e ≡ entry_at w j e) ⊎ (Contains xs e × IsAway (entry_at u j e))
        by (inl same) = subst (λ z. (entry_at u z e ≡ entry_at w z e) ⊎ (Contains xs e × IsAway (entry_at u z e))) (sym same.1) (own (list_any (end_eq e) xs) refl)
        by (inr far) = inl (b.others j e far.0)

    -- a packet that is under way was so, or is the back
    packet-or : (P : PictureWhat → Type 0) → IsUnderWay u P → IsUnderWay w P ⊎ P back
    packet-or P x = by (under_way-after b P x)
      where
        by : IsLeft b P ⊎ IsSent did P → IsUnderWay w P ⊎ P back
        by (inl left) = inl (left-was b P left)
        by (inr sent) = inr (subst (λ (z : ℕ × PictureWhat). P z.1) (sym (only-there (at, back) (sent.to, sent.what) sent.there)) sent.is)

    packet-was : (P : PictureWhat → Type 0) → (P back → ⊥) → IsUnderWay u P → IsUnderWay w P
    packet-was P none x = by (packet-or P x)
      where
        by : IsUnderWay w P ⊎ P back → IsUnderWay w P
        by (inl was) = was
        by (inr now) = absurd (none now)

    -- one that was under way is so, or was the parcel
    still-or : (P : PictureWhat → Type 0) → IsUnderWay w P → IsUnderWay u P ⊎ P q.what
    still-or P x = by (under_way-before b P x)
      where
        by : IsLeft b P ⊎ IsTaken did P → IsUnderWay u P ⊎ P q.what
        by (inl left) = inl (under_way-left b P left)
        by (inr taken) = inr (subst (λ (z : Picture). P z.what) (packet-is taken.from taken.packet taken.taken) taken.is)
          where
            packet-is : (x : ℕ) (y : Picture) → ◌≡◌ {A = Option (ℕ × Picture)} (Some (from, q)) (Some (x, y)) → y ≡ q
            packet-is x y same = sym (ap (λ (z : ℕ × Picture). z.1) (some-same (from, q) (x, y) same))

    packet-still : (P : PictureWhat → Type 0) → (P q.what → ⊥) → IsUnderWay w P → IsUnderWay u P
    packet-still P none x = by (still-or P x)
      where
        by : IsUnderWay u P ⊎ P q.what → IsUnderWay u P
        by (inl still) = still
        by (inr was) = absurd (none was)

    packet-same : (P : PictureWhat → Type 0) → (P back → ⊥) → (P q.what → ⊥) → IsUnderWay u P ↔ IsUnderWay w P
    packet-same P none gone = (packet-was P none, packet-still P gone)

    sent-back : (P : PictureWhat → Type 0) → P back → IsUnderWay u P
    sent-back P holds = under_way-sent b P (record { to = at; what = back; there = first (at, back) []; is = holds })

    carrying : IsCarrying w u s.ends k xs sender
    carrying =
        record {
          unowned = λ e p among owned. let no : place.Owned p ≡ place.InMessage sender n = sym owned ∙ carried e among in cc;
          idle = λ e among. kept.kept.resting e sender n (carried e among);
          resting = λ j e among. resting j e among (entry_at w j e) refl;
          entry = λ j e. entry-or (entries j e);
          fields = fields;
        }
      where
        resting : (j : ℕ) (e : EndId) → Contains xs e → (x : Entry) → entry_at w j e ≡ x → IfHere x IsIdle
        resting j e among (entry.Here v) there = absurd (not-here j e (λ v. Unit {0}) among (subst (λ z. IsHereAnd z (λ v. Unit {0})) (sym there) tt))
        resting j e among entry.Nothing there = tt
        resting j e among (entry.Left to hops) there = tt
        resting j e among (entry.Destroyed m) there = tt

        entry-or : {j : ℕ} {e : EndId} → (entry_at u j e ≡ entry_at w j e) ⊎ (Contains xs e × IsAway (entry_at u j e)) → (entry_at u j e ≡ entry_at w j e) ⊎ (Contains xs e × IsAway (entry_at u j e)) ⊎ ((e ≡ sender) × IsTurned (entry_at w j e) (entry_at u j e))
        entry-or (inl same) = inl same
        entry-or (inr away) = inr (inl away)

        fields : (e : EndId) (st : Stand) (m : MovingPicture) → HasFields u e st m → HasFields w e st m ⊎ (Contains xs e × (st ≡ Flying) × HasLeft w k e m)
        fields e (At j) m has = here (entries j e)
          where
            here : (entry_at u j e ≡ entry_at w j e) ⊎ (Contains xs e × IsAway (entry_at u j e)) → HasFields w e (At j) m ⊎ (Contains xs e × (At j ≡ Flying) × HasLeft w k e m)
            here (inl same) = inl (ap value_of (sym same) ∙ has)
            here (inr away) = absurd (away-value (entry_at u j e) m away.1 has)
        fields e Flying m has = by (packet-or (λ z. Contains (values_of z) m) has.0)
          where
            by : IsUnderWay w (λ z. Contains (values_of z) m) ⊎ Contains (map (left_value k) ms) m → HasFields w e Flying m ⊎ (Contains xs e × (Flying ≡ Flying) × HasLeft w k e m)
            by (inl was) = inl (was, has.1)
            by (inr now) =
                let o = left-there k ms m now in
                let end : o.0.end ≡ e = sym (ap (λ (z : MovingPicture). z.end) o.2) ∙ has.1 in
                inr (subst (Contains xs) end (ends_in-there ms o.0 o.1), refl, record { stand = Flying; value = o.0; had = (record { from = from; to = k; packet = q; there = is.there; is = o.1 }, end); left = o.2 })

    -- ---- names

    names : AreNamed (length s.made) u s.ends
    names =
        named-after (length s.made) b is.kernel right.named s.ends
        (brings-names (length s.made) ms (left_entry at) stays (each ms) (stays-names (length s.made)))
        ((goes-far, named-values (length s.made) (map (left_value k) ms) (left-each (λ m. names_kernels_below (length s.made) m ≡ true) k (λ m is_named. left-named (length s.made) k m is.kernel is_named) ms (values-named (length s.made) ms named-before))), tt)
        (λ e made. made)
        (kept.kept.made sender ∙ sym (kept.kept.made to) ∙ made-to, tt)
      where
        each : (ls : List MovingPicture) → AllByRecursion (λ m. NamesBelow (length s.made) (left_entry at m)) ls
        each [] = tt
        each (m ∷ ls) = (left_entry-names (length s.made) at m goes-far, each ls)

        named-before : list_all (names_kernels_below (length s.made)) ms ≡ true
        named-before = (and_parts (nat_lt at (length s.made)) (list_all (names_kernels_below (length s.made)) ms) (All-contains (λ z. is_addressed z.what (length s.made) ≡ true) (w.packets from k) q (right.named.addressed from k) is.there)).1

        made-to : is_made (s.ends to).place ≡ true
        made-to = All-contains (λ z. is_made (s.ends (addressee z.what)).place ≡ true) (w.packets from k) q (right.named.addressees from k) is.there

    -- ---- packets that are counted

    below : at < 8
    below = let far = goes-far in omega (arith, far, few)

    count : (test : PictureWhat → Bool) → how_many test u + one_if (test q.what) ≡ how_many test w + (one_if (test back) + 0)
    count test = sum_over-after (λ z. one_if (test z)) b (record { kernel = omega (arith, is.kernel, few); taken = omega (arith, is.sender, few); sent = (below, tt) })

    count-same : (test : PictureWhat → Bool) → test q.what ≡ test back → how_many test u ≡ how_many test w
    count-same test same = let all = count test in let one : one_if (test q.what) ≡ one_if (test back) = ap one_if same in omega (arith, all, one)

    once : (e : EndId) → AreSentOnce u s.ends e
    once e =
        record {
          message = count-same (is_message_of e) (eq-opposite e to) ∙ (right.once e).message;
          taken = subst (λ z. z ≤ one_if (is_taken (s.ends e).outward)) (sym (count-same (is_taken_of e) refl)) (right.once e).taken;
          told = λ living. count-same (is_taken_of e) refl ∙ (right.once e).told living;
        }

    back-right : IsBackRight u s.ends at sender n (ends_in (map (left_value k) ms))
    back-right =
        record {
          matched = record { message = record { bytes = bytes; carried = xs }; matched = was-right.matched; carries = sym (left-ends k ms); number = was-right.number };
          untaken = subst (λ z. is_open (s.ends z) ≡ false) (sym (opposite-twice to)) is.closed;
          site = λ living.
              subst (λ z. IsHereAnd (entry_at u z sender) (λ v. Unit {0})) (sym was-right.sender)
              (still s carrying s.ends (λ e. refl) from sender (λ v. Unit {0}) (λ v o has. has) (λ among. not-here from sender (λ v. v.value.hops ≡ hops) among (was-right.site living)) (here-so (entry_at w from sender) (was-right.site living)));
        }
      where
        here-so : (x : Entry) → IsHereAnd x (λ v. v.value.hops ≡ hops) → IsHereAnd x (λ v. Unit {0})
        here-so (entry.Here v) has = tt
        here-so _ has = absurd has

    all-right : Each u (λ a z p. IsPacketRight u s.ends a z p)
    all-right =
        each-after b (λ a z p. IsPacketRight w s.ends a z p) (λ a z p. IsPacketRight u s.ends a z p) right.packets (λ a z p has old. right-carried s carrying s.ends (λ e. refl) (λ f m so. so) (λ f so. so) a z p.what old)
        (λ z what has. subst (λ (y : ℕ × PictureWhat). IsPacketRight u s.ends k y.0 y.1) (only-there (at, back) (z, what) has) back-right)

    -- all clauses on links
    pub right-returned : i < 2 ^ 32 - 1 → AreRight (i + 1) u s
    right-returned room =
        record {
          named = names;
          few = few-carried s carrying s.ends (λ e. refl) i right.few;
          marked = λ e. marked-carried s carrying s.ends (λ e. refl) e (right.marked e);
          counted = λ e. counted-carried s carrying s.ends (λ e. refl) e (right.counted e);
          honest = honest-carried s carrying s.ends (λ e. refl) i room right.few (λ e j h x. inl (packet-was (IsNews (opposite e) j h) (λ no. no) x)) right.honest;
          asked = λ e. asked-carried s carrying s.ends (λ e. refl) e (right.asked e);
          cancelling = cancelling-carried s carrying s.ends (λ e. refl) right.cancelling;
          served = λ e. served-carried s carrying s.ends (λ e. refl) e (λ unposted. unposted) (right.served e);
          wanted = λ e.
              wanted-carried s carrying s.ends (λ e. refl) e (λ m j h x. packet-was (IsAsking e m j h) (λ no. no) x) (λ m x. packet-was (IsUnwantOf e m) (λ no. no) x) (λ posts. posts) (right.wanted e);
          unwanted = λ e noticed. subst (λ z. z ≤ 1) (sym (count-same (is_unwanted_to e) refl)) (right.unwanted e noticed);
          once = once;
          packets = all-right;
        }

    -- ---- where ends are

    stands : (e : EndId) → standing u e ≡ standing w e
    stands e =
        let all = standing-after b (record { kernel = omega (arith, is.kernel, few); taken = omega (arith, is.sender, few); sent = (below, tt) }) e in
        let same : one_if (is_here (brings ms (left_entry at) stays e (w.entry k e))) ≡ one_if (is_here (w.entry k e)) = ap (λ z. one_if (is_here z)) (sym (b.entry e)) ∙ here-same (entries k e) in
        let values : values_for e (map (left_value k) ms) ≡ values_for e ms = left-count k e ms in
        omega (arith, all, same, values)
      where
        not-so : (x : Entry) → (IsHereAnd x (λ v. Unit {0}) → ⊥) → is_here x ≡ false
        not-so (entry.Here v) none = absurd (none tt)
        not-so entry.Nothing none = refl
        not-so (entry.Left to hops) none = refl
        not-so (entry.Destroyed m) none = refl

        here-same : (entry_at u k e ≡ entry_at w k e) ⊎ (Contains xs e × IsAway (entry_at u k e)) → one_if (is_here (u.entry k e)) ≡ one_if (is_here (w.entry k e))
        here-same (inl same) = ap (λ z. one_if (is_here z)) same
        here-same (inr away) =
            ap one_if (not-so (entry_at u k e) (away-here (entry_at u k e) (λ v. Unit {0}) away.1))
            ∙ sym (ap one_if (not-so (entry_at w k e) (not-here k e (λ v. Unit {0}) away.0)))

    -- what is true of a view stays, and was
    here-still : (j : ℕ) (e : EndId) (P : HereView → Type 0) → IsHereAnd (entry_at w j e) P → IsHereAnd (entry_at u j e) P
    here-still j e P has = by (entries j e)
      where
        by : (entry_at u j e ≡ entry_at w j e) ⊎ (Contains xs e × IsAway (entry_at u j e)) → IsHereAnd (entry_at u j e) P
        by (inl same) = subst (λ x. IsHereAnd x P) (sym same) has
        by (inr away) = absurd (not-here j e P away.0 has)

    here-was : (j : ℕ) (e : EndId) (P : HereView → Type 0) → IsHereAnd (entry_at u j e) P → IsHereAnd (entry_at w j e) P
    here-was j e P has = by (entries j e)
      where
        by : (entry_at u j e ≡ entry_at w j e) ⊎ (Contains xs e × IsAway (entry_at u j e)) → IsHereAnd (entry_at w j e) P
        by (inl same) = subst (λ x. IsHereAnd x P) same has
        by (inr away) = absurd (away-here (entry_at u j e) P away.1 has)

    -- a parcel or a back with the message m of f brings an end
    abbrev Parcel : EndId → EndId → ℕ → PictureWhat → Type 0
    Parcel e f m z = IsParcelOf f m z × Contains (ends_in (values_of z)) e

    abbrev Back : EndId → EndId → ℕ → PictureWhat → Type 0
    Back e f m z = IsBackOf f m z × Contains (ends_in (values_of z)) e

    in_message : (e f : EndId) (m : ℕ) → IsInMessage w e f m ↔ IsInMessage u e f m
    in_message e f m = (now, was)
      where
        now-parcel : IsUnderWay u (Parcel e f m) ⊎ Parcel e f m q.what → IsInMessage u e f m
        now-parcel (inl x) = inr (inl x)
        now-parcel (inr x) = inr (inr (sent-back (Back e f m) ((ap opposite x.0.0 ∙ opposite-twice f, x.0.1), subst (λ l. Contains l e) (sym (left-ends k ms)) x.1)))

        now : IsInMessage w e f m → IsInMessage u e f m
        now (inl x) = inl (record { at = x.at; enclosed = here-still x.at e (λ v. v.holder ≡ holder.EnclosedIn f) x.enclosed; waiting = here-still x.at f (λ v. IsWaitingWith m v.outward) x.waiting })
        now (inr (inl x)) = now-parcel (still-or (Parcel e f m) x)
        now (inr (inr x)) = inr (inr (packet-still (Back e f m) (λ no. no.0) x))

        was-back : IsUnderWay w (Back e f m) ⊎ Back e f m back → IsInMessage w e f m
        was-back (inl x) = inr (inr x)
        was-back (inr x) =
            inr (inl (record { from = from; to = k; packet = q; there = is.there; is = ((sym (opposite-twice to) ∙ ap opposite x.0.0, x.0.1), subst (λ l. Contains l e) (left-ends k ms) x.1) }))

        was : IsInMessage u e f m → IsInMessage w e f m
        was (inl x) = inl (record { at = x.at; enclosed = here-was x.at e (λ v. v.holder ≡ holder.EnclosedIn f) x.enclosed; waiting = here-was x.at f (λ v. IsWaitingWith m v.outward) x.waiting })
        was (inr (inl x)) = inr (inl (packet-was (Parcel e f m) (λ no. no.0) x))
        was (inr (inr x)) = was-back (packet-or (Back e f m) x)

    -- ---- sends and receives

    agrees : (e : EndId) (p : Pid) (x : HereView) → (s.ends e).place ≡ place.Owned p → entry_at u (home_of s p) e ≡ entry.Here x → IsEndOf u e x (s.ends e)
    agrees e p x owned now =
        let there : entry_at w (home_of s p) e ≡ entry.Here x = same-entry (entries (home_of s p) e) in
        let old = links.agree e p x owned there in
        record {
          sent = old.sent;
          noticed = old.noticed;
          outward = outward-same w u e (λ m. packet-same (IsTakenOf e m) (λ no. no) (λ no. no)) (s.ends e).sent x.outward (s.ends e).outward old.outward;
          inward = inn (end_eq to e) refl old.inward;
        }
      where
        same-entry : (entry_at u (home_of s p) e ≡ entry_at w (home_of s p) e) ⊎ (Contains xs e × IsAway (entry_at u (home_of s p) e)) → entry_at w (home_of s p) e ≡ entry.Here x
        same-entry (inl same) = sym same ∙ now
        same-entry (inr away) = absurd (subst IsAway now away.1)

        -- an owned end that is not open knows of the death of its link, so that no receive of it is started
        noticed : (z : Bool) → (s.ends e).noticed ≡ z → is_open (s.ends e) ≡ false → z ≡ true
        noticed true so closed = refl
        noticed false so closed =
            absurd (true≢false (sym (ap (λ y. is_living y && (if (s.ends e).noticed then false else true)) owned ∙ ap (λ z. if z then false else true) so) ∙ closed))

        inn : (z : Bool) → end_eq to e ≡ z → IsInwardOf w e x.inward (s.ends e).inward → IsInwardOf u e x.inward (s.ends e).inward
        inn true same old =
            let closed : is_open (s.ends e) ≡ false = subst (λ z. is_open (s.ends z) ≡ false) (end_eq-same to e same) is.closed in
            unstarted-inward w u e x.inward (s.ends e).inward (kept.noticed.inward e (noticed (s.ends e).noticed refl closed) (ap is_living owned)) old
        inn false apart old =
            inward-same w u e (λ v m. packet-same (IsParcelFor e v m) (λ no. no) (λ for. not-for for.0)) (λ v. packet-same (IsUnwantedOf e v) (λ no. no) (λ no. no)) x.inward (s.ends e).inward old
          where
            not-for : to ≡ e → ⊥
            not-for same = true≢false (sym (end_eq-refl to) ∙ subst (λ z. end_eq to z ≡ false) (sym same) apart)

    pub links-returned : AreLinksOf u s
    links-returned =
        record {
          once = λ e. stands e ∙ links.once e;
          owned = λ e p. owned-carried s carrying s.ends (λ e. refl) e p (links.owned e p);
          in_message = λ e f m. (λ placed. (in_message e f m).0 ((links.in_message e f m).0 placed), λ has. (links.in_message e f m).1 ((in_message e f m).1 has));
          agree = agrees;
        }
